-- The names of std, of the crates below and of this crate's own types, passed on from one place. Declares nothing.
pub use Rattle.std.specs.List.{list_any, AllPairs}
pub use Rattle.std.specs.Str.{IsUtf8, bytes_eq}
pub use Rattle.prefix6.specs.Prefix.{Prefix6}
pub use Rattle.prefix6.specs.Text.{Reads, ReadsPrefix}
pub use Rattle.rand_core.specs.Pcg32Seed.{pcg32_seed}
pub use Rattle.rand_pcg.specs.Pcg.{pcg32_of_seed}
pub use Rattle.ripngd_engine.specs.Peers.{has_clash, is_real}
pub use Rattle.ripngd_engine.specs.declared.peer.Peer.{Peer}
pub use Rattle.ripngd_engine.specs.declared.peer.Place.{Place}
pub use Rattle.ripngd_engine.specs.declared.peer.Socket.{Socket}
pub use Rattle.ripngd_engine.specs.declared.peer.Socket.TheVariants.{Inherited, Local}
pub use Rattle.router_core.specs.Config.{Config, IsConfig, announcing, config_with, config_fault}
pub use Rattle.router_core.specs.declared.config.Interface.{Interface}
pub use Rattle.router_core.specs.declared.filter.Action.{Action}
pub use Rattle.router_core.specs.declared.filter.Action.TheVariants.{Accept, Reject}
pub use Rattle.router_core.specs.declared.filter.Filter.{Filter}
pub use Rattle.router_core.specs.declared.filter.Limit.{Limit}
pub use Rattle.toml.specs.Data.{Members, Data, Items, as_array, as_bool, as_integer, as_str, as_table, get_member, item, member, no_items, no_members, boolean, integer}
pub use Rattle.toml.specs.Parse.{parse_document}
pub use Rattle.toml.specs.View.{table_view, view}
pub use Rattle.ripngd_config.specs.declared.fault.ConfigFault.{ConfigFault}
pub use Rattle.ripngd_config.specs.declared.fault.ConfigFault.TheVariants.{BadToml, OutOfMemory, Router, MissingKey, WrongType, BadValue, UnknownKey, PortTwice, PeerTwice}
pub use Rattle.ripngd_config.specs.declared.tables.Document.{Document}
pub use Rattle.ripngd_config.specs.declared.tables.InterfaceTable.{InterfaceTable}
pub use Rattle.ripngd_config.specs.declared.tables.PrefixTable.{PrefixTable}
