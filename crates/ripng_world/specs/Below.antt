-- Names of std, of the crates below and of the types of this crate, passed on from one place. Declares nothing.
pub use Rattle.std.specs.List.{enumerate_from, list_any, range_with_len, AllByRecursion, IsDistinct}
pub use Rattle.std.specs.Option.{option_map_or}
pub use Rattle.std.specs.Result.{result_err}
pub use Rattle.prefix6.specs.Addr.{is_link_local}
pub use Rattle.prefix6.specs.Prefix.{Prefix6, IsPrefix, is_routable, Holds, cleared}
pub use Rattle.ripng_wire.specs.Layout.{Spells}
pub use Rattle.ripng_wire.specs.Wire.{first_reason, is_response}
pub use Rattle.ripng_wire.specs.declared.rte.Command.TheVariants.{Response}
pub use Rattle.ripng_wire.specs.declared.rte.Rte.{Rte}
pub use Rattle.route_table.specs.Coding.{coded_table}
pub use Rattle.route_table.specs.Route.{RouteValue, infinity}
pub use Rattle.route_table.specs.Table.{Table, table_limit}
pub use Rattle.route_table.specs.declared.route.Origin.{Origin}
pub use Rattle.route_table.specs.declared.route.Origin.TheVariants.{Learned}
pub use Rattle.fib.specs.Forwarding.{Forward, Forwarding, IsLongestMatch, IsMatch}
pub use Rattle.fib.specs.declared.change.Hop.{Hop as FibHop}
pub use Rattle.fib.specs.declared.change.Hop.TheVariants.{Direct, Via}
pub use Rattle.router_core.specs.Adoption.{Gateway}
pub use Rattle.router_core.specs.Ageing.{aged_table}
pub use Rattle.router_core.specs.Announcing.{is_announced, is_passive}
pub use Rattle.router_core.specs.Changes.{forwards, forward}
pub use Rattle.router_core.specs.Config.{Config, config_with, announcing, config_reasons, reasons_of_each, IsConfig}
pub use Rattle.router_core.specs.Faults.{fault, ripng_port}
pub use Rattle.router_core.specs.Filters.{is_accepted, limit_at}
pub use Rattle.router_core.specs.Hearing.{Hearing, Heard}
pub use Rattle.router_core.specs.Machine.{State, Happening, Arrives, Ticks, Restarts, ShutsDown, LinkGoesDown, LinkComesUp, Reconfigures, Moves, Starts}
pub use Rattle.router_core.specs.Received.{Received}
pub use Rattle.router_core.specs.Reconfiguring.{without_prefix, reconfigure_reasons, IsNamed, reconfigured_table, NamesInterface, reconfigure_fault}
pub use Rattle.router_core.specs.Timers.{garbage_time, timeout}
pub use Rattle.router_core.specs.declared.answer.Answer.{Answer}
pub use Rattle.router_core.specs.declared.answer.Destination.{Destination}
pub use Rattle.router_core.specs.declared.answer.Destination.TheVariants.{Group, Peer}
pub use Rattle.router_core.specs.declared.answer.NoteKind.TheVariants.{NoMemory}
pub use Rattle.router_core.specs.declared.answer.Outgoing.{Outgoing}
pub use Rattle.router_core.specs.declared.filter.Filter.{Filter}
pub use Rattle.router_core.specs.declared.filter.Limit.{Limit}
pub use Rattle.router_core.specs.declared.reconfiguring.Change.{Change}
pub use Rattle.router_core.specs.declared.reconfiguring.Change.TheVariants.{Cost, Own, Disown}
pub use Rattle.router_core.specs.declared.reconfiguring.ReconfigureRefused.{ReconfigureRefused}
pub use Rattle.ripng_world.specs.declared.event.LabError.{LabError}
pub use Rattle.ripng_world.specs.declared.event.LabError.TheVariants.{NoSuchRouter, NoSuchInterface, NoSuchDatagram, OtherLink, NotAStranger, OutOfMemory, NotALiar}
pub use Rattle.ripng_world.specs.declared.links.Links.{Links}
pub use Rattle.ripng_world.specs.declared.network.NetInterface.{NetInterface}
pub use Rattle.ripng_world.specs.declared.network.NetRefused.{NetRefused}
pub use Rattle.ripng_world.specs.declared.network.NetRefused.TheVariants.{TooManyRouters, ZoneNamed, AddressSharedInNetwork, BadRouter}
pub use Rattle.ripng_world.specs.declared.lab.delivering.Pair.{Pair}
pub use Rattle.ripng_world.specs.declared.path.PathEnd.{PathEnd}
pub use Rattle.ripng_world.specs.declared.path.PathEnd.TheVariants.{Delivered, NoRoute, NextHopIsNobodys, Loops}
pub use Rattle.ripng_world.specs.declared.lab.making.RoundsRefused.{RoundsRefused}
pub use Rattle.ripng_world.specs.declared.lab.making.RoundsRefused.TheVariants.{NoRegularUpdate}
pub use Rattle.ripng_world.specs.declared.event.Sent.{Sent}
pub use Rattle.ripng_world.specs.declared.watch.Stopped.{Stopped}
pub use Rattle.ripng_world.specs.declared.watch.Stopped.TheVariants.{Refused, Failed}
