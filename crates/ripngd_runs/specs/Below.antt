-- The names of std and of the crates below, passed on from one place. Declares nothing.
pub use Rattle.std.specs.Io.KnownBytes.{Appends}
pub use Rattle.std.specs.List.{AllByRecursion}
pub use Rattle.fib.specs.Forwarding.{Forward, Forwarding}
pub use Rattle.prefix6.specs.Prefix.{Prefix6}
pub use Rattle.rand_pcg.specs.Lcg.{Lcg}
pub use Rattle.ripng_world.specs.Convergence.{IsNeverQuiet}
pub use Rattle.ripng_world.specs.Healing.{FitsTablesSince, IsHealed, network_now}
pub use Rattle.ripng_world.specs.Network.{Network, Node, AreZoned, config_of, IsNetwork, OwnsPrefixes}
pub use Rattle.ripng_world.specs.Packets.{PacketsArriveBy}
pub use Rattle.ripng_world.specs.Past.{Past, IsBackedSince, OwnsSince}
pub use Rattle.ripng_world.specs.Walks.{IsBacked}
pub use Rattle.ripng_world.specs.World.{sent_by}
pub use Rattle.ripng_world.specs.declared.event.Sent.{Sent}
pub use Rattle.ripngd_command_line.specs.declared.asked.Order.{Order}
pub use Rattle.ripngd_config.specs.Configuration.{IsConfigured}
pub use Rattle.ripngd_config.specs.declared.configuration.Config.{Config as Configuration}
pub use Rattle.ripngd_control.specs.Commands.{control_text}
pub use Rattle.ripngd_control.specs.declared.command.Command.{Command}
pub use Rattle.ripngd_daemon.specs.Run.{HasFailed, HasRun, IsRan, IsUnderWay, ShowsRun, lines_of, outside_before}
pub use Rattle.ripngd_daemon.specs.Tabled.{table_text}
pub use Rattle.ripngd_daemon.specs.declared.failure.Failure.{Failure}
pub use Rattle.ripngd_daemon.specs.declared.history.History.{History}
pub use Rattle.ripngd_engine.specs.Link.{Call}
pub use Rattle.ripngd_engine.specs.Run.{Machine, all_joined}
pub use Rattle.ripngd_engine.specs.Seen.{Seen, Shows}
pub use Rattle.ripngd_theorems.specs.Ages.{GoOnAnyhow, IsAwake, past_since}
pub use Rattle.ripngd_theorems.specs.Daemons.{Act, Start, Listen, Tick, Reconfigure, Shutdown, LinkDown, LinkUp, Ask, Refuse, Deed, Does, Happened, Lives, in_force, own_deeds, reconfiguration_of, reconfigurations_by, traces_of}
pub use Rattle.ripngd_theorems.specs.Delivering.{AllGoOn, forwardings_by}
pub use Rattle.ripngd_theorems.specs.Links.{HaveRun, IsGiven, handed_in, past_of_daemons}
pub use Rattle.ripngd_theorems.specs.OnTime.{AreOnTime, Dated, ForwardsLeast, GoOn, undated}
pub use Rattle.route_table.specs.Route.{RouteValue, infinity}
pub use Rattle.router_core.specs.Changes.{forward}
pub use Rattle.router_core.specs.Config.{Config}
pub use Rattle.router_core.specs.Reconfiguring.{NamesInterface}
pub use Rattle.router_core.specs.declared.reconfiguring.Change.{Change}
