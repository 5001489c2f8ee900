-- The names of std and of the crates below, passed on from one place. Declares nothing.
pub use Rattle.std.specs.List.{AllByRecursion}
pub use Rattle.fib.specs.Forwarding.{Forward, Forwarding}
pub use Rattle.fib.specs.declared.change.Hop.TheVariants.{Via}
pub use Rattle.prefix6.specs.Prefix.{Prefix6, IsPrefix, is_routable}
pub use Rattle.rand_core.specs.Stream.{Stream}
pub use Rattle.ripng_wire.specs.Wire.{is_response}
pub use Rattle.ripng_world.specs.Convergence.{IsNeverQuiet}
pub use Rattle.ripng_world.specs.Healing.{FitsTablesSince, IsHealed, network_now}
pub use Rattle.ripng_world.specs.Network.{Network, Node, AreLinked, AreZoned, config_of, IsNetwork, OwnsPrefixes}
pub use Rattle.ripng_world.specs.Packets.{Forwardings, PacketsArriveBy}
pub use Rattle.ripng_world.specs.Past.{Past, IsBackedSince, IsLeastSince, OwnsSince}
pub use Rattle.ripng_world.specs.TruthSince.{IsSoundDatagramSince}
pub use Rattle.ripng_world.specs.Walks.{IsLeast, IsBacked}
pub use Rattle.ripng_world.specs.World.{World, Event, Deliver, is_heard, IsCold, WorldRun, address_at, is_to_group, sent_by, Shutdown, Happens}
pub use Rattle.ripng_world.specs.declared.event.Sent.{Sent}
pub use Rattle.ripngd_engine.specs.Changing.{ReconfiguresOnce, ShutsDownOnce, LinkGoesDownOnce, LinkComesUpOnce, ReconfiguresNothing, ReconfigureAnswer, StepAnswer}
pub use Rattle.ripngd_engine.specs.Link.{Call, RecvFailed, Datagram, Gave, Handed}
pub use Rattle.ripngd_engine.specs.Observer.{Processed}
pub use Rattle.ripngd_engine.specs.Run.{Machine, Trace, ComesUp, TakesIn, TicksOnce, followed_by, one_call, arrival, all_joined}
pub use Rattle.ripngd_engine.specs.Seen.{Seen, Outside, Shows, Started, TurnsAnswer}
pub use Rattle.ripngd_engine.specs.declared.observer.Arrived.{Arrived}
pub use Rattle.ripngd_engine.specs.declared.report.ChangeFault.{ChangeFault}
pub use Rattle.ripngd_engine.specs.declared.report.EngineFault.{EngineFault}
pub use Rattle.route_table.specs.Route.{RouteValue, IsRoute, infinity}
pub use Rattle.route_table.specs.Table.{Table}
pub use Rattle.route_table.specs.declared.route.Origin.TheVariants.{Learned}
pub use Rattle.router_core.specs.Changes.{forwards, forward}
pub use Rattle.router_core.specs.Announcing.{is_announced, is_passive}
pub use Rattle.router_core.specs.Config.{Config, mtu_at}
pub use Rattle.router_core.specs.Faults.{fault}
pub use Rattle.router_core.specs.Machine.{State, Happening, Arrives, Moves, ShutsDown, LinkGoesDown}
pub use Rattle.router_core.specs.Output.{is_learned_on}
pub use Rattle.router_core.specs.declared.answer.Answer.{Answer}
pub use Rattle.router_core.specs.declared.answer.Note.{Note}
pub use Rattle.router_core.specs.declared.answer.NoteKind.TheVariants.{NoMemory}
pub use Rattle.router_core.specs.declared.answer.Outgoing.{Outgoing}
pub use Rattle.router_core.specs.declared.arrival.Fault.{Fault}
pub use Rattle.router_core.specs.declared.reconfiguring.Change.{Change}
