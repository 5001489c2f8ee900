-- The names of the crates below, and of types of this one, that its specifications cite, passed on from one place. Declares nothing.
pub use Rattle.std.specs.List.{list_any, range_with_len, AllByRecursion}
pub use Rattle.std.specs.Option.{option_map_or}
pub use Rattle.std.specs.declared.io.Error.{Error}
pub use Rattle.fib.specs.declared.change.RouteChange.{RouteChange}
pub use Rattle.fib.specs.declared.change.RouteChange.TheVariants.{Install, Withdraw}
pub use Rattle.prefix6.specs.Prefix.{Prefix6}
pub use Rattle.route_table.specs.Route.{RouteValue, is_own}
pub use Rattle.route_table.specs.Table.{Table}
pub use Rattle.router_core.specs.Adoption.{is_reachable}
pub use Rattle.router_core.specs.Config.{has_prefix}
pub use Rattle.router_core.specs.Machine.{State}
pub use Rattle.router_core.specs.Received.{Received}
pub use Rattle.router_core.specs.declared.answer.Answer.{Answer}
pub use Rattle.router_core.specs.declared.answer.Destination.{Destination}
pub use Rattle.router_core.specs.declared.answer.Destination.TheVariants.{Group, Peer}
pub use Rattle.ripng_world.specs.AskedRounds.{is_other}
pub use Rattle.ripng_world.specs.Events.{event_of}
pub use Rattle.ripng_world.specs.Labs.{LabValue, link_at}
pub use Rattle.ripng_world.specs.Linked.{interfaces_on}
pub use Rattle.ripng_world.specs.Lying.{Lies}
pub use Rattle.ripng_world.specs.Network.{Network}
pub use Rattle.ripng_world.specs.Rounds.{router_of}
pub use Rattle.ripng_world.specs.Watching.{Told, telling}
pub use Rattle.ripng_world.specs.World.{World, Event, Tick, Stranger, Happens, IsCold, Deliver, LinkUp}
pub use Rattle.ripng_world.specs.declared.event.LabError.TheVariants.{NoSuchRouter}
pub use Rattle.ripng_world.specs.declared.path.PathEnd.{PathEnd}
pub use Rattle.ripng_world.specs.declared.path.PathEnd.TheVariants.{Delivered, Loops}
pub use Rattle.ripng_world.specs.declared.event.Sent.{Sent}
pub use Rattle.ripng_world.specs.declared.watch.Stopped.{Stopped}
pub use Rattle.ripng_world.specs.declared.watch.Stopped.TheVariants.{Refused as IsRefused, Failed as HasFailed}
pub use Rattle.ripng_phases.specs.Making.{AreMadeInPart, AreMadePhases}
pub use Rattle.ripng_phases.specs.declared.refused.PhaseRefused.{PhaseRefused}
pub use Rattle.ripng_phases.specs.declared.refused.PhaseRefused.TheVariants.{OutOfMemory}
pub use Rattle.ripng_lab.specs.declared.counted.Counting.{Counting}
pub use Rattle.ripng_lab.specs.declared.counting.Cause.{Cause}
pub use Rattle.ripng_lab.specs.declared.counting.Cause.TheVariants.{Regular, Triggered}
pub use Rattle.ripng_lab.specs.declared.counting.Counter.{Counter}
pub use Rattle.ripng_lab.specs.declared.counting.Counts.{Counts as Numbers}
pub use Rattle.ripng_lab.specs.declared.counting.TableChange.{TableChange}
pub use Rattle.ripng_lab.specs.declared.counting.Timing.{Timing}
pub use Rattle.ripng_lab.specs.declared.course.Course.{Course}
pub use Rattle.ripng_lab.specs.declared.course.Site.{Site}
pub use Rattle.ripng_lab.specs.declared.course.Site.TheVariants.{Lawful, Lied}
pub use Rattle.ripng_lab.specs.declared.expecting.Expected.{Expected}
pub use Rattle.ripng_lab.specs.declared.expecting.Fate.{Fate}
pub use Rattle.ripng_lab.specs.declared.expecting.Fate.TheVariants.{Arrives as FateArrives, Loops as FateLoops, Lost}
pub use Rattle.ripng_lab.specs.declared.expecting.Obstacle.{Obstacle}
pub use Rattle.ripng_lab.specs.declared.healing.Neighbor.{Neighbor}
pub use Rattle.ripng_lab.specs.declared.plan.Outages.{Outages}
pub use Rattle.ripng_lab.specs.declared.plan.Ticking.{Ticking}
pub use Rattle.ripng_lab.specs.declared.plan.Ticking.TheVariants.{Nobody, One, All, Due}
pub use Rattle.ripng_lab.specs.declared.plan.Wave.{Wave}
pub use Rattle.ripng_lab.specs.declared.printer.Notice.{Notice}
pub use Rattle.ripng_lab.specs.declared.stop.Refusal.TheVariants.{Event as RefusedEvent, LiedTo, Outage, Phases}
pub use Rattle.ripng_lab.specs.declared.stop.Stop.{Stop}
pub use Rattle.ripng_lab.specs.declared.stop.Stop.TheVariants.{Refused, Failed, Unmet}
pub use Rattle.ripng_lab.specs.declared.stop.Unmet.TheVariants.{Metric, Settled}
