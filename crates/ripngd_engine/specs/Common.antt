-- The names that the clauses of this crate cite, passed on from one place. Declares nothing.
pub use Rattle.std.specs.Borrow.{ftrue}
pub use Rattle.std.specs.Coded.{Coded-set, →_prop, codes}
pub use Rattle.std.specs.Io.KnownBytes.{Appends}
pub use Rattle.rand_core.specs.Stream.{next_u32}
pub use Rattle.route_table.specs.Coding.{coded_table}
pub use Rattle.router_core.specs.Changes.{forwards}
pub use Rattle.router_core.specs.Machine.{is_regular_due}
pub use Rattle.router_core.specs.Reconfiguring.{NamesInterface}
pub use Rattle.ripngd_engine.specs.Changing.{ShutsDownOnce, LinkComesUpOnce, LinkGoesDownOnce, ReconfigureAnswer, StepAnswer}
pub use Rattle.ripngd_engine.specs.Link.{Call, Handed, no_queue, queue_at, recv_call}
pub use Rattle.ripngd_engine.specs.Log.{HasNoLineFeed, hop_text, route_text, change_text, entry_lines, log_of}
pub use Rattle.ripngd_engine.specs.Observer.{LinkReport, Processed, Begins, Sent, WasTold}
pub use Rattle.ripngd_engine.specs.Outlet.{HandsOver, outlet_seen, CarriesOut}
pub use Rattle.ripngd_engine.specs.Past.{Past}
pub use Rattle.ripngd_engine.specs.Peers.{has_clash, is_real, sender_of}
pub use Rattle.ripngd_engine.specs.Run.{begun, counted, TicksOnce}
pub use Rattle.ripngd_engine.specs.Seen.{Seen, Ran, Held, seen, untouched, Started, TurnsAnswer, TurnsObserved}
pub use Rattle.ripngd_engine.specs.Telling.{Gains}
pub use Rattle.ripngd_engine.specs.declared.runner.TurnFault.TheVariants.{NoLink, NoMemory}
