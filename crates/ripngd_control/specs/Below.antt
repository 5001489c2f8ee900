-- The names of std, of the crates below and of this crate's own types, passed on from one place. Declares nothing.
pub use Rattle.std.specs.Io.KnownBytes.{Appends, Consumes}
pub use Rattle.std.specs.List.{list_any, enumerate_from, count_by, position_or_len}
pub use Rattle.fib.specs.Entries.{Entry, IsLookedUp, IsPast, listed}
pub use Rattle.fib.specs.Forwarding.{Forwarding}
pub use Rattle.fib.specs.declared.change.Hop.{Hop}
pub use Rattle.json.specs.Json.{Json, null, boolean, number, string, array, object, Items, no_items, item, Members, no_members, member}
pub use Rattle.json.specs.Print.{IsPrintable, print}
pub use Rattle.json.specs.Reads.{token_of}
pub use Rattle.json.specs.Token.{Token, key}
pub use Rattle.json.specs.Tree.{json_tokens, members_tokens}
pub use Rattle.prefix6.specs.Prefix.{Prefix6}
pub use Rattle.prefix6.specs.Written.{written_addr, written_prefix}
pub use Rattle.ripng_wire.specs.Wire.{is_response}
pub use Rattle.ripng_wire.specs.declared.error.WireError.TheVariants.{Short, TooLong, Ragged, BadCommand, BadVersion, NotZero}
pub use Rattle.ripngd_engine.specs.Changing.{LinkComesUpOnce, LinkGoesDownOnce, ReconfiguresNothing, ReconfiguresOnce, ShutsDownOnce, why_refused}
pub use Rattle.ripngd_engine.specs.Link.{queue_at}
pub use Rattle.ripngd_engine.specs.Log.{entry_lines, HasNoLineFeed, route_text}
pub use Rattle.ripngd_engine.specs.Observer.{LinkReport, Processed, Begins, Sent, WasTold}
pub use Rattle.ripngd_engine.specs.Run.{Machine, Trace, counted}
pub use Rattle.ripngd_engine.specs.Seen.{Acts, Seen, seen}
pub use Rattle.ripngd_engine.specs.declared.link.Queue.{Queue}
pub use Rattle.ripngd_engine.specs.declared.observer.Arrived.{Arrived}
pub use Rattle.ripngd_engine.specs.declared.observer.Update.{Update}
pub use Rattle.ripngd_engine.specs.declared.observer.Update.TheVariants.{Regular, Triggered}
pub use Rattle.ripngd_engine.specs.declared.report.ChangeFault.{ChangeFault}
pub use Rattle.ripngd_engine.specs.declared.report.ChangeFault.TheVariants.{Refused, Ended}
pub use Rattle.route_table.specs.Route.{RouteValue}
pub use Rattle.route_table.specs.Table.{Table, first_past}
pub use Rattle.route_table.specs.declared.route.Clock.{Clock}
pub use Rattle.route_table.specs.declared.route.Clock.TheVariants.{Fixed, Live, Dying}
pub use Rattle.route_table.specs.declared.route.Origin.{Origin}
pub use Rattle.route_table.specs.declared.route.Origin.TheVariants.{Learned}
pub use Rattle.router_core.specs.Faults.{fault_name, fault_number, fault_text}
pub use Rattle.router_core.specs.Machine.{State}
pub use Rattle.router_core.specs.Offers.{note_name, note_number, note_text}
pub use Rattle.router_core.specs.Reconfiguring.{NamesInterface, reconfigure_text}
pub use Rattle.router_core.specs.declared.answer.Note.{Note}
pub use Rattle.router_core.specs.declared.answer.NoteKind.TheVariants.{BadLength, BadPrefix, BadMetric, TableFull, NoMemory, NotAccepted, LimitReached}
pub use Rattle.router_core.specs.declared.answer.Outgoing.{Outgoing}
pub use Rattle.router_core.specs.declared.arrival.Fault.{Fault}
pub use Rattle.router_core.specs.declared.arrival.Fault.TheVariants.{Wire, NotRipngPort, NotLinkLocal, OwnAddress, HopLimit, EmptyRequest, BadSource}
pub use Rattle.router_core.specs.declared.config.Interface.{Interface}
pub use Rattle.router_core.specs.declared.reconfiguring.Change.{Change}
pub use Rattle.router_core.specs.declared.reconfiguring.Change.TheVariants.{Cost, Own, Disown}
pub use Rattle.ripngd_control.specs.declared.answering.Rest.{Rest}
pub use Rattle.ripngd_control.specs.declared.answering.RunState.{RunState}
pub use Rattle.ripngd_control.specs.declared.command.Command.{Command}
pub use Rattle.ripngd_control.specs.declared.command.PeerChange.{PeerChange}
pub use Rattle.ripngd_control.specs.declared.command.PeerChange.TheVariants.{Add, Remove}
pub use Rattle.ripngd_control.specs.declared.counts.Counts.{Counts}
pub use Rattle.ripngd_control.specs.declared.counts.Losses.{Losses}
pub use Rattle.ripngd_control.specs.declared.json_text.JsonText.{JsonText}
pub use Rattle.ripngd_control.specs.declared.links.Links.{Links}
pub use Rattle.ripngd_control.specs.declared.links.LinkTally.{LinkTally}
pub use Rattle.ripngd_control.specs.declared.monitor.Monitor.{Monitor}
pub use Rattle.ripngd_control.specs.declared.neighbors.Neighbor.{Neighbor}
pub use Rattle.ripngd_control.specs.declared.neighbors.Neighbors.{Neighbors}
pub use Rattle.ripngd_control.specs.declared.neighbors.Tally.{Tally}
pub use Rattle.ripngd_control.specs.declared.refusals.Refusal.{Refusal}
pub use Rattle.ripngd_control.specs.declared.refusals.Refusal.TheVariants.{Arrival}
pub use Rattle.ripngd_control.specs.declared.refusals.Refusals.{Refusals}
pub use Rattle.ripngd_control.specs.declared.reply.Reply.{Reply}
