-- The names of the crates below, and of types of this one, that its specifications cite, passed on from one place. Declares nothing.
pub use Rattle.std.specs.Borrow.{Bor}
pub use Rattle.std.specs.Global.{Global}
pub use Rattle.std.specs.Io.KnownBytes.{Appends}
pub use Rattle.std.specs.List.{enumerate_from, list_any}
pub use Rattle.hex.specs.Hex.{encode_lower}
pub use Rattle.json.specs.Json.{Json, null, boolean, number, string, array, object, Items, no_items, item, Members, no_members, member}
pub use Rattle.json.specs.Print.{print}
pub use Rattle.json.specs.Token.{Token}
pub use Rattle.json.specs.Tree.{json_tokens}
pub use Rattle.prefix6.specs.Prefix.{Prefix6, same_prefix}
pub use Rattle.prefix6.specs.Written.{written_addr, written_prefix}
pub use Rattle.fib.specs.declared.change.Hop.{Hop}
pub use Rattle.fib.specs.declared.change.Hop.TheVariants.{Direct, Via}
pub use Rattle.fib.specs.declared.change.RouteChange.{RouteChange}
pub use Rattle.fib.specs.declared.change.RouteChange.TheVariants.{Install, Withdraw}
pub use Rattle.route_table.specs.Due.{first_changed, next_due}
pub use Rattle.route_table.specs.Route.{RouteValue, deadline}
pub use Rattle.route_table.specs.Table.{Table, ByPrefix}
pub use Rattle.route_table.specs.declared.route.Origin.{Origin}
pub use Rattle.router_core.specs.Adoption.{reason_name, adopted, metric_through, reason}
pub use Rattle.router_core.specs.Ageing.{aged_table}
pub use Rattle.router_core.specs.Faults.{fault_name, fault_number}
pub use Rattle.router_core.specs.Machine.{State, is_regular_due, is_triggered_due}
pub use Rattle.router_core.specs.Offering.{Brings, Offered}
pub use Rattle.router_core.specs.Offers.{note_name, note_number}
pub use Rattle.router_core.specs.Received.{Received}
pub use Rattle.router_core.specs.declared.answer.Answer.{Answer}
pub use Rattle.router_core.specs.declared.answer.Destination.{Destination}
pub use Rattle.router_core.specs.declared.answer.Destination.TheVariants.{Group, Peer}
pub use Rattle.router_core.specs.declared.answer.Note.{Note}
pub use Rattle.router_core.specs.declared.arrival.Fault.{Fault}
pub use Rattle.router_core.specs.declared.config.Interface.{Interface}
pub use Rattle.router_core.specs.declared.reconfiguring.Change.{Change}
pub use Rattle.router_core.specs.declared.reconfiguring.Change.TheVariants.{Cost, Own, Disown}
pub use Rattle.ripng_world.specs.Events.{event_of}
pub use Rattle.ripng_world.specs.Labs.{LabValue, link_at}
pub use Rattle.ripng_world.specs.Lying.{Lies}
pub use Rattle.ripng_world.specs.Rounds.{moment_of, router_of}
pub use Rattle.ripng_world.specs.Watching.{Told, telling}
pub use Rattle.ripng_world.specs.World.{Event, Deliver, Stranger, Tick, Restart, Shutdown, LinkDown, LinkUp, Reconfigure, World, Happens, arrival_from}
pub use Rattle.ripng_world.specs.declared.event.Sent.{Sent}
pub use Rattle.ripng_lab.specs.Asides.{Aside, NextLine, CountsPhases, ShowsCounts, Lie, Broken}
pub use Rattle.ripng_lab.specs.declared.counting.Counts.{Counts as Numbers}
pub use Rattle.ripng_lab.specs.Plans.{addr_at}
pub use Rattle.ripng_lab.specs.ScriptWatching.{StartsAt}
pub use Rattle.ripng_trace.specs.declared.known.Known.{Known}
pub use Rattle.ripng_trace.specs.declared.known.KnownRouter.{KnownRouter}
pub use Rattle.ripng_trace.specs.declared.records.Action.{Action}
pub use Rattle.ripng_trace.specs.declared.records.Action.TheVariants.{Prints, Asks, Loses, GoesRound, Makes, Runs, Tallies, Ends}
pub use Rattle.ripng_trace.specs.declared.records.AsideRecord.{AsideRecord}
pub use Rattle.ripng_trace.specs.declared.records.EventRecord.{EventRecord}
pub use Rattle.ripng_trace.specs.declared.records.Happened.{Happened}
pub use Rattle.ripng_trace.specs.declared.records.OfferRecord.{OfferRecord}
pub use Rattle.ripng_trace.specs.declared.records.RouterRecord.{RouterRecord}
pub use Rattle.ripng_trace.specs.declared.records.StartRecord.{StartRecord}
pub use Rattle.ripng_trace.specs.declared.records.Timers.{Timers}
pub use Rattle.ripng_trace.specs.declared.records.UpdateRecord.{UpdateRecord}
pub use Rattle.ripng_trace.specs.declared.records.UpdateRecord.TheVariants.{Regular, Triggered, Held}
pub use Rattle.ripng_trace.specs.declared.to_json.Form.{Form}
pub use Rattle.ripng_trace.specs.declared.to_json.JsonText.{JsonText}
pub use Rattle.ripng_trace.specs.declared.tracer.Tracer.{Tracer}
