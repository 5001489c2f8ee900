-- The names that the clauses of this crate cite, passed on from one place. Declares nothing.
pub use Rattle.json.specs.Json.{Members as JsonMembers}
pub use Rattle.json.specs.Print.{IsPrintable}
pub use Rattle.json.specs.Reads.{token_of}
pub use Rattle.json.specs.Token.{key}
pub use Rattle.json.specs.Tree.{members_tokens}
pub use Rattle.ripng_lab.specs.ScriptWatching.{IsToldOfLab, IsToldUntil}
pub use Rattle.ripng_trace.specs.Events.{sender_at, sender_said, sent_from, sent_said}
pub use Rattle.ripng_trace.specs.Growing.{Grows}
pub use Rattle.ripng_trace.specs.Json.{address_of, hex_of, list_of, number_of, option_of, prefix_of, json_of_aside, json_of_change, json_of_counts, json_of_due, json_of_event, json_of_fault, json_of_happened, json_of_hint, json_of_hop, json_of_interface, json_of_note, json_of_offer, json_of_origin, json_of_owned, json_of_peer, json_of_route, json_of_router, json_of_sender, json_of_sent, json_of_start, json_of_stranger, json_of_timers, json_of_update, update_name}
pub use Rattle.ripng_trace.specs.Lines.{written_as, WritesLess, WritesRecord}
pub use Rattle.ripng_trace.specs.Offers.{TellsOffers, is_noted, offer_records, route_after}
pub use Rattle.ripng_trace.specs.Reading.{IsPrintWord, IsTraced, IsTracedUntil}
pub use Rattle.ripng_trace.specs.Records.{LeadsTo, known_as, taken_out, timers_in, with_routes}
pub use Rattle.ripng_trace.specs.Saying.{EventIsTold, StartIsTold, knows, BreaksOff, Said, SameOutput, SaysAlone, SaysAside, SaysEvent, SaysMove, SaysPrinted, SaysStart, said_by}
pub use Rattle.ripng_trace.specs.Scripts.{IsScriptTraced}
pub use Rattle.ripng_trace.specs.Starting.{TellsRouter}
pub use Rattle.ripng_trace.specs.Updates.{TellsUpdate}
pub use Rattle.ripng_trace.specs.Below.{event_of, Prefix6, moment_of, LabValue, Broken, Appends, Json, boolean, member, no_members, object, string, json_tokens}
