-- The names that the clauses of this crate cite, passed on from one place. Declares nothing.
pub use Rattle.ripngd_engine.specs.Run.{counted}
pub use Rattle.ripngd_control.specs.Answers.{Obeys, AnswersCommand, Continues, GainsLines, step_reply, ShowsEntries, ShowsRoutes}
pub use Rattle.ripngd_control.specs.Below.{Appends, enumerate_from, Entry, IsLookedUp, LinkReport, Processed, Begins, Sent, WasTold, queue_at, seen, Arrived, NamesInterface, Outgoing, PeerChange, Counts, Reply, IsPrintable, boolean, json_tokens, key, members_tokens, string, token_of}
pub use Rattle.ripngd_control.specs.Clients.{Heeds, TakesIn, GrowsByReceived, ShrinksBySent, IsPrivate, ClientsState}
pub use Rattle.ripngd_control.specs.Commands.{control_text, has_sign}
pub use Rattle.ripngd_control.specs.Json.{Grows, IsWholeText, ago_json, counted_link_json, link_json, list_of, members_of, neighbor_json, number_of, object_of, refusal_name, refused_by, refused_json, router_json, rows_at, status_json, status_json_answer, tally_members, text_of}
pub use Rattle.ripngd_control.specs.Printed.{asked_and_done, counts_text, lookup_text, losses_text, neighbors_text, reply_line, status_answer, sums_text, interface_line, interface_lines, link_text, arrival_text, note_lines, refusal_lines, tally_text, clock_text, origin_text, status_text, refusal_number, refusal_text, refusals_text, reply_text}
pub use Rattle.ripngd_control.specs.Watching.{Counted, no_counts, KnowsNobody, Monitors, CountsLink, CountsNothing, CountsOf, CountsReport, Added, IsSilentLongest, MakesRoom, gives_way, is_before, lacks_room, later, Tallied, is_of, is_sound_response, is_first, place_of, with_row, Refused, is_fault, notes_of}
pub use Rattle.ripngd_control.specs.Links.{LinksSeen, link_at, links_seen, no_link, no_refusals, no_tally}
