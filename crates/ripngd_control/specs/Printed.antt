-- What is printed of what is refused, counted, lost and answered (the format is this project's choice).
use Rattle.std.specs.Prelude.{ℕ, ◌-◌, ◌==◌, List, [], ◌∷◌, ◌++◌, Option, None, Some, codes, decimal, flat_map, if◌then◌else◌, slice_index_or}
use Rattle.ripngd_control.specs.Below.{enumerate_from, Prefix6, written_addr, written_prefix, Entry as FibEntry, Short, TooLong, Ragged, BadCommand, BadVersion, NotZero, RouteValue, Clock, Fixed, Live, Dying, Origin, Learned, fault_number, fault_text, note_number, note_text, reconfigure_text, Note, BadLength, BadPrefix, BadMetric, TableFull, NoMemory, NotAccepted, LimitReached, Fault, Interface, Wire, NotRipngPort, NotLinkLocal, OwnAddress, HopLimit, EmptyRequest, BadSource, route_text, LinkReport, Processed, Begins, Sent, Arrived, Counts, Losses, Neighbor, Neighbors, Tally, Refusal, Arrival, Refusals, Reply, LinkTally, Queue, queue_at}
use Rattle.route_table.specs.declared.route.Origin.TheVariants.{Own}
use Rattle.ripngd_control.specs.Links.{LinksSeen, link_at}
use Rattle.ripngd_control.specs.declared.refusals.Refusal.TheVariants.{Entry}
use Rattle.ripngd_control.specs.declared.reply.Reply.TheVariants as replies

-- ---- line by line
-- `MOMENT iface I from ADDR port P`
abbrev pub arrival_text : Arrived → List ℕ
arrival_text a =
    decimal a.moment ++ (codes " iface " ++ (decimal a.iface ++ (codes " from " ++ (written_addr a.source ++ (codes " port " ++ decimal a.source_port)))))

-- `refused NR NAME` or `noted NR NAME`
abbrev pub refusal_text : Refusal → List ℕ
refusal_text (Arrival fault) = codes "refused " ++ fault_text fault
refusal_text (Entry kind) = codes "noted " ++ note_text kind

-- a line `ORIGIN refused NR NAME` for the fault, if there is one
abbrev pub refusal_lines : Arrived → Option Fault → List ℕ
refusal_lines a None = []
refusal_lines a (Some fault) = (arrival_text a ++ (codes " " ++ refusal_text (Arrival fault))) ++ 10 ∷ []

-- a line `ORIGIN entry E noted NR NAME` for each note
abbrev pub note_lines : Arrived → List Note → List ℕ
note_lines a notes =
    flat_map (λ n. (arrival_text a ++ (codes " entry " ++ (decimal n.entry ++ (codes " " ++ refusal_text (Entry n.kind))))) ++ 10 ∷ []) notes

-- the lines of a report
abbrev pub lines_of : LinkReport → List ℕ
lines_of (Processed a bytes fault notes) = refusal_lines a fault ++ note_lines a notes
lines_of (Begins update) = []
lines_of (Sent s went) = []

-- ---- counts
-- the number of a refusal
abbrev pub refusal_number : Refusal → ℕ
refusal_number (Arrival fault) = fault_number fault
refusal_number (Entry kind) = note_number kind

-- each refusal, in the order of the numbers
abbrev pub every_refusal : List Refusal
every_refusal =
    Arrival (Wire Short) ∷ Arrival (Wire TooLong) ∷ Arrival (Wire Ragged) ∷ Arrival (Wire BadCommand) ∷ Arrival (Wire BadVersion)
    ∷ Arrival (Wire NotZero) ∷ Arrival NotRipngPort ∷ Arrival NotLinkLocal ∷ Arrival OwnAddress ∷ Arrival HopLimit
    ∷ Arrival EmptyRequest ∷ Arrival BadSource ∷ Entry BadLength ∷ Entry BadPrefix ∷ Entry BadMetric ∷ Entry TableFull ∷ Entry NoMemory
    ∷ Entry NotAccepted ∷ Entry LimitReached ∷ []

-- a line `refused NR NAME N` or `noted NR NAME N`, if the count is not 0, after a line feed
abbrev pub count_line : Refusal → ℕ → List ℕ
count_line refusal count = if count == 0 then [] else 10 ∷ refusal_text refusal ++ (codes " " ++ decimal count)

-- a line for each of these that was counted, by their numbers
abbrev pub count_lines : List ℕ → List Refusal → List ℕ
count_lines counts refusals = flat_map (λ r. count_line r (slice_index_or counts (refusal_number r) 0)) refusals

-- the same for all of them
abbrev pub refusals_text : Refusals → List ℕ
refusals_text r = count_lines r.by_number every_refusal

-- `arrivals A sends S failed F`, and then the lines of what was refused
abbrev pub counts_text : Counts → List ℕ
counts_text c =
    codes "arrivals " ++ (decimal c.arrivals ++ (codes " sends " ++ (decimal c.sends ++ (codes " failed "
    ++ (decimal c.failed_sends ++ refusals_text c.refusals)))))

-- ` last MS`, if there was one
abbrev pub last_text : Option ℕ → List ℕ
last_text None = []
last_text (Some moment) = codes " last " ++ decimal moment

-- ` arrivals A responses R entries E`, ` last MS` if there was a Response, and then the lines of what was refused
abbrev pub tally_text : Tally → List ℕ
tally_text t =
    codes " arrivals " ++ (decimal t.arrivals ++ (codes " responses " ++ (decimal t.responses ++ (codes " entries "
    ++ (decimal t.entries ++ (last_text t.last ++ refusals_text t.refusals))))))

-- `iface I from ADDR`, and what came of it, a line for each row
abbrev pub row_lines : List Neighbor → List ℕ
row_lines rows = flat_map (λ n. codes "iface " ++ (decimal n.iface ++ (codes " from " ++ (written_addr n.source ++ (tally_text n.tally ++ 10 ∷ []))))) rows

-- the lines of each row, and `others`, with what came of them, if anything did
abbrev pub neighbors_text : Neighbors → List ℕ
neighbors_text n = row_lines n.rows.items ++ (if n.others.arrivals == 0 then [] else codes "others" ++ (tally_text n.others ++ 10 ∷ []))

-- ---- losses
-- `lost sends N steps M arrivals K`, and `strangers S` and whether the log failed on lines of their own
abbrev pub losses_text : Losses → List ℕ
losses_text l =
    codes "lost sends " ++ (decimal l.report.lost_sends ++ (codes " steps " ++ (decimal l.report.lost_memory
    ++ (codes " arrivals " ++ (decimal l.arrivals ++ (codes "\nstrangers " ++ (decimal l.strangers ++ (if l.report.log_failed then codes "\nlog failed" else []))))))))

-- ---- a router in short
-- ` triggered T queued Q answers A`, what came there, and then the lines of what was refused
abbrev pub link_text : LinkTally → Queue → List ℕ
link_text counted queue =
    codes " triggered " ++ (decimal counted.triggered ++ (codes " queued " ++ (decimal queue.waiting ++ (codes " answers "
    ++ (decimal queue.answers ++ tally_text counted.tally)))))

-- `interface I address ADDR cost C mtu M`, and that
abbrev pub interface_line : LinkTally → Queue → ℕ × Interface → List ℕ
interface_line counted queue e =
    codes "interface " ++ (decimal e.0 ++ (codes " address " ++ (written_addr e.1.addr ++ (codes " cost " ++ (decimal e.1.cost
    ++ (codes " mtu " ++ (decimal e.1.mtu ++ (link_text counted queue ++ 10 ∷ []))))))))

-- the same for each of these interfaces with their numbers
abbrev pub interface_lines : LinksSeen → List (ℕ × Interface) → List ℕ
interface_lines links numbered = flat_map (λ e. interface_line (link_at links.rows e.0) (queue_at links.queues e.0) e) numbered

-- ---- answers
-- the line of an entry of a forwarding table, or `no route`
abbrev pub lookup_text : Option FibEntry → List ℕ
lookup_text (Some e) = route_text e.0 e.1 e.2
lookup_text None = codes "no route"

-- `own`, or `via ADDR iface I from ADDR`
abbrev pub origin_text : Origin → List ℕ
origin_text Own = codes "own"
origin_text (Learned iface from next_hop) =
    codes "via " ++ (written_addr next_hop ++ (codes " iface " ++ (decimal iface ++ (codes " from " ++ written_addr from))))

-- `fixed`, or the milliseconds that are left at a moment: `live MS` or `dying MS`
abbrev pub clock_text : Clock → ℕ → List ℕ
clock_text Fixed now = codes "fixed"
clock_text (Live until) now = codes "live " ++ decimal (until - now)
clock_text (Dying until) now = codes "dying " ++ decimal (until - now)

-- `PREFIX metric M tag T ORIGIN CLOCK`, and whether it is marked
abbrev pub status_text : Prefix6 → RouteValue → ℕ → List ℕ
status_text p r now =
    written_prefix p ++ (codes " metric " ++ (decimal r.metric ++ (codes " tag " ++ (decimal r.tag ++ (codes " "
    ++ (origin_text r.origin ++ (codes " " ++ (clock_text r.clock now ++ (if r.changed then codes " marked" else [])))))))))

-- a line for each of these routes
abbrev pub status_lines : ℕ → List (Prefix6 × RouteValue) → List ℕ
status_lines now es = flat_map (λ e. status_text e.0 e.1 now ++ 10 ∷ []) es

-- the numbers of refusals: those of the router, those of its link, and three of their own
abbrev pub reply_text : Reply → List ℕ
reply_text replies.Done = codes "ok"
reply_text (replies.Refused why) = codes "refused " ++ reconfigure_text why
reply_text (replies.LinkRefused why) = codes "refused " ++ why.now
reply_text replies.NoSuchInterface = codes "refused 51 NoSuchInterface"
reply_text replies.NoSuchCommand = codes "refused 52 NoSuchCommand"
reply_text replies.Ended = codes "refused 53 Ended"

-- the same with its line feed
abbrev pub reply_line : Reply → List ℕ
reply_line reply = reply_text reply ++ 10 ∷ []

-- `asked N`, and then `ok`
abbrev pub asked_and_done : ℕ → List ℕ
asked_and_done asked = codes "asked " ++ (decimal asked ++ (10 ∷ reply_line replies.Done))

-- `now MS routes N`, the counts, what was lost, and the neighbors
abbrev pub sums_text : ℕ → ℕ → Counts → Losses → Neighbors → List ℕ
sums_text last entries counts lost heard = codes "now " ++ (decimal last ++ (codes " routes " ++ (decimal entries ++ (10 ∷ (counts_text counts
    ++ (10 ∷ (losses_text lost ++ (10 ∷ neighbors_text heard))))))))

-- the answer to `status`: the lines of the interfaces, these sums, `asked N` with the Requests that were sent since routes were lost, and `ok`
abbrev pub status_answer : List Interface → ℕ → ℕ → Counts → Losses → Neighbors → LinksSeen → List ℕ
status_answer interfaces last entries counts lost heard links =
    (interface_lines links (enumerate_from 0 interfaces) ++ sums_text last entries counts lost heard) ++ asked_and_done counts.asked
