-- The answer to `status json`: what `status` prints, as JSON (RFC 8259), in the shape of `ripngd-links status --json` (that shape is this
-- project's choice). A count is there as 0 where nothing was counted.
use Rattle.std.specs.Prelude.{ℕ, ◌≡◌, ◌==◌, ◌-◌, ◌/◌, false, List, [], ◌∷◌, ◌++◌, Option, None, Some, codes, decimal, filter, map, slice_index_or}
use Rattle.ripngd_control.specs.Below.{Items, Json, JsonText, Members, Token, array, boolean, enumerate_from, fault_name, item, json_tokens, member, no_items, no_members, note_name, null, number, object, print, string, written_addr, Interface, Counts, Losses, Neighbor, Neighbors, Tally, Refusal, Arrival, Refusals, LinkTally, Queue, queue_at}
use Rattle.ripngd_control.specs.declared.refusals.Refusal.TheVariants.{Entry}
use Rattle.ripngd_control.specs.declared.reply.Reply.TheVariants as replies
use Rattle.ripngd_control.specs.Links.{LinksSeen, link_at}
use Rattle.ripngd_control.specs.Printed.{every_refusal, refusal_number, reply_line}

-- ---- values
abbrev pub number_of : ℕ → Json
number_of n = number (decimal n)

abbrev pub items_of : List Json → Items
items_of [] = no_items
items_of (json ∷ rest) = item json (items_of rest)

-- a list, item by item
abbrev pub list_of : {X : Type 0} → (X → Json) → List X → Json
list_of json xs = array (items_of (map json xs))

abbrev pub members_of : List (List ℕ × Json) → Members
members_of [] = no_members
members_of (m ∷ rest) = member m.0 m.1 (members_of rest)

-- an object, member by member
abbrev pub object_of : List (List ℕ × Json) → Json
object_of members = object (members_of members)

-- ---- what is counted
-- the name of a rule
abbrev pub refusal_name : Refusal → List ℕ
refusal_name (Arrival fault) = fault_name fault
refusal_name (Entry kind) = note_name kind

-- how often a rule refused something
abbrev pub refused_by : Refusals → Refusal → Json
refused_by r refusal = number_of (slice_index_or r.by_number (refusal_number refusal) 0)

-- the same of each rule, by its name
abbrev pub refused_json : Refusals → Json
refused_json r = object_of (map (λ refusal. (refusal_name refusal, refused_by r refusal)) every_refusal)

-- how many whole seconds have passed since a moment, or null
abbrev pub ago_json : ℕ → Option ℕ → Json
ago_json now None = null
ago_json now (Some moment) = number_of ((now - moment) / 1000)

-- what came of a sender
abbrev pub tally_members : ℕ → Tally → List (List ℕ × Json)
tally_members now t =
    (codes "arrivals", number_of t.arrivals)
    ∷ (codes "responses", number_of t.responses)
    ∷ (codes "entries", number_of t.entries)
    ∷ (codes "response_seconds_ago", ago_json now t.last)
    ∷ (codes "refused", refused_json t.refusals)
    ∷ []

abbrev pub neighbor_json : ℕ → Neighbor → Json
neighbor_json now n = object_of ((codes "address", string (written_addr n.source)) ∷ tally_members now n.tally)

-- the rows of an interface's neighbors
abbrev pub rows_at : ℕ → List Neighbor → List Neighbor
rows_at iface rows = filter (λ n. n.iface == iface) rows

-- an interface with its number, what is counted there, what waits to be sent there, its neighbors, and what came of all that sent there
abbrev pub counted_link_json : ℕ → List Neighbor → LinkTally → Queue → ℕ × Interface → Json
counted_link_json now rows counted queue e =
    object_of
    ((codes "interface", number_of e.0)
    ∷ (codes "address", string (written_addr e.1.addr))
    ∷ (codes "cost", number_of e.1.cost)
    ∷ (codes "mtu", number_of e.1.mtu)
    ∷ (codes "triggered_updates", number_of counted.triggered)
    ∷ (codes "queued", number_of queue.waiting)
    ∷ (codes "queued_answers", number_of queue.answers)
    ∷ (codes "neighbors", list_of (neighbor_json now) (rows_at e.0 rows))
    ∷ tally_members now counted.tally)

abbrev pub link_json : ℕ → List Neighbor → LinksSeen → ℕ × Interface → Json
link_json now rows links e = counted_link_json now rows (link_at links.rows e.0) (queue_at links.queues e.0) e

-- the router in all
abbrev pub router_json : ℕ → ℕ → Counts → Losses → Json
router_json now routes counts lost =
    object_of
    ((codes "uptime_seconds", number_of (now / 1000))
    ∷ (codes "routes", number_of routes)
    ∷ (codes "arrivals", number_of counts.arrivals)
    ∷ (codes "sends", number_of counts.sends)
    ∷ (codes "failed", number_of counts.failed_sends)
    ∷ (codes "lost_sends", number_of lost.report.lost_sends)
    ∷ (codes "lost_steps", number_of lost.report.lost_memory)
    ∷ (codes "lost_arrivals", number_of lost.arrivals)
    ∷ (codes "strangers", number_of lost.strangers)
    ∷ (codes "log_failed", boolean lost.report.log_failed)
    ∷ (codes "asked", number_of counts.asked)
    ∷ (codes "refused", refused_json counts.refusals)
    ∷ [])

-- the router, its interfaces with their neighbors, and all other senders: of the same as `status_answer`
abbrev pub status_json : List Interface → ℕ → ℕ → Counts → Losses → Neighbors → LinksSeen → Json
status_json interfaces now routes counts lost heard links =
    object_of
    ((codes "router", router_json now routes counts lost)
    ∷ (codes "links", list_of (link_json now heard.rows.items links) (enumerate_from 0 interfaces))
    ∷ (codes "others", object_of (tally_members now heard.others))
    ∷ [])

-- ---- its text
-- with no space between the tokens
abbrev pub text_of : Json → List ℕ
text_of json = print (json_tokens json)

-- the answer: that text in one line, and `ok`
abbrev pub status_json_answer : List Interface → ℕ → ℕ → Counts → Losses → Neighbors → LinksSeen → List ℕ
status_json_answer interfaces now routes counts lost heard links = text_of (status_json interfaces now routes counts lost heard links) ++ (10 ∷ reply_line replies.Done)

-- these tokens are written behind the others, unless memory was refused, now or before
pub record Grows (old new : JsonText) (tokens : List Token) : Type 0 where
  pub before : new.writer.before ≡ old.writer.before
  pub written : new.refused ≡ false → (old.refused ≡ false) × (new.writer.tokens ≡ old.writer.tokens ++ tokens)

-- the bytes of a text to which memory was never refused
pub record IsWholeText (text : JsonText) (bytes : List ℕ) : Type 0 where
  pub unrefused : text.refused ≡ false
  pub are : bytes ≡ text.writer.before ++ print text.writer.tokens
