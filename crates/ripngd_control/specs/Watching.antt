-- What the monitor of a run makes of reports: what is counted, in all, by interface and by sender, and which lines are written.
use Rattle.std.specs.Prelude.{ℕ, ◌≡◌, ◌<◌, ◌+◌, ◌-◌, ◌/◌, ◌==◌, ◌&&◌, ◌||◌, ◌⊎◌, Bool, true, false, max, is_none, not, MatchBool, List, [], ◌∷◌, ◌++◌, Option, None, Some, if◌then◌else◌, length, nat_le, nat_lt, replicate, slice_get, slice_index_or, slice_set, vec_capacity, count_by}
use Rattle.std.specs.List.{remove}
use Rattle.ripngd_control.specs.Below.{Appends, position_or_len, is_response, fault_number, note_number, Note, Fault, counted, LinkReport, Processed, Begins, Sent, Update, Triggered, Regular, Arrived, Counts, Links, LinkTally, Monitor, Neighbor, Neighbors, Refusals, Tally}
use Rattle.ripngd_control.specs.Links.{no_link, no_refusals, no_tally}
use Rattle.ripngd_control.specs.Printed.{lines_of}

-- ---- what is counted of a report
-- f of an arrival's fault and notes, and 0 for all else
abbrev pub heard_in : (Option Fault → List Note → ℕ) → LinkReport → ℕ
heard_in f (Processed a bytes fault notes) = f fault notes
heard_in f (Begins update) = 0
heard_in f (Sent s went) = 0

-- f of whether the link could send what was sent, and 0 for all else
abbrev pub sent_in : (Bool → ℕ) → LinkReport → ℕ
sent_in f (Processed a bytes fault notes) = 0
sent_in f (Begins update) = 0
sent_in f (Sent s went) = f went

-- how many there are in all of them
abbrev pub total : (LinkReport → ℕ) → List LinkReport → ℕ
total f [] = 0
total f (t ∷ ts) = f t + total f ts

-- whether this is the fault of that number, as a count
abbrev pub is_fault : ℕ → Option Fault → ℕ
is_fault number None = 0
is_fault number (Some fault) = if fault_number fault == number then 1 else 0

-- the notes of that number among these
abbrev pub notes_of : ℕ → List Note → ℕ
notes_of number notes = count_by (λ n. note_number n.kind == number) notes

-- ---- in all
-- nothing was counted
abbrev pub no_counts : Counts
no_counts = record { arrivals = 0; sends = 0; failed_sends = 0; refusals = no_refusals; asked = 0 }

-- each count is that of before with how many there are of its number, up to the greatest u64
pub record Refused (more : ℕ → ℕ) (r s : Refusals) : Type 0 where
  pub by_number_are : (number : ℕ) → number < 27 → slice_index_or s.by_number number 0 ≡ counted (slice_index_or r.by_number number 0) (more number)

-- each count is that of before with how many there are in these, up to the greatest u64. Questions are counted apart
pub record Counted (c : Counts) (ts : List LinkReport) (d : Counts) : Type 0 where
  pub arrivals : d.arrivals ≡ counted c.arrivals (total (heard_in (λ fault notes. 1)) ts)
  pub sends : d.sends ≡ counted c.sends (total (sent_in (λ went. 1)) ts)
  pub failed_sends : d.failed_sends ≡ counted c.failed_sends (total (sent_in (λ went. if went then 0 else 1)) ts)
  pub refusals : Refused (λ number. total (heard_in (λ fault notes. is_fault number fault + notes_of number notes)) ts) c.refusals d.refusals
  pub asked : d.asked ≡ c.asked

-- ---- of one sender
-- whether an arrival is a Response without a fault
abbrev pub is_sound_response : List ℕ → Option Fault → Bool
is_sound_response bytes None = is_response bytes
is_sound_response bytes (Some fault) = false

-- the entries of a datagram: 20 bytes each, after the first 4
abbrev pub rte_count : List ℕ → ℕ
rte_count bytes = (length bytes - 4) / 20

-- an arrival was counted, up to the greatest u64 each: what it is, its entries and its moment if it is a Response without a
-- fault, its fault, and the notes on its entries
pub record Tallied (c : Tally) (a : Arrived) (bytes : List ℕ) (fault : Option Fault) (notes : List Note) (d : Tally) : Type 0 where
  pub arrivals : d.arrivals ≡ counted c.arrivals 1
  pub responses : d.responses ≡ counted c.responses (if is_sound_response bytes fault then 1 else 0)
  pub entries : d.entries ≡ counted c.entries (if is_sound_response bytes fault then rte_count bytes else 0)
  pub last : d.last ≡ (if is_sound_response bytes fault then Some a.moment else c.last)
  pub refusals : Refused (λ number. is_fault number fault + notes_of number notes) c.refusals d.refusals

-- the later of two moments, if there are any
abbrev pub later : Option ℕ → Option ℕ → Option ℕ
later None b = b
later (Some a) None = Some a
later (Some a) (Some b) = Some (max a b)

-- the counts of one sender were added to those of others, up to the greatest u64 each
pub record Added (c more d : Tally) : Type 0 where
  pub arrivals : d.arrivals ≡ counted c.arrivals more.arrivals
  pub responses : d.responses ≡ counted c.responses more.responses
  pub entries : d.entries ≡ counted c.entries more.entries
  pub last : d.last ≡ later c.last more.last
  pub refusals : Refused (λ number. slice_index_or more.refusals.by_number number 0) c.refusals d.refusals

-- ---- of all senders
-- no sender yet, and there is room for 64 rows, or for none
pub record KnowsNobody (n : Neighbors) : Type 0 where
  pub rows : n.rows.items ≡ []
  pub room : (vec_capacity n.rows ≡ 64) ⊎ (vec_capacity n.rows ≡ 0)
  pub others : n.others ≡ no_tally

-- whether a row is that of an arrival's sender: of its interface and its address
abbrev pub is_of : Arrived → Neighbor → Bool
is_of a r = (r.iface == a.iface) && (r.source == a.source)

-- the index of the row of an arrival's sender, or how many rows there are if it has none
abbrev pub place_of : Arrived → List Neighbor → ℕ
place_of a rows = position_or_len (is_of a) rows

-- the rows, and after them an empty one for an arrival's sender, if it has none and there is room
abbrev pub with_row : Arrived → ℕ → List Neighbor → List Neighbor
with_row a room rows = if (place_of a rows == length rows) && nat_lt (length rows) room
    then rows ++ record { iface = a.iface; source = a.source; tally = no_tally } ∷ [] else rows

-- whether a moment comes before another; none comes before each
abbrev pub is_before : Option ℕ → Option ℕ → Bool
is_before a None = false
is_before None (Some b) = true
is_before (Some a) (Some b) = nat_lt a b

-- a row of the sender that has been silent longest: no other had its last Response before it
abbrev pub IsSilentLongest : List Neighbor → Neighbor → Type 0
IsSilentLongest rows row = (i : ℕ) (other : Neighbor) → slice_get rows i ≡ Some other → is_before other.tally.last row.tally.last ≡ false

-- whether a row gives way to a datagram of a new sender: to a Response without a fault any row, to any other that of a sender of none
abbrev pub gives_way : Bool → Neighbor → Bool
gives_way is_sound row = is_sound || is_none row.tally.last

-- the row of the sender that has been silent longest is gone, and its counts are among those of all others; or it does not give way,
-- or there is none
abbrev pub MakesRoom : Bool → Neighbors → Neighbors → Type 0
MakesRoom is_sound v w =
    ((w ≡ v) × ((v.rows.items ≡ []) ⊎ ((row : Neighbor) × IsSilentLongest v.rows.items row × (gives_way is_sound row ≡ false))))
    ⊎ ((place : ℕ) × (row : Neighbor) × (slice_get v.rows.items place ≡ Some row) × IsSilentLongest v.rows.items row
    × (gives_way is_sound row ≡ true) × (w.rows.items ≡ remove v.rows.items place) × (vec_capacity w.rows ≡ vec_capacity v.rows)
    × (w.replaces ≡ v.replaces) × Added v.others row.tally w.others)

-- an arrival's sender has no row, there is no room for one, and on such links a row gives way
abbrev pub lacks_room : Arrived → Neighbors → Bool
lacks_room a v = v.replaces && (place_of a v.rows.items == length v.rows.items) && nat_le (vec_capacity v.rows) (length v.rows.items)

-- an arrival was counted in the row at an index, or with all others if there is no such row
abbrev pub CountsAt : (Tally → Tally → Type 0) → Option Neighbor → ℕ → List Neighbor → Neighbors → Neighbors → Type 0
CountsAt Counts (Some row) place rows v w = (tally : Tally) × Counts row.tally tally
    × (w.rows.items ≡ slice_set rows place (record row { tally = tally })) × (w.others ≡ v.others)
CountsAt Counts None place rows v w = Counts v.others w.others × (w.rows.items ≡ rows)

-- an arrival was counted for its sender, which has a row by then if there was room for one; the room stays
abbrev pub CountsOf : (Tally → Tally → Type 0) → Arrived → List Neighbor → Neighbors → Neighbors → Type 0
CountsOf Counts a rows v w =
    (vec_capacity w.rows ≡ vec_capacity v.rows) × CountsAt Counts (slice_get rows (place_of a rows)) (place_of a rows) rows v w

-- what a report makes of the rows: room for its sender's, if need be, and then it is counted. Updates and what is sent are of no sender
abbrev pub CountsReport : Neighbors → LinkReport → Neighbors → Type 0
CountsReport v (Processed a bytes fault notes) w =
    (m : Neighbors) × MatchBool (lacks_room a v) (MakesRoom (is_sound_response bytes fault) v m) (m ≡ v)
    × CountsOf (λ c d. Tallied c a bytes fault notes d) a (with_row a (vec_capacity m.rows) m.rows.items) m w × (w.replaces ≡ v.replaces)
CountsReport v (Begins update) w = w ≡ v
CountsReport v (Sent s went) w = w ≡ v

-- ---- by interface
abbrev pub is_triggered : Update → Bool
is_triggered Regular = false
is_triggered Triggered = true

-- the interface is this one
abbrev pub is_at : Option ℕ → ℕ → Bool
is_at None iface = false
is_at (Some other) iface = other == iface

-- a datagram that goes out on an interface is the first one there of a triggered update, whose datagrams come interface by interface
abbrev pub is_first : Links → ℕ → Bool → Bool
is_first v iface went = went && v.is_triggered && not (is_at v.counted_at iface)

-- a row for each of so many interfaces, with nothing counted; and no update is sent
pub record CountsNothing (interfaces : ℕ) (v : Links) : Type 0 where
  pub rows : v.rows.items ≡ replicate interfaces no_link
  pub none_sent : v.is_triggered ≡ false

-- an arrival was counted in the row of its interface, if it has one
abbrev pub CountsThere : (Tally → Tally → Type 0) → Option LinkTally → ℕ → List LinkTally → List LinkTally → Type 0
CountsThere Counts (Some row) iface before after = (tally : Tally) × Counts row.tally tally × (after ≡ slice_set before iface (record row { tally = tally }))
CountsThere Counts None iface before after = after ≡ before

-- these rows, where one more triggered update went out on an interface
abbrev pub with_update : Option LinkTally → ℕ → List LinkTally → List LinkTally
with_update (Some row) iface rows = slice_set rows iface (record row { triggered = counted row.triggered 1 })
with_update None iface rows = rows

-- what a report makes of the counts of interfaces: an arrival is counted at its own, and what is sent after it is of no update; a triggered
-- update is counted once at each interface where a datagram of it goes out
abbrev pub CountsLink : Links → LinkReport → Links → Type 0
CountsLink v (Processed a bytes fault notes) w =
    CountsThere (λ c d. Tallied c a bytes fault notes d) (slice_get v.rows.items a.iface) a.iface v.rows.items w.rows.items
    × (w.is_triggered ≡ false)
CountsLink v (Begins update) w = (w.rows.items ≡ v.rows.items) × (w.is_triggered ≡ is_triggered update) × (w.counted_at ≡ None)
CountsLink v (Sent s went) w = MatchBool (is_first v s.iface went)
    ((w.rows.items ≡ with_update (slice_get v.rows.items s.iface) s.iface v.rows.items) × (w.is_triggered ≡ true) × (w.counted_at ≡ Some s.iface))
    (w ≡ v)

-- ---- what a report makes of a monitor: it is counted, and its lines are written, unless the monitor is muted
pub record Monitors {W : Type 0} (text : W → Option (List ℕ)) (v : Monitor W) (t : LinkReport) (w : Monitor W) : Type 0 where
  pub counts : Counted v.counts (t ∷ []) w.counts
  pub neighbors : CountsReport v.neighbors t w.neighbors
  pub links : CountsLink v.links t w.links
  pub stays_muted : v.is_muted ≡ true → (w.is_muted ≡ true) × (w.out ≡ v.out)
  pub gains : w.is_muted ≡ false → Appends (text v.out) (text w.out) (lines_of t)
