-- What a Response does to a table: each prefix by itself, from the entries that name it (RFC 2080, 2.4.2).
use Rattle.std.specs.Prelude.{◌≡◌, ℕ, ◌+◌, ◌<◌, ◌==◌, ◌&&◌, not, nat_lt, nat_le, Bool, true, false, if◌then◌else◌, List, [], ◌∷◌, map, length, take, filter, find, fold, count_by, All, Contains, Option, Some, None, is_some, is_none, option_map, slice_get}
use Rattle.std.specs.List.{enumerate_from}
use Rattle.std.specs.List.Sorted.{IsStrictlyIncreasing}
use Rattle.std.specs.FinMap as map_of
use Rattle.prefix6.specs.Prefix.{Prefix6}
use Rattle.ripng_wire.specs.declared.rte.Rte.{Rte}
use Rattle.ripng_wire.specs.Layout.{is_next_hop}
use Rattle.route_table.specs.Route.{RouteValue}
use Rattle.route_table.specs.Table.{Table, table_limit}
use Rattle.router_core.specs.Config.{Config}
use Rattle.router_core.specs.Filters.{is_by, refusal}
use Rattle.router_core.specs.Output.{is_learned_on}
use Rattle.router_core.specs.Offers.{offers, offer_at, is_offer, flaw, prefix_named}
use Rattle.router_core.specs.Adoption.{Gateway, adopted}
use Rattle.router_core.specs.declared.answer.Note.{Note}
use Rattle.router_core.specs.declared.answer.NoteKind.{NoteKind}
use Rattle.router_core.specs.declared.answer.NoteKind.TheVariants.{TableFull, NoMemory, NotAccepted, LimitReached}

-- the processing of a Response: its entries and gateway, the table before, and the notes that were made. The notes are part of
-- this since nothing else says for which new routes memory ran out; `Heard` says which notes are allowed
pub record Hearing : Type 0 where
  pub config : Config
  pub gateway : Gateway
  pub entries : List Rte
  pub before : Table
  pub notes : List Note

-- the processing of a Response with these parts
abbrev pub hearing : Config → Gateway → List Rte → Table → List Note → Hearing
hearing config gateway entries before notes =
    record { config = config; gateway = gateway; entries = entries; before = before; notes = notes }

-- the note says that an offer was refused: a new route had no room, or the interface does not take the route
abbrev pub is_refusal : Option NoteKind → Bool
is_refusal (Some TableFull) = true
is_refusal (Some NoMemory) = true
is_refusal (Some NotAccepted) = true
is_refusal (Some LimitReached) = true
is_refusal _ = false

-- the note on the entry at a place
abbrev pub note_at : Hearing → ℕ → Option NoteKind
note_at h place = option_map (λ n. n.kind) (find (λ n. n.entry == place) h.notes)

-- the offer of the entry at a place was refused
abbrev pub is_refused : Hearing → ℕ → Bool
is_refused h place = is_refusal (note_at h place)

-- the route to a prefix once the entries before a place are processed
abbrev pub route_after : Hearing → ℕ → Prefix6 → Option RouteValue
route_after h place p =
    fold (adopted h.gateway) (map_of.get h.before p)
    (filter (λ o. nat_lt o.place place && not (is_refused h o.place)) (offers h.config h.gateway.from h.entries p))

-- the entry would add a first route to its prefix
abbrev pub would_add : Hearing → ℕ → Rte → Bool
would_add h place e =
    is_offer e && is_none (route_after h place (prefix_named e))
    && is_some (adopted h.gateway None (offer_at h.config h.gateway.from h.entries place e))

-- how many routes the table holds once the entries before a place are processed
abbrev pub held_after : Hearing → ℕ → ℕ
held_after h place =
    map_of.len h.before
    + count_by (λ t. would_add h t.0 t.1 && not (is_refused h t.0)) (take place (enumerate_from 0 h.entries))

-- the entry would bring a route by way of the interface to a prefix that has none by it
abbrev pub would_bring : Hearing → ℕ → Rte → Bool
would_bring h place e =
    is_offer e && not (is_by h.gateway.iface (route_after h place (prefix_named e)))
    && is_by h.gateway.iface (adopted h.gateway (route_after h place (prefix_named e)) (offer_at h.config h.gateway.from h.entries place e))

-- how many routes a table holds by way of an interface
abbrev pub held_by : ℕ → Table → ℕ
held_by iface table = count_by (λ t. is_learned_on iface t.1.origin) (map_of.entries table)

-- how many it holds by way of the interface once the entries before a place are processed
abbrev pub brought_after : Hearing → ℕ → ℕ
brought_after h place =
    held_by h.gateway.iface h.before
    + count_by (λ t. would_bring h t.0 t.1 && not (is_refused h t.0)) (take place (enumerate_from 0 h.entries))

-- why the interface refuses the offer of an entry, if it does
abbrev pub refusal_at : Hearing → ℕ → Rte → Option NoteKind
refusal_at h place e = refusal h.config h.gateway.iface e (would_bring h place e) (brought_after h place)

-- the notes that are allowed on a new route
abbrev pub notes_of_new : Hearing → ℕ → List (Option NoteKind)
notes_of_new h place = if nat_le table_limit (held_after h place) then Some TableFull ∷ [] else None ∷ Some NoMemory ∷ []

-- the notes that are allowed on a sound offer, by the reason of the interface to refuse it
abbrev pub notes_by_refusal : Hearing → ℕ → Rte → Option NoteKind → List (Option NoteKind)
notes_by_refusal h place e (Some kind) = Some kind ∷ []
notes_by_refusal h place e None = if would_add h place e then notes_of_new h place else None ∷ []

-- the notes that are allowed on an offer, by the reason to skip it
abbrev pub notes_of_offer : Hearing → ℕ → Rte → Option NoteKind → List (Option NoteKind)
notes_of_offer h place e (Some kind) = Some kind ∷ []
notes_of_offer h place e None = notes_by_refusal h place e (refusal_at h place e)

-- the notes that are allowed on an entry
abbrev pub allowed_notes : Hearing → ℕ → Rte → List (Option NoteKind)
allowed_notes h place e = if is_next_hop e then None ∷ [] else notes_of_offer h place e (flaw e)

-- the table after all entries, with allowed notes in the order of entries
pub record Heard (h : Hearing) (after : Table) : Type 0 where
  pub routes : (p : Prefix6) → map_of.get after p ≡ route_after h (length h.entries) p
  pub noted : (place : ℕ) (e : Rte) → slice_get h.entries place ≡ Some e → Contains (allowed_notes h place e) (note_at h place)
  pub in_order : IsStrictlyIncreasing (map (λ n. n.entry) h.notes)
  pub placed : All (λ n. n.entry < length h.entries) h.notes
