-- What is heard before a place goes by the notes below it alone: a note at a later entry changes none of it.
use Rattle.std.proofs.Common.{◌≡◌, ◌≢◌, ℕ, zero, suc, ◌+◌, ◌<◌, ◌≤◌, Bool, true, false, cond, not, ◌&&◌, List, [], ◌∷◌, ◌++◌, take, length, fold, filter, filter_map, find, All, Option, Some, None, is_none, is_some, slice_get, refl, ap, ap₂, sym, ◌∙◌, arith, add-one}
use Rattle.std.specs.Prelude.{◌==◌, nat_lt, nat_le, if◌then◌else◌, option_map}
use Rattle.std.specs.List.{enumerate_from, cons_option}
use Rattle.std.specs.FinMap as map_of
use Rattle.std.proofs.lemmas.Bool.{ltb-true}
use Rattle.std.proofs.lemmas.Bool.Decides.{nat_tests}
use Rattle.std.proofs.lemmas.List.Elements.{All-head, All-tail, filter_map-append}
use Rattle.prefix6.specs.Prefix.{Prefix6}
use Rattle.ripng_wire.specs.declared.rte.Rte.{Rte}
use Rattle.ripng_wire.specs.Layout.{is_next_hop}
use Rattle.fib.specs.declared.change.RouteChange.{RouteChange}
use Rattle.route_table.specs.Table.{Table, table_limit}
use Rattle.router_core.specs.Config.{Config}
use Rattle.router_core.specs.Offers.{offers, offer_at, is_offer, flaw, prefix_named}
use Rattle.router_core.specs.Adoption.{Gateway, adopted}
use Rattle.router_core.specs.Hearing.{Hearing, hearing, is_refusal, is_refused, route_after, would_add, would_bring, brought_after, held_after, refusal_at, notes_by_refusal, notes_of_offer, allowed_notes}
use Rattle.router_core.specs.Filters.{is_by, refusal}
use Rattle.router_core.specs.Changes.{change, change_at}
use Rattle.router_core.specs.declared.answer.Note.{Note}
use Rattle.router_core.specs.declared.answer.NoteKind.{NoteKind}
use Rattle.router_core.specs.declared.answer.NoteKind.TheVariants.{TableFull, NoMemory}
use Rattle.router_core.proofs.HearingSteps.{at_place, brought_more, numbered_at, take_push, table_after, size_after}

-- ---- the note at an entry

abbrev pub noted_at : List Note → ℕ → Option NoteKind
noted_at notes k = option_map (λ n. n.kind) (find (λ n. n.entry == k) notes)

-- a note more leaves those at other entries
pub noted_at-push_other : (notes : List Note) (n : Note) (k : ℕ) → k ≢ n.entry → noted_at (notes ++ n ∷ []) k ≡ noted_at notes k
noted_at-push_other [] n k ne = grind (arith, nat_tests)
noted_at-push_other (m ∷ notes) n k ne = grind (arith, nat_tests, noted_at-push_other notes n k ne)

-- where all notes are at entries below a place, there is none at it
pub noted_at-none : (notes : List Note) (place : ℕ) → All (λ (n : Note). n.entry < place) notes → noted_at notes place ≡ None
noted_at-none [] place h = refl
noted_at-none (m ∷ notes) place h =
    grind (arith, nat_tests, All-head (λ (n : Note). n.entry < place) m notes h, noted_at-none notes place (All-tail (λ (n : Note). n.entry < place) m notes h))

-- and a note more is the note at its entry
pub noted_at-push_here : (notes : List Note) (n : Note) → All (λ (m : Note). m.entry < n.entry) notes → noted_at (notes ++ n ∷ []) n.entry ≡ Some n.kind
noted_at-push_here [] n h = grind (arith, nat_tests)
noted_at-push_here (m ∷ notes) n h =
    grind (arith, nat_tests, All-head (λ (o : Note). o.entry < n.entry) m notes h, noted_at-push_here notes n (All-tail (λ (o : Note). o.entry < n.entry) m notes h))

-- ---- what goes by the notes below a place

same_test : (s u : ℕ → Bool) (place : ℕ) → ((k : ℕ) → k < place → s k ≡ u k) → (k : ℕ) (b : Bool) → nat_lt k place ≡ b → (b && not (s k)) ≡ (b && not (u k))
same_test s u place same k true is = ap not (same k (ltb-true k place is))
same_test s u place same k false is = refl

-- the changes of the entries before a place
abbrev pub changes_before : Hearing → ℕ → List RouteChange
changes_before h place = filter_map (λ t. change_at h t.0 t.1) (take place (enumerate_from 0 h.entries))

-- one entry more
pub changes_before-push : (h : Hearing) (place : ℕ) (e : Rte) → slice_get h.entries place ≡ Some e
    → changes_before h (place + 1) ≡ changes_before h place ++ cons_option (change_at h place e) []
changes_before-push h place e is =
    ap (λ k. filter_map (λ t. change_at h t.0 t.1) (take k (enumerate_from 0 h.entries))) (add-one place)
    ∙ ap (filter_map (λ t. change_at h t.0 t.1)) (take_push (enumerate_from 0 h.entries) place (place, e) here)
    ∙ filter_map-append (λ t. change_at h t.0 t.1) (take place (enumerate_from 0 h.entries)) ((place, e) ∷ [])
  where
    here : slice_get (enumerate_from 0 h.entries) place ≡ Some (place, e)
    here = numbered_at 0 h.entries place e is ∙ ap (λ (m : ℕ). Some (m, e)) (omega arith)

module _ (config : Config) (gateway : Gateway) (entries : List Rte) (before : Table) where
  abbrev pub by : List Note → Hearing
  by notes = hearing config gateway entries before notes

  -- the same notes below a place
  abbrev pub SameBelow : List Note → List Note → ℕ → Type 0
  SameBelow m n place = (k : ℕ) → k < place → noted_at m k ≡ noted_at n k

  pub route_after-same : (m n : List Note) (place : ℕ) → SameBelow m n place → (p : Prefix6) → route_after (by m) place p ≡ route_after (by n) place p
  route_after-same m n place same p = λ d.
      fold (adopted gateway) (map_of.get before p)
      (filter (λ o. same_test (is_refused (by m)) (is_refused (by n)) place (λ k h. ap is_refusal (same k h)) o.place (nat_lt o.place place) refl d)
      (offers config gateway.from entries p))

  held_after-same : (m n : List Note) (place : ℕ) → place ≤ length entries → SameBelow m n place → held_after (by m) place ≡ held_after (by n) place
  held_after-same m n place fits same =
      let made = table_after (by m) place fits in
      sym made.2 ∙ size_after (by n) place fits made.0 (λ p. made.1 p ∙ route_after-same m n place same p)

  would_add-same : (m n : List Note) (place : ℕ) (e : Rte) → SameBelow m n place → would_add (by m) place e ≡ would_add (by n) place e
  would_add-same m n place e same =
      ap (λ r. is_offer e && is_none r && is_some (adopted gateway None (offer_at config gateway.from entries place e))) (route_after-same m n place same (prefix_named e))

  would_bring-same : (m n : List Note) (place : ℕ) (e : Rte) → SameBelow m n place → would_bring (by m) place e ≡ would_bring (by n) place e
  would_bring-same m n place e same =
      ap (λ r. is_offer e && not (is_by gateway.iface r) && is_by gateway.iface (adopted gateway r (offer_at config gateway.from entries place e))) (route_after-same m n place same (prefix_named e))

  pub brought_after-same : (m n : List Note) (place : ℕ) → place ≤ length entries → SameBelow m n place → brought_after (by m) place ≡ brought_after (by n) place
  brought_after-same m n zero fits same = refl
  brought_after-same m n (suc place) fits same =
      let entry : (e : Rte) × (slice_get entries place ≡ Some e) = at_place entries place (omega arith) in
      ap (brought_after (by m)) (sym (add-one place))
      ∙ brought_more (by m) place entry.0 entry.1
      ∙ ap₂ (λ k b. k + cond b 1 0)
      (brought_after-same m n place (omega arith) (λ k h. same k (omega arith)))
      (ap₂ (λ a b. a && not b) (would_bring-same m n place entry.0 (λ k h. same k (omega arith))) (ap is_refusal (same place (omega arith))))
      ∙ sym (brought_more (by n) place entry.0 entry.1)
      ∙ ap (brought_after (by n)) (add-one place)

  refusal_at-same : (m n : List Note) (place : ℕ) (e : Rte) → place ≤ length entries → SameBelow m n place → refusal_at (by m) place e ≡ refusal_at (by n) place e
  refusal_at-same m n place e fits same = ap₂ (refusal config gateway.iface e) (would_bring-same m n place e same) (brought_after-same m n place fits same)

  pub allowed_notes-same : (m n : List Note) (place : ℕ) (e : Rte) → place ≤ length entries → SameBelow m n place
      → allowed_notes (by m) place e ≡ allowed_notes (by n) place e
  allowed_notes-same m n place e fits same = ap (λ l. if is_next_hop e then None ∷ [] else l) (by_flaw (flaw e))
    where
      by_refusal : (f : Option NoteKind) → notes_by_refusal (by m) place e f ≡ notes_by_refusal (by n) place e f
      by_refusal (Some kind) = refl
      by_refusal None =
          ap₂ (λ b n. if b then (if nat_le table_limit n then Some TableFull ∷ [] else None ∷ Some NoMemory ∷ []) else None ∷ [])
          (would_add-same m n place e same) (held_after-same m n place fits same)

      by_flaw : (f : Option NoteKind) → notes_of_offer (by m) place e f ≡ notes_of_offer (by n) place e f
      by_flaw (Some kind) = refl
      by_flaw None = ap (notes_by_refusal (by m) place e) (refusal_at-same m n place e fits same) ∙ by_refusal (refusal_at (by n) place e)

  change_at-same : (m n : List Note) (place : ℕ) (e : Rte) → SameBelow m n (place + 1) → change_at (by m) place e ≡ change_at (by n) place e
  change_at-same m n place e same =
      ap₂ (λ old new. if is_offer e then change (prefix_named e) old new else None)
      (route_after-same m n place (λ k h. same k (omega arith)) (prefix_named e)) (route_after-same m n (place + 1) same (prefix_named e))

  pub changes_before-same : (m n : List Note) (place : ℕ) → place ≤ length entries → SameBelow m n place → changes_before (by m) place ≡ changes_before (by n) place
  changes_before-same m n zero fits same = refl
  changes_before-same m n (suc place) fits same =
      let entry : (e : Rte) × (slice_get entries place ≡ Some e) = at_place entries place (omega arith) in
      ap (changes_before (by m)) (sym (add-one place))
      ∙ changes_before-push (by m) place entry.0 entry.1
      ∙ ap₂ (λ cs c. cs ++ cons_option c [])
      (changes_before-same m n place (omega arith) (λ k h. same k (omega arith)))
      (change_at-same m n place entry.0 (λ k h. same k (omega arith)))
      ∙ sym (changes_before-push (by n) place entry.0 entry.1)
      ∙ ap (changes_before (by n)) (add-one place)
