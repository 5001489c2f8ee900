-- The offers of some entries of a Response, and of one entry more.
use Rattle.std.proofs.Common.{◌≡◌, ℕ, ◌+◌, Bool, true, false, cond, not, ◌&&◌, List, [], ◌∷◌, ◌++◌, map, take, filter, length, Some, None, is_none, slice_get, refl, ap, ap₂, ◌∙◌, arith, add-one, append-nil}
use Rattle.std.specs.List.{enumerate_from}
use Rattle.std.proofs.lemmas.List.{map-append, take_all}
use Rattle.std.proofs.lemmas.List.Elements.{filter-append}
use Rattle.std.proofs.lemmas.List.FromFn.{length-enumerate_from}
use Rattle.ripng_wire.specs.declared.rte.Rte.{Rte}
use Rattle.ripng_wire.specs.Layout.{is_next_hop}
use Rattle.router_core.specs.Adoption.{Gateway}
use Rattle.router_core.specs.Config.{Config}
use Rattle.router_core.specs.Offering.{Offered, all_offered, offered_at, offered_by}
use Rattle.router_core.specs.Offers.{is_offer, flaw}
use Rattle.router_core.specs.declared.answer.NoteKind.{NoteKind}
use Rattle.router_core.proofs.HearingSteps.{numbered_at, take_push}

module _ (config : Config) (g : Gateway) (entries : List Rte) where
  -- the offers of the entries before a place
  abbrev pub offered_before : ℕ → List Offered
  offered_before place = offered_by config g entries (take place (enumerate_from 0 entries))

  pub offered_all : (place : ℕ) → place ≡ length entries → offered_before place ≡ all_offered config g entries
  offered_all place all = ap (offered_by config g entries) (take_all place (enumerate_from 0 entries) (omega (arith, all, length-enumerate_from 0 entries)))

  module _ (place : ℕ) (e : Rte) (is : slice_get entries place ≡ Some e) where
    abbrev alone : Bool → List Offered
    alone b = cond b (offered_at config g entries place e ∷ []) []

    one : (b : Bool) → map (λ (t : ℕ × Rte). offered_at config g entries t.0 t.1) (cond b ((place, e) ∷ []) []) ≡ alone b
    one true = refl
    one false = refl

    next : offered_before (place + 1) ≡ offered_before place ++ alone (is_offer e)
    next =
        ap offered_before (add-one place)
        ∙ ap (offered_by config g entries) (take_push (enumerate_from 0 entries) place (place, e) (numbered_at 0 entries place e is ∙ ap (λ (m : ℕ). Some (m, e)) (omega arith)))
        ∙ ap (map (λ (t : ℕ × Rte). offered_at config g entries t.0 t.1)) (filter-append (λ (t : ℕ × Rte). is_offer t.1) (take place (enumerate_from 0 entries)) ((place, e) ∷ []))
        ∙ map-append (λ (t : ℕ × Rte). offered_at config g entries t.0 t.1) (filter (λ (t : ℕ × Rte). is_offer t.1) (take place (enumerate_from 0 entries))) (filter (λ (t : ℕ × Rte). is_offer t.1) ((place, e) ∷ []))
        ∙ ap (λ l. offered_before place ++ l) (one (is_offer e))

    no_offer : is_offer e ≡ false → offered_before (place + 1) ≡ offered_before place
    no_offer none = next ∙ ap (λ b. offered_before place ++ alone b) none ∙ append-nil (offered_before place)

    -- a next hop entry, and one with a flaw, offer nothing
    pub offered-hop : is_next_hop e ≡ true → offered_before (place + 1) ≡ offered_before place
    offered-hop hop = no_offer (ap (λ b. not b && is_none (flaw e)) hop)

    pub offered-flawed : (kind : NoteKind) → flaw e ≡ Some kind → is_next_hop e ≡ false → offered_before (place + 1) ≡ offered_before place
    offered-flawed kind flawed not_hop = no_offer (ap₂ (λ b f. not b && is_none f) not_hop flawed)

    -- any other offers a route
    pub offered-next : is_next_hop e ≡ false → flaw e ≡ None → offered_before (place + 1) ≡ offered_before place ++ offered_at config g entries place e ∷ []
    offered-next not_hop flawless = next ∙ ap (λ b. offered_before place ++ alone b) (ap₂ (λ b f. not b && is_none f) not_hop flawless)
