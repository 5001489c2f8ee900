-- What the tests of a network say of it.
use Rattle.std.proofs.Common.{◌≡◌, ℕ, ◌+◌, ◌<◌, Bool, true, false, cond, List, [], ◌∷◌, ◌++◌, map, take, length, All, Some, None, get_or, option_map, refl, ap, ap₂, sym, subst, ◌∙◌, arith}
use Rattle.std.proofs.lemmas.Grind.{flat_map-append}
use Rattle.std.proofs.lemmas.List.{append-nil, take_more, length-append}
use Rattle.std.proofs.lemmas.List.Elements.{All-more}
use Rattle.std.proofs.Math.Seq.{get_or-append_seam, take-append_seam}
use Rattle.ripng_wire.specs.Wire.{first_reason}
use Rattle.router_core.specs.Config.{IsConfig, reasons_of_each}
use Rattle.router_core.proofs.ReasonsOfEach.{PassesBelow, passes_more, fails_here}
use Rattle.ripng_world.specs.Network.{Node, HasNoLists, config_of}
use Rattle.ripng_world.specs.NetworkFaults.{addresses, faults_of_router, router_reasons}
use Rattle.ripng_world.specs.declared.network.NetInterface.{NetInterface}
use Rattle.ripng_world.specs.declared.network.NetRefused.{NetRefused}

-- the addresses of one more router
pub addresses_more : (nodes : List Node) (i : ℕ) (node : Node) (old new : List ℕ) → i < length nodes → node ≡ get_or nodes i node
    → old ≡ addresses (take i nodes) → new ≡ old ++ map (λ t. t.interface.addr) node.interfaces → new ≡ addresses (take (i + 1) nodes)
addresses_more nodes i node old new here is so_far more =
    let own : Node → List ℕ = λ n. map (λ (t : NetInterface). t.interface.addr) n.interfaces in
    more ∙ ap (λ (xs : List ℕ). xs ++ own node) so_far
    ∙ ap (λ (xs : List ℕ). addresses (take i nodes) ++ xs) (sym (append-nil (own node)))
    ∙ sym (flat_map-append own (take i nodes) (node ∷ []))
    ∙ ap (λ (ns : List Node). addresses (take i nodes ++ ns)) (ap (λ (n : Node). n ∷ []) is)
    ∙ ap addresses (sym (take_more nodes i node here))

-- ---- the tests of a router, with its number

pub first_reason-map : {F G : Type 0} (f : F → G) (ts : List (Bool × F)) → first_reason (map (λ t. (t.0, f t.1)) ts) ≡ option_map f (first_reason ts)
first_reason-map f [] = refl
first_reason-map f (t ∷ ts) = by_test t.0 (first_reason-map f ts)
  where
    by_test : (b : Bool) → first_reason (map (λ u. (u.0, f u.1)) ts) ≡ option_map f (first_reason ts)
        → cond b (Some (f t.1)) (first_reason (map (λ u. (u.0, f u.1)) ts)) ≡ option_map f (cond b (Some t.1) (first_reason ts))
    by_test true rest = refl
    by_test false rest = rest

-- the router behind those that were taken
module _ (nodes taken rest : List Node) (node : Node) (n : ℕ) (is : taken ++ node ∷ rest ≡ nodes) (size : n ≡ length taken) where
  next_within : n < length nodes
  next_within = omega (arith, size, ap length is, length-append taken (node ∷ rest))

  next_is : node ≡ get_or nodes n node
  next_is = sym (get_or-append_seam taken node rest node) ∙ ap₂ (λ (xs : List Node) (k : ℕ). get_or xs k node) is (sym size)

  next_number : length (take n nodes) ≡ n
  next_number = ap₂ (λ (k : ℕ) (xs : List Node). length (take k xs)) size (sym is) ∙ ap length (take-append_seam taken (node ∷ rest)) ∙ sym size

  pub next_lawful : All (λ m. IsConfig (config_of m) × HasNoLists m) (take n nodes) → IsConfig (config_of node) × HasNoLists node
      → All (λ m. IsConfig (config_of m) × HasNoLists m) (take (n + 1) nodes)
  next_lawful all here =
      All-more (λ m. IsConfig (config_of m) × HasNoLists m) nodes n node next_within all (subst (λ m. IsConfig (config_of m) × HasNoLists m) next_is here)

  pub passes_on : PassesBelow router_reasons nodes n → first_reason (faults_of_router n node) ≡ None → PassesBelow router_reasons nodes (n + 1)
  passes_on below passes = passes_more router_reasons nodes n node next_within next_is below (ap (λ (k : ℕ). first_reason (faults_of_router k node)) next_number ∙ passes)

  pub fails_at : (why : NetRefused) → PassesBelow router_reasons nodes n → first_reason (faults_of_router n node) ≡ Some why → first_reason (reasons_of_each router_reasons nodes) ≡ Some why
  fails_at why below fails = fails_here router_reasons nodes n node why next_within next_is below (ap (λ (k : ℕ). first_reason (faults_of_router k node)) next_number ∙ fails)
