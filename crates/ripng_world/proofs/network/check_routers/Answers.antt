use Rattle.std.proofs.Common.{◌≡◌, ℕ, [], ◌∷◌, ◌++◌, List, All, None, take, length, sym, subst, ap, ◌∙◌, arith, append_assoc}
use Rattle.std.proofs.lemmas.List.{length-append}
use Rattle.std.proofs.lemmas.Result.{err_from_is_err_and}
use Rattle.std.specs.Vec.Iter.{into_iter_items}
use Rattle.ripng_wire.specs.Wire.{first_reason}
use Rattle.router_core.specs.Config.{IsConfig, reasons_of_each}
use Rattle.router_core.proofs.ReasonsOfEach.{PassesBelow, passes_all, take_all}
use Rattle.ripng_world.specs.Network.{Node, HasNoLists, config_of}
use Rattle.ripng_world.specs.NetworkFaults.{faults_of_router, router_reasons}
use Rattle.ripng_world.proofs.NetworkLaws.{passes_on, fails_at, next_lawful}
use Rattle.ripng_world.proofs.network.check_routers.Goals as goal

pub returns-in_err-check_router-clause-refused : goal.returns-in_err-check_router-clause-refused
returns-in_err-check_router-clause-refused c =
    let p = err_from_is_err_and c.from_residual-in_err-check_router.result c.from_residual-in_err-check_router.ensures.1 in
    let nodes = into_iter_items c.into_iter-node-iterator.result in
    let taken = c.loop-node.routers.items in
    let is : taken ++ c.in-Some.node ∷ into_iter_items c.next.new.self ≡ nodes = ap (λ (ns : List Node). taken ++ ns) (sym c.in-Some.ensures.steps.0) ∙ c.loop-node.invariant.kept in
    rw (p.1, p.2) (λ other.
    ap (λ (ns : List Node). first_reason (reasons_of_each router_reasons ns)) (sym c.into_iter-node-iterator.ensures.into_iter_gives.0)
    ∙ fails_at nodes taken (into_iter_items c.next.new.self) c.in-Some.node c.len-number.result is (c.len-number.ensures ∙ c.loop-node.routers.ok.0) _
    (subst (λ (n : ℕ). PassesBelow router_reasons nodes n) (sym c.len-number.ensures) c.loop-node.invariant.passes) (c.in_err-check_router.ensures.refused other))

pub loop-node-preserved : goal.loop-node-preserved
loop-node-preserved c =
    let nodes = into_iter_items c.into_iter-node-iterator.result in
    let taken = c.loop-node.routers.items in
    let rest = into_iter_items c.next.new.self in
    let n = c.loop-node.routers.len in
    let is : taken ++ c.in-Some.node ∷ rest ≡ nodes = ap (λ (ns : List Node). taken ++ ns) (sym c.in-Some.ensures.steps.0) ∙ c.loop-node.invariant.kept in
    record {
      can_next = tt;
      is_finite = tt;
      kept =
          ap (λ (ns : List Node). ns ++ rest) c.push_reserved.ensures.items ∙ append_assoc taken (c.in_ok-check_router.field-0 ∷ []) rest
          ∙ ap (λ (m : Node). taken ++ m ∷ rest) c.in_ok-check_router.ensures.kept ∙ is;
      passes = subst (λ (k : ℕ). PassesBelow router_reasons nodes k) (sym c.push_reserved.ensures.len)
          (passes_on nodes taken rest c.in-Some.node n is c.loop-node.routers.ok.0 c.loop-node.invariant.passes
          (subst (λ (k : ℕ). first_reason (faults_of_router k c.in-Some.node) ≡ None) c.len-number.ensures c.in_ok-check_router.ensures.passes));
      lawful = subst (λ (k : ℕ). All (λ m. IsConfig (config_of m) × HasNoLists m) (take k nodes)) (sym c.push_reserved.ensures.len)
          (next_lawful nodes taken rest c.in-Some.node n is c.loop-node.routers.ok.0 c.loop-node.invariant.lawful c.in_ok-check_router.ensures.lawful);
      room = omega (arith, c.loop-node.invariant.room, ap length c.in-Some.ensures.steps.0, c.push_reserved.ensures.len, c.push_reserved.ensures.capacity);
    }

-- all were taken
all_taken : (c : goal.After-drop-node-iterator-2) → c.loop-node.routers.len ≡ length (into_iter_items c.into_iter-node-iterator.result)
all_taken c =
    let none_left = c.in-None.ensures.steps.0 in
    omega (arith, none_left, c.loop-node.node-iterator.rest.ok.0, c.loop-node.routers.ok.0, ap length c.loop-node.invariant.kept, length-append c.loop-node.routers.items (into_iter_items c.loop-node.node-iterator))

pub returns-clause-passes : goal.returns-clause-passes
returns-clause-passes c =
    ap (λ (ns : List Node). first_reason (reasons_of_each router_reasons ns)) (sym c.into_iter-node-iterator.ensures.into_iter_gives.0)
    ∙ passes_all router_reasons (into_iter_items c.into_iter-node-iterator.result) c.loop-node.routers.len (all_taken c) c.loop-node.invariant.passes

pub returns-clause-lawful : goal.returns-clause-lawful
returns-clause-lawful c =
    subst (All (λ m. IsConfig (config_of m) × HasNoLists m)) (take_all (into_iter_items c.into_iter-node-iterator.result) c.loop-node.routers.len (all_taken c) ∙ c.into_iter-node-iterator.ensures.into_iter_gives.0)
    c.loop-node.invariant.lawful
