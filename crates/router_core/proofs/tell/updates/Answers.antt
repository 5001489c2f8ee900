use Rattle.std.proofs.Common.{◌≡◌, ℕ, ◌+◌, ◌*◌, ◌≤◌, List, length, Some, ap, subst, ◌∙◌, arith, add-one, mul-suc}
use Rattle.std.specs.List.{enumerate_from, flat_map}
use Rattle.std.specs.FinMap.{len}
use Rattle.router_core.specs.Output.{AreSpelled, selected, update_on}
use Rattle.router_core.specs.Settling.{settled_table}
use Rattle.router_core.specs.declared.config.Interface.{Interface}
use Rattle.router_core.proofs.HearingSteps.{at_place, numbered_at}
use Rattle.router_core.proofs.Sending.{AreSpelled-flat_map, take_all_numbered}
use Rattle.router_core.proofs.Silence.{none_on}
use Rattle.router_core.proofs.tell.updates.Goals as goal

pub loop-iface-preserved : goal.loop-iface-preserved
loop-iface-preserved g c =
    let xs = c.args.config.now.interfaces in
    let i = c.loop-iface.iface in
    let stored = g.S.RouteStore.table c.args.store.now in
    let t = settled_table c.args.now c.args.which stored in
    let x = at_place xs i (omega (arith, c.loop-iface.invariant.end, c.loop-iface-test.true)) in
    record {
      end = c.loop-iface.invariant.end;
      spelled = AreSpelled-flat_map (λ u. update_on c.args.config.now (selected c.args.which) t u.0) xs i x.0
          c.loop-iface.sends.items c.push_update_on.new.sends.items x.1 c.loop-iface.invariant.spelled c.in_ok-push_update_on.ensures.spelled;
      few =
          let next : len stored * (i + 1) ≡ len stored * i + len stored = ap (λ n. len stored * n) (add-one i) ∙ mul-suc (len stored) i in
          omega (arith, next, c.loop-iface.invariant.few, c.in_ok-push_update_on.ensures.few);
    }

pub returns-in_err-push_update_on-clause-silent_is_free : goal.returns-in_err-push_update_on-clause-silent_is_free
returns-in_err-push_update_on-clause-silent_is_free g c = λ silent.
    let xs = c.args.config.now.interfaces in
    let i = c.loop-iface.iface in
    let t = settled_table c.args.now c.args.which (g.S.RouteStore.table c.args.store.now) in
    let x = at_place xs i (omega (arith, c.loop-iface.invariant.end, c.loop-iface-test.true)) in
    let here = numbered_at 0 xs i x.0 x.1 ∙ ap (λ (m : ℕ). Some (m, x.0)) (omega arith) in
    let free = c.in_err-push_update_on.ensures.silent_is_free
    (none_on (λ (u : ℕ × Interface). update_on c.args.config.now (selected c.args.which) t u.0) (enumerate_from 0 xs) i (i, x.0) silent here) in
    absurd (cc)

pub returns-clause-spelled : goal.returns-clause-spelled
returns-clause-spelled g c =
    let xs = c.args.config.now.interfaces in
    let t = settled_table c.args.now c.args.which (g.S.RouteStore.table c.args.store.now) in
    let over : length xs ≤ c.loop-iface.iface = omega (arith, c.loop-iface.invariant.end, c.loop-iface-test.false) in
    subst (λ (ns : List (ℕ × Interface)). AreSpelled (flat_map (λ u. update_on c.args.config.now (selected c.args.which) t u.0) ns) c.loop-iface.sends.items)
    (take_all_numbered xs c.loop-iface.iface over) c.loop-iface.invariant.spelled
