use Rattle.std.proofs.Common.{ℕ, ◌≤◌, List, length, subst, arith}
use Rattle.std.specs.List.{flat_map}
use Rattle.router_core.specs.Output.{AreSpelled, asked_on}
use Rattle.router_core.specs.declared.config.Interface.{Interface}
use Rattle.router_core.proofs.HearingSteps.{at_place}
use Rattle.router_core.proofs.Sending.{AreSpelled-flat_map, take_all_numbered}
use Rattle.router_core.proofs.start.requests.Goals as goal

pub loop-iface-preserved : goal.loop-iface-preserved
loop-iface-preserved c =
    let i = c.loop-iface.iface in
    let xs = c.args.config.now.interfaces in
    let x = at_place xs i (omega (arith, c.loop-iface.invariant.end, c.loop-iface-test.true)) in
    record {
      end = c.loop-iface.invariant.end;
      few = omega (arith, c.loop-iface.invariant.few, c.in_ok-push_request.ensures.few);
      spelled = AreSpelled-flat_map (λ t. asked_on c.args.config.now t.0) xs i x.0
          c.loop-iface.sends.items c.push_request.new.sends.items x.1 c.loop-iface.invariant.spelled c.in_ok-push_request.ensures.spelled;
    }

pub returns-in_err-push_request-clause-free : goal.returns-in_err-push_request-clause-free
returns-in_err-push_request-clause-free c = λ all. let free = c.in_err-push_request.ensures.passive (all c.loop-iface.iface) in absurd (cc)

pub returns-clause-spelled : goal.returns-clause-spelled
returns-clause-spelled c =
    let xs = c.args.config.now.interfaces in
    let over : length xs ≤ c.loop-iface.iface = omega (arith, c.loop-iface.invariant.end, c.loop-iface-test.false) in
    subst (λ (ns : List (ℕ × Interface)). AreSpelled (flat_map (λ t. asked_on c.args.config.now t.0) ns) c.loop-iface.sends.items)
    (take_all_numbered xs c.loop-iface.iface over) c.loop-iface.invariant.spelled
