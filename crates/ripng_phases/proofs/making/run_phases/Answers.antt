use Rattle.std.proofs.Common.{◌≡◌, ℕ, ◌+◌, Bool, Option, length, refl, sym, subst, ◌∙◌, ap, arith}
use Rattle.ripng_phases.specs.Changing.{last_change}
use Rattle.ripng_phases.specs.Making.{AreMadePhases, HealsIn, LetsArriveIn}
use Rattle.ripng_phases.proofs.Together.{AreSoFar, all_arrive, all_heal, all_made, in_part, none_so_far, one_more}
use Rattle.ripng_phases.proofs.making.run_phases.Goals as goal
use Rattle.ripng_phases.proofs.making.run_phases.Goals.{then-stays, else-stays}

pub loop-done-init : goal.loop-done-init
loop-done-init g c =
    record {
      network = refl;
      so_far = none_so_far g.V.Observer.takes c.args.lab.now.network (c.args.lab.now.world, c.args.watch.now) _ _;
      begins = (c.latest-begin.result, c.latest-begin.ensures, omega arith);
      within = omega (arith, ap length c.sent-first.ensures.value);
    }

pub returns-in-Err-clause-stopped : goal.returns-in-Err-clause-stopped
returns-in-Err-clause-stopped g c =
    in_part g.V.Observer.takes c.args.lab.now.network (c.args.lab.now.world, c.args.watch.now) c.loop-done.done c.loop-done.begin c.loop-done.first c.loop-done.last (c.loop-done.lab, c.loop-done.watch) c.loop-done.invariant.so_far c.loop-done.invariant.network
    g.V.Observer.fails c.in-Err.stopped (c.make_phase.new.lab, c.make_phase.new.watch) c.loop-done.invariant.begins.0 c.loop-done.invariant.begins.1 c.loop-done.invariant.begins.2 c.in-Err.ensures.stopped

pub returns-in-Err-clause-network : goal.returns-in-Err-clause-network
returns-in-Err-clause-network g c = c.in-Err.ensures.stopped.network ∙ c.loop-done.invariant.network

pub loop-done-preserved : goal.loop-done-preserved
loop-done-preserved g c =
    let last_is : c.if-stays.last ≡ last_change c.loop-done.last c.in-Ok.stays c.loop-done.done = elim c.if-stays.branch [
      | then-stays w ↦ w.last-is ∙ sym (ap (λ (b : Bool). last_change c.loop-done.last b c.loop-done.done) w.if-stays.true)
      | else-stays w ↦ w.last-is ∙ sym (ap (λ (b : Bool). last_change c.loop-done.last b c.loop-done.done) w.if-stays.false)
    ] in
    record {
      network = c.in-Ok.ensures.made.network ∙ c.loop-done.invariant.network;
      so_far =
          subst (λ (last : Option ℕ). AreSoFar g.V.Observer.takes c.args.lab.now.network (c.args.lab.now.world, c.args.watch.now) (c.loop-done.done + 1) (c.loop-done.begin + 60_000) c.in-Ok.next last (c.make_phase.new.lab.world, c.make_phase.new.watch))
          (sym last_is)
          (one_more g.V.Observer.takes c.args.lab.now.network (c.args.lab.now.world, c.args.watch.now) c.loop-done.done c.loop-done.begin c.loop-done.first c.loop-done.last (c.loop-done.lab, c.loop-done.watch) c.loop-done.invariant.so_far
          c.loop-done.invariant.network c.in-Ok.next c.in-Ok.stays (c.make_phase.new.lab, c.make_phase.new.watch) c.in-Ok.ensures.made c.in-Ok.ensures.compared);
      begins = let b = c.loop-done.invariant.begins in (b.0, b.1, (let e = b.2 in omega (arith, e)));
      within = c.in-Ok.ensures.made.next_in;
    }

pub returns-clause-made : goal.returns-clause-made
returns-clause-made g c =
    let all : c.loop-done.done ≡ c.args.phases = omega (arith, c.loop-done-test.false, c.loop-done.auto.done-end) in
    subst (λ (n : ℕ). AreMadePhases g.V.Observer.takes c.args.lab.now.network (c.args.lab.now.world, c.args.watch.now) n c.loop-done.last (c.loop-done.lab.world, c.loop-done.watch)) all
    (all_made g.V.Observer.takes c.args.lab.now.network (c.args.lab.now.world, c.args.watch.now) c.loop-done.done c.loop-done.begin c.loop-done.first c.loop-done.last (c.loop-done.lab.world, c.loop-done.watch) c.loop-done.invariant.so_far)

pub returns-clause-heals : goal.returns-clause-heals
returns-clause-heals g c =
    let all : c.loop-done.done ≡ c.args.phases = omega (arith, c.loop-done-test.false, c.loop-done.auto.done-end) in
    subst (λ (n : ℕ). HealsIn c.args.lab.now.network c.args.lab.now.world n c.loop-done.lab.world) all
    (all_heal g.V.Observer.takes c.args.lab.now.network (c.args.lab.now.world, c.args.watch.now) c.loop-done.done c.loop-done.last (c.loop-done.lab.world, c.loop-done.watch) c.has_run.ensures
    (all_made g.V.Observer.takes c.args.lab.now.network (c.args.lab.now.world, c.args.watch.now) c.loop-done.done c.loop-done.begin c.loop-done.first c.loop-done.last (c.loop-done.lab.world, c.loop-done.watch) c.loop-done.invariant.so_far))

pub returns-clause-arrives : goal.returns-clause-arrives
returns-clause-arrives g c =
    let all : c.loop-done.done ≡ c.args.phases = omega (arith, c.loop-done-test.false, c.loop-done.auto.done-end) in
    subst (λ (n : ℕ). LetsArriveIn c.args.lab.now.network c.args.lab.now.world n c.loop-done.lab.world) all
    (all_arrive g.V.Observer.takes c.args.lab.now.network (c.args.lab.now.world, c.args.watch.now) c.loop-done.done c.loop-done.last (c.loop-done.lab.world, c.loop-done.watch) c.has_run.ensures
    (all_made g.V.Observer.takes c.args.lab.now.network (c.args.lab.now.world, c.args.watch.now) c.loop-done.done c.loop-done.begin c.loop-done.first c.loop-done.last (c.loop-done.lab.world, c.loop-done.watch) c.loop-done.invariant.so_far))
