use Rattle.std.proofs.Common.{◌≡◌, ◌<◌, ℕ, List, Some, filter, length, slice_get, refl, ap, subst, sym, ◌∙◌, arith}
use Rattle.std.specs.Prelude.{⊤}
use Rattle.std.proofs.lemmas.List.{take_all}
use Rattle.std.proofs.lemmas.Option.{slice_get-get_or}
use Rattle.route_table.proofs.TableLaws.{Some-same}
use Rattle.ripng_world.specs.AskedRounds.{interfaces_of, is_other}
use Rattle.ripng_world.specs.Labs.{LabValue}
use Rattle.ripng_world.specs.declared.event.Sent.{Sent}
use Rattle.ripng_phases.specs.Making.{IsHanded}
use Rattle.ripng_phases.specs.declared.refused.PhaseRefused.TheVariants.{OutOfMemory}
use Rattle.ripng_phases.proofs.Going.{handed}
use Rattle.ripng_phases.proofs.Handing.{none_handed, one_handed, stops_at}
use Rattle.ripng_phases.proofs.Outcomes.{goes_handed, handed_in_part, stops_here}
use Rattle.ripng_phases.proofs.acting.hand_on.Goals as goal

pub returns-in_default-clause-goes : goal.returns-in_default-clause-goes
returns-in_default-clause-goes g c =
    stops_here g.V.Observer.takes g.V.Observer.fails ⊤ OutOfMemory (c.args.lab.now, c.args.watch.now) c.args.course.now c.args.course.now (λ begin ends inside. tt)

pub loop-router-init : goal.loop-router-init
loop-router-init g c =
    record {
      network = refl;
      handed = none_handed g.V.Observer.takes c.args.lab.now.network (c.args.lab.now.world, c.args.watch.now) c.args.course.now.next c.args.course.now.moment c.keeps-keeps.result;
    }

pub returns-in_err-happen-clause-goes : goal.returns-in_err-happen-clause-goes
returns-in_err-happen-clause-goes g c =
    let why = c.in_err-happen.field-0.0 in
    goes_handed g.V.Observer.takes g.V.Observer.fails c.from_residual.result why (c.args.lab.now, c.args.watch.now) (c.happen.new.lab, c.happen.new.watch) c.args.course.now c.args.course.now c.args.course.now c.from_residual.ensures.1
    (λ s first begin u. handed_in_part g.V.Observer.takes g.V.Observer.fails s first begin c.args.course.now (c.args.lab.now, c.args.watch.now) (c.happen.new.lab, c.happen.new.watch) why u (c.in_err-happen.ensures.network ∙ c.loop-router.invariant.network)
    (stops_at g.V.Observer.takes c.args.lab.now.network (c.args.lab.now.world, c.args.watch.now) c.args.course.now.next c.args.course.now.moment c.keeps-keeps.result c.deref-router-items.result.now c.loop-router.router-index c.loop-router-test.true
    (c.loop-router.lab.world, c.loop-router.watch) c.loop-router.invariant.handed c.loop-router.lab.network c.loop-router.invariant.network (c.happen.new.lab.world, c.happen.new.watch) g.V.Observer.fails why c.in_err-happen.ensures.stopped c.in_err-happen.ensures.memory))

pub loop-router-preserved : goal.loop-router-preserved
loop-router-preserved g c =
    record {
      network = c.in_ok-happen.ensures.network ∙ c.loop-router.invariant.network;
      handed =
          one_handed g.V.Observer.takes c.args.lab.now.network (c.args.lab.now.world, c.args.watch.now) c.args.course.now.next c.args.course.now.moment c.keeps-keeps.result c.deref-router-items.result.now c.loop-router.router-index c.loop-router-test.true
          (c.loop-router.lab.world, c.loop-router.watch) c.loop-router.invariant.handed c.loop-router.lab.network c.loop-router.invariant.network (c.happen.new.lab.world, c.happen.new.watch) c.in_ok-happen.ensures.done;
    }

pub returns-clause-goes : goal.returns-clause-goes
returns-clause-goes g c = λ s first begin u.
    let net = c.args.lab.now.network in
    let next = c.args.course.now.next in
    let sent = c.index-sent-datagram.result in
    let sent_is : slice_get c.args.lab.now.world.sent next ≡ Some sent =
    ap (λ (ds : List Sent). slice_get ds next) (sym c.sent.ensures.value)
    ∙ slice_get-get_or c.sent.result.now next sent (subst (λ (ds : List Sent). next < length ds) (sym c.sent.ensures.value) c.requires.next) ∙ ap Some (sym c.index-sent-datagram.is) in
    let all = subst (λ (rs : List (ℕ × ℕ)). IsHanded g.V.Observer.takes net (c.args.lab.now.world, c.args.watch.now) next c.args.course.now.moment c.keeps-keeps.result rs (c.loop-router.lab.world, c.loop-router.watch))
    (take_all c.loop-router.router-index c.deref-router-items.result.now (omega (arith, c.loop-router-test.false))) c.loop-router.invariant.handed in
    handed g.V.Observer.takes s first begin c.args.course.now (c.args.lab.now, c.args.watch.now) (c.loop-router.lab, c.loop-router.watch) u c.loop-router.invariant.network c.keeps-keeps.result c.in-Ok.receivers.items
    (rw c.deref-router-items.ensures.value at all) _ c.keeps-keeps.ensures
    (λ d at. c.in-Ok.ensures ∙ ap (λ (l : LabValue). filter (is_other l.network sent) (interfaces_of l.network)) c.running.ensures ∙ ap (λ (x : Sent). filter (is_other net x) (interfaces_of net)) (Some-same sent d (sym sent_is ∙ at))) c.requires.next refl
