use Rattle.std.proofs.Common.{Some, OnOk, ap, refl, subst}
use Rattle.ripng_world.specs.World.{Event}
use Rattle.ripng_lab.specs.Doing.{HasDone, IsEvent, MeansAct}
use Rattle.ripng_lab.specs.declared.forms.Action.TheVariants as action
use Rattle.ripng_lab.specs.ScriptWatching.{value_of}
use Rattle.ripng_lab.specs.declared.plan.Ticking.TheVariants as ticking
use Rattle.ripng_lab.specs.declared.course.Site.{Site}
use Rattle.ripng_lab.proofs.Doing.{act_done, arrival_done, still_done}
use Rattle.ripng_lab.proofs.ScriptWatching.{untold, untold_as, has_told}
use Rattle.ripng_lab.proofs.Waving.{wave_done}
use Rattle.ripng_lab.proofs.course.Course.act.Goals as goal

pub returns-in-Expect-clause-told : goal.returns-in-Expect-clause-told
returns-in-Expect-clause-told g c =
    has_told g.V.Watch.starts g.V.Observer.takes g.V.Observer.fails g.V.Watch.notes c.expect.result (Some (value_of c.args.self.now.site), c.args.watch.now) (Some (value_of c.args.self.now.site), c.args.watch.now) (untold g.V.Watch.starts g.V.Observer.takes g.V.Observer.fails g.V.Watch.notes (Some (value_of c.args.self.now.site), c.args.watch.now))

pub returns-in-ExpectPath-clause-told : goal.returns-in-ExpectPath-clause-told
returns-in-ExpectPath-clause-told g c =
    has_told g.V.Watch.starts g.V.Observer.takes g.V.Observer.fails g.V.Watch.notes c.expect_fate.result (Some (value_of c.args.self.now.site), c.args.watch.now) (Some (value_of c.args.self.now.site), c.args.watch.now) (untold g.V.Watch.starts g.V.Observer.takes g.V.Observer.fails g.V.Watch.notes (Some (value_of c.args.self.now.site), c.args.watch.now))

pub returns-in_err-way-in-Path-clause-told : goal.returns-in_err-way-in-Path-clause-told
returns-in_err-way-in-Path-clause-told g c =
    has_told g.V.Watch.starts g.V.Observer.takes g.V.Observer.fails g.V.Watch.notes c.from_residual-in_err-way-in-Path.result (Some (value_of c.args.self.now.site), c.args.watch.now) (Some (value_of c.args.self.now.site), c.args.watch.now) (untold g.V.Watch.starts g.V.Observer.takes g.V.Observer.fails g.V.Watch.notes (Some (value_of c.args.self.now.site), c.args.watch.now))

pub returns-in-Silent-clause-told : goal.returns-in-Silent-clause-told
returns-in-Silent-clause-told g c =
    untold_as g.V.Watch.starts g.V.Observer.takes g.V.Observer.fails g.V.Watch.notes c.set_silent.result (Some (value_of c.args.self.now.site)) (Some (value_of c.set_silent.new.self.site)) c.args.watch.now (ap (λ (s : Site). Some (value_of s)) c.set_silent.ensures.site)

pub returns-in-Cut-clause-told : goal.returns-in-Cut-clause-told
returns-in-Cut-clause-told g c =
    untold_as g.V.Watch.starts g.V.Observer.takes g.V.Observer.fails g.V.Watch.notes c.set_cut.result (Some (value_of c.args.self.now.site)) (Some (value_of c.set_cut.new.self.site)) c.args.watch.now (ap (λ (s : Site). Some (value_of s)) c.set_cut.ensures.site)

pub returns-in_err-check_event-in-Step-clause-told : goal.returns-in_err-check_event-in-Step-clause-told
returns-in_err-check_event-in-Step-clause-told g c =
    has_told g.V.Watch.starts g.V.Observer.takes g.V.Observer.fails g.V.Watch.notes c.from_residual.result (Some (value_of c.args.self.now.site), c.args.watch.now) (Some (value_of c.args.self.now.site), c.args.watch.now) (untold g.V.Watch.starts g.V.Observer.takes g.V.Observer.fails g.V.Watch.notes (Some (value_of c.args.self.now.site), c.args.watch.now))

pub returns-in_err-bytes-in-Arrive-clause-told : goal.returns-in_err-bytes-in-Arrive-clause-told
returns-in_err-bytes-in-Arrive-clause-told g c =
    has_told g.V.Watch.starts g.V.Observer.takes g.V.Observer.fails g.V.Watch.notes c.from_residual-in_err-bytes-in-Arrive.result (Some (value_of c.args.self.now.site), c.args.watch.now) (Some (value_of c.args.self.now.site), c.args.watch.now) (untold g.V.Watch.starts g.V.Observer.takes g.V.Observer.fails g.V.Watch.notes (Some (value_of c.args.self.now.site), c.args.watch.now))

pub returns-in-AtLink-clause-done : goal.returns-in-AtLink-clause-done
returns-in-AtLink-clause-done g c =
    act_done g.V.Watch.starts g.V.Observer.takes g.V.Observer.fails g.V.Watch.notes c.happen_at_link.result c.args.action (action.AtLink c.in-AtLink.kind) c.args.line.now (Some (value_of c.args.self.now.site), c.args.watch.now) (Some (value_of c.happen_at_link.new.self.site), c.happen_at_link.new.watch) c.in-AtLink.is
    c.happen_at_link.ensures.done

pub returns-in-Tell-clause-done : goal.returns-in-Tell-clause-done
returns-in-Tell-clause-done g c =
    act_done g.V.Watch.starts g.V.Observer.takes g.V.Observer.fails g.V.Watch.notes c.make_wave.result c.args.action action.Tell c.args.line.now (Some (value_of c.args.self.now.site), c.args.watch.now) (Some (value_of c.make_wave.new.self.site), c.make_wave.new.watch) c.in-Tell.is
    (wave_done g.V.Watch.starts g.V.Observer.takes g.V.Observer.fails g.V.Watch.notes c.make_wave.result (MeansAct action.Tell c.args.line.now) c.wave.result (ticking.One c.args.line.now.router c.args.line.now.word) c.args.line.now.now c.args.self.now.outages (Some (value_of c.args.self.now.site), c.args.watch.now) (Some (value_of c.make_wave.new.self.site), c.make_wave.new.watch)
    c.wave.ensures.ticking c.wave.ensures.moment (λ ts routers w. w) c.make_wave.ensures.done)

pub returns-in-Hear-clause-done : goal.returns-in-Hear-clause-done
returns-in-Hear-clause-done g c =
    act_done g.V.Watch.starts g.V.Observer.takes g.V.Observer.fails g.V.Watch.notes c.make_wave-in-Hear.result c.args.action action.Hear c.args.line.now (Some (value_of c.args.self.now.site), c.args.watch.now) (Some (value_of c.make_wave-in-Hear.new.self.site), c.make_wave-in-Hear.new.watch) c.in-Hear.is
    (wave_done g.V.Watch.starts g.V.Observer.takes g.V.Observer.fails g.V.Watch.notes c.make_wave-in-Hear.result (MeansAct action.Hear c.args.line.now) c.wave-in-Hear.result ticking.Nobody c.args.line.now.now c.args.self.now.outages (Some (value_of c.args.self.now.site), c.args.watch.now) (Some (value_of c.make_wave-in-Hear.new.self.site), c.make_wave-in-Hear.new.watch)
    c.wave-in-Hear.ensures.ticking c.wave-in-Hear.ensures.moment (λ ts routers w. w) c.make_wave-in-Hear.ensures.done)

pub returns-in-Round-clause-done : goal.returns-in-Round-clause-done
returns-in-Round-clause-done g c =
    act_done g.V.Watch.starts g.V.Observer.takes g.V.Observer.fails g.V.Watch.notes c.make_wave-in-Round.result c.args.action action.Round c.args.line.now (Some (value_of c.args.self.now.site), c.args.watch.now) (Some (value_of c.make_wave-in-Round.new.self.site), c.make_wave-in-Round.new.watch) c.in-Round.is
    (wave_done g.V.Watch.starts g.V.Observer.takes g.V.Observer.fails g.V.Watch.notes c.make_wave-in-Round.result (MeansAct action.Round c.args.line.now) c.wave-in-Round.result ticking.All c.args.line.now.now c.args.self.now.outages (Some (value_of c.args.self.now.site), c.args.watch.now) (Some (value_of c.make_wave-in-Round.new.self.site), c.make_wave-in-Round.new.watch)
    c.wave-in-Round.ensures.ticking c.wave-in-Round.ensures.moment (λ ts routers w. (c.args.self.now.outages, routers, w)) c.make_wave-in-Round.ensures.done)

pub returns-in-Rounds-clause-done : goal.returns-in-Rounds-clause-done
returns-in-Rounds-clause-done g c =
    act_done g.V.Watch.starts g.V.Observer.takes g.V.Observer.fails g.V.Watch.notes c.go_round.result c.args.action action.Rounds c.args.line.now (Some (value_of c.args.self.now.site), c.args.watch.now) (Some (value_of c.go_round.new.self.site), c.go_round.new.watch) c.in-Rounds.is
    c.go_round.ensures.done

pub returns-in-Phases-clause-done : goal.returns-in-Phases-clause-done
returns-in-Phases-clause-done g c =
    act_done g.V.Watch.starts g.V.Observer.takes g.V.Observer.fails g.V.Watch.notes c.make_phases.result c.args.action action.Phases c.args.line.now (Some (value_of c.args.self.now.site), c.args.watch.now) (Some (value_of c.make_phases.new.self.site), c.make_phases.new.watch) c.in-Phases.is
    c.make_phases.ensures.done

pub returns-in-Lose-clause-done : goal.returns-in-Lose-clause-done
returns-in-Lose-clause-done g c =
    act_done g.V.Watch.starts g.V.Observer.takes g.V.Observer.fails g.V.Watch.notes c.lose.result c.args.action action.Lose c.args.line.now (Some (value_of c.args.self.now.site), c.args.watch.now) (Some (value_of c.lose.new.self.site), c.lose.new.watch) c.in-Lose.is
    c.lose.ensures.done

pub returns-in-PrintAll-clause-done : goal.returns-in-PrintAll-clause-done
returns-in-PrintAll-clause-done g c =
    act_done g.V.Watch.starts g.V.Observer.takes g.V.Observer.fails g.V.Watch.notes c.print.result c.args.action action.PrintAll c.args.line.now (Some (value_of c.args.self.now.site), c.args.watch.now) (Some (value_of c.args.self.now.site), c.print.new.watch) c.in-PrintAll.is
    c.print.ensures.done

pub returns-in-PrintRouter-clause-done : goal.returns-in-PrintRouter-clause-done
returns-in-PrintRouter-clause-done g c =
    act_done g.V.Watch.starts g.V.Observer.takes g.V.Observer.fails g.V.Watch.notes c.print-in-PrintRouter.result c.args.action action.PrintRouter c.args.line.now (Some (value_of c.args.self.now.site), c.args.watch.now) (Some (value_of c.args.self.now.site), c.print-in-PrintRouter.new.watch) c.in-PrintRouter.is
    c.print-in-PrintRouter.ensures.done

pub returns-in-PrintRoute-clause-done : goal.returns-in-PrintRoute-clause-done
returns-in-PrintRoute-clause-done g c =
    act_done g.V.Watch.starts g.V.Observer.takes g.V.Observer.fails g.V.Watch.notes c.print-in-PrintRoute.result c.args.action action.PrintRoute c.args.line.now (Some (value_of c.args.self.now.site), c.args.watch.now) (Some (value_of c.args.self.now.site), c.print-in-PrintRoute.new.watch) c.in-PrintRoute.is
    c.print-in-PrintRoute.ensures.done

pub returns-in-PrintAllSent-clause-done : goal.returns-in-PrintAllSent-clause-done
returns-in-PrintAllSent-clause-done g c =
    act_done g.V.Watch.starts g.V.Observer.takes g.V.Observer.fails g.V.Watch.notes c.show_sent.result c.args.action action.PrintAllSent c.args.line.now (Some (value_of c.args.self.now.site), c.args.watch.now) (Some (value_of c.args.self.now.site), c.show_sent.new.watch) c.in-PrintAllSent.is
    c.show_sent.ensures.done

pub returns-in-PrintSent-clause-done : goal.returns-in-PrintSent-clause-done
returns-in-PrintSent-clause-done g c =
    act_done g.V.Watch.starts g.V.Observer.takes g.V.Observer.fails g.V.Watch.notes c.show_sent-in-PrintSent.result c.args.action action.PrintSent c.args.line.now (Some (value_of c.args.self.now.site), c.args.watch.now) (Some (value_of c.args.self.now.site), c.show_sent-in-PrintSent.new.watch) c.in-PrintSent.is
    c.show_sent-in-PrintSent.ensures.done

pub returns-in-Say-clause-done : goal.returns-in-Say-clause-done
returns-in-Say-clause-done g c =
    act_done g.V.Watch.starts g.V.Observer.takes g.V.Observer.fails g.V.Watch.notes c.tell.result c.args.action action.Say c.args.line.now (Some (value_of c.args.self.now.site), c.args.watch.now) (Some (value_of c.args.self.now.site), c.tell.new.watch) c.in-Say.is
    c.tell.ensures.done

pub returns-in_ok-way-in-Path-clause-done : goal.returns-in_ok-way-in-Path-clause-done
returns-in_ok-way-in-Path-clause-done g c =
    act_done g.V.Watch.starts g.V.Observer.takes g.V.Observer.fails g.V.Watch.notes c.tell-in-Path.result c.args.action action.Path c.args.line.now (Some (value_of c.args.self.now.site), c.args.watch.now) (Some (value_of c.args.self.now.site), c.tell-in-Path.new.watch) c.in-Path.is
    c.tell-in-Path.ensures.done

pub returns-in-Silent-clause-done : goal.returns-in-Silent-clause-done
returns-in-Silent-clause-done g c =
    act_done g.V.Watch.starts g.V.Observer.takes g.V.Observer.fails g.V.Watch.notes c.set_silent.result c.args.action (action.Silent c.in-Silent.silent) c.args.line.now (Some (value_of c.args.self.now.site), c.args.watch.now) (Some (value_of c.set_silent.new.self.site), c.args.watch.now) c.in-Silent.is
    (still_done g.V.Watch.starts g.V.Observer.takes g.V.Observer.fails g.V.Watch.notes c.set_silent.result (Some (value_of c.args.self.now.site)) (Some (value_of c.set_silent.new.self.site)) c.args.watch.now (ap (λ (s : Site). Some (value_of s)) c.set_silent.ensures.site))

pub returns-in-Cut-clause-done : goal.returns-in-Cut-clause-done
returns-in-Cut-clause-done g c =
    act_done g.V.Watch.starts g.V.Observer.takes g.V.Observer.fails g.V.Watch.notes c.set_cut.result c.args.action (action.Cut c.in-Cut.cut) c.args.line.now (Some (value_of c.args.self.now.site), c.args.watch.now) (Some (value_of c.set_cut.new.self.site), c.args.watch.now) c.in-Cut.is
    (still_done g.V.Watch.starts g.V.Observer.takes g.V.Observer.fails g.V.Watch.notes c.set_cut.result (Some (value_of c.args.self.now.site)) (Some (value_of c.set_cut.new.self.site)) c.args.watch.now (ap (λ (s : Site). Some (value_of s)) c.set_cut.ensures.site))

pub returns-in-Expect-clause-done : goal.returns-in-Expect-clause-done
returns-in-Expect-clause-done g c =
    act_done g.V.Watch.starts g.V.Observer.takes g.V.Observer.fails g.V.Watch.notes c.expect.result c.args.action action.Expect c.args.line.now (Some (value_of c.args.self.now.site), c.args.watch.now) (Some (value_of c.args.self.now.site), c.args.watch.now) c.in-Expect.is
    (still_done g.V.Watch.starts g.V.Observer.takes g.V.Observer.fails g.V.Watch.notes c.expect.result (Some (value_of c.args.self.now.site)) (Some (value_of c.args.self.now.site)) c.args.watch.now refl)

pub returns-in-ExpectPath-clause-done : goal.returns-in-ExpectPath-clause-done
returns-in-ExpectPath-clause-done g c =
    act_done g.V.Watch.starts g.V.Observer.takes g.V.Observer.fails g.V.Watch.notes c.expect_fate.result c.args.action action.ExpectPath c.args.line.now (Some (value_of c.args.self.now.site), c.args.watch.now) (Some (value_of c.args.self.now.site), c.args.watch.now) c.in-ExpectPath.is
    (still_done g.V.Watch.starts g.V.Observer.takes g.V.Observer.fails g.V.Watch.notes c.expect_fate.result (Some (value_of c.args.self.now.site)) (Some (value_of c.args.self.now.site)) c.args.watch.now refl)

pub returns-in_ok-check_event-in-Step-clause-done : goal.returns-in_ok-check_event-in-Step-clause-done
returns-in_ok-check_event-in-Step-clause-done g c =
    act_done g.V.Watch.starts g.V.Observer.takes g.V.Observer.fails g.V.Watch.notes c.step.result c.args.action (action.Step c.in-Step.kind) c.args.line.now (Some (value_of c.args.self.now.site), c.args.watch.now) (Some (value_of c.step.new.self.site), c.step.new.watch) c.in-Step.is
    (subst (λ (e : Event). OnOk c.step.result (HasDone (IsEvent e) g.V.Watch.starts g.V.Observer.takes g.V.Watch.notes (Some (value_of c.args.self.now.site), c.args.watch.now) (Some (value_of c.step.new.self.site), c.step.new.watch))) c.event-event.ensures c.step.ensures.done)

pub returns-in_ok-bytes-in-Arrive-clause-done : goal.returns-in_ok-bytes-in-Arrive-clause-done
returns-in_ok-bytes-in-Arrive-clause-done g c =
    act_done g.V.Watch.starts g.V.Observer.takes g.V.Observer.fails g.V.Watch.notes c.step-in-Arrive.result c.args.action action.Arrive c.args.line.now (Some (value_of c.args.self.now.site), c.args.watch.now) (Some (value_of c.step-in-Arrive.new.self.site), c.step-in-Arrive.new.watch) c.in-Arrive.is
    (arrival_done g.V.Watch.starts g.V.Observer.takes g.V.Observer.fails g.V.Watch.notes c.step-in-Arrive.result c.args.line.now c.arrival-arrival.result _ (Some (value_of c.args.self.now.site), c.args.watch.now) (Some (value_of c.step-in-Arrive.new.self.site), c.step-in-Arrive.new.watch) c.arrival-arrival.ensures c.step-in-Arrive.ensures.done)

pub returns-in-Carry-clause-told : goal.returns-in-Carry-clause-told
returns-in-Carry-clause-told g c =
    untold_as g.V.Watch.starts g.V.Observer.takes g.V.Observer.fails g.V.Watch.notes c.carry.result (Some (value_of c.args.self.now.site)) (Some (value_of c.carry.new.self.site)) c.args.watch.now (ap (λ (s : Site). Some (value_of s)) c.carry.ensures.site)

pub returns-in-Carry-clause-done : goal.returns-in-Carry-clause-done
returns-in-Carry-clause-done g c =
    act_done g.V.Watch.starts g.V.Observer.takes g.V.Observer.fails g.V.Watch.notes c.carry.result c.args.action action.Carry c.args.line.now (Some (value_of c.args.self.now.site), c.args.watch.now) (Some (value_of c.carry.new.self.site), c.args.watch.now) c.in-Carry.is
    (still_done g.V.Watch.starts g.V.Observer.takes g.V.Observer.fails g.V.Watch.notes c.carry.result (Some (value_of c.args.self.now.site)) (Some (value_of c.carry.new.self.site)) c.args.watch.now (ap (λ (s : Site). Some (value_of s)) c.carry.ensures.site))

pub returns-in-Run-clause-done : goal.returns-in-Run-clause-done
returns-in-Run-clause-done g c =
    act_done g.V.Watch.starts g.V.Observer.takes g.V.Observer.fails g.V.Watch.notes c.pass_time.result c.args.action action.Run c.args.line.now (Some (value_of c.args.self.now.site), c.args.watch.now) (Some (value_of c.pass_time.new.self.site), c.pass_time.new.watch) c.in-Run.is
    c.pass_time.ensures.done

pub returns-in-Count-clause-done : goal.returns-in-Count-clause-done
returns-in-Count-clause-done g c =
    act_done g.V.Watch.starts g.V.Observer.takes g.V.Observer.fails g.V.Watch.notes c.count.result c.args.action action.Count c.args.line.now (Some (value_of c.args.self.now.site), c.args.watch.now) (Some (value_of c.args.self.now.site), c.count.new.watch) c.in-Count.is
    c.count.ensures.done

pub returns-in-ExpectSettled-clause-told : goal.returns-in-ExpectSettled-clause-told
returns-in-ExpectSettled-clause-told g c =
    has_told g.V.Watch.starts g.V.Observer.takes g.V.Observer.fails g.V.Watch.notes c.settle.result (Some (value_of c.args.self.now.site), c.args.watch.now) (Some (value_of c.args.self.now.site), c.args.watch.now) (untold g.V.Watch.starts g.V.Observer.takes g.V.Observer.fails g.V.Watch.notes (Some (value_of c.args.self.now.site), c.args.watch.now))

pub returns-in-ExpectSettled-clause-done : goal.returns-in-ExpectSettled-clause-done
returns-in-ExpectSettled-clause-done g c =
    act_done g.V.Watch.starts g.V.Observer.takes g.V.Observer.fails g.V.Watch.notes c.settle.result c.args.action action.ExpectSettled c.args.line.now (Some (value_of c.args.self.now.site), c.args.watch.now) (Some (value_of c.args.self.now.site), c.args.watch.now) c.in-ExpectSettled.is
    (still_done g.V.Watch.starts g.V.Observer.takes g.V.Observer.fails g.V.Watch.notes c.settle.result (Some (value_of c.args.self.now.site)) (Some (value_of c.args.self.now.site)) c.args.watch.now refl)

pub returns-in-ExpectHealed-clause-told : goal.returns-in-ExpectHealed-clause-told
returns-in-ExpectHealed-clause-told g c =
    has_told g.V.Watch.starts g.V.Observer.takes g.V.Observer.fails g.V.Watch.notes c.expect_healed.result (Some (value_of c.args.self.now.site), c.args.watch.now) (Some (value_of c.args.self.now.site), c.args.watch.now) (untold g.V.Watch.starts g.V.Observer.takes g.V.Observer.fails g.V.Watch.notes (Some (value_of c.args.self.now.site), c.args.watch.now))

pub returns-in-ExpectHealed-clause-done : goal.returns-in-ExpectHealed-clause-done
returns-in-ExpectHealed-clause-done g c =
    act_done g.V.Watch.starts g.V.Observer.takes g.V.Observer.fails g.V.Watch.notes c.expect_healed.result c.args.action action.ExpectHealed c.args.line.now (Some (value_of c.args.self.now.site), c.args.watch.now) (Some (value_of c.args.self.now.site), c.args.watch.now) c.in-ExpectHealed.is
    (still_done g.V.Watch.starts g.V.Observer.takes g.V.Observer.fails g.V.Watch.notes c.expect_healed.result (Some (value_of c.args.self.now.site)) (Some (value_of c.args.self.now.site)) c.args.watch.now refl)
