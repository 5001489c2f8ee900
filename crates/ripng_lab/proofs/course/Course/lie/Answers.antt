use Rattle.std.proofs.Common.{◌≡◌, ◌∙◌, Err, Some, ap, length, subst, sym}
use Rattle.ripng_world.specs.Labs.{LabValue}
use Rattle.ripng_world.specs.World.{Stranger}
use Rattle.ripng_lab.specs.Asides.{Lie}
use Rattle.ripng_lab.specs.Doing.{HasDone, IsLie}
use Rattle.ripng_lab.specs.ScriptWatching.{IsToldOfLab, value_of}
use Rattle.ripng_lab.proofs.Doing.{lie_done}
use Rattle.ripng_lab.proofs.ScriptWatching.{failed_until, has_told, lie_failed, lied, told_from, untold, untold_as}
use Rattle.ripng_lab.proofs.course.Course.lie.Goals as goal

pub returns-in_default-clause-told : goal.returns-in_default-clause-told
returns-in_default-clause-told g c =
    has_told g.V.Watch.starts g.V.Observer.takes g.V.Observer.fails g.V.Watch.notes (Err c.from.result) (Some (value_of c.args.self.now.site), c.args.watch.now) (Some (value_of c.args.self.now.site), c.args.watch.now) (untold g.V.Watch.starts g.V.Observer.takes g.V.Observer.fails g.V.Watch.notes (Some (value_of c.args.self.now.site), c.args.watch.now))

pub returns-in_err-answer-clause-told : goal.returns-in_err-answer-clause-told
returns-in_err-answer-clause-told g c =
    let same : c.in-Lied.running ≡ (value_of c.args.self.now.site) = ap value_of (sym c.in-Lied.is) in
    untold_as g.V.Watch.starts g.V.Observer.takes g.V.Observer.fails g.V.Watch.notes c.from_residual.result (Some (value_of c.args.self.now.site)) (Some c.lie.new.self) c.args.watch.now (ap Some (c.in_err-answer.ensures.err ∙ same))

pub returns-in_err-noticed-clause-told : goal.returns-in_err-noticed-clause-told
returns-in_err-noticed-clause-told g c =
    let same : c.in-Lied.running ≡ (value_of c.args.self.now.site) = ap value_of (sym c.in-Lied.is) in
    told_from g.V.Watch.starts g.V.Observer.takes g.V.Observer.fails g.V.Watch.notes c.from_residual-in_err-noticed.result (Some (value_of c.args.self.now.site)) (Some c.in-Lied.running) c.args.watch.now (Some c.lie.new.self, c.noticed.new.self) (ap Some (sym same))
    (failed_until g.V.Watch.starts g.V.Observer.takes g.V.Observer.fails g.V.Watch.notes c.from_residual-in_err-noticed.result c.in_err-noticed.field-0.0 (Some c.in-Lied.running, c.args.watch.now) (Some c.lie.new.self, c.noticed.new.self)
    c.from_residual-in_err-noticed.ensures.1
    (lie_failed g.V.Watch.starts g.V.Observer.takes g.V.Observer.fails g.V.Watch.notes c.in-Lied.running c.lie.new.self c.args.router c.args.arrival c.in_ok-answer.answer c.args.watch.now c.noticed.new.self
    c.in_ok-answer.ensures.lies c.in_ok-answer.ensures.network c.in_err-noticed.ensures.broken))

pub returns-clause-told : goal.returns-clause-told
returns-clause-told g c =
    let same : c.in-Lied.running ≡ (value_of c.args.self.now.site) = ap value_of (sym c.in-Lied.is) in
    subst (λ (l : LabValue). IsToldOfLab g.V.Watch.starts g.V.Observer.takes g.V.Watch.notes (Some l, c.args.watch.now) (Some c.lie.new.self, c.noticed.new.self)) same
    (lied g.V.Watch.starts g.V.Observer.takes g.V.Observer.fails g.V.Watch.notes c.in-Lied.running c.lie.new.self c.args.router c.args.arrival c.in_ok-answer.answer _ c.args.watch.now c.noticed.new.self
    c.in_ok-answer.ensures.lies c.in_ok-answer.ensures.network (ap length c.sent-first.ensures)
    (subst (λ (l : LabValue). g.V.Watch.notes c.args.watch.now (Lie (record { lab = l; event = Stranger c.args.router c.args.arrival; answer = c.in_ok-answer.answer; first = length c.sent-first.result.now })) c.noticed.new.self) c.running-lab.ensures c.in_ok-noticed.ensures.notes))

pub returns-clause-done : goal.returns-clause-done
returns-clause-done g c =
    let same : c.in-Lied.running ≡ (value_of c.args.self.now.site) = ap value_of (sym c.in-Lied.is) in
    subst (λ (l : LabValue). HasDone (IsLie c.args.router c.args.arrival) g.V.Watch.starts g.V.Observer.takes g.V.Watch.notes (Some l, c.args.watch.now) (Some c.lie.new.self, c.noticed.new.self)) same
    (lie_done g.V.Watch.starts g.V.Observer.takes g.V.Observer.fails g.V.Watch.notes c.in-Lied.running c.lie.new.self c.args.router c.args.arrival c.in_ok-answer.answer _ c.args.watch.now c.noticed.new.self
    c.in_ok-answer.ensures.lies c.in_ok-answer.ensures.network (ap length c.sent-first.ensures)
    (subst (λ (l : LabValue). g.V.Watch.notes c.args.watch.now (Lie (record { lab = l; event = Stranger c.args.router c.args.arrival; answer = c.in_ok-answer.answer; first = length c.sent-first.result.now })) c.noticed.new.self) c.running-lab.ensures c.in_ok-noticed.ensures.notes))
