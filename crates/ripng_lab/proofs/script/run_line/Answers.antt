use Rattle.std.proofs.Common.{◌≡◌, Bool, ap, ap₂, is_some}
use Rattle.ripng_lab.specs.Scripts.{mode_of}
use Rattle.ripng_lab.specs.ScriptWatching.{lab_in}
use Rattle.ripng_lab.proofs.Saying.{blank_done, says_done, told_done}
use Rattle.ripng_lab.proofs.ScriptWatching.{handed, has_told_on}
use Rattle.ripng_lab.proofs.script.run_line.Goals as goal

pub returns-then-is_blank-clause-done : goal.returns-then-is_blank-clause-done
returns-then-is_blank-clause-done g c = blank_done g.V.Watch.starts g.V.Observer.takes g.V.Observer.fails g.V.Watch.notes _ c.args.line.now _ (c.is_blank.ensures c.if-is_blank.true)

pub returns-in_err-do_line-clause-told : goal.returns-in_err-do_line-clause-told
returns-in_err-do_line-clause-told g c =
    handed g.V.Watch.starts g.V.Observer.takes g.V.Observer.fails g.V.Watch.notes c.from_residual.result c.in_err-do_line.field-0.0 (lab_in c.args.session.now.course, c.args.watch.now) (lab_in c.do_line.new.session.course, c.do_line.new.watch) c.from_residual.ensures.1 c.in_err-do_line.ensures.told

pub returns-clause-told : goal.returns-clause-told
returns-clause-told g c =
    has_told_on g.V.Watch.starts g.V.Observer.takes g.V.Observer.fails g.V.Watch.notes c.ask.result (lab_in c.args.session.now.course, c.args.watch.now) (lab_in c.do_line.new.session.course, c.do_line.new.watch) (lab_in c.ask.new.self.course, c.ask.new.watch)
    (told_done g.V.Watch.starts g.V.Observer.takes g.V.Observer.fails g.V.Watch.notes _ (lab_in c.args.session.now.course, c.args.watch.now) (lab_in c.do_line.new.session.course, c.do_line.new.watch) c.in_ok-do_line.ensures.done) c.ask.ensures.told

pub returns-clause-done : goal.returns-clause-done
returns-clause-done g c =
    let same : mode_of c.ask.new.self ≡ mode_of c.do_line.new.session = ap₂ (λ (a b : Bool). record { awaits = a; asks = b }) (ap is_some c.ask.ensures.awaited) c.ask.ensures.askers in
    says_done g.V.Watch.starts g.V.Observer.takes g.V.Observer.fails g.V.Watch.notes c.ask.result c.args.line.now (mode_of c.args.session.now) (mode_of c.do_line.new.session) (mode_of c.ask.new.self) (lab_in c.args.session.now.course, c.args.watch.now) (lab_in c.do_line.new.session.course, c.do_line.new.watch) (lab_in c.ask.new.self.course, c.ask.new.watch)
    same c.in_ok-do_line.ensures.done c.ask.ensures.done
