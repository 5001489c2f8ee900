use Rattle.std.proofs.Common.{Some, true}
use Rattle.ripng_lab.specs.Asking.{AskAfter}
use Rattle.ripng_lab.specs.ScriptWatching.{value_of}
use Rattle.ripng_lab.proofs.Saying.{told_done}
use Rattle.ripng_lab.proofs.ScriptWatching.{handed_on, has_told}
use Rattle.ripng_lab.proofs.Waving.{asks_on, none_ask}
use Rattle.ripng_lab.proofs.course.Course.ask_all.Goals as goal

pub loop-number-init : goal.loop-number-init
loop-number-init g c = none_ask g.V.Watch.starts g.V.Observer.takes g.V.Observer.fails g.V.Watch.notes (Some (value_of c.args.self.now.site), c.args.watch.now)

pub returns-in_err-question-clause-told : goal.returns-in_err-question-clause-told
returns-in_err-question-clause-told g c =
    has_told g.V.Watch.starts g.V.Observer.takes g.V.Observer.fails g.V.Watch.notes c.from_residual.result (Some (value_of c.args.self.now.site), c.args.watch.now) (Some (value_of c.loop-number.self.site), c.loop-number.watch) (told_done g.V.Watch.starts g.V.Observer.takes g.V.Observer.fails g.V.Watch.notes (AskAfter true) (Some (value_of c.args.self.now.site), c.args.watch.now) (Some (value_of c.loop-number.self.site), c.loop-number.watch) c.loop-number.invariant)

pub returns-in_err-ask_about-clause-told : goal.returns-in_err-ask_about-clause-told
returns-in_err-ask_about-clause-told g c =
    handed_on g.V.Watch.starts g.V.Observer.takes g.V.Observer.fails g.V.Watch.notes c.from_residual-in_err-ask_about.result c.in_err-ask_about.field-0.0 (Some (value_of c.args.self.now.site), c.args.watch.now) (Some (value_of c.loop-number.self.site), c.loop-number.watch) (Some (value_of c.ask_about.new.self.site), c.ask_about.new.watch) c.from_residual-in_err-ask_about.ensures.1 (told_done g.V.Watch.starts g.V.Observer.takes g.V.Observer.fails g.V.Watch.notes (AskAfter true) (Some (value_of c.args.self.now.site), c.args.watch.now) (Some (value_of c.loop-number.self.site), c.loop-number.watch) c.loop-number.invariant) c.in_err-ask_about.ensures.told

pub loop-number-preserved : goal.loop-number-preserved
loop-number-preserved g c =
    asks_on g.V.Watch.starts g.V.Observer.takes g.V.Observer.fails g.V.Watch.notes (Some (value_of c.args.self.now.site), c.args.watch.now) (Some (value_of c.loop-number.self.site), c.loop-number.watch) (Some (value_of c.ask_about.new.self.site), c.ask_about.new.watch) c.loop-number.invariant c.in_ok-ask_about.ensures.done

pub returns-clause-told : goal.returns-clause-told
returns-clause-told g c = told_done g.V.Watch.starts g.V.Observer.takes g.V.Observer.fails g.V.Watch.notes (AskAfter true) (Some (value_of c.args.self.now.site), c.args.watch.now) (Some (value_of c.loop-number.self.site), c.loop-number.watch) c.loop-number.invariant
