use Rattle.std.proofs.Common.{false, OnOk, Some, List, filter, map, not, subst}
use Rattle.std.specs.List.{range_with_len}
use Rattle.ripng_world.specs.Events.{event_of}
use Rattle.ripng_lab.specs.Asking.{interfaces_at, is_on}
use Rattle.ripng_lab.specs.Doing.{HasDone, InTurn, IsPlayed}
use Rattle.ripng_lab.specs.ScriptWatching.{value_of}
use Rattle.ripng_lab.proofs.Saying.{told_done}
use Rattle.ripng_lab.proofs.ScriptWatching.{handed, has_told, has_told_on, untold}
use Rattle.ripng_lab.proofs.Waving.{question_done}
use Rattle.ripng_lab.proofs.course.Course.ask.Goals as goal

pub returns-in_err-requests-clause-told : goal.returns-in_err-requests-clause-told
returns-in_err-requests-clause-told g c =
    has_told g.V.Watch.starts g.V.Observer.takes g.V.Observer.fails g.V.Watch.notes c.from_residual.result (Some (value_of c.args.self.now.site), c.args.watch.now) (Some (value_of c.args.self.now.site), c.args.watch.now) (untold g.V.Watch.starts g.V.Observer.takes g.V.Observer.fails g.V.Watch.notes (Some (value_of c.args.self.now.site), c.args.watch.now))

pub returns-in_err-tell-clause-told : goal.returns-in_err-tell-clause-told
returns-in_err-tell-clause-told g c =
    handed g.V.Watch.starts g.V.Observer.takes g.V.Observer.fails g.V.Watch.notes c.from_residual-in_err-tell.result c.in_err-tell.field-0.0 (Some (value_of c.args.self.now.site), c.args.watch.now) (Some (value_of c.args.self.now.site), c.tell.new.watch) c.from_residual-in_err-tell.ensures.1 c.in_err-tell.ensures.told

pub returns-clause-told : goal.returns-clause-told
returns-clause-told g c =
    has_told_on g.V.Watch.starts g.V.Observer.takes g.V.Observer.fails g.V.Watch.notes c.play.result (Some (value_of c.args.self.now.site), c.args.watch.now) (Some (value_of c.args.self.now.site), c.tell.new.watch) (Some (value_of c.play.new.self.site), c.play.new.watch)
    (told_done g.V.Watch.starts g.V.Observer.takes g.V.Observer.fails g.V.Watch.notes _ (Some (value_of c.args.self.now.site), c.args.watch.now) (Some (value_of c.args.self.now.site), c.tell.new.watch) c.in_ok-tell.ensures.done) c.play.ensures.told

pub returns-clause-done : goal.returns-clause-done
returns-clause-done g c =
    question_done g.V.Watch.starts g.V.Observer.takes g.V.Observer.fails g.V.Watch.notes c.play.result c.args.router c.args.question.now
    (filter (λ iface. not (is_on c.args.self.now.outages.down.items (value_of c.args.self.now.site).network c.args.router iface)) (range_with_len 0 (interfaces_at (value_of c.args.self.now.site) c.args.router)))
    (map event_of c.in_ok-requests.requests.items) (Some (value_of c.args.self.now.site), c.args.watch.now) (Some (value_of c.args.self.now.site), c.tell.new.watch) (Some (value_of c.play.new.self.site), c.play.new.watch)
    c.in_ok-requests.ensures c.in_ok-tell.ensures.done
    (subst (λ (es : List _). OnOk c.play.result (HasDone (InTurn (IsPlayed false) (map event_of es)) g.V.Watch.starts g.V.Observer.takes g.V.Watch.notes (Some (value_of c.args.self.now.site), c.tell.new.watch) (Some (value_of c.play.new.self.site), c.play.new.watch))) c.deref.ensures.value c.play.ensures.done)
