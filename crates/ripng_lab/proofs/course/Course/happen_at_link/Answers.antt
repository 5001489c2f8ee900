use Rattle.std.proofs.Common.{Some, List, false, OnOk, ap, map, subst, sym}
use Rattle.ripng_world.specs.Events.{event_of}
use Rattle.ripng_lab.specs.Doing.{HasDone, InTurn, IsAtEach, IsPlayed}
use Rattle.ripng_lab.specs.ScriptWatching.{value_of}
use Rattle.ripng_lab.specs.declared.course.Site.{Site}
use Rattle.ripng_lab.proofs.Doing.{done_from}
use Rattle.ripng_lab.proofs.ScriptWatching.{has_told, told_from, untold, untold_as}
use Rattle.ripng_lab.proofs.Waving.{each_done}
use Rattle.ripng_lab.proofs.course.Course.happen_at_link.Goals as goal

pub returns-in_err-events-clause-told : goal.returns-in_err-events-clause-told
returns-in_err-events-clause-told g c =
    has_told g.V.Watch.starts g.V.Observer.takes g.V.Observer.fails g.V.Watch.notes c.from_residual.result (Some (value_of c.args.self.now.site), c.args.watch.now) (Some (value_of c.args.self.now.site), c.args.watch.now) (untold g.V.Watch.starts g.V.Observer.takes g.V.Observer.fails g.V.Watch.notes (Some (value_of c.args.self.now.site), c.args.watch.now))

pub returns-in_err-mark_link-clause-told : goal.returns-in_err-mark_link-clause-told
returns-in_err-mark_link-clause-told g c =
    untold_as g.V.Watch.starts g.V.Observer.takes g.V.Observer.fails g.V.Watch.notes c.from_residual-in_err-mark_link.result (Some (value_of c.args.self.now.site)) (Some (value_of c.mark_link.new.self.site)) c.args.watch.now (ap (λ (s : Site). Some (value_of s)) c.mark_link.ensures.site)

pub returns-clause-done : goal.returns-clause-done
returns-clause-done g c =
    done_from g.V.Watch.starts g.V.Observer.takes g.V.Observer.fails g.V.Watch.notes c.play.result (IsAtEach c.args.kind c.args.line.now) (Some (value_of c.args.self.now.site)) (Some (value_of c.mark_link.new.self.site)) c.args.watch.now (Some (value_of c.play.new.self.site), c.play.new.watch) (ap (λ (s : Site). Some (value_of s)) (sym c.mark_link.ensures.site))
    (each_done g.V.Watch.starts g.V.Observer.takes g.V.Observer.fails g.V.Watch.notes c.play.result c.args.kind c.args.line.now (map event_of c.in_ok-events.events.items) (Some (value_of c.mark_link.new.self.site), c.args.watch.now) (Some (value_of c.play.new.self.site), c.play.new.watch) c.in_ok-events.ensures
    (subst (λ (es : List _). OnOk c.play.result (HasDone (InTurn (IsPlayed false) (map event_of es)) g.V.Watch.starts g.V.Observer.takes g.V.Watch.notes (Some (value_of c.mark_link.new.self.site), c.args.watch.now) (Some (value_of c.play.new.self.site), c.play.new.watch))) c.deref.ensures.value c.play.ensures.done))

pub returns-clause-told : goal.returns-clause-told
returns-clause-told g c =
    told_from g.V.Watch.starts g.V.Observer.takes g.V.Observer.fails g.V.Watch.notes c.play.result (Some (value_of c.args.self.now.site)) (Some (value_of c.mark_link.new.self.site)) c.args.watch.now (Some (value_of c.play.new.self.site), c.play.new.watch) (ap (λ (s : Site). Some (value_of s)) (sym c.mark_link.ensures.site)) c.play.ensures.told
