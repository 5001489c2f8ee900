use Rattle.std.proofs.Common.{Some, ap, is_some, map, take, arith, subst, sym, take_all, ◌∙◌, List, ◌∷◌, []}
use Rattle.std.proofs.lemmas.List.{map-append}
use Rattle.ripng_world.specs.Events.{event_of}
use Rattle.ripng_world.specs.World.{Event}
use Rattle.ripng_lab.specs.Doing.{HasDone, InTurn, IsPlayed}
use Rattle.ripng_lab.specs.ScriptWatching.{value_of}
use Rattle.ripng_lab.proofs.Exercises.{taken}
use Rattle.ripng_lab.proofs.Saying.{told_done}
use Rattle.ripng_lab.proofs.ScriptWatching.{has_told, handed_on}
use Rattle.ripng_lab.proofs.Waving.{none_in_turn, turn_on}
use Rattle.ripng_lab.proofs.course.Course.play.Goals as goal

pub loop-event-init : goal.loop-event-init
loop-event-init g c =
    none_in_turn g.V.Watch.starts g.V.Observer.takes g.V.Observer.fails g.V.Watch.notes (IsPlayed (is_some c.args.advert)) (Some (value_of c.args.self.now.site), c.args.watch.now)

pub returns-in_err-check-clause-told : goal.returns-in_err-check-clause-told
returns-in_err-check-clause-told g c =
    has_told g.V.Watch.starts g.V.Observer.takes g.V.Observer.fails g.V.Watch.notes c.from_residual.result (Some (value_of c.args.self.now.site), c.args.watch.now) (Some (value_of c.loop-event.self.site), c.loop-event.watch) (told_done g.V.Watch.starts g.V.Observer.takes g.V.Observer.fails g.V.Watch.notes (InTurn (IsPlayed (is_some c.args.advert)) (map event_of (take c.loop-event.event-index c.args.events.now))) (Some (value_of c.args.self.now.site), c.args.watch.now) (Some (value_of c.loop-event.self.site), c.loop-event.watch) c.loop-event.invariant)

pub returns-in_err-bring-clause-told : goal.returns-in_err-bring-clause-told
returns-in_err-bring-clause-told g c =
    handed_on g.V.Watch.starts g.V.Observer.takes g.V.Observer.fails g.V.Watch.notes c.from_residual-in_err-bring.result c.in_err-bring.field-0.0 (Some (value_of c.args.self.now.site), c.args.watch.now) (Some (value_of c.loop-event.self.site), c.loop-event.watch) (Some (value_of c.bring.new.self.site), c.bring.new.watch) c.from_residual-in_err-bring.ensures.1 (told_done g.V.Watch.starts g.V.Observer.takes g.V.Observer.fails g.V.Watch.notes (InTurn (IsPlayed (is_some c.args.advert)) (map event_of (take c.loop-event.event-index c.args.events.now))) (Some (value_of c.args.self.now.site), c.args.watch.now) (Some (value_of c.loop-event.self.site), c.loop-event.watch) c.loop-event.invariant) c.in_err-bring.ensures.told

pub loop-event-preserved : goal.loop-event-preserved
loop-event-preserved g c =
    let i = c.loop-event.event-index in
    let es = c.args.events.now in
    let e = c.event-item.result in
    subst (λ (xs : List Event). HasDone (InTurn (IsPlayed (is_some c.args.advert)) xs) g.V.Watch.starts g.V.Observer.takes g.V.Watch.notes (Some (value_of c.args.self.now.site), c.args.watch.now) (Some (value_of c.bring.new.self.site), c.bring.new.watch))
    (sym (ap (map event_of) (taken es i e c.loop-event-test.true c.event-item.is) ∙ map-append event_of (take i es) (e ∷ [])))
    (turn_on g.V.Watch.starts g.V.Observer.takes g.V.Observer.fails g.V.Watch.notes (IsPlayed (is_some c.args.advert)) (map event_of (take i es)) (event_of e) (Some (value_of c.args.self.now.site), c.args.watch.now) (Some (value_of c.loop-event.self.site), c.loop-event.watch) (Some (value_of c.bring.new.self.site), c.bring.new.watch)
    c.loop-event.invariant c.in_ok-bring.ensures.done)

pub returns-clause-told : goal.returns-clause-told
returns-clause-told g c =
    told_done g.V.Watch.starts g.V.Observer.takes g.V.Observer.fails g.V.Watch.notes (InTurn (IsPlayed (is_some c.args.advert)) (map event_of (take c.loop-event.event-index c.args.events.now))) (Some (value_of c.args.self.now.site), c.args.watch.now) (Some (value_of c.loop-event.self.site), c.loop-event.watch) c.loop-event.invariant

pub returns-clause-done : goal.returns-clause-done
returns-clause-done g c =
    subst (λ (xs : List _). HasDone (InTurn (IsPlayed (is_some c.args.advert)) (map event_of xs)) g.V.Watch.starts g.V.Observer.takes g.V.Watch.notes (Some (value_of c.args.self.now.site), c.args.watch.now) (Some (value_of c.loop-event.self.site), c.loop-event.watch))
    (take_all c.loop-event.event-index c.args.events.now (omega (arith, c.loop-event-test.false))) c.loop-event.invariant
