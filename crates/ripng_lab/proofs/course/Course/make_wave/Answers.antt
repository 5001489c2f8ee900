use Rattle.std.proofs.Common.{Some, List, false, is_some, map, refl, subst}
use Rattle.ripng_world.specs.Events.{event_of}
use Rattle.ripng_lab.specs.Doing.{HasDone, InTurn, IsPlayed, IsWave}
use Rattle.ripng_lab.specs.ScriptWatching.{value_of}
use Rattle.ripng_lab.proofs.Saying.{told_done}
use Rattle.ripng_lab.proofs.ScriptWatching.{untold, has_told, handed_on}
use Rattle.ripng_lab.proofs.Waving.{ticked, wave_as, wave_on}
use Rattle.ripng_lab.proofs.course.Course.make_wave.Goals as goal

pub returns-in_err-ticks-clause-told : goal.returns-in_err-ticks-clause-told
returns-in_err-ticks-clause-told g c =
    has_told g.V.Watch.starts g.V.Observer.takes g.V.Observer.fails g.V.Watch.notes c.from_residual.result (Some (value_of c.args.self.now.site), c.args.watch.now) (Some (value_of c.args.self.now.site), c.args.watch.now) (untold g.V.Watch.starts g.V.Observer.takes g.V.Observer.fails g.V.Watch.notes (Some (value_of c.args.self.now.site), c.args.watch.now))

pub returns-in_err-check_lost-clause-told : goal.returns-in_err-check_lost-clause-told
returns-in_err-check_lost-clause-told g c =
    has_told g.V.Watch.starts g.V.Observer.takes g.V.Observer.fails g.V.Watch.notes c.from_residual-in_err-check_lost.result (Some (value_of c.args.self.now.site), c.args.watch.now) (Some (value_of c.play.new.self.site), c.play.new.watch) (told_done g.V.Watch.starts g.V.Observer.takes g.V.Observer.fails g.V.Watch.notes _ (Some (value_of c.args.self.now.site), c.args.watch.now) (Some (value_of c.play.new.self.site), c.play.new.watch) c.in_ok-play.ensures.done)

pub returns-in_err-adverts-clause-told : goal.returns-in_err-adverts-clause-told
returns-in_err-adverts-clause-told g c =
    has_told g.V.Watch.starts g.V.Observer.takes g.V.Observer.fails g.V.Watch.notes c.from_residual-in_err-adverts.result (Some (value_of c.args.self.now.site), c.args.watch.now) (Some (value_of c.play.new.self.site), c.play.new.watch) (told_done g.V.Watch.starts g.V.Observer.takes g.V.Observer.fails g.V.Watch.notes _ (Some (value_of c.args.self.now.site), c.args.watch.now) (Some (value_of c.play.new.self.site), c.play.new.watch) c.in_ok-play.ensures.done)

pub returns-in_err-events-clause-told : goal.returns-in_err-events-clause-told
returns-in_err-events-clause-told g c =
    has_told g.V.Watch.starts g.V.Observer.takes g.V.Observer.fails g.V.Watch.notes c.from_residual-in_err-events.result (Some (value_of c.args.self.now.site), c.args.watch.now) (Some (value_of c.loop-datagram.self.site), c.loop-datagram.watch) (told_done g.V.Watch.starts g.V.Observer.takes g.V.Observer.fails g.V.Watch.notes (IsWave (map event_of c.in_ok-ticks.ticks.items) c.args.wave.now.moment) (Some (value_of c.args.self.now.site), c.args.watch.now) (Some (value_of c.loop-datagram.self.site), c.loop-datagram.watch) c.loop-datagram.invariant)

pub returns-in_err-play-2-clause-told : goal.returns-in_err-play-2-clause-told
returns-in_err-play-2-clause-told g c =
    handed_on g.V.Watch.starts g.V.Observer.takes g.V.Observer.fails g.V.Watch.notes c.from_residual-in_err-play-2.result c.in_err-play-2.field-0.0 (Some (value_of c.args.self.now.site), c.args.watch.now) (Some (value_of c.loop-datagram.self.site), c.loop-datagram.watch) (Some (value_of c.play-in-loop-datagram.new.self.site), c.play-in-loop-datagram.new.watch) c.from_residual-in_err-play-2.ensures.1 (told_done g.V.Watch.starts g.V.Observer.takes g.V.Observer.fails g.V.Watch.notes (IsWave (map event_of c.in_ok-ticks.ticks.items) c.args.wave.now.moment) (Some (value_of c.args.self.now.site), c.args.watch.now) (Some (value_of c.loop-datagram.self.site), c.loop-datagram.watch) c.loop-datagram.invariant) c.in_err-play-2.ensures.told

pub loop-datagram-init : goal.loop-datagram-init
loop-datagram-init g c =
    ticked g.V.Watch.starts g.V.Observer.takes g.V.Observer.fails g.V.Watch.notes (map event_of c.in_ok-ticks.ticks.items) c.args.wave.now.moment (Some (value_of c.args.self.now.site), c.args.watch.now) (Some (value_of c.play.new.self.site), c.play.new.watch)
    (subst (λ (es : List _). HasDone (InTurn (IsPlayed false) (map event_of es)) g.V.Watch.starts g.V.Observer.takes g.V.Watch.notes (Some (value_of c.args.self.now.site), c.args.watch.now) (Some (value_of c.play.new.self.site), c.play.new.watch)) c.deref.ensures.value c.in_ok-play.ensures.done)

pub loop-datagram-preserved : goal.loop-datagram-preserved
loop-datagram-preserved g c =
    wave_on g.V.Watch.starts g.V.Observer.takes g.V.Observer.fails g.V.Watch.notes (map event_of c.in_ok-ticks.ticks.items) c.args.wave.now.moment (is_some c.find-advert.result) (map event_of c.in_ok-events.events.items) (Some (value_of c.args.self.now.site), c.args.watch.now) (Some (value_of c.loop-datagram.self.site), c.loop-datagram.watch) (Some (value_of c.play-in-loop-datagram.new.self.site), c.play-in-loop-datagram.new.watch)
    c.in_ok-events.ensures c.loop-datagram.invariant
    (subst (λ (es : List _). HasDone (InTurn (IsPlayed (is_some c.find-advert.result)) (map event_of es)) g.V.Watch.starts g.V.Observer.takes g.V.Watch.notes (Some (value_of c.loop-datagram.self.site), c.loop-datagram.watch) (Some (value_of c.play-in-loop-datagram.new.self.site), c.play-in-loop-datagram.new.watch)) c.deref-in-loop-datagram-2.ensures.value c.in_ok-play-2.ensures.done)

pub returns-clause-told : goal.returns-clause-told
returns-clause-told g c =
    told_done g.V.Watch.starts g.V.Observer.takes g.V.Observer.fails g.V.Watch.notes (IsWave (map event_of c.in_ok-ticks.ticks.items) c.args.wave.now.moment) (Some (value_of c.args.self.now.site), c.args.watch.now) (Some (value_of c.loop-datagram.self.site), c.loop-datagram.watch) c.loop-datagram.invariant

pub returns-clause-done : goal.returns-clause-done
returns-clause-done g c =
    let done = c.loop-datagram.invariant in
    (done.0, (_, wave_as _ _ c.args.wave.now.moment c.args.wave.now.moment done.0 c.in_ok-ticks.ensures refl done.1), done.2)
