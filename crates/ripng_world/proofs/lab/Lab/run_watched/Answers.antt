use Rattle.std.proofs.Common.{◌≡◌, ℕ, List, ◌<◌, ◌+◌, take, map, length, refl, Some, option_map, sym, subst, ◌∙◌, ap, arith}
use Rattle.std.proofs.lemmas.List.{append-nil}
use Rattle.std.proofs.lemmas.Option.{slice_get-map, slice_get-get_or}
use Rattle.ripng_world.specs.Events.{event_of}
use Rattle.ripng_world.specs.World.{World, Event, WorldRun}
use Rattle.ripng_world.specs.Watching.{WatchedRun, WatchedUntil, any, failures}
use Rattle.ripng_world.proofs.LabRuns.{keeps}
use Rattle.ripng_world.proofs.Watched.{both_still, given_told, next_refused, run_next, run_stopped, until_all, until_run, watched_run}
use Rattle.ripng_world.proofs.WorldRuns.{done_from}
use Rattle.ripng_world.proofs.lab.Lab.run_watched.Goals.{After-failures, After-loop-done}
use Rattle.ripng_world.proofs.lab.Lab.run_watched.Goals as goal

pub loop-done-init : goal.loop-done-init
loop-done-init g c =
    record {
      told = refl;
      network = refl;
      reconfigurations = sym (append-nil c.args.self.now.world.reconfigurations);
      keeps = rw (← c.self.view_is) (keeps _ c.self.invariant);
    }

module _ (g : _) (c : After-failures g) where
  told_until : WatchedUntil g.V.Observer.takes g.V.Observer.fails (failures c.in-Err.stopped) c.args.self.now.network (c.args.self.now.world, c.args.watch.now)
      (take (c.loop-done.done + failures c.in-Err.stopped) (map event_of c.args.events.now)) (c.step_watched.new.self.world, c.step_watched.new.watch)
  told_until =
      let events = c.args.events.now in
      let lt : c.loop-done.done < length events = omega (arith, c.loop-done-test.true, c.loop-done.auto.done-end) in
      run_stopped g.V.Observer.takes g.V.Observer.fails c.args.self.now.network c.loop-done.self.network (c.args.self.now.world, c.args.watch.now) (c.loop-done.self.world, c.loop-done.watch) (c.step_watched.new.self.world, c.step_watched.new.watch)
      events c.loop-done.done c.index-events-done.result lt c.index-events-done.is c.loop-done.invariant.told c.loop-done.invariant.network c.in-Err.stopped c.in-Err.ensures.stopped
      (both_still c.in-Err.stopped c.loop-done.self c.step_watched.new.self c.loop-done.watch c.step_watched.new.watch c.in-Err.ensures.ends.unchanged c.in-Err.ensures.untold)

  done_until : WorldRun c.args.self.now.network c.args.self.now.world (take (c.loop-done.done + failures c.in-Err.stopped) (map event_of c.args.events.now)) c.step_watched.new.self.world
  done_until =
      until_run g.V.Observer.takes g.V.Observer.fails (failures c.in-Err.stopped) c.args.self.now.network (take (c.loop-done.done + failures c.in-Err.stopped) (map event_of c.args.events.now))
      (c.args.self.now.world, c.args.watch.now) (c.step_watched.new.self.world, c.step_watched.new.watch) told_until

pub returns-in-Err-clause-told : goal.returns-in-Err-clause-told
returns-in-Err-clause-told g c = rw c.failures.ensures (told_until g c)

pub returns-in-Err-clause-done : goal.returns-in-Err-clause-done
returns-in-Err-clause-done g c = rw c.failures.ensures (done_until g c)

pub returns-in-Err-clause-reconfigurations : goal.returns-in-Err-clause-reconfigurations
returns-in-Err-clause-reconfigurations g c =
    rw c.failures.ensures
    (done_from c.args.self.now.network (take (c.loop-done.done + failures c.in-Err.stopped) (map event_of c.args.events.now)) c.args.self.now.world c.step_watched.new.self.world (done_until g c))

pub returns-in-Err-clause-refused : goal.returns-in-Err-clause-refused
returns-in-Err-clause-refused g c =
    let events = c.args.events.now in
    let d = c.index-events-done.result in
    let lt : c.loop-done.done < length events = omega (arith, c.loop-done-test.true, c.loop-done.auto.done-end) in
    rw c.failures.ensures
    (next_refused c.in-Err.stopped c.loop-done.self c.step_watched.new.self (map event_of events) c.loop-done.done (event_of d)
    (slice_get-map event_of events c.loop-done.done ∙ ap (option_map event_of) (slice_get-get_or events c.loop-done.done d lt ∙ ap Some (sym c.index-events-done.is)))
    c.in-Err.ensures.ends.refused c.in-Err.ensures.ends.unchanged)

pub loop-done-preserved : goal.loop-done-preserved
loop-done-preserved g c =
    let net = c.args.self.now.network in
    let events = c.args.events.now in
    let d = c.index-events-done.result in
    let h = c.in_default.ensures.happens in
    let start : World × _ = (c.args.self.now.world, c.args.watch.now) in
    let before : World × _ = (c.loop-done.self.world, c.loop-done.watch) in
    let after : World × _ = (c.step_watched.new.self.world, c.step_watched.new.watch) in
    let lt : c.loop-done.done < length events = omega (arith, c.loop-done-test.true, c.loop-done.auto.done-end) in
    let told = run_next g.V.Observer.takes g.V.Observer.fails net c.loop-done.self.network start before after events c.loop-done.done d lt c.index-events-done.is
    c.loop-done.invariant.told c.loop-done.invariant.network h.0 h.1
    (given_told g.V.Observer.takes c.loop-done.self c.step_watched.new.self (event_of d) _ _ c.loop-done.watch c.step_watched.new.watch h c.step_watched.ensures.network refl c.in_default.ensures.told) in
    record {
      told = told;
      network = c.step_watched.ensures.network ∙ c.loop-done.invariant.network;
      reconfigurations = done_from net (take (c.loop-done.done + 1) (map event_of events)) c.args.self.now.world c.step_watched.new.self.world
          (watched_run g.V.Observer.takes any net (take (c.loop-done.done + 1) (map event_of events)) start after told);
      keeps = c.step_watched.ensures.keeps;
    }

module _ (g : _) (c : After-loop-done g) where
  all_taken : take (length c.args.events.now) (map event_of c.args.events.now) ≡ take c.loop-done.done (map event_of c.args.events.now)
  all_taken =
      let same : length c.args.events.now ≡ c.loop-done.done = omega (arith, c.loop-done-test.false, c.loop-done.auto.done-end) in
      ap (λ (n : ℕ). take n (map event_of c.args.events.now)) same

  all_told : WatchedUntil g.V.Observer.takes g.V.Observer.fails 0 c.args.self.now.network (c.args.self.now.world, c.args.watch.now) (take (length c.args.events.now) (map event_of c.args.events.now)) (c.loop-done.self.world, c.loop-done.watch)
  all_told =
      until_all g.V.Observer.takes g.V.Observer.fails c.args.self.now.network (take (length c.args.events.now) (map event_of c.args.events.now)) (c.args.self.now.world, c.args.watch.now) (c.loop-done.self.world, c.loop-done.watch)
      (subst (λ (es : List Event). WatchedRun g.V.Observer.takes any c.args.self.now.network (c.args.self.now.world, c.args.watch.now) es (c.loop-done.self.world, c.loop-done.watch)) (sym all_taken) c.loop-done.invariant.told)

pub returns-clause-told : goal.returns-clause-told
returns-clause-told g c = all_told g c

pub returns-clause-done : goal.returns-clause-done
returns-clause-done g c =
    until_run g.V.Observer.takes g.V.Observer.fails 0 c.args.self.now.network (take (length c.args.events.now) (map event_of c.args.events.now)) (c.args.self.now.world, c.args.watch.now) (c.loop-done.self.world, c.loop-done.watch) (all_told g c)
