use Rattle.std.proofs.Common.{◌≡◌, ◌+◌, ◌<◌, ◌≤◌, ℕ, List, get_or, ◌++◌, ◌∷◌, [], Some, slice_get, take, length, refl, sym, subst, ◌∙◌, ap, arith}
use Rattle.std.proofs.lemmas.List.{take_all, length-map}
use Rattle.std.proofs.lemmas.List.FromFn.{length-enumerate_from}
use Rattle.std.proofs.lemmas.Option.{slice_get-get_or}
use Rattle.std.specs.List.{enumerate_from}
use Rattle.ripng_world.specs.Asked.{Asked}
use Rattle.ripng_world.specs.AskedRounds.{deliveries_of, pairs_since, ticks_of}
use Rattle.ripng_world.specs.Network.{Network}
use Rattle.ripng_world.specs.Watching.{HeardInPart, Told, WatchedRun, due, failures, heard}
use Rattle.ripng_world.specs.World.{World, Event, Tick}
use Rattle.ripng_world.specs.declared.lab.making.RoundsRefused.TheVariants.{OutOfMemory}
use Rattle.ripng_world.specs.declared.event.Sent.{Sent}
use Rattle.ripng_world.specs.declared.watch.Stopped.{Stopped}
use Rattle.ripng_world.proofs.AskedRuns.{take_tick, tick_at, undue}
use Rattle.ripng_world.proofs.Delivered.{heard_part, stop_at}
use Rattle.ripng_world.proofs.Watched.{as_many_failed, both_still, given_told, watched_ticks}
use Rattle.ripng_world.proofs.WatchedRounds.{end_in_deliveries, same_round, some_ticks, stop_in_deliveries, stop_in_ticks, ticks_end, ticks_stop, told_tick}
use Rattle.ripng_world.proofs.lab.Lab.make_round.Goals as goal

pub returns-then-not-is_due-clause-refused : goal.returns-then-not-is_due-clause-refused
returns-then-not-is_due-clause-refused g c =
    let r = c.loop-router.router in
    let t = c.tick-item.result in
    let there = c.is_due.ensures.there (omega (arith, c.loop-router-test.true, ap (λ (a : Asked). length a.ticks) c.round.view_is, c.requires, ap length c.loop-router.invariant.network)) in
    record {
      before = watched_ticks g.V.Observer.takes c.args.self.now.network (take r (ticks_of c.args.round.now.ticks)) (c.args.self.now.world, c.args.watch.now) (c.loop-router.self.world, c.loop-router.watch) c.loop-router.invariant.ticked;
      tick = t;
      tick_is = ap (λ (a : Asked). slice_get a.ticks r) (sym c.round.view_is) ∙ slice_get-get_or c.round.inside.ticks.now r t c.loop-router-test.true ∙ ap Some (sym c.tick-item.is);
      state = there.0;
      state_is = there.1;
      undue = undue c.is_due.result _ _ c.if-not-is_due.true (λ due. (c.is_due.ensures.due t.1).1 (there.0, there.1, due));
    }

pub returns-then-not-is_due-clause-told : goal.returns-then-not-is_due-clause-told
returns-then-not-is_due-clause-told g c =
    stop_in_ticks g.V.Observer.takes g.V.Observer.fails 0 c.args.self.now.network c.args.round.now (c.args.self.now.world, c.args.watch.now) (c.loop-router.self.world, c.loop-router.watch)
    (some_ticks g.V.Observer.takes g.V.Observer.fails c.args.self.now.network (ticks_of c.args.round.now.ticks) c.loop-router.router (c.args.self.now.world, c.args.watch.now) (c.loop-router.self.world, c.loop-router.watch)
    c.loop-router.invariant.ticked)

-- one more tick
next : (a b : Asked) (r : ℕ) (t : ℕ × ℕ) → a ≡ b → r < length a.ticks → t ≡ get_or a.ticks r t → take (r + 1) (ticks_of b.ticks) ≡ take r (ticks_of b.ticks) ++ Tick r t.0 t.1 ∷ []
next a b r t same here is = subst (λ (x : Asked). take (r + 1) (ticks_of x.ticks) ≡ take r (ticks_of x.ticks) ++ Tick r t.0 t.1 ∷ []) same (take_tick a.ticks r t here is)

at_next : (a b : Asked) (r : ℕ) (t : ℕ × ℕ) → a ≡ b → r < length a.ticks → t ≡ get_or a.ticks r t → slice_get (ticks_of b.ticks) r ≡ Some (Tick r t.0 t.1)
at_next a b r t same here is = subst (λ (x : Asked). slice_get (ticks_of x.ticks) r ≡ Some (Tick r t.0 t.1)) same (tick_at a.ticks r t here is)

pub returns-in-Err-clause-told : goal.returns-in-Err-clause-told
returns-in-Err-clause-told g c =
    let stop = ticks_stop g.V.Observer.takes g.V.Observer.fails c.args.self.now.network c.loop-router.self.network c.args.round.now c.loop-router.router
    (Tick c.loop-router.router c.tick-item.result.0 c.tick-item.result.1) (c.args.self.now.world, c.args.watch.now) (c.loop-router.self.world, c.loop-router.watch) (c.step_watched.new.self.world, c.step_watched.new.watch)
    (next _ c.args.round.now c.loop-router.router c.tick-item.result c.round.view_is c.loop-router-test.true c.tick-item.is) c.loop-router.invariant.ticked c.loop-router.invariant.network (failures c.in-Err.stopped) c.in-Err.ensures.stopped in
    rw (c.refused_as.ensures, as_many_failed c.in-Err.stopped (OutOfMemory c.args.number))
    (stop_in_ticks g.V.Observer.takes g.V.Observer.fails (failures c.in-Err.stopped) c.args.self.now.network c.args.round.now (c.args.self.now.world, c.args.watch.now) (c.step_watched.new.self.world, c.step_watched.new.watch) stop)

pub returns-in-Err-clause-number : goal.returns-in-Err-clause-number
returns-in-Err-clause-number g c = rw (c.refused_as.ensures) (same_round c.args.self.now.network c.args.number c.in-Err.stopped)

pub returns-in-Err-clause-refused : goal.returns-in-Err-clause-refused
returns-in-Err-clause-refused g c =
    let stops = ticks_end g.V.Observer.takes g.V.Observer.fails c.args.self.now.network c.loop-router.self.network c.args.round.now c.loop-router.router
    (Tick c.loop-router.router c.tick-item.result.0 c.tick-item.result.1) (c.args.self.now.world, c.args.watch.now) (c.loop-router.self.world, c.loop-router.watch) (c.step_watched.new.self.world, c.step_watched.new.watch)
    (next _ c.args.round.now c.loop-router.router c.tick-item.result c.round.view_is c.loop-router-test.true c.tick-item.is) c.loop-router.invariant.ticked c.loop-router.invariant.network c.args.number c.in-Err.stopped
    (at_next _ c.args.round.now c.loop-router.router c.tick-item.result c.round.view_is c.loop-router-test.true c.tick-item.is) c.in-Err.ensures.stopped
    (both_still c.in-Err.stopped c.loop-router.self c.step_watched.new.self c.loop-router.watch c.step_watched.new.watch c.in-Err.ensures.ends.unchanged c.in-Err.ensures.untold)
    ((c.is_due.ensures.due c.tick-item.result.1).0 c.if-not-is_due.false) in
    rw (c.refused_as.ensures) stops

pub loop-router-preserved : goal.loop-router-preserved
loop-router-preserved g c =
    let r = c.loop-router.router in
    let t = c.tick-item.result in
    let h = c.in_default.ensures.happens in
    record {
      network = c.in_default.ensures.network ∙ c.loop-router.invariant.network;
      ticked = told_tick g.V.Observer.takes g.V.Observer.fails c.args.self.now.network c.loop-router.self.network c.args.round.now r (Tick r t.0 t.1) (c.args.self.now.world, c.args.watch.now)
          (c.loop-router.self.world, c.loop-router.watch) (c.step_watched.new.self.world, c.step_watched.new.watch) (next _ c.args.round.now c.loop-router.router c.tick-item.result c.round.view_is c.loop-router-test.true c.tick-item.is) c.loop-router.invariant.ticked c.loop-router.invariant.network h.0 ((c.is_due.ensures.due t.1).0 c.if-not-is_due.false) h.1
          (given_told g.V.Observer.takes c.loop-router.self c.step_watched.new.self (Tick r t.0 t.1) _ _ c.loop-router.watch c.step_watched.new.watch h c.in_default.ensures.network refl c.in_default.ensures.told);
    }

-- all routers have ticked
ticked : {V : Type 0} (t : V → Told → V → Type 0) (net : Network) (inside round : Asked) (n : ℕ) (s s' : World × V) → inside ≡ round → length inside.ticks ≤ n
    → WatchedRun t due net s (take n (ticks_of round.ticks)) s' → WatchedRun t due net s (ticks_of round.ticks) s'
ticked t net inside round n s s' same over run =
    let all : length (ticks_of round.ticks) ≡ length round.ticks = length-map (enumerate_from 0 round.ticks) _ ∙ length-enumerate_from 0 round.ticks in
    subst (λ (es : List Event). WatchedRun t due net s es s') (take_all n (ticks_of round.ticks) (omega (arith, over, all, ap (λ (a : Asked). length a.ticks) same))) run

-- the deliveries stop, in the network as it is called at the start
part : {V R F : Type 0} (t f : V → Told → V → Type 0) (why : Stopped R F) (net net' : Network) (sent sent' : List Sent) (round round' : Asked) (after end : World × V) → net' ≡ net → sent' ≡ sent
    → round' ≡ round → HeardInPart t f why net' after (deliveries_of (pairs_since net' (length sent') after.0.sent) round'.picks round'.rest) end
    → HeardInPart t f why net after (deliveries_of (pairs_since net (length sent) after.0.sent) round.picks round.rest) end
part t f why net net' sent sent' round round' after end same first seen stop =
    subst (λ (n : Network). HeardInPart t f why n after (deliveries_of (pairs_since n (length sent) after.0.sent) round.picks round.rest) end) same
    (subst (λ (ds : List Sent). HeardInPart t f why net' after (deliveries_of (pairs_since net' (length ds) after.0.sent) round.picks round.rest) end) first
    (subst (λ (a : Asked). HeardInPart t f why net' after (deliveries_of (pairs_since net' (length sent') after.0.sent) a.picks a.rest) end) seen stop))

pub returns-in-Err-deliver_asked-clause-told : goal.returns-in-Err-deliver_asked-clause-told
returns-in-Err-deliver_asked-clause-told g c =
    let why = c.in-Err-deliver_asked.stopped in
    let net = c.args.self.now.network in
    let after : World × _ = (c.loop-router.self.world, c.loop-router.watch) in
    let end : World × _ = (c.deliver_asked.new.self.world, c.deliver_asked.new.watch) in
    let stop = part g.V.Observer.takes g.V.Observer.fails why net c.loop-router.self.network c.args.self.now.world.sent c.sent-first.result.now c.args.round.now _ after end c.loop-router.invariant.network c.sent-first.ensures.value c.round.view_is c.in-Err-deliver_asked.ensures.stopped in
    let told = stop_in_deliveries g.V.Observer.takes g.V.Observer.fails (failures why) net c.args.round.now (c.args.self.now.world, c.args.watch.now) end after (ticked g.V.Observer.takes c.args.self.now.network _ c.args.round.now c.loop-router.router (c.args.self.now.world, c.args.watch.now) (c.loop-router.self.world, c.loop-router.watch) c.round.view_is c.loop-router-test.false c.loop-router.invariant.ticked)
    (heard_part g.V.Observer.takes g.V.Observer.fails why net _ after end stop) in
    rw (c.refused_as-in-Err-deliver_asked.ensures, as_many_failed why (OutOfMemory c.args.number)) told

pub returns-in-Err-deliver_asked-clause-number : goal.returns-in-Err-deliver_asked-clause-number
returns-in-Err-deliver_asked-clause-number g c = rw (c.refused_as-in-Err-deliver_asked.ensures) (same_round c.args.self.now.network c.args.number c.in-Err-deliver_asked.stopped)

pub returns-in-Err-deliver_asked-clause-refused : goal.returns-in-Err-deliver_asked-clause-refused
returns-in-Err-deliver_asked-clause-refused g c =
    let why = c.in-Err-deliver_asked.stopped in
    let net = c.args.self.now.network in
    let after : World × _ = (c.loop-router.self.world, c.loop-router.watch) in
    let end : World × _ = (c.deliver_asked.new.self.world, c.deliver_asked.new.watch) in
    let ticked = watched_ticks g.V.Observer.takes net (ticks_of c.args.round.now.ticks) (c.args.self.now.world, c.args.watch.now) after (ticked g.V.Observer.takes c.args.self.now.network _ c.args.round.now c.loop-router.router (c.args.self.now.world, c.args.watch.now) (c.loop-router.self.world, c.loop-router.watch) c.round.view_is c.loop-router-test.false c.loop-router.invariant.ticked) in
    let stop = part g.V.Observer.takes g.V.Observer.fails why net c.loop-router.self.network c.args.self.now.world.sent c.sent-first.result.now c.args.round.now _ after end c.loop-router.invariant.network c.sent-first.ensures.value c.round.view_is c.in-Err-deliver_asked.ensures.stopped in
    rw (c.refused_as-in-Err-deliver_asked.ensures)
    (end_in_deliveries net c.args.round.now c.args.number why c.args.self.now.world after.0 end.0 ticked (stop_at g.V.Observer.takes g.V.Observer.fails why net _ after end stop))

pub returns-in-Ok-clause-made : goal.returns-in-Ok-clause-made
returns-in-Ok-clause-made g c =
    let round = c.args.round.now in
    let after : World × _ = (c.loop-router.self.world, c.loop-router.watch) in
    let end : World × _ = (c.deliver_asked.new.self.world, c.deliver_asked.new.watch) in
    let all : WatchedRun g.V.Observer.takes heard c.args.self.now.network after (deliveries_of (pairs_since c.args.self.now.network (length c.args.self.now.world.sent) after.0.sent) round.picks round.rest) end =
    subst (λ (n : Network). WatchedRun g.V.Observer.takes heard n after (deliveries_of (pairs_since n (length c.args.self.now.world.sent) after.0.sent) round.picks round.rest) end) c.loop-router.invariant.network
    (subst (λ (ds : List Sent). WatchedRun g.V.Observer.takes heard c.loop-router.self.network after (deliveries_of (pairs_since c.loop-router.self.network (length ds) after.0.sent) round.picks round.rest) end) c.sent-first.ensures.value
    (subst (λ (a : Asked). WatchedRun g.V.Observer.takes heard c.loop-router.self.network after (deliveries_of (pairs_since c.loop-router.self.network (length c.sent-first.result.now) after.0.sent) a.picks a.rest) end) c.round.view_is
    c.in-Ok.ensures.delivered)) in
    (after, (ticked g.V.Observer.takes c.args.self.now.network _ c.args.round.now c.loop-router.router (c.args.self.now.world, c.args.watch.now) (c.loop-router.self.world, c.loop-router.watch) c.round.view_is c.loop-router-test.false c.loop-router.invariant.ticked), all)
