-- Rounds that are made and told: how they go on, and how they stop.
use Rattle.std.proofs.Common.{◌≡◌, ℕ, ◌+◌, ◌<◌, inl, inr, Some, slice_get, Result, Ok, Err, IfErr, OnOk, List, [], ◌∷◌, ◌++◌, take, drop, length, get_or, refl, ap, sym, subst, ◌∙◌}
use Rattle.std.proofs.lemmas.Grind.{flat_map-append}
use Rattle.std.proofs.lemmas.List.{append-nil, take-append-drop, take_more}
use Rattle.std.proofs.Math.Seq.{take-append_seam}
use Rattle.router_core.specs.declared.answer.Answer.{Answer}
use Rattle.ripng_world.specs.Asked.{Asked}
use Rattle.ripng_world.specs.AskedRounds.{AreMade, IsMade, round_of, ticks_of}
use Rattle.ripng_world.specs.Delivering.{StopAt}
use Rattle.ripng_world.specs.Network.{Network}
use Rattle.ripng_world.specs.Rounds.{Round, AllTick, IsDueTick, events_of_rounds}
use Rattle.ripng_world.specs.Stopping.{RoundStops, RoundsStop, round_in}
use Rattle.ripng_world.specs.Watching.{Told, WatchedRun, WatchedInPart, AreMadeTold, IsMadeTold, IfRefused, RoundToldInPart, any, due, failures, heard, refused_as, telling}
use Rattle.ripng_world.specs.World.{World, Event, Happens, WorldRun}
use Rattle.ripng_world.specs.declared.lab.making.RoundsRefused.{RoundsRefused}
use Rattle.ripng_world.specs.declared.lab.making.RoundsRefused.TheVariants.{OutOfMemory}
use Rattle.ripng_world.specs.declared.watch.Stopped.{Stopped}
use Rattle.ripng_world.specs.declared.watch.Stopped.TheVariants.{Refused, Failed}
use Rattle.ripng_world.proofs.AskedRuns.{tick_on}
use Rattle.ripng_world.proofs.AskedSynchronous.{failed_still, made_still, stopped_still}
use Rattle.ripng_world.proofs.Delivered.{delivered_heard}
use Rattle.ripng_world.proofs.Watched.{part_from, until_all, until_on, until_run, watched_any, watched_on, watched_one, watched_ticks, whole_one}

-- ---- ticks

module _ {V : Type 0} (t f : V → Told → V → Type 0) (net net' : Network) (a : Asked) (r : ℕ) (e : Event) (s mid s' : World × V) (next : take (r + 1) (ticks_of a.ticks) ≡ take r (ticks_of a.ticks) ++ e ∷ [])
    (first : WatchedRun t due net s (take r (ticks_of a.ticks)) mid) (same : net' ≡ net) where
  ticks : List Event
  ticks = ticks_of a.ticks

  -- one more
  pub told_tick : (answer : Answer) → IsDueTick mid.0 e → Happens net' mid.0 e answer s'.0 → t mid.1 (telling net' mid.0 e answer s'.0) s'.1 → WatchedRun t due net s (take (r + 1) (ticks_of a.ticks)) s'
  unfolding ticks
  told_tick answer is_due happens told =
      subst (λ (es : List Event). WatchedRun t due net s es s') (sym next)
      (watched_on t due net (take r ticks) (e ∷ []) s mid s' first
      (subst (λ (m : Network). WatchedRun t due m mid (e ∷ []) s') same (watched_one t due net' e answer mid s' is_due happens told)))

  -- the last one
  pub ticks_stop : (k : ℕ) → WatchedInPart t f k net' mid (e ∷ []) s' → WatchedInPart t f k net s (ticks_of a.ticks) s'
  unfolding ticks
  ticks_stop k stop =
      part_from t f k net net' (take r ticks) (e ∷ []) (take (r + 1) ticks) (drop (r + 1) ticks) ticks s mid s' same (watched_any t due net (take r ticks) s mid first) stop next
      (sym (take-append-drop (r + 1) ticks))

  -- it is refused, or the watcher fails at it
  pub ticks_end : {R F : Type 0} (n : ℕ) (why : Stopped R F) → slice_get (ticks_of a.ticks) r ≡ Some e → WatchedInPart t f (failures why) net' mid (e ∷ []) s'
      → IfRefused why (λ _. s' ≡ mid) → IsDueTick mid.0 e → RoundStops net s.0 a (refused_as why (OutOfMemory n)) s'.0
  unfolding ticks
  ticks_end n (Refused why) here stop still is_due =
      inl (record {
        done = r;
        before = subst (λ (v : World × V). AllTick net s.0 (take r ticks) v.0) (sym still) (watched_ticks t net (take r ticks) s mid first);
        tick = e;
        tick_is = here;
        due = subst (λ (v : World × V). IsDueTick v.0 e) (sym still) is_due;
      })
  ticks_end n (Failed fault) here stop still is_due =
      let last : WorldRun net mid.0 (e ∷ []) s'.0 =
      subst (λ (m : Network). WorldRun m mid.0 (e ∷ []) s'.0) same (until_run t f 1 net' (e ∷ []) mid s' (whole_one t f net' e mid s' stop)) in
      let happens : Happens net mid.0 e last.1 s'.0 = subst (λ (v : World). Happens net mid.0 e last.1 v) (sym last.3) last.2 in
      inl (record {
        before = r;
        tick = e;
        tick_is = here;
        done = subst (λ (es : List Event). AllTick net s.0 es s'.0) (sym next)
            (tick_on net (take r ticks) e last.1 s.0 mid.0 s'.0 (watched_ticks t net (take r ticks) s mid first) is_due happens);
      })

pub some_ticks : {V : Type 0} (t f : V → Told → V → Type 0) (net : Network) (ticks : List Event) (r : ℕ) (s s' : World × V) → WatchedRun t due net s (take r ticks) s' → WatchedInPart t f 0 net s ticks s'
some_ticks t f net ticks r s s' first =
    record {
      part = take r ticks;
      left = drop r ticks;
      events_are = sym (take-append-drop r ticks);
      run = until_all t f net (take r ticks) s s' (watched_any t due net (take r ticks) s s' first);
    }

-- ---- a round

pub made_told : {V : Type 0} (t : V → Told → V → Type 0) (net : Network) (a : Asked) (s s' : World × V) → IsMadeTold t net s a s' → IsMade net s.0 a s'.0
made_told t net a s s' m =
    let round = round_of net a s.0 m.0.0 in
    (m.0.0, watched_ticks t net round.ticks s m.0 m.1, delivered_heard t net round.deliveries m.0 s' m.2)

round_told : {V : Type 0} (t : V → Told → V → Type 0) (net : Network) (a : Asked) (s s' : World × V) (m : IsMadeTold t net s a s')
    → WatchedRun t any net s ((round_of net a s.0 m.0.0).ticks ++ (round_of net a s.0 m.0.0).deliveries) s'
round_told t net a s s' m =
    let round = round_of net a s.0 m.0.0 in
    watched_on t any net round.ticks round.deliveries s m.0 s' (watched_any t due net round.ticks s m.0 m.1) (watched_any t heard net round.deliveries m.0 s' m.2)

-- what is told is the beginning of a list
beginning : {X : Type 0} (xs part left : List X) → xs ≡ part ++ left → part ≡ take (length part) xs
beginning xs part left are = sym (ap (take (length part)) are ∙ take-append_seam part left)

module _ {V : Type 0} (t f : V → Told → V → Type 0) (k : ℕ) (net : Network) (a : Asked) (s s' : World × V) where
  pub stop_in_ticks : WatchedInPart t f k net s (ticks_of a.ticks) s' → RoundToldInPart t f k net s a s'
  stop_in_ticks p = record { events = p.part; first = inl (length p.part, beginning (ticks_of a.ticks) p.part p.left p.events_are); run = p.run }

  pub stop_in_deliveries : (after : World × V) → WatchedRun t due net s (ticks_of a.ticks) after → WatchedInPart t f k net after (round_of net a s.0 after.0).deliveries s' → RoundToldInPart t f k net s a s'
  stop_in_deliveries after ticked p =
      let deliveries = (round_of net a s.0 after.0).deliveries in
      record {
        events = ticks_of a.ticks ++ p.part;
        first = inr (after.0, watched_ticks t net (ticks_of a.ticks) s after ticked, length p.part, ap (λ (es : List Event). ticks_of a.ticks ++ es) (beginning deliveries p.part p.left p.events_are));
        run = until_on t f k net (ticks_of a.ticks) p.part s after s' (watched_any t due net (ticks_of a.ticks) s after ticked) p.run;
      }

-- ---- rounds

made_with : (net : Network) (asks : List Asked) (rs : List Round) (a : Asked) (w mid w' : World) → AreMade net w asks rs mid → (m : IsMade net mid a w')
    → AreMade net w (asks ++ a ∷ []) (rs ++ round_of net a mid m.0 ∷ []) w'
made_with net [] [] a w mid w' first made =
    subst (λ (v : World). (m : IsMade net v a w') → AreMade net w (a ∷ []) (round_of net a v m.0 ∷ []) w') (sym first) (λ m. (m.0, w', refl, m.1, m.2, refl)) made
made_with net (x ∷ asks) (r ∷ rs) a w mid w' first made = (first.0, first.1, first.2, first.3, first.4, made_with net asks rs a first.1 mid w' first.5 made)
made_with net _ _ a w mid w' first made = absurd first

events_more : (rs : List Round) (r : Round) → events_of_rounds (rs ++ r ∷ []) ≡ events_of_rounds rs ++ (r.ticks ++ r.deliveries)
events_more rs r =
    let f : Round → List Event = λ x. x.ticks ++ x.deliveries in
    flat_map-append f rs (r ∷ []) ∙ ap (λ (es : List Event). events_of_rounds rs ++ es) (append-nil (r.ticks ++ r.deliveries))

pub told_more : {V : Type 0} (t : V → Told → V → Type 0) (net : Network) (asks : List Asked) (n : ℕ) (a : Asked) (s mid s' : World × V) → n < length asks → a ≡ get_or asks n a
    → AreMadeTold t net s (take n asks) mid → IsMadeTold t net mid a s' → AreMadeTold t net s (take (n + 1) asks) s'
unfolding made_told
told_more t net asks n a s mid s' here is before made =
    let next : take (n + 1) asks ≡ take n asks ++ a ∷ [] = take_more asks n a here ∙ ap (λ x. take n asks ++ x ∷ []) (sym is) in
    let round = round_of net a mid.0 made.0.0 in
    subst (λ (xs : List Asked). AreMadeTold t net s xs s') (sym next) (
      before.0 ++ round ∷ [],
      made_with net (take n asks) before.0 a s.0 mid.0 s'.0 before.1 (made_told t net a mid s' made),
      subst (λ (es : List Event). WatchedRun t any net s es s') (sym (events_more before.0 round))
          (watched_on t any net (events_of_rounds before.0) (round.ticks ++ round.deliveries) s mid s' before.2 (round_told t net a mid s' made)),
    )

module _ {F : Type 0} (net : Network) where
  pub end_in_deliveries : {R : Type 0} (a : Asked) (n : ℕ) (why : Stopped R F) (w after w' : World) → AllTick net w (ticks_of a.ticks) after → StopAt net after (round_of net a w after).deliveries why w'
      → RoundStops net w a (refused_as why (OutOfMemory n)) w'
  end_in_deliveries a n (Refused why) w after w' ticked stop = inr (after, ticked, stop)
  end_in_deliveries a n (Failed fault) w after w' ticked stop = inr (after, ticked, stop)

  pub same_round : {R : Type 0} (n : ℕ) (why : Stopped R F) → IfRefused (refused_as why (OutOfMemory n)) (λ refusal. round_in refusal ≡ n)
  same_round n (Refused why) = refl
  same_round n (Failed fault) = tt

  pub rounds_stopped : {V : Type 0} (t : V → Told → V → Type 0) (asks : List Asked) (n : ℕ) (a : Asked) (s mid : World × V) (w' : World) (why : Stopped RoundsRefused F)
      → IfRefused why (λ refusal. round_in refusal ≡ n) → AreMadeTold t net s (take n asks) mid → slice_get asks n ≡ Some a → RoundStops net mid.0 a why w' → RoundsStop net s.0 asks why w'
  rounds_stopped t asks n a s mid w' (Refused why) number made here stops =
      record {
        rounds = made.0;
        begin = mid.0;
        made = subst (λ (m : ℕ). AreMade net s.0 (take m asks) made.0 mid.0) (sym number) made.1;
        stopped = a;
        stopped_is = subst (λ (m : ℕ). slice_get asks m ≡ Some a) (sym number) here;
        stops = stops;
      }
  rounds_stopped t asks n a s mid w' (Failed fault) number made here stops =
      (n, record { rounds = made.0; begin = mid.0; made = made.1; stopped = a; stopped_is = here; stops = stops })

  pub rounds_still : {X V : Type 0} (t : V → Told → V → Type 0) (asks : List Asked) (s s' : World × V) (r : Result X (Stopped RoundsRefused F)) → OnOk r (AreMadeTold t net s asks s')
      → IfErr r (λ why. RoundsStop net s.0 asks why s'.0) → s'.0.reconfigurations ≡ s.0.reconfigurations
  rounds_still t asks s s' (Ok x) made stopped = made_still net asks made.0 s.0 s'.0 made.1
  rounds_still t asks s s' (Err (Refused why)) made stopped = stopped_still net asks why s.0 s'.0 stopped
  rounds_still t asks s s' (Err (Failed fault)) made stopped = failed_still net asks s.0 s'.0 stopped
