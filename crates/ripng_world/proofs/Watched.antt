-- Watched runs: how they go on, and what they are without their watcher.
use Rattle.std.proofs.Common.{◌≡◌, ℕ, Some, slice_get, List, [], ◌∷◌, ◌++◌, take, get_or, length, ◌+◌, ◌<◌, map, arith, Result, Ok, Err, IsErrAnd, IfErr, IfSome, OnErr, refl, ap, ap₂, sym, subst, ◌∙◌, append_assoc}
use Rattle.std.proofs.lemmas.List.{append-nil, length-append, map_more, nil_from_length, take-map}
use Rattle.router_core.specs.declared.answer.Answer.{Answer}
use Rattle.ripng_world.specs.Labs.{LabValue, HappensGiving, IsRefusal, IsRefusedNext}
use Rattle.ripng_world.specs.Network.{Network}
use Rattle.ripng_world.specs.Rounds.{AllTick}
use Rattle.ripng_world.specs.Watching.{Told, WatchedRun, WatchedUntil, WatchedInPart, IfRefused, any, due, failures, refusal, refused_as, telling}
use Rattle.ripng_world.specs.Events.{event_of}
use Rattle.ripng_world.specs.World.{World, Event, Happens, WorldRun}
use Rattle.ripng_world.specs.declared.event.Event as coded
use Rattle.ripng_world.specs.declared.event.LabError.{LabError}
use Rattle.ripng_world.specs.declared.watch.Stopped.{Stopped}
use Rattle.ripng_world.specs.declared.watch.Stopped.TheVariants.{Refused, Failed}
use Rattle.ripng_world.proofs.RoundRuns.{run_on}

module _ {V : Type 0} (t : V → Told → V → Type 0) (fits : World → Event → Answer → Type 0) (net : Network) where
  -- one run after another
  pub watched_on : (es fs : List Event) (s mid s' : World × V) → WatchedRun t fits net s es mid → WatchedRun t fits net mid fs s' → WatchedRun t fits net s (es ++ fs) s'
  watched_on [] fs s mid s' first rest = subst (λ v. WatchedRun t fits net v fs s') first rest
  watched_on (e ∷ es) fs s mid s' first rest = (first.0, first.1, first.2, first.3, first.4, watched_on es fs first.0 mid s' first.5 rest)

  pub watched_any : (es : List Event) (s s' : World × V) → WatchedRun t fits net s es s' → WatchedRun t any net s es s'
  watched_any [] s s' is = is
  watched_any (e ∷ es) s s' is = (is.0, is.1, tt, is.3, is.4, watched_any es is.0 s' is.5)

  pub watched_run : (es : List Event) (s s' : World × V) → WatchedRun t fits net s es s' → WorldRun net s.0 es s'.0
  watched_run [] s s' is = ap (λ v. v.0) is
  watched_run (e ∷ es) s s' is = (is.0.0, is.1, is.3, watched_run es is.0 s' is.5)

  -- one event
  pub watched_one : (e : Event) (answer : Answer) (s s' : World × V) → fits s.0 e answer → Happens net s.0 e answer s'.0 → t s.1 (telling net s.0 e answer s'.0) s'.1
      → WatchedRun t fits net s (e ∷ []) s'
  watched_one e answer s s' fit happens told = (s', answer, fit, happens, told, refl)

pub watched_ticks : {V : Type 0} (t : V → Told → V → Type 0) (net : Network) (es : List Event) (s s' : World × V) → WatchedRun t due net s es s' → AllTick net s.0 es s'.0
watched_ticks t net [] s s' is = ap (λ v. v.0) is
watched_ticks t net (e ∷ es) s s' is = (is.0.0, is.1, is.2, is.3, watched_ticks t net es is.0 s' is.5)

module _ {V : Type 0} (t f : V → Told → V → Type 0) where
  -- no telling failed
  pub until_all : (net : Network) (es : List Event) (s s' : World × V) → WatchedRun t any net s es s' → WatchedUntil t f 0 net s es s'
  until_all net es s s' run = record { done = es; last = []; events_are = sym (append-nil es); as_many = refl; before = s'; run = run; failed = refl }

  pub until_on : (k : ℕ) (net : Network) (es fs : List Event) (s mid s' : World × V) → WatchedRun t any net s es mid → WatchedUntil t f k net mid fs s' → WatchedUntil t f k net s (es ++ fs) s'
  until_on k net es fs s mid s' first rest =
      record {
        done = es ++ rest.done;
        last = rest.last;
        events_are = ap (λ (xs : List Event). es ++ xs) rest.events_are ∙ sym (append_assoc es rest.done rest.last);
        as_many = rest.as_many;
        before = rest.before;
        run = watched_on t any net es rest.done s mid rest.before first rest.run;
        failed = rest.failed;
      }

  pub until_run : (k : ℕ) (net : Network) (es : List Event) (s s' : World × V) → WatchedUntil t f k net s es s' → WorldRun net s.0 es s'.0
  until_run k net es s s' is =
      subst (λ (xs : List Event). WorldRun net s.0 xs s'.0) (sym is.events_are)
      (run_on net is.done is.last s.0 is.before.0 s'.0 (watched_run t any net is.done s is.before is.run) (watched_run f any net is.last is.before s' is.failed))

  -- one event, at which the watcher fails
  pub failed_one : (net : Network) (e : Event) (answer : Answer) (s s' : World × V) → Happens net s.0 e answer s'.0 → f s.1 (telling net s.0 e answer s'.0) s'.1 → WatchedUntil t f 1 net s (e ∷ []) s'
  failed_one net e answer s s' happens told =
      record { done = []; last = e ∷ []; events_are = refl; as_many = refl; before = s; run = refl; failed = (s', answer, tt, happens, told, refl) }

  -- nothing happens
  pub none_yet : (net : Network) (es : List Event) (s s' : World × V) → s' ≡ s → WatchedInPart t f 0 net s es s'
  none_yet net es s s' same = record { part = []; left = es; events_are = refl; run = until_all net [] s s' same }

  pub in_whole : (k : ℕ) (net : Network) (es : List Event) (s s' : World × V) → WatchedUntil t f k net s es s' → WatchedInPart t f k net s es s'
  in_whole k net es s s' run = record { part = es; left = []; events_are = sym (append-nil es); run = run }

-- a run that stops, behind one that did not
pub part_from : {V : Type 0} (t f : V → Told → V → Type 0) (k : ℕ) (net net' : Network) (part this next left whole : List Event) (w mid w' : World × V) → net' ≡ net → WatchedRun t any net w part mid
    → WatchedInPart t f k net' mid this w' → next ≡ part ++ this → whole ≡ next ++ left → WatchedInPart t f k net w whole w'
part_from t f k net net' part this next left whole w mid w' same first stops next_is whole_is =
    let stop : WatchedInPart t f k net mid this w' = subst (λ (n : Network). WatchedInPart t f k n mid this w') same stops in
    record {
      part = part ++ stop.part;
      left = stop.left ++ left;
      events_are = whole_is
          ∙ ap (λ (es : List Event). es ++ left) (next_is ∙ ap (λ (es : List Event). part ++ es) stop.events_are ∙ sym (append_assoc part stop.part stop.left))
          ∙ append_assoc (part ++ stop.part) stop.left left;
      run = until_on t f k net part stop.part w mid w' first stop.run;
    }

-- of the error that is handed on
pub handed_on : {X E : Type 0} (r : Result X E) (from : E) (P : E → Type 0) → IsErrAnd r (λ e. e ≡ from) → P from → IfErr r P
handed_on (Ok x) from P is h = absurd is
handed_on (Err e) from P is h = subst P (sym is) h

-- a list of the code's events that goes on
next_taken : (events : List coded.Event) (n : ℕ) (d : coded.Event) → n < length events → d ≡ get_or events n d
    → take (n + 1) (map event_of events) ≡ take n (map event_of events) ++ event_of d ∷ []
next_taken events n d here is =
    take-map event_of (n + 1) events ∙ map_more event_of events n d here
    ∙ ap₂ (λ (xs : List Event) (x : coded.Event). xs ++ event_of x ∷ []) (sym (take-map event_of n events)) (sym is)

module _ {V : Type 0} (t f : V → Told → V → Type 0) (net net' : Network) (s mid s' : World × V) (events : List coded.Event) (n : ℕ) (d : coded.Event) (here : n < length events) (is : d ≡ get_or events n d)
    (first : WatchedRun t any net s (take n (map event_of events)) mid) (same : net' ≡ net) where
  pub run_next : (answer : Answer) → Happens net' mid.0 (event_of d) answer s'.0 → t mid.1 (telling net' mid.0 (event_of d) answer s'.0) s'.1
      → WatchedRun t any net s (take (n + 1) (map event_of events)) s'
  run_next answer happens told =
      subst (λ (es : List Event). WatchedRun t any net s es s') (sym (next_taken events n d here is))
      (watched_on t any net (take n (map event_of events)) (event_of d ∷ []) s mid s' first
      (subst (λ (m : Network). WatchedRun t any m mid (event_of d ∷ []) s') same (watched_one t any net' (event_of d) answer mid s' tt happens told)))

  pub run_failed : WatchedUntil t f 1 net' mid (event_of d ∷ []) s' → WatchedUntil t f 1 net s (take (n + 1) (map event_of events)) s'
  run_failed last =
      subst (λ (es : List Event). WatchedUntil t f 1 net s es s') (sym (next_taken events n d here is))
      (until_on t f 1 net (take n (map event_of events)) (event_of d ∷ []) s mid s' first
      (subst (λ (m : Network). WatchedUntil t f 1 m mid (event_of d ∷ []) s') same last))

-- a part of one event in which a telling failed is that event
pub whole_one : {V : Type 0} (t f : V → Told → V → Type 0) (net : Network) (e : Event) (s s' : World × V) → WatchedInPart t f 1 net s (e ∷ []) s' → WatchedUntil t f 1 net s (e ∷ []) s'
whole_one t f net e s s' p = subst (λ (es : List Event). WatchedUntil t f 1 net s es s') (sym (all_of p.part p.left p.events_are (not_nil p.part p.run.done p.run.last p.run.events_are p.run.as_many))) p.run
  where
    not_nil : (part done last : List Event) → part ≡ done ++ last → length last ≡ 1 → 0 < length part
    not_nil part done last are one = omega (arith, one, ap length are, length-append done last)

    all_of : (part left : List Event) → e ∷ [] ≡ part ++ left → 0 < length part → e ∷ [] ≡ part
    all_of part left are long =
        let none : length left ≡ 0 = omega (arith, long, ap length are, length-append part left) in
        are ∙ ap (λ (xs : List Event). part ++ xs) (nil_from_length left none) ∙ append-nil part

pub failed_at : {V : Type 0} (t f : V → Told → V → Type 0) (net : Network) (e : Event) (s s' : World × V) → WatchedUntil t f 1 net s (e ∷ []) s' → WatchedRun f any net s (e ∷ []) s'
failed_at {V} t f net e s s' u = all_last u.done u.last u.events_are u.as_many u.before u.run u.failed
  where
    all_last : (done last : List Event) → e ∷ [] ≡ done ++ last → length last ≡ 1 → (before : World × V) → WatchedRun t any net s done before → WatchedRun f any net before last s' → WatchedRun f any net s (e ∷ []) s'
    all_last [] last are one before none failed =
        subst (λ (es : List Event). WatchedRun f any net s es s') (sym are) (subst (λ (v : World × V). WatchedRun f any net v last s') none failed)
    all_last (x ∷ done) last are one before run failed =
        absurd (omega (arith, one, ap length are, length-append (x ∷ done) last))

-- what the watcher was told of a step, as there is to tell
module _ {V : Type 0} (t : V → Told → V → Type 0) (lab lab' : LabValue) (e : Event) (given : Answer) (first : ℕ) (v u : V) (happens : HappensGiving lab e given lab'.world)
    (same : lab'.network ≡ lab.network) (first_is : first ≡ length lab.world.sent) (told : t v (record { lab = lab'; event = e; answer = given; first = first }) u) where
  pub given_told : t v (telling lab.network lab.world e happens.0 lab'.world) u
  given_told =
      subst (λ (n : ℕ). t v (record { lab = record { network = lab.network; world = lab'.world }; event = e; answer = record happens.0 { sends = [] }; first = n }) u) first_is
      (subst (λ (a : Answer). t v (record { lab = record { network = lab.network; world = lab'.world }; event = e; answer = a; first = first }) u) happens.2
      (subst (λ (net : Network). t v (record { lab = record { network = net; world = lab'.world }; event = e; answer = given; first = first }) u) same told))

pub map_err : {X E : Type 0} (r : Result X E) (P Q : E → Type 0) → ((e : E) → P e → Q e) → IfErr r P → IfErr r Q
map_err (Ok x) P Q step h = tt
map_err (Err e) P Q step h = step e h

pub err_on : {X E : Type 0} (r : Result X E) (P : E → Type 0) (Q : Type 0) → ((e : E) → P e → Q) → IfErr r P → OnErr r Q
err_on (Ok x) P Q step h = tt
err_on (Err e) P Q step h = step e h

-- ---- how a call stops

pub both_still : {V R F : Type 0} (why : Stopped R F) (lab lab' : LabValue) (v v' : V) → IfSome (refusal why) (λ _. lab' ≡ lab) → IfRefused why (λ _. v' ≡ v)
    → IfRefused why (λ _. ◌≡◌ {A = World × V} (lab'.world, v') (lab.world, v))
both_still {V} (Refused why) lab lab' v v' same told =
    let pair : LabValue → V → World × V = λ l x. (l.world, x) in
    ap₂ pair same told
both_still {V} (Failed fault) lab lab' v v' same told = tt

module _ {V R F : Type 0} (t f : V → Told → V → Type 0) (net net' : Network) (s mid s' : World × V) (events : List coded.Event) (n : ℕ) (d : coded.Event) (here : n < length events)
    (is : d ≡ get_or events n d) (first : WatchedRun t any net s (take n (map event_of events)) mid) (same : net' ≡ net) where
  pub run_stopped : (why : Stopped R F) → WatchedInPart t f (failures why) net' mid (event_of d ∷ []) s' → IfRefused why (λ _. s' ≡ mid)
      → WatchedUntil t f (failures why) net s (take (n + failures why) (map event_of events)) s'
  run_stopped (Refused why) stop still =
      let none : n ≡ n + 0 = omega arith in
      subst (λ (m : ℕ). WatchedUntil t f 0 net s (take m (map event_of events)) s') none
      (until_all t f net (take n (map event_of events)) s s' (subst (λ (v : World × V). WatchedRun t any net s (take n (map event_of events)) v) (sym still) first))
  run_stopped (Failed fault) stop still = run_failed t f net net' s mid s' events n d here is first same (whole_one t f net' (event_of d) mid s' stop)

pub next_refused : {F : Type 0} (why : Stopped LabError F) (lab lab' : LabValue) (events : List Event) (n : ℕ) (e : Event) → slice_get events n ≡ Some e → IfSome (refusal why) (IsRefusal lab e)
    → IfSome (refusal why) (λ _. lab' ≡ lab) → IfRefused why (IsRefusedNext lab' events (n + failures why))
next_refused (Refused why) lab lab' events n e here refused same =
    let none : n ≡ n + 0 = omega arith in
    record {
      event = e;
      event_is = subst (λ (m : ℕ). slice_get events m ≡ Some e) none here;
      reason = subst (λ (l : LabValue). IsRefusal l e why) (sym same) refused;
    }
next_refused (Failed fault) lab lab' events n e here refused same = tt

pub as_many_failed : {R Q F : Type 0} (why : Stopped R F) (other : Q) → failures (refused_as why other) ≡ failures why
as_many_failed (Refused why) other = refl
as_many_failed (Failed fault) other = refl
