-- How a run goes on by one event, waits, and stops.
use Rattle.std.proofs.Common.{◌≡◌, ◌⊎◌, inl, inr, ℕ, ◌≤◌, List, [], ◌∷◌, ◌++◌, length, Result, Ok, Err, IfErr, IsErrAnd, OnOk, max, refl, ap, sym, subst, ◌∙◌, arith, le_refl, le_trans}
use Rattle.std.specs.Prelude.{⊤}
use Rattle.std.specs.List.{AllByRecursion}
use Rattle.ripng_world.specs.Labs.{LabValue}
use Rattle.ripng_world.specs.Network.{Network}
use Rattle.ripng_world.specs.Rounds.{moment_of}
use Rattle.ripng_world.specs.Watching.{Told, IfRefused, WatchedInPart, WatchedRun, failures, heard, refused_as}
use Rattle.ripng_world.specs.World.{World, Event, Deliver, Stranger, Tick, Restart, Shutdown, LinkDown, LinkUp, Reconfigure}
use Rattle.ripng_world.specs.declared.watch.Stopped.{Stopped}
use Rattle.ripng_world.specs.declared.watch.Stopped.TheVariants.{Refused, Failed}
use Rattle.ripng_world.proofs.Watched.{failed_at, whole_one}
use Rattle.ripng_phases.specs.Making.{TellsSteps}
use Rattle.ripng_phases.specs.Phases.{IsOrdinary, Step, events_of}
use Rattle.ripng_phases.proofs.Begun.{events_on}
use Rattle.ripng_phases.proofs.Tells.{all_of, all_on, tells_on, tells_one}
use Rattle.ripng_clock.specs.Carrying.{Asked}
use Rattle.ripng_clock.specs.Passing.{AreInOrder, HasPassed, IsCutShort, IsLast, IsOwn, IsOwnAt, IsReason}
use Rattle.ripng_clock.specs.declared.refused.RunRefused.{RunRefused}
use Rattle.ripng_clock.specs.declared.refused.RunRefused.TheVariants.{BeforeBegin, TooManyEvents, OutOfMemory}

-- ---- events in the order of time

pub order_waits : (low : ℕ) (events : List Event) (high later : ℕ) → high ≤ later → AreInOrder low events high → AreInOrder low events later
order_waits low [] high later le is = le_trans is le
order_waits low (e ∷ events) high later le is = (is.0, order_waits (moment_of e) events high later le is.1)

pub order_on : (low : ℕ) (events : List Event) (now : ℕ) (e : Event) → AreInOrder low events now → moment_of e ≡ now → AreInOrder low (events ++ e ∷ []) now
order_on low [] now e is at = (subst (λ n. low ≤ n) (sym at) is, subst (λ n. n ≤ now) (sym at) (le_refl now))
order_on low (x ∷ events) now e is at = (is.0, order_on (moment_of x) events now e is.1 at)

pub ordinary : (asked : Asked) (e : Event) → IsOwn asked e → IsOrdinary e
ordinary asked (Tick router now word) own = tt
ordinary asked (Deliver datagram router iface now) own = tt
ordinary asked (Stranger router x) own = absurd own
ordinary asked (Restart router now) own = absurd own
ordinary asked (Shutdown router now) own = absurd own
ordinary asked (LinkDown router now iface) own = absurd own
ordinary asked (LinkUp router now iface) own = absurd own
ordinary asked (Reconfigure router now change) own = absurd own

-- ---- a run goes on

module _ {V : Type 0} (t : V → Told → V → Type 0) (asked : Asked) (s : LabValue × V) (begin now : ℕ) (a : LabValue × V) (is : HasPassed t asked s begin now a) where
  -- time passes
  pub waits : (later : ℕ) → now ≤ later → HasPassed t asked s begin later a
  waits later le =
      record {
        network = is.network;
        steps = is.steps;
        tells = is.tells;
        own = is.own;
        in_order = order_waits begin (events_of is.steps) now later le is.in_order;
      }

  -- an event happens
  pub passed_one : (e : Event) → IsOwnAt asked now e → (b : LabValue × V) → b.0.network ≡ a.0.network → WatchedRun t heard a.0.network (a.0.world, a.1) (e ∷ []) (b.0.world, b.1)
      → HasPassed t asked s begin now b
  passed_one e own b same run =
      record {
        network = same ∙ is.network;
        steps = is.steps ++ x.0 ∷ [];
        tells = tells_on t s.0.network is.steps (x.0 ∷ []) (s.0.world, s.1) (a.0.world, a.1) (b.0.world, b.1) is.tells x.2;
        own = subst (AllByRecursion (IsOwn asked)) (sym events) (all_on (IsOwn asked) (events_of is.steps) (e ∷ []) is.own (own.0, tt));
        in_order = subst (λ es. AreInOrder begin es now) (sym events) (order_on begin (events_of is.steps) now e is.in_order own.1);
      }
    where
      x : (x : Step) × (x.event ≡ e) × TellsSteps t s.0.network (a.0.world, a.1) (x ∷ []) (b.0.world, b.1)
      x = tells_one t s.0.network e (ordinary asked e own.0) (a.0.world, a.1) (b.0.world, b.1)
          (subst (λ (n : Network). WatchedRun t heard n (a.0.world, a.1) (e ∷ []) (b.0.world, b.1)) is.network run)

      events : events_of (is.steps ++ x.0 ∷ []) ≡ events_of is.steps ++ e ∷ []
      events = events_on is.steps (x.0 ∷ []) ∙ ap (λ (f : Event). events_of is.steps ++ f ∷ []) x.1

  -- the run stops at an event, or before it
  pub cut_at : {F : Type 0} (f : V → Told → V → Type 0) (why : Stopped RunRefused F) (b : LabValue × V) → b.0.network ≡ a.0.network
      → IfRefused why (λ refusal. refusal ≡ OutOfMemory) → IsLast t f (IsOwnAt asked now) a.0.network (a.0.world, a.1) why (b.0.world, b.1) → IsCutShort t f asked s begin why b
  cut_at {F} f why b same memory last =
      record {
        network = same ∙ is.network;
        now = now;
        steps = is.steps;
        before = (a.0.world, a.1);
        tells = is.tells;
        own = is.own;
        in_order = is.in_order;
        ends = subst (λ (net : Network). IsLast t f (IsOwnAt asked now) net (a.0.world, a.1) why (b.0.world, b.1)) is.network last;
        reason = any_time why memory;
      }
    where
      any_time : (why : Stopped RunRefused F) → IfRefused why (λ refusal. refusal ≡ OutOfMemory) → IsReason why begin asked.until is.steps
      any_time (Refused refusal) memory = subst (λ (r : RunRefused). IsReason {F = F} (Refused r) begin asked.until is.steps) (sym memory) tt
      any_time (Failed fault) memory = tt

  -- the run stops where nothing happens
  pub cut_here : {F : Type 0} (f : V → Told → V → Type 0) (why : RunRefused) → ((steps : List Step) → IsReason {F = F} (Refused why) begin asked.until steps) → IsCutShort {F = F} t f asked s begin (Refused why) a
  cut_here {F} f why reason =
      record {
        network = is.network;
        now = now;
        steps = is.steps;
        before = (a.0.world, a.1);
        tells = is.tells;
        own = is.own;
        in_order = is.in_order;
        ends = record { last = []; only = tt; ends = (few, refl) };
        reason = reason is.steps;
      }
    where
      few : 0 ≤ 1
      few = omega arith

-- nothing has happened yet
pub passed_none : {V : Type 0} (t : V → Told → V → Type 0) (asked : Asked) (s : LabValue × V) (begin : ℕ) → HasPassed t asked s begin begin s
passed_none t asked s begin = record { network = refl; steps = []; tells = refl; own = tt; in_order = le_refl begin }

-- before it begins
pub not_begun : {V F : Type 0} (t f : V → Told → V → Type 0) (asked : Asked) (s : LabValue × V) (begin : ℕ) (why : RunRefused) → IsReason {F = F} (Refused why) begin asked.until []
    → IsCutShort {F = F} t f asked s begin (Refused why) s
not_begun t f asked s begin why reason =
    record {
      network = refl;
      now = begin;
      steps = [];
      before = (s.0.world, s.1);
      tells = refl;
      own = tt;
      in_order = le_refl begin;
      ends = record { last = []; only = tt; ends = (few, refl) };
      reason = reason;
    }
  where
    few : 0 ≤ 1
    few = omega arith

-- ---- the last event

-- an event of another kind, too
pub last_of_kind : {V F : Type 0} (t f : V → Told → V → Type 0) (P Q : Event → Type 0) (net : Network) (s : World × V) (why : Stopped RunRefused F) (s' : World × V) → ((e : Event) → P e → Q e)
    → IsLast t f P net s why s' → IsLast t f Q net s why s'
last_of_kind t f P Q net s why s' step is = record { last = is.last; only = all_of P Q step is.last is.only; ends = is.ends }

-- an event is refused, or the observer fails at it
pub stopped_at : {V R F : Type 0} (t f : V → Told → V → Type 0) (why : Stopped R F) (other : RunRefused) (net : Network) (e : Event) (s s' : World × V) → WatchedInPart t f (failures why) net s (e ∷ []) s'
    → IfRefused why (λ _. s' ≡ s) → IsLast t f (λ x. x ≡ e) net s (refused_as why other) s'
stopped_at t f (Refused why) other net e s s' stop still = record { last = []; only = tt; ends = (few, still) }
  where
    few : 0 ≤ 1
    few = omega arith
stopped_at t f (Failed fault) other net e s s' stop still = record { last = e ∷ []; only = (refl, tt); ends = (refl, failed_at t f net e s s' (whole_one t f net e s s' stop)) }

pub memory_as : {R F : Type 0} (why : Stopped R F) → IfRefused (refused_as why OutOfMemory) (λ refusal. refusal ≡ OutOfMemory)
memory_as (Refused why) = refl
memory_as (Failed fault) = tt

-- ---- errors that are handed on

pub handed : {Y E : Type 0} (r : Result Y E) (why : E) (P : E → Type 0) → IsErrAnd r (λ e. e ≡ why) → P why → IfErr r P
handed (Ok y) why P is h = absurd is
handed (Err e) why P is h = subst P (sym is) h
