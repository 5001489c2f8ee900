-- How a phase begins, ends, and stops.
use Rattle.std.proofs.Common.{◌≡◌, ◌⊎◌, inl, inr, ℕ, zero, suc, ◌+◌, ◌<◌, ◌≤◌, List, [], ◌∷◌, ◌++◌, length, Result, Ok, Err, IsErrAnd, IfErr, OnOk, Some, slice_get, refl, sym, subst, ◌∙◌, arith, le_refl, le_trans, ok_or, replicate}
use Rattle.std.specs.Prelude.{⊤, IfSome, Option, None, SomeIff}
use Rattle.std.specs.List.{AllByRecursion}
use Rattle.std.proofs.lemmas.Option.{slice_get_within}
use Rattle.route_table.proofs.TableLaws.{None-Some, Some-same}
use Rattle.ripng_world.specs.Labs.{LabValue}
use Rattle.ripng_world.specs.Network.{Network}
use Rattle.ripng_world.specs.Watching.{Told, IfRefused, WatchedInPart, WatchedRun, failures, heard, refused_as}
use Rattle.ripng_world.specs.World.{World, Event, Tick}
use Rattle.ripng_world.specs.declared.watch.Stopped.{Stopped}
use Rattle.ripng_world.specs.declared.watch.Stopped.TheVariants.{Refused, Failed}
use Rattle.ripng_world.proofs.Watched.{failed_at, whole_one}
use Rattle.ripng_phases.specs.Making.{GoesOn, IsCutShort, IsHandedInPart, IsInMinute, IsLast, IsMadePhase, IsRising, IsTooLate, IsUnderway, TellsSteps}
use Rattle.ripng_phases.specs.Phases.{IsHeardUpdate, events_of}
use Rattle.ripng_phases.specs.declared.acting.Course.{Course}
use Rattle.ripng_phases.specs.declared.acting.Update.{Update}
use Rattle.ripng_phases.specs.declared.refused.PhaseRefused.{PhaseRefused}
use Rattle.ripng_phases.specs.declared.refused.PhaseRefused.TheVariants.{OutOfMemory}
use Rattle.ripng_phases.proofs.Begun.{events_on}
use Rattle.ripng_phases.proofs.Going.{minute_of, nudged, waits}
use Rattle.ripng_phases.proofs.Tells.{tells_on, all_on, rising_on, rising_one}

-- a phase begins at a moment, with a datagram, and no router has sent anything
pub record IsFresh (lab : LabValue) (moment first : ℕ) (course : Course) : Type 0 where
  pub moment_is : course.moment ≡ moment
  pub ends : course.end ≡ moment + 60_000
  pub next_is : course.next ≡ first
  pub until_is : course.until ≡ length lab.world.sent
  pub routers : length course.told.items ≡ length lab.network
  pub untold : (router : ℕ) (u : Update) → slice_get course.told.items router ≡ Some (Some u) → ⊥

-- want of memory, or the watcher, comes at any time
pub any_time : {F : Type 0} (why : Stopped PhaseRefused F) (begin : ℕ) (w : World) → IfRefused why (λ refusal. refusal ≡ OutOfMemory) → IsTooLate why begin w
any_time {F = F} (Refused refusal) begin w is = subst (λ (r : PhaseRefused). IsTooLate {F = F} (Refused r) begin w) (sym is) tt
any_time (Failed fault) begin w is = tt

-- nothing happens
pub nothing_last : {V : Type 0} (F : Type 0) (t f : V → Told → V → Type 0) (net : Network) (s : World × V) (why : PhaseRefused) → IsLast {V = V} {F = F} t f net s (Refused why) s
nothing_last F t f net s why = ([], (few, refl))
  where
    few : 0 ≤ 1
    few = omega arith

-- an event is refused, or the watcher fails at it
pub stopped_at : {V R F : Type 0} (t f : V → Told → V → Type 0) (why : Stopped R F) (other : PhaseRefused) (net : Network) (e : Event) (s s' : World × V) → WatchedInPart t f (failures why) net s (e ∷ []) s'
    → IfRefused why (λ _. s' ≡ s) → IsLast t f net s (refused_as why other) s'
stopped_at t f (Refused why) other net e s s' stop still = ([], (few, still))
  where
    few : 0 ≤ 1
    few = omega arith
stopped_at t f (Failed fault) other net e s s' stop still = (e ∷ [], (refl, failed_at t f net e s s' (whole_one t f net e s s' stop)))

module _ {V : Type 0} (t : V → Told → V → Type 0) (s : LabValue × V) (first begin : ℕ) (course : Course) (a : LabValue × V) (u : IsUnderway t s first begin course a) where
  -- the minute is not over
  pub before_end : course.moment < course.end
  before_end = subst (λ (n : ℕ). course.moment < n) (sym u.ends) u.in_time

  -- time passes up to a moment
  pub waits_until : (due : ℕ) → (course.moment < course.end → (course.moment ≤ due) × (due < course.end)) → IsUnderway t s first begin (record course { moment = due }) a
  waits_until due inside =
      let i = inside before_end in
      waits t s first begin course (record course { moment = due }) a u refl i.0 (λ _. i.1)

module _ {V F : Type 0} (t f : V → Told → V → Type 0) where
  -- an error that is handed on
  pub goes_handed : {Y : Type 0} (r : Result Y (Stopped PhaseRefused F)) (why : Stopped PhaseRefused F) (old new : LabValue × V) (course course' course'' : Course) → IsErrAnd r (λ e. e ≡ why)
      → GoesOn {X = ⊤} t f (Err why) old course new course' → GoesOn t f r old course new course''
  goes_handed (Ok y) why old new course course' course'' is goes = absurd is
  goes_handed (Err e) why old new course course' course'' is goes = λ s number begin u. subst (λ (x : Stopped PhaseRefused F). IsCutShort t f s number begin x new) (sym is) (goes s number begin u)

  -- it stops at one event
  pub cut_short : (s : LabValue × V) (first begin : ℕ) (course : Course) (a b : LabValue × V) (why : Stopped PhaseRefused F) → IsUnderway t s first begin course a → b.0.network ≡ a.0.network
      → IsLast t f a.0.network (a.0.world, a.1) why (b.0.world, b.1) → IsTooLate why begin b.0.world → IsCutShort t f s first begin why b
  cut_short s first begin course a b why is same last late =
      record {
        network = same ∙ is.network;
        steps = is.steps;
        before = (a.0.world, a.1);
        tells = is.tells;
        in_minute = is.in_minute;
        high = course.next;
        in_order = is.in_order;
        ends = subst (λ (net : Network). IsLast t f net (a.0.world, a.1) why (b.0.world, b.1)) is.network last;
        too_late = late;
      }

  -- it stops where nothing happens
  pub stops_here : (X : Type 0) (why : PhaseRefused) (a : LabValue × V) (course course' : Course) → ((begin : ℕ) → course.end ≡ begin + 60_000 → course.moment < course.end → IsTooLate {F = F} (Refused why) begin a.0.world)
      → GoesOn {X = X} {F = F} t f (Err (Refused why)) a course a course'
  stops_here X why a course course' late = λ s number begin u.
      cut_short s number begin course a a (Refused why) u refl (nothing_last F t f a.0.network (a.0.world, a.1) why) (late begin u.ends (before_end t s number begin course a u))

  -- before it begins
  pub not_begun : (s : LabValue × V) (first begin : ℕ) (why : PhaseRefused) → IsTooLate {F = F} (Refused why) begin s.0.world → IsCutShort {F = F} t f s first begin (Refused why) s
  not_begun s first begin why late =
      record {
        network = refl;
        steps = [];
        before = (s.0.world, s.1);
        tells = refl;
        in_minute = tt;
        high = first;
        in_order = le_refl first;
        ends = nothing_last F t f s.0.network (s.0.world, s.1) why;
        too_late = late;
      }

  -- a phase that stops hands its error on
  pub cut_handed : {Y : Type 0} (r : Result Y (Stopped PhaseRefused F)) (why : Stopped PhaseRefused F) (s : LabValue × V) (first begin : ℕ) (new : LabValue × V) → IsErrAnd r (λ e. e ≡ why)
      → IsCutShort t f s first begin why new → IfErr r (λ e. IsCutShort t f s first begin e new)
  cut_handed (Ok y) why s first begin new is cut = absurd is
  cut_handed (Err e) why s first begin new is cut = subst (λ (x : Stopped PhaseRefused F). IsCutShort t f s first begin x new) (sym is) cut

  -- memory is refused behind a phase
  pub cut_behind : (s : LabValue × V) (first begin next : ℕ) (s' : LabValue × V) → IsMadePhase t s first begin next s' → IsCutShort {F = F} t f s first begin (Refused OutOfMemory) s'
  cut_behind s first begin next s' made =
      record {
        network = made.network;
        steps = made.steps;
        before = (s'.0.world, s'.1);
        tells = made.tells;
        in_minute = made.in_minute;
        high = next;
        in_order = made.in_order;
        ends = nothing_last F t f s.0.network (s'.0.world, s'.1) OutOfMemory;
        too_late = tt;
      }

  -- a router ticks, or is cut short at it
  pub goes_nudged : (r : Result ⊤ (Stopped PhaseRefused F)) (old new : LabValue × V) (course : Course) (router word : ℕ) → new.0.network ≡ old.0.network
      → OnOk r (WatchedRun t heard old.0.network (old.0.world, old.1) (Tick router course.moment word ∷ []) (new.0.world, new.1))
      → IfErr r (λ why. IsLast t f old.0.network (old.0.world, old.1) why (new.0.world, new.1)) → IfErr r (λ why. IfRefused why (λ refusal. refusal ≡ OutOfMemory))
      → GoesOn t f r old course new course
  goes_nudged (Ok x) old new course router word same run last memory = λ s number begin u. nudged t s number begin course old new u router word same run
  goes_nudged (Err why) old new course router word same run last memory = λ s number begin u. cut_short s number begin course old new why u same last (any_time why begin new.0.world memory)

  -- in the midst of a datagram
  pub handed_in_part : (s : LabValue × V) (first begin : ℕ) (course : Course) (a b : LabValue × V) (why : Stopped PhaseRefused F) → IsUnderway t s first begin course a → b.0.network ≡ a.0.network
      → IsHandedInPart t f a.0.network (a.0.world, a.1) course.next course.moment why (b.0.world, b.1) → IsCutShort t f s first begin why b
  handed_in_part s first begin course a b why is same h =
      let tells = subst (λ (net : Network). TellsSteps t net (a.0.world, a.1) h.steps h.before) is.network h.tells in
      record {
        network = same ∙ is.network;
        steps = is.steps ++ h.steps;
        before = h.before;
        tells = tells_on t s.0.network is.steps h.steps (s.0.world, s.1) (a.0.world, a.1) h.before is.tells tells;
        in_minute = subst (AllByRecursion (IsInMinute begin)) (sym (events_on is.steps h.steps))
            (all_on (IsInMinute begin) (events_of is.steps) (events_of h.steps) is.in_minute (minute_of begin course.next course.moment is.not_before is.in_time (events_of h.steps) h.only_this));
        high = course.next + 1;
        in_order = subst (λ (es : List Event). IsRising first es (course.next + 1)) (sym (events_on is.steps h.steps))
            (rising_on first (events_of is.steps) course.next (events_of h.steps) (course.next + 1) is.in_order (rising_one course.next course.moment (events_of h.steps) h.only_this));
        ends = subst (λ (net : Network). IsLast t f net h.before why (b.0.world, b.1)) is.network h.ends;
        too_late = any_time why begin b.0.world h.memory;
      }

module _ {V : Type 0} (t : V → Told → V → Type 0) where
  -- a phase begins
  pub begins : (lab : LabValue) (v : V) (moment first : ℕ) (course : Course) → IsFresh lab moment first course → first ≤ length lab.world.sent → IsUnderway t (lab, v) first moment course (lab, v)
  begins lab v moment first course fresh within =
      record {
        network = refl;
        steps = [];
        tells = refl;
        in_minute = tt;
        in_order = subst (λ (n : ℕ). first ≤ n) (sym fresh.next_is) (le_refl first);
        ends = fresh.ends;
        not_before = subst (λ (n : ℕ). moment ≤ n) (sym fresh.moment_is) (le_refl moment);
        in_time = soon moment course.moment fresh.moment_is;
        updates = λ router u at. absurd (fresh.untold router u at);
        begun = same (length lab.world.sent) course.until fresh.until_is;
        sent = same course.until (length lab.world.sent) (sym fresh.until_is);
        next_in = subst (λ (n : ℕ). n ≤ length lab.world.sent) (sym fresh.next_is) within;
      }
    where
      soon : (a b : ℕ) → b ≡ a → b < a + 60_000
      soon a b e = omega arith

      same : (a b : ℕ) → b ≡ a → a ≤ b
      same a b e = omega arith

  -- and is over
  pub is_over : (s : LabValue × V) (first begin : ℕ) (course : Course) (b : LabValue × V) → IsUnderway t s first begin course b
      → ((router : ℕ) → router < length s.0.network → (u : Update) × (slice_get course.told.items router ≡ Some (Some u)))
      → (course.until ≤ course.next) ⊎ (length b.0.world.sent ≤ course.next) → IsMadePhase t s first begin course.next b
  is_over s first begin course b is told over =
      record {
        network = is.network;
        steps = is.steps;
        tells = is.tells;
        in_minute = is.in_minute;
        in_order = is.in_order;
        told = updates;
        handed_on = le_trans is.begun all;
        next_in = is.next_in;
      }
    where
      all : course.until ≤ course.next
      all = elim over [
        | inl x ↦ x
        | inr x ↦ le_trans is.sent x
      ]

      within : (datagram sent end until next : ℕ) → datagram < sent → end ≡ sent → end ≤ until → until ≤ next → datagram < next
      within datagram sent end until next p e q r = omega arith

      updates : (router : ℕ) → router < length s.0.network → IsHeardUpdate s.0.network s.0.world is.steps router
      updates router here =
          let x = told router here in
          let u = is.updates router x.0 x.1 in
          record {
            before = u.0.before;
            tick = u.0.tick;
            after = u.0.after;
            parts = u.0.parts;
            now = u.0.now;
            word = u.0.word;
            ticks = u.0.ticks;
            due = u.0.due;
            heard = λ datagram other iface d late at linked elsewhere.
                u.0.handed_on datagram d (subst (λ (n : ℕ). n ≤ datagram) (sym u.0.first_is) late)
                (within datagram (length u.0.tick.after.sent) x.0.end course.until course.next (slice_get_within u.0.tick.after.sent datagram d at) u.0.end_is u.1 all) at other iface linked elsewhere;
          }

-- what a test of a bound gives
pub if_new : (P : Type 0) (n : ℕ) (r : Option ℕ) (Q : ℕ → Type 0) → SomeIff r P n → Q n → IfSome r Q
if_new P n None Q is q = tt
if_new P n (Some x) Q is q = subst Q (sym is.1) q

pub not_new : (P : Type 0) (n : ℕ) (r : Option ℕ) → SomeIff r P n → r ≡ None → P → ⊥
not_new P n None is e = is
not_new P n (Some x) is e = absurd (None-Some x (sym e))

pub some_new : (P : Type 0) (n : ℕ) (r : Option ℕ) (x : ℕ) → SomeIff r P n → r ≡ Some x → P × (x ≡ n)
some_new P n None x is e = absurd (None-Some x e)
some_new P n (Some y) x is e = (is.0, sym (Some-same y x e) ∙ is.1)

-- an answer that stands for none
pub ended : {X E : Type 0} (o : Option X) (e why : E) → Err why ≡ ok_or o e → (o ≡ None) × (why ≡ e)
ended None e why is = (refl, cc)
ended (Some x) e why is = absurd (cc)

pub some_fact : {X : Type 0} (o : Option X) (x : X) (P : X → Type 0) → o ≡ Some x → IfSome o P → P x
some_fact None x P is h = absurd (cc)
some_fact (Some y) x P is h = subst P (Some-same y x is) h

-- no router has sent anything yet
pub untold : (n router : ℕ) (u : Update) → slice_get (replicate n None) router ≡ Some (Some u) → ⊥
untold zero router u e = absurd (cc)
untold (suc n) zero u e = absurd (cc)
untold (suc n) (suc router) u e = untold n router u e
