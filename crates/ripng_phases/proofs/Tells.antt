-- What is told of steps: how it goes on, and what it is without the watcher. And deliveries in the order in which datagrams were sent.
use Rattle.std.proofs.Common.{◌≡◌, inl, inr, ℕ, ◌+◌, ◌<◌, ◌≤◌, List, [], ◌∷◌, ◌++◌, Contains, Some, slice_get, zero, suc, refl, ap, sym, subst, ◌∙◌, arith, append_assoc, le_trans}
use Rattle.std.specs.List.{AllByRecursion}
use Rattle.route_table.proofs.TableLaws.{Some-same, None-Some}
use Rattle.ripng_world.specs.Network.{Network}
use Rattle.ripng_world.specs.Watching.{Told, WatchedRun, heard}
use Rattle.ripng_world.specs.World.{World, Event, Deliver, Stranger, Tick, Restart, Shutdown, LinkDown, LinkUp, Reconfigure}
use Rattle.ripng_world.proofs.Each.{each_at_place}
use Rattle.ripng_world.proofs.Members.{at_left, at_right, at_from_contains}
use Rattle.ripng_phases.specs.Making.{TellsSteps, IsRising, IsInMinute, IsDeliveryAt}
use Rattle.ripng_phases.specs.Phases.{Step, IsOrdinary, IsOvertaken, IsMomentIn, AreNear, Before, Takes, events_of}
use Rattle.ripng_phases.proofs.Along.{contains_from}
use Rattle.ripng_phases.proofs.Begun.{events_on}

module _ {V : Type 0} (t : V → Told → V → Type 0) (net : Network) where
  pub tells_on : (steps later : List Step) (s mid s' : World × V) → TellsSteps t net s steps mid → TellsSteps t net mid later s' → TellsSteps t net s (steps ++ later) s'
  tells_on [] later s mid s' first rest = subst (λ (v : World × V). TellsSteps t net v later s') first rest
  tells_on (x ∷ steps) later s mid s' first rest = (first.0, first.1, first.2, first.3, first.4, tells_on steps later (x.after, first.0) mid s' first.5 rest)

  pub tells_take : (steps : List Step) (s s' : World × V) → TellsSteps t net s steps s' → Takes net s.0 steps s'.0
  tells_take [] s s' is = ap (λ (v : World × V). v.0) is
  tells_take (x ∷ steps) s s' is = (is.1, is.2, is.3, tells_take steps (x.after, is.0) s' is.5)

  pub tells_watched : (steps : List Step) (s s' : World × V) → TellsSteps t net s steps s' → WatchedRun t heard net s (events_of steps) s'
  tells_watched [] s s' is = is
  tells_watched (x ∷ steps) s s' is = ((x.after, is.0), x.answer, is.3, is.2, is.4, tells_watched steps (x.after, is.0) s' is.5)

  -- one event
  pub tells_one : (e : Event) → IsOrdinary e → (s s' : World × V) → WatchedRun t heard net s (e ∷ []) s' → (x : Step) × (x.event ≡ e) × TellsSteps t net s (x ∷ []) s'
  tells_one e plain s s' run = (record { event = e; answer = run.1; after = run.0.0 }, refl, (run.0.1, plain, run.3, run.2, run.4, run.5))

-- ---- what is among events

pub contains_left : {X : Type 0} (xs ys : List X) (x : X) → Contains xs x → Contains (xs ++ ys) x
contains_left xs ys x c = contains_from (xs ++ ys) x (at_left xs ys x (at_from_contains xs x c))

pub contains_right : {X : Type 0} (xs ys : List X) (x : X) → Contains ys x → Contains (xs ++ ys) x
contains_right xs ys x c = contains_from (xs ++ ys) x (at_right xs ys x (at_from_contains ys x c))

pub all_on : {X : Type 0} (P : X → Type 0) (xs ys : List X) → AllByRecursion P xs → AllByRecursion P ys → AllByRecursion P (xs ++ ys)
all_on P [] ys first rest = rest
all_on P (x ∷ xs) ys first rest = (first.0, all_on P xs ys first.1 rest)

pub all_of : {X : Type 0} (P Q : X → Type 0) → ((x : X) → P x → Q x) → (xs : List X) → AllByRecursion P xs → AllByRecursion Q xs
all_of P Q step [] all = tt
all_of P Q step (x ∷ xs) all = (step x all.0, all_of P Q step xs all.1)

-- ---- deliveries that rise

pub rising_lower : (low lower : ℕ) (events : List Event) (high : ℕ) → lower ≤ low → IsRising low events high → IsRising lower events high
rising_lower low lower [] high le is = le_trans le is
rising_lower low lower (Deliver d r i n ∷ events) high le is = (le_trans le is.0, is.1)
rising_lower low lower (Stranger r x ∷ events) high le is = rising_lower low lower events high le is
rising_lower low lower (Tick r n w ∷ events) high le is = rising_lower low lower events high le is
rising_lower low lower (Restart r n ∷ events) high le is = rising_lower low lower events high le is
rising_lower low lower (Shutdown r n ∷ events) high le is = rising_lower low lower events high le is
rising_lower low lower (LinkDown r n on ∷ events) high le is = rising_lower low lower events high le is
rising_lower low lower (LinkUp r n on ∷ events) high le is = rising_lower low lower events high le is
rising_lower low lower (Reconfigure r n c ∷ events) high le is = rising_lower low lower events high le is

pub rising_on : (low : ℕ) (events : List Event) (mid : ℕ) (later : List Event) (high : ℕ) → IsRising low events mid → IsRising mid later high → IsRising low (events ++ later) high
rising_on low [] mid later high first rest = rising_lower mid low later high first rest
rising_on low (Deliver d r i n ∷ events) mid later high first rest = (first.0, rising_on d events mid later high first.1 rest)
rising_on low (Stranger r x ∷ events) mid later high first rest = rising_on low events mid later high first rest
rising_on low (Tick r n w ∷ events) mid later high first rest = rising_on low events mid later high first rest
rising_on low (Restart r n ∷ events) mid later high first rest = rising_on low events mid later high first rest
rising_on low (Shutdown r n ∷ events) mid later high first rest = rising_on low events mid later high first rest
rising_on low (LinkDown r n on ∷ events) mid later high first rest = rising_on low events mid later high first rest
rising_on low (LinkUp r n on ∷ events) mid later high first rest = rising_on low events mid later high first rest
rising_on low (Reconfigure r n c ∷ events) mid later high first rest = rising_on low events mid later high first rest

-- of one datagram
pub rising_one : (datagram moment : ℕ) (events : List Event) → AllByRecursion (IsDeliveryAt datagram moment) events → IsRising datagram events (datagram + 1)
rising_one datagram moment [] all = omega arith
rising_one datagram moment (Deliver d r i n ∷ events) all = (
  (let e = all.0.0 in omega arith),
  subst (λ (m : ℕ). IsRising m events (datagram + 1)) (sym all.0.0) (rising_one datagram moment events all.1),
)
rising_one datagram moment (Stranger r x ∷ events) all = absurd all.0
rising_one datagram moment (Tick r n w ∷ events) all = absurd all.0
rising_one datagram moment (Restart r n ∷ events) all = absurd all.0
rising_one datagram moment (Shutdown r n ∷ events) all = absurd all.0
rising_one datagram moment (LinkDown r n on ∷ events) all = absurd all.0
rising_one datagram moment (LinkUp r n on ∷ events) all = absurd all.0
rising_one datagram moment (Reconfigure r n c ∷ events) all = absurd all.0

same_datagram : (d r i n d' r' i' n' : ℕ) → Deliver d r i n ≡ Deliver d' r' i' n' → d ≡ d'
same_datagram d r i n d' r' i' n' e = cc

-- a delivery among them is not below
pub rising_from : (low : ℕ) (events : List Event) (high k datagram router iface now : ℕ) → IsRising low events high → slice_get events k ≡ Some (Deliver datagram router iface now) → low ≤ datagram
rising_from low [] high k datagram router iface now is at = absurd (None-Some (Deliver datagram router iface now) at)
rising_from low (Deliver d r i n ∷ events) high zero datagram router iface now is at =
    subst (λ (m : ℕ). low ≤ m) (same_datagram d r i n datagram router iface now (Some-same (Deliver d r i n) (Deliver datagram router iface now) at)) is.0
rising_from low (Deliver d r i n ∷ events) high (suc k) datagram router iface now is at = le_trans is.0 (rising_from d events high k datagram router iface now is.1 at)
rising_from low (Stranger r x ∷ events) high zero datagram router iface now is at = absurd (clash (Some-same (Stranger r x) (Deliver datagram router iface now) at))
  where
    clash : Stranger r x ≡ Deliver datagram router iface now → ⊥
    clash e = cc
rising_from low (Stranger r x ∷ events) high (suc k) datagram router iface now is at = rising_from low events high k datagram router iface now is at
rising_from low (Tick r n w ∷ events) high zero datagram router iface now is at = absurd (clash (Some-same (Tick r n w) (Deliver datagram router iface now) at))
  where
    clash : Tick r n w ≡ Deliver datagram router iface now → ⊥
    clash e = cc
rising_from low (Tick r n w ∷ events) high (suc k) datagram router iface now is at = rising_from low events high k datagram router iface now is at
rising_from low (Restart r n ∷ events) high zero datagram router iface now is at = absurd (clash (Some-same (Restart r n) (Deliver datagram router iface now) at))
  where
    clash : Restart r n ≡ Deliver datagram router iface now → ⊥
    clash e = cc
rising_from low (Restart r n ∷ events) high (suc k) datagram router iface now is at = rising_from low events high k datagram router iface now is at
rising_from low (Shutdown r n ∷ events) high zero datagram router iface now is at = absurd (clash (Some-same (Shutdown r n) (Deliver datagram router iface now) at))
  where
    clash : Shutdown r n ≡ Deliver datagram router iface now → ⊥
    clash e = cc
rising_from low (Shutdown r n ∷ events) high (suc k) datagram router iface now is at = rising_from low events high k datagram router iface now is at
rising_from low (LinkDown r n on ∷ events) high zero datagram router iface now is at = absurd (clash (Some-same (LinkDown r n on) (Deliver datagram router iface now) at))
  where
    clash : LinkDown r n on ≡ Deliver datagram router iface now → ⊥
    clash e = cc
rising_from low (LinkUp r n on ∷ events) high zero datagram router iface now is at = absurd (clash (Some-same (LinkUp r n on) (Deliver datagram router iface now) at))
  where
    clash : LinkUp r n on ≡ Deliver datagram router iface now → ⊥
    clash e = cc
rising_from low (LinkDown r n on ∷ events) high (suc k) datagram router iface now is at = rising_from low events high k datagram router iface now is at
rising_from low (LinkUp r n on ∷ events) high (suc k) datagram router iface now is at = rising_from low events high k datagram router iface now is at
rising_from low (Reconfigure r n c ∷ events) high zero datagram router iface now is at = absurd (clash (Some-same (Reconfigure r n c) (Deliver datagram router iface now) at))
  where
    clash : Reconfigure r n c ≡ Deliver datagram router iface now → ⊥
    clash e = cc
rising_from low (Reconfigure r n c ∷ events) high (suc k) datagram router iface now is at = rising_from low events high k datagram router iface now is at

-- behind some of them
rising_rest : (low : ℕ) (before later : List Event) (high : ℕ) → IsRising low (before ++ later) high → (mid : ℕ) × IsRising mid later high
rising_rest low [] later high is = (low, is)
rising_rest low (Deliver d r i n ∷ before) later high is = rising_rest d before later high is.1
rising_rest low (Stranger r x ∷ before) later high is = rising_rest low before later high is
rising_rest low (Tick r n w ∷ before) later high is = rising_rest low before later high is
rising_rest low (Restart r n ∷ before) later high is = rising_rest low before later high is
rising_rest low (Shutdown r n ∷ before) later high is = rising_rest low before later high is
rising_rest low (LinkDown r n on ∷ before) later high is = rising_rest low before later high is
rising_rest low (LinkUp r n on ∷ before) later high is = rising_rest low before later high is
rising_rest low (Reconfigure r n c ∷ before) later high is = rising_rest low before later high is

-- none is overtaken
pub not_overtaken : (counts : ℕ → Type 0) (w : World) (steps : List Step) (low high : ℕ) → IsRising low (events_of steps) high → IsOvertaken counts w steps → ⊥
not_overtaken counts w steps low high is o =
    let rest : List Event = events_of o.between ++ Deliver o.old o.router o.iface o.moment ∷ events_of o.after in
    let all : events_of steps ≡ events_of o.before ++ Deliver o.new o.router o.iface o.now ∷ rest =
    ap events_of (o.parts ∙ append_assoc o.before (o.later ∷ o.between) (o.earlier ∷ o.after)) ∙ events_on o.before (o.later ∷ (o.between ++ o.earlier ∷ o.after))
    ∙ ap (λ (xs : List Event). events_of o.before ++ o.later.event ∷ xs) (events_on o.between (o.earlier ∷ o.after))
    ∙ ap (λ (e : Event). events_of o.before ++ e ∷ (events_of o.between ++ o.earlier.event ∷ events_of o.after)) o.first
    ∙ ap (λ (e : Event). events_of o.before ++ Deliver o.new o.router o.iface o.now ∷ (events_of o.between ++ e ∷ events_of o.after)) o.second in
    let from = rising_rest low (events_of o.before) (Deliver o.new o.router o.iface o.now ∷ rest) high (subst (λ (xs : List Event). IsRising low xs high) all is) in
    let place = at_right (events_of o.between) (Deliver o.old o.router o.iface o.moment ∷ events_of o.after) (Deliver o.old o.router o.iface o.moment) (0, refl) in
    let late = rising_from o.new rest high place.0 o.old o.router o.iface o.moment from.1.1 place.1 in
    no o.new o.old o.count late o.old_before o.new_after
  where
    no : (new old count : ℕ) → new ≤ old → old < count → count ≤ new → ⊥
    no new old count a b c = omega arith

-- each delivery is of a recent datagram
pub recent_of : (low : ℕ) (events : List Event) (high datagram router iface now : ℕ) → IsRising low events high → Contains events (Deliver datagram router iface now) → low ≤ datagram
recent_of low events high datagram router iface now is c =
    let a = at_from_contains events (Deliver datagram router iface now) c in rising_from low events high a.0 datagram router iface now is a.1

-- ---- moments

-- the moments of one minute, and of the minute before
pub near_of : (past : Before) (begin : ℕ) (steps : List Step) → ((router x : ℕ) → past.moments router x → (begin ≤ x + 60_000) × (x < begin)) → AllByRecursion (IsInMinute begin) (events_of steps)
    → AreNear past steps
near_of past begin steps before all router x y first second =
    let late = of_minute y second in
    elim first [
      | inl old ↦ let o = before router x old in (omega (arith, o.0, o.1, late.0, late.1), omega (arith, o.0, o.1, late.0, late.1))
      | inr new ↦ let o = of_minute x new in (omega (arith, o.0, o.1, late.0, late.1), omega (arith, o.0, o.1, late.0, late.1))
    ]
  where
    of_minute : (z : ℕ) → IsMomentIn steps router z → (begin ≤ z) × (z < begin + 60_000)
    of_minute z m =
        let a = at_from_contains (events_of steps) m.event m.happens in
        subst (λ (n : ℕ). (begin ≤ n) × (n < begin + 60_000)) m.moment_is (each_at_place (IsInMinute begin) (events_of steps) all a.0 m.event a.1)
