-- The times of all routers, as one of them moves, and what comes next by them.
use Rattle.std.proofs.Common.{◌≡◌, ◌⊎◌, inl, inr, ℕ, zero, suc, ◌<◌, ◌≤◌, ◌+◌, max, Bool, true, false, cond, IsTrue, List, [], ◌∷◌, Option, Some, None, length, slice_get, slice_set, refl, ap, sym, subst, ◌∙◌, arith, le_refl, le_trans}
use Rattle.std.specs.Option.{IfSome, option_map}
use Rattle.router_core.specs.Machine.{State}
use Rattle.router_core.specs.Waking.{wakes_at}
use Rattle.ripng_world.specs.Labs.{LabValue}
use Rattle.ripng_world.specs.Network.{Network}
use Rattle.ripng_world.specs.Rounds.{router_of}
use Rattle.ripng_world.specs.Watching.{Told, WatchedRun, heard}
use Rattle.ripng_world.specs.World.{World, Event, Deliver, Stranger, Tick, Restart, Shutdown, LinkDown, LinkUp, Reconfigure, Happens}
use Rattle.ripng_world.specs.declared.event.Sent.{Sent}
use Rattle.router_core.specs.declared.answer.Answer.{Answer}
use Rattle.ripng_clock.specs.Agenda.{Has, IsFirst, IsUpTo}
use Rattle.ripng_clock.specs.Carrying.{Asked, takes_part}
use Rattle.ripng_clock.specs.Ending.{AreAlarms, AreAlarmsUpTo, AreLater, IsDue, IsNext, IsNothingDue, NoDatagramSooner, NoTickSooner, alarm_of}
use Rattle.ripng_clock.specs.Passing.{IsOwn}
use Rattle.ripng_clock.specs.declared.agenda.Agenda.{Agenda}
use Rattle.ripng_clock.specs.declared.due.Due.{Due}
use Rattle.ripng_clock.proofs.Times.{same_in, none_some, set_elsewhere, set_length, set_there}

pub is_same : (i j : ℕ) → (i ≡ j) ⊎ (i ≡ j → ⊥)
is_same zero zero = inl refl
is_same zero (suc j) = inr (λ e. cc)
is_same (suc i) zero = inr (λ e. cc)
is_same (suc i) (suc j) = elim (is_same i j) [ inl e ↦ inl (ap suc e) | inr other ↦ inr (λ e. other (grind (arith, e))) ]

-- ---- as one router moves

-- the states of the others stay
pub others_stay : (asked : Asked) (net : Network) (w w' : World) (e : Event) (answer : Answer) → IsOwn asked e → Happens net w e answer w' → (other : ℕ) → (router_of e ≡ other → ⊥)
    → slice_get w'.states other ≡ slice_get w.states other
others_stay asked net w w' (Tick router now word) answer own m other elsewhere = ap (λ (ss : List State). slice_get ss other) m.states ∙ set_elsewhere w.states router m.new other elsewhere
others_stay asked net w w' (Deliver datagram router iface now) answer own d other elsewhere =
    ap (λ (ss : List State). slice_get ss other) d.moves.states ∙ set_elsewhere w.states router d.moves.new other elsewhere
others_stay asked net w w' (Stranger router x) answer own m other elsewhere = absurd own
others_stay asked net w w' (Restart router now) answer own m other elsewhere = absurd own
others_stay asked net w w' (Shutdown router now) answer own m other elsewhere = absurd own
others_stay asked net w w' (LinkDown router now iface) answer own m other elsewhere = absurd own
others_stay asked net w w' (LinkUp router now iface) answer own m other elsewhere = absurd own
others_stay asked net w w' (Reconfigure router now change) answer own m other elsewhere = absurd own

module _ (asked : Asked) (a b : LabValue) (alarms : List (Option ℕ)) (are : AreAlarms asked a alarms) (e : Event) (own : IsOwn asked e) (same : b.network ≡ a.network)
    (here : router_of e < length a.network) where
  pub alarms_next : {V : Type 0} (t : V → Told → V → Type 0) (v v' : V) → WatchedRun t heard a.network (a.world, v) (e ∷ []) (b.world, v')
      → (alarms' : List (Option ℕ)) → alarms' ≡ slice_set alarms (router_of e) (alarm_of asked b.world (router_of e)) → AreAlarms asked b alarms'
  alarms_next t v v' run alarms' is =
      subst (AreAlarms asked b) (sym is)
      (record {
        as_many = set_length alarms (router_of e) (alarm_of asked b.world (router_of e)) ∙ are.as_many ∙ ap length (sym same);
        set = λ router lt. by router (subst (λ (n : Network). router < length n) same lt) (is_same (router_of e) router);
      })
    where
      now : World
      now = run.0.0

      now_is : b.world ≡ now
      now_is = ap (λ p. p.0) run.5

      by : (router : ℕ) → router < length a.network → (router_of e ≡ router) ⊎ (router_of e ≡ router → ⊥)
          → slice_get (slice_set alarms (router_of e) (alarm_of asked b.world (router_of e))) router ≡ Some (alarm_of asked b.world router)
      by router lt (inl this) =
          subst (λ r. slice_get (slice_set alarms (router_of e) (alarm_of asked b.world (router_of e))) r ≡ Some (alarm_of asked b.world r)) this
          (set_there alarms (router_of e) (alarm_of asked b.world (router_of e)) (subst (λ n. router_of e < n) (sym are.as_many) here))
      by router lt (inr other) =
          set_elsewhere alarms (router_of e) (alarm_of asked b.world (router_of e)) router other ∙ are.set router lt
          ∙ ap (λ o. Some (cond (takes_part asked router) (option_map wakes_at o) None))
          (sym (ap (λ (w : World). slice_get w.states router) now_is ∙ others_stay asked a.network a.world now e run.1 own run.3 router other))

-- ---- what comes next

-- a time that comes first is not after another
pub not_after : (now time number t n : ℕ) → IsUpTo time number t n → max time now ≤ max now t
not_after now time number t n (inl before) = omega (arith, before)
not_after now time number t n (inr same) = omega (arith, same.0)

pub no_datagram_sooner : (under_way : Agenda) (now time number : ℕ) → IsFirst under_way time number → NoDatagramSooner under_way now (max time now)
no_datagram_sooner under_way now time number first = λ t n has. not_after now time number t n (first.1 t n has)

pub no_tick_sooner : (alarms : List (Option ℕ)) (now time number : ℕ) → ((router t : ℕ) → slice_get alarms router ≡ Some (Some t) → IsUpTo time number t router) → NoTickSooner alarms now (max time now)
no_tick_sooner alarms now time number least = λ router t is. not_after now time number t router (least router t is)

-- the router that ticks takes part
pub ticking : (asked : Asked) (w : World) (router : ℕ) (time : ℕ) → alarm_of asked w router ≡ Some time → IsTrue (takes_part asked router)
ticking asked w router time is = by (takes_part asked router) is
  where
    by : (b : Bool) → cond b (option_map wakes_at (slice_get w.states router)) None ≡ Some time → b ≡ true
    by true e = refl
    by false e = none_some time e

-- ---- the earlier of two

module _ (alarms : List (Option ℕ)) (under_way : Agenda) (now until : ℕ) (f s r : Option (ℕ × Due)) where
  module _ (first : IfSome f (λ n. NoDatagramSooner under_way now n.0)) (none : f ≡ None → (t n : ℕ) → Has under_way t n → ⊥) (at : IfSome r (λ n. IfSome f (λ m. n.0 ≤ m.0))) where
    pub no_datagram_by : (time : ℕ) (due : Due) → r ≡ Some (time, due) → NoDatagramSooner under_way now time
    no_datagram_by time due is = by f refl first (subst (λ o. IfSome o (λ n. IfSome f (λ m. n.0 ≤ m.0))) is at)
      where
        by : (o : Option (ℕ × Due)) → f ≡ o → IfSome o (λ n. NoDatagramSooner under_way now n.0) → IfSome o (λ m. time ≤ m.0) → NoDatagramSooner under_way now time
        by None same first le = λ t n has. absurd (none same t n has)
        by (Some m) same first le = λ t n has. le_trans le (first t n has)

  module _ (first : IfSome s (λ n. NoTickSooner alarms now n.0)) (none : s ≡ None → (router time : ℕ) → slice_get alarms router ≡ Some (Some time) → ⊥) (at : IfSome r (λ n. IfSome s (λ m. n.0 ≤ m.0))) where
    pub no_tick_by : (time : ℕ) (due : Due) → r ≡ Some (time, due) → NoTickSooner alarms now time
    no_tick_by time due is = by s refl first (subst (λ o. IfSome o (λ n. IfSome s (λ m. n.0 ≤ m.0))) is at)
      where
        by : (o : Option (ℕ × Due)) → s ≡ o → IfSome o (λ n. NoTickSooner alarms now n.0) → IfSome o (λ m. time ≤ m.0) → NoTickSooner alarms now time
        by None same first le = λ router t is. absurd (none same router t is)
        by (Some m) same first le = λ router t is. le_trans le (first router t is)

  -- all are later than a moment, if the earlier one is
  pub all_later : (time : ℕ) → NoDatagramSooner under_way now time → NoTickSooner alarms now time → until < time → now ≤ until → AreLater alarms under_way until
  all_later time datagrams ticks late le =
      record {
        routers = λ router t is. let a = ticks router t is in omega (arith, a, late, le);
        datagrams = λ t n has. let a = datagrams t n has in omega (arith, a, late, le);
      }

  -- it is one of the two
  pub one_is : (P : ℕ × Due → Type 0) → IfSome r (λ n. (f ≡ Some n) ⊎ (s ≡ Some n)) → IfSome f P → IfSome s P → (n : ℕ × Due) → r ≡ Some n → P n
  one_is P one of_first of_second n is = elim (subst (λ o. IfSome o (λ n. (f ≡ Some n) ⊎ (s ≡ Some n))) is one) [
    | inl here ↦ subst (λ o. IfSome o P) here of_first
    | inr here ↦ subst (λ o. IfSome o P) here of_second
  ]

-- ---- the times of one router after another

pub alarms_more : (asked : Asked) (w : World) (alarms : List (Option ℕ)) (n : ℕ) → n < length alarms → AreAlarmsUpTo asked w alarms n
    → AreAlarmsUpTo asked w (slice_set alarms n (alarm_of asked w n)) (n + 1)
alarms_more asked w alarms n here are router lt = by (is_same n router)
  where
    less : (a b : ℕ) → a < b + 1 → (b ≡ a → ⊥) → a < b
    less a b e other = grind (arith, e, other)

    by : (n ≡ router) ⊎ (n ≡ router → ⊥) → slice_get (slice_set alarms n (alarm_of asked w n)) router ≡ Some (alarm_of asked w router)
    by (inl this) = subst (λ r. slice_get (slice_set alarms n (alarm_of asked w n)) r ≡ Some (alarm_of asked w r)) this (set_there alarms n (alarm_of asked w n) here)
    by (inr other) = set_elsewhere alarms n (alarm_of asked w n) router other ∙ are router (less router n lt other)

-- ---- the end

-- nothing is due where each time is later
pub nothing_due : (asked : Asked) (lab : LabValue) (alarms : List (Option ℕ)) (under_way : Agenda) → AreAlarms asked lab alarms → AreLater alarms under_way asked.until → IsNothingDue asked lab under_way
nothing_due asked lab alarms under_way are later =
    record {
      routers = λ router s here is part. later.routers router (wakes_at s)
          (are.set router here ∙ ap Some (ap (λ b. cond b (option_map wakes_at (slice_get lab.world.states router)) None) part ∙ ap (option_map wakes_at) is));
      datagrams = later.datagrams;
    }
