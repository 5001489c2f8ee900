-- A router's next regular update is due 45 seconds after its last step at the latest, and only a regular update puts it off.
use Rattle.std.proofs.Common.{◌≡◌, ◌⊎◌, inl, inr, ℕ, ◌+◌, ◌%◌, max, ◌<◌, ◌≤◌, Bool, true, false, cond, MatchBool, MatchOption, List, Option, Some, None, slice_get, slice_set, refl, ap, sym, subst, ◌∙◌, arith}
use Rattle.std.proofs.lemmas.Bool.Decides.{nat_tests}
use Rattle.ripng_wire.specs.Wire.{is_response}
use Rattle.router_core.specs.Ageing.{aged_table, unmarked}
use Rattle.router_core.specs.Faults.{fault}
use Rattle.router_core.specs.Machine.{State, Happening, Arrives, Ticks, LinkComesUp, Hears, Replies, Refuses, Moves, is_regular_due, is_triggered_due, ticked}
use Rattle.router_core.specs.Received.{Received}
use Rattle.router_core.specs.declared.answer.Answer.{Answer}
use Rattle.router_core.specs.declared.arrival.Fault.{Fault}
use Rattle.ripng_world.specs.Network.{Network}
use Rattle.ripng_world.specs.Rounds.{IsDueTick, moment_of, router_of}
use Rattle.ripng_world.specs.World.{World, Event, Deliver, Stranger, Tick, Restart, Shutdown, LinkDown, LinkUp, Reconfigure, RouterMoves, Happens, arrival_of}
use Rattle.ripng_world.proofs.RoundNeighbors.{state_after}
use Rattle.ripng_phases.specs.Phases.{IsOrdinary}
use Rattle.ripng_phases.proofs.Later.{arrived_later}
use Rattle.router_core.specs.Timers.{next_hold, next_regular}

-- ---- one move

-- the time of its step, and when its next regular update is due
abbrev pub IsWound : ℕ → State → Type 0
IsWound now s = (s.last ≡ now) × (s.regular ≤ s.last + 45_000)

arrived_last : (old new : State) (now : ℕ) (x : Received) (answer : Answer) (o : Option Fault) (b : Bool)
    → MatchOption o (MatchBool b (Hears old now x answer new) (Replies old now x answer new)) (λ why. Refuses old now why answer new) → new.last ≡ now
arrived_last old new now x answer (Some why) b refuses = ap (λ (s : State). s.last) refuses.state
arrived_last old new now x answer None false replies = ap (λ (s : State). s.last) replies.state
arrived_last old new now x answer None true hears = ap (λ (s : State). s.last) hears.state

pub arrived_wound : (old new : State) (now : ℕ) (x : Received) (answer : Answer) → old.regular ≤ old.last + 45_000 → Moves old (Arrives x) answer new → x.now ≡ now
    → IsWound (max old.last now) new
arrived_wound old new now x answer wound moves same =
    let last = arrived_last old new (max old.last x.now) x answer (fault old.config x) (is_response x.bytes) moves in
    let regular = arrived_later old new (max old.last x.now) x answer (fault old.config x) (is_response x.bytes) moves in
    by old.last old.regular new.last new.regular x.now now last regular same wound
  where
    by : (a b c d n m : ℕ) → c ≡ max a n → b ≡ d → n ≡ m → b ≤ a + 45_000 → (c ≡ max a m) × (d ≤ c + 45_000)
    by a b c d n m e f g h = (omega arith, omega arith)

pub ticked_wound : (old : State) (now word : ℕ) → old.regular ≤ old.last + 45_000 → old.last ≤ now → IsWound now (ticked old now word)
ticked_wound old now word wound later = by (is_regular_due old now) (is_triggered_due old now)
  where
    by : (b c : Bool)
        → IsWound now (cond b (record old { table = unmarked (aged_table now old.table); last = now; regular = next_regular now word })
        (cond c (record old { table = unmarked (aged_table now old.table); last = now; hold = next_hold now word }) (record old { table = aged_table now old.table; last = now })))
    by true c = (refl, omega arith)
    by false true = (refl, omega arith)
    by false false = (refl, omega arith)

-- a tick at which it is not due leaves it
ticked_same : (old : State) (now word : ℕ) → now < old.regular → (ticked old now word).regular ≡ old.regular
ticked_same old now word early = by (is_regular_due old now) (is_triggered_due old now) refl
  where
    by : (b c : Bool) → is_regular_due old now ≡ b
        → (cond b (record old { table = unmarked (aged_table now old.table); last = now; regular = next_regular now word })
        (cond c (record old { table = unmarked (aged_table now old.table); last = now; hold = next_hold now word }) (record old { table = aged_table now old.table; last = now }))).regular ≡ old.regular
    by true c is = absurd (grind (arith, nat_tests, is, early))
    by false true is = refl
    by false false is = refl

-- ---- one event

-- the clock of a router shows less than the true one by so much, and its next regular update is due in time
abbrev pub IsWoundBy : ℕ → ℕ → State → Type 0
IsWoundBy behind bound s = (behind + s.last ≤ bound) × (s.regular ≤ s.last + 45_000)

-- what a router's state is after an event: in time; and where the event was no regular update of it, that is due as before
pub record IsStateThen (w w' : World) (e : Event) (behind bound router : ℕ) (s : State) : Type 0 where
  pub state : State
  pub state_is : slice_get w'.states router ≡ Some state
  pub wound : IsWoundBy behind bound state
  pub due : ((router_of e ≡ router) × IsDueTick w e) ⊎ (state.regular ≡ s.regular)

module _ (w w' : World) (e : Event) (behind bound router : ℕ) (s : State) (is : slice_get w.states router ≡ Some s) (wound : IsWoundBy behind bound s) where
  -- where one router moves
  moved_then : (mover : ℕ) (happening : Happening) (answer : Answer) (m : RouterMoves w mover happening answer w') (now : ℕ)
      → (mover ≡ router → behind + now ≤ bound)
      → (m.old.regular ≤ m.old.last + 45_000 → IsWound (max m.old.last now) m.new)
      → (mover ≡ router → ((router_of e ≡ router) × IsDueTick w e) ⊎ (m.new.regular ≡ m.old.regular))
      → IsStateThen w w' e behind bound router s
  moved_then mover happening answer m now in_time winds due = elim (state_after w.states mover m.old m.new m.old_is router s is) [ inl a ↦ here a.0 a.1 a.2 | inr b ↦ there b ]
    where
      ahead : (c l n k b : ℕ) → k ≡ max l n → c + l ≤ b → c + n ≤ b → c + k ≤ b
      ahead c l n k b e f g = omega arith

      here : mover ≡ router → s ≡ m.old → slice_get (slice_set w.states mover m.new) router ≡ Some m.new → IsStateThen w w' e behind bound router s
      here mover_is same at_is =
          let old : IsWoundBy behind bound m.old = subst (IsWoundBy behind bound) same wound in
          let new = winds old.1 in
          record {
            state = m.new;
            state_is = ap (λ (xs : List State). slice_get xs router) m.states ∙ at_is;
            wound = (ahead behind m.old.last now m.new.last bound new.0 old.0 (in_time mover_is), new.1);
            due = elim (due mover_is) [ inl x ↦ inl x | inr y ↦ inr (y ∙ ap (λ (t : State). t.regular) (sym same)) ];
          }

      there : slice_get (slice_set w.states mover m.new) router ≡ Some s → IsStateThen w w' e behind bound router s
      there at_is = record { state = s; state_is = ap (λ (xs : List State). slice_get xs router) m.states ∙ at_is; wound = wound; due = inr refl }

pub state_then : (net : Network) (w w' : World) (e : Event) (answer : Answer) (behind bound router : ℕ) (s : State) → IsOrdinary e → Happens net w e answer w'
    → slice_get w.states router ≡ Some s → IsWoundBy behind bound s → (router_of e ≡ router → behind + moment_of e ≤ bound) → IsStateThen w w' e behind bound router s
state_then net w w' (Deliver datagram to iface now) answer behind bound router s plain d is wound in_time =
    let x = arrival_of net d.sent iface now in
    moved_then w w' (Deliver datagram to iface now) behind bound router s is wound to (Arrives x) answer d.moves now in_time
    (λ old. arrived_wound d.moves.old d.moves.new now x answer old d.moves.moves refl)
    (λ same. inr (sym (arrived_later d.moves.old d.moves.new (max d.moves.old.last now) x answer (fault d.moves.old.config x) (is_response x.bytes) d.moves.moves)))
state_then net w w' (Stranger to x) answer behind bound router s plain d is wound in_time =
    moved_then w w' (Stranger to x) behind bound router s is wound to (Arrives x) answer d.moves x.now in_time
    (λ old. arrived_wound d.moves.old d.moves.new x.now x answer old d.moves.moves refl)
    (λ same. inr (sym (arrived_later d.moves.old d.moves.new (max d.moves.old.last x.now) x answer (fault d.moves.old.config x) (is_response x.bytes) d.moves.moves)))
state_then net w w' (Tick to now word) answer behind bound router s plain m is wound in_time =
    moved_then w w' (Tick to now word) behind bound router s is wound to (Ticks now word) answer m now in_time
    (λ old. subst (IsWound (max m.old.last now)) (sym m.moves.state) (ticked_wound m.old (max m.old.last now) word old (later m.old.last now)))
    (λ same. by same (split (max m.old.last now) m.old.regular))
  where
    later : (a b : ℕ) → a ≤ max a b
    later a b = omega arith

    split : (a b : ℕ) → (b ≤ a) ⊎ (a < b)
    split a b = grind arith

    by : to ≡ router → (m.old.regular ≤ max m.old.last now) ⊎ (max m.old.last now < m.old.regular)
        → ((to ≡ router) × IsDueTick w (Tick to now word)) ⊎ (m.new.regular ≡ m.old.regular)
    by same (inl due) = inl (same, (m.old, m.old_is, due))
    by same (inr early) = inr (ap (λ (t : State). t.regular) m.moves.state ∙ ticked_same m.old (max m.old.last now) word early)
state_then net w w' (Restart to now) answer behind bound router s plain m is wound in_time = absurd plain
state_then net w w' (Shutdown to now) answer behind bound router s plain m is wound in_time = absurd plain
state_then net w w' (LinkDown to now on) answer behind bound router s plain m is wound in_time = absurd plain
state_then net w w' (LinkUp to now on) answer behind bound router s plain m is wound in_time =
    moved_then w w' (LinkUp to now on) behind bound router s is wound to (LinkComesUp now on) answer m now in_time
    (λ old. subst (IsWound (max m.old.last now)) (sym m.moves.state) (refl, later m.old.regular m.old.last now old))
    (λ same. inr (ap (λ (t : State). t.regular) m.moves.state))
  where
    later : (a b c : ℕ) → a ≤ b + 45_000 → a ≤ max b c + 45_000
    later a b c e = omega arith
state_then net w w' (Reconfigure to now c) answer behind bound router s plain m is wound in_time = absurd plain
