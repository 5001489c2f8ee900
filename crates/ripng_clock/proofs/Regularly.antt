-- Regular updates in a run: none comes late, and two of a router are at most 45 seconds apart.
use Rattle.std.proofs.Common.{◌≡◌, ◌⊎◌, inl, inr, ℕ, ◌+◌, ◌%◌, ◌<◌, ◌≤◌, max, Bool, true, false, cond, MatchBool, MatchOption, Option, None, List, [], ◌∷◌, ◌++◌, Some, slice_get, refl, ap, sym, subst, ◌∙◌, arith, append_assoc, le_refl, le_trans}
use Rattle.std.proofs.lemmas.Bool.Decides.{nat_tests}
use Rattle.router_core.specs.Ageing.{aged_table, unmarked}
use Rattle.router_core.specs.Faults.{fault}
use Rattle.router_core.specs.Machine.{State, Hears, Replies, Refuses, ticked, is_regular_due, is_triggered_due}
use Rattle.router_core.specs.Received.{Received}
use Rattle.router_core.specs.declared.arrival.Fault.{Fault}
use Rattle.router_core.specs.declared.answer.Answer.{Answer}
use Rattle.ripng_wire.specs.Wire.{is_response}
use Rattle.ripng_world.specs.Network.{Network}
use Rattle.ripng_world.specs.Rounds.{IsDueTick, moment_of}
use Rattle.ripng_world.specs.World.{World, Event, Deliver, Tick, Happens, RouterMoves, arrival_of}
use Rattle.ripng_phases.specs.Phases.{Step, Takes, reached}
use Rattle.ripng_clock.proofs.Times.{after_set}

-- a regular update of the router among the steps, from one moment on and less than 45 seconds after
pub record IsDueIn (w0 : World) (steps : List Step) (router from : ℕ) : Type 0 where
  pub before : List Step
  pub step : Step
  pub after : List Step
  pub parts : steps ≡ before ++ step ∷ after
  pub now : ℕ
  pub word : ℕ
  pub event : step.event ≡ Tick router now word
  pub due : IsDueTick (reached w0 before) (Tick router now word)
  pub not_before : from ≤ now
  pub in_time : now < from + 45_000

pub due_on : (w0 : World) (steps : List Step) (router from : ℕ) (x : Step) → IsDueIn w0 steps router from → IsDueIn w0 (steps ++ x ∷ []) router from
due_on w0 steps router from x is =
    record {
      before = is.before;
      step = is.step;
      after = is.after ++ x ∷ [];
      parts = ap (λ xs. xs ++ x ∷ []) is.parts ∙ append_assoc is.before (is.step ∷ is.after) (x ∷ []);
      now = is.now;
      word = is.word;
      event = is.event;
      due = is.due;
      not_before = is.not_before;
      in_time = is.in_time;
    }

-- when the next regular update is due after a tick
pub ticked_regular : (old : State) (now word : ℕ) → ((old.regular ≤ now) × ((ticked old now word).regular ≤ now + 45_000) × (now ≤ (ticked old now word).regular)) ⊎ ((now < old.regular) × ((ticked old now word).regular ≡ old.regular))
ticked_regular old now word = by (is_regular_due old now) (is_triggered_due old now) refl
  where
    by : (b c : Bool) → is_regular_due old now ≡ b
        → let new = cond b (record old { table = unmarked (aged_table now old.table); last = now; regular = now + 15_000 + word % 30_001 })
        (cond c (record old { table = unmarked (aged_table now old.table); last = now; hold = now + 1_000 + word % 4_001 }) (record old { table = aged_table now old.table; last = now })) in
        ((old.regular ≤ now) × (new.regular ≤ now + 45_000) × (now ≤ new.regular)) ⊎ ((now < old.regular) × (new.regular ≡ old.regular))
    by true c is = inl ((let due : old.regular ≤ now = grind (arith, nat_tests, is) in due), omega arith, omega arith)
    by false true is = inr ((let late : now < old.regular = grind (arith, nat_tests, is) in late), refl)
    by false false is = inr ((let late : now < old.regular = grind (arith, nat_tests, is) in late), refl)

pub ticked_last : (old : State) (now word : ℕ) → (ticked old now word).last ≡ now
ticked_last old now word = by (is_regular_due old now) (is_triggered_due old now)
  where
    by : (b c : Bool) → let new = cond b (record old { table = unmarked (aged_table now old.table); last = now; regular = now + 15_000 + word % 30_001 })
        (cond c (record old { table = unmarked (aged_table now old.table); last = now; hold = now + 1_000 + word % 4_001 }) (record old { table = aged_table now old.table; last = now })) in
        new.last ≡ now
    by true c = refl
    by false true = refl
    by false false = refl

arrived_later : (old new : State) (now : ℕ) (x : Received) (answer : Answer) (o : Option Fault) (b : Bool)
    → MatchOption o (MatchBool b (Hears old now x answer new) (Replies old now x answer new)) (λ why. Refuses old now why answer new) → old.regular ≡ new.regular
arrived_later old new now x answer (Some why) b refuses = sym (ap (λ (s : State). s.regular) refuses.state)
arrived_later old new now x answer None false replies = sym (ap (λ (s : State). s.regular) replies.state)
arrived_later old new now x answer None true hears = sym (ap (λ (s : State). s.regular) hears.state)

arrived_last : (old new : State) (now : ℕ) (x : Received) (answer : Answer) (o : Option Fault) (b : Bool)
    → MatchOption o (MatchBool b (Hears old now x answer new) (Replies old now x answer new)) (λ why. Refuses old now why answer new) → new.last ≡ now
arrived_last old new now x answer (Some why) b refuses = ap (λ (s : State). s.last) refuses.state
arrived_last old new now x answer None false replies = ap (λ (s : State). s.last) replies.state
arrived_last old new now x answer None true hears = ap (λ (s : State). s.last) hears.state

-- the clocks of all routers are at a moment or before it
abbrev pub AreUpTo : World → ℕ → Type 0
AreUpTo w now = (router : ℕ) (s : State) → slice_get w.states router ≡ Some s → s.last ≤ now

-- no regular update is late
abbrev pub AreOnTime : ℕ → World → ℕ → Type 0
AreOnTime begin w now = (router : ℕ) (s : State) → slice_get w.states router ≡ Some s → now ≤ max begin s.regular

-- from each moment on there is one in less than 45 seconds, or it will be due
abbrev pub AreRegular : ℕ → World → List Step → World → Type 0
AreRegular begin w0 steps w = (router from : ℕ) (s : State) → begin ≤ from → slice_get w.states router ≡ Some s → IsDueIn w0 steps router from ⊎ (s.regular < from + 45_000)

module _ (begin : ℕ) (w0 w w' : World) (steps : List Step) (here : reached w0 steps ≡ w) (now : ℕ) (up_to : AreUpTo w now) where
  at_now : (s : State) (router : ℕ) → slice_get w.states router ≡ Some s → max s.last now ≡ now
  at_now s router at = let a = up_to router s at in omega (arith, a)

  -- ---- a router ticks

  module _ (router word : ℕ) (x : Step) (event : x.event ≡ Tick router now word) (net : Network) (answer : Answer) (m : Happens net w (Tick router now word) answer w') where
    new_is : m.new ≡ ticked m.old now word
    new_is = m.moves.state ∙ ap (λ n. ticked m.old n word) (at_now m.old router m.old_is)

    states_at : (r : ℕ) (s : State) → slice_get w'.states r ≡ Some s → ((router ≡ r) × (m.new ≡ s)) ⊎ ((router ≡ r → ⊥) × (slice_get w.states r ≡ Some s))
    states_at r s at = after_set w.states router m.new r s (ap (λ ss. slice_get ss r) (sym m.states) ∙ at)

    pub ticked_up_to : AreUpTo w' now
    ticked_up_to r s at = elim (states_at r s at) [
      | inl this ↦ subst (λ l. l ≤ now) (sym (ticked_last m.old now word) ∙ ap (λ (t : State). t.last) (sym new_is ∙ this.1)) (le_refl now)
      | inr other ↦ up_to r s other.1
    ]

    pub ticked_on_time : AreOnTime begin w now → AreOnTime begin w' now
    ticked_on_time on_time r s at = elim (states_at r s at) [
      | inl this ↦ subst (λ (t : State). now ≤ max begin t.regular) (sym new_is ∙ this.1) (by (ticked_regular m.old now word))
      | inr other ↦ on_time r s other.1
    ]
      where
        by : ((m.old.regular ≤ now) × ((ticked m.old now word).regular ≤ now + 45_000) × (now ≤ (ticked m.old now word).regular)) ⊎ ((now < m.old.regular) × ((ticked m.old now word).regular ≡ m.old.regular))
            → now ≤ max begin (ticked m.old now word).regular
        by (inl due) = let a = due.2 in omega (arith, a)
        by (inr late) = let a = late.0 in let b = late.1 in omega (arith, a, b)

    pub ticked_regularly : AreOnTime begin w now → AreRegular begin w0 steps w → AreRegular begin w0 (steps ++ x ∷ []) w'
    ticked_regularly on_time regular r from s begun at = elim (states_at r s at) [
      | inl this ↦ subst (λ k. IsDueIn w0 (steps ++ x ∷ []) k from ⊎ (s.regular < from + 45_000)) this.0
          (subst (λ (t : State). IsDueIn w0 (steps ++ x ∷ []) router from ⊎ (t.regular < from + 45_000)) (sym new_is ∙ this.1)
          (by (regular router from m.old begun m.old_is) (ticked_regular m.old now word)))
      | inr other ↦ elim (regular r from s begun other.1) [ inl due ↦ inl (due_on w0 steps r from x due) | inr soon ↦ inr soon ]
    ]
      where
        compare : (a b : ℕ) → (a ≤ b) ⊎ (b < a)
        compare a b = grind arith

        this_one : (from ≤ now) → now < from + 45_000 → m.old.regular ≤ now → IsDueIn w0 (steps ++ x ∷ []) router from
        this_one not_before in_time due =
            record {
              before = steps;
              step = x;
              after = [];
              parts = refl;
              now = now;
              word = word;
              event = event;
              due = subst (λ v. IsDueTick v (Tick router now word)) (sym here) (m.old, m.old_is, subst (λ n. m.old.regular ≤ n) (sym (at_now m.old router m.old_is)) due);
              not_before = not_before;
              in_time = in_time;
            }

        in_time : (b k t f : ℕ) → k ≤ max b t → b ≤ f → t < f + 45_000 → k < f + 45_000
        in_time b k t f e g h = omega (arith, e, g, h)

        by : IsDueIn w0 steps router from ⊎ (m.old.regular < from + 45_000)
            → ((m.old.regular ≤ now) × ((ticked m.old now word).regular ≤ now + 45_000) × (now ≤ (ticked m.old now word).regular)) ⊎ ((now < m.old.regular) × ((ticked m.old now word).regular ≡ m.old.regular))
            → IsDueIn w0 (steps ++ x ∷ []) router from ⊎ ((ticked m.old now word).regular < from + 45_000)
        by (inl due) k = inl (due_on w0 steps router from x due)
        by (inr soon) (inr late) = inr (subst (λ t. t < from + 45_000) (sym late.1) soon)
        by (inr soon) (inl due) = elim (compare from now) [
          | inl before ↦ inl (this_one before (in_time begin now m.old.regular from (on_time router m.old m.old_is) begun soon) due.0)
          | inr after ↦ inr (let a = due.1 in omega (arith, a, after))
        ]

  -- ---- a datagram comes

  module _ (datagram router iface : ℕ) (x : Step) (net : Network) (answer : Answer) (d : Happens net w (Deliver datagram router iface now) answer w') where
    came_at : (r : ℕ) (s : State) → slice_get w'.states r ≡ Some s → (t : State) × (slice_get w.states r ≡ Some t) × (t.regular ≡ s.regular) × ((s.last ≡ t.last) ⊎ (s.last ≡ now))
    came_at r s at = elim (after_set w.states router d.moves.new r s (ap (λ ss. slice_get ss r) (sym d.moves.states) ∙ at)) [
      | inl this ↦ (
        d.moves.old,
        subst (λ k. slice_get w.states k ≡ Some d.moves.old) this.0 d.moves.old_is,
        arrived_later d.moves.old d.moves.new (max d.moves.old.last now) (arrival_of net d.sent iface now) answer (fault d.moves.old.config (arrival_of net d.sent iface now)) (is_response d.sent.bytes) d.moves.moves
            ∙ ap (λ (t : State). t.regular) this.1,
        inr (ap (λ (t : State). t.last) (sym this.1) ∙ arrived_last d.moves.old d.moves.new (max d.moves.old.last now) (arrival_of net d.sent iface now) answer (fault d.moves.old.config (arrival_of net d.sent iface now)) (is_response d.sent.bytes) d.moves.moves
            ∙ at_now d.moves.old router d.moves.old_is),
      )
      | inr other ↦ (s, other.1, refl, inl refl)
    ]

    pub came_up_to : AreUpTo w' now
    came_up_to r s at = let k = came_at r s at in elim k.3 [
      | inl same ↦ subst (λ l. l ≤ now) (sym same) (up_to r k.0 k.1)
      | inr this ↦ subst (λ l. l ≤ now) (sym this) (le_refl now)
    ]

    pub came_on_time : AreOnTime begin w now → AreOnTime begin w' now
    came_on_time on_time r s at = let k = came_at r s at in subst (λ t. now ≤ max begin t) k.2 (on_time r k.0 k.1)

    pub came_regularly : AreRegular begin w0 steps w → AreRegular begin w0 (steps ++ x ∷ []) w'
    came_regularly regular r from s begun at =
        let k = came_at r s at in
        elim (regular r from k.0 begun k.1) [ inl due ↦ inl (due_on w0 steps r from x due) | inr soon ↦ inr (subst (λ t. t < from + 45_000) k.2 soon) ]
