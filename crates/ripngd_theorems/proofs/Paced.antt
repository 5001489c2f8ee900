-- Histories of the model in which every router ticks every half second by a clock that keeps time: its regular updates come in time.
use Rattle.std.proofs.Common.{◌≡◌, ◌≢◌, ◌⊎◌, inl, inr, ℕ, ◌+◌, max, ◌<◌, ◌≤◌, List, [], ◌∷◌, ◌++◌, length, Contains, Some, slice_get, refl, ap, sym, subst, ◌∙◌, arith, append_assoc, le_refl, le_trans}
use Rattle.std.specs.List.{AllByRecursion}
use Rattle.router_core.specs.Machine.{State}
use Rattle.ripng_world.specs.Network.{Network, AreLinked}
use Rattle.ripng_world.specs.Rounds.{IsDueTick, moment_of, router_of}
use Rattle.ripng_world.specs.World.{World, Event, Deliver, Tick}
use Rattle.ripng_world.specs.declared.event.Sent.{Sent}
use Rattle.ripng_world.proofs.Members.{At, at_right}
use Rattle.ripng_phases.specs.Minutes.{Timed, AreFrom, IsPromptDelivery, untimed}
use Rattle.ripng_phases.specs.Phases.{Takes, IsCount, IsOvertaken, reached}
use Rattle.ripng_phases.proofs.Along.{contains_from}
use Rattle.ripng_phases.proofs.Cutting.{AreBefore, IsCut, untimed_on, from_all, cut_at, all_here, in_early, in_late}
use Rattle.ripng_phases.proofs.Runs.{takes_first, takes_rest, reached_on}
use Rattle.ripng_phases.proofs.Stretches.{IsUpdateBetween}
use Rattle.ripngd_theorems.proofs.Winding.{IsWoundBy, IsStateThen, state_then}

-- a router ticks, from one moment on and before another
pub record IsTickAt (history : List Timed) (router from until : ℕ) : Type 0 where
  pub before : List Timed
  pub tick : Timed
  pub after : List Timed
  pub parts : history ≡ before ++ tick ∷ after
  pub now : ℕ
  pub word : ℕ
  pub ticks : tick.step.event ≡ Tick router now word
  pub not_before : from ≤ tick.at
  pub in_time : tick.at < until

-- the state of a router whose clock shows less than the true one by so much
pub record IsSetBy (w : World) (behind bound router : ℕ) : Type 0 where
  pub state : State
  pub state_is : slice_get w.states router ≡ Some state
  pub wound : IsWoundBy behind bound state

-- the datagrams of a due tick come in time
abbrev pub ComeInTime : Network → World → Timed → List Timed → Type 0
ComeInTime net w tick after =
    (datagram other iface : ℕ) (d : Sent) → length w.sent ≤ datagram → slice_get tick.step.after.sent datagram ≡ Some d → AreLinked net d.router d.iface other iface
    → (other ≢ d.router) ⊎ (iface ≢ d.iface) → IsPromptDelivery after (tick.at + 13_000) datagram other iface

-- so it goes on from one moment until another
pub record IsPaced (net : Network) (w : World) (history : List Timed) (start end : ℕ) (w' : World) : Type 0 where
  pub takes : Takes net w (untimed history) w'
  pub in_time : AreFrom start history
  pub ended : AreBefore end history
  pub behind : ℕ → ℕ
  pub moments : (t : Timed) → Contains history t
      → (behind (router_of t.step.event) + moment_of t.step.event ≤ t.at) × (t.at < behind (router_of t.step.event) + moment_of t.step.event + 500)
  pub set : (router : ℕ) → router < length net → IsSetBy w (behind router) start router
  pub ticks : (router from : ℕ) → router < length net → start ≤ from → from + 500 ≤ end → IsTickAt history router from (from + 500)
  pub updates : (before : List Timed) (t : Timed) (after : List Timed) → history ≡ before ++ t ∷ after → (router now word : ℕ) → t.step.event ≡ Tick router now word
      → IsDueTick (reached w (untimed before)) (Tick router now word) → t.at + 13_000 ≤ end → ComeInTime net (reached w (untimed before)) t after
  pub recent : (old new : List Timed) (t : Timed) (after : List Timed) → history ≡ (old ++ new) ++ t ∷ after → start + 13_000 ≤ t.at → AllByRecursion (λ s. s.at + 13_000 ≤ t.at) old
      → (datagram router iface now : ℕ) → t.step.event ≡ Deliver datagram router iface now → length (reached w (untimed old)).sent ≤ datagram
  pub in_order : IsOvertaken (IsCount w (untimed history)) w (untimed history) → ⊥

-- ---- a due tick is found

-- one of these is a tick at which the router's regular update is due
pub record IsDueIn (w : World) (history : List Timed) (router : ℕ) : Type 0 where
  pub before : List Timed
  pub tick : Timed
  pub after : List Timed
  pub parts : history ≡ before ++ tick ∷ after
  pub now : ℕ
  pub word : ℕ
  pub ticks : tick.step.event ≡ Tick router now word
  pub due : IsDueTick (reached w (untimed before)) (Tick router now word)

module _ (net : Network) (behind bound router : ℕ) where
  -- all moments of the router are in time
  abbrev pub InTime : Timed → Type 0
  InTime t = router_of t.step.event ≡ router → behind + moment_of t.step.event ≤ bound

  -- a state that is in time stays so
  pub set_after : (history : List Timed) (w w' : World) → Takes net w (untimed history) w' → AllByRecursion InTime history → IsSetBy w behind bound router
      → IsSetBy (reached w (untimed history)) behind bound router
  set_after [] w w' takes all set = set
  set_after (t ∷ history) w w' takes all set =
      let next : IsStateThen w t.step.after t.step.event behind bound router set.state =
      state_then net w t.step.after t.step.event t.step.answer behind bound router set.state takes.0 takes.1 set.state_is set.wound all.0 in
      set_after history t.step.after w' takes.3 all.1 (record { state = next.state; state_is = next.state_is; wound = next.wound })

  -- a tick behind the moment at which the update is due: there, or before, is one at which it is
  pub due_in : (xs : List Timed) (t : Timed) (ys : List Timed) (w w' : World) → Takes net w (untimed (xs ++ t ∷ ys)) w' → AllByRecursion InTime xs
      → (s : State) → slice_get w.states router ≡ Some s → IsWoundBy behind bound s → (now word : ℕ) → t.step.event ≡ Tick router now word → s.regular ≤ now
      → IsDueIn w (xs ++ t ∷ ys) router
  due_in [] t ys w w' takes all s is wound now word ticks late =
      record { before = []; tick = t; after = ys; parts = refl; now = now; word = word; ticks = ticks; due = (s, is, le_trans late (more s.last now)) }
    where
      more : (a b : ℕ) → b ≤ max a b
      more a b = omega arith
  due_in (x ∷ xs) t ys w w' takes all s is wound now word ticks late =
      let next : IsStateThen w x.step.after x.step.event behind bound router s =
      state_then net w x.step.after x.step.event x.step.answer behind bound router s takes.0 takes.1 is wound all.0 in
      by next.due
      (λ same. due_in xs t ys x.step.after w' takes.3 all.1 next.state next.state_is next.wound now word ticks (subst (λ n. n ≤ now) (sym same) late))
    where
      first : (e : Event) → x.step.event ≡ e → router_of e ≡ router → IsDueTick w e → IsDueIn w (x ∷ xs ++ t ∷ ys) router
      first (Tick to n v) event_is same due =
          record {
            before = [];
            tick = x;
            after = xs ++ t ∷ ys;
            parts = refl;
            now = n;
            word = v;
            ticks = subst (λ r. x.step.event ≡ Tick r n v) same event_is;
            due = subst (λ r. IsDueTick w (Tick r n v)) same due;
          }
      first e event_is same due = absurd due

      rest : IsDueIn x.step.after (xs ++ t ∷ ys) router → IsDueIn w (x ∷ xs ++ t ∷ ys) router
      rest r =
          record {
            before = x ∷ r.before;
            tick = r.tick;
            after = r.after;
            parts = ap (λ zs. x ∷ zs) r.parts;
            now = r.now;
            word = r.word;
            ticks = r.ticks;
            due = r.due;
          }

      by : {n : ℕ} → ((router_of x.step.event ≡ router) × IsDueTick w x.step.event) ⊎ (n ≡ s.regular) → (n ≡ s.regular → IsDueIn x.step.after (xs ++ t ∷ ys) router) → IsDueIn w (x ∷ xs ++ t ∷ ys) router
      by (inl due) later = first x.step.event refl due.0 due.1
      by (inr same) later = rest (later same)

-- ---- updates are punctual

module _ (net : Network) (w : World) (all : List Timed) (start end : ℕ) (w' : World) (paced : IsPaced net w all start end w') where
  -- what happens before a moment is in time for it
  in_time_before : (router bound : ℕ) (xs rest done : List Timed) → all ≡ done ++ (xs ++ rest) → AreBefore bound xs → AllByRecursion (InTime net (paced.behind router) bound router) xs
  in_time_before router bound [] rest done parts before = tt
  in_time_before router bound (x ∷ xs) rest done parts before = (
    λ same. soon (paced.behind router) (moment_of x.step.event) x.at bound
        (subst (λ r. paced.behind r + moment_of x.step.event ≤ x.at) same (paced.moments x (stands done x (xs ++ rest) parts)).0) before.0,
    in_time_before router bound xs rest (done ++ x ∷ []) (parts ∙ sym (append_assoc done (x ∷ []) (xs ++ rest))) before.1,
  )
    where
      soon : (c n t b : ℕ) → c + n ≤ t → t < b → c + n ≤ b
      soon c n t b e f = omega arith

      stands : (a : List Timed) (t : Timed) (b : List Timed) → all ≡ a ++ t ∷ b → Contains all t
      stands a t b is = contains_from all t (subst (λ zs. At zs t) (sym is) (at_right a (t ∷ b) t (0, refl)))

  module _ (router from : ℕ) (here : router < length net) (begun : start ≤ from) (room : from + 59_000 ≤ end) where
    first : IsCut start from all
    first = cut_at start from all paced.in_time

    second : IsCut from (from + 46_000) first.late
    second = cut_at from (from + 46_000) first.late first.from

    whole : all ≡ first.early ++ (second.early ++ second.late)
    whole = first.parts ∙ ap (λ xs. first.early ++ xs) second.parts

    abbrev v : World
    v = reached w (untimed first.early)

    takes_whole : Takes net w (untimed first.early ++ untimed first.late) w'
    takes_whole = subst (λ xs. Takes net w xs w') (ap untimed first.parts ∙ untimed_on first.early first.late) paced.takes

    takes_second : Takes net (reached w (untimed first.early)) (untimed second.early ++ untimed second.late) w'
    takes_second =
        subst (λ xs. Takes net (reached w (untimed first.early)) xs w') (ap untimed second.parts ∙ untimed_on second.early second.late)
        (takes_rest net (untimed first.early) (untimed first.late) w w' takes_whole)

    -- the state at that moment
    set_at : IsSetBy (reached w (untimed first.early)) (paced.behind router) from router
    set_at =
        let s = paced.set router here in
        set_after net (paced.behind router) from router first.early w (reached w (untimed first.early)) (takes_first net (untimed first.early) (untimed first.late) w w' takes_whole)
        (in_time_before router from first.early first.late [] first.parts first.before)
        (record { state = s.state; state_is = s.state_is; wound = (le_trans s.wound.0 begun, s.wound.1) })

    -- the tick at which it is due at the latest
    last_tick : IsTickAt all router (from + 45_500) (from + 45_500 + 500)
    last_tick = paced.ticks router (from + 45_500) here (up start from begun) (short from end room)
      where
        up : (a b : ℕ) → a ≤ b → a ≤ b + 45_500
        up a b e = omega arith

        short : (f e : ℕ) → f + 59_000 ≤ e → f + 45_500 + 500 ≤ e
        short f e g = omega arith

    punctual_in : IsDueIn (reached w (untimed first.early)) second.early router
    punctual_in =
        let k = last_tick in
        let a = in_late first.early first.late k.before k.tick k.after (sym first.parts ∙ k.parts) from (down from k.tick.at k.not_before) first.before in
        let b = in_early second.early second.late a.0 k.tick k.after (sym second.parts ∙ a.2) (from + 46_000) (soon from k.tick.at k.in_time)
        (from_all (from + 46_000) (from + 46_000) second.late (le_refl (from + 46_000)) second.from) in
        let moment : (paced.behind router + k.now ≤ k.tick.at) × (k.tick.at < paced.behind router + k.now + 500) =
        subst (λ (e : Event). (paced.behind (router_of e) + moment_of e ≤ k.tick.at) × (k.tick.at < paced.behind (router_of e) + moment_of e + 500)) k.ticks
        (paced.moments k.tick (contains_from all k.tick (subst (λ zs. At zs k.tick) (sym k.parts) (at_right k.before (k.tick ∷ k.after) k.tick (0, refl))))) in
        subst (λ zs. IsDueIn (reached w (untimed first.early)) zs router) (sym b.1)
        (due_in net (paced.behind router) (from + 46_000) router a.0 k.tick b.0 (reached w (untimed first.early))
        (reached (reached w (untimed first.early)) (untimed second.early))
        (subst (λ zs. Takes net (reached w (untimed first.early)) (untimed zs) (reached (reached w (untimed first.early)) (untimed second.early))) b.1
        (takes_first net (untimed second.early) (untimed second.late) (reached w (untimed first.early)) w' takes_second))
        (first_all (InTime net (paced.behind router) (from + 46_000) router) a.0 (k.tick ∷ b.0) (subst (AllByRecursion (InTime net (paced.behind router) (from + 46_000) router)) b.1
        (in_time_before router (from + 46_000) second.early second.late first.early whole second.before)))
        set_at.state set_at.state_is (more (paced.behind router) set_at.state.last from set_at.wound.0, set_at.wound.1) k.now k.word k.ticks
        (reached_due (paced.behind router) set_at.state.last set_at.state.regular from k.now k.tick.at set_at.wound.0 set_at.wound.1 k.not_before moment.1))
      where
        down : (f t : ℕ) → f + 45_500 ≤ t → f ≤ t
        down f t e = omega arith

        soon : (f t : ℕ) → t < f + 45_500 + 500 → t < f + 46_000
        soon f t e = omega arith

        more : (c l f : ℕ) → c + l ≤ f → c + l ≤ f + 46_000
        more c l f e = omega arith

        reached_due : (c l r f n t : ℕ) → c + l ≤ f → r ≤ l + 45_000 → f + 45_500 ≤ t → t < c + n + 500 → r ≤ n
        reached_due c l r f n t e g h i = omega arith

        first_all : (P : Timed → Type 0) (xs ys : List Timed) → AllByRecursion P (xs ++ ys) → AllByRecursion P xs
        first_all P [] ys all = tt
        first_all P (x ∷ xs) ys all = (all.0, first_all P xs ys all.1)

    -- a router's regular updates begin less than 46 seconds apart, and are heard less than 13 seconds later
    pub punctual : IsUpdateBetween net w all router from (from + 46_000) 13_000
    punctual =
        let p = punctual_in in
        let parts : all ≡ (first.early ++ p.before) ++ p.tick ∷ (p.after ++ second.late) =
        whole ∙ ap (λ xs. first.early ++ (xs ++ second.late)) p.parts ∙ ap (λ xs. first.early ++ xs) (append_assoc p.before (p.tick ∷ p.after) second.late)
        ∙ sym (append_assoc first.early p.before (p.tick ∷ (p.after ++ second.late))) in
        let soon = all_here (λ q. q.at < from + 46_000) p.before p.tick p.after second.early p.parts second.before in
        let world : reached w (untimed (first.early ++ p.before)) ≡ reached v (untimed p.before) =
        ap (reached w) (untimed_on first.early p.before) ∙ reached_on (untimed first.early) (untimed p.before) w in
        let due : IsDueTick (reached w (untimed (first.early ++ p.before))) (Tick router p.now p.word) = subst (λ (q : World). IsDueTick q (Tick router p.now p.word)) (sym world) p.due in
        record {
          before = first.early ++ p.before;
          tick = p.tick;
          after = p.after ++ second.late;
          parts = parts;
          not_before = all_here (λ q. from ≤ q.at) p.before p.tick p.after second.early p.parts second.not_before;
          in_time = soon;
          now = p.now;
          word = p.word;
          ticks = p.ticks;
          due = due;
          heard = paced.updates (first.early ++ p.before) p.tick (p.after ++ second.late) parts router p.now p.word p.ticks due (fits p.tick.at from end soon room);
        }
      where
        fits : (t f e : ℕ) → t < f + 46_000 → f + 59_000 ≤ e → t + 13_000 ≤ e
        fits t f e g h = omega arith
