-- What is on time in a run where nothing is lost: each datagram comes as long after it was sent as its link delays it.
use Rattle.std.proofs.Common.{◌≡◌, ◌⊎◌, inl, inr, ℕ, zero, suc, ◌+◌, ◌<◌, ◌≤◌, max, List, [], ◌∷◌, ◌++◌, Contains, Some, None, length, slice_get, refl, ap, sym, subst, ◌∙◌, arith, append_assoc, le_refl, le_trans}
use Rattle.std.specs.List.{AllByRecursion}
use Rattle.std.proofs.lemmas.Option.{slice_get_within}
use Rattle.router_core.specs.Machine.{State}
use Rattle.router_core.specs.declared.answer.Destination.{Destination}
use Rattle.router_core.specs.declared.answer.Destination.TheVariants.{Group}
use Rattle.ripng_world.specs.Network.{Network}
use Rattle.ripng_world.specs.Rounds.{IsDueTick, moment_of}
use Rattle.ripng_world.specs.World.{World, Event, Deliver, Tick, Happens}
use Rattle.ripng_world.specs.declared.event.Sent.{Sent}
use Rattle.ripng_phases.specs.Phases.{Step, Takes, reached}
use Rattle.ripng_clock.proofs.Sendings.{Grows, no_fewer, takes_grows, takes_reached, takes_rest}
use Rattle.ripng_clock.specs.Agenda.{IsUpTo}
use Rattle.ripng_clock.proofs.Splitting.{one_of, part_of}

abbrev pub IsSent : World → ℕ → Sent → Type 0
IsSent w n d = slice_get w.sent n ≡ Some d

-- sent from one interface
abbrev pub FromOne : Sent → Sent → Type 0
FromOne a b = (a.router ≡ b.router) × (a.iface ≡ b.iface)

-- the datagram is delivered among the steps
pub record IsBrought (steps : List Step) (n router iface moment : ℕ) : Type 0 where
  pub before : List Step
  pub step : Step
  pub after : List Step
  pub parts : steps ≡ before ++ step ∷ after
  pub event : step.event ≡ Deliver n router iface moment

pub brought_on : (steps : List Step) (n router iface moment : ℕ) (x : Step) → IsBrought steps n router iface moment → IsBrought (steps ++ x ∷ []) n router iface moment
brought_on steps n router iface moment x is =
    record { before = is.before; step = is.step; after = is.after ++ x ∷ []; parts = ap (λ xs. xs ++ x ∷ []) is.parts ∙ append_assoc is.before (is.step ∷ is.after) (x ∷ []); event = is.event }

pub get_within : {X : Type 0} (xs ys : List X) (n : ℕ) → n < length xs → slice_get (xs ++ ys) n ≡ slice_get xs n
get_within [] ys n lt = absurd (omega (arith, lt))
get_within (x ∷ xs) ys zero lt = refl
get_within (x ∷ xs) ys (suc n) lt = get_within xs ys n (grind (arith, lt))

pub past : (xs : List Sent) (k : ℕ) → k < length xs → slice_get xs k ≡ None → ⊥
past [] k lt e = omega (arith, lt)
past (y ∷ ys) zero lt e = cc
past (y ∷ ys) (suc k) lt e = past ys k (grind (arith, lt)) e

module _ (net : Network) (w0 : World) (begin : ℕ) (delay : Sent → ℕ) where
  -- ---- what holds at each moment of a run

  abbrev pub AreKnown : World → (ℕ → ℕ → Type 0) → Type 0
  AreKnown w has = (t n : ℕ) → has t n → n < length w.sent

  abbrev pub AreNear : World → ℕ → (ℕ → ℕ → Type 0) → Type 0
  AreNear w now has = (t n : ℕ) (d : Sent) → has t n → IsSent w n d → t ≤ now + delay d

  abbrev pub AreSorted : World → (ℕ → ℕ → Type 0) → Type 0
  AreSorted w has = (t n t' n' : ℕ) (d d' : Sent) → has t n → has t' n' → IsSent w n d → IsSent w n' d' → FromOne d d' → n < n' → t ≤ t'

  abbrev pub AreNotLate : ℕ → (ℕ → ℕ → Type 0) → Type 0
  AreNotLate now has = (t n : ℕ) → has t n → now ≤ max begin t

  -- what was delivered was sent before what is under way
  abbrev pub AreAhead : World → List Step → (ℕ → ℕ → Type 0) → Type 0
  AreAhead w steps has = (before : List Step) (x : Step) (after : List Step) → steps ≡ before ++ x ∷ after → (n r i m : ℕ) → x.event ≡ Deliver n r i m
      → (t old : ℕ) (d d' : Sent) → has t old → IsSent w n d → IsSent w old d' → FromOne d d' → n ≤ old

  abbrev pub AreInTurn : World → List Step → Type 0
  AreInTurn w steps = (before : List Step) (x : Step) (after b : List Step) (y : Step) (between : List Step) → steps ≡ before ++ x ∷ after → before ≡ b ++ y ∷ between
      → (n r i m n' r' i' m' : ℕ) (d d' : Sent) → y.event ≡ Deliver n r i m → x.event ≡ Deliver n' r' i' m' → IsSent w n d → IsSent w n' d' → FromOne d d' → n ≤ n'

  -- all of them are 15 seconds before a moment, at least
  abbrev pub AreOld : ℕ → List Step → Type 0
  AreOld moment steps = AllByRecursion (λ s. moment_of s.event + 15_000 ≤ moment) steps

  abbrev pub IsNewAt : List Step → ℕ → ℕ → Type 0
  IsNewAt steps moment n = (old new : List Step) → steps ≡ old ++ new → AreOld moment old → length (reached w0 old).sent ≤ n

  abbrev pub AreFresh : List Step → (ℕ → ℕ → Type 0) → Type 0
  AreFresh steps has = (t n : ℕ) → has t n → begin + 15_000 ≤ t → IsNewAt steps t n

  abbrev pub AreRecent : List Step → Type 0
  AreRecent steps = (before : List Step) (x : Step) (after : List Step) → steps ≡ before ++ x ∷ after → begin + 15_000 ≤ moment_of x.event
      → (n r i m : ℕ) → x.event ≡ Deliver n r i m → IsNewAt before (moment_of x.event) n

  -- each datagram that goes to the group is under way or was brought to each receiver
  abbrev pub Come : (Sent → List (ℕ × ℕ)) → List Step → (ℕ → ℕ → Type 0) → Type 0
  Come receivers steps has = (before : List Step) (x : Step) (after : List Step) → steps ≡ before ++ x ∷ after
      → (n : ℕ) (d : Sent) → length (reached w0 before).sent ≤ n → IsSent x.after n d
      → has (moment_of x.event + delay d) n ⊎ ((r i : ℕ) → Contains (receivers d) (r, i) → IsBrought after n r i (moment_of x.event + delay d))

  -- what was delivered was sent
  abbrev pub AreDelivered : World → List Step → Type 0
  AreDelivered w steps = (before : List Step) (x : Step) (after : List Step) → steps ≡ before ++ x ∷ after → (n r i m : ℕ) → x.event ≡ Deliver n r i m → n < length w.sent

  -- a datagram of the steps was brought to each of these interfaces at a moment
  abbrev pub AreBroughtTo : (Sent → List (ℕ × ℕ)) → List Step → ℕ → ℕ → Type 0
  AreBroughtTo receivers steps number now = (before : List Step) (x : Step) (after : List Step) → steps ≡ before ++ x ∷ after
      → (d : Sent) → length (reached w0 before).sent ≤ number → IsSent x.after number d → (r i : ℕ) → Contains (receivers d) (r, i) → IsBrought after number r i now

  -- ---- as one more step is done

  module _ (steps : List Step) (w : World) (takes : Takes net w0 steps w) where
    here : reached w0 steps ≡ w
    here = sym (takes_reached net steps w0 w takes)

    -- no more were sent before
    pub fewer : (old new : List Step) → steps ≡ old ++ new → length (reached w0 old).sent ≤ length w.sent
    fewer old new parts = no_fewer (reached w0 old) w (takes_grows net new (reached w0 old) w (takes_rest net old new w0 w (subst (λ xs. Takes net w0 xs w) parts takes)))

    module _ (has : ℕ → ℕ → Type 0) (now : ℕ) (x : Step) (w' : World) (grows : Grows w w') (after_is : x.after ≡ w') (moment : moment_of x.event ≡ now)
        (has' : ℕ → ℕ → Type 0) (kept : (t n : ℕ) → has t n → has' t n)
        (set : (n : ℕ) (d : Sent) → length w.sent ≤ n → IsSent w' n d → has' (now + delay d) n)
        (only : (t n : ℕ) → has' t n → has t n ⊎ ((length w.sent ≤ n) × (n < length w'.sent) × ((d : Sent) → IsSent w' n d → t ≡ now + delay d)))
        (short : (d : Sent) → delay d < 15_000) (alike : (d d' : Sent) → FromOne d d' → delay d ≡ delay d') (known : AreKnown w has) where
      back : (n : ℕ) (d : Sent) → n < length w.sent → IsSent w' n d → IsSent w n d
      back n d lt is = sym (get_within w.sent grows.0 n lt) ∙ ap (λ xs. slice_get xs n) (sym grows.1) ∙ is

      pub known_next : AreKnown w' has'
      known_next t n is = by (only t n is)
        where
          by : has t n ⊎ ((length w.sent ≤ n) × (n < length w'.sent) × ((d : Sent) → IsSent w' n d → t ≡ now + delay d)) → n < length w'.sent
          by (inl old) = let a = known t n old in let b = no_fewer w w' grows in omega (arith, a, b)
          by (inr new) = new.1

      pub near_next : AreNear w now has → AreNear w' now has'
      near_next near t n d is sent = by (only t n is)
        where
          by : has t n ⊎ ((length w.sent ≤ n) × (n < length w'.sent) × ((d : Sent) → IsSent w' n d → t ≡ now + delay d)) → t ≤ now + delay d
          by (inl old) = near t n d old (back n d (known t n old) sent)
          by (inr new) = let e = new.2 d sent in omega (arith, e)

      pub sorted_next : AreNear w now has → AreSorted w has → AreSorted w' has'
      sorted_next near sorted t n t' n' d d' is is' sent sent' one lt = by (only t n is) (only t' n' is')
        where
          IsNew : ℕ → ℕ → Type 0
          IsNew t n = (length w.sent ≤ n) × (n < length w'.sent) × ((d : Sent) → IsSent w' n d → t ≡ now + delay d)

          by : has t n ⊎ ((length w.sent ≤ n) × (n < length w'.sent) × ((d : Sent) → IsSent w' n d → t ≡ now + delay d))
              → has t' n' ⊎ ((length w.sent ≤ n') × (n' < length w'.sent) × ((d : Sent) → IsSent w' n' d → t' ≡ now + delay d)) → t ≤ t'
          by (inl old) (inl old') = sorted t n t' n' d d' old old' (back n d (known t n old) sent) (back n' d' (known t' n' old') sent') one lt
          by (inl old) (inr new') =
              let a = near t n d old (back n d (known t n old) sent) in
              let b = new'.2 d' sent' in
              let c = alike d d' one in
              omega (arith, a, b, c)
          by (inr new) (inl old') = let a = known t' n' old' in let b = new.0 in absurd (omega (arith, a, b, lt))
          by (inr new) (inr new') = let a = new.2 d sent in let b = new'.2 d' sent' in let c = alike d d' one in omega (arith, a, b, c)

      pub not_late_next : AreNotLate now has → AreNotLate now has'
      not_late_next on_time t n is = by (only t n is)
        where
          by : has t n ⊎ ((length w.sent ≤ n) × (n < length w'.sent) × ((d : Sent) → IsSent w' n d → t ≡ now + delay d)) → now ≤ max begin t
          by (inl old) = on_time t n old
          by (inr new) = later (slice_get w'.sent n) refl
            where
              later : (o : _) → slice_get w'.sent n ≡ o → now ≤ max begin t
              later (Some d) at = let e = new.2 d at in omega (arith, e)
              later None at = absurd (past w'.sent n new.1 at)

      -- what is under way soon comes
      soon : AreNear w' now has' → (t n : ℕ) → has' t n → t < now + 15_000
      soon near t n is = by (slice_get w'.sent n) refl
        where
          by : (o : _) → slice_get w'.sent n ≡ o → t < now + 15_000
          by (Some d) at = let a = near t n d is at in let b = short d in omega (arith, a, b)
          by None at = absurd (past w'.sent n (known_next t n is) at)

      pub fresh_next : AreNear w' now has' → AreFresh steps has → AreFresh (steps ++ x ∷ []) has'
      fresh_next near fresh t n is late old new parts all = by (part_of steps x old new parts)
        where
          last_old : (xs : List Step) → AllByRecursion (λ s. moment_of s.event + 15_000 ≤ t) (xs ++ x ∷ []) → moment_of x.event + 15_000 ≤ t
          last_old [] a = a.0
          last_old (y ∷ ys) a = last_old ys a.1

          fits : (rest : List Step) → steps ≡ old ++ rest → has t n ⊎ ((length w.sent ≤ n) × (n < length w'.sent) × ((d : Sent) → IsSent w' n d → t ≡ now + delay d)) → length (reached w0 old).sent ≤ n
          fits rest there (inl was) = fresh t n was late old rest there all
          fits rest there (inr is_new) = le_trans (fewer old rest there) is_new.0

          by : (old ≡ steps ++ x ∷ []) ⊎ ((rest : List Step) × (new ≡ rest ++ x ∷ []) × (steps ≡ old ++ rest)) → length (reached w0 old).sent ≤ n
          by (inl whole) =
              let a = last_old steps (subst (AreOld t) whole all) in
              let b = soon near t n is in
              absurd (omega (arith, a, b, moment))
          by (inr there) = fits there.0 there.2 (only t n is)

      pub come_next : (receivers : Sent → List (ℕ × ℕ)) → Come receivers steps has → Come receivers (steps ++ x ∷ []) has'
      come_next receivers come before y after parts n d late sent = by (one_of steps x before y after parts)
        where
          by : ((after ≡ []) × (y ≡ x) × (before ≡ steps)) ⊎ ((rest : List Step) × (after ≡ rest ++ x ∷ []) × (steps ≡ before ++ y ∷ rest))
              → has' (moment_of y.event + delay d) n ⊎ ((r i : ℕ) → Contains (receivers d) (r, i) → IsBrought after n r i (moment_of y.event + delay d))
          by (inl last) =
              inl (subst (λ m. has' (m + delay d) n) (sym (ap (λ (z : Step). moment_of z.event) last.1 ∙ moment))
              (set n d (subst (λ v. length v.sent ≤ n) (ap (reached w0) last.2 ∙ here) late) (subst (λ v. IsSent v n d) (ap (λ (z : Step). z.after) last.1 ∙ after_is) sent)))
          by (inr there) =
              elim (come before y there.0 there.2 n d late sent) [
                | inl waits ↦ inl (kept (moment_of y.event + delay d) n waits)
                | inr done ↦ inr (λ r i c. subst (λ xs. IsBrought xs n r i (moment_of y.event + delay d)) (sym there.1)
                    (brought_on there.0 n r i (moment_of y.event + delay d) x (done r i c)))
              ]

      -- ---- what comes is the first of what is under way

      module _ (delivered : AreDelivered w steps) (sorted : AreSorted w has)
          (head : (n r i m : ℕ) → x.event ≡ Deliver n r i m → (t : ℕ) × has t n × ((t' n' : ℕ) → has t' n' → IsUpTo t n t' n') × (t ≤ now)) where
        pub delivered_next : AreDelivered w' (steps ++ x ∷ [])
        delivered_next before y after parts n r i m event = by (one_of steps x before y after parts)
          where
            by : ((after ≡ []) × (y ≡ x) × (before ≡ steps)) ⊎ ((rest : List Step) × (after ≡ rest ++ x ∷ []) × (steps ≡ before ++ y ∷ rest)) → n < length w'.sent
            by (inl last) =
                let h = head n r i m (ap (λ (z : Step). z.event) (sym last.1) ∙ event) in
                let a = known h.0 n h.1 in
                let b = no_fewer w w' grows in
                omega (arith, a, b)
            by (inr there) = let a = delivered before y there.0 there.2 n r i m event in let b = no_fewer w w' grows in omega (arith, a, b)

        -- of one interface it is the oldest
        oldest : (t n t' n' : ℕ) (d d' : Sent) → has t n → has t' n' → IsSent w n d → IsSent w n' d' → FromOne d d' → IsUpTo t n t' n' → n ≤ n'
        oldest t n t' n' d d' is is' sent sent' one first = by (compare n n') first
          where
            compare : (a b : ℕ) → (a ≤ b) ⊎ (b < a)
            compare a b = grind arith

            by : (n ≤ n') ⊎ (n' < n) → IsUpTo t n t' n' → n ≤ n'
            by (inl le) first = le
            by (inr lt) (inl before) = let le = sorted t' n' t n d' d is' is sent' sent (sym one.0, sym one.1) lt in absurd (omega (arith, le, before))
            by (inr lt) (inr same) = same.1

        pub ahead_next : AreAhead w steps has → AreAhead w' (steps ++ x ∷ []) has'
        ahead_next ahead before y after parts n r i m event t old d d' is sent sent' one = by (one_of steps x before y after parts) (only t old is)
          where
            by : ((after ≡ []) × (y ≡ x) × (before ≡ steps)) ⊎ ((rest : List Step) × (after ≡ rest ++ x ∷ []) × (steps ≡ before ++ y ∷ rest))
                → has t old ⊎ ((length w.sent ≤ old) × (old < length w'.sent) × ((d : Sent) → IsSent w' old d → t ≡ now + delay d)) → n ≤ old
            by (inl last) (inl waits) =
                let h = head n r i m (ap (λ (z : Step). z.event) (sym last.1) ∙ event) in
                oldest h.0 n t old d d' h.1 waits (back n d (known h.0 n h.1) sent) (back old d' (known t old waits) sent') one (h.2 t old waits)
            by (inl last) (inr new) =
                let h = head n r i m (ap (λ (z : Step). z.event) (sym last.1) ∙ event) in
                let a = known h.0 n h.1 in
                let b = new.0 in
                omega (arith, a, b)
            by (inr there) (inl waits) =
                ahead before y there.0 there.2 n r i m event t old d d' waits (back n d (delivered before y there.0 there.2 n r i m event) sent) (back old d' (known t old waits) sent') one
            by (inr there) (inr new) = let a = delivered before y there.0 there.2 n r i m event in let b = new.0 in omega (arith, a, b)

        pub in_turn_next : AreAhead w steps has → AreInTurn w steps → AreInTurn w' (steps ++ x ∷ [])
        in_turn_next ahead in_turn before y after b z between parts parts' n r i m n' r' i' m' d d' event event' sent sent' one = by (one_of steps x before y after parts)
          where
            by : ((after ≡ []) × (y ≡ x) × (before ≡ steps)) ⊎ ((rest : List Step) × (after ≡ rest ++ x ∷ []) × (steps ≡ before ++ y ∷ rest)) → n ≤ n'
            by (inl last) =
                let h = head n' r' i' m' (ap (λ (v : Step). v.event) (sym last.1) ∙ event') in
                let there : steps ≡ b ++ z ∷ between = sym last.2 ∙ parts' in
                ahead b z between there n r i m event h.0 n' d d' h.1 (back n d (delivered b z between there n r i m event) sent) (back n' d' (known h.0 n' h.1) sent') one
            by (inr there) =
                let first : steps ≡ b ++ z ∷ (between ++ y ∷ there.0) = there.2 ∙ ap (λ xs. xs ++ y ∷ there.0) parts' ∙ append_assoc b (z ∷ between) (y ∷ there.0) in
                in_turn before y there.0 b z between there.2 parts' n r i m n' r' i' m' d d' event event' (back n d (delivered b z (between ++ y ∷ there.0) first n r i m event) sent)
                (back n' d' (delivered before y there.0 there.2 n' r' i' m' event') sent') one

        pub recent_next : AreNotLate now has → AreFresh steps has → AreRecent steps → AreRecent (steps ++ x ∷ [])
        recent_next on_time fresh recent before y after parts late n r i m event = by (one_of steps x before y after parts)
          where
            at_now : (b t k : ℕ) → k ≤ max b t → t ≤ k → b + 15_000 ≤ k → t ≡ k
            at_now b t k e f g = omega (arith, e, f, g)

            by : ((after ≡ []) × (y ≡ x) × (before ≡ steps)) ⊎ ((rest : List Step) × (after ≡ rest ++ x ∷ []) × (steps ≡ before ++ y ∷ rest)) → IsNewAt before (moment_of y.event) n
            by (inl last) =
                let h = head n r i m (ap (λ (z : Step). z.event) (sym last.1) ∙ event) in
                let when : moment_of y.event ≡ now = ap (λ (z : Step). moment_of z.event) last.1 ∙ moment in
                let same : h.0 ≡ now = at_now begin h.0 now (on_time h.0 n h.1) h.3 (subst (λ k. begin + 15_000 ≤ k) when late) in
                subst (λ xs. IsNewAt xs (moment_of y.event) n) (sym last.2)
                (subst (λ k. IsNewAt steps k n) (same ∙ sym when) (fresh h.0 n h.1 (subst (λ k. begin + 15_000 ≤ k) (when ∙ sym same) late)))
            by (inr there) = recent before y there.0 there.2 late n r i m event

  -- ---- as time passes

  pub near_later : (w : World) (now later : ℕ) (has : ℕ → ℕ → Type 0) → now ≤ later → AreNear w now has → AreNear w later has
  near_later w now later has le near t n d is sent = let a = near t n d is sent in omega (arith, a, le)

  -- ---- as a datagram has come to all

  module _ (has has' : ℕ → ℕ → Type 0) (left : (t n : ℕ) → has' t n → has t n) where
    pub known_left : (w : World) → AreKnown w has → AreKnown w has'
    known_left w known t n is = known t n (left t n is)

    pub near_left : (w : World) (now : ℕ) → AreNear w now has → AreNear w now has'
    near_left w now near t n d is = near t n d (left t n is)

    pub sorted_left : (w : World) → AreSorted w has → AreSorted w has'
    sorted_left w sorted t n t' n' d d' is is' = sorted t n t' n' d d' (left t n is) (left t' n' is')

    pub not_late_left : (now : ℕ) → AreNotLate now has → AreNotLate now has'
    not_late_left now on_time t n is = on_time t n (left t n is)

    pub ahead_left : (w : World) (steps : List Step) → AreAhead w steps has → AreAhead w steps has'
    ahead_left w steps ahead before x after parts n r i m event t old d d' is = ahead before x after parts n r i m event t old d d' (left t old is)

    pub fresh_left : (steps : List Step) → AreFresh steps has → AreFresh steps has'
    fresh_left steps fresh t n is = fresh t n (left t n is)

    -- it was brought to each of them at this moment
    pub come_left : (receivers : Sent → List (ℕ × ℕ)) (steps : List Step) (time number now : ℕ) → ((t n : ℕ) → has t n → ((t ≡ time) × (n ≡ number)) ⊎ has' t n)
        → now ≤ max begin time → time ≤ now
        → ((before : List Step) (x : Step) (after : List Step) → steps ≡ before ++ x ∷ after → begin ≤ moment_of x.event)
        → AreBroughtTo receivers steps number now → Come receivers steps has → Come receivers steps has'
    come_left receivers steps time number now gone on_time due begun brought come before x after parts n d late sent = by (come before x after parts n d late sent)
      where
        at_now : (b t k m e : ℕ) → k ≤ max b t → t ≤ k → b ≤ m → m + e ≡ t → k ≡ m + e
        at_now b t k m e f g h i = omega (arith, f, g, h, i)

        by : has (moment_of x.event + delay d) n ⊎ ((r i : ℕ) → Contains (receivers d) (r, i) → IsBrought after n r i (moment_of x.event + delay d))
            → has' (moment_of x.event + delay d) n ⊎ ((r i : ℕ) → Contains (receivers d) (r, i) → IsBrought after n r i (moment_of x.event + delay d))
        by (inr done) = inr done
        by (inl waits) = elim (gone (moment_of x.event + delay d) n waits) [
          | inr still ↦ inl still
          | inl this ↦ inr (λ r i c.
              let when : now ≡ moment_of x.event + delay d = at_now begin time now (moment_of x.event) (delay d) on_time due (begun before x after parts) this.0 in
              subst (λ m. IsBrought after n r i m) when
              (subst (λ k. IsBrought after k r i now) (sym this.1)
              (brought before x after parts d (subst (λ k. length (reached w0 before).sent ≤ k) this.1 late) (subst (λ k. IsSent x.after k d) this.1 sent) r i c)))
        ]
