-- An observer that hands on to another what it is notified of.
use Rattle.std.proofs.Common.{◌≡◌, ◌∙◌, ◌⊎◌, inl, inr, ℕ, List, [], ◌∷◌, Option, Some, None, Result, Ok, Err, IfOk, ap, refl, subst, sym}
use Rattle.ripng_world.specs.Labs.{LabValue}
use Rattle.ripng_world.specs.Watching.{Told}
use Rattle.ripng_lab.specs.Asides.{Aside, NextLine, Prints, CountsPhases, ShowsCounts, Lie, Broken}
use Rattle.ripng_lab.specs.Below.{Counter, Counting}
use Rattle.ripng_lab.specs.Counting.{CountedAside, HasCounted, HasStartedCounting, SameWatch}
use Rattle.ripng_lab.specs.Doing.{HasDone}
use Rattle.ripng_lab.specs.ScriptWatching.{Telling, Starts, Does, Turns, Notes, Counts, Shows, Deceives, TellsAll, IsToldOfLab, IsToldUntil, FailsAtRest, FailsAtEvent, FailsAtLie}

-- what it is notified of, the other is
module _ {V U : Type 0} (f : V → U) (st : V → LabValue → ℕ → V → Type 0) (t fl : V → Told → V → Type 0) (n : V → Aside → V → Type 0)
    (st' : U → LabValue → ℕ → U → Type 0) (t' fl' : U → Told → U → Type 0) (n' : U → Aside → U → Type 0)
    (starts : (a : V) (lab : LabValue) (now : ℕ) (b : V) → st a lab now b → st' (f a) lab now (f b)) (takes : (a : V) (what : Told) (b : V) → t a what b → t' (f a) what (f b))
    (fails : (a : V) (what : Told) (b : V) → fl a what b → fl' (f a) what (f b)) (notes : (a : V) (what : Aside) (b : V) → n a what b → n' (f a) what (f b)) where
  pub all_as : (ts : List Telling) (s s' : Option LabValue × V) → TellsAll st t n s ts s' → TellsAll st' t' n' (s.0, f s.1) ts (s'.0, f s'.1)
  all_as [] s s' same = ap (λ (x : Option LabValue × V). (x.0, f x.1)) same
  all_as (Starts now ∷ ts) s s' told =
      ((told.0.0, f told.0.1), (told.1.0, told.1.1, told.1.2, told.1.3, starts s.1 told.1.1 now told.0.1 told.1.4), all_as ts told.0 s' told.2)
  all_as (Does e answer ∷ ts) s s' told =
      ((told.0.0, f told.0.1), (told.1.0, told.1.1, told.1.2, told.1.3, told.1.4, told.1.5, takes s.1 _ told.0.1 told.1.6), all_as ts told.0 s' told.2)
  all_as (Turns number ∷ ts) s s' told = ((told.0.0, f told.0.1), (told.1.0, notes s.1 (NextLine number) told.0.1 told.1.1), all_as ts told.0 s' told.2)
  all_as (Notes ∷ ts) s s' told = ((told.0.0, f told.0.1), (told.1.0, notes s.1 Prints told.0.1 told.1.1), all_as ts told.0 s' told.2)
  all_as (Counts phases last ∷ ts) s s' told =
      ((told.0.0, f told.0.1), (told.1.0, notes s.1 (CountsPhases phases last) told.0.1 told.1.1), all_as ts told.0 s' told.2)
  all_as (Shows numbers ∷ ts) s s' told = ((told.0.0, f told.0.1), (told.1.0, notes s.1 (ShowsCounts numbers) told.0.1 told.1.1), all_as ts told.0 s' told.2)
  all_as (Deceives router x answer ∷ ts) s s' told =
      ((told.0.0, f told.0.1), (told.1.0, told.1.1, told.1.2, told.1.3, told.1.4, told.1.5, notes s.1 (Lie _) told.0.1 told.1.6), all_as ts told.0 s' told.2)

  pub told_as : (s s' : Option LabValue × V) → IsToldOfLab st t n s s' → IsToldOfLab st' t' n' (s.0, f s.1) (s'.0, f s'.1)
  told_as s s' told = (told.0, all_as told.0 s s' told.1)

  pub done_as : (means : List Telling → Type 0) (s s' : Option LabValue × V) → HasDone means st t n s s' → HasDone means st' t' n' (s.0, f s.1) (s'.0, f s'.1)
  done_as means s s' done = (done.0, done.1, all_as done.0 s s' done.2)

  pub until_as : (s s' : Option LabValue × V) → IsToldUntil st t fl n s s' → IsToldUntil st' t' fl' n' (s.0, f s.1) (s'.0, f s'.1)
  until_as s s' until = ((until.0.0, f until.0.1), told_as s until.0 until.1, by_why until.2)
    where
      by_why : FailsAtRest n until.0 s' ⊎ (FailsAtEvent fl until.0 s' ⊎ FailsAtLie n until.0 s')
          → FailsAtRest n' (until.0.0, f until.0.1) (s'.0, f s'.1) ⊎ (FailsAtEvent fl' (until.0.0, f until.0.1) (s'.0, f s'.1) ⊎ FailsAtLie n' (until.0.0, f until.0.1) (s'.0, f s'.1))
      by_why (inl (same, inl unsaid)) = inl (same, inl (ap f unsaid))
      by_why (inl (same, inr broken)) = inl (same, inr (notes until.0.1 Broken s'.1 broken))
      by_why (inr (inl at)) = inr (inl (at.0, at.1, at.2, at.3, at.4, at.5, at.6, at.7, fails until.0.1 _ s'.1 at.8))
      by_why (inr (inr at)) = inr (inr (at.0, at.1, at.2, at.3, at.4, at.5, at.6, at.7, at.8, notes until.0.1 Broken s'.1 at.9))

-- what each notification keeps, all of them keep
module _ {V N : Type 0} (place : V → N) (st : V → LabValue → ℕ → V → Type 0) (t fl : V → Told → V → Type 0) (n : V → Aside → V → Type 0)
    (starts : (a : V) (lab : LabValue) (now : ℕ) (b : V) → st a lab now b → place b ≡ place a) (takes : (a : V) (what : Told) (b : V) → t a what b → place b ≡ place a)
    (fails : (a : V) (what : Told) (b : V) → fl a what b → place b ≡ place a) (notes : (a : V) (what : Aside) (b : V) → n a what b → place b ≡ place a) where
  pub kept : (ts : List Telling) (s s' : Option LabValue × V) → TellsAll st t n s ts s' → place s'.1 ≡ place s.1
  kept [] s s' same = ap (λ (x : Option LabValue × V). place x.1) same
  kept (Starts now ∷ ts) s s' told = kept ts told.0 s' told.2 ∙ starts s.1 told.1.1 now told.0.1 told.1.4
  kept (Does e answer ∷ ts) s s' told = kept ts told.0 s' told.2 ∙ takes s.1 _ told.0.1 told.1.6
  kept (Turns number ∷ ts) s s' told = kept ts told.0 s' told.2 ∙ notes s.1 (NextLine number) told.0.1 told.1.1
  kept (Notes ∷ ts) s s' told = kept ts told.0 s' told.2 ∙ notes s.1 Prints told.0.1 told.1.1
  kept (Counts phases last ∷ ts) s s' told = kept ts told.0 s' told.2 ∙ notes s.1 (CountsPhases phases last) told.0.1 told.1.1
  kept (Shows numbers ∷ ts) s s' told = kept ts told.0 s' told.2 ∙ notes s.1 (ShowsCounts numbers) told.0.1 told.1.1
  kept (Deceives router x answer ∷ ts) s s' told = kept ts told.0 s' told.2 ∙ notes s.1 (Lie _) told.0.1 told.1.6

  pub kept_until : (s s' : Option LabValue × V) → IsToldUntil st t fl n s s' → place s'.1 ≡ place s.1
  kept_until s s' until = by_why until.2 ∙ kept until.1.0 s until.0 until.1.1
    where
      by_why : FailsAtRest n until.0 s' ⊎ (FailsAtEvent fl until.0 s' ⊎ FailsAtLie n until.0 s') → place s'.1 ≡ place until.0.1
      by_why (inl (same, inl unsaid)) = ap place unsaid
      by_why (inl (same, inr broken)) = notes until.0.1 Broken s'.1 broken
      by_why (inr (inl at)) = fails until.0.1 _ s'.1 at.8
      by_why (inr (inr at)) = notes until.0.1 Broken s'.1 at.9

-- the observer that counts, with the ghost members of the one that it notifies
module _ {V : Type 0} (st : V → LabValue → ℕ → V → Type 0) (t fl : V → Told → V → Type 0) (n : V → Aside → V → Type 0) where
  abbrev starts_by : Counting V → LabValue → ℕ → Counting V → Type 0
  starts_by old lab now new = st old.watch.now lab now new.watch.now × HasStartedCounting old.counter lab new.counter × SameWatch old new

  abbrev takes_by : Counting V → Told → Counting V → Type 0
  takes_by old what new = t old.watch.now what new.watch.now × HasCounted old.counter what new.counter × SameWatch old new

  abbrev fails_by : Counting V → Told → Counting V → Type 0
  fails_by old what new = fl old.watch.now what new.watch.now × SameWatch old new

  abbrev notes_by : Counting V → Aside → Counting V → Type 0
  notes_by old what new = n old.watch.now what new.watch.now × CountedAside old.counter what new.counter × SameWatch old new

  module _ (v v' : Counting V) (end : Option LabValue) where
    -- it notifies the same observer
    pub told_same : IsToldOfLab starts_by takes_by notes_by (None, v) (end, v') → v.watch.ghost_name ≡ v'.watch.ghost_name
    told_same told =
        sym (kept (λ (c : Counting V). c.watch.ghost_name) starts_by takes_by fails_by notes_by (λ a l now b h. h.2) (λ a what b h. h.2) (λ a what b h. h.1) (λ a what b h. h.2) told.0 (None, v) (end, v') told.1)

    pub done_same : {means : List Telling → Type 0} → HasDone means starts_by takes_by notes_by (None, v) (end, v') → v.watch.ghost_name ≡ v'.watch.ghost_name
    done_same done = told_same (done.0, done.2)

    pub until_same : IsToldUntil starts_by takes_by fails_by notes_by (None, v) (end, v') → v.watch.ghost_name ≡ v'.watch.ghost_name
    until_same until =
        sym (kept_until (λ (c : Counting V). c.watch.ghost_name) starts_by takes_by fails_by notes_by (λ a l now b h. h.2) (λ a what b h. h.2) (λ a what b h. h.1) (λ a what b h. h.2) (None, v) (end, v') until)

    -- and that one is notified of the same
    module _ (old new : V) (first : v.watch.now ≡ old) (last : new ≡ v'.watch.now) where
      pub told_by : IsToldOfLab starts_by takes_by notes_by (None, v) (end, v') → IsToldOfLab st t n (None, old) (end, new)
      told_by told =
          subst (λ (u : V). IsToldOfLab st t n (None, u) (end, new)) first
          (subst (λ (u : V). IsToldOfLab st t n (None, v.watch.now) (end, u)) (sym last)
          (told_as (λ (c : Counting V). c.watch.now) starts_by takes_by fails_by notes_by st t fl n (λ a l now b h. h.0) (λ a what b h. h.0) (λ a what b h. h.0) (λ a what b h. h.0) (None, v) (end, v') told))

      pub done_by : (means : List Telling → Type 0) → HasDone means starts_by takes_by notes_by (None, v) (end, v') → HasDone means st t n (None, old) (end, new)
      done_by means done =
          subst (λ (u : V). HasDone means st t n (None, u) (end, new)) first
          (subst (λ (u : V). HasDone means st t n (None, v.watch.now) (end, u)) (sym last)
          (done_as (λ (c : Counting V). c.watch.now) starts_by takes_by fails_by notes_by st t fl n (λ a l now b h. h.0) (λ a what b h. h.0) (λ a what b h. h.0) (λ a what b h. h.0) means (None, v) (end, v') done))

      pub until_by : IsToldUntil starts_by takes_by fails_by notes_by (None, v) (end, v') → IsToldUntil st t fl n (None, old) (end, new)
      until_by until =
          subst (λ (u : V). IsToldUntil st t fl n (None, u) (end, new)) first
          (subst (λ (u : V). IsToldUntil st t fl n (None, v.watch.now) (end, u)) (sym last)
          (until_as (λ (c : Counting V). c.watch.now) starts_by takes_by fails_by notes_by st t fl n (λ a l now b h. h.0) (λ a what b h. h.0) (λ a what b h. h.0) (λ a what b h. h.0) (None, v) (end, v') until))

-- what follows from what holds of an outcome
pub if_ok_as : {X E : Type 0} (r : Result X E) (P Q : X → Type 0) → ((x : X) → P x → Q x) → IfOk r P → IfOk r Q
if_ok_as (Ok x) P Q f p = f x p
if_ok_as (Err e) P Q f p = tt
