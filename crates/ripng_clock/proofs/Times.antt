-- The times of routers, in a list and in order.
use Rattle.std.proofs.Common.{◌≡◌, ◌⊎◌, inl, inr, ℕ, zero, suc, ◌<◌, List, [], ◌∷◌, Option, Some, None, length, slice_get, slice_set, Contains, Result, Ok, Err, OnOk, refl, ap, sym, subst, ◌∙◌, arith}
use Rattle.std.specs.Option.{IfSome}
use Rattle.std.proofs.Math.ListN.{replicate}
use Rattle.ripng_clock.specs.Agenda.{AreTimes, Has, IsAdded, IsFirst, IsRemoved, IsUpTo}
use Rattle.ripng_clock.specs.declared.agenda.Agenda.{Agenda}
use Rattle.std.specs.Option.{is_some, unwrap_or}

pub same_in : {A : Type 0} (x y : A) → Some x ≡ Some y → x ≡ y
same_in x y e = ap (λ o. unwrap_or o x) e

pub none_some : {A : Type 0} {X : Type 0} (x : A) → None ≡ Some x → X
none_some x e = cc

-- what a place has once one is set
pub after_set : {A : Type 0} (xs : List A) (i : ℕ) (x : A) (j : ℕ) (y : A) → slice_get (slice_set xs i x) j ≡ Some y → ((i ≡ j) × (x ≡ y)) ⊎ ((i ≡ j → ⊥) × (slice_get xs j ≡ Some y))
after_set [] i x j y e = none_some y e
after_set (w ∷ ws) zero x zero y e = inl (refl, same_in x y e)
after_set (w ∷ ws) zero x (suc j) y e = inr (λ same. cc, e)
after_set (w ∷ ws) (suc i) x zero y e = inr (λ same. cc, e)
after_set (w ∷ ws) (suc i) x (suc j) y e =
    elim (after_set ws i x j y e) [ inl both ↦ inl (ap suc both.0, both.1) | inr there ↦ inr (λ same. there.0 (grind (arith, same)), there.1) ]

pub set_there : {A : Type 0} (xs : List A) (i : ℕ) (x : A) → i < length xs → slice_get (slice_set xs i x) i ≡ Some x
set_there [] i x lt = absurd (grind (arith, lt))
set_there (w ∷ ws) zero x lt = refl
set_there (w ∷ ws) (suc i) x lt = set_there ws i x (grind (arith, lt))

pub set_elsewhere : {A : Type 0} (xs : List A) (i : ℕ) (x : A) (j : ℕ) → (i ≡ j → ⊥) → slice_get (slice_set xs i x) j ≡ slice_get xs j
set_elsewhere [] i x j other = refl
set_elsewhere (w ∷ ws) zero x zero other = absurd (other refl)
set_elsewhere (w ∷ ws) zero x (suc j) other = refl
set_elsewhere (w ∷ ws) (suc i) x zero other = refl
set_elsewhere (w ∷ ws) (suc i) x (suc j) other = set_elsewhere ws i x j (λ same. other (ap suc same))

-- a set place that is set again
pub set_twice : {A : Type 0} (xs : List A) (i : ℕ) (x y : A) → slice_set (slice_set xs i x) i y ≡ slice_set xs i y
set_twice [] i x y = refl
set_twice (w ∷ ws) zero x y = refl
set_twice (w ∷ ws) (suc i) x y = ap (λ zs. w ∷ zs) (set_twice ws i x y)

pub set_length : {A : Type 0} (xs : List A) (i : ℕ) (x : A) → length (slice_set xs i x) ≡ length xs
set_length [] i x = refl
set_length (w ∷ ws) zero x = refl
set_length (w ∷ ws) (suc i) x = ap suc (set_length ws i x)

abbrev pub no : Option ℕ
no = None

pub no_time : (n router time : ℕ) → slice_get (replicate n no) router ≡ Some (Some time) → ⊥
no_time zero router time e = none_some (Some time) e
no_time (suc n) zero time e = none_some time (same_in no (Some time) e)
no_time (suc n) (suc router) time e = no_time n router time e

-- the order with the same entries
pub same_order : (times : List (Option ℕ)) (order order' : Agenda) → order'.entries.keys ≡ order.entries.keys → AreTimes times order → AreTimes times order'
same_order times order order' same kept =
    record {
      listed = λ n t e. subst (λ (ks : List (ℕ × ℕ)). Contains ks (t, n)) (sym same) (kept.listed n t e);
      only = λ n t has. kept.only n t (subst (λ (ks : List (ℕ × ℕ)). Contains ks (t, n)) same has);
    }

pub on_ok : {R E : Type 0} (r : Result R E) {P Q : Type 0} → (P → Q) → OnOk r P → OnOk r Q
on_ok (Ok x) f p = f p
on_ok (Err x) f p = p

pub none_of : (times : List (Option ℕ)) (order : Agenda) → ((router time : ℕ) → slice_get times router ≡ Some (Some time) → ⊥) → ((t n : ℕ) → Has order t n → ⊥) → AreTimes times order
none_of times order none empty = record { listed = λ n t e. absurd (none n t e); only = λ n t has. absurd (empty t n has) }

module _ (times : List (Option ℕ)) (router : ℕ) (order order' : Agenda) (kept : AreTimes times order) where
  -- the time of a router is gone
  pub cleared : (old : ℕ) → slice_get times router ≡ Some (Some old) → IsRemoved order old router order' → AreTimes (slice_set times router None) order'
  cleared old here removed =
      record {
        listed = λ n t e. elim (after_set times router None n (Some t) e) [
          | inl set ↦ none_some t set.1
          | inr there ↦ elim (removed.kept t n (kept.listed n t there.1)) [
            | inl same ↦ absurd (there.0 (sym same.1))
            | inr left ↦ left
          ]
        ];
        only = λ n t has. set_elsewhere times router None n (other n t has) ∙ kept.only n t (removed.only t n has);
      }
    where
      other : (n t : ℕ) → Has order' t n → router ≡ n → ⊥
      other n t has same =
          let there : slice_get times n ≡ Some (Some t) = kept.only n t (removed.only t n has) in
          let time : t ≡ old = same_in t old (same_in (Some t) (Some old) (sym there ∙ subst (λ r. slice_get times r ≡ Some (Some old)) same here)) in
          removed.gone (subst (λ r. Has order' old r) (sym same) (subst (λ u. Has order' u n) time has))

  -- it had none
  pub free : slice_get times router ≡ Some None → AreTimes (slice_set times router None) order
  free here =
      record {
        listed = λ n t e. elim (after_set times router None n (Some t) e) [ inl set ↦ none_some t set.1 | inr there ↦ kept.listed n t there.1 ];
        only = λ n t has. set_elsewhere times router None n (other n t has) ∙ kept.only n t has;
      }
    where
      other : (n t : ℕ) → Has order t n → router ≡ n → ⊥
      other n t has same =
          none_some t (same_in no (Some t) (sym (subst (λ r. slice_get times r ≡ Some None) same here) ∙ kept.only n t has))

  -- a router that has none has a time
  pub put : (time : ℕ) → router < length times → slice_get times router ≡ Some None → IsAdded order time router order' → AreTimes (slice_set times router (Some time)) order'
  put time within here added =
      record {
        listed = λ n t e. elim (after_set times router (Some time) n (Some t) e) [
          | inl set ↦ subst (λ r. Has order' t r) set.0 (subst (λ u. Has order' u router) (same_in time t set.1) added.has)
          | inr there ↦ added.kept t n (kept.listed n t there.1)
        ];
        only = λ n t has. elim (added.only t n has) [
          | inl same ↦ subst (λ r. slice_get (slice_set times router (Some time)) r ≡ Some (Some t)) (sym same.1)
              (set_there times router (Some time) within ∙ ap (λ u. Some (Some u)) (sym same.0))
          | inr old ↦ set_elsewhere times router (Some time) n (other n t old) ∙ kept.only n t old
        ];
      }
    where
      other : (n t : ℕ) → Has order t n → router ≡ n → ⊥
      other n t has same =
          none_some t (same_in no (Some t) (sym (subst (λ r. slice_get times r ≡ Some None) same here) ∙ kept.only n t has))

-- the first of all
pub first_there : (times : List (Option ℕ)) (order : Agenda) → AreTimes times order → (o : Option (ℕ × ℕ)) → IfSome o (λ f. IsFirst order f.0 f.1)
    → IfSome o (λ f. slice_get times f.1 ≡ Some (Some f.0))
first_there times order kept None e = e
first_there times order kept (Some f) e = kept.only f.1 f.0 e.0

pub first_least : (times : List (Option ℕ)) (order : Agenda) → AreTimes times order → (o : Option (ℕ × ℕ)) → IfSome o (λ f. IsFirst order f.0 f.1)
    → IfSome o (λ f. (router time : ℕ) → slice_get times router ≡ Some (Some time) → IsUpTo f.0 f.1 time router)
first_least times order kept None e = e
first_least times order kept (Some f) e = λ router time here. e.1 time router (kept.listed router time here)
