-- The first failing reason of the members of a list, each tested behind the earlier ones.
use Rattle.std.proofs.Common.{◌≡◌, ℕ, zero, suc, ◌+◌, ◌<◌, Bool, true, false, cond, List, [], ◌∷◌, ◌++◌, take, drop, length, get_or, Some, None, refl, ap, sym, subst, ◌∙◌, arith}
use Rattle.std.specs.List.{enumerate_from, flat_map}
use Rattle.std.proofs.lemmas.Grind.{flat_map-append}
use Rattle.std.proofs.lemmas.List.{take_more, take-append-drop}
use Rattle.std.proofs.lemmas.List.FromFn.{get_or-enumerate_from, length-enumerate_from}
use Rattle.ripng_wire.specs.Wire.{first_reason}
use Rattle.router_core.specs.Config.{reasons_of_each}

module _ {F : Type 0} where
  some_none : (f : F) → Some f ≡ None → ⊥
  some_none f e = cc

  -- behind reasons that pass the rest decides
  pub first_reason-append : (ts us : List (Bool × F)) → first_reason ts ≡ None → first_reason (ts ++ us) ≡ first_reason us
  first_reason-append [] us e = refl
  first_reason-append (t ∷ ts) us e = by_test t.0 refl e (first_reason-append ts us)
    where
      by_test : (b : Bool) → t.0 ≡ b → cond b (Some t.1) (first_reason ts) ≡ None → (first_reason ts ≡ None → first_reason (ts ++ us) ≡ first_reason us)
          → cond t.0 (Some t.1) (first_reason (ts ++ us)) ≡ first_reason us
      by_test true is none rest = absurd (some_none t.1 none)
      by_test false is none rest = ap (λ b. cond b (Some t.1) (first_reason (ts ++ us))) is ∙ rest none

  -- what fails among the first reasons fails first
  pub first_reason-found : (ts us : List (Bool × F)) (f : F) → first_reason ts ≡ Some f → first_reason (ts ++ us) ≡ Some f
  first_reason-found [] us f e = absurd (some_none f (sym e))
  first_reason-found (t ∷ ts) us f e = by_test t.0 refl e (first_reason-found ts us f)
    where
      by_test : (b : Bool) → t.0 ≡ b → cond b (Some t.1) (first_reason ts) ≡ Some f → (first_reason ts ≡ Some f → first_reason (ts ++ us) ≡ Some f)
          → cond t.0 (Some t.1) (first_reason (ts ++ us)) ≡ Some f
      by_test true is found rest = ap (λ b. cond b (Some t.1) (first_reason (ts ++ us))) is ∙ found
      by_test false is found rest = ap (λ b. cond b (Some t.1) (first_reason (ts ++ us))) is ∙ rest found

-- a list as long as its beginning is that beginning
pub take_all : {A : Type 0} (es : List A) (n : ℕ) → n ≡ length es → take n es ≡ es
take_all [] zero e = refl
take_all [] (suc n) e = refl
take_all (x ∷ es) zero e = absurd (omega arith)
take_all (x ∷ es) (suc n) e = ap (λ l. x ∷ l) (take_all es n (omega arith))

module _ {X F : Type 0} (reasons : List X → X → List (Bool × F)) (xs : List X) where
  abbrev tested : ℕ × X → List (Bool × F)
  tested t = reasons (take t.0 xs) t.1

  -- the members below a place pass
  abbrev pub PassesBelow : ℕ → Type 0
  PassesBelow i = first_reason (flat_map tested (take i (enumerate_from 0 xs))) ≡ None

  -- what stands behind the members below a place
  next_tested : (i : ℕ) (d : X) → i < length xs → take (i + 1) (enumerate_from 0 xs) ≡ take i (enumerate_from 0 xs) ++ (i, get_or xs i d) ∷ []
  next_tested i d here =
      take_more (enumerate_from 0 xs) i (i, d) (subst (λ n. i < n) (sym (length-enumerate_from 0 xs)) here)
      ∙ ap (λ t. take i (enumerate_from 0 xs) ++ t ∷ []) (get_or-enumerate_from 0 xs i (i, d) here ∙ ap (λ n. (n, get_or xs i d)) (omega arith))

  tests_more : (i : ℕ) (d : X) → i < length xs
      → flat_map tested (take (i + 1) (enumerate_from 0 xs)) ≡ flat_map tested (take i (enumerate_from 0 xs)) ++ (reasons (take i xs) (get_or xs i d) ++ [])
  tests_more i d here = ap (flat_map tested) (next_tested i d here) ∙ flat_map-append tested (take i (enumerate_from 0 xs)) ((i, get_or xs i d) ∷ [])

  pub none_below : PassesBelow 0
  none_below = refl

  pub passes_more : (i : ℕ) (x : X) → i < length xs → x ≡ get_or xs i x → PassesBelow i → first_reason (reasons (take i xs) x) ≡ None → PassesBelow (i + 1)
  passes_more i x here is below passes =
      ap first_reason (tests_more i x here) ∙ first_reason-append (flat_map tested (take i (enumerate_from 0 xs))) _ below
      ∙ first_reason-append (reasons (take i xs) (get_or xs i x)) [] (ap (λ y. first_reason (reasons (take i xs) y)) (sym is) ∙ passes)

  pub passes_all : (n : ℕ) → n ≡ length xs → PassesBelow n → first_reason (reasons_of_each reasons xs) ≡ None
  passes_all n end below = ap (λ es. first_reason (flat_map tested es)) (sym (take_all (enumerate_from 0 xs) n (end ∙ sym (length-enumerate_from 0 xs)))) ∙ below

  pub fails_here : (i : ℕ) (x : X) (f : F) → i < length xs → x ≡ get_or xs i x → PassesBelow i → first_reason (reasons (take i xs) x) ≡ Some f
      → first_reason (reasons_of_each reasons xs) ≡ Some f
  fails_here i x f here is below fails =
      ap (λ es. first_reason (flat_map tested es)) (sym (take-append-drop (i + 1) (enumerate_from 0 xs)))
      ∙ ap first_reason (flat_map-append tested (take (i + 1) (enumerate_from 0 xs)) (drop (i + 1) (enumerate_from 0 xs)))
      ∙ first_reason-found (flat_map tested (take (i + 1) (enumerate_from 0 xs))) _ f
      (ap first_reason (tests_more i x here) ∙ first_reason-append (flat_map tested (take i (enumerate_from 0 xs))) _ below
      ∙ first_reason-found (reasons (take i xs) (get_or xs i x)) [] f (ap (λ y. first_reason (reasons (take i xs) y)) (sym is) ∙ fails))
