-- Which pairs are picked, and which are left.
use Rattle.std.proofs.Common.{◌≡◌, ℕ, ◌+◌, ◌%◌, ◌<◌, ◌≤◌, ◌==◌, Bool, true, false, cond, not, ◌||◌, List, [], ◌∷◌, ◌++◌, map, take, filter, filter_map, length, get_or, set, Option, Some, slice_get, option_map, refl, sym, ◌∙◌, ap, ap₂, arith}
use Rattle.std.specs.List.{enumerate_from, cons_option}
use Rattle.std.proofs.lemmas.Bool.{false≢true}
use Rattle.std.proofs.lemmas.Bool.Decides.{nat_tests}
use Rattle.std.proofs.lemmas.List.{map-append, take_more, nil_from_length, get_or-set_same, get_or-set_other}
use Rattle.std.proofs.lemmas.List.Elements.{filter-append, filter_map-append}
use Rattle.std.proofs.lemmas.List.Folds.{list_any_more}
use Rattle.ripng_world.specs.AskedRounds.{delivery, is_picked, other_deliveries, picked_deliveries}
use Rattle.ripng_world.specs.World.{Event}
use Rattle.ripng_world.specs.declared.lab.delivering.Pair.{Pair}
use Rattle.ripng_world.proofs.Among.{enumerate_more}

one_left : (b : Bool) (i : ℕ) (x : Pair) (rest : ℕ) → map (λ (p : ℕ × Pair). delivery p.1 rest) (cond b ((i, x) ∷ []) []) ≡ cond b (delivery x rest ∷ []) []
one_left true i x rest = refl
one_left false i x rest = refl

pub others_more : (picked : ℕ → Bool) (pairs : List Pair) (rest i : ℕ) (x : Pair) → i < length pairs → x ≡ get_or pairs i x
    → other_deliveries picked (take (i + 1) pairs) rest ≡ other_deliveries picked (take i pairs) rest ++ cond (not (picked i)) (delivery x rest ∷ []) []
others_more picked pairs rest i x here is =
    let none : 0 + i ≡ i = omega arith in
    let f : ℕ × Pair → Event = λ p. delivery p.1 rest in
    let left : ℕ × Pair → Bool = λ p. not (picked p.0) in
    let front = enumerate_from 0 (take i pairs) in
    ap (λ (ns : List (ℕ × Pair)). map f (filter left ns)) (enumerate_more 0 pairs i x here ∙ ap₂ (λ (m : ℕ) (y : Pair). front ++ (m, y) ∷ []) none (sym is))
    ∙ ap (map f) (filter-append left front ((i, x) ∷ []))
    ∙ map-append f (filter left front) (filter left ((i, x) ∷ []))
    ∙ ap (λ (es : List Event). map f (filter left front) ++ es) (one_left (not (picked i)) i x rest)

left_same : (f g : ℕ → Bool) (n : ℕ) (pairs : List Pair) → ((k : ℕ) → n ≤ k → k < n + length pairs → f k ≡ g k)
    → filter (λ p. not (f p.0)) (enumerate_from n pairs) ≡ filter (λ p. not (g p.0)) (enumerate_from n pairs)
left_same f g n [] same = refl
left_same f g n (x ∷ pairs) same =
    ap₂ (λ (b : Bool) (r : List (ℕ × Pair)). cond (not b) ((n, x) ∷ r) r) (same n (omega arith) (omega arith))
    (left_same f g (n + 1) pairs (λ k low high. same k (omega (arith, low)) (omega (arith, high))))

pub others_same : (f g : ℕ → Bool) (pairs : List Pair) (rest : ℕ) → ((k : ℕ) → k < length pairs → f k ≡ g k) → other_deliveries f pairs rest ≡ other_deliveries g pairs rest
others_same f g pairs rest same = ap (map (λ (p : ℕ × Pair). delivery p.1 rest)) (left_same f g 0 pairs (λ k low high. same k (omega (arith, high))))

pub picked_more : (pairs : List Pair) (picks : List (ℕ × ℕ)) (i : ℕ) (x : ℕ × ℕ) (p : Pair) → i < length picks → x ≡ get_or picks i x → slice_get pairs (x.0 % length pairs) ≡ Some p
    → picked_deliveries pairs (take (i + 1) picks) ≡ picked_deliveries pairs (take i picks) ++ delivery p x.1 ∷ []
picked_more pairs picks i x p here is found =
    let h : ℕ × ℕ → Option Event = λ q. option_map (λ pair. delivery pair q.1) (slice_get pairs (q.0 % length pairs)) in
    ap (filter_map h) (take_more picks i x here ∙ ap (λ (y : ℕ × ℕ). take i picks ++ y ∷ []) (sym is))
    ∙ filter_map-append h (take i picks) (x ∷ [])
    ∙ ap (λ (o : Option Pair). filter_map h (take i picks) ++ cons_option (option_map (λ pair. delivery pair x.1) o) []) found

none_at_all : (picks : List (ℕ × ℕ)) → picked_deliveries [] picks ≡ []
none_at_all [] = refl
none_at_all (x ∷ picks) = none_at_all picks

pub none_picked : (pairs : List Pair) (picks : List (ℕ × ℕ)) → length pairs ≡ 0 → picked_deliveries pairs picks ≡ []
none_picked pairs picks none = ap (λ (ps : List Pair). picked_deliveries ps picks) (nil_from_length pairs none) ∙ none_at_all picks

or_true : (b : Bool) → (b || true) ≡ true
or_true true = refl
or_true false = refl

or_false : (b : Bool) → (b || false) ≡ b
or_false true = refl
or_false false = refl

same_number : (a b : ℕ) → a ≡ b → (a == b) ≡ true
same_number a b e = grind (arith, nat_tests)

number_same : (a b : ℕ) → (a == b) ≡ true → a ≡ b
number_same a b e = grind (arith, nat_tests)

set_flag : (flags : List Bool) (j k : ℕ) → j < length flags → get_or (set flags j true) k false ≡ (get_or flags k false || (j == k))
set_flag flags j k lt = by_same (j == k) refl
  where
    by_same : (b : Bool) → (j == k) ≡ b → get_or (set flags j true) k false ≡ (get_or flags k false || (j == k))
    by_same true e =
        ap (λ n. get_or (set flags j true) n false) (sym (number_same j k e)) ∙ get_or-set_same flags j true false lt
        ∙ sym (or_true (get_or flags k false)) ∙ ap (λ b. get_or flags k false || b) (sym e)
    by_same false e =
        get_or-set_other flags j k true false (λ s. false≢true (sym e ∙ same_number j k (sym s)))
        ∙ sym (or_false (get_or flags k false)) ∙ ap (λ b. get_or flags k false || b) (sym e)

pub flag_more : (flags : List Bool) (n : ℕ) (picks : List (ℕ × ℕ)) (i : ℕ) (x : ℕ × ℕ) (k : ℕ) → i < length picks → x ≡ get_or picks i x → x.0 % n < length flags
    → get_or flags k false ≡ is_picked n (take i picks) k → get_or (set flags (x.0 % n) true) k false ≡ is_picked n (take (i + 1) picks) k
flag_more flags n picks i x k here is lt before =
    set_flag flags (x.0 % n) k lt
    ∙ ap₂ (λ (b : Bool) (y : ℕ × ℕ). b || (y.0 % n == k)) before is
    ∙ sym (list_any_more (λ (q : ℕ × ℕ). q.0 % n == k) picks i x here)
