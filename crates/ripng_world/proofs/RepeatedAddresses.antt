-- An address that stands twice in a list is, once the list is sorted, next to itself.
use Rattle.std.proofs.Common.{◌≡◌, ℕ, zero, suc, ◌+◌, ◌<◌, ◌≤◌, ◌==◌, ◌||◌, Bool, true, false, cond, List, [], ◌∷◌, take, length, get_or, Some, None, ◌⊎◌, inl, inr, ⊎_elim, refl, ap, sym, subst, ◌∙◌, arith}
use Rattle.std.specs.List.{list_any, sum_by}
use Rattle.std.specs.List.Sorted.{IsPermutation, IsSorted}
use Rattle.std.specs.Ordering.{nat_cmp}
use Rattle.std.proofs.lemmas.Bool.Decides.{nat_tests}
use Rattle.std.proofs.lemmas.List.{take_more, get_or_default}
use Rattle.std.proofs.lemmas.List.Sums.{sum_by-cons, sum_by_push, sum_by-take-drop}
use Rattle.std.proofs.lemmas.List.Sorted.{IsNonDecreasingBy-from_sort, sum_by-IsPermutation}
use Rattle.ripng_wire.specs.Wire.{first_reason}
use Rattle.router_core.specs.Config.{reasons_of_each}
use Rattle.ripng_world.specs.NetworkFaults.{address_reasons}
use Rattle.ripng_world.specs.declared.network.NetRefused.TheVariants.{AddressSharedInNetwork}
use Rattle.router_core.proofs.ReasonsOfEach.{PassesBelow, take_all, none_below, passes_more, passes_all, fails_here}

-- one, if the addresses are the same
abbrev same : ℕ → ℕ → ℕ
same a x = cond (x == a) 1 0

-- how often an address stands in a list
abbrev count : ℕ → List ℕ → ℕ
count a xs = sum_by (same a) xs

same_itself : (a x : ℕ) → x ≡ a → same a x ≡ 1
same_itself a x e = grind (arith, nat_tests, e)

neither : (a b : Bool) → (a || b) ≡ false → (a ≡ false) × (b ≡ false)
neither true b e = absurd (cc)
neither false b e = (refl, e)

-- ---- how a test and a place count

unseen : (a : ℕ) (xs : List ℕ) → list_any (λ b. b == a) xs ≡ false → count a xs ≡ 0
unseen a [] none = refl
unseen a (x ∷ xs) none =
    let both = neither (x == a) (list_any (λ b. b == a) xs) none in
    let here : same a x ≡ 0 = ap (λ b. cond b 1 0) both.0 in
    omega (arith, sum_by-cons (same a) x xs, here, unseen a xs both.1)

seen : (a : ℕ) (xs : List ℕ) → list_any (λ b. b == a) xs ≡ true → 1 ≤ count a xs
seen a [] some = absurd (cc)
seen a (x ∷ xs) some = by_test (x == a) refl some (seen a xs)
  where
    by_test : (b : Bool) → (x == a) ≡ b → (b || list_any (λ y. y == a) xs) ≡ true → (list_any (λ y. y == a) xs ≡ true → 1 ≤ count a xs) → 1 ≤ count a (x ∷ xs)
    by_test true is found rest = let here : same a x ≡ 1 = ap (λ b. cond b 1 0) is in omega (arith, sum_by-cons (same a) x xs, here)
    by_test false is found rest = omega (arith, sum_by-cons (same a) x xs, rest found)

counted : (a : ℕ) (xs : List ℕ) (i : ℕ) → i < length xs → count a (take (i + 1) xs) ≡ count a (take i xs) + same a (get_or xs i 0)
counted a xs i here = ap (count a) (take_more xs i 0 here) ∙ sum_by_push (same a) (take i xs) (get_or xs i 0)

part : (a : ℕ) (xs : List ℕ) (i : ℕ) → count a (take i xs) ≤ count a xs
part a xs i = omega (arith, sum_by-take-drop (same a) xs i)

-- ---- the tests find an address that stands twice

module _ (xs : List ℕ) where
  record IsFound : Type 0 where
    pub address : ℕ
    pub twice : 2 ≤ count address xs
    pub fails : first_reason (reasons_of_each address_reasons xs) ≡ Some AddressSharedInNetwork

  record AreOnce (n : ℕ) : Type 0 where
    pub once : (a : ℕ) → count a (take n xs) ≤ 1
    pub pass : PassesBelow address_reasons xs n

  module _ (n : ℕ) (here : n < length xs) (below : AreOnce n) where
    abbrev x : ℕ
    x = get_or xs n 0

    itself : x ≡ get_or xs n x
    itself = get_or_default xs n 0 x here

    once_more : list_any (λ b. b == x) (take n xs) ≡ false → (a : ℕ) (b : Bool) → (x == a) ≡ b → count a (take (n + 1) xs) ≤ 1
    once_more new a true is =
        let alike : x ≡ a = grind (arith, nat_tests, is) in
        let none : count a (take n xs) ≡ 0 = ap (λ y. count y (take n xs)) (sym alike) ∙ unseen x (take n xs) new in
        let one : same a x ≡ 1 = ap (λ b. cond b 1 0) is in
        omega (arith, counted a xs n here, none, one)
    once_more new a false is =
        let none : same a x ≡ 0 = ap (λ b. cond b 1 0) is in
        omega (arith, counted a xs n here, none, below.once a)

    one_more : (b : Bool) → list_any (λ b. b == x) (take n xs) ≡ b → AreOnce (n + 1) ⊎ IsFound
    one_more true is =
        inr (record {
          address = x;
          twice = omega (arith, counted x xs n here, seen x (take n xs) is, same_itself x x refl, part x xs (n + 1));
          fails = fails_here address_reasons xs n x AddressSharedInNetwork here itself below.pass (ap (λ b. first_reason ((b, AddressSharedInNetwork) ∷ [])) is);
        })
    one_more false is =
        inl (record {
          once = λ a. once_more is a (x == a) refl;
          pass = passes_more address_reasons xs n x here itself below.pass (ap (λ b. first_reason ((b, AddressSharedInNetwork) ∷ [])) is);
        })

  so_far : (n : ℕ) → n ≤ length xs → AreOnce n ⊎ IsFound
  so_far zero within = inl (record { once = λ a. omega arith; pass = none_below address_reasons xs })
  so_far (suc n) within =
      let next : n + 1 ≡ suc n = omega arith in
      ⊎_elim
      (λ below. subst (λ m. AreOnce m ⊎ IsFound) next (one_more n (omega (arith, within)) below (list_any (λ b. b == get_or xs n 0) (take n xs)) refl))
      (λ found. inr found)
      (so_far n (omega (arith, within)))

-- ---- neighbors in a sorted list

above : (a : ℕ) (ys : List ℕ) → ((k : ℕ) → k < length ys → a < get_or ys k 0) → count a ys ≡ 0
above a [] up = refl
above a (y ∷ ys) up =
    let here : same a y ≡ 0 = grind (arith, nat_tests, up 0 (omega arith)) in
    omega (arith, sum_by-cons (same a) y ys, here, above a ys (λ k within. up (suc k) (omega (arith, within))))

abbrev Rises : List ℕ → Type 0
Rises ys = (k : ℕ) → k + 1 < length ys → get_or ys k 0 < get_or ys (k + 1) 0

first_least : (y : ℕ) (ys : List ℕ) → Rises (y ∷ ys) → (k : ℕ) → k < length ys → y < get_or ys k 0
first_least y ys up zero within = up 0 (omega (arith, within))
first_least y ys up (suc k) within =
    let next : suc k + 1 ≡ suc (suc k) = omega arith in
    let step : get_or (y ∷ ys) (suc k) 0 < get_or (y ∷ ys) (suc (suc k)) 0 = subst (λ m. get_or (y ∷ ys) (suc k) 0 < get_or (y ∷ ys) m 0) next (up (suc k) (omega (arith, within))) in
    omega (arith, step, first_least y ys up k (omega (arith, within)))

rest_rises : (y : ℕ) (ys : List ℕ) → Rises (y ∷ ys) → Rises ys
rest_rises y ys up k within =
    let next : suc k + 1 ≡ suc (k + 1) = omega arith in
    subst (λ m. get_or (y ∷ ys) (suc k) 0 < get_or (y ∷ ys) m 0) next (up (suc k) (omega (arith, within)))

once_in : (ys : List ℕ) → Rises ys → (a : ℕ) → count a ys ≤ 1
once_in [] up a = omega arith
once_in (y ∷ ys) up a = by_test (y == a) refl (once_in ys (rest_rises y ys up) a)
  where
    by_test : (b : Bool) → (y == a) ≡ b → count a ys ≤ 1 → count a (y ∷ ys) ≤ 1
    by_test true is rest =
        let alike : y ≡ a = grind (arith, nat_tests, is) in
        let one : same a y ≡ 1 = ap (λ b. cond b 1 0) is in
        let none : count a ys ≡ 0 = ap (λ x. count x ys) (sym alike) ∙ above y ys (first_least y ys up) in
        omega (arith, sum_by-cons (same a) y ys, one, none)
    by_test false is rest =
        let none : same a y ≡ 0 = ap (λ b. cond b 1 0) is in
        omega (arith, sum_by-cons (same a) y ys, none, rest)

twice_in : (ys : List ℕ) (k : ℕ) → k + 1 < length ys → get_or ys k 0 ≡ get_or ys (k + 1) 0 → 2 ≤ count (get_or ys k 0) ys
twice_in ys k within alike =
    let a : ℕ = get_or ys k 0 in
    omega (arith, counted a ys k (omega (arith, within)), same_itself a (get_or ys k 0) refl, counted a ys (k + 1) within, same_itself a (get_or ys (k + 1) 0) (sym alike), part a ys (k + 1 + 1))

-- ---- what neighbors say of the list as it was

module _ (xs ys : List ℕ) (moved : IsPermutation xs ys) (sorted : IsSorted nat_cmp ys) where
  decided : AreOnce xs (length xs) ⊎ IsFound xs
  decided = so_far xs (length xs) (omega arith)

  pub none_twice : ((k : ℕ) (d : ℕ) → k + 1 < length ys → get_or ys k d < get_or ys (k + 1) d) → None ≡ first_reason (reasons_of_each address_reasons xs)
  none_twice up =
      ⊎_elim
      (λ all. sym (passes_all address_reasons xs (length xs) refl all.pass))
      (λ found. absurd (omega (arith, found.twice, sum_by-IsPermutation (same found.address) xs ys moved, once_in ys (λ k within. up k 0 within) found.address)))
      decided

  pub one_twice : (k : ℕ) → k + 1 < length ys → ((d : ℕ) → get_or ys (k + 1) d ≤ get_or ys k d) → Some AddressSharedInNetwork ≡ first_reason (reasons_of_each address_reasons xs)
  one_twice k within not_above =
      let a : ℕ = get_or ys k 0 in
      let up : get_or ys k 0 ≤ get_or ys (k + 1) 0 = IsNonDecreasingBy-from_sort (λ x. x) ys sorted k (k + 1) 0 (omega arith) within in
      let alike : get_or ys k 0 ≡ get_or ys (k + 1) 0 = omega (arith, up, not_above 0) in
      ⊎_elim
      (λ all. absurd (omega (arith, all.once a, ap (count a) (take_all xs (length xs) refl), sum_by-IsPermutation (same a) xs ys moved, twice_in ys k within alike)))
      (λ found. sym found.fails)
      decided
