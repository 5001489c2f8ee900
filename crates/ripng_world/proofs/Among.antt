-- What stands in lists that were made from others, and numbered lists.
use Rattle.std.proofs.Common.{◌≡◌, inl, inr, ℕ, zero, suc, ◌+◌, ◌-◌, ◌<◌, ◌≤◌, Bool, true, false, cond, nat_eq, List, [], ◌∷◌, ◌++◌, map, take, drop, filter, filter_map, flat_map, length, get_or, Option, Some, None, slice_get, Contains, All, refl, ap, ap₂, sym, subst, ◌∙◌, arith, append_assoc}
use Rattle.std.specs.List.{IsDistinct, AllByRecursion, cons_option, enumerate_from, range_with_len}
use Rattle.std.proofs.lemmas.Bool.Decides.{nat_tests}
use Rattle.std.proofs.lemmas.List.{length-drop, length-take-le, get_or-drop, take_more, flat_map_more}
use Rattle.std.proofs.lemmas.Option.{slice_get-get_or}
use Rattle.route_table.proofs.TableLaws.{Some-same, None-Some}
use Rattle.ripng_world.proofs.Members.{At, split_at}

pub contains_at : {X : Type 0} (xs : List X) (x : X) → At xs x → Contains xs x
contains_at [] x a = absurd (None-Some x a.1)
contains_at (y ∷ ys) x a = by_place a.0 a.1 (λ i e. contains_at ys x (i, e))
  where
    by_place : (i : ℕ) → slice_get (y ∷ ys) i ≡ Some x → ((j : ℕ) → slice_get ys j ≡ Some x → Contains ys x) → Contains (y ∷ ys) x
    by_place zero e later = (0, omega arith, Some-same y x e)
    by_place (suc i) e later = let l = later i e in (suc l.0, omega (arith, l.1), l.2)

pub all_at : {X : Type 0} (P : X → Type 0) (xs : List X) → ((x : X) → At xs x → P x) → All P xs
all_at P xs each = λ k d h. each (get_or xs k d) (k, slice_get-get_or xs k d h)

pub in_map : {X Y : Type 0} (f : X → Y) (xs : List X) (y : Y) → At (map f xs) y → (x : X) × At xs x × (f x ≡ y)
in_map f [] y a = absurd (None-Some y a.1)
in_map f (x ∷ xs) y a = by_place a.0 a.1 (λ i e. in_map f xs y (i, e))
  where
    by_place : (i : ℕ) → slice_get (f x ∷ map f xs) i ≡ Some y → ((j : ℕ) → slice_get (map f xs) j ≡ Some y → (z : _) × At xs z × (f z ≡ y)) → (z : _) × At (x ∷ xs) z × (f z ≡ y)
    by_place zero e later = (x, (0, refl), Some-same (f x) y e)
    by_place (suc i) e later = let l = later i e in (l.0, (suc l.1.0, l.1.1), l.2)

pub in_filter : {X : Type 0} (test : X → Bool) (xs : List X) (x : X) → At (filter test xs) x → At xs x × (test x ≡ true)
in_filter test [] x a = absurd (None-Some x a.1)
in_filter test (y ∷ ys) x a = by_test (test y) refl a (λ b. in_filter test ys x b)
  where
    by_place : test y ≡ true → (i : ℕ) → slice_get (y ∷ filter test ys) i ≡ Some x → (At (filter test ys) x → At ys x × (test x ≡ true)) → At (y ∷ ys) x × (test x ≡ true)
    by_place is zero e later = ((0, e), subst (λ z. test z ≡ true) (Some-same y x e) is)
    by_place is (suc i) e later = let l = later (i, e) in ((suc l.0.0, l.0.1), l.1)

    by_test : (b : Bool) → test y ≡ b → At (cond b (y ∷ filter test ys) (filter test ys)) x → (At (filter test ys) x → At ys x × (test x ≡ true)) → At (y ∷ ys) x × (test x ≡ true)
    by_test true is b later = by_place is b.0 b.1 later
    by_test false is b later = let l = later b in ((suc l.0.0, l.0.1), l.1)

pub to_filter : {X : Type 0} (test : X → Bool) (xs : List X) (x : X) → At xs x → test x ≡ true → At (filter test xs) x
to_filter test [] x a is = absurd (None-Some x a.1)
to_filter test (y ∷ ys) x a is = by_place a.0 a.1 (λ i e. to_filter test ys x (i, e) is)
  where
    by_test : (b : Bool) → At (filter test ys) x → At (cond b (y ∷ filter test ys) (filter test ys)) x
    by_test true b = (suc b.0, b.1)
    by_test false b = b

    by_place : (i : ℕ) → slice_get (y ∷ ys) i ≡ Some x → ((j : ℕ) → slice_get ys j ≡ Some x → At (filter test ys) x) → At (cond (test y) (y ∷ filter test ys) (filter test ys)) x
    by_place zero e later = subst (λ b. At (cond b (y ∷ filter test ys) (filter test ys)) x) (sym (ap test (Some-same y x e) ∙ is)) (0, e)
    by_place (suc i) e later = by_test (test y) (later i e)

pub in_flat : {X Y : Type 0} (f : X → List Y) (xs : List X) (y : Y) → At (flat_map f xs) y → (x : X) × At xs x × At (f x) y
in_flat f [] y a = absurd (None-Some y a.1)
in_flat f (x ∷ xs) y a =
    elim (split_at (f x) (flat_map f xs) a.0 y a.1) [
      | inl b ↦ (x, (0, refl), b)
      | inr b ↦ let r = in_flat f xs y b in (r.0, (suc r.1.0, r.1.1), r.2)
    ]

pub in_filter_map : {X Y : Type 0} (h : X → Option Y) (xs : List X) (y : Y) → At (filter_map h xs) y → (x : X) × At xs x × (h x ≡ Some y)
in_filter_map h [] y a = absurd (None-Some y a.1)
in_filter_map h (x ∷ xs) y a = by_found (h x) refl a (λ b. in_filter_map h xs y b)
  where
    by_place : (z : _) → h x ≡ Some z → (i : ℕ) → slice_get (z ∷ filter_map h xs) i ≡ Some y → (At (filter_map h xs) y → (v : _) × At xs v × (h v ≡ Some y)) → (v : _) × At (x ∷ xs) v × (h v ≡ Some y)
    by_place z is zero e later = (x, (0, refl), is ∙ e)
    by_place z is (suc i) e later = let l = later (i, e) in (l.0, (suc l.1.0, l.1.1), l.2)

    by_found : (o : Option _) → h x ≡ o → At (cons_option o (filter_map h xs)) y → (At (filter_map h xs) y → (v : _) × At xs v × (h v ≡ Some y)) → (v : _) × At (x ∷ xs) v × (h v ≡ Some y)
    by_found None is b later = let l = later b in (l.0, (suc l.1.0, l.1.1), l.2)
    by_found (Some z) is b later = by_place z is b.0 b.1 later

pub to_filter_map : {X Y : Type 0} (h : X → Option Y) (xs : List X) (x : X) (y : Y) → At xs x → h x ≡ Some y → At (filter_map h xs) y
to_filter_map h [] x y a is = absurd (None-Some x a.1)
to_filter_map h (z ∷ xs) x y a is = by_place a.0 a.1 (λ i e. to_filter_map h xs x y (i, e) is)
  where
    by_found : (o : Option _) → At (filter_map h xs) y → At (cons_option o (filter_map h xs)) y
    by_found None b = b
    by_found (Some w) b = (suc b.0, b.1)

    by_place : (i : ℕ) → slice_get (z ∷ xs) i ≡ Some x → ((j : ℕ) → slice_get xs j ≡ Some x → At (filter_map h xs) y) → At (cons_option (h z) (filter_map h xs)) y
    by_place zero e later = subst (λ o. At (cons_option o (filter_map h xs)) y) (sym (ap h (Some-same z x e) ∙ is)) (0, refl)
    by_place (suc i) e later = by_found (h z) (later i e)

pub at_take : {X : Type 0} (n : ℕ) (xs : List X) (x : X) → At (take n xs) x → At xs x
at_take zero xs x a = absurd (None-Some x a.1)
at_take (suc n) [] x a = absurd (None-Some x a.1)
at_take (suc n) (y ∷ ys) x a = by_place a.0 a.1 (λ i e. at_take n ys x (i, e))
  where
    by_place : (i : ℕ) → slice_get (y ∷ take n ys) i ≡ Some x → ((j : ℕ) → slice_get (take n ys) j ≡ Some x → At ys x) → At (y ∷ ys) x
    by_place zero e later = (0, e)
    by_place (suc i) e later = let l = later i e in (suc l.0, l.1)

pub get_drop : {X : Type 0} (n : ℕ) (xs : List X) (i : ℕ) → slice_get (drop n xs) i ≡ slice_get xs (n + i)
get_drop zero xs i = ap (slice_get xs) (omega arith)
get_drop (suc n) [] i = refl
get_drop (suc n) (x ∷ xs) i = get_drop n xs i ∙ ap (slice_get (x ∷ xs)) (same n i)
  where
    same : (a b : ℕ) → suc (a + b) ≡ suc a + b
    same a b = omega arith

pub get_within : {X : Type 0} (xs : List X) (i : ℕ) (x : X) → slice_get xs i ≡ Some x → i < length xs
get_within [] i x e = absurd (None-Some x e)
get_within (y ∷ xs) zero x e = omega arith
get_within (y ∷ xs) (suc i) x e = let h = get_within xs i x e in omega (arith, h)

-- ---- numbered lists

pub in_enumerated : {X : Type 0} (n : ℕ) (xs : List X) (t : ℕ × X) → At (enumerate_from n xs) t → (i : ℕ) × (t.0 ≡ n + i) × (slice_get xs i ≡ Some t.1)
in_enumerated n [] t a = absurd (None-Some t a.1)
in_enumerated n (x ∷ xs) t a = by_place a.0 a.1 (λ i e. in_enumerated (n + 1) xs t (i, e))
  where
    none : n ≡ n + 0
    none = omega arith

    more : (i : ℕ) → n + 1 + i ≡ n + suc i
    more i = omega arith

    by_place : (i : ℕ) → slice_get ((n, x) ∷ enumerate_from (n + 1) xs) i ≡ Some t → ((j : ℕ) → slice_get (enumerate_from (n + 1) xs) j ≡ Some t → (k : ℕ) × (t.0 ≡ n + 1 + k) × (slice_get xs k ≡ Some t.1))
        → (k : ℕ) × (t.0 ≡ n + k) × (slice_get (x ∷ xs) k ≡ Some t.1)
    by_place zero e later = let s = Some-same (n, x) t e in (0, sym (ap (λ p. p.0) s) ∙ none, ap (λ p. Some p.1) s)
    by_place (suc i) e later = let l = later i e in (suc l.0, l.1 ∙ more l.0, l.2)

pub to_enumerated : {X : Type 0} (n : ℕ) (xs : List X) (i : ℕ) (x : X) → slice_get xs i ≡ Some x → At (enumerate_from n xs) (n + i, x)
to_enumerated n [] i x e = absurd (None-Some x e)
to_enumerated n (y ∷ xs) zero x e = let none : n ≡ n + 0 = omega arith in (0, ap₂ (λ m z. Some (m, z)) none (Some-same y x e))
to_enumerated n (y ∷ xs) (suc i) x e =
    let l = to_enumerated (n + 1) xs i x e in
    let more : n + 1 + i ≡ n + suc i = omega arith in
    (suc l.0, l.1 ∙ ap (λ m. Some (m, x)) more)

pub to_range : (a n i : ℕ) → i < n → At (range_with_len a n) (a + i)
to_range a zero i h = absurd (omega arith)
to_range a (suc n) zero h = let none : a ≡ a + 0 = omega arith in (0, ap Some none)
to_range a (suc n) (suc i) h =
    let l = to_range (a + 1) n i (omega arith) in
    let more : a + 1 + i ≡ a + suc i = omega arith in
    (suc l.0, l.1 ∙ ap Some more)

pub to_numbered : {X : Type 0} (xs : List X) (i : ℕ) (x : X) → slice_get xs i ≡ Some x → At (enumerate_from 0 xs) (i, x)
to_numbered xs i x e = let none : 0 + i ≡ i = omega arith in subst (λ m. At (enumerate_from 0 xs) (m, x)) none (to_enumerated 0 xs i x e)

pub to_below : (n i : ℕ) → i < n → At (range_with_len 0 n) i
to_below n i h = let none : 0 + i ≡ i = omega arith in subst (At (range_with_len 0 n)) none (to_range 0 n i h)

unlike : (x a : ℕ) → x < a → nat_eq x a ≡ false
unlike x a h = grind (arith, nat_tests)

above : (x a n : ℕ) → x < a → AllByRecursion (λ y. nat_eq x y ≡ false) (range_with_len a n)
above x a zero h = tt
above x a (suc n) h = (unlike x a h, above x (a + 1) n (omega arith))

pub range_distinct : (a n : ℕ) → IsDistinct nat_eq (range_with_len a n)
unfolding IsDistinct
range_distinct a zero = tt
range_distinct a (suc n) = (above a (a + 1) n (omega arith), range_distinct (a + 1) n)

pub enumerate_append : {X : Type 0} (n : ℕ) (xs ys : List X) → enumerate_from n (xs ++ ys) ≡ enumerate_from n xs ++ enumerate_from (n + length xs) ys
enumerate_append n [] ys = let none : n ≡ n + 0 = omega arith in ap (λ m. enumerate_from m ys) none
enumerate_append n (x ∷ xs) ys =
    let more : n + 1 + length xs ≡ n + suc (length xs) = omega arith in
    ap (λ zs. (n, x) ∷ zs) (enumerate_append (n + 1) xs ys ∙ ap (λ m. enumerate_from (n + 1) xs ++ enumerate_from m ys) more)

pub enumerate_more : {X : Type 0} (n : ℕ) (xs : List X) (i : ℕ) (d : X) → i < length xs
    → enumerate_from n (take (i + 1) xs) ≡ enumerate_from n (take i xs) ++ (n + i, get_or xs i d) ∷ []
enumerate_more n xs i d h =
    let long : length (take i xs) ≡ i = length-take-le i xs (omega arith) in
    ap (enumerate_from n) (take_more xs i d h) ∙ enumerate_append n (take i xs) (get_or xs i d ∷ [])
    ∙ ap (λ m. enumerate_from n (take i xs) ++ (n + m, get_or xs i d) ∷ []) long

-- one more of the items from a place on
pub numbered_more : {X : Type 0} (xs : List X) (first n : ℕ) (x : X) → first ≤ n → n < length xs → x ≡ get_or xs n x
    → enumerate_from first (take (n + 1 - first) (drop first xs)) ≡ enumerate_from first (take (n - first) (drop first xs)) ++ (n, x) ∷ []
numbered_more xs first n x low high is =
    let left : n - first < length (drop first xs) = omega (arith, low, high, length-drop first xs) in
    let next : n + 1 - first ≡ n - first + 1 = omega (arith, low) in
    let place : first + (n - first) ≡ n = omega (arith, low) in
    ap (λ (m : ℕ). enumerate_from first (take m (drop first xs))) next
    ∙ enumerate_more first (drop first xs) (n - first) x left
    ∙ ap₂ (λ (m : ℕ) (y : _). enumerate_from first (take (n - first) (drop first xs)) ++ (m, y) ∷ []) place
    (get_or-drop first xs (n - first) x ∙ ap (λ (m : ℕ). get_or xs m x) place ∙ sym is)

-- ---- lists that grow

pub grows : {X : Type 0} (base part more next xs ys : List X) → xs ≡ base ++ part → ys ≡ xs ++ more → next ≡ part ++ more → ys ≡ base ++ next
grows base part more next xs ys was now is = now ∙ ap (λ z. z ++ more) was ∙ append_assoc base part more ∙ ap (λ z. base ++ z) (sym is)

pub flat_grows : {X Y : Type 0} (f : X → List Y) (part next : List X) (x : X) (xs ys : List Y) → xs ≡ flat_map f part → ys ≡ xs ++ f x → next ≡ part ++ x ∷ [] → ys ≡ flat_map f next
flat_grows f part next x xs ys was now is = now ∙ ap (λ z. z ++ f x) was ∙ flat_map_more f [] part x ∙ ap (flat_map f) (sym is)
