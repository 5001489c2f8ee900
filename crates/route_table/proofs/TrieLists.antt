-- Two lists of entries one after the other: what is found, put and taken out there.
use Rattle.std.proofs.Common.{◌≡◌, ◌≢◌, ◌<◌, Bool, true, false, cond, not, ◌&&◌, eqb, [], ◌∷◌, ◌++◌, length, Some, None, refl, sym, ap, subst, ◌∙◌, inl, inr, arith}
use mathlib.Core.Bool.{false≢true}
use Rattle.std.proofs.lemmas.Bool.{cases_lt}
use Rattle.std.specs.Prelude.{ℕ, ◌≤◌, All, IsTrue, IsSome}
use Rattle.std.specs.List.{find as first}
use Rattle.std.specs.Option.{option_or}
use Rattle.std.specs.Cmp.{Equal-is}
use Rattle.std.specs.declared.cmp.Ordering.{Ordering}
use Rattle.std.specs.declared.cmp.Ordering.TheVariants.{Less, Equal, Greater}
use Rattle.std.specs.Ordering.{eq_by_cmp, ordering_reverse}
use Rattle.std.specs.FinMap.Entries.{find, put, by_order}
use Rattle.std.proofs.lemmas.List.Elements.{All-head, All-tail, All-cons, filter-append}
use Rattle.std.proofs.lemmas.Bool.Decides.{nat_tests}
use Rattle.prefix6.specs.Prefix.{Prefix6, prefix_cmp}
use Rattle.prefix6.proofs.PrefixLaws.{prefixes_total, exact_prefixes}
use Rattle.route_table.specs.Route.{RouteValue}
use Rattle.route_table.specs.Place.{Entries}
use Rattle.route_table.specs.Trie.{without}

abbrev pub Entry : Type 0
Entry = Prefix6 × RouteValue

-- ---- prefixes
pub itself : (k : Prefix6) → eq_by_cmp prefix_cmp k k ≡ true
itself k = grind (arith, nat_tests)

pub less_not_self : (k : Prefix6) → prefix_cmp k k ≡ Less → ⊥
less_not_self k h = less_equal (sym h ∙ itself_equal k)
  where
    itself_equal : (z : Prefix6) → prefix_cmp z z ≡ Equal
    itself_equal z = grind (arith, nat_tests)

    less_equal : ◌≡◌ {A = Ordering} Less Equal → ⊥
    less_equal e = cc

-- the test that the code makes of two prefixes
pub same_prefix : (p k : Prefix6) → true ≡ (eqb k.addr p.addr && eqb k.len p.len) → k ≡ p
same_prefix p k h = record_same k p (grind (arith, nat_tests, h)) (grind (arith, nat_tests, h))
  where
    record_same : (a b : Prefix6) → a.addr ≡ b.addr → a.len ≡ b.len → a ≡ b
    record_same a b d l = λ i. record { addr = d i; len = l i }

pub other_prefix : (p k : Prefix6) → false ≡ (eqb k.addr p.addr && eqb k.len p.len) → p ≢ k
other_prefix p k h e = differ (subst (λ x. false ≡ (eqb x.addr p.addr && eqb x.len p.len)) (sym e) h)
  where
    differ : false ≡ (eqb p.addr p.addr && eqb p.len p.len) → ⊥
    differ d = grind (arith, nat_tests, d)

pub not_lower : (b : Bool) (a m : ℕ) → b ≡ false → (a < m → IsTrue b) → m ≤ a
not_lower b a m is h = elim (cases_lt a m) [ inl lt ↦ absurd (false≢true (sym is ∙ h lt)) | inr ge ↦ ge ]

-- a longer prefix with no lesser address comes later
pub later : (p k : Prefix6) → p.len < k.len → p.addr ≤ k.addr → prefix_cmp p k ≡ Less
later p k longer from = grind (arith, nat_tests, longer, from)

-- by addresses alone
pub before : (k e : Prefix6) → k.addr < e.addr → prefix_cmp k e ≡ Less
before k e lt = grind (arith, nat_tests, lt)

pub behind : (k e : Prefix6) → e.addr < k.addr → prefix_cmp k e ≡ Greater
behind k e lt = grind (arith, nat_tests, lt)

pub turned : (x y : Prefix6) (o : Ordering) → prefix_cmp x y ≡ o → prefix_cmp y x ≡ ordering_reverse o
turned x y o h = prefixes_total.antisymm y x ∙ ap ordering_reverse h

pub same_addr : (a b : Prefix6) → a ≡ b → a.addr ≡ b.addr
same_addr a b h = ap (λ (k : Prefix6). k.addr) h

-- ---- what is found
pub find-append : (k : Prefix6) (xs ys : Entries) → find prefix_cmp k (xs ++ ys) ≡ option_or (find prefix_cmp k xs) (find prefix_cmp k ys)
find-append k [] ys = refl
find-append k (e ∷ xs) ys = go (eq_by_cmp prefix_cmp k e.0) (find-append k xs ys)
  where
    go : (b : Bool) → find prefix_cmp k (xs ++ ys) ≡ option_or (find prefix_cmp k xs) (find prefix_cmp k ys) → cond b (Some e.1) (find prefix_cmp k (xs ++ ys)) ≡ option_or (cond b (Some e.1) (find prefix_cmp k xs)) (find prefix_cmp k ys)
    go true ih = refl
    go false ih = ih

-- a prefix that differs from each is not found
pub find_none : (k : Prefix6) (l : Entries) → All (λ e. e.0 ≢ k) l → find prefix_cmp k l ≡ None
find_none k [] h = refl
find_none k (e ∷ l) h = go (eq_by_cmp prefix_cmp k e.0) refl (find_none k l (All-tail (λ (x : Entry). x.0 ≢ k) e l h)) (All-head (λ (x : Entry). x.0 ≢ k) e l h)
  where
    go : (b : Bool) → eq_by_cmp prefix_cmp k e.0 ≡ b → find prefix_cmp k l ≡ None → e.0 ≢ k → cond b (Some e.1) (find prefix_cmp k l) ≡ None
    go true is n d = absurd (d (sym (exact_prefixes k e.0 ((Equal-is (prefix_cmp k e.0)).0 is))))
    go false is n d = n

-- a prefix that is found is one of the prefixes
pub found : (P : Prefix6 → Type 0) (k : Prefix6) (l : Entries) → All (λ e. P e.0) l → IsSome (find prefix_cmp k l) → P k
found P k [] a h = absurd (false≢true h)
found P k (x ∷ l) a h =
    let deeper : IsSome (find prefix_cmp k l) → P k = found P k l (All-tail (λ (e : Entry). P e.0) x l a) in
    let here = All-head (λ (e : Entry). P e.0) x l a in
    elim (eq_by_cmp prefix_cmp k x.0) as (λ b. eq_by_cmp prefix_cmp k x.0 ≡ b → IsSome (cond b (Some x.1) (find prefix_cmp k l)) → P k) [
      | true ↦ λ is s. subst P (sym (exact_prefixes k x.0 ((Equal-is (prefix_cmp k x.0)).0 is))) here
      | false ↦ λ is s. deeper s
    ] refl h

-- where something is found there is an entry
pub found_some : (k : Prefix6) (l : Entries) → IsSome (find prefix_cmp k l) → 0 < length l
found_some k [] h = absurd (false≢true h)
found_some k (x ∷ l) h = omega arith

-- ---- what is put
pub put_some : (k : Prefix6) (v : RouteValue) (l : Entries) → 0 < length (put prefix_cmp k v l)
put_some k v [] = omega arith
put_some k v (x ∷ l) = go (prefix_cmp k x.0)
  where
    go : (o : Ordering) → 0 < length (by_order o ((k, v) ∷ x ∷ l) ((x.0, v) ∷ l) (x ∷ put prefix_cmp k v l))
    go Less = omega arith
    go Equal = omega arith
    go Greater = omega arith

-- past all of the first list
pub put_right : (k : Prefix6) (v : RouteValue) (xs ys : Entries) → All (λ e. prefix_cmp k e.0 ≡ Greater) xs → put prefix_cmp k v (xs ++ ys) ≡ xs ++ put prefix_cmp k v ys
put_right k v [] ys h = refl
put_right k v (x ∷ xs) ys h =
    ap (λ o. by_order o ((k, v) ∷ x ∷ (xs ++ ys)) ((x.0, v) ∷ (xs ++ ys)) (x ∷ put prefix_cmp k v (xs ++ ys))) (All-head (λ (e : Entry). prefix_cmp k e.0 ≡ Greater) x xs h)
    ∙ ap (λ l. x ∷ l) (put_right k v xs ys (All-tail (λ (e : Entry). prefix_cmp k e.0 ≡ Greater) x xs h))

-- before all of the second list
pub put_front : (k : Prefix6) (v : RouteValue) (ys : Entries) → All (λ e. prefix_cmp k e.0 ≡ Less) ys → put prefix_cmp k v ys ≡ (k, v) ∷ ys
put_front k v [] h = refl
put_front k v (y ∷ ys) h = ap (λ o. by_order o ((k, v) ∷ y ∷ ys) ((y.0, v) ∷ ys) (y ∷ put prefix_cmp k v ys)) (All-head (λ (e : Entry). prefix_cmp k e.0 ≡ Less) y ys h)

pub put_left : (k : Prefix6) (v : RouteValue) (xs ys : Entries) → All (λ e. prefix_cmp k e.0 ≡ Less) ys → put prefix_cmp k v (xs ++ ys) ≡ put prefix_cmp k v xs ++ ys
put_left k v [] ys h = put_front k v ys h
put_left k v (x ∷ xs) ys h = go (prefix_cmp k x.0) (put_left k v xs ys h)
  where
    go : (o : Ordering) → put prefix_cmp k v (xs ++ ys) ≡ put prefix_cmp k v xs ++ ys → by_order o ((k, v) ∷ x ∷ (xs ++ ys)) ((x.0, v) ∷ (xs ++ ys)) (x ∷ put prefix_cmp k v (xs ++ ys)) ≡ by_order o ((k, v) ∷ x ∷ xs) ((x.0, v) ∷ xs) (x ∷ put prefix_cmp k v xs) ++ ys
    go Less ih = refl
    go Equal ih = refl
    go Greater ih = ap (λ l. x ∷ l) ih

-- what holds of each prefix holds of each with the new one
pub All-put : (P : Prefix6 → Type 0) (k : Prefix6) (v : RouteValue) (l : Entries) → P k → All (λ e. P e.0) l → All (λ e. P e.0) (put prefix_cmp k v l)
All-put P k v [] h a = All-cons (λ (e : Entry). P e.0) (k, v) [] h a
All-put P k v (x ∷ l) h a =
    let here = All-head (λ (e : Entry). P e.0) x l a in
    let rest = All-tail (λ (e : Entry). P e.0) x l a in
    let deeper = All-put P k v l h rest in
    elim (prefix_cmp k x.0) as (λ o. All (λ (e : Entry). P e.0) (by_order o ((k, v) ∷ x ∷ l) ((x.0, v) ∷ l) (x ∷ put prefix_cmp k v l))) [
      | Less ↦ All-cons (λ (e : Entry). P e.0) (k, v) (x ∷ l) h a
      | Equal ↦ All-cons (λ (e : Entry). P e.0) (x.0, v) l here rest
      | Greater ↦ All-cons (λ (e : Entry). P e.0) x (put prefix_cmp k v l) here deeper
    ]

-- ---- what is taken out
pub without_append : (k : Prefix6) (xs ys : Entries) → without k (xs ++ ys) ≡ without k xs ++ without k ys
without_append k xs ys = filter-append (λ (e : Entry). not (eq_by_cmp prefix_cmp k e.0)) xs ys

-- nothing goes where no entry has the prefix
pub without_none : (k : Prefix6) (l : Entries) → All (λ e. e.0 ≢ k) l → without k l ≡ l
without_none k [] h = refl
without_none k (e ∷ l) h = go (eq_by_cmp prefix_cmp k e.0) refl (All-head (λ (x : Entry). x.0 ≢ k) e l h) (without_none k l (All-tail (λ (x : Entry). x.0 ≢ k) e l h))
  where
    go : (b : Bool) → eq_by_cmp prefix_cmp k e.0 ≡ b → e.0 ≢ k → without k l ≡ l → cond (not b) (e ∷ without k l) (without k l) ≡ e ∷ l
    go true is d ih = absurd (d (sym (exact_prefixes k e.0 ((Equal-is (prefix_cmp k e.0)).0 is))))
    go false is d ih = ap (λ x. e ∷ x) ih

-- all go where each entry has the prefix
pub without_all : (k : Prefix6) (l : Entries) → All (λ e. e.0 ≡ k) l → without k l ≡ []
without_all k [] h = refl
without_all k (e ∷ l) h =
    let here : e.0 ≡ k = All-head (λ (x : Entry). x.0 ≡ k) e l h in
    ap (λ b. cond (not b) (e ∷ without k l) (without k l)) (ap (eq_by_cmp prefix_cmp k) here ∙ itself k) ∙ without_all k l (All-tail (λ (x : Entry). x.0 ≡ k) e l h)

-- ---- the first that passes a test
pub first_append : (t : Entry → Bool) (xs ys : Entries) → first t (xs ++ ys) ≡ option_or (first t xs) (first t ys)
first_append t [] ys = refl
first_append t (e ∷ xs) ys = go (t e) (first_append t xs ys)
  where
    go : (b : Bool) → first t (xs ++ ys) ≡ option_or (first t xs) (first t ys) → cond b (Some e) (first t (xs ++ ys)) ≡ option_or (cond b (Some e) (first t xs)) (first t ys)
    go true ih = refl
    go false ih = ih

pub first_fails : (t : Entry → Bool) (l : Entries) → All (λ e. t e ≡ false) l → first t l ≡ None
first_fails t [] h = refl
first_fails t (e ∷ l) h = ap (λ b. cond b (Some e) (first t l)) (All-head (λ (x : Entry). t x ≡ false) e l h) ∙ first_fails t l (All-tail (λ (x : Entry). t x ≡ false) e l h)

-- two tests that agree on each entry find the same
pub first_same : (t u : Entry → Bool) (l : Entries) → All (λ e. t e ≡ u e) l → first t l ≡ first u l
first_same t u [] h = refl
first_same t u (e ∷ l) h =
    ap (λ b. cond b (Some e) (first t l)) (All-head (λ (x : Entry). t x ≡ u x) e l h)
    ∙ ap (cond (u e) (Some e)) (first_same t u l (All-tail (λ (x : Entry). t x ≡ u x) e l h))
