-- Two lists of entries one after the other: what is found, put and taken out there.
use Rattle.std.proofs.Common.{◌≡◌, ◌≢◌, ◌<◌, Bool, true, false, cond, not, [], ◌∷◌, ◌++◌, length, Some, None, refl, sym, ap, ◌∙◌, arith}
use mathlib.Core.Bool.{false≢true}
use Rattle.std.specs.Prelude.{All}
use Rattle.std.specs.Option.{option_or}
use Rattle.std.specs.Cmp.{Equal-is}
use Rattle.std.specs.declared.cmp.Ordering.{Ordering}
use Rattle.std.specs.declared.cmp.Ordering.TheVariants.{Less, Equal, Greater}
use Rattle.std.specs.Ordering.{eq_by_cmp, is_lt, is_some_and, partial_lt, partial_ordering_then, ordering_then, nat_cmp}
use Rattle.std.specs.FinMap.Entries.{find, put, by_order}
use Rattle.std.proofs.lemmas.List.Elements.{All-head, All-tail, filter-append}
use Rattle.std.proofs.lemmas.Bool.Decides.{nat_tests}
use Rattle.prefix6.specs.Prefix.{Prefix6, prefix_cmp}
use Rattle.prefix6.specs.contracts.prefix.PrefixPartialOrd.TheImpl as ThePrefix
use Rattle.prefix6.proofs.PrefixLaws.{exact_prefixes}
use Rattle.fib.specs.Forwarding.{Forward}
use Rattle.fib.specs.Blocks.{Pairs, without}

abbrev pub Pair : Type 0
Pair = Prefix6 × Forward

pub less_not_self : (k : Prefix6) → prefix_cmp k k ≡ Less → ⊥
less_not_self k h = less_equal (sym h ∙ itself_equal k)
  where
    itself_equal : (z : Prefix6) → prefix_cmp z z ≡ Equal
    itself_equal z = grind (arith, nat_tests)

    less_equal : ◌≡◌ {A = Ordering} Less Equal → ⊥
    less_equal e = cc

-- ---- what is found
pub find-append : (k : Prefix6) (xs ys : Pairs) → find prefix_cmp k (xs ++ ys) ≡ option_or (find prefix_cmp k xs) (find prefix_cmp k ys)
find-append k [] ys = refl
find-append k (e ∷ xs) ys = go (eq_by_cmp prefix_cmp k e.0) (find-append k xs ys)
  where
    go : (b : Bool) → find prefix_cmp k (xs ++ ys) ≡ option_or (find prefix_cmp k xs) (find prefix_cmp k ys) → cond b (Some e.1) (find prefix_cmp k (xs ++ ys)) ≡ option_or (cond b (Some e.1) (find prefix_cmp k xs)) (find prefix_cmp k ys)
    go true ih = refl
    go false ih = ih

-- a prefix that differs from each is not found
pub find_none : (k : Prefix6) (l : Pairs) → All (λ e. e.0 ≢ k) l → find prefix_cmp k l ≡ None
find_none k [] h = refl
find_none k (e ∷ l) h = go (eq_by_cmp prefix_cmp k e.0) refl (find_none k l (All-tail (λ (x : Pair). x.0 ≢ k) e l h)) (All-head (λ (x : Pair). x.0 ≢ k) e l h)
  where
    go : (b : Bool) → eq_by_cmp prefix_cmp k e.0 ≡ b → find prefix_cmp k l ≡ None → e.0 ≢ k → cond b (Some e.1) (find prefix_cmp k l) ≡ None
    go true is n d = absurd (d (sym (exact_prefixes k e.0 ((Equal-is (prefix_cmp k e.0)).0 is))))
    go false is n d = n

-- ---- what is put
pub put_some : (k : Prefix6) (v : Forward) (l : Pairs) → 0 < length (put prefix_cmp k v l)
put_some k v [] = omega arith
put_some k v (x ∷ l) = go (prefix_cmp k x.0)
  where
    go : (o : Ordering) → 0 < length (by_order o ((k, v) ∷ x ∷ l) ((x.0, v) ∷ l) (x ∷ put prefix_cmp k v l))
    go Less = omega arith
    go Equal = omega arith
    go Greater = omega arith

-- past all of the first list
pub put_right : (k : Prefix6) (v : Forward) (xs ys : Pairs) → All (λ e. prefix_cmp k e.0 ≡ Greater) xs → put prefix_cmp k v (xs ++ ys) ≡ xs ++ put prefix_cmp k v ys
put_right k v [] ys h = refl
put_right k v (x ∷ xs) ys h =
    ap (λ o. by_order o ((k, v) ∷ x ∷ (xs ++ ys)) ((x.0, v) ∷ (xs ++ ys)) (x ∷ put prefix_cmp k v (xs ++ ys))) (All-head (λ (e : Pair). prefix_cmp k e.0 ≡ Greater) x xs h)
    ∙ ap (λ l. x ∷ l) (put_right k v xs ys (All-tail (λ (e : Pair). prefix_cmp k e.0 ≡ Greater) x xs h))

-- before all of the second list
pub put_front : (k : Prefix6) (v : Forward) (ys : Pairs) → All (λ e. prefix_cmp k e.0 ≡ Less) ys → put prefix_cmp k v ys ≡ (k, v) ∷ ys
put_front k v [] h = refl
put_front k v (y ∷ ys) h = ap (λ o. by_order o ((k, v) ∷ y ∷ ys) ((y.0, v) ∷ ys) (y ∷ put prefix_cmp k v ys)) (All-head (λ (e : Pair). prefix_cmp k e.0 ≡ Less) y ys h)

pub put_left : (k : Prefix6) (v : Forward) (xs ys : Pairs) → All (λ e. prefix_cmp k e.0 ≡ Less) ys → put prefix_cmp k v (xs ++ ys) ≡ put prefix_cmp k v xs ++ ys
put_left k v [] ys h = put_front k v ys h
put_left k v (x ∷ xs) ys h = go (prefix_cmp k x.0) (put_left k v xs ys h)
  where
    go : (o : Ordering) → put prefix_cmp k v (xs ++ ys) ≡ put prefix_cmp k v xs ++ ys → by_order o ((k, v) ∷ x ∷ (xs ++ ys)) ((x.0, v) ∷ (xs ++ ys)) (x ∷ put prefix_cmp k v (xs ++ ys)) ≡ by_order o ((k, v) ∷ x ∷ xs) ((x.0, v) ∷ xs) (x ∷ put prefix_cmp k v xs) ++ ys
    go Less ih = refl
    go Equal ih = refl
    go Greater ih = ap (λ l. x ∷ l) ih

-- ---- what is taken out
pub without_append : (k : Prefix6) (xs ys : Pairs) → without k (xs ++ ys) ≡ without k xs ++ without k ys
without_append k xs ys = filter-append (λ (e : Pair). not (eq_by_cmp prefix_cmp k e.0)) xs ys

-- nothing goes where no entry has the prefix
pub without_none : (k : Prefix6) (l : Pairs) → All (λ e. e.0 ≢ k) l → without k l ≡ l
without_none k [] h = refl
without_none k (e ∷ l) h = go (eq_by_cmp prefix_cmp k e.0) refl (All-head (λ (x : Pair). x.0 ≢ k) e l h) (without_none k l (All-tail (λ (x : Pair). x.0 ≢ k) e l h))
  where
    go : (b : Bool) → eq_by_cmp prefix_cmp k e.0 ≡ b → e.0 ≢ k → without k l ≡ l → cond (not b) (e ∷ without k l) (without k l) ≡ e ∷ l
    go true is d ih = absurd (d (sym (exact_prefixes k e.0 ((Equal-is (prefix_cmp k e.0)).0 is))))
    go false is d ih = ap (λ x. e ∷ x) ih

-- ---- the test that the code makes
pub is_less : (o : Ordering) → is_lt o ≡ true → o ≡ Less
is_less Less h = refl
is_less Equal h = absurd (false≢true h)
is_less Greater h = absurd (false≢true h)

pub less_is : (a p : Prefix6) → partial_lt ThePrefix.partial_cmp-value.it a p ≡ is_lt (prefix_cmp a p)
less_is a p = elim (nat_cmp a.addr p.addr) as (λ o. is_some_and is_lt (partial_ordering_then (Some o) (Some (nat_cmp a.len p.len))) ≡ is_lt (ordering_then o (nat_cmp a.len p.len))) [ Less ↦ refl | Equal ↦ refl | Greater ↦ refl ]
