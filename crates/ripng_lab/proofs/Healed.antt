-- Where a network has healed: no metric is wrong.
use Rattle.std.proofs.Common.{◌≡◌, ◌≢◌, ◌<◌, ◌∙◌, ◌⊎◌, inl, inr, ℕ, zero, suc, ◌+◌, ◌==◌, min, not, ◌&&◌, ◌||◌, Bool, true, false, List, [], ◌∷◌, fold, if◌then◌else◌, Option, Some, None, is_some, slice_get, ap, arith, refl, rules, subst, sym}
use Rattle.std.specs.List.{list_any}
use Rattle.std.specs.FinMap as map_of
use Rattle.std.proofs.Math.Dec.{eqb}
use Rattle.std.proofs.lemmas.Bool.{eqb-true}
use Rattle.std.proofs.lemmas.Bool.Decides.{eqb_tells}
use Rattle.prefix6.proofs.PrefixLaws.{same_prefix-true}
use Rattle.prefix6.specs.Prefix.{same_prefix}
use Rattle.route_table.proofs.TableLaws.{Some-same, None-Some}
use Rattle.ripng_world.proofs.Members.{at_entries}
use Rattle.ripng_lab.specs.Below.{Prefix6, RouteValue, State, LabValue, Neighbor, Outages}
use Rattle.ripng_lab.specs.Healing.{IsHealedAt, IsRight, has_route, has_wrong, has_wrong_heard, has_wrong_owned, heard_of, is_right, is_wrong, least_by, least_heard, metric_or_none, neighbors_of, owned_at, owns_at, route_at, routes_at}

-- ---- tests

clash : false ≡ true → ⊥
clash e = cc

not_true : (b : Bool) → not b ≡ false → b ≡ true
not_true true e = refl
not_true false e = absurd (clash (sym e))

or_first : (a b : Bool) → (a || b) ≡ false → a ≡ false
or_first true b e = absurd (clash (sym e))
or_first false b e = refl

or_rest : (a b : Bool) → (a || b) ≡ false → b ≡ false
or_rest true b e = absurd (clash (sym e))
or_rest false b e = e

-- where the first is so, the second is not
and_rest : (a b : Bool) → a ≡ true → (a && b) ≡ false → b ≡ false
and_rest true b is e = e
and_rest false b is e = absurd (clash is)

or_true_first : (a b : Bool) → a ≡ true → (a || b) ≡ true
or_true_first true b is = refl
or_true_first false b is = absurd (clash is)

or_true_rest : (a b : Bool) → b ≡ true → (a || b) ≡ true
or_true_rest true b is = refl
or_true_rest false b is = is

-- a test that no element passes
none_at : {X : Type 0} (test : X → Bool) (xs : List X) (i : ℕ) (x : X) → list_any test xs ≡ false → slice_get xs i ≡ Some x → test x ≡ false
none_at test [] i x none at = absurd (None-Some x at)
none_at test (y ∷ xs) zero x none at = subst (λ (z : _). test z ≡ false) (Some-same y x at) (or_first (test y) (list_any test xs) none)
none_at test (y ∷ xs) (suc i) x none at = none_at test xs i x (or_rest (test y) (list_any test xs) none) at

-- ---- one router and one prefix

module _ (lab : LabValue) (router : ℕ) (ns : List Neighbor) (p : Prefix6) where
  -- of a table that has a route to it
  right_there : (of : ℕ) (r : RouteValue) → has_wrong lab router ns of ≡ false → route_at lab of p ≡ Some r → (of == router || not (has_route lab router p)) ≡ true
      → is_right lab router ns p ≡ true
  right_there of r none there asked = by_state (slice_get lab.world.states of) refl
    where
      by_state : (o : Option State) → slice_get lab.world.states of ≡ o → is_right lab router ns p ≡ true
      by_state None is = absurd (None-Some r (sym (missing is) ∙ there))
        where
          missing : slice_get lab.world.states of ≡ None → route_at lab of p ≡ None
          missing e = rw e refl
      by_state (Some s) is =
          let at = at_entries s.table p r (sym (here is) ∙ there) in
          not_true (is_right lab router ns p)
          (and_rest (of == router || not (has_route lab router p)) (not (is_right lab router ns p)) asked
          (none_at (λ e. is_wrong lab router ns of e.0) (map_of.entries s.table) at.0 (p, r) (sym (listed is) ∙ none) at.1))
        where
          here : slice_get lab.world.states of ≡ Some s → route_at lab of p ≡ map_of.get s.table p
          here e = rw e refl

          listed : slice_get lab.world.states of ≡ Some s → has_wrong lab router ns of ≡ list_any (λ e. is_wrong lab router ns of e.0) (map_of.entries s.table)
          listed e = rw e refl

  -- what no neighbor has, none is heard of; else it is right
  least : (xs : List Neighbor) → has_wrong_heard lab router ns xs ≡ false → has_route lab router p ≡ false → (is_right lab router ns p ≡ true) ⊎ (least_heard lab p xs ≡ 16)
  least [] none lacks = inr refl
  least (n ∷ xs) none lacks = by_route (route_at lab n.router p) refl (least xs (or_rest (has_wrong lab router ns n.router) (has_wrong_heard lab router ns xs) none) lacks)
    where
      by_route : (o : Option RouteValue) → route_at lab n.router p ≡ o → (is_right lab router ns p ≡ true) ⊎ (least_heard lab p xs ≡ 16)
          → (is_right lab router ns p ≡ true) ⊎ (least_heard lab p (n ∷ xs) ≡ 16)
      by_route (Some r) is later =
          inl (right_there n.router r (or_first (has_wrong lab router ns n.router) (has_wrong_heard lab router ns xs) none) is (or_true_rest (n.router == router) (not (has_route lab router p)) (ap not lacks)))
      by_route None is (inl right) = inl right
      by_route None is (inr sixteen) = inr (ap (λ (k : ℕ). fold (λ least neighbor. min least (heard_of lab p neighbor)) k xs) far ∙ sixteen)
        where
          far : min 16 (heard_of lab p n) ≡ 16
          far = rw is (omega arith)

-- a prefix that is owned stands among those
own_at : {X : Type 0} (test : Prefix6 → Bool) (xs : List (Prefix6 × X)) (p : Prefix6) → list_any (λ t. same_prefix t.0 p) xs ≡ true → list_any (λ t. test t.0) xs ≡ false → test p ≡ false
own_at test [] p found none = absurd (clash found)
own_at test (x ∷ xs) p found none = by_first (same_prefix x.0 p) refl (λ there. own_at test xs p there (or_rest (test x.0) (list_any (λ t. test t.0) xs) none))
  where
    by_first : (b : Bool) → same_prefix x.0 p ≡ b → (list_any (λ t. same_prefix t.0 p) xs ≡ true → test p ≡ false) → test p ≡ false
    by_first true is later = subst (λ (q : Prefix6). test q ≡ false) (same_prefix-true x.0 p is) (or_first (test x.0) (list_any (λ t. test t.0) xs) none)
    by_first false is later = later (subst (λ (b : Bool). (b || list_any (λ t. same_prefix t.0 p) xs) ≡ true) is found)

own_tested : (lab : LabValue) (router : ℕ) (ns : List Neighbor) (p : Prefix6) → has_wrong_owned lab router ns ≡ false → owns_at lab router p ≡ true → not (is_right lab router ns p) ≡ false
own_tested lab router ns p none owns = by_state (slice_get lab.world.states router) refl
  where
    by_state : (o : Option State) → slice_get lab.world.states router ≡ o → not (is_right lab router ns p) ≡ false
    by_state None is = absurd (clash (sym (missing is) ∙ owns))
      where
        missing : slice_get lab.world.states router ≡ None → owns_at lab router p ≡ false
        missing e = rw e refl
    by_state (Some s) is = own_at (λ q. not (is_right lab router ns q)) s.config.prefixes p (sym (here is) ∙ owns) (sym (listed is) ∙ none)
      where
        here : slice_get lab.world.states router ≡ Some s → owns_at lab router p ≡ list_any (λ t. same_prefix t.0 p) s.config.prefixes
        here e = rw e refl

        listed : slice_get lab.world.states router ≡ Some s → has_wrong_owned lab router ns ≡ list_any (λ t. not (is_right lab router ns t.0)) s.config.prefixes
        listed e = rw e refl

-- nowhere is it wrong
pub right_everywhere : (outages : Outages) (lab : LabValue) (router : ℕ) (ns : List Neighbor) → ns ≡ neighbors_of outages lab router → has_wrong_owned lab router ns ≡ false → has_wrong lab router ns router ≡ false
    → has_wrong_heard lab router ns ns ≡ false → (p : Prefix6) → IsRight outages lab router p
right_everywhere outages lab router ns same owned own heard p = subst (λ (ms : List Neighbor). metric_or_none lab router p ≡ least_by lab router ms p) same (eqb-true (metric_or_none lab router p) (least_by lab router ns p) right)
  where
    right : is_right lab router ns p ≡ true
    right = by_route (route_at lab router p) refl
      where
        itself : (router == router) ≡ true
        itself = search rules

        by_route : (o : Option RouteValue) → route_at lab router p ≡ o → is_right lab router ns p ≡ true
        by_route (Some r) is = right_there lab router ns p router r own is (or_true_first (router == router) (not (has_route lab router p)) itself)
        by_route None is = by_owned (owns_at lab router p) refl
          where
            by_least : owns_at lab router p ≡ false → (is_right lab router ns p ≡ true) ⊎ (least_heard lab p ns ≡ 16) → is_right lab router ns p ≡ true
            by_least free (inl there) = there
            by_least free (inr sixteen) = rw (is, free, sixteen) refl

            by_owned : (b : Bool) → owns_at lab router p ≡ b → is_right lab router ns p ≡ true
            by_owned true has = not_true (is_right lab router ns p) (own_tested lab router ns p owned has)
            by_owned false free = by_least free (least lab router ns p ns heard (ap is_some is))

-- one router more
pub one_more : (outages : Outages) (lab : LabValue) (n m : ℕ) → m ≡ n + 1 → ((r : ℕ) → r < n → IsHealedAt outages lab r) → IsHealedAt outages lab n → (r : ℕ) → r < m → IsHealedAt outages lab r
one_more outages lab n m next before here r below = by_place (eqb_tells r n)
  where
    by_place : ((eqb r n ≡ true) × (r ≡ n)) ⊎ ((eqb r n ≡ false) × (r ≢ n)) → IsHealedAt outages lab r
    by_place (inl same) = subst (IsHealedAt outages lab) (sym same.1) here
    by_place (inr other) = before r (omega (arith, below, next, other.1))
