-- The least deadline, and the first route that has it.
use Rattle.std.proofs.Common.{◌≡◌, ◌≤◌, ℕ, Bool, true, false, cond, ◌&&◌, [], ◌∷◌, Option, Some, None, refl, sym, ap, subst, ◌∙◌, inl, inr, arith}
use mathlib.Core.Bool.{false≢true}
use Rattle.std.specs.Prelude.{min, is_some, nat_le, option_map, option_and_then}
use Rattle.std.specs.Option.{unwrap_or}
use Rattle.std.specs.FinMap.{entries}
use Rattle.std.proofs.lemmas.Bool.{cases_lt}
use Rattle.std.proofs.lemmas.Bool.Decides.{nat_tests}
use Rattle.prefix6.specs.Prefix.{Prefix6}
use Rattle.route_table.specs.Route.{RouteValue, deadline}
use Rattle.route_table.specs.Place.{Entries}
use Rattle.route_table.specs.Table.{Table}
use Rattle.route_table.specs.Due.{is_due, is_reached, earlier, least_deadline, first_where, first_due, next_due}
use Rattle.route_table.specs.declared.wanted.Wanted.TheVariants.{Due}
use Rattle.route_table.proofs.TrieLists.{Entry}
use Rattle.route_table.proofs.TrieSummary.{nothing_wanted, due_of}

-- the second deadline, if there is one, is no earlier than the first
abbrev pub NoEarlier : Option ℕ → Option ℕ → Type 0
NoEarlier l None = Unit {0}
NoEarlier None (Some d) = ⊥
NoEarlier (Some n) (Some d) = n ≤ d

pub head_bound : (a b : Option ℕ) → NoEarlier (earlier a b) a
head_bound None b = tt
head_bound (Some a) None = omega arith
head_bound (Some a) (Some b) = omega arith

pub tail_bound : (a b d : Option ℕ) → NoEarlier b d → NoEarlier (earlier a b) d
tail_bound a b None h = tt
tail_bound None b (Some d) h = h
tail_bound (Some a) None (Some d) h = absurd h
tail_bound (Some a) (Some b) (Some d) h = omega arith

same_number : (a b : ℕ) → Some a ≡ Some b → a ≡ b
same_number a b e = ap (λ o. unwrap_or o a) e

same_entry : (a b : Entry) → Some a ≡ Some b → a ≡ b
same_entry a b e = ap (λ o. unwrap_or o a) e

-- what a search finds passes the test, and is due no earlier than the least
record IsFound (t : RouteValue → Bool) (es : Entries) (e : Entry) : Type 0 where
  pub passes : t e.1 ≡ true
  pub no_earlier : NoEarlier (least_deadline es) (deadline e.1)

found_is : (t : RouteValue → Bool) (es : Entries) (e : Entry) → first_where t None es ≡ Some e → IsFound t es e
found_is t [] e h = absurd (cc)
found_is t (x ∷ es) e h = go (λ s. found_is t es e s) (t x.1) refl h
  where
    go : (first_where t None es ≡ Some e → IsFound t es e) → (b : Bool) → t x.1 ≡ b → cond (b && true) (Some x) (first_where t None es) ≡ Some e → IsFound t (x ∷ es) e
    go deeper true is s =
        let same : x ≡ e = same_entry x e s in
        subst (IsFound t (x ∷ es)) same (record { passes = is; no_earlier = head_bound (deadline x.1) (least_deadline es) })
    go deeper false is s =
        let f = deeper s in
        record { passes = f.passes; no_earlier = tail_bound (deadline x.1) (least_deadline es) (deadline e.1) f.no_earlier }

-- a deadline that is reached at the least is the least
both_ways : (n : ℕ) (d : Option ℕ) → is_reached n d ≡ true → NoEarlier (Some n) d → d ≡ Some n
both_ways n None r h = absurd (false≢true r)
both_ways n (Some d) r h =
    let le : d ≤ n = grind (arith, nat_tests, r) in
    ap (λ m. Some m) (omega arith)

module _ (t : Table) (least : ℕ) (l : least_deadline (entries t) ≡ Some least) where
  -- the route that is found is due at the least deadline
  pub due_at_least : (e : Entry) → first_where (is_due least) None (entries t) ≡ Some e → deadline e.1 ≡ Some least
  due_at_least e is =
      let f = found_is (is_due least) (entries t) e is in
      both_ways least (deadline e.1) f.passes (subst (λ o. NoEarlier o (deadline e.1)) l f.no_earlier)

  pub next_is : (e : Entry) (until : ℕ) → first_where (is_due least) None (entries t) ≡ Some e → deadline e.1 ≡ Some until → Some (until, e.0) ≡ next_due t
  next_is e until is d =
      let same : until ≡ least = same_number until least (sym d ∙ due_at_least e is) in
      ap (λ n. Some (n, e.0)) same
      ∙ sym (ap (λ o. option_and_then (λ n. option_map (λ (x : Entry). (n, x.0)) (first_where (is_due n) None (entries t))) o) l
      ∙ ap (option_map (λ (x : Entry). (least, x.0))) is)

  pub next_none : first_where (is_due least) None (entries t) ≡ None → None ≡ next_due t
  next_none is = sym (ap (λ o. option_and_then (λ n. option_map (λ (x : Entry). (n, x.0)) (first_where (is_due n) None (entries t))) o) l
      ∙ ap (option_map (λ (x : Entry). (least, x.0))) is)

  -- a route that is found has a deadline
  pub has_deadline : (e : Entry) → first_where (is_due least) None (entries t) ≡ Some e → deadline e.1 ≡ None → ⊥
  has_deadline e is none = some_none (sym (due_at_least e is) ∙ none)
    where
      some_none : ◌≡◌ {A = Option ℕ} (Some least) None → ⊥
      some_none e = cc

pub next_none_ages : (t : Table) → least_deadline (entries t) ≡ None → None ≡ next_due t
next_none_ages t l = sym (ap (λ o. option_and_then (λ n. option_map (λ (x : Entry). (n, x.0)) (first_where (is_due n) None (entries t))) o) l)

-- ---- when routes are due
abbrev IsThere : Option Entry → Type 0
IsThere o = is_some o ≡ true

-- a route has the least deadline
exists_due : (es : Entries) (n : ℕ) → least_deadline es ≡ Some n → IsThere (first_where (is_due n) None es)
exists_due [] n l = absurd (cc)
exists_due (e ∷ es) n l = go (deadline e.1) (least_deadline es) refl l (exists_due es n)
  where
    after_head : (b : Bool) → IsThere (first_where (is_due n) None es) → IsThere (cond (b && true) (Some e) (first_where (is_due n) None es))
    after_head true there = refl
    after_head false there = there

    at_head : (b : Bool) → b ≡ true → IsThere (cond (b && true) (Some e) (first_where (is_due n) None es))
    at_head b is = ap (λ x. is_some (cond (x && true) (Some e) (first_where (is_due n) None es))) is

    go : (d o : Option ℕ) → least_deadline es ≡ o → earlier d o ≡ Some n → (least_deadline es ≡ Some n → IsThere (first_where (is_due n) None es)) → IsThere (cond (is_reached n d && true) (Some e) (first_where (is_due n) None es))
    go None o is l deeper = deeper (is ∙ l)
    go (Some a) None is l deeper = at_head (nat_le a n) (grind (arith, nat_tests, same_number a n l))
    go (Some a) (Some b) is l deeper =
        elim (cases_lt n a) [
          | inl lt ↦ after_head (nat_le a n) (deeper (is ∙ ap (λ m. Some m) (omega (arith, same_number (min a b) n l))))
          | inr ge ↦ at_head (nat_le a n) (grind (arith, nat_tests, ge))
        ]

-- before the least deadline nothing is due
pub none_due : (t : Table) (now : ℕ) → is_reached now (least_deadline (entries t)) ≡ false → (after : Option Prefix6) → first_due now after t ≡ None
none_due t now h after = nothing_wanted (Due now) after (entries t) (ap (is_reached now) (due_of (entries t)) ∙ h)

-- the deadline that `next_due` gives is the least
pub least_of_next : (t : Table) → option_map (λ (n : ℕ × Prefix6). n.0) (next_due t) ≡ least_deadline (entries t)
least_of_next t = go (least_deadline (entries t)) refl
  where
    with_entry : (n : ℕ) (o : Option Entry) → IsThere o → option_map (λ (x : ℕ × Prefix6). x.0) (option_map (λ (x : Entry). (n, x.0)) o) ≡ Some n
    with_entry n None there = absurd (false≢true there)
    with_entry n (Some e) there = refl

    go : (o : Option ℕ) → least_deadline (entries t) ≡ o → option_map (λ (x : ℕ × Prefix6). x.0) (option_and_then (λ n. option_map (λ (x : Entry). (n, x.0)) (first_where (is_due n) None (entries t))) o) ≡ o
    go None is = refl
    go (Some n) is = with_entry n (first_where (is_due n) None (entries t)) (exists_due (entries t) n is)
