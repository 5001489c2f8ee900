-- A reader who applies what it is told knows the table.
use Rattle.std.proofs.Common.{◌≡◌, ◌≢◌, ◌∙◌, refl, ap, sym, subst, Bool, true, false, cond, List, [], ◌∷◌, ◌++◌, Option, Some, None}
use Rattle.std.specs.FinMap as map_of
use Rattle.std.specs.FinMap.{find}
use Rattle.std.specs.List.{AllByRecursion}
use Rattle.std.specs.Ordering.{eq_by_cmp}
use Rattle.std.proofs.lemmas.Map.Views.{tells_apart}
use Rattle.prefix6.specs.Prefix.{Prefix6, prefix_cmp}
use Rattle.prefix6.proofs.PrefixLaws.{prefixes_total, exact_prefixes}
use Rattle.route_table.specs.Route.{RouteValue}
use Rattle.route_table.specs.Table.{Table}
use Rattle.route_table.proofs.TableLaws.{all_entries, None-Some}
use Rattle.ripng_trace.specs.Records.{LeadsTo, with_routes, taken_out}

-- ---- one after another

pub with_routes-push : (t : Table) (es : List (Prefix6 × RouteValue)) (p : Prefix6) (r : RouteValue)
    → with_routes t (es ++ (p, r) ∷ []) ≡ map_of.insert (with_routes t es) p r
with_routes-push t [] p r = refl
with_routes-push t (x ∷ es) p r = with_routes-push (map_of.insert t x.0 x.1) es p r

pub taken_out-push : (t : Table) (ps : List Prefix6) (p : Prefix6) → taken_out t (ps ++ p ∷ []) ≡ map_of.remove (taken_out t ps) p
taken_out-push t [] p = refl
taken_out-push t (x ∷ ps) p = taken_out-push (map_of.remove t x) ps p

-- ---- what is taken out

-- a prefix without a route has none once another is taken out
pub removed_elsewhere : (t : Table) (p q : Prefix6) → map_of.get t q ≡ None → map_of.get (map_of.remove t p) q ≡ None
removed_elsewhere t p q none = map_of.get-remove prefixes_total t p q ∙ by_tie (eq_by_cmp prefix_cmp q p)
  where
    by_tie : (b : Bool) → cond b None (map_of.get t q) ≡ None
    by_tie true = refl
    by_tie false = none

-- of the entries up to the next, none is left to which the table has no route
pub gone_on : (t k k' : Table) (p : Prefix6) (r : RouteValue) (es : List (Prefix6 × RouteValue))
    → ((q : Prefix6) → map_of.get t q ≡ None → find prefix_cmp q ((p, r) ∷ es) ≡ None → map_of.get k q ≡ None)
    → (map_of.get t p ≡ None → map_of.get k' p ≡ None)
    → ((q : Prefix6) → map_of.get k q ≡ None → map_of.get k' q ≡ None)
    → (q : Prefix6) → map_of.get t q ≡ None → find prefix_cmp q es ≡ None → map_of.get k' q ≡ None
gone_on t k k' p r es before here fewer q none left = by_tie (eq_by_cmp prefix_cmp q p) refl
  where
    by_tie : (b : Bool) → eq_by_cmp prefix_cmp q p ≡ b → map_of.get k' q ≡ None
    by_tie true tie =
        let same = tells_apart exact_prefixes q p tie in
        subst (λ (x : Prefix6). map_of.get k' x ≡ None) (sym same) (here (subst (λ (x : Prefix6). map_of.get t x ≡ None) same none))
    by_tie false tie = fewer q (before q none (ap (λ b. cond b (Some r) (find prefix_cmp q es)) tie ∙ left))

-- out of nothing, nothing is taken
nothing_taken : (p q : Prefix6) → map_of.get (map_of.remove (map_of.empty {X = RouteValue} {R = prefix_cmp}) p) q ≡ map_of.get (map_of.empty {X = RouteValue} {R = prefix_cmp}) q
nothing_taken p q = removed_elsewhere map_of.empty p q (map_of.get-empty prefix_cmp q) ∙ sym (map_of.get-empty prefix_cmp q)

pub without_nothing : (ps : List Prefix6) → taken_out {X = RouteValue} map_of.empty ps ≡ map_of.empty
without_nothing [] = refl
without_nothing (p ∷ ps) = ap (λ t. taken_out t ps) (map_of.same_map prefixes_total exact_prefixes _ _ (nothing_taken p)) ∙ without_nothing ps

-- ---- what is put in

-- where it is right already, it stays right
stays : (t m : Table) (es : List (Prefix6 × RouteValue)) (q : Prefix6) → AllByRecursion (λ e. map_of.get t e.0 ≡ Some e.1) es
    → map_of.get m q ≡ map_of.get t q → map_of.get (with_routes m es) q ≡ map_of.get t q
stays t m [] q all same = same
stays t m (e ∷ es) q all same =
    stays t (map_of.insert m e.0 e.1) es q all.1 (map_of.get-insert prefixes_total m e.0 e.1 q ∙ by_tie (eq_by_cmp prefix_cmp q e.0) refl)
  where
    by_tie : (b : Bool) → eq_by_cmp prefix_cmp q e.0 ≡ b → cond b (Some e.1) (map_of.get m q) ≡ map_of.get t q
    by_tie true tie = sym all.0 ∙ ap (map_of.get t) (sym (tells_apart exact_prefixes q e.0 tie))
    by_tie false tie = same

-- where an entry says so, it becomes right
arrives : (t m : Table) (es : List (Prefix6 × RouteValue)) (q : Prefix6) → AllByRecursion (λ e. map_of.get t e.0 ≡ Some e.1) es
    → find prefix_cmp q es ≢ None → map_of.get (with_routes m es) q ≡ map_of.get t q
arrives t m [] q all found = absurd (found refl)
arrives t m (e ∷ es) q all found = by_tie (eq_by_cmp prefix_cmp q e.0) refl (arrives t (map_of.insert m e.0 e.1) es q all.1)
  where
    by_tie : (b : Bool) → eq_by_cmp prefix_cmp q e.0 ≡ b → (find prefix_cmp q es ≢ None → map_of.get (with_routes m (e ∷ es)) q ≡ map_of.get t q)
        → map_of.get (with_routes m (e ∷ es)) q ≡ map_of.get t q
    by_tie true tie rest =
        stays t (map_of.insert m e.0 e.1) es q all.1
        (map_of.get-insert prefixes_total m e.0 e.1 q ∙ ap (λ b. cond b (Some e.1) (map_of.get m q)) tie ∙ sym all.0 ∙ ap (map_of.get t) (sym (tells_apart exact_prefixes q e.0 tie)))
    by_tie false tie rest = rest (λ none. found (ap (λ b. cond b (Some e.1) (find prefix_cmp q es)) tie ∙ none))

-- with all its routes put in, a table that has no others is the table
pub is_known : (t m : Table) → ((q : Prefix6) → map_of.get t q ≡ None → map_of.get m q ≡ None) → with_routes m (map_of.entries t) ≡ t
is_known t m gone = map_of.same_map prefixes_total exact_prefixes _ _ (λ q. by_value q (map_of.get t q) refl)
  where
    all : AllByRecursion (λ e. map_of.get t e.0 ≡ Some e.1) (map_of.entries t)
    all = all_entries (λ e. map_of.get t e.0 ≡ Some e.1) t (λ p x is. is)

    not_none : (r : RouteValue) → Some r ≡ None → ⊥
    not_none r e = absurd (None-Some r (sym e))

    by_value : (q : Prefix6) (o : Option RouteValue) → map_of.get t q ≡ o → map_of.get (with_routes m (map_of.entries t)) q ≡ map_of.get t q
    by_value q None none = stays t m (map_of.entries t) q all (gone q none ∙ sym none)
    by_value q (Some r) some = arrives t m (map_of.entries t) q all (λ none. not_none r (sym some ∙ map_of.get-entries t q ∙ none))

-- ---- one step of what is told

pub told_gone : (t k k' : Table) (ps ps' : List Prefix6) (p : Prefix6) → k' ≡ map_of.remove k p → ps' ≡ ps ++ p ∷ [] → k ≡ taken_out t ps → k' ≡ taken_out t ps'
told_gone t k k' ps ps' p removed pushed before =
    removed ∙ ap (λ m. map_of.remove m p) before ∙ sym (taken_out-push t ps p) ∙ ap (taken_out t) (sym pushed)

pub told_news : (t k k' : Table) (es es' : List (Prefix6 × RouteValue)) (p : Prefix6) (r : RouteValue)
    → k' ≡ map_of.insert k p r → es' ≡ es ++ (p, r) ∷ [] → k ≡ with_routes t es → k' ≡ with_routes t es'
told_news t k k' es es' p r put pushed before =
    put ∙ ap (λ m. map_of.insert m p r) before ∙ sym (with_routes-push t es p r) ∙ ap (with_routes t) (sym pushed)

-- who knows nothing is told of nothing that is gone
pub leads_from_nothing : (routes : List (Prefix6 × RouteValue)) (gone : List Prefix6) (t : Table) → LeadsTo map_of.empty routes gone t → LeadsTo map_of.empty routes [] t
leads_from_nothing routes gone t leads = ap (λ m. with_routes m routes) (sym (without_nothing gone)) ∙ leads
