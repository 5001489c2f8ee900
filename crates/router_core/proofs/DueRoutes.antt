-- A route that is not due stays as it is; so a tick looks only at those that are due or marked.
use Rattle.std.proofs.Common.{◌≡◌, ℕ, Bool, true, false, ◌==◌, ◌||◌, ◌&&◌, arith, cond, List, [], ◌∷◌, filter, Option, Some, None, is_some, option_map, option_and_then, refl, ap, ap₂, sym, ◌∙◌}
use Rattle.std.specs.List.{list_any, cons_option}
use Rattle.std.specs.FinMap.{entries}
use Rattle.std.proofs.lemmas.Bool.Decides.{nat_tests}
use Rattle.prefix6.specs.Prefix.{Prefix6}
use Rattle.fib.specs.Forwarding.{Forward, same_hop, same_forward, change_to}
use Rattle.fib.specs.declared.change.Hop.{Hop}
use Rattle.fib.specs.declared.change.Hop.TheVariants.{Direct, Via}
use Rattle.route_table.specs.Route.{RouteValue, deadline_by_clock}
use Rattle.route_table.specs.declared.route.Clock.{Clock}
use Rattle.route_table.specs.declared.route.Clock.TheVariants.{Fixed, Live, Dying}
use Rattle.route_table.specs.Table.{Table, map_entries}
use Rattle.route_table.specs.Due.{first_where, is_due, is_reached}
use Rattle.route_table.specs.Summary.{meets}
use Rattle.route_table.proofs.TableLaws.{entries-map_values}
use Rattle.router_core.specs.Adoption.{lost}
use Rattle.router_core.specs.Ageing.{aged, aged_by_clock, without_mark}
use Rattle.router_core.specs.Changes.{change, forward}
use Rattle.router_core.specs.Output.{selected}
use Rattle.router_core.specs.Settling.{settled, settled_table, told_route, may_be_told}
use Rattle.router_core.specs.declared.tell.Selection.{Selection}
use Rattle.router_core.specs.declared.tell.Selection.TheVariants.{Every, Changed, Unreachable}

abbrev pub Entry : Type 0
Entry = Prefix6 × RouteValue

-- ---- a route that is not due
pub aged-kept : (now : ℕ) (r : RouteValue) → is_due now r ≡ false → aged now r ≡ Some r
aged-kept now r = by_clock r.clock
  where
    by_clock : (c : Clock) → is_reached now (deadline_by_clock c) ≡ false → aged_by_clock now r c ≡ Some r
    by_clock Fixed h = refl
    by_clock (Live until) h = ap (λ b. cond b (Some (lost now r)) (Some r)) h
    by_clock (Dying until) h = ap (λ b. cond b None (Some r)) h

-- what is not marked has no mark to lose
pub unmarked-kept : (r : RouteValue) → r.changed ≡ false → without_mark r ≡ Some r
unmarked-kept r h = ap (λ b. Some (record r { changed = b })) (sym h)

same_number : (n : ℕ) → (n == n) ≡ true
same_number n = grind (arith, nat_tests)

same_hop-itself : (h : Hop) → same_hop h h ≡ true
same_hop-itself Direct = refl
same_hop-itself (Via i a) = ap₂ (λ b c. b && c) (same_number i) (same_number a)

same_forward-itself : (f : Option Forward) → same_forward f f ≡ true
same_forward-itself None = refl
same_forward-itself (Some f) = ap₂ (λ b c. b && c) (same_hop-itself f.hop) (same_number f.metric)

-- forwarding does not change
pub change-kept : (now : ℕ) (e : Entry) → is_due now e.1 ≡ false → change e.0 (Some e.1) (aged now e.1) ≡ None
change-kept now e h =
    ap (change e.0 (Some e.1)) (aged-kept now e.1 h)
    ∙ ap (λ b. cond b None (Some (change_to e.0 (forward e.1)))) (same_forward-itself (forward e.1))

-- where no route is due, a regular update tells all as they are
pub none_due-told : (now : ℕ) (es : List Entry) → first_where (is_due now) None es ≡ None → map_entries (told_route now Every) es ≡ es
none_due-told now [] h = refl
none_due-told now (e ∷ es) h = go (none_due-told now es) (is_due now e.1) refl h
  where
    some_none : Some e ≡ None → ⊥
    some_none s = cc

    go : (first_where (is_due now) None es ≡ None → map_entries (told_route now Every) es ≡ es) → (b : Bool) → is_due now e.1 ≡ b → cond (b && true) (Some e) (first_where (is_due now) None es) ≡ None
        → cons_option (option_map (λ y. (e.0, y)) (told_route now Every e.1)) (map_entries (told_route now Every) es) ≡ e ∷ es
    go deeper true is s = absurd (some_none s)
    go deeper false is s = ap₂ (λ o l. cons_option (option_map (λ y. (e.0, y)) (option_and_then (λ left. Some left) o)) l) (aged-kept now e.1 is) (deeper s)

-- ---- which routes an update tells
or_left : (a b : Bool) → (a || b) ≡ false → a ≡ false
or_left true b h = h
or_left false b h = refl

or_right : (a b : Bool) → (a || b) ≡ false → b ≡ false
or_right true b h = absurd (true_false h)
  where
    true_false : true ≡ false → ⊥
    true_false t = cc
or_right false b h = h

pub not_told : (now : ℕ) (which : Selection) (r : RouteValue) → meets (may_be_told now which) r ≡ false → told_route now which r ≡ None
not_told now Every r h = absurd (cc)
not_told now Unreachable r h = absurd (cc)
not_told now Changed r h =
    ap (option_and_then (λ left. cond (selected Changed left) (Some left) None)) (aged-kept now r (or_left (is_due now r) r.changed h))
    ∙ ap (λ b. cond b (Some r) None) (or_right (is_due now r) r.changed h)

pub not_told-test : (now : ℕ) (which : Selection) (e : Entry) → meets (may_be_told now which) e.1 ≡ false → is_some (told_route now which e.1) ≡ false
not_told-test now which e h = ap is_some (not_told now which e.1 h)

told_one : (which : Selection) (p : Prefix6) (o : Option RouteValue) (l : List Entry) (m : List Entry) → l ≡ filter (λ t. selected which t.1) m
    → cons_option (option_map (λ y. (p, y)) (option_and_then (λ left. cond (selected which left) (Some left) None) o)) l
    ≡ filter (λ t. selected which t.1) (cons_option (option_map (λ y. (p, y)) o) m)
told_one which p None l m h = h
told_one which p (Some r) l m h = go (selected which r)
  where
    go : (b : Bool) → cons_option (option_map (λ y. (p, y)) (cond b (Some r) None)) l ≡ cond b ((p, r) ∷ filter (λ t. selected which t.1) m) (filter (λ t. selected which t.1) m)
    go true = ap (λ k. (p, r) ∷ k) h
    go false = h

told_are : (now : ℕ) (which : Selection) (es : List Entry) → map_entries (told_route now which) es ≡ filter (λ t. selected which t.1) (map_entries (settled now which) es)
told_are now which [] = refl
told_are now which (e ∷ es) = told_one which e.0 (settled now which e.1) _ _ (told_are now which es)

-- the routes that an update tells are those of the settled table that it selects
pub told-entries : (now : ℕ) (which : Selection) (t : Table) → map_entries (told_route now which) (entries t) ≡ filter (λ e. selected which e.1) (entries (settled_table now which t))
told-entries now which t = told_are now which (entries t) ∙ ap (filter (λ e. selected which e.1)) (sym (entries-map_values (settled now which) t))

any_one : (which : Selection) (p : Prefix6) (o : Option RouteValue) (a : Bool) (m : List Entry) → a ≡ list_any (λ t. selected which t.1) m
    → (is_some (option_and_then (λ left. cond (selected which left) (Some left) None) o) || a) ≡ list_any (λ t. selected which t.1) (cons_option (option_map (λ y. (p, y)) o) m)
any_one which p None a m h = h
any_one which p (Some r) a m h = go (selected which r)
  where
    go : (b : Bool) → (is_some (cond b (Some r) None) || a) ≡ (b || list_any (λ t. selected which t.1) m)
    go true = refl
    go false = h

any_told : (now : ℕ) (which : Selection) (es : List Entry) → list_any (λ t. is_some (told_route now which t.1)) es ≡ list_any (λ t. selected which t.1) (map_entries (settled now which) es)
any_told now which [] = refl
any_told now which (e ∷ es) = any_one which e.0 (settled now which e.1) _ _ (any_told now which es)

-- there is a route to be told where the settled table has one
pub told-table : (now : ℕ) (which : Selection) (t : Table) → list_any (λ t. is_some (told_route now which t.1)) (entries t) ≡ list_any (λ t. selected which t.1) (entries (settled_table now which t))
told-table now which t = any_told now which (entries t) ∙ ap (list_any (λ t. selected which t.1)) (sym (entries-map_values (settled now which) t))

pub filter-all : {X : Type 0} (xs : List X) → xs ≡ filter (λ x. true) xs
filter-all [] = refl
filter-all (x ∷ xs) = ap (λ l. x ∷ l) (filter-all xs)
