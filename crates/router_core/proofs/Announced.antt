-- What an interface announces: of a table and of its entries, and as an update is made. Where nothing is kept back it is all.
use Rattle.std.proofs.Common.{◌≡◌, ℕ, ◌≤◌, ◌==◌, Bool, true, false, ◌&&◌, ◌||◌, not, cond, IsTrue, List, [], ◌∷◌, filter, length, Option, None, is_some, option_and_then, T, refl, ap, ap₂, sym, ◌∙◌, arith}
use Rattle.std.specs.List.{list_any, cons_option, filter_map}
use Rattle.std.specs.FinMap.{get, entries, entries_sorted, entries-from_sorted, from_sorted, get-entries, get-from_sorted, is_sorted, len, same_map, get-retain_keys, len-entries}
use Rattle.std.specs.FinMap.Entries.{find-where_key, is_sorted-where_key}
use Rattle.std.specs.declared.cmp.Ordering.TheVariants.{Equal}
use Rattle.prefix6.specs.Prefix.{Prefix6, prefix_cmp}
use Rattle.prefix6.proofs.PrefixLaws.{prefixes_total, exact_prefixes}
use Rattle.route_table.specs.Route.{RouteValue}
use Rattle.route_table.specs.Summary.{meets}
use Rattle.route_table.specs.Table.{Table, map_entries}
use Rattle.route_table.proofs.TableLaws.{fewer, get-map_values}
use Rattle.router_core.specs.Announcing.{is_announced, announced, announced_of}
use Rattle.router_core.specs.Config.{Config}
use Rattle.router_core.specs.Lists.{is_accept, names, is_accepted_by, lets_through}
use Rattle.router_core.specs.Output.{selected}
use Rattle.router_core.specs.Settling.{settled, settled_table, told_route, may_be_told}
use Rattle.router_core.specs.declared.filter.Filter.{Filter}
use Rattle.router_core.specs.declared.tell.Selection.{Selection}
use Rattle.router_core.proofs.DueRoutes.{Entry, told-entries, told-table, not_told-test}

-- ---- lists and tests

and_false : (b : Bool) → (b && false) ≡ false
and_false true = refl
and_false false = refl

-- where no element passes one test, none passes a stricter one
none_stricter : {X : Type 0} (p q : X → Bool) → ((x : X) → p x ≡ false → q x ≡ false) → (xs : List X) → list_any p xs ≡ false → list_any q xs ≡ false
none_stricter p q stricter [] none = refl
none_stricter {X = X} p q stricter (x ∷ xs) none = by_test (p x) refl none (none_stricter p q stricter xs)
  where
    by_test : (b : Bool) → p x ≡ b → (b || list_any p xs) ≡ false → (list_any p xs ≡ false → list_any q xs ≡ false) → (q x || list_any q xs) ≡ false
    by_test true is h rest = absurd cc
    by_test false is h rest = ap₂ (λ a b. a || b) (stricter x is) (rest h)

-- what passes two tests is of those that pass the first
any_filtered : {X : Type 0} (p q : X → Bool) (xs : List X) → list_any (λ x. p x && q x) xs ≡ list_any q (filter p xs)
any_filtered p q [] = refl
any_filtered {X = X} p q (x ∷ xs) = by_test (p x) (any_filtered p q xs)
  where
    by_test : (b : Bool) → list_any (λ y. p y && q y) xs ≡ list_any q (filter p xs)
        → ((b && q x) || list_any (λ y. p y && q y) xs) ≡ list_any q (cond b (x ∷ filter p xs) (filter p xs))
    by_test true rest = ap (λ b. q x || b) rest
    by_test false rest = rest

filter_passed : {X : Type 0} (p : X → Bool) → ((x : X) → p x ≡ true) → (xs : List X) → filter p xs ≡ xs
filter_passed p all [] = refl
filter_passed p all (x ∷ xs) = ap (λ b. cond b (x ∷ filter p xs) (filter p xs)) (all x) ∙ ap (λ l. x ∷ l) (filter_passed p all xs)

-- a map of what passes drops the rest
pub mapped_filtered : {X Y : Type 0} (p : X → Bool) (f : X → Option Y) (xs : List X) → filter_map (λ x. cond (p x) (f x) None) xs ≡ filter_map f (filter p xs)
mapped_filtered p f [] = refl
mapped_filtered {X = X} {Y = Y} p f (x ∷ xs) = by_test (p x) (mapped_filtered p f xs)
  where
    by_test : (b : Bool) → filter_map (λ y. cond (p y) (f y) None) xs ≡ filter_map f (filter p xs)
        → cons_option (cond b (f x) None) (filter_map (λ y. cond (p y) (f y) None) xs) ≡ filter_map f (cond b (x ∷ filter p xs) (filter p xs))
    by_test true rest = ap (cons_option (f x)) rest
    by_test false rest = rest

pub filter_fewer : {X : Type 0} (p : X → Bool) (xs : List X) → length (filter p xs) ≤ length xs
filter_fewer p [] = omega arith
filter_fewer {X = X} p (x ∷ xs) = by_test (p x) (filter_fewer p xs)
  where
    by_test : (b : Bool) → length (filter p xs) ≤ length xs → length (cond b (x ∷ filter p xs) (filter p xs)) ≤ length (x ∷ xs)
    by_test true rest = omega arith
    by_test false rest = omega arith

-- ---- an interface without filters of what goes out

unfiltered : (filters : List Filter) (iface : ℕ) (p : Prefix6) → list_any (λ (f : Filter). f.iface == iface) filters ≡ false → lets_through filters iface p ≡ true
unfiltered filters iface p none =
    ap₂ (λ rejected alone. not rejected && (not alone || is_accepted_by filters iface p))
    (none_stricter (λ (f : Filter). f.iface == iface) (λ (f : Filter). f.iface == iface && not (is_accept f.action) && names f p)
    (λ f other. ap (λ b. b && not (is_accept f.action) && names f p) other) filters none)
    (none_stricter (λ (f : Filter). f.iface == iface) (λ (f : Filter). f.iface == iface && is_accept f.action)
    (λ f other. ap (λ b. b && is_accept f.action) other) filters none)

-- where it is said that there is none, every prefix is let through
pub unfiltered_if : (filters : List Filter) (iface : ℕ) (some : Bool) → some ≡ list_any (λ (f : Filter). f.iface == iface) filters
    → IsTrue (not some) → (p : Prefix6) → lets_through filters iface p ≡ true
unfiltered_if filters iface false is none p = unfiltered filters iface p (sym is)
unfiltered_if filters iface true is none p = absurd (cc)

module _ (config : Config) (iface : ℕ) where
  pub announces_every : config.announcements ≡ [] → (p : Prefix6) → is_announced config iface p ≡ true
  announces_every none p = ap (λ (fs : List Filter). lets_through fs iface p) none

  pub all_of : ((p : Prefix6) → is_announced config iface p ≡ true) → (es : List Entry) → announced_of config iface es ≡ es
  all_of all es = filter_passed (λ (e : Entry). is_announced config iface e.0) (λ e. all e.0) es

  -- ---- of a table

  announced_alike : (p q : Prefix6) → prefix_cmp p q ≡ Equal → is_announced config iface q ≡ is_announced config iface p
  announced_alike p q tie = ap (is_announced config iface) (sym (exact_prefixes p q tie))

  -- an interface announces a route of the table, or none
  pub announced_has : (t : Table) (p : Prefix6) → get (announced config iface t) p ≡ cond (is_announced config iface p) (get t p) None
  announced_has t p = get-retain_keys t (is_announced config iface) p (announced_alike p)

  pub announced_sorted : (t : Table) → T (is_sorted prefix_cmp (announced_of config iface (entries t)))
  announced_sorted t = is_sorted-where_key prefix_cmp (is_announced config iface) (entries t) (entries_sorted t)

  pub announced_entries : (t : Table) → entries (announced config iface t) ≡ announced_of config iface (entries t)
  announced_entries t = ap entries same ∙ entries-from_sorted prefix_cmp (announced_of config iface (entries t)) (announced_sorted t)
    where
      same : announced config iface t ≡ from_sorted (announced_of config iface (entries t))
      same = same_map prefixes_total exact_prefixes _ _ (λ q.
          announced_has t q
          ∙ ap (λ o. cond (is_announced config iface q) o None) (get-entries t q)
          ∙ sym (find-where_key prefix_cmp (is_announced config iface) q (announced_alike q) (entries t))
          ∙ sym (get-from_sorted prefix_cmp (announced_of config iface (entries t)) q (announced_sorted t)))

  -- without filters of what goes out it announces the table
  pub announced_all : config.announcements ≡ [] → (t : Table) → announced config iface t ≡ t
  announced_all none t = same_map prefixes_total exact_prefixes _ _ (λ q. announced_has t q ∙ ap (λ b. cond b (get t q) None) (announces_every none q))

  -- ---- as an update is made

  -- an update tells the route on the interface
  abbrev pub is_told_on : ℕ → Selection → Entry → Bool
  is_told_on now which e = is_announced config iface e.0 && is_some (told_route now which e.1)

  pub not_told_on : (now : ℕ) (which : Selection) (e : Entry) → meets (may_be_told now which) e.1 ≡ false → is_told_on now which e ≡ false
  not_told_on now which e fails = ap (λ b. is_announced config iface e.0 && b) (not_told-test now which e fails) ∙ and_false (is_announced config iface e.0)

  module _ (now : ℕ) (which : Selection) (t : Table) where
    abbrev tests : Entry → Bool
    tests e = is_announced config iface e.0

    settled_cond : (b : Bool) (o : Option RouteValue) → option_and_then (settled now which) (cond b o None) ≡ cond b (option_and_then (settled now which) o) None
    settled_cond true o = refl
    settled_cond false o = refl

    -- what is announced is settled, and what is settled announced
    settled_announced : settled_table now which (announced config iface t) ≡ announced config iface (settled_table now which t)
    settled_announced = same_map prefixes_total exact_prefixes _ _ (λ q.
        get-map_values (settled now which) (announced config iface t) q
        ∙ ap (option_and_then (settled now which)) (announced_has t q)
        ∙ settled_cond (is_announced config iface q) (get t q)
        ∙ ap (λ o. cond (is_announced config iface q) o None) (sym (get-map_values (settled now which) t q))
        ∙ sym (announced_has (settled_table now which t) q))

    pub announced_told : map_entries (told_route now which) (announced_of config iface (entries t))
        ≡ filter (λ e. selected which e.1) (entries (announced config iface (settled_table now which t)))
    announced_told =
        ap (map_entries (told_route now which)) (sym (announced_entries t))
        ∙ told-entries now which (announced config iface t)
        ∙ ap (λ (u : Table). filter (λ e. selected which e.1) (entries u)) settled_announced

    pub announced_any : list_any (is_told_on now which) (entries t)
        ≡ list_any (λ e. selected which e.1) (entries (announced config iface (settled_table now which t)))
    announced_any =
        any_filtered tests (λ e. is_some (told_route now which e.1)) (entries t)
        ∙ ap (list_any (λ (e : Entry). is_some (told_route now which e.1))) (sym (announced_entries t))
        ∙ told-table now which (announced config iface t)
        ∙ ap (λ (u : Table). list_any (λ e. selected which e.1) (entries u)) settled_announced

    pub announced_few : length (map_entries (told_route now which) (announced_of config iface (entries t))) ≤ len t
    announced_few =
        omega (arith, fewer (told_route now which) (announced_of config iface (entries t)), filter_fewer tests (entries t), len-entries t)
