-- The changes of a start and of a tick, replayed, give the new forwarding table.
use Rattle.std.proofs.Common.{◌≡◌, ℕ, Bool, true, false, cond, T, List, [], ◌∷◌, ◌++◌, reverse, find, filter_map, Option, Some, None, option_map, option_and_then, unwrap_or, refl, ap, ap₂, sym, ◌∙◌}
use Rattle.std.specs.List.{cons_option}
use Rattle.std.specs.Option.{option_or}
use Rattle.std.specs.FinMap as map_of
use Rattle.std.specs.FinMap.{is_sorted}
use Rattle.std.specs.FinMap.{find as find_key}
use Rattle.std.specs.Ordering.{eq_by_cmp}
use Rattle.std.proofs.lemmas.List.{reverse-append}
use Rattle.std.proofs.lemmas.Map.Views.{tells_apart}
use Rattle.prefix6.specs.Prefix.{Prefix6, prefix_cmp, same_prefix}
use Rattle.prefix6.proofs.PrefixLaws.{exact_prefixes}
use Rattle.fib.specs.declared.change.RouteChange.{RouteChange}
use Rattle.fib.specs.Forwarding.{same_forward, prefix_of, forward_of, change_to, last_change, Replays}
use Rattle.route_table.specs.Route.{RouteValue}
use Rattle.route_table.specs.Table.{Table, map_values}
use Rattle.route_table.proofs.TableLaws.{Some-same, None-Some, none_later, sorted_tail, get-map_values}
use Rattle.router_core.specs.Ageing.{aged, aged_table}
use Rattle.router_core.specs.Changes.{forward, forwards, change, changes_of_start, changes_of_ageing}
use Rattle.router_core.specs.LinkDown.{after_link_down, table_after_link_down, changes_of_link_down}
use Rattle.router_core.proofs.HearingSteps.{same_as_key}
use Rattle.router_core.proofs.Replaying.{same_forward-true, prefix-change_to, forward-change_to}

find_append : {X : Type 0} (test : X → Bool) (xs ys : List X) → find test (xs ++ ys) ≡ option_or (find test xs) (find test ys)
find_append test [] ys = refl
find_append test (x ∷ xs) ys =
    elim (test x) as (λ b. cond b (Some x) (find test (xs ++ ys)) ≡ option_or (cond b (Some x) (find test xs)) (find test ys)) [ true ↦ refl | false ↦ find_append test xs ys ]

last_cons : (c : RouteChange) (cs : List RouteChange) (p : Prefix6) → last_change (c ∷ cs) p ≡ option_or (last_change cs p) (cond (same_prefix (prefix_of c) p) (Some c) None)
last_cons c cs p =
    ap (find (λ d. same_prefix (prefix_of d) p)) (reverse-append (c ∷ []) cs) ∙ find_append (λ d. same_prefix (prefix_of d) p) (reverse cs) (c ∷ [])

or_none : {X : Type 0} (o : Option X) → option_or o None ≡ o
or_none None = refl
or_none (Some x) = refl

module _ (old new : RouteValue → Option RouteValue) where
  abbrev change_of : Prefix6 → RouteValue → Option RouteChange
  change_of p r = change p (old r) (new r)

  abbrev changes : List (Prefix6 × RouteValue) → List RouteChange
  changes es = filter_map (λ t. change_of t.0 t.1) es

  -- the change of another prefix does not matter
  prefix-change_of : (p : Prefix6) (r : RouteValue) (c : RouteChange) → change_of p r ≡ Some c → prefix_of c ≡ p
  prefix-change_of p r c e = by_test (same_forward (option_and_then forward (old r)) (option_and_then forward (new r))) e
    where
      by_test : (b : Bool) → cond b None (Some (change_to p (option_and_then forward (new r)))) ≡ Some c → prefix_of c ≡ p
      by_test true is = absurd (None-Some c is)
      by_test false is = ap prefix_of (sym (Some-same _ c is)) ∙ prefix-change_to p (option_and_then forward (new r))

  last_head : (e : Prefix6 × RouteValue) (cs : List RouteChange) (p : Prefix6) (o : Option RouteChange) → change_of e.0 e.1 ≡ o
      → last_change (cons_option o cs) p ≡ option_or (last_change cs p) (cond (same_prefix e.0 p) o None)
  last_head e cs p None is =
      sym (elim (same_prefix e.0 p) as (λ b. option_or (last_change cs p) (cond b None None) ≡ last_change cs p) [ true ↦ or_none (last_change cs p) | false ↦ or_none (last_change cs p) ])
  last_head e cs p (Some c) is =
      last_cons c cs p ∙ ap (λ q. option_or (last_change cs p) (cond (same_prefix q p) (Some c) None)) (prefix-change_of e.0 e.1 c is)

  none_of : (es : List (Prefix6 × RouteValue)) (p : Prefix6) → find_key prefix_cmp p es ≡ None → last_change (changes es) p ≡ None
  none_of [] p e = refl
  none_of (e ∷ es) p is = by_tie (eq_by_cmp prefix_cmp p e.0) refl is (none_of es p)
    where
      by_tie : (b : Bool) → eq_by_cmp prefix_cmp p e.0 ≡ b → cond b (Some e.1) (find_key prefix_cmp p es) ≡ None → (find_key prefix_cmp p es ≡ None → last_change (changes es) p ≡ None)
          → last_change (cons_option (change_of e.0 e.1) (changes es)) p ≡ None
      by_tie true tie none rest = absurd (None-Some e.1 (sym none))
      by_tie false tie none rest =
          last_head e (changes es) p _ refl ∙ ap₂ (λ l b. option_or l (cond b (change_of e.0 e.1) None)) (rest none) (same_as_key e.0 p ∙ tie)

  one_of : (es : List (Prefix6 × RouteValue)) → T (is_sorted prefix_cmp es) → (p : Prefix6) (r : RouteValue) → find_key prefix_cmp p es ≡ Some r → last_change (changes es) p ≡ change_of p r
  one_of [] h p r e = absurd (None-Some r e)
  one_of (e ∷ es) h p r is = by_tie (eq_by_cmp prefix_cmp p e.0) refl is (one_of es (sorted_tail e es h) p r)
    where
      by_tie : (b : Bool) → eq_by_cmp prefix_cmp p e.0 ≡ b → cond b (Some e.1) (find_key prefix_cmp p es) ≡ Some r → (find_key prefix_cmp p es ≡ Some r → last_change (changes es) p ≡ change_of p r)
          → last_change (cons_option (change_of e.0 e.1) (changes es)) p ≡ change_of p r
      by_tie true tie one rest =
          let same : p ≡ e.0 = tells_apart exact_prefixes p e.0 tie in
          last_head e (changes es) p _ refl
          ∙ ap₂ (λ l b. option_or l (cond b (change_of e.0 e.1) None)) (none_of es p (ap (λ q. find_key prefix_cmp q es) same ∙ none_later e es h)) (same_as_key e.0 p ∙ tie)
          ∙ ap₂ change_of (sym same) (Some-same e.1 r one)
      by_tie false tie one rest =
          last_head e (changes es) p _ refl ∙ ap (λ b. option_or (last_change (changes es) p) (cond b (change_of e.0 e.1) None)) (same_as_key e.0 p ∙ tie)
          ∙ or_none (last_change (changes es) p) ∙ rest one

  left_by : (p : Prefix6) (r : RouteValue) → unwrap_or (option_map forward_of (change_of p r)) (option_and_then forward (old r)) ≡ option_and_then forward (new r)
  left_by p r = by_test (same_forward (option_and_then forward (old r)) (option_and_then forward (new r))) refl
    where
      by_test : (b : Bool) → same_forward (option_and_then forward (old r)) (option_and_then forward (new r)) ≡ b
          → unwrap_or (option_map forward_of (cond b None (Some (change_to p (option_and_then forward (new r)))))) (option_and_then forward (old r)) ≡ option_and_then forward (new r)
      by_test true same = same_forward-true _ _ same
      by_test false same = forward-change_to p (option_and_then forward (new r))

-- whatever each route becomes
pub mapped_replays : (f : RouteValue → Option RouteValue) (table : Table)
    → Replays (forwards table) (filter_map (λ t. change t.0 (Some t.1) (f t.1)) (map_of.entries table)) (forwards (map_values f table))
mapped_replays f table p =
    get-map_values forward (map_values f table) p ∙ ap (option_and_then forward) (get-map_values f table p)
    ∙ by_value (map_of.get table p) refl
    ∙ ap (unwrap_or (option_map forward_of (last_change all p))) (sym (get-map_values forward table p))
  where
    all : List RouteChange
    all = filter_map (λ t. change t.0 (Some t.1) (f t.1)) (map_of.entries table)

    by_value : (o : Option RouteValue) → map_of.get table p ≡ o
        → option_and_then forward (option_and_then f o) ≡ unwrap_or (option_map forward_of (last_change all p)) (option_and_then forward o)
    by_value None is = sym (ap (λ l. unwrap_or (option_map forward_of l) None) (none_of (λ r. Some r) f (map_of.entries table) p (sym (map_of.get-entries table p) ∙ is)))
    by_value (Some r) is =
        sym (left_by (λ r. Some r) f p r)
        ∙ ap (λ l. unwrap_or (option_map forward_of l) (forward r)) (sym (one_of (λ r. Some r) f (map_of.entries table) (map_of.entries_sorted table) p r (sym (map_of.get-entries table p) ∙ is)))

pub ageing_replays : (now : ℕ) (table : Table) → Replays (forwards table) (changes_of_ageing now table) (forwards (aged_table now table))
ageing_replays now table = mapped_replays (aged now) table

pub link_down_replays : (iface now : ℕ) (table : Table) → Replays (forwards table) (changes_of_link_down iface now table) (forwards (table_after_link_down iface now table))
link_down_replays iface now table = mapped_replays (λ r. Some (after_link_down iface now r)) table

pub starting_replays : (table : Table) → Replays map_of.empty (changes_of_start table) (forwards table)
starting_replays table p =
    get-map_values forward table p
    ∙ by_value (map_of.get table p) refl
    ∙ ap (unwrap_or (option_map forward_of (last_change (changes_of_start table) p))) (sym (map_of.get-empty prefix_cmp p))
  where
    by_value : (o : Option RouteValue) → map_of.get table p ≡ o → option_and_then forward o ≡ unwrap_or (option_map forward_of (last_change (changes_of_start table) p)) None
    by_value None is = sym (ap (λ l. unwrap_or (option_map forward_of l) None) (none_of (λ r. None) (λ r. Some r) (map_of.entries table) p (sym (map_of.get-entries table p) ∙ is)))
    by_value (Some r) is =
        sym (left_by (λ r. None) (λ r. Some r) p r)
        ∙ ap (λ l. unwrap_or (option_map forward_of l) None) (sym (one_of (λ r. None) (λ r. Some r) (map_of.entries table) (map_of.entries_sorted table) p r (sym (map_of.get-entries table p) ∙ is)))
