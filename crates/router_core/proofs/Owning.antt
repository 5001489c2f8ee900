-- The table of owned prefixes, made one by one.
use Rattle.std.proofs.Common.{◌≡◌, ℕ, ◌+◌, Bool, true, false, cond, ◌||◌, List, [], ◌∷◌, map, take, Some, None, is_some, slice_get, refl, ap, ap₂, sym, ◌∙◌, add-one}
use Rattle.std.specs.List.{list_any}
use Rattle.std.specs.FinMap as map_of
use Rattle.std.specs.FinMap.{find}
use Rattle.std.proofs.lemmas.List.{map-append}
use Rattle.prefix6.specs.Prefix.{Prefix6, prefix_cmp, same_prefix}
use Rattle.prefix6.proofs.PrefixLaws.{prefixes_total, exact_prefixes}
use Rattle.route_table.specs.Route.{RouteValue}
use Rattle.route_table.specs.Table.{Table}
use Rattle.router_core.specs.Config.{Config, IsConfig}
use Rattle.router_core.specs.Owning.{owned_route}
use Rattle.router_core.proofs.ConfigLaws.{prefix_is_new}
use Rattle.router_core.proofs.HearingSteps.{take_push, same_as_key}

abbrev own : Prefix6 × ℕ → Prefix6 × RouteValue
own t = (t.0, owned_route t.1)

-- a prefix that is not among some is not in their table
absent : (xs : List (Prefix6 × ℕ)) (p : Prefix6) → list_any (λ e. same_prefix e.0 p) xs ≡ false → find prefix_cmp p (map own xs) ≡ None
absent [] p h = refl
absent (x ∷ xs) p h = by_first (same_prefix x.0 p) refl (absent xs p) h
  where
    by_first : (b : Bool) → same_prefix x.0 p ≡ b → (list_any (λ e. same_prefix e.0 p) xs ≡ false → find prefix_cmp p (map own xs) ≡ None)
        → (b || list_any (λ e. same_prefix e.0 p) xs) ≡ false → find prefix_cmp p (map own (x ∷ xs)) ≡ None
    by_first true is rest h' = absurd (cc)
    by_first false is rest h' = ap (λ b. cond b (Some (owned_route x.1)) (find prefix_cmp p (map own xs))) (sym (same_as_key x.0 p) ∙ is) ∙ rest h'

-- the table of the first owned prefixes
pub record OwnsFirst (c : Config) (i : ℕ) (t : Table) : Type 0 where
  pub table : t ≡ map_of.from_entries (map own (take i c.prefixes))
  pub size : map_of.len t ≡ i

pub OwnsFirst-none : (c : Config) (t : Table) → t ≡ map_of.empty → OwnsFirst c 0 t
OwnsFirst-none c t is = record { table = is; size = ap map_of.len is ∙ map_of.len-empty prefix_cmp RouteValue }

module _ (c : Config) (lawful : IsConfig c) (i : ℕ) (t : Table) (x : Prefix6 × ℕ) (so_far : OwnsFirst c i t) (is : slice_get c.prefixes i ≡ Some x) where
  none_there : find prefix_cmp x.0 (map own (take i c.prefixes)) ≡ None
  none_there = absent (take i c.prefixes) x.0 (prefix_is_new c lawful i x is)

  -- the next prefix has no route yet
  pub OwnsFirst-absent : map_of.get t x.0 ≡ None
  OwnsFirst-absent = ap (λ m. map_of.get m x.0) so_far.table ∙ map_of.get-from_entries prefixes_total (map own (take i c.prefixes)) x.0 ∙ none_there

  pub OwnsFirst-next : (u : Table) → u ≡ map_of.insert t x.0 (owned_route x.1) → OwnsFirst c (i + 1) u
  OwnsFirst-next u added = record {
    table =
        added ∙ ap (λ m. map_of.insert m x.0 (owned_route x.1)) so_far.table
        ∙ sym (map_of.from_entries_push prefixes_total exact_prefixes (map own (take i c.prefixes)) x.0 (owned_route x.1) none_there)
        ∙ ap map_of.from_entries (sym (ap (λ n. map own (take n c.prefixes)) (add-one i) ∙ ap (map own) (take_push c.prefixes i x is) ∙ map-append own (take i c.prefixes) (x ∷ [])));
    size =
        ap map_of.len added ∙ map_of.len-insert prefixes_total t x.0 (owned_route x.1)
        ∙ ap₂ (λ b n. cond b n (n + 1)) (ap is_some OwnsFirst-absent) so_far.size;
  }
