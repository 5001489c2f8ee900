-- What a tick makes of a whole table, from what it makes of each route.
use Rattle.std.proofs.Common.{◌≡◌, Option, Some, None, option_and_then, refl, ap, sym, ◌∙◌}
use Rattle.std.specs.FinMap as map
use Rattle.prefix6.proofs.PrefixLaws.{prefixes_total, exact_prefixes}
use Rattle.route_table.specs.Table.{ByPrefix, map_values}
use Rattle.route_table.proofs.TableLaws.{get-map_values}

-- one map of values after another is the map of both
pub map_values-twice : {X Y Z : Type 0} (f : X → Option Y) (g : Y → Option Z) (t : ByPrefix X) → map_values g (map_values f t) ≡ map_values (λ x. option_and_then g (f x)) t
map_values-twice {X = X} f g t =
    map.same_map prefixes_total exact_prefixes _ _ (λ p.
    get-map_values g (map_values f t) p ∙ ap (option_and_then g) (get-map_values f t p) ∙ after (map.get t p)
    ∙ sym (get-map_values (λ x. option_and_then g (f x)) t p))
  where
    after : (o : Option X) → option_and_then g (option_and_then f o) ≡ option_and_then (λ x. option_and_then g (f x)) o
    after None = refl
    after (Some x) = refl
