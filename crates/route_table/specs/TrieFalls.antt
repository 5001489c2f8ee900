-- Each child of a fork has fewer entries.
use Rattle.std.specs.Prelude.{◌≤◌, [], ◌∷◌, ◌++◌, length, Option, Box}
use Rattle.std.specs.declared.alloc.Global.{Global}
use Rattle.std.proofs.Common.{arith, length-append}
use Rattle.prefix6.specs.Prefix.{Prefix6}
use Rattle.route_table.specs.Route.{RouteValue}
use Rattle.route_table.specs.Summary.{SummaryValue}
use Rattle.route_table.specs.declared.trie.Node.{Node}
use Rattle.route_table.specs.declared.trie.Node.TheVariants.{Empty, Leaf, Fork}
use Rattle.route_table.specs.declared.trie.Fork.TheDeep.{deep-Fork}
use Rattle.route_table.specs.Trie.{linked, owned, fork_entries, AreShared, HasEntries}

-- a child of a node is smaller than the node
pub children_smaller : (p : Prefix6) (s : SummaryValue) (own : Option (Box (Prefix6 × RouteValue) Global)) (low high : Node) → AreShared (owned own) (linked low) (linked high) → HasEntries low → HasEntries high → deep-Fork (record { prefix = p; summary = s; own = own; low = low; high = high }) ≤ length (fork_entries own low high)
children_smaller p s own Empty Empty h l u = omega arith
children_smaller p s own Empty (Leaf b) h l u = omega arith
children_smaller p s own Empty (Fork b) h l u = omega (arith, h.not_high_alone, length-append (owned own) b.value)
children_smaller p s own (Leaf a) Empty h l u = omega arith
children_smaller p s own (Leaf a) (Leaf b) h l u = omega arith
children_smaller p s own (Leaf a) (Fork b) h l u = omega (arith, length-append (owned own) (a.value ∷ b.value))
children_smaller p s own (Fork a) Empty h l u = omega (arith, h.not_low_alone, length-append (owned own) (a.value ++ []), length-append a.value [])
children_smaller p s own (Fork a) (Leaf b) h l u = omega (arith, length-append (owned own) (a.value ++ (b.value ∷ [])), length-append a.value (b.value ∷ []))
children_smaller p s own (Fork a) (Fork b) h l u = omega (arith, h.not_low_alone, h.not_high_alone, length-append (owned own) (a.value ++ b.value), length-append a.value b.value)
