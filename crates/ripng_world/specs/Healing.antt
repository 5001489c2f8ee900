-- What a network becomes in counted rounds, whatever happened to it before: costs and owners of now, and nothing else.
use Rattle.std.specs.Prelude.{◌≡◌, ℕ, ◌+◌, ◌<◌, ◌≤◌, List, [], ◌∷◌, ◌++◌, fold, length, Contains, Some, unwrap_or, option_map, slice_get, slice_set}
use Rattle.ripng_world.specs.Below.{Prefix6, RouteValue, infinity, Table, table_limit, State, without_prefix, garbage_time, Change, Cost, Own, Disown, NetInterface}
use Rattle.std.specs.FinMap as map_of
use Rattle.ripng_world.specs.Asked.{Asked}
use Rattle.ripng_world.specs.AskedRounds.{AreMade}
use Rattle.ripng_world.specs.Convergence.{IsNeverQuiet, AreLetThrough}
use Rattle.ripng_world.specs.Network.{Network, Node}
use Rattle.ripng_world.specs.Past.{Past, OwnsSince}
use Rattle.ripng_world.specs.Rounds.{Round, IsMomentOf}
use Rattle.ripng_world.specs.Walks.{IsBackedBy, IsLeast, IsTableBackedBy, Reaches}
use Rattle.ripng_world.specs.World.{World, Tick, past_of}

-- ---- the network as it is now

-- one interface costs another amount
abbrev pub with_link_cost : List NetInterface → ℕ → ℕ → List NetInterface
with_link_cost interfaces iface cost =
    unwrap_or (option_map (λ i. slice_set interfaces iface (record i { interface = record i.interface { cost = cost } })) (slice_get interfaces iface)) interfaces

-- what a router is configured with after a change
abbrev pub reconfigured_node : Node → Change → Node
reconfigured_node node (Cost iface cost) = record node { interfaces = with_link_cost node.interfaces iface cost }
reconfigured_node node (Own p tag) = record node { prefixes = node.prefixes ++ (p, tag) ∷ [] }
reconfigured_node node (Disown p) = record node { prefixes = without_prefix node.prefixes p }

-- the network after a change that one router has done
abbrev pub reconfigured_network : Network → ℕ × Change → Network
reconfigured_network net done = unwrap_or (option_map (λ node. slice_set net done.0 (reconfigured_node node done.1)) (slice_get net done.0)) net

-- the network after all changes that were done: its costs and owners are those of now
abbrev pub network_now : Past → Network
network_now past = fold reconfigured_network past.net past.reconfigurations

-- no more distinct prefixes than a table holds were ever owned; where there are filters and limits, they let all of them through, in and out
abbrev pub FitsTablesSince : Past → Type 0
FitsTablesSince past =
    (owned : List Prefix6) × (length owned ≤ table_limit) × ((router : ℕ) (p : Prefix6) (tag : ℕ) → OwnsSince past router p tag → Contains owned p)
    × AreLetThrough past.net (λ p. (router : ℕ) × (tag : ℕ) × OwnsSince past router p tag) (length owned)

-- ---- rounds that follow one another closely

-- the router ticks at that moment in the round
abbrev pub IsTickOf : Round → ℕ → ℕ → Type 0
IsTickOf round router moment = (word : ℕ) × Contains round.ticks (Tick router moment word)

-- a router ticks less than a garbage time after its tick of the round before, and all that it receives in a round comes less
-- than that after its tick of the round
abbrev pub AreWithinGarbageTimeAfter : (ℕ → ℕ → Type 0) → List Round → Type 0
AreWithinGarbageTimeAfter before [] = Unit {0}
AreWithinGarbageTimeAfter before (round ∷ rounds) =
    ((router x y : ℕ) → before router x → IsTickOf round router y → y < x + garbage_time)
    × ((router x y : ℕ) → IsTickOf round router x → IsMomentOf round router y → y < x + garbage_time)
    × AreWithinGarbageTimeAfter (IsTickOf round) rounds

-- the same from the first round on
abbrev pub AreWithinGarbageTime : List Round → Type 0
AreWithinGarbageTime rounds = AreWithinGarbageTimeAfter (λ _ _. ⊥) rounds

-- ---- what is left

-- each route below infinity has a walk of its metric that begins as its origin says, to an owner of its prefix under any tag
abbrev pub IsLed : Network → ℕ → Table → Type 0
IsLed net router table = IsTableBackedBy (λ p r. IsBackedBy (λ metric told walk. (tag : ℕ) × Reaches net router p metric tag walk) net r) table

-- the routes below infinity have exactly the least costs, and lead along walks that cost so; and there is one wherever the least
-- cost is below infinity
pub record IsHealed (net : Network) (router : ℕ) (table : Table) : Type 0 where
  pub least : (p : Prefix6) (r : RouteValue) → map_of.get table p ≡ Some r → r.metric < infinity → IsLeast net router p r.metric
  pub led : IsLed net router table
  pub found : (p : Prefix6) (metric : ℕ) → IsLeast net router p metric → metric < infinity → (r : RouteValue) × (map_of.get table p ≡ Some r) × (r.metric ≡ metric)

-- the same of all tables
abbrev pub AreHealed : Network → World → Type 0
AreHealed net w = (router : ℕ) (state : State) → slice_get w.states router ≡ Some state → IsHealed net router state.table

-- whatever happened before, 26 rounds leave each table with the least costs of now, and nothing else
abbrev pub Heals : Network → World → List Asked → World → Type 0
Heals net w asked w' =
    (rounds : List Round) → IsNeverQuiet net → FitsTablesSince (past_of net w) → AreMade net w asked rounds w' → AreWithinGarbageTime rounds → 26 ≤ length asked
    → AreHealed (network_now (past_of net w')) w'
