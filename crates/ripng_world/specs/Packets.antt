-- Where packets go: from router to router, as the forwarding table of each one says.
use Rattle.std.specs.Prelude.{◌≡◌, ℕ, ◌<◌, ◌≤◌, List, [], ◌∷◌, map, length, Option, Some, option_map, slice_get, nat_eq}
use Rattle.ripng_world.specs.Below.{IsDistinct, Prefix6, Holds, Forward, Forwarding, IsLongestMatch, FibHop, Direct, Via, infinity, forwards, State}
use Rattle.std.specs.FinMap as map_of
use Rattle.ripng_world.specs.Asked.{Asked}
use Rattle.ripng_world.specs.AskedRounds.{AreMade}
use Rattle.ripng_world.specs.Convergence.{IsNeverQuiet}
use Rattle.ripng_world.specs.Healing.{AreWithinGarbageTime, FitsTablesSince, network_now}
use Rattle.ripng_world.specs.Rounds.{Round}
use Rattle.ripng_world.specs.Network.{Network, Node, Owns, interface_at}
use Rattle.ripng_world.specs.Walks.{Hop, IsHop, Reaches, cost, end_of}
use Rattle.ripng_world.specs.World.{World, past_of}

-- ---- forwarding tables

-- the forwarding table of each router that has one
abbrev pub Forwardings : Type 0
Forwardings = ℕ → Option Forwarding

-- the router forwards packets for the address by the hop of its longest match
pub record ForwardsBy (fibs : Forwardings) (addr router : ℕ) (hop : FibHop) : Type 0 where
  pub table : Forwarding
  pub table_is : fibs router ≡ Some table
  pub longest : IsLongestMatch table addr hop

-- ---- ways

-- it hands them on across a hop of the network: by the interface there, to a next hop that is the address where the hop ends
pub record HandsOn (net : Network) (fibs : Forwardings) (addr router : ℕ) (h : Hop) : Type 0 where
  pub next_hop : ℕ
  pub by : ForwardsBy fibs addr router (Via h.iface next_hop)
  pub is_hop : IsHop net router h
  pub address : option_map (λ i. i.interface.addr) (interface_at net h.router h.router_iface) ≡ Some next_hop

-- it delivers them itself
abbrev pub DeliversItself : Forwardings → ℕ → ℕ → Type 0
DeliversItself fibs addr router = ForwardsBy fibs addr router Direct

-- they arrive by the hops: each router hands them on across the next, and the last delivers them
abbrev pub ArriveBy : Network → Forwardings → ℕ → ℕ → List Hop → Type 0
ArriveBy net fibs addr router [] = DeliversItself fibs addr router
ArriveBy net fibs addr router (h ∷ way) = HandsOn net fibs addr router h × ArriveBy net fibs addr h.router way

-- the routers that a walk from that one comes to, with it
abbrev pub routers_of : ℕ → List Hop → List ℕ
routers_of router way = router ∷ map (λ h. h.router) way

-- packets for the address arrive from the router: past no router twice, so in fewer hops than there are routers, at an owner of a
-- prefix that holds the address and is no shorter than what the router matched
pub record Arrive (net : Network) (fibs : Forwardings) (addr router : ℕ) : Type 0 where
  pub way : List Hop
  pub arrive : ArriveBy net fibs addr router way
  pub once : IsDistinct nat_eq (routers_of router way)
  pub few_hops : length way < length net
  pub prefix : Prefix6
  pub tag : ℕ
  pub owner : Owns net (end_of router way) prefix tag
  pub holds : Holds prefix addr
  pub no_shorter : (hop : FibHop) (first : ForwardsBy fibs addr router hop) → first.longest.prefix.len ≤ prefix.len

-- so they do from every router that forwards them
abbrev pub AllArrive : Network → Forwardings → Type 0
AllArrive net fibs = (addr router : ℕ) (hop : FibHop) → ForwardsBy fibs addr router hop → Arrive net fibs addr router

-- and wherever a walk that costs less than infinity leads to an owner of a prefix that holds the address
abbrev pub AllReachableArrive : Network → Forwardings → Type 0
AllReachableArrive net fibs =
    (addr router : ℕ) (p : Prefix6) (metric tag : ℕ) (walk : List Hop) → Reaches net router p metric tag walk → metric < infinity → Holds p addr → Arrive net fibs addr router

-- ---- costs

-- the routers hand them on across these hops, each by the same prefix
abbrev pub HandOnBy : Network → Forwardings → ℕ → Prefix6 → ℕ → List Hop → Type 0
HandOnBy net fibs addr p router [] = Unit {0}
HandOnBy net fibs addr p router (h ∷ way) = (hands : HandsOn net fibs addr router h) × (hands.by.longest.prefix ≡ p) × HandOnBy net fibs addr p h.router way

-- as long as packets stay with a prefix, they cost no more than the metric at which the first router forwards to it
abbrev pub NoneCostMore : Network → Forwardings → Type 0
NoneCostMore net fibs =
    (addr router : ℕ) (p : Prefix6) (table : Forwarding) (f : Forward) (way : List Hop)
    → fibs router ≡ Some table → map_of.get table p ≡ Some f → HandOnBy net fibs addr p router way → cost net router way ≤ f.metric

-- all this together
pub record PacketsArriveBy (net : Network) (fibs : Forwardings) : Type 0 where
  pub forwarded : AllArrive net fibs
  pub reachable : AllReachableArrive net fibs
  pub costs : NoneCostMore net fibs

-- ---- worlds

-- the forwarding tables of a world's routers are those of their tables
abbrev pub forwardings_of : World → Forwardings
forwardings_of w router = option_map (λ s. forwards s.table) (slice_get w.states router)

-- each router of the network has a state
abbrev pub AreThere : Network → World → Type 0
AreThere net w = (router : ℕ) (node : Node) → slice_get net router ≡ Some node → (state : State) × (slice_get w.states router ≡ Some state)

-- packets arrive in a network by the tables of a world
abbrev pub PacketsArrive : Network → World → Type 0
PacketsArrive net w = PacketsArriveBy net (forwardings_of w)

-- whatever happened before, 26 rounds leave a network in which packets arrive
abbrev pub LetsArrive : Network → World → List Asked → World → Type 0
LetsArrive net w asked w' =
    (rounds : List Round) → IsNeverQuiet net → FitsTablesSince (past_of net w) → AreMade net w asked rounds w' → AreWithinGarbageTime rounds → 26 ≤ length asked
    → PacketsArrive (network_now (past_of net w')) w'
