-- Networks of daemons by one true clock, in milliseconds, which no daemon sees: what is known of links and daemons that heal.
--
-- The law is `daemons_heal`. Whatever daemons did before: for 28 minutes none is started anew, shut down or reconfigured, no link goes
-- down, and none runs out of memory. Each ticks every half second, by a clock that is a constant behind the true one, within
-- less than half a second. Links keep order, lose no regular update, and take less than 13 seconds. Then each forwarding table has
-- exactly the least costs of now.
--
-- Each 59 seconds are then a phase. By its own clock a daemon's next regular update is due 45 seconds after any moment, at the latest;
-- half a second more is its clock's, another half until it ticks, and 13 seconds are the links'. And 118 seconds of the true clock are
-- less than the 120 for which a lost route is advertised, by any daemon's own.
use Rattle.std.specs.Prelude.{◌≡◌, ◌≢◌, ℕ, ◌+◌, ◌-◌, ◌^◌, ◌<◌, ◌≤◌, max, ◌⊎◌, ⊤, List, [], ◌∷◌, ◌++◌, map, length, All, Contains, Option, Some, None, slice_get}
use Rattle.ripngd_theorems.specs.Below.{AllByRecursion, Forward, Forwarding, Prefix6, infinity, Config, Note, NoMemory, Fault, Network, Node, AreLinked, config_of, IsLeast, Sent, Datagram, Gave, Machine, Processed, Arrived}
use Rattle.std.specs.FinMap as map_of
use Rattle.ripngd_theorems.specs.Daemons.{Act, Start, Listen, Tick, Reconfigure, Shutdown, LinkDown, Happened, Lives, own_deeds}
use Rattle.ripngd_theorems.specs.Links.{IsCopyOf, IsOfAStranger, LiveOn, handed_by, all_handed}

-- ---- deeds by the true clock

-- a deed, when it happened, and, if a link gave a datagram by it, the number of that among all that were ever handed over
pub record Dated : Type 0 where
  pub at : ℕ
  pub happened : Happened
  pub number : Option ℕ

-- the deeds alone
abbrev pub undated : List Dated → List Happened
undated history = map (λ t. t.happened) history

-- they happen from that moment on, one after another
abbrev pub HappenFrom : ℕ → List Dated → Type 0
HappenFrom start [] = ⊤
HappenFrom start (t ∷ history) = (start ≤ t.at) × HappenFrom t.at history

-- a link gave a copy of the datagram of that number, which was handed over before; with no number, an outside host's
abbrev pub IsNumbered : Network → List Sent → ℕ → Config → Act → Option ℕ → Type 0
IsNumbered net handed router config (Listen (Gave d)) (Some number) = (sent : Sent) × (slice_get handed number ≡ Some sent) × IsCopyOf net sent router d
IsNumbered net handed router config (Listen (Gave d)) None = IsOfAStranger config d
IsNumbered net handed router config act number = ⊤

-- the same of each deed, where this was handed over before the first
abbrev pub AreNumbered : Network → List Sent → List Dated → Type 0
AreNumbered net handed [] = ⊤
AreNumbered net handed (t ∷ history) =
    ((node : Node) → slice_get net t.happened.router ≡ Some node → IsNumbered net handed t.happened.router (config_of node) t.happened.deed.act t.number)
    × AreNumbered net (handed ++ handed_by t.happened) history

-- ---- daemons that go on

-- it starts no daemon anew and shuts none down, takes no link down, and changes no configuration. A link may come up, and a daemon may
-- ask its neighbors for their tables: that changes no table
abbrev pub IsPlain : Act → Type 0
IsPlain Start = ⊥
IsPlain (Reconfigure c) = ⊥
IsPlain Shutdown = ⊥
IsPlain (LinkDown on) = ⊥
IsPlain _ = ⊤

-- a daemon ticks, from one moment on and before another
pub record IsTickIn (history : List Dated) (router from until : ℕ) : Type 0 where
  pub tick : Dated
  pub stands : Contains history tick
  pub router_is : tick.happened.router ≡ router
  pub ticks : tick.happened.deed.act ≡ Tick
  pub not_before : from ≤ tick.at
  pub in_time : tick.at < until

-- a daemon's own clock is a constant behind the true one, within less than half a second; and it has not gone back
pub record KeepsTime (history : List Dated) (start router : ℕ) (daemon : Option Machine) : Type 0 where
  pub behind : ℕ
  pub moments : (t : Dated) (now : ℕ) → Contains history t → t.happened.router ≡ router → Contains t.happened.deed.trace.moments now
      → (behind + now ≤ t.at) × (t.at < behind + now + 500)
  pub before : (m : Machine) → daemon ≡ Some m → behind + m.router.last ≤ start

-- from one moment until another the daemons of a network, which had done this before, go on
pub record GoOn (net : Network) (before : List Happened) (daemons : ℕ → Option Machine) (history : List Dated) (start end : ℕ) (daemons' : ℕ → Option Machine) : Type 0 where
  pub known : AllByRecursion (λ t. t.happened.router < length net) history
  pub lives : LiveOn net (undated history) daemons daemons'
  pub given : AreNumbered net (all_handed before) history
  pub in_time : HappenFrom start history
  pub ended : AllByRecursion (λ t. t.at < end) history
  -- none is started anew, shut down or reconfigured, and no link goes down
  pub plain : AllByRecursion (λ t. IsPlain t.happened.deed.act) history
  -- each ticks every half second
  pub ticks : (router from : ℕ) → router < length net → start ≤ from → from + 500 ≤ end → IsTickIn history router from (from + 500)
  -- each keeps time
  pub clocks : (router : ℕ) → KeepsTime history start router (daemons router)
  -- none loses a step for memory: it counts no more such steps, and could
  pub lossless : (router : ℕ) (m n : Machine) → router < length net → daemons router ≡ Some m → daemons' router ≡ Some n → (n.lost_memory ≡ m.lost_memory) × (m.lost_memory < 2 ^ 64 - 1)
  -- and memory suffices for every new route
  pub roomy : (t : Dated) (x : Arrived) (bytes : List ℕ) (why : Option Fault) (notes : List Note) → Contains history t
      → Contains t.happened.deed.trace.told (Processed x bytes why notes)
      → All (λ n. n.kind ≢ NoMemory) notes

-- ---- links that are on time

-- by this deed a link gave a router that datagram, a copy of that of this number
abbrev pub GivesCopy : Dated → ℕ → Datagram → ℕ → Type 0
GivesCopy t router d number = (t.happened.router ≡ router) × (t.happened.deed.act ≡ Listen (Gave d)) × (t.number ≡ Some number)

-- the datagram of that number comes to the interface before that moment
pub record Comes (history : List Dated) (until number router iface : ℕ) : Type 0 where
  pub given : Dated
  pub stands : Contains history given
  pub datagram : Datagram
  pub gives : GivesCopy given router datagram number
  pub iface_is : datagram.iface ≡ iface
  pub in_time : given.at < until

-- the deed is a tick at which the daemon's regular update is due, after these deeds
pub record IsRegular (net : Network) (daemons : ℕ → Option Machine) (done : List Happened) (h : Happened) : Type 0 where
  pub node : Node
  pub node_is : slice_get net h.router ≡ Some node
  pub daemon : Machine
  pub lived : Lives (config_of node) (daemons h.router) (own_deeds h.router done) (Some daemon)
  pub ticks : h.deed.act ≡ Tick
  pub now : ℕ
  pub moment : h.deed.trace.moments ≡ now ∷ []
  pub due : daemon.router.regular ≤ max daemon.router.last now

-- all that is known of the links, beside that they give copies
pub record AreOnTime (net : Network) (before : List Happened) (daemons : ℕ → Option Machine) (history : List Dated) (start end : ℕ) : Type 0 where
  -- no regular update is lost: each datagram of it comes to every other interface of its link, in less than 13 seconds
  pub updates : (a : List Dated) (t : Dated) (b : List Dated) → history ≡ a ++ t ∷ b → IsRegular net daemons (undated a) t.happened → t.at + 13_000 ≤ end
      → (place other iface : ℕ) (d : Sent) → slice_get (handed_by t.happened) place ≡ Some d → AreLinked net d.router d.iface other iface → (other ≢ d.router) ⊎ (iface ≢ d.iface)
      → Comes b (t.at + 13_000) (length (all_handed (before ++ undated a)) + place) other iface
  -- nothing comes 13 seconds after it was handed over; in the first of them anything may that ever was
  pub recent : (old new : List Dated) (t : Dated) (b : List Dated) → history ≡ (old ++ new) ++ t ∷ b → start + 13_000 ≤ t.at → AllByRecursion (λ s. s.at + 13_000 ≤ t.at) old
      → (number : ℕ) → t.number ≡ Some number → length (all_handed (before ++ undated old)) ≤ number
  -- nothing comes after what was handed over by a later deed from there: if it was handed over by then, so was what came before it
  pub in_order : (a b c : List Dated) (s t : Dated) → history ≡ a ++ s ∷ (b ++ t ∷ c) → (router : ℕ) (d e : Datagram) (new old : ℕ) → GivesCopy s router d new → GivesCopy t router e old
      → d.iface ≡ e.iface → d.source ≡ e.source → (early late : List Happened) → undated history ≡ early ++ late
      → old < length (all_handed (before ++ early)) → new < length (all_handed (before ++ early))

-- ---- what is left

-- the entries have exactly the least costs, and there is one wherever the least cost is below infinity
pub record ForwardsLeast (net : Network) (router : ℕ) (fib : Forwarding) : Type 0 where
  pub least : (p : Prefix6) (f : Forward) → map_of.get fib p ≡ Some f → (f.metric < infinity) × IsLeast net router p f.metric
  pub found : (p : Prefix6) (metric : ℕ) → IsLeast net router p metric → metric < infinity → (f : Forward) × (map_of.get fib p ≡ Some f) × (f.metric ≡ metric)
