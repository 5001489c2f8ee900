-- Whether a network has healed: each router's metric of each prefix is the least that it may have, by what its neighbors have.
use Rattle.std.specs.Prelude.{◌≡◌, ℕ, ◌+◌, ◌<◌, ◌==◌, min, not, Bool, true, false, ◌&&◌, ◌||◌, if◌then◌else◌, List, [], filter, flat_map, fold, length, map, Option, Some, None, is_some, option_and_then, slice_get}
use Rattle.std.specs.List.{enumerate_from}
use Rattle.ripng_lab.specs.Below.{list_any, option_map_or, Prefix6, RouteValue, has_prefix, State, LabValue, link_at, interfaces_on, Neighbor, Outages}
use Rattle.std.specs.FinMap as map_of
use Rattle.ripng_lab.specs.Plans.{is_cut, is_silent}

-- others hear what a router tells: it is there, and neither silent nor quiet
abbrev pub tells_others : Outages → LabValue → ℕ → Bool
tells_others outages lab router = option_map_or (λ s. not s.config.quiet && not (is_silent outages router)) (slice_get lab.world.states router) false

-- another router's interface is heard
abbrev pub is_heard_from : Outages → LabValue → ℕ → ℕ → Bool
is_heard_from outages lab router other = not (other == router) && tells_others outages lab other

-- those of these interfaces that a router hears, at that cost
abbrev pub heard_among : Outages → LabValue → ℕ → ℕ → List (ℕ × ℕ) → List Neighbor
heard_among outages lab router cost places = map (λ at. record { router = at.0; cost = cost }) (filter (λ at. is_heard_from outages lab router at.0) places)

-- the interfaces on a link; none if it is cut
abbrev pub places_on : Outages → LabValue → ℕ → List (ℕ × ℕ)
places_on outages lab link = if is_cut outages link then [] else interfaces_on lab.network link

-- the neighbors that a router hears on the link of an interface of that cost
abbrev pub neighbors_at : Outages → LabValue → ℕ → ℕ → ℕ → List Neighbor
neighbors_at outages lab router iface cost = option_map_or (λ link. heard_among outages lab router cost (places_on outages lab link)) (link_at lab.network router iface) []

-- on all its interfaces
abbrev pub neighbors_from : Outages → LabValue → ℕ → State → List Neighbor
neighbors_from outages lab router s = flat_map (λ i. neighbors_at outages lab router i.0 i.1.cost) (enumerate_from 0 s.config.interfaces)

abbrev pub neighbors_of : Outages → LabValue → ℕ → List Neighbor
neighbors_of outages lab router = option_map_or (neighbors_from outages lab router) (slice_get lab.world.states router) []

-- a router's route to a prefix
abbrev pub route_at : LabValue → ℕ → Prefix6 → Option RouteValue
route_at lab router p = option_and_then (λ s. map_of.get s.table p) (slice_get lab.world.states router)

abbrev pub has_route : LabValue → ℕ → Prefix6 → Bool
has_route lab router p = is_some (route_at lab router p)

-- its metric, 16 without one
abbrev pub metric_or_none : LabValue → ℕ → Prefix6 → ℕ
metric_or_none lab router p = option_map_or (λ r. r.metric) (route_at lab router p) 16

-- the metric at which a neighbor is heard of, at most 16
abbrev pub heard_of : LabValue → Prefix6 → Neighbor → ℕ
heard_of lab p neighbor = min (metric_or_none lab neighbor.router p + neighbor.cost) 16

-- the least of them, or 16
abbrev pub least_heard : LabValue → Prefix6 → List Neighbor → ℕ
least_heard lab p neighbors = fold (λ least neighbor. min least (heard_of lab p neighbor)) 16 neighbors

-- a router owns a prefix
abbrev pub owns_at : LabValue → ℕ → Prefix6 → Bool
owns_at lab router p = option_map_or (λ s. has_prefix s.config.prefixes p) (slice_get lab.world.states router) false

-- the least that it may have: 1 for a prefix of its own
abbrev pub least_by : LabValue → ℕ → List Neighbor → Prefix6 → ℕ
least_by lab router neighbors p = if owns_at lab router p then 1 else least_heard lab p neighbors

abbrev pub is_right : LabValue → ℕ → List Neighbor → Prefix6 → Bool
is_right lab router neighbors p = metric_or_none lab router p == least_by lab router neighbors p

-- a router's metric of a prefix of this table is wrong: of its own; or of another's, if it has no route to it
abbrev pub is_wrong : LabValue → ℕ → List Neighbor → ℕ → Prefix6 → Bool
is_wrong lab router neighbors of p = (of == router || not (has_route lab router p)) && not (is_right lab router neighbors p)

-- the routes of a router
abbrev pub routes_at : LabValue → ℕ → List (Prefix6 × RouteValue)
routes_at lab of = option_map_or (λ s. map_of.entries s.table) (slice_get lab.world.states of) []

-- one of that table's is
abbrev pub has_wrong : LabValue → ℕ → List Neighbor → ℕ → Bool
has_wrong lab router neighbors of = list_any (λ e. is_wrong lab router neighbors of e.0) (routes_at lab of)

-- or one of these neighbors' tables
abbrev pub has_wrong_heard : LabValue → ℕ → List Neighbor → List Neighbor → Bool
has_wrong_heard lab router all neighbors = list_any (λ n. has_wrong lab router all n.router) neighbors

-- or one that it owns
abbrev pub owned_at : LabValue → ℕ → List (Prefix6 × ℕ)
owned_at lab router = option_map_or (λ s. s.config.prefixes) (slice_get lab.world.states router) []

abbrev pub has_wrong_owned : LabValue → ℕ → List Neighbor → Bool
has_wrong_owned lab router neighbors = list_any (λ t. not (is_right lab router neighbors t.0)) (owned_at lab router)

-- a router's metric of a prefix is the least that it may have
abbrev pub IsRight : Outages → LabValue → ℕ → Prefix6 → Type 0
IsRight outages lab router p = metric_or_none lab router p ≡ least_by lab router (neighbors_of outages lab router) p

-- so is each of a router, unless that is silent
abbrev pub IsHealedAt : Outages → LabValue → ℕ → Type 0
IsHealedAt outages lab router = is_silent outages router ≡ false → (p : Prefix6) → IsRight outages lab router p

-- so it is at every router
abbrev pub HasHealed : Outages → LabValue → Type 0
HasHealed outages lab = (router : ℕ) → router < length lab.network → IsHealedAt outages lab router

-- a router that is not silent has another metric of the prefix
pub record IsUnhealed (outages : Outages) (lab : LabValue) (router : ℕ) (p : Prefix6) : Type 0 where
  pub speaks : is_silent outages router ≡ false
  pub wrong : IsRight outages lab router p → ⊥
