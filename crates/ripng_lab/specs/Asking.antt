-- Routers that ask by themselves: what they have lost, and the Requests that they send then.
use Rattle.std.specs.Prelude.{◌≡◌, ◌==◌, ℕ, Bool, true, false, ◌&&◌, not, List, [], ◌∷◌, filter, length, map, Option, None, Some, slice_get, unwrap_or}
use Rattle.std.specs.List.{find, list_any, range_with_len}
use Rattle.std.specs.FinMap as map_of
use Rattle.ripng_lab.specs.Below.{Prefix6, Table, RouteValue, LabValue, Network, Event, LinkUp, is_own, is_reachable, link_at, option_map_or}
use Rattle.ripng_lab.specs.Doing.{InTurn, IsEvent}
use Rattle.ripng_lab.specs.Plans.{with_member}
use Rattle.ripng_lab.specs.ScriptWatching.{Telling, Notes}
use Rattle.ripng_lab.specs.declared.pace.Pace.{Pace}
use Rattle.ripng_lab.specs.declared.forms.Step.{Step}
use Rattle.ripng_lab.specs.declared.forms.Step.TheVariants as step

-- ---- what is lost

-- a table reaches a prefix: it has a route to it that is not unreachable
abbrev pub reaches_prefix : Table → Prefix6 → Bool
reaches_prefix t p = option_map_or (λ r. is_reachable r.metric) (map_of.get t p) false

-- the prefixes that it reaches by a neighbor, in order
abbrev pub is_reached_by_neighbor : Prefix6 × RouteValue → Bool
is_reached_by_neighbor e = not (is_own e.1.origin) && is_reachable e.1.metric

abbrev pub reached_in : Table → List Prefix6
reached_in t = map (λ e. e.0) (filter is_reached_by_neighbor (map_of.entries t))

-- the first of some prefixes that it reaches no longer
abbrev pub first_lost : List Prefix6 → Table → Option Prefix6
first_lost before t = find (λ p. not (reaches_prefix t p)) before

-- ---- when it asks

-- a router minds what it has lost, if it has: it asks about the first loss that it has not asked about; a pause stays
abbrev pub Minds : Option Prefix6 → ℕ → Pace → Pace → Type 0
Minds None now old new = new ≡ old
Minds (Some p) now old new = (new.loss ≡ Some (unwrap_or old.loss (record { prefix = p; at = now }))) × (new.free_at ≡ old.free_at)

-- ---- what it sends

-- the link of an interface is one of these
abbrev pub is_on : List ℕ → Network → ℕ → ℕ → Bool
is_on links net router iface = option_map_or (λ link. list_any (λ l. l == link) links) (link_at net router iface) false

-- how many interfaces a router has
abbrev pub interfaces_at : LabValue → ℕ → ℕ
interfaces_at lab router = option_map_or (λ s. length s.config.interfaces) (slice_get lab.world.states router) 0

-- its Requests: one at each of its interfaces, in order, whose link is not down
abbrev pub requests_of : LabValue → List ℕ → ℕ → ℕ → List Event
requests_of lab down router now = map (λ iface. LinkUp router now iface) (filter (λ iface. not (is_on down lab.network router iface)) (range_with_len 0 (interfaces_at lab router)))

-- a router asks: why is noted, and then it sends its Requests, all at one moment, each on a link that comes up so
abbrev pub IsQuestion : ℕ → List Telling → Type 0
IsQuestion router ts =
    (now : ℕ) × (ifaces : List ℕ) × (own : List Telling) × InTurn IsEvent (map (λ iface. LinkUp router now iface) ifaces) own × (ts ≡ Notes ∷ own)

-- after a line some routers ask, one after another, if routers ask by themselves; else nothing more happens
abbrev pub AskAfter : Bool → List Telling → Type 0
AskAfter false ts = ts ≡ []
AskAfter true ts = (routers : List ℕ) × InTurn IsQuestion routers ts

-- the links that are down, once an event of that kind was at each interface of one
abbrev pub down_after : Step → ℕ → List ℕ → List ℕ
down_after step.Down link down = with_member true link down
down_after step.Up link down = with_member false link down
down_after _ link down = down
