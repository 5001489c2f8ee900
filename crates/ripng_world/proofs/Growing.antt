-- What was in force stays so, and with no change it is what the network started with.
use Rattle.std.specs.List.{AllByRecursion}
use Rattle.std.proofs.Common.{◌≡◌, inl, inr, ℕ, ◌+◌, List, [], ◌∷◌, ◌++◌, slice_get, refl, ap, ap₂, sym, subst, ◌∙◌}
use Rattle.prefix6.specs.Prefix.{Prefix6, cleared}
use Rattle.ripng_wire.specs.declared.rte.Rte.{Rte}
use Rattle.route_table.specs.Route.{RouteValue}
use Rattle.route_table.specs.Table.{Table}
use Rattle.route_table.proofs.TableLaws.{None-Some}
use Rattle.router_core.specs.declared.reconfiguring.Change.{Change}
use Rattle.router_core.specs.declared.reconfiguring.Change.TheVariants.{Cost, Own}
use Rattle.ripng_world.specs.Network.{Network, Owns}
use Rattle.ripng_world.specs.Walks.{Hop, IsBacked, IsBackedBy, IsEntryBackedBy, Reaches, cost, end_of, cost_of_interface}
use Rattle.ripng_world.specs.Past.{Past, WasDone, HasCostSince, OwnsSince, CostsSince, ReachesSince, IsBackedSince}
use Rattle.ripng_world.specs.Truth.{IsSoundDatagramBy, IsSoundEntryBy, IsSoundTableBy}
use Rattle.ripng_world.specs.TruthSince.{IsSoundTableSince, IsSoundDatagramSince}
use Rattle.ripng_world.proofs.Each.{each_weaker}
use Rattle.ripng_world.proofs.Members.{get_left}

-- ---- what is backed by some walks is backed by others, if those are among them

module _ (net : Network) (reach reach' : Prefix6 → ℕ → ℕ → List Hop → Type 0) (more : (p : Prefix6) (metric tag : ℕ) (walk : List Hop) → reach p metric tag walk → reach' p metric tag walk) where
  pub backed_by : (p : Prefix6) (r : RouteValue) → IsBackedBy (reach p) net r → IsBackedBy (reach' p) net r
  backed_by p r b = (b.0, more p r.metric r.tag b.0 b.1, b.2)

  pub table_by : (table : Table) → IsSoundTableBy (λ p r. IsBackedBy (reach p) net r) table → IsSoundTableBy (λ p r. IsBackedBy (reach' p) net r) table
  table_by table sound p r is =
      let s = sound p r is in
      record { is_prefix = s.is_prefix; in_range = s.in_range; backed = λ low. backed_by p r (s.backed low) }

  pub entries_by : (entries : List Rte) → AllByRecursion (IsSoundEntryBy (IsEntryBackedBy reach)) entries → AllByRecursion (IsSoundEntryBy (IsEntryBackedBy reach')) entries
  entries_by entries all =
      each_weaker (IsSoundEntryBy (IsEntryBackedBy reach')) (IsSoundEntryBy (IsEntryBackedBy reach))
      (λ e t. record { in_range = t.in_range; backed = λ low. let b = t.backed low in (b.0, more (cleared e.addr e.len) e.metric e.tag b.0 b.1) }) entries all

  pub datagram_by : (bytes : List ℕ) → IsSoundDatagramBy (IsEntryBackedBy reach) bytes → IsSoundDatagramBy (IsEntryBackedBy reach') bytes
  datagram_by bytes told entries read = entries_by entries (told entries read)

module _ (net : Network) (reconfigurations more : List (ℕ × Change)) where
  abbrev pub before : Past
  before = record { net = net; reconfigurations = reconfigurations }

  abbrev pub after : Past
  after = record { net = net; reconfigurations = reconfigurations ++ more }

  done_grows : (router : ℕ) (c : Change) → WasDone before router c → WasDone after router c
  done_grows router c done = (done.0, get_left reconfigurations more done.0 (router, c) done.1)

  pub cost_grows : (router iface c : ℕ) → HasCostSince before router iface c → HasCostSince after router iface c
  cost_grows router iface c (inl first) = inl first
  cost_grows router iface c (inr done) = inr (done_grows router (Cost iface c) done)

  pub owner_grows : (router : ℕ) (p : Prefix6) (tag : ℕ) → OwnsSince before router p tag → OwnsSince after router p tag
  owner_grows router p tag (inl first) = inl first
  owner_grows router p tag (inr done) = inr (done_grows router (Own p tag) done)

  costs_grow : (at : ℕ) (walk : List Hop) (metric : ℕ) → CostsSince before at walk metric → CostsSince after at walk metric
  costs_grow at [] metric c = c
  costs_grow at (h ∷ walk) metric c = (c.0, c.1, cost_grows at h.iface c.0 c.2, costs_grow h.router walk c.1 c.3, c.4)

  pub reaches_grows : (from : ℕ) (p : Prefix6) (metric tag : ℕ) (walk : List Hop) → ReachesSince before from p metric tag walk → ReachesSince after from p metric tag walk
  reaches_grows from p metric tag walk r =
      record { is_walk = r.is_walk; costs = costs_grow from walk metric r.costs; owner = owner_grows (end_of from walk) p tag r.owner }

  pub table_grows : (router : ℕ) (table : Table) → IsSoundTableSince before router table → IsSoundTableSince after router table
  table_grows router table = table_by net (ReachesSince before router) (ReachesSince after router) (reaches_grows router) table

  pub truth_grows : (router : ℕ) (bytes : List ℕ) → IsSoundDatagramSince before router bytes → IsSoundDatagramSince after router bytes
  truth_grows router bytes = datagram_by net (ReachesSince before router) (ReachesSince after router) (reaches_grows router) bytes

-- ---- no change

module _ (past : Past) (unchanged : past.reconfigurations ≡ []) where
  none_done : (router : ℕ) (c : Change) → WasDone past router c → ⊥
  none_done router c done = None-Some (router, c) (sym (ap (λ (cs : List (ℕ × Change)). slice_get cs done.0) unchanged) ∙ done.1)

  cost_first : (router iface c : ℕ) → HasCostSince past router iface c → cost_of_interface past.net router iface ≡ c
  cost_first router iface c (inl first) = sym first
  cost_first router iface c (inr done) = absurd (none_done router (Cost iface c) done)

  owner_first : (router : ℕ) (p : Prefix6) (tag : ℕ) → OwnsSince past router p tag → Owns past.net router p tag
  owner_first router p tag (inl first) = first
  owner_first router p tag (inr done) = absurd (none_done router (Own p tag) done)

  costs_first : (at : ℕ) (walk : List Hop) (metric : ℕ) → CostsSince past at walk metric → cost past.net at walk ≡ metric
  costs_first at [] metric c = sym c
  costs_first at (h ∷ walk) metric c = ap₂ (λ a b. a + b) (cost_first at h.iface c.0 c.2) (costs_first h.router walk c.1 c.3) ∙ c.4

  pub reaches_first : (from : ℕ) (p : Prefix6) (metric tag : ℕ) (walk : List Hop) → ReachesSince past from p metric tag walk → Reaches past.net from p metric tag walk
  reaches_first from p metric tag walk r =
      record { is_walk = r.is_walk; costs = costs_first from walk metric r.costs; owner = owner_first (end_of from walk) p tag r.owner }

  pub backed_first : (router : ℕ) (p : Prefix6) (r : RouteValue) → IsBackedSince past router p r → IsBacked past.net router p r
  backed_first router p r b = backed_by past.net (ReachesSince past router) (Reaches past.net router) (reaches_first router) p r b

-- and always what the network started with was in force
module _ (past : Past) where
  costs_at_first : (at : ℕ) (walk : List Hop) → CostsSince past at walk (cost past.net at walk)
  costs_at_first at [] = refl
  costs_at_first at (h ∷ walk) =
      (cost_of_interface past.net at h.iface, cost past.net h.router walk, inl refl, costs_at_first h.router walk, refl)

  pub reaches_still : (from : ℕ) (p : Prefix6) (metric tag : ℕ) (walk : List Hop) → Reaches past.net from p metric tag walk → ReachesSince past from p metric tag walk
  reaches_still from p metric tag walk r =
      record { is_walk = r.is_walk; costs = subst (CostsSince past from walk) r.costs (costs_at_first from walk); owner = inl r.owner }
