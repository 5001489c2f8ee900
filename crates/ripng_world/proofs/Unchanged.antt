-- What holds of all that was in force since the cold start holds, while nothing was changed, of the network as it started.
use Rattle.std.proofs.Common.{◌≡◌, inl, ℕ, List, [], refl}
use Rattle.std.specs.List.{AllByRecursion}
use Rattle.ripng_wire.specs.declared.rte.Rte.{Rte}
use Rattle.route_table.specs.Table.{Table}
use Rattle.router_core.specs.Adoption.{Gateway}
use Rattle.router_core.specs.Ageing.{aged_table}
use Rattle.router_core.specs.Hearing.{Hearing, Heard}
use Rattle.router_core.specs.Machine.{State, Happening, Moves}
use Rattle.router_core.specs.declared.answer.Answer.{Answer}
use Rattle.router_core.specs.declared.answer.Outgoing.{Outgoing}
use Rattle.ripng_world.specs.Network.{Network}
use Rattle.ripng_world.specs.Past.{Past, ReachesSince, beginning}
use Rattle.ripng_world.specs.Truth.{IsNeighbor, IsSoundTable, IsSoundEntry, IsSoundDatagram}
use Rattle.ripng_world.specs.TruthSince.{IsNeighborSince, IsSoundTableSince, IsSoundEntrySince, IsSoundDatagramSince}
use Rattle.ripng_world.specs.Walks.{Reaches}
use Rattle.ripng_world.proofs.Each.{each_weaker}
use Rattle.ripng_world.proofs.Growing.{datagram_by, entries_by, reaches_first, reaches_still, table_by}
use Rattle.ripng_world.proofs.Telling.{aged_sound, sends_true}
use Rattle.ripng_world.proofs.Keeping.{heard_sound}

-- ---- from all that was in force to the network

module _ (past : Past) (unchanged : past.reconfigurations ≡ []) (router : ℕ) where
  pub table_first : (table : Table) → IsSoundTableSince past router table → IsSoundTable past.net router table
  table_first table = table_by past.net (ReachesSince past router) (Reaches past.net router) (reaches_first past unchanged router) table

  pub truth_first : (bytes : List ℕ) → IsSoundDatagramSince past router bytes → IsSoundDatagram past.net router bytes
  truth_first bytes = datagram_by past.net (ReachesSince past router) (Reaches past.net router) (reaches_first past unchanged router) bytes

-- ---- and back

module _ (net : Network) (router : ℕ) where
  table_still : (table : Table) → IsSoundTable net router table → IsSoundTableSince (beginning net) router table
  table_still table = table_by net (Reaches net router) (ReachesSince (beginning net) router) (reaches_still (beginning net) router) table

  entries_still : (entries : List Rte) → AllByRecursion (IsSoundEntry net router) entries → AllByRecursion (IsSoundEntrySince (beginning net) router) entries
  entries_still entries = entries_by net (Reaches net router) (ReachesSince (beginning net) router) (reaches_still (beginning net) router) entries

  neighbor_still : (g : Gateway) (sender sender_iface : ℕ) → IsNeighbor net router g sender sender_iface → IsNeighborSince (beginning net) router g sender sender_iface
  neighbor_still g sender sender_iface near = record { linked = near.linked; apart = near.apart; from = near.from; cost = inl near.cost }

  -- ---- the laws of a router, over the network

  pub aged_first : (now : ℕ) (table : Table) → IsSoundTable net router table → IsSoundTable net router (aged_table now table)
  aged_first now table sound = table_first (beginning net) refl router (aged_table now table) (aged_sound (beginning net) router now table (table_still table sound))

  pub sends_first : (old : State) (happening : Happening) (answer : Answer) (new : State) → IsSoundTable net router old.table → Moves old happening answer new
      → AllByRecursion (λ (o : Outgoing). IsSoundDatagram net router o.bytes) answer.sends
  sends_first old happening answer new sound moves =
      each_weaker (λ (o : Outgoing). IsSoundDatagram net router o.bytes) (λ (o : Outgoing). IsSoundDatagramSince (beginning net) router o.bytes)
      (λ o. truth_first (beginning net) refl router o.bytes) answer.sends
      (sends_true (beginning net) router old happening answer new (table_still old.table sound) moves)

pub heard_first : (net : Network) (router sender sender_iface : ℕ) (h : Hearing) (after : Table)
    → IsNeighbor net router h.gateway sender sender_iface
    → AllByRecursion (IsSoundEntry net sender) h.entries
    → IsSoundTable net router h.before → Heard h after → IsSoundTable net router after
heard_first net router sender sender_iface h after near all sound heard =
    table_first (beginning net) refl router after
    (heard_sound (beginning net) router sender sender_iface h after (neighbor_still net router h.gateway sender sender_iface near)
    (entries_still net sender h.entries all) (table_still net router h.before sound) heard)
