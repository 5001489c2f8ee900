-- A router that shuts down tells nothing but losses.
use Rattle.std.proofs.Common.{◌≡◌, ℕ, ◌+◌, ◌*◌, ◌-◌, ◌/◌, true, false, cond, List, [], ◌∷◌, drop, length, slice_range, Some, refl, subst}
use Rattle.std.specs.Prelude.{⊤}
use Rattle.std.specs.List.{AllByRecursion, enumerate_from}
use Rattle.std.specs.FinMap as map_of
use Rattle.prefix6.specs.Prefix.{Prefix6}
use Rattle.ripng_wire.specs.declared.rte.Rte.{Rte}
use Rattle.ripng_wire.specs.declared.rte.Command.TheVariants.{Response}
use Rattle.ripng_wire.specs.Layout.{Spells, entries_for_mtu}
use Rattle.ripng_wire.proofs.OneReading.{one_reading}
use Rattle.route_table.specs.Route.{RouteValue, infinity}
use Rattle.route_table.specs.Table.{Table}
use Rattle.route_table.proofs.TableLaws.{all_entries, at_map_values, Some-same}
use Rattle.router_core.specs.Adoption.{lost}
use Rattle.router_core.specs.Announcing.{announced, is_passive}
use Rattle.router_core.specs.Config.{Config, mtu_at}
use Rattle.router_core.specs.Shutdown.{unreachable_table, shutdown_messages}
use Rattle.router_core.specs.Machine.{State, ShutsDown, Moves}
use Rattle.router_core.specs.Output.{Message, AreSpelled, told, told_entry, is_learned_on, every_route, numbers_below, pieces, responses, update_on}
use Rattle.router_core.specs.declared.answer.Answer.{Answer}
use Rattle.router_core.specs.declared.answer.Destination.{Destination}
use Rattle.router_core.specs.declared.answer.Destination.TheVariants.{Group}
use Rattle.router_core.specs.declared.answer.Outgoing.{Outgoing}
use Rattle.ripng_world.proofs.Announced.{announced_held}
use Rattle.ripng_world.proofs.Each.{each_filter, each_take, each_drop, each_mapped, each_image, each_flat, each_weaker}

-- the entry says that its prefix is unreachable
abbrev pub IsLoss : Rte → Type 0
IsLoss e = e.metric ≡ infinity

abbrev AllLosses : List Rte → Type 0
AllLosses entries = AllByRecursion IsLoss entries

unreachable : (now : ℕ) (table : Table) (p : Prefix6) (r : RouteValue) → map_of.get (unreachable_table now table) p ≡ Some r → r.metric ≡ infinity
unreachable now table =
    at_map_values (λ r. Some (lost now r)) (λ t. ⊤) (λ t. t.1.metric ≡ infinity)
    (λ p r r' s is. subst (λ (x : RouteValue). x.metric ≡ infinity) (Some-same _ r' is) refl) table (λ p r at. tt)

told_lost : (iface : ℕ) (p : Prefix6) (r : RouteValue) → r.metric ≡ infinity → IsLoss (told_entry iface (p, r))
told_lost iface p r is = elim (is_learned_on iface r.origin) as (λ b. cond b infinity r.metric ≡ infinity) [ true ↦ refl | false ↦ is ]

-- what an interface announces of the table
abbrev losses : Config → ℕ → ℕ → Table → Table
losses config iface now table = announced config iface (unreachable_table now table)

all_lost : (config : Config) (iface now : ℕ) (table : Table) → AllLosses (told iface every_route (losses config iface now table))
all_lost config iface now table =
    each_mapped IsLoss (told_entry iface) _
    (each_filter (λ (t : Prefix6 × RouteValue). IsLoss (told_entry iface t)) (λ t. every_route t.1) (map_of.entries (losses config iface now table))
    (all_entries (λ t. IsLoss (told_entry iface t)) (losses config iface now table)
    (λ p r here. told_lost iface p r (unreachable now table p r (announced_held config iface (unreachable_table now table) p r here)))))

abbrev IsLastUpdate : Message → Type 0
IsLastUpdate m = (m.command ≡ Response) × AllLosses m.entries

pieces_lost : (n : ℕ) (entries : List Rte) → AllLosses entries → AllByRecursion AllLosses (pieces n entries)
pieces_lost n entries all =
    each_image AllLosses (λ k. slice_range entries (n * k) (n * k + n))
    (λ k. each_take IsLoss ((n * k + n) - n * k) (drop (n * k) entries) (each_drop IsLoss (n * k) entries all))
    (numbers_below ((length entries + (n - 1)) / n))

responses_lost : (config : Config) (iface : ℕ) (to : Destination) (entries : List Rte) → AllLosses entries → AllByRecursion IsLastUpdate (responses config iface to entries)
responses_lost config iface to entries all =
    each_mapped IsLastUpdate (λ piece. record { iface = iface; to = to; command = Response; entries = piece }) (pieces (entries_for_mtu (mtu_at config iface)) entries)
    (each_weaker (λ piece. (Response ≡ Response) × AllLosses piece) AllLosses (λ piece t. (refl, t)) _ (pieces_lost (entries_for_mtu (mtu_at config iface)) entries all))

last_update : (config : Config) (now : ℕ) (table : Table) → AllByRecursion IsLastUpdate (shutdown_messages config now table)
last_update config now table = each_flat IsLastUpdate (λ t. update_on config every_route (unreachable_table now table) t.0) (λ t. last_on t.0) (enumerate_from 0 config.interfaces)
  where
    last_on : (iface : ℕ) → AllByRecursion IsLastUpdate (update_on config every_route (unreachable_table now table) iface)
    last_on iface =
        elim (is_passive config iface) as (λ b. AllByRecursion IsLastUpdate (cond b [] (responses config iface Group (told iface every_route (losses config iface now table))))) [
          | true ↦ tt
          | false ↦ responses_lost config iface Group (told iface every_route (losses config iface now table)) (all_lost config iface now table)
        ]

spelled : (ms : List Message) (sends : List Outgoing) → AllByRecursion IsLastUpdate ms → AreSpelled ms sends
    → AllByRecursion (λ o. (entries : List Rte) → Spells Response entries o.bytes → AllByRecursion (λ e. e.metric ≡ infinity) entries) sends
spelled [] [] all is = tt
spelled [] (o ∷ os) all is = absurd is
spelled (m ∷ ms) [] all is = absurd is
spelled (m ∷ ms) (o ∷ os) all is = (
  λ entries read.
      let one : (m.command ≡ Response) × (m.entries ≡ entries) = one_reading m.command Response m.entries entries o.bytes is.0.bytes read in
      subst AllLosses one.1 all.0.1,
  spelled ms os all.1 is.1,
)

pub shutdown_tells_losses : (old : State) (now : ℕ) (answer : Answer) (new : State) → Moves old (ShutsDown now) answer new
    → AllByRecursion (λ o. (entries : List Rte) → Spells Response entries o.bytes → AllByRecursion (λ e. e.metric ≡ infinity) entries) answer.sends
shutdown_tells_losses old now answer new moves = spelled _ answer.sends (last_update old.config _ old.table) moves.answer_is.sends
