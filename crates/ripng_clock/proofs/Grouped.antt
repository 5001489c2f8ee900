-- What a tick sends goes to the groups of its links.
use Rattle.std.proofs.Common.{◌≡◌, ℕ, zero, suc, ◌≤◌, max, Bool, true, false, cond, ◌&&◌, List, [], ◌∷◌, ◌++◌, map, length, Some, slice_get, refl, ap, sym, subst, ◌∙◌, arith}
use Rattle.std.specs.List.{AllByRecursion, enumerate_from}
use Rattle.route_table.specs.Route.{RouteValue}
use Rattle.route_table.specs.Table.{Table}
use Rattle.route_table.proofs.TableLaws.{None-Some}
use Rattle.ripng_wire.specs.declared.rte.Rte.{Rte}
use Rattle.ripng_wire.specs.declared.rte.Command.TheVariants.{Response}
use Rattle.ripng_wire.specs.Layout.{entries_for_mtu}
use Rattle.router_core.specs.Ageing.{aged_table}
use Rattle.router_core.specs.Announcing.{announced, is_passive}
use Rattle.router_core.specs.Config.{Config, mtu_at}
use Rattle.router_core.specs.Machine.{State, is_regular_due, is_triggered_due, tick_messages}
use Rattle.router_core.specs.Output.{AreSpelled, Message, every_route, is_changed, pieces, responses, told, update_messages, update_on}
use Rattle.router_core.specs.declared.answer.Answer.{Answer}
use Rattle.router_core.specs.declared.answer.Destination.{Destination}
use Rattle.router_core.specs.declared.answer.Destination.TheVariants.{Group}
use Rattle.router_core.specs.declared.answer.Outgoing.{Outgoing}
use Rattle.ripng_world.specs.Network.{Network}
use Rattle.ripng_world.specs.World.{World, Event, Tick, Happens, sent_by}
use Rattle.ripng_world.specs.declared.event.Sent.{Sent}
use Rattle.ripng_world.proofs.Each.{each_at_place, each_flat, each_image, each_mapped}
use Rattle.ripng_world.proofs.Members.{get_right}

abbrev IsToGroup : Message → Type 0
IsToGroup m = m.to ≡ Group

updates_grouped : (config : Config) (which : RouteValue → Bool) (table : Table) → AllByRecursion IsToGroup (update_messages config which table)
updates_grouped config which table = each_flat IsToGroup (λ t. update_on config which table t.0) (λ t. on t.0) (enumerate_from 0 config.interfaces)
  where
    on : (iface : ℕ) → AllByRecursion IsToGroup (update_on config which table iface)
    on iface =
        elim (is_passive config iface) as (λ b. AllByRecursion IsToGroup (cond b [] (responses config iface Group (told iface which (announced config iface table))))) [
          | true ↦ tt
          | false ↦ each_image IsToGroup (λ piece. record { iface = iface; to = Group; command = Response; entries = piece }) (λ piece. refl)
              (pieces (entries_for_mtu (mtu_at config iface)) (told iface which (announced config iface table)))
        ]

tick_grouped : (old : State) (now : ℕ) → AllByRecursion IsToGroup (tick_messages old now)
tick_grouped old now =
    elim (is_regular_due old now) as (λ b. AllByRecursion IsToGroup (cond b (update_messages old.config every_route (aged_table now old.table))
    (cond (is_triggered_due old now) (update_messages old.config is_changed (aged_table now old.table)) []))) [
      | true ↦ updates_grouped old.config every_route (aged_table now old.table)
      | false ↦ elim (is_triggered_due old now) as (λ b. AllByRecursion IsToGroup (cond b (update_messages old.config is_changed (aged_table now old.table)) [])) [
        | true ↦ updates_grouped old.config is_changed (aged_table now old.table)
        | false ↦ tt
      ]
    ]

sent_grouped : (router : ℕ) (ms : List Message) (sends : List Outgoing) → AllByRecursion IsToGroup ms → AreSpelled ms sends → AllByRecursion (λ (d : Sent). d.to ≡ Group) (map (sent_by router) sends)
sent_grouped router [] [] all spelled = tt
sent_grouped router [] (o ∷ os) all spelled = absurd spelled
sent_grouped router (m ∷ ms) [] all spelled = absurd spelled
sent_grouped router (m ∷ ms) (o ∷ os) all spelled = (spelled.0.to ∙ all.0, sent_grouped router ms os all.1 spelled.1)

-- a datagram of a tick
pub to_group : (net : Network) (w w' : World) (router now word : ℕ) (answer : Answer) → Happens net w (Tick router now word) answer w' → (n : ℕ) (d : Sent) → length w.sent ≤ n → slice_get w'.sent n ≡ Some d
    → d.to ≡ Group
to_group net w w' router now word answer m n d late is =
    let all = sent_grouped router (tick_messages m.old (max m.old.last now)) answer.sends (tick_grouped m.old (max m.old.last now)) m.moves.answer_is.sends in
    let at = get_right w.sent (map (sent_by router) answer.sends) n d late (ap (λ xs. slice_get xs n) (sym m.sent) ∙ is) in
    each_at_place (λ (d : Sent). d.to ≡ Group) (map (sent_by router) answer.sends) all at.0 d at.1
