-- The steps of a router, put together from what its parts do.
use Rattle.std.proofs.Common.{◌≡◌, ℕ, ◌+◌, ◌*◌, ◌<◌, ◌≤◌, List, length, get_or, slice_get, Bool, true, false, cond, if◌then◌else◌, [], Some, None, refl, unwrap_or, option_map, ap, sym, subst, ◌∙◌, arith}
use Rattle.std.specs.FinMap as map_of
use Rattle.std.proofs.lemmas.Nat.{le-div}
use Rattle.fib.specs.declared.change.RouteChange.{RouteChange}
use Rattle.fib.specs.Forwarding.{Forwarding, Replays}
use Rattle.ripng_wire.specs.declared.rte.Command.{Command}
use Rattle.ripng_wire.specs.declared.rte.Command.TheVariants.{Response}
use Rattle.ripng_wire.specs.declared.rte.Rte.{Rte}
use Rattle.ripng_wire.specs.Layout.{Spells}
use Rattle.ripng_wire.proofs.Entries.{length_entries}
use Rattle.route_table.specs.Route.{infinity}
use Rattle.route_table.specs.Table.{Table}
use Rattle.router_core.specs.Adoption.{Gateway}
use Rattle.router_core.specs.Ageing.{aged_table, unmarked, without_mark}
use Rattle.router_core.specs.Changes.{forward, forwards, changes_of_start, changes_of_ageing, changes_of_hearing}
use Rattle.router_core.specs.Config.{Config, IsConfig, cost_at}
use Rattle.router_core.specs.Hearing.{Hearing, Heard, hearing}
use Rattle.router_core.specs.Machine.{State, Hears, gateway_of, hearing_of, owned_table, is_regular_due, is_triggered_due, tick_messages}
use Rattle.router_core.specs.Output.{AreSpelled, update_messages, every_route, is_changed}
use Rattle.router_core.specs.Received.{Received}
use Rattle.router_core.specs.LinkDown.{table_after_link_down, changes_of_link_down}
use Rattle.router_core.specs.Updates.{entries_in, update_due, update_of}
use Rattle.router_core.specs.declared.answer.Answer.{Answer}
use Rattle.router_core.specs.declared.answer.Note.{Note}
use Rattle.router_core.specs.declared.answer.Outgoing.{Outgoing}
use Rattle.router_core.specs.declared.tell.Selection.TheVariants.{Every, Changed}
use Rattle.router_core.specs.declared.config.Interface.{Interface}
use Rattle.router_core.proofs.AgeReplaying.{ageing_replays, link_down_replays, starting_replays}
use Rattle.router_core.proofs.AgedTables.{map_values-twice}
use Rattle.router_core.proofs.ConfigLaws.{cost_high}
use Rattle.router_core.proofs.Replaying.{hearing_replays}
use Rattle.router_core.proofs.Sending.{element_at}

-- the changes of a start, replayed onto nothing
pub started_replays : (config : Config) (table : Table) (changes : List RouteChange) → table ≡ owned_table config → changes ≡ changes_of_start (owned_table config)
    → Replays map_of.empty changes (forwards table)
started_replays config table changes owned told =
    subst (λ (cs : List RouteChange). Replays map_of.empty cs (forwards table)) (sym told)
    (subst (λ (t : Table). Replays map_of.empty (changes_of_start (owned_table config)) (forwards t)) (sym owned) (starting_replays (owned_table config)))

-- a datagram has the entries that its bytes have room for
pub length-spelled : (command : Command) (entries : List Rte) (bytes : List ℕ) → Spells command entries bytes → length entries ≤ entries_in bytes
length-spelled command entries bytes s =
    let size : length bytes ≡ 4 + 20 * length entries = ap length s.bytes_are ∙ omega (arith, length_entries entries) in
    le-div (length entries) (length bytes) 20 (omega arith) (omega arith)

-- the cost of an interface that is there
pub cost_of : (c : Config) → IsConfig c → (xs : List Interface) (i : ℕ) (x : Interface) → xs ≡ c.interfaces → i < length c.interfaces → x ≡ get_or xs i x
    → ((get_or xs i x).cost ≡ cost_at c i) × ((get_or xs i x).cost < infinity)
cost_of c lawful xs i x same lt is =
    let there : slice_get c.interfaces i ≡ Some x = ap (λ ys. slice_get ys i) (sym same) ∙ element_at xs i x (omega (arith, ap length same)) is in (
      ap (λ (y : Interface). y.cost) (sym is) ∙ sym (ap (λ o. unwrap_or (option_map (λ (j : Interface). j.cost) o) infinity) there),
      subst (λ (y : Interface). y.cost < infinity) is (cost_high c lawful i x there),
    )

-- a Response was heard
pub heard_response : (old : State) (now : ℕ) (x : Received) (es given : List Rte) (g : Gateway) (table : Table)
    (sends : List Outgoing) (changes : List RouteChange) (notes : List Note) (answer : Answer)
    → g ≡ gateway_of old now x → given ≡ es → Heard (hearing old.config g given old.table notes) table
    → changes ≡ changes_of_hearing (hearing old.config g given old.table notes) → sends ≡ []
    → answer ≡ record { fault = None; sends = sends; changes = changes; notes = notes }
    → Spells Response es x.bytes → Hears old now x answer (record old { table = table; last = now })
heard_response old now x es given g table sends changes notes answer through all heard changed silent is spells =
    let same : hearing old.config g given old.table notes ≡ hearing_of old now x es notes = rw (through, all) in
    subst (λ (a : Answer). Hears old now x a (record old { table = table; last = now })) (sym is)
    (record {
      entries = es;
      read = spells;
      table = table;
      heard = subst (λ (h : Hearing). Heard h table) same heard;
      state = refl;
      answer_is = record {
        fault = refl;
        sends = subst (AreSpelled []) (sym silent) tt;
        changes_are = changed ∙ ap changes_of_hearing same;
        notes_are = refl;
      };
    })

-- its changes, replayed
pub heard_replays : (h : Hearing) (table : Table) (changes : List RouteChange) → Heard h table → changes ≡ changes_of_hearing h
    → Replays (forwards h.before) changes (forwards table)
heard_replays h table changes heard changed = subst (λ (cs : List RouteChange). Replays (forwards h.before) cs (forwards table)) (sym changed) (hearing_replays h table heard)

-- the update that is due has the messages of the tick
pub update_of-due : (old : State) (now : ℕ) → update_of old now (update_due old now) ≡ tick_messages old now
update_of-due old now = by_due (is_regular_due old now) (is_triggered_due old now)
  where
    by_due : (b c : Bool)
        → update_of old now (cond b (Some Every) (cond c (Some Changed) None))
        ≡ cond b (update_messages old.config every_route (aged_table now old.table)) (cond c (update_messages old.config is_changed (aged_table now old.table)) [])
    by_due true c = refl
    by_due false true = refl
    by_due false false = refl

-- the changes of a tick, replayed
pub ticked_replays : (now : ℕ) (was_told : Bool) (old new : Table) (changes : List RouteChange)
    → new ≡ (if was_told then unmarked (aged_table now old) else aged_table now old) → changes ≡ changes_of_ageing now old
    → Replays (forwards old) changes (forwards new)
ticked_replays now was_told old new changes settled listed =
    subst (λ (cs : List RouteChange). Replays (forwards old) cs (forwards new)) (sym listed)
    (subst (λ (f : Forwarding). Replays (forwards old) (changes_of_ageing now old) f) (sym (ap forwards settled ∙ by_mark was_told)) (ageing_replays now old))
  where
    -- marks do not matter to forwarding
    by_mark : (b : Bool) → forwards (cond b (unmarked (aged_table now old)) (aged_table now old)) ≡ forwards (aged_table now old)
    by_mark true = map_values-twice without_mark forward (aged_table now old)
    by_mark false = refl

-- the changes of the loss of a link, replayed
pub lost_on_replays : (iface now : ℕ) (old new : Table) (changes : List RouteChange) → new ≡ table_after_link_down iface now old → changes ≡ changes_of_link_down iface now old
    → Replays (forwards old) changes (forwards new)
lost_on_replays iface now old new changes settled listed =
    subst (λ (cs : List RouteChange). Replays (forwards old) cs (forwards new)) (sym listed)
    (subst (λ (t : Table). Replays (forwards old) (changes_of_link_down iface now old) (forwards t)) (sym settled) (link_down_replays iface now old))
