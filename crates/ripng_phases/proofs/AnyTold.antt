-- What any event sends tells, below 16, routes that its sender then holds: each with its metric and its tag.
use Rattle.std.proofs.Common.{◌≡◌, ℕ, max, ◌<◌, List, [], ◌∷◌, ◌++◌, map, Option, Some, None, option_and_then, slice_get, refl, ap, sym, subst, ◌∙◌, arith}
use Rattle.std.specs.List.{AllByRecursion, enumerate_from}
use Rattle.std.specs.FinMap as map_of
use Rattle.prefix6.specs.Prefix.{Prefix6, IsPrefix}
use Rattle.ripng_wire.specs.declared.rte.Rte.{Rte}
use Rattle.ripng_wire.specs.declared.rte.Command.TheVariants.{Response}
use Rattle.ripng_wire.specs.Layout.{Spells}
use Rattle.ripng_wire.specs.Wire.{is_response}
use Rattle.route_table.specs.Route.{RouteValue, infinity}
use Rattle.route_table.specs.Table.{Table}
use Rattle.route_table.proofs.TableLaws.{None-Some, Some-same, get-map_values}
use Rattle.router_core.specs.Ageing.{aged, aged_table}
use Rattle.router_core.specs.Config.{Config}
use Rattle.router_core.specs.Faults.{fault}
use Rattle.router_core.specs.Machine.{State, Happening, Arrives, Ticks, Restarts, Reconfigures, ShutsDown, LinkGoesDown, LinkComesUp, is_regular_due, is_triggered_due}
use Rattle.router_core.specs.Offers.{prefix_named}
use Rattle.router_core.specs.Output.{Message, AreSpelled, asked_on, start_messages, every_route, link_up_messages}
use Rattle.router_core.specs.Adoption.{lost}
use Rattle.router_core.specs.Shutdown.{shutdown_messages, unreachable_table}
use Rattle.router_core.specs.declared.answer.Answer.{Answer}
use Rattle.router_core.specs.declared.answer.Outgoing.{Outgoing}
use Rattle.ripng_world.specs.Network.{Network}
use Rattle.ripng_world.specs.Rounds.{router_of}
use Rattle.ripng_world.specs.World.{World, Event, Deliver, Stranger, Tick, Restart, Shutdown, LinkDown, LinkUp, Reconfigure, RouterMoves, Happens, arrival_of, sent_by}
use Rattle.ripng_world.specs.declared.event.Sent.{Sent}
use Rattle.ripng_world.proofs.Each.{each_at_place, each_flat, each_mapped, each_weaker}
use Rattle.ripng_world.proofs.Members.{At}
use Rattle.ripng_world.proofs.RoundNeighbors.{set_here}
use Rattle.ripng_phases.proofs.Sending.{AreTrue, arrived_true, ticked_true}
use Rattle.ripng_phases.proofs.Telling.{IsClean, IsTrueOf, AllTrueMessages, IsTrueMessage, asked_true, link_up_true, spelled_true, tick_sound, updates_true}

-- each entry below 16 is a route of the table
abbrev pub IsOfTable : Table → List ℕ → Type 0
IsOfTable table bytes =
    (entries : List Rte) → Spells Response entries bytes → (e : Rte) → At entries e → e.metric < infinity
    → (r : RouteValue) × (map_of.get table (prefix_named e) ≡ Some r) × (r.metric ≡ e.metric) × (r.tag ≡ e.tag)

-- the datagram was sent by the event, and tells routes of its sender
pub record IsTold (e : Event) (w : World) (d : Sent) : Type 0 where
  pub by : router_of e ≡ d.router
  pub state : State
  pub state_is : slice_get w.states d.router ≡ Some state
  pub tells : IsOfTable state.table d.bytes

-- all that is sent on the way from one world to the next
abbrev pub TellsTables : Event → World → World → Type 0
TellsTables e w w' = (new : List Sent) × (w'.sent ≡ w.sent ++ new) × AllByRecursion (IsTold e w') new

abbrev AreOf : Table → List Outgoing → Type 0
AreOf table sends = AllByRecursion (λ o. IsOfTable table o.bytes) sends

from_true : (config : Config) (table : Table) (sends : List Outgoing) → AreTrue config table sends → AreOf table sends
from_true config table sends all =
    each_weaker (λ o. IsOfTable table o.bytes) _ (λ o t entries spelled e stands low. (each_at_place (IsTrueOf config table o.iface) entries (t entries spelled) stands.0 e stands.1).low low) sends all

-- of a router that shuts down, no route of which can be told below 16
from_unreachable : (now : ℕ) (old table : Table) (sends : List Outgoing) → AreOf (unreachable_table now old) sends → AreOf table sends
from_unreachable now old table sends all =
    each_weaker (λ o. IsOfTable table o.bytes) _ (λ o t entries spelled e stands low. let r = t entries spelled e stands low in absurd (none e.metric r.0.metric (lost_at (prefix_named e) r.0 r.1) r.2 low)) sends all
  where
    none : (m n : ℕ) → n ≡ 16 → n ≡ m → m < 16 → ⊥
    none m n a b c = omega arith

    lost_at : (p : Prefix6) (r : RouteValue) → map_of.get (unreachable_table now old) p ≡ Some r → r.metric ≡ 16
    lost_at p r at = by (map_of.get old p) (sym (get-map_values (λ r. Some (lost now r)) old p) ∙ at)
      where
        by : (o : Option RouteValue) → option_and_then (λ r. Some (lost now r)) o ≡ Some r → r.metric ≡ 16
        by None e = absurd (None-Some r e)
        by (Some q) e = sym (ap (λ (x : RouteValue). x.metric) (Some-same (lost now q) r e))

aged_clean : (now : ℕ) (old : Table) → IsClean old → IsClean (aged_table now old)
aged_clean now old clean p r at = by (map_of.get old p) refl (sym (get-map_values (aged now) old p) ∙ at)
  where
    by : (o : Option RouteValue) → map_of.get old p ≡ o → option_and_then (aged now) o ≡ Some r → IsPrefix p
    by None is e = absurd (None-Some r e)
    by (Some q) is e = clean p q is

unreachable_clean : (now : ℕ) (old : Table) → IsClean old → IsClean (unreachable_table now old)
unreachable_clean now old clean p r at = by (map_of.get old p) refl (sym (get-map_values (λ r. Some (lost now r)) old p) ∙ at)
  where
    by : (o : Option RouteValue) → map_of.get old p ≡ o → option_and_then (λ r. Some (lost now r)) o ≡ Some r → IsPrefix p
    by None is e = absurd (None-Some r e)
    by (Some q) is e = clean p q is

from_none : (table : Table) (sends : List Outgoing) → AreSpelled [] sends → AreOf table sends
from_none table [] spelled = tt
from_none table (o ∷ os) spelled = absurd spelled

module _ (config : Config) (table : Table) (clean : IsClean table) where
  starts_true : AllTrueMessages config table clean (start_messages config)
  starts_true = each_flat (IsTrueMessage config table clean) (λ t. asked_on config t.0) (λ t. asked_true config table clean t.0) (enumerate_from 0 config.interfaces)

  asks : (ms : List Message) (sends : List Outgoing) → AllTrueMessages config table clean ms → AreSpelled ms sends → AreOf table sends
  asks ms sends all spelled = from_true config table sends (spelled_true config table clean ms sends all spelled)

mover_tells : (w w' : World) (e : Event) (what : Happening) (answer : Answer) (m : RouterMoves w (router_of e) what answer w') → AreOf m.new.table answer.sends → TellsTables e w w'
mover_tells w w' e what answer m all = (
  map (sent_by (router_of e)) answer.sends,
  m.sent,
  each_mapped (IsTold e w') (sent_by (router_of e)) answer.sends
      (each_weaker (λ o. IsTold e w' (sent_by (router_of e) o)) (λ o. IsOfTable m.new.table o.bytes)
      (λ o t. record { by = refl; state = m.new; state_is = ap (λ (xs : List State). slice_get xs (router_of e)) m.states ∙ set_here w.states (router_of e) m.old m.new m.old_is; tells = t }) answer.sends all),
)

-- every table is of prefixes
abbrev pub AreClean : World → Type 0
AreClean w = (router : ℕ) (s : State) → slice_get w.states router ≡ Some s → IsClean s.table

module _ (net : Network) (w w' : World) (clean : AreClean w) (clean' : AreClean w') where
  pub any_tells : (e : Event) (answer : Answer) → Happens net w e answer w' → TellsTables e w w'
  any_tells (Deliver datagram to iface now) answer d =
      mover_tells w w' (Deliver datagram to iface now) (Arrives (arrival_of net d.sent iface now)) answer d.moves
      (from_true d.moves.new.config d.moves.new.table answer.sends (arrived_true d.moves.old d.moves.new (arrival_of net d.sent iface now) answer (clean to d.moves.old d.moves.old_is)
      (fault d.moves.old.config (arrival_of net d.sent iface now)) (is_response d.sent.bytes) d.moves.moves))
  any_tells (Stranger to x) answer i =
      mover_tells w w' (Stranger to x) (Arrives x) answer i.moves
      (from_true i.moves.new.config i.moves.new.table answer.sends (arrived_true i.moves.old i.moves.new x answer (clean to i.moves.old i.moves.old_is) (fault i.moves.old.config x) (is_response x.bytes) i.moves.moves))
  any_tells (Tick to now word) answer m =
      mover_tells w w' (Tick to now word) (Ticks now word) answer m
      (subst (λ (s : State). AreOf s.table answer.sends) (sym m.moves.state)
      (from_true _ _ answer.sends (ticked_true m.old (max m.old.last now) word answer.sends
      (tick_sound m.old (max m.old.last now) (aged_clean (max m.old.last now) m.old.table (clean to m.old m.old_is)) answer.sends m.moves.answer_is.sends)
      (is_regular_due m.old (max m.old.last now)) (is_triggered_due m.old (max m.old.last now)))))
  any_tells (Restart to now) answer m =
      let is_clean : IsClean m.new.table = clean' to m.new (ap (λ (xs : List State). slice_get xs to) m.states ∙ set_here w.states to m.old m.new m.old_is) in
      mover_tells w w' (Restart to now) (Restarts now) answer m
      (asks m.old.config m.new.table is_clean (start_messages m.old.config) answer.sends (starts_true m.old.config m.new.table is_clean) m.moves.answer_is.sends)
  any_tells (LinkUp to now on) answer m =
      mover_tells w w' (LinkUp to now on) (LinkComesUp now on) answer m
      (subst (λ (s : State). AreOf s.table answer.sends) (sym m.moves.state)
      (asks m.old.config m.old.table (clean to m.old m.old_is) (link_up_messages m.old.config on) answer.sends (link_up_true m.old.config m.old.table (clean to m.old m.old_is) on) m.moves.answer_is.sends))
  any_tells (Shutdown to now) answer m =
      mover_tells w w' (Shutdown to now) (ShutsDown now) answer m
      (from_unreachable (max m.old.last now) m.old.table m.new.table answer.sends
      (let is_clean : IsClean (unreachable_table (max m.old.last now) m.old.table) = unreachable_clean (max m.old.last now) m.old.table (clean to m.old m.old_is) in
      asks m.old.config (unreachable_table (max m.old.last now) m.old.table) is_clean (shutdown_messages m.old.config (max m.old.last now) m.old.table) answer.sends
      (updates_true m.old.config (unreachable_table (max m.old.last now) m.old.table) is_clean every_route) m.moves.answer_is.sends))
  any_tells (LinkDown to now on) answer m = mover_tells w w' (LinkDown to now on) (LinkGoesDown now on) answer m (from_none m.new.table answer.sends m.moves.answer_is.sends)
  any_tells (Reconfigure to now c) answer m = mover_tells w w' (Reconfigure to now c) (Reconfigures now c) answer m (from_none m.new.table answer.sends m.moves.answer_is.sends)
