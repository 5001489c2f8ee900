-- All that an ordinary event sends tells, below 16, what its sender then holds.
use Rattle.std.proofs.Common.{◌≡◌, ℕ, ◌+◌, ◌%◌, max, Bool, true, false, cond, MatchBool, MatchOption, List, [], ◌∷◌, ◌++◌, map, Option, Some, None, option_and_then, slice_get, refl, ap, sym, subst, ◌∙◌}
use Rattle.std.specs.List.{AllByRecursion}
use Rattle.ripng_wire.specs.Wire.{is_response}
use Rattle.std.specs.FinMap as map_of
use Rattle.prefix6.specs.Prefix.{Prefix6, IsPrefix}
use Rattle.route_table.specs.Route.{RouteValue}
use Rattle.route_table.specs.Table.{Table}
use Rattle.route_table.proofs.TableLaws.{None-Some, get-map_values}
use Rattle.router_core.specs.Ageing.{aged, aged_table, unmarked}
use Rattle.router_core.specs.Config.{Config}
use Rattle.router_core.specs.Faults.{fault}
use Rattle.router_core.specs.Machine.{State, Happening, Arrives, Ticks, LinkComesUp, Hears, Replies, Refuses, is_regular_due, is_triggered_due}
use Rattle.router_core.specs.Output.{AreSpelled}
use Rattle.router_core.specs.Received.{Received}
use Rattle.router_core.specs.declared.answer.Answer.{Answer}
use Rattle.router_core.specs.declared.answer.Outgoing.{Outgoing}
use Rattle.router_core.specs.declared.arrival.Fault.{Fault}
use Rattle.ripng_world.specs.Network.{Network}
use Rattle.ripng_world.specs.World.{World, Event, Deliver, Stranger, Tick, Restart, Shutdown, LinkDown, LinkUp, Reconfigure, RouterMoves, Happens, arrival_of, sent_by}
use Rattle.ripng_world.specs.declared.event.Sent.{Sent}
use Rattle.ripng_world.proofs.Each.{each_mapped, each_weaker}
use Rattle.ripng_world.proofs.HealHearing.{AreFew}
use Rattle.ripng_world.proofs.RoundNeighbors.{set_here}
use Rattle.ripng_phases.specs.Phases.{IsOrdinary}
use Rattle.ripng_phases.proofs.Orderly.{IsOrderly}
use Rattle.ripng_phases.proofs.Telling.{IsClean, IsTrueDatagram, asks_sound, replies_sound, tick_sound, unmarked_true}
use Rattle.router_core.specs.Timers.{next_hold, next_regular}

-- the datagram tells what its sender holds
abbrev pub IsToldTruly : World → Sent → Type 0
IsToldTruly w d = (s : State) × (slice_get w.states d.router ≡ Some s) × IsTrueDatagram s.config s.table d.iface d.bytes

-- what is sent on the way from one world to the next tells what its senders then hold
abbrev pub TellsTruly : World → World → Type 0
TellsTruly w w' = (new : List Sent) × (w'.sent ≡ w.sent ++ new) × AllByRecursion (IsToldTruly w') new

abbrev pub AreTrue : Config → Table → List Outgoing → Type 0
AreTrue config table sends = AllByRecursion (λ o. IsTrueDatagram config table o.iface o.bytes) sends

mover_tells : (w w' : World) (mover : ℕ) (what : Happening) (answer : Answer) (m : RouterMoves w mover what answer w') → AreTrue m.new.config m.new.table answer.sends → TellsTruly w w'
mover_tells w w' mover what answer m all = (
  map (sent_by mover) answer.sends,
  m.sent,
  each_mapped (IsToldTruly w') (sent_by mover) answer.sends
      (each_weaker (λ o. IsToldTruly w' (sent_by mover o)) (λ o. IsTrueDatagram m.new.config m.new.table o.iface o.bytes)
      (λ o t. (m.new, ap (λ (xs : List State). slice_get xs mover) m.states ∙ set_here w.states mover m.old m.new m.old_is, t)) answer.sends all),
)

-- a tick, with marks or without
pub ticked_true : (old : State) (n word : ℕ) (sends : List Outgoing) → AreTrue old.config (aged_table n old.table) sends → (b c : Bool)
    → let new = cond b (record old { table = unmarked (aged_table n old.table); last = n; regular = next_regular n word })
    (cond c (record old { table = unmarked (aged_table n old.table); last = n; hold = next_hold n word }) (record old { table = aged_table n old.table; last = n })) in
    AreTrue new.config new.table sends
ticked_true old n word sends all true c = each_weaker (λ o. IsTrueDatagram old.config (unmarked (aged_table n old.table)) o.iface o.bytes) (λ o. IsTrueDatagram old.config (aged_table n old.table) o.iface o.bytes) (λ o t. unmarked_true old.config (aged_table n old.table) o.iface o.bytes t) sends all
ticked_true old n word sends all false true = each_weaker (λ o. IsTrueDatagram old.config (unmarked (aged_table n old.table)) o.iface o.bytes) (λ o. IsTrueDatagram old.config (aged_table n old.table) o.iface o.bytes) (λ o t. unmarked_true old.config (aged_table n old.table) o.iface o.bytes t) sends all
ticked_true old n word sends all false false = all

-- an arrival
pub arrived_true : (old new : State) (x : Received) (answer : Answer) → IsClean old.table → (o : Option Fault) (b : Bool)
    → MatchOption o (MatchBool b (Hears old (max old.last x.now) x answer new) (Replies old (max old.last x.now) x answer new)) (λ why. Refuses old (max old.last x.now) why answer new)
    → AreTrue new.config new.table answer.sends
arrived_true old new x answer clean (Some why) b refuses = subst (AreTrue new.config new.table) (sym (ap (λ (a : Answer). a.sends) refuses.answer_is)) tt
arrived_true old new x answer clean None true hears = by answer.sends hears.answer_is.sends
  where
    by : (sends : List Outgoing) → AreSpelled [] sends → AreTrue new.config new.table sends
    by [] spelled = tt
    by (o ∷ os) spelled = absurd spelled
arrived_true old new x answer clean None false replies =
    subst (λ (s : State). AreTrue s.config s.table answer.sends) (sym replies.state) (replies_sound old clean (max old.last x.now) x answer new replies)

module _ (net : Network) (known : Prefix6 → Type 0) (fits : AreFew net known) where
  clean_state : (w : World) → IsOrderly net known w → (router : ℕ) (s : State) → slice_get w.states router ≡ Some s → IsClean s.table
  clean_state w orderly router s is p r at = fits.prefixes p ((orderly.states router s is).plain p r at).is_known

  aged_clean : (n : ℕ) (table : Table) → IsClean table → IsClean (aged_table n table)
  aged_clean n table clean p q at = by_value (map_of.get table p) refl (sym (get-map_values (aged n) table p) ∙ at)
    where
      by_value : (o : Option RouteValue) → map_of.get table p ≡ o → option_and_then (aged n) o ≡ Some q → IsPrefix p
      by_value None is e = absurd (None-Some q e)
      by_value (Some r) is e = clean p r is

  pub event_tells : (w w' : World) → IsOrderly net known w → (e : Event) (answer : Answer) → IsOrdinary e → Happens net w e answer w' → TellsTruly w w'
  event_tells w w' orderly (Deliver datagram to iface now) answer plain d =
      mover_tells w w' to (Arrives (arrival_of net d.sent iface now)) answer d.moves
      (arrived_true d.moves.old d.moves.new (arrival_of net d.sent iface now) answer (clean_state w orderly to d.moves.old d.moves.old_is)
      (fault d.moves.old.config (arrival_of net d.sent iface now)) (is_response d.sent.bytes) d.moves.moves)
  event_tells w w' orderly (Stranger to x) answer plain i =
      mover_tells w w' to (Arrives x) answer i.moves
      (arrived_true i.moves.old i.moves.new x answer (clean_state w orderly to i.moves.old i.moves.old_is) (fault i.moves.old.config x) (is_response x.bytes) i.moves.moves)
  event_tells w w' orderly (Tick to now word) answer plain m =
      let n : ℕ = max m.old.last now in
      let clean = aged_clean n m.old.table (clean_state w orderly to m.old m.old_is) in
      mover_tells w w' to (Ticks now word) answer m
      (subst (λ (s : State). AreTrue s.config s.table answer.sends) (sym m.moves.state)
      (ticked_true m.old n word answer.sends (tick_sound m.old n clean answer.sends m.moves.answer_is.sends) (is_regular_due m.old n) (is_triggered_due m.old n)))
  event_tells w w' orderly (Restart to now) answer plain m = absurd plain
  event_tells w w' orderly (Shutdown to now) answer plain m = absurd plain
  event_tells w w' orderly (LinkDown to now on) answer plain m = absurd plain
  event_tells w w' orderly (LinkUp to now on) answer plain m =
      mover_tells w w' to (LinkComesUp now on) answer m
      (subst (λ (s : State). AreTrue s.config s.table answer.sends) (sym m.moves.state)
      (asks_sound m.old (clean_state w orderly to m.old m.old_is) (max m.old.last now) on answer m.new m.moves))
  event_tells w w' orderly (Reconfigure to now c) answer plain m = absurd plain
