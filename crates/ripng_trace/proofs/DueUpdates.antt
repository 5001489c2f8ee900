-- Which update was due at a tick, by the timers that it moved.
use Rattle.std.proofs.Common.{◌≡◌, ◌∙◌, ◌+◌, ◌%◌, ◌==◌, ◌&&◌, ◌||◌, cond, refl, ap, sym, arith, ℕ, max, not, nat_le, Bool, true, false, if◌then◌else◌, List, [], ◌∷◌, Option, Some, None, is_some, option_and_then, option_map, slice_get}
use Rattle.std.specs.FinMap as map_of
use Rattle.std.specs.List.{list_any}
use Rattle.std.proofs.lemmas.Bool.Decides.{nat_tests}
use Rattle.prefix6.specs.Prefix.{Prefix6}
use Rattle.route_table.specs.Due.{first_changed, first_where}
use Rattle.route_table.specs.Route.{RouteValue}
use Rattle.route_table.specs.Table.{is_past}
use Rattle.router_core.specs.Ageing.{aged_table, unmarked}
use Rattle.router_core.specs.Machine.{State, is_regular_due, is_triggered_due, ticked}
use Rattle.router_core.specs.Timers.{next_hold, next_regular}
use Rattle.router_core.specs.declared.answer.Answer.{Answer}
use Rattle.ripng_world.specs.Network.{Network}
use Rattle.ripng_world.specs.World.{World, Event, Deliver, Stranger, Tick, Restart, Shutdown, LinkDown, LinkUp, Reconfigure, Happens}
use Rattle.ripng_world.proofs.WorldRuns.{get_map}
use Rattle.ripng_trace.proofs.Getting.{get_here}
use Rattle.ripng_trace.specs.Reading.{known_of}
use Rattle.ripng_trace.specs.Records.{known_as, timers_in}
use Rattle.ripng_trace.specs.Updates.{TellsUpdate, due_at, due_update, update_by}
use Rattle.ripng_trace.specs.declared.records.UpdateRecord.{UpdateRecord}
use Rattle.ripng_trace.specs.declared.records.UpdateRecord.TheVariants.{Regular, Triggered, Held}

-- a walk finds a marked route exactly if there is one
marks_found : (es : List (Prefix6 × RouteValue)) → is_some (first_where (λ r. r.changed) None es) ≡ list_any (λ t. t.1.changed) es
marks_found [] = refl
marks_found (e ∷ es) = by_mark e.1.changed (marks_found es)
  where
    by_mark : (b : Bool) → is_some (first_where (λ r. r.changed) None es) ≡ list_any (λ t. t.1.changed) es
        → is_some (if b && is_past None e.0 then Some e else first_where (λ r. r.changed) None es) ≡ (b || list_any (λ t. t.1.changed) es)
    by_mark true rest = refl
    by_mark false rest = rest

-- each update moves its own timer
regular_moves : (old now more : ℕ) → nat_le old now ≡ true → not (now + 15_000 + more == old) ≡ true
regular_moves old now more due = grind (arith, nat_tests)

hold_moves : (old now more : ℕ) → nat_le old now ≡ true → not (now + 1_000 + more == old) ≡ true
hold_moves old now more due = grind (arith, nat_tests)

stays_put : (n : ℕ) → not (n == n) ≡ false
stays_put n = grind (arith, nat_tests)

first_of_both : (a b : Bool) → (a && b) ≡ true → a ≡ true
first_of_both true b is = refl
first_of_both false b is = is

module _ (s : State) (now word : ℕ) where
  abbrev aged_as : State
  aged_as = record s { table = aged_table now s.table; last = now }

  abbrev regular_as : State
  regular_as = record s { table = unmarked (aged_table now s.table); last = now; regular = next_regular now word }

  abbrev triggered_as : State
  triggered_as = record s { table = unmarked (aged_table now s.table); last = now; hold = next_hold now word }

  abbrev held_or_none : Option UpdateRecord
  held_or_none = if list_any (λ t. t.1.changed) (map_of.entries (aged_table now s.table)) then Some Held else None

  by_triggered : (b : Bool) → is_triggered_due s now ≡ b → update_by (timers_in s) (cond b triggered_as aged_as) ≡ cond b (Some Triggered) held_or_none
  by_triggered true due =
      ap (λ x. cond x (Some Regular) (if not (next_hold now word == s.hold) then Some Triggered else cond (is_some (first_changed None (unmarked (aged_table now s.table)))) (Some Held) None)) (stays_put s.regular)
      ∙ ap (λ x. cond x (Some Triggered) (cond (is_some (first_changed None (unmarked (aged_table now s.table)))) (Some Held) None))
      (hold_moves s.hold now (word % 4_001) (first_of_both (nat_le s.hold now) (list_any (λ t. t.1.changed) (map_of.entries (aged_table now s.table))) due))
  by_triggered false due =
      ap (λ x. cond x (Some Regular) (if not (s.hold == s.hold) then Some Triggered else cond (is_some (first_changed None (aged_table now s.table))) (Some Held) None)) (stays_put s.regular)
      ∙ ap (λ x. cond x (Some Triggered) (cond (is_some (first_changed None (aged_table now s.table))) (Some Held) None)) (stays_put s.hold)
      ∙ ap (λ x. cond x (Some Held) None) (marks_found (map_of.entries (aged_table now s.table)))

  by_regular : (b : Bool) → is_regular_due s now ≡ b
      → update_by (timers_in s) (cond b regular_as (cond (is_triggered_due s now) triggered_as aged_as)) ≡ cond b (Some Regular) (cond (is_triggered_due s now) (Some Triggered) held_or_none)
  by_regular true due =
      ap (λ x. cond x (Some Regular) (if not (s.hold == s.hold) then Some Triggered else cond (is_some (first_changed None (unmarked (aged_table now s.table)))) (Some Held) None))
      (regular_moves s.regular now (word % 30_001) due)
  by_regular false due = by_triggered (is_triggered_due s now) refl

  -- the timers that a tick moved say which update was due
  pub ticked_tells : update_by (timers_in s) (ticked s now word) ≡ due_update s now
  ticked_tells = by_regular (is_regular_due s now) refl

-- so they say it of an event
pub update_told : (net : Network) (w : World) (e : Event) (answer : Answer) (mid : World) → Happens net w e answer mid → (update : Option UpdateRecord)
    → TellsUpdate (known_of w) (record { network = net; world = mid }) e update → update ≡ due_at (record { network = net; world = w }) e
update_told net w (Deliver datagram router iface now) answer mid happens update tells = tells
update_told net w (Stranger router x) answer mid happens update tells = tells
update_told net w (Restart router now) answer mid happens update tells = tells
update_told net w (Shutdown router now) answer mid happens update tells = tells
update_told net w (LinkDown router now iface) answer mid happens update tells = tells
update_told net w (LinkUp router now iface) answer mid happens update tells = tells
update_told net w (Reconfigure router now c) answer mid happens update tells = tells
update_told net w (Tick router now word) answer mid happens update tells =
    tells (known_as happens.old) happens.new
    (get_map known_as w.states router ∙ ap (option_map known_as) happens.old_is)
    (ap (λ (ss : List State). slice_get ss router) happens.states ∙ get_here w.states router happens.old happens.new happens.old_is)
    ∙ ap (update_by (timers_in happens.old)) happens.moves.state
    ∙ ticked_tells happens.old (max happens.old.last now) word
    ∙ ap (option_and_then (λ (s : State). due_update s (max s.last now))) (sym happens.old_is)
