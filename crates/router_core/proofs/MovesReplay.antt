-- The changes of every move, replayed, give the new forwarding table.
use Rattle.std.proofs.Common.{◌≡◌, ℕ, ◌+◌, ◌%◌, max, Bool, true, false, cond, MatchBool, MatchOption, List, [], Option, Some, None, unwrap_or, option_map, option_and_then, refl, ap, sym, subst, ◌∙◌}
use Rattle.std.specs.List.{cons_option}
use Rattle.std.specs.FinMap as map_of
use Rattle.prefix6.specs.Prefix.{Prefix6, same_prefix}
use Rattle.prefix6.proofs.PrefixLaws.{same_prefix-true}
use Rattle.fib.specs.declared.change.RouteChange.{RouteChange}
use Rattle.fib.specs.Forwarding.{Forward, Forwarding, Replays, change_to, forward_of, last_change, same_forward}
use Rattle.ripng_wire.specs.Wire.{is_response}
use Rattle.route_table.specs.Route.{RouteValue}
use Rattle.route_table.specs.Table.{Table}
use Rattle.route_table.specs.Table.{with_value}
use Rattle.route_table.proofs.TableLaws.{get-map_values}
use Rattle.route_table.proofs.TableSteps.{get-with_value}
use Rattle.router_core.specs.Ageing.{aged_table, unmarked, without_mark}
use Rattle.router_core.specs.Changes.{change, forward, forwards, changes_of_start, changes_of_hearing}
use Rattle.router_core.specs.Hearing.{Hearing}
use Rattle.router_core.specs.LinkDown.{changes_of_link_down}
use Rattle.router_core.specs.Received.{Received}
use Rattle.router_core.specs.Faults.{fault}
use Rattle.router_core.specs.Machine.{State, Happening, Arrives, Ticks, Restarts, Reconfigures, ShutsDown, LinkGoesDown, LinkComesUp, Moves, Accepts, Refuses, Hears, Replies, ticked, owned_table, is_regular_due, is_triggered_due, forwards_before, gateway_of}
use Rattle.router_core.specs.Reconfiguring.{reconfigured_table, changes_of_reconfiguring, newly_owned, disowned}
use Rattle.router_core.specs.declared.answer.Answer.{Answer}
use Rattle.router_core.specs.declared.reconfiguring.Change.{Change}
use Rattle.router_core.specs.declared.reconfiguring.Change.TheVariants.{Cost, Own, Disown}
use Rattle.router_core.specs.declared.arrival.Fault.{Fault}
use Rattle.router_core.proofs.HearingSteps.{same_as_key}
use Rattle.router_core.proofs.Replaying.{hearing_replays, same_forward-true, prefix-change_to, forward-change_to}
use Rattle.router_core.proofs.AgeReplaying.{ageing_replays, link_down_replays, starting_replays}

-- marks do not matter to forwarding
unmarked_same : (table : Table) (p : Prefix6) → map_of.get (forwards (unmarked table)) p ≡ map_of.get (forwards table) p
unmarked_same table p =
    get-map_values forward (unmarked table) p ∙ ap (option_and_then forward) (get-map_values without_mark table p) ∙ same (map_of.get table p) ∙ sym (get-map_values forward table p)
  where
    same : (o : Option RouteValue) → option_and_then forward (option_and_then without_mark o) ≡ option_and_then forward o
    same None = refl
    same (Some r) = refl

nothing : (f : Forwarding) → Replays f [] f
nothing f p = refl

ticked_same : (old : State) (now word : ℕ) (p : Prefix6) → map_of.get (forwards (ticked old now word).table) p ≡ map_of.get (forwards (aged_table now old.table)) p
ticked_same old now word p = by_due (is_regular_due old now) (is_triggered_due old now)
  where
    by_due : (b c : Bool) → map_of.get (forwards (cond b (record old { table = unmarked (aged_table now old.table); last = now; regular = now + 15_000 + word % 30_001 })
        (cond c (record old { table = unmarked (aged_table now old.table); last = now; hold = now + 1_000 + word % 4_001 }) (record old { table = aged_table now old.table; last = now }))).table) p
        ≡ map_of.get (forwards (aged_table now old.table)) p
    by_due true c = unmarked_same (aged_table now old.table) p
    by_due false true = unmarked_same (aged_table now old.table) p
    by_due false false = refl

pub kept : (old new : State) (answer : Answer) → answer.changes ≡ [] → new.table ≡ old.table → Replays (forwards old.table) answer.changes (forwards new.table)
kept old new answer none same =
    subst (λ (cs : List RouteChange). Replays (forwards old.table) cs (forwards new.table)) (sym none) (subst (λ (t : Table). Replays (forwards old.table) [] (forwards t)) (sym same) (nothing (forwards old.table)))

accepted : (old new : State) (now : ℕ) (x : Received) (answer : Answer) (b : Bool) → MatchBool b (Hears old now x answer new) (Replies old now x answer new)
    → Replays (forwards old.table) answer.changes (forwards new.table)
accepted old new now x answer true hears =
    let h : Hearing = record { config = old.config; gateway = gateway_of old now x; entries = hears.entries; before = old.table; notes = answer.notes } in
    subst (λ (cs : List RouteChange). Replays (forwards old.table) cs (forwards new.table)) (sym hears.answer_is.changes_are)
    (subst (λ (t : Table). Replays (forwards old.table) (changes_of_hearing h) (forwards t)) (sym (ap (λ (s : State). s.table) hears.state)) (hearing_replays h hears.table hears.heard))
accepted old new now x answer false replies = kept old new answer replies.answer_is.changes_are (ap (λ (s : State). s.table) replies.state)

arrived : (old new : State) (now : ℕ) (x : Received) (answer : Answer) (o : Option Fault) → MatchOption o (Accepts old now x answer new) (λ why. Refuses old now why answer new)
    → Replays (forwards old.table) answer.changes (forwards new.table)
arrived old new now x answer None accepts = accepted old new now x answer (is_response x.bytes) accepts
arrived old new now x answer (Some why) refuses = kept old new answer (ap (λ (a : Answer). a.changes) refuses.answer_is) (ap (λ (s : State). s.table) refuses.state)

-- ---- changes of the configuration

-- one prefix has another route
module _ (table : Table) (p : Prefix6) (o : Option RouteValue) where
  -- what is left at a prefix, if the one change is made or not
  abbrev left : Prefix6 → Bool → Option Forward
  left q same =
      unwrap_or (option_map forward_of (last_change (cons_option (cond same None (Some (change_to p (option_and_then forward o)))) []) q)) (option_and_then forward (map_of.get table q))

  made : (q : Prefix6) → left q false ≡ cond (same_prefix p q) (option_and_then forward o) (option_and_then forward (map_of.get table q))
  made q =
      ap (λ r. unwrap_or (option_map forward_of (cond (same_prefix r q) (Some (change_to p (option_and_then forward o))) None)) (option_and_then forward (map_of.get table q)))
      (prefix-change_to p (option_and_then forward o))
      ∙ by_test (same_prefix p q)
    where
      by_test : (b : Bool) → unwrap_or (option_map forward_of (cond b (Some (change_to p (option_and_then forward o))) None)) (option_and_then forward (map_of.get table q))
          ≡ cond b (option_and_then forward o) (option_and_then forward (map_of.get table q))
      by_test true = forward-change_to p (option_and_then forward o)
      by_test false = refl

  there : (q : Prefix6) (here : Bool) → same_prefix p q ≡ here → map_of.get (with_value table p o) q ≡ cond here o (map_of.get table q)
  there q here is = get-with_value table p o q ∙ ap (λ b. cond b o (map_of.get table q)) (sym (same_as_key p q) ∙ is)

  left_by : (q : Prefix6) (same : Bool) → same_forward (option_and_then forward (map_of.get table p)) (option_and_then forward o) ≡ same
      → (here : Bool) → same_prefix p q ≡ here → option_and_then forward (map_of.get (with_value table p o) q) ≡ left q same
  left_by q true s true h =
      ap (option_and_then forward) (there q true h) ∙ sym (same_forward-true _ (option_and_then forward o) s)
      ∙ ap (λ (r : Prefix6). option_and_then forward (map_of.get table r)) (same_prefix-true p q h)
  left_by q true s false h = ap (option_and_then forward) (there q false h)
  left_by q false s true h = ap (option_and_then forward) (there q true h) ∙ sym (made q ∙ ap (λ b. cond b (option_and_then forward o) (option_and_then forward (map_of.get table q))) h)
  left_by q false s false h = ap (option_and_then forward) (there q false h) ∙ sym (made q ∙ ap (λ b. cond b (option_and_then forward o) (option_and_then forward (map_of.get table q))) h)

  one_replays : Replays (forwards table) (cons_option (change p (map_of.get table p) o) []) (forwards (with_value table p o))
  one_replays q =
      get-map_values forward (with_value table p o) q
      ∙ left_by q (same_forward (option_and_then forward (map_of.get table p)) (option_and_then forward o)) refl (same_prefix p q) refl
      ∙ ap (unwrap_or (option_map forward_of (last_change (cons_option (change p (map_of.get table p) o) []) q))) (sym (get-map_values forward table q))

pub change_replays : (now : ℕ) (table : Table) (c : Change) → Replays (forwards table) (changes_of_reconfiguring now table c) (forwards (reconfigured_table now table c))
change_replays now table (Cost iface cost) = nothing (forwards table)
change_replays now table (Own p tag) = one_replays table p (Some (newly_owned tag))
change_replays now table (Disown p) = one_replays table p (disowned now (map_of.get table p))

pub moves_replay : (old new : State) (happening : Happening) (answer : Answer) → Moves old happening answer new → Replays (forwards_before old happening) answer.changes (forwards new.table)
moves_replay old new (Arrives x) answer moves = arrived old new (max old.last x.now) x answer (fault old.config x) moves
moves_replay old new (Ticks now word) answer moves = λ p.
    ap (λ (s : State). map_of.get (forwards s.table) p) moves.state
    ∙ ticked_same old (max old.last now) word p
    ∙ subst (λ (cs : List RouteChange). Replays (forwards old.table) cs (forwards (aged_table (max old.last now) old.table))) (sym moves.answer_is.changes_are) (ageing_replays (max old.last now) old.table) p
moves_replay old new (Restarts now) answer moves =
    subst (λ (cs : List RouteChange). Replays map_of.empty cs (forwards new.table)) (sym moves.answer_is.changes_are)
    (subst (λ (t : Table). Replays map_of.empty (changes_of_start (owned_table old.config)) (forwards t)) (sym (ap (λ (s : State). s.table) moves.state)) (starting_replays (owned_table old.config)))
moves_replay old new (Reconfigures now c) answer moves =
    subst (λ (cs : List RouteChange). Replays (forwards old.table) cs (forwards new.table)) (sym moves.answer_is.changes_are)
    (subst (λ (t : Table). Replays (forwards old.table) (changes_of_reconfiguring (max old.last now) old.table c) (forwards t)) (sym (ap (λ (s : State). s.table) moves.state))
    (change_replays (max old.last now) old.table c))
moves_replay old new (ShutsDown now) answer moves = kept old new answer moves.answer_is.changes_are (ap (λ (s : State). s.table) moves.state)
moves_replay old new (LinkComesUp now iface) answer moves = kept old new answer moves.answer_is.changes_are (ap (λ (s : State). s.table) moves.state)
moves_replay old new (LinkGoesDown now iface) answer moves =
    subst (λ (cs : List RouteChange). Replays (forwards old.table) cs (forwards new.table)) (sym moves.answer_is.changes_are)
    (subst (λ (t : Table). Replays (forwards old.table) (changes_of_link_down iface (max old.last now) old.table) (forwards t)) (sym (ap (λ (s : State). s.table) moves.state))
    (link_down_replays iface (max old.last now) old.table))
