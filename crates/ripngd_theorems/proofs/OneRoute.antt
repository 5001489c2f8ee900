-- What holds of the route to one prefix, while a router goes on: whatever it does makes a route of the old one, or one of its own, or
-- takes one that is offered.
use Rattle.std.proofs.Common.{◌≡◌, ℕ, zero, suc, ◌+◌, ◌%◌, ◌≤◌, max, nat_le, Bool, true, false, cond, not, ◌&&◌, ◌||◌, MatchBool, MatchOption, map, length, Option, Some, None, option_and_then, slice_get, refl, sym, subst, arith}
use Rattle.std.specs.Prelude.{⊤}
use Rattle.std.specs.FinMap as map_of
use Rattle.std.specs.Ordering.{eq_by_cmp}
use Rattle.prefix6.specs.Prefix.{Prefix6, prefix_cmp, same_prefix}
use Rattle.ripng_wire.specs.declared.rte.Rte.{Rte}
use Rattle.ripng_wire.specs.Wire.{is_response}
use Rattle.route_table.specs.Route.{RouteValue}
use Rattle.route_table.specs.Table.{Table, with_value}
use Rattle.route_table.specs.declared.route.Clock.{Clock}
use Rattle.route_table.specs.declared.route.Clock.TheVariants.{Fixed, Live, Dying}
use Rattle.route_table.proofs.TableLaws.{at_from_entries, get-map_values}
use Rattle.route_table.proofs.TableSteps.{get-with_value}
use Rattle.router_core.specs.Adoption.{Gateway, adopted, adopted_by_clock, refreshed, taken, lost, metric_through, is_reachable, is_through, is_preferred, is_repeated}
use Rattle.router_core.specs.Ageing.{aged, aged_by_clock, aged_table, unmarked, without_mark}
use Rattle.router_core.specs.Config.{Config}
use Rattle.router_core.specs.Faults.{fault}
use Rattle.router_core.specs.Hearing.{Hearing, Heard, route_after, is_refused}
use Rattle.router_core.specs.LinkDown.{is_live_on, after_link_down}
use Rattle.router_core.specs.Machine.{State, Happening, Arrives, Ticks, Restarts, Reconfigures, ShutsDown, LinkGoesDown, LinkComesUp, Moves, Accepts, Hears, Refuses, Replies, owned_table, ticked, is_regular_due, is_triggered_due}
use Rattle.router_core.specs.Offers.{Offer, offer_at, is_offer, prefix_named}
use Rattle.router_core.specs.Owning.{owned_route}
use Rattle.router_core.specs.Received.{Received}
use Rattle.router_core.specs.Reconfiguring.{disowned, newly_owned, reconfigured_table}
use Rattle.router_core.specs.declared.answer.Answer.{Answer}
use Rattle.router_core.specs.declared.arrival.Fault.{Fault}
use Rattle.router_core.specs.declared.reconfiguring.Change.{Change}
use Rattle.router_core.specs.declared.reconfiguring.Change.TheVariants.{Cost, Own, Disown}
use Rattle.router_core.proofs.HearingSteps.{before_all, after_one, at_place}
use Rattle.ripng_world.proofs.Each.{each_image}
use Rattle.router_core.specs.Timers.{next_hold, next_regular}

-- what holds of a route that there may be
abbrev pub OfRoute : (RouteValue → Type 0) → Option RouteValue → Type 0
OfRoute P None = ⊤
OfRoute P (Some r) = P r

-- a fact that steps keep: it holds of lost routes and of own ones, and does not depend on the mark
pub record IsKept (P : RouteValue → Type 0) : Type 0 where
  pub lost_too : (now : ℕ) (r : RouteValue) → P (lost now r)
  pub own_too : (tag : ℕ) (changed : Bool) → P (record (owned_route tag) { changed = changed })
  pub unmarked_too : (r : RouteValue) → P r → P (record r { changed = false })

module _ (P : RouteValue → Type 0) (kept : IsKept P) where
  -- ---- offers of a gateway, of which those that are spoken of may be taken

  module _ (g : Gateway) (Q : Offer → Type 0) (take_too : (o : Offer) (changed : Bool) → Q o → P (record (taken g o) { changed = changed })) where
    refreshed_keeps : (o : Offer) (r : RouteValue) → Q o → P (refreshed g o r)
    refreshed_keeps o r q =
        elim (is_reachable (metric_through g o)) as (λ b. P (cond b (record (taken g o) { changed = r.changed || not (is_repeated g o r) }) (lost g.moment r))) [
          | true ↦ take_too o (r.changed || not (is_repeated g o r)) q
          | false ↦ kept.lost_too g.moment r
        ]

    by_clock : (o : Offer) (r : RouteValue) → Q o → P r → (c : Clock) → P (adopted_by_clock g o r c)
    by_clock o r q p Fixed = p
    by_clock o r q p (Live until) =
        elim (is_through g r.origin) as (λ b. P (cond b (refreshed g o r) (cond (is_preferred g o r.metric until) (taken g o) r))) [
          | true ↦ refreshed_keeps o r q
          | false ↦ elim (is_preferred g o r.metric until) as (λ b. P (cond b (taken g o) r)) [ true ↦ take_too o true q | false ↦ p ]
        ]
    by_clock o r q p (Dying until) = elim (is_reachable (metric_through g o)) as (λ b. P (cond b (taken g o) r)) [ true ↦ take_too o true q | false ↦ p ]

    pub adopted_keeps : (o : Offer) (old : Option RouteValue) → Q o → OfRoute P old → OfRoute P (adopted g old o)
    adopted_keeps o None q p = elim (is_reachable (metric_through g o)) as (λ b. OfRoute P (cond b (Some (taken g o)) None)) [ true ↦ take_too o true q | false ↦ tt ]
    adopted_keeps o (Some r) q p = by_clock o r q p r.clock

  -- ---- a Response

  module _ (h : Hearing) (Q : Offer → Type 0) (take_too : (o : Offer) (changed : Bool) → Q o → P (record (taken h.gateway o) { changed = changed }))
      (each : (place : ℕ) (e : Rte) → slice_get h.entries place ≡ Some e → Q (offer_at h.config h.gateway.from h.entries place e)) (p : Prefix6) where
    one_entry : (place : ℕ) (e : Rte) → slice_get h.entries place ≡ Some e → OfRoute P (route_after h place p) → OfRoute P (route_after h (place + 1) p)
    one_entry place e is holds =
        subst (OfRoute P) (sym (after_one h place e p is))
        (elim ((is_offer e && same_prefix (prefix_named e) p) && not (is_refused h place)) as
        (λ b. OfRoute P (cond b (adopted h.gateway (route_after h place p) (offer_at h.config h.gateway.from h.entries place e)) (route_after h place p))) [
          | true ↦ adopted_keeps h.gateway Q take_too (offer_at h.config h.gateway.from h.entries place e) (route_after h place p) (each place e is) holds
          | false ↦ holds
        ])

    pub entries_keep : (place m : ℕ) → place + m ≤ length h.entries → OfRoute P (route_after h place p) → OfRoute P (route_after h (place + m) p)
    entries_keep place zero within holds = subst (λ n. OfRoute P (route_after h n p)) (none place) holds
      where
        none : (n : ℕ) → n ≡ n + 0
        none n = omega arith
    entries_keep place (suc m) within holds =
        let entry : (e : Rte) × (slice_get h.entries (place + m) ≡ Some e) = at_place h.entries (place + m) (omega arith) in
        subst (λ n. OfRoute P (route_after h n p)) (one place m)
        (one_entry (place + m) entry.0 entry.1 (entries_keep place m (omega arith) holds))
      where
        one : (a b : ℕ) → a + b + 1 ≡ a + suc b
        one a b = omega arith

    pub heard_keeps : (after : Table) → Heard h after → OfRoute P (map_of.get h.before p) → OfRoute P (map_of.get after p)
    heard_keeps after heard holds =
        subst (OfRoute P) (sym (heard.routes p))
        (subst (λ n. OfRoute P (route_after h n p)) (none (length h.entries)) (entries_keep 0 (length h.entries) (omega arith) (subst (OfRoute P) (sym (before_all h p)) holds)))
      where
        none : (n : ℕ) → 0 + n ≡ n
        none n = omega arith

  -- ---- all else

  module _ (p : Prefix6) where
    abbrev At : Table → Type 0
    At table = OfRoute P (map_of.get table p)

    mapped_keeps : (f : RouteValue → Option RouteValue) → ((r : RouteValue) → P r → OfRoute P (f r)) → (o : Option RouteValue) → OfRoute P o → OfRoute P (option_and_then f o)
    mapped_keeps f step None holds = tt
    mapped_keeps f step (Some r) holds = step r holds

    aged_keeps : (now : ℕ) (r : RouteValue) → P r → OfRoute P (aged now r)
    aged_keeps now r holds = by_clock' r.clock
      where
        by_clock' : (c : Clock) → OfRoute P (aged_by_clock now r c)
        by_clock' Fixed = holds
        by_clock' (Live until) = elim (nat_le until now) as (λ b. OfRoute P (cond b (Some (lost now r)) (Some r))) [ true ↦ kept.lost_too now r | false ↦ holds ]
        by_clock' (Dying until) = elim (nat_le until now) as (λ b. OfRoute P (cond b None (Some r))) [ true ↦ tt | false ↦ holds ]

    aged_table_keeps : (now : ℕ) (table : Table) → At table → At (aged_table now table)
    aged_table_keeps now table holds = subst (OfRoute P) (sym (get-map_values (aged now) table p)) (mapped_keeps (aged now) (aged_keeps now) (map_of.get table p) holds)

    unmarked_keeps : (table : Table) → At table → At (unmarked table)
    unmarked_keeps table holds = subst (OfRoute P) (sym (get-map_values without_mark table p)) (mapped_keeps without_mark kept.unmarked_too (map_of.get table p) holds)

    ticked_keeps : (old : State) (now word : ℕ) → At old.table → At (ticked old now word).table
    ticked_keeps old now word holds = by_due (is_regular_due old now) (is_triggered_due old now)
      where
        aged_at : At (aged_table now old.table)
        aged_at = aged_table_keeps now old.table holds

        by_due : (b c : Bool) → At (cond b (record old { table = unmarked (aged_table now old.table); last = now; regular = next_regular now word })
            (cond c (record old { table = unmarked (aged_table now old.table); last = now; hold = next_hold now word }) (record old { table = aged_table now old.table; last = now }))).table
        by_due true c = unmarked_keeps (aged_table now old.table) aged_at
        by_due false true = unmarked_keeps (aged_table now old.table) aged_at
        by_due false false = aged_at

    owned_keeps : (config : Config) → At (owned_table config)
    owned_keeps config = by_value (map_of.get (owned_table config) p) refl
      where
        by_value : (o : Option RouteValue) → map_of.get (owned_table config) p ≡ o → OfRoute P o
        by_value None is = tt
        by_value (Some r) is =
            at_from_entries (λ t. P t.1) (map (λ t. (t.0, owned_route t.1)) config.prefixes)
            (each_image (λ (t : Prefix6 × RouteValue). P t.1) (λ (t : Prefix6 × ℕ). (t.0, owned_route t.1)) (λ t. kept.own_too t.1 false) config.prefixes) p r is

    with_keeps : (table : Table) (q : Prefix6) (o : Option RouteValue) → OfRoute P o → At table → At (with_value table q o)
    with_keeps table q o new old =
        subst (OfRoute P) (sym (get-with_value table q o p))
        (elim (eq_by_cmp prefix_cmp p q) as (λ b. OfRoute P (cond b o (map_of.get table p))) [ true ↦ new | false ↦ old ])

    disowned_keeps : (now : ℕ) (o : Option RouteValue) → OfRoute P (disowned now o)
    disowned_keeps now None = tt
    disowned_keeps now (Some r) = kept.lost_too now r

    changed_keeps : (now : ℕ) (table : Table) (c : Change) → At table → At (reconfigured_table now table c)
    changed_keeps now table (Cost iface cost) holds = holds
    changed_keeps now table (Own q tag) holds = with_keeps table q (Some (newly_owned tag)) (kept.own_too tag true) holds
    changed_keeps now table (Disown q) holds = with_keeps table q (disowned now (map_of.get table q)) (disowned_keeps now (map_of.get table q)) holds

    link_down_keeps : (iface now : ℕ) (r : RouteValue) → P r → P (after_link_down iface now r)
    link_down_keeps iface now r holds = elim (is_live_on iface r) as (λ b. P (cond b (lost now r) r)) [ true ↦ kept.lost_too now r | false ↦ holds ]

    -- a step keeps it, if a Response that is heard does
    module _ (old : State) (answer : Answer) (new : State) (holds : At old.table) where
      accepted_keeps : (now : ℕ) (x : Received) → (is_response x.bytes ≡ true → Hears old now x answer new → At new.table)
          → (b : Bool) → is_response x.bytes ≡ b → MatchBool b (Hears old now x answer new) (Replies old now x answer new) → At new.table
      accepted_keeps now x hear true is hears = hear is hears
      accepted_keeps now x hear false is replies = subst (λ (s : State). At s.table) (sym replies.state) holds

      arrived_keeps : (now : ℕ) (x : Received) → (fault old.config x ≡ None → is_response x.bytes ≡ true → Hears old now x answer new → At new.table)
          → (o : Option Fault) → fault old.config x ≡ o → MatchOption o (Accepts old now x answer new) (λ why. Refuses old now why answer new) → At new.table
      arrived_keeps now x hear None is accepts = accepted_keeps now x (hear is) (is_response x.bytes) refl accepts
      arrived_keeps now x hear (Some why) is refuses = subst (λ (s : State). At s.table) (sym refuses.state) holds

      -- nothing is asked of another happening
      abbrev pub HearsWell : Happening → Type 0
      HearsWell (Arrives x) = fault old.config x ≡ None → is_response x.bytes ≡ true → Hears old (max old.last x.now) x answer new → At new.table
      HearsWell _ = ⊤

      pub moves_keep : (h : Happening) → HearsWell h → Moves old h answer new → At new.table
      moves_keep (Arrives x) hear moves = arrived_keeps (max old.last x.now) x hear (fault old.config x) refl moves
      moves_keep (Ticks now word) hear moves = subst (λ (s : State). At s.table) (sym moves.state) (ticked_keeps old (max old.last now) word holds)
      moves_keep (Restarts now) hear moves = subst (λ (s : State). At s.table) (sym moves.state) (owned_keeps old.config)
      moves_keep (Reconfigures now c) hear moves = subst (λ (s : State). At s.table) (sym moves.state) (changed_keeps (max old.last now) old.table c holds)
      moves_keep (ShutsDown now) hear moves = subst (λ (s : State). At s.table) (sym moves.state) holds
      moves_keep (LinkComesUp now iface) hear moves = subst (λ (s : State). At s.table) (sym moves.state) holds
      moves_keep (LinkGoesDown now iface) hear moves =
          subst (λ (s : State). At s.table) (sym moves.state)
          (subst (OfRoute P) (sym (get-map_values (λ r. Some (after_link_down iface (max old.last now) r)) old.table p))
          (mapped_keeps (λ r. Some (after_link_down iface (max old.last now) r)) (link_down_keeps iface (max old.last now)) (map_of.get old.table p) holds))
