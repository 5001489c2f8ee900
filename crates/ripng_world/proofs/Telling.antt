-- A router with a sound table sends only true entries.
use Rattle.std.proofs.Common.{◌≡◌, ℕ, ◌+◌, ◌*◌, ◌-◌, ◌/◌, ◌<◌, ◌≤◌, Bool, true, false, cond, ◌&&◌, ◌==◌, MatchBool, MatchOption, max, nat_le, nat_lt, List, [], ◌∷◌, map, drop, length, slice_range, Option, Some, None, refl, ap, sym, subst, arith, le_refl}
use Rattle.std.specs.List.{AllByRecursion, enumerate_from}
use Rattle.std.specs.FinMap as map_of
use Rattle.prefix6.specs.Prefix.{Prefix6, cleared}
use Rattle.ripng_wire.specs.declared.rte.Rte.{Rte}
use Rattle.ripng_wire.specs.declared.rte.Command.TheVariants.{Request, Response}
use Rattle.ripng_wire.specs.Layout.{entries_for_mtu}
use Rattle.ripng_wire.specs.Wire.{is_response}
use Rattle.ripng_wire.proofs.OneReading.{one_reading}
use Rattle.route_table.specs.Route.{RouteValue, infinity}
use Rattle.route_table.specs.Table.{Table}
use Rattle.route_table.specs.declared.route.Clock.{Clock}
use Rattle.route_table.specs.declared.route.Clock.TheVariants.{Fixed, Live, Dying}
use Rattle.route_table.proofs.TableLaws.{all_entries, at_map_values, Some-same, None-Some}
use Rattle.router_core.specs.Announcing.{announced, is_announced, is_passive}
use Rattle.router_core.specs.Config.{Config, mtu_at}
use Rattle.router_core.specs.Offers.{prefix_named}
use Rattle.router_core.specs.Received.{Received}
use Rattle.router_core.specs.Faults.{fault, ripng_port}
use Rattle.router_core.specs.Adoption.{lost}
use Rattle.router_core.specs.Ageing.{aged, aged_by_clock, aged_table, without_mark, unmarked}
use Rattle.router_core.specs.Output.{Message, AreSpelled, told, told_entry, is_learned_on, every_route, is_changed, numbers_below, pieces, filled, reply_entry, reply_on, reply, asks_for_all, asked_on, responses, start_messages, link_up_messages, request_on, update_on, update_messages, reply_messages}
use Rattle.router_core.specs.Machine.{State, Happening, Arrives, Ticks, Restarts, Reconfigures, ShutsDown, LinkGoesDown, LinkComesUp, Moves, Starts, Hears, Replies, Refuses, Accepts, tick_messages, is_regular_due, is_triggered_due}
use Rattle.router_core.specs.declared.answer.Answer.{Answer}
use Rattle.router_core.specs.declared.arrival.Fault.{Fault}
use Rattle.router_core.specs.declared.answer.Outgoing.{Outgoing}
use Rattle.router_core.specs.declared.answer.Destination.{Destination}
use Rattle.router_core.specs.declared.answer.Destination.TheVariants.{Group, Peer}
use Rattle.router_core.specs.Shutdown.{unreachable_table}
use Rattle.router_core.specs.LinkDown.{is_live_on, after_link_down, table_after_link_down}
use Rattle.ripng_world.specs.Walks.{Hop}
use Rattle.ripng_world.specs.Past.{Past, ReachesSince}
use Rattle.ripng_world.specs.TruthSince.{IsSoundSince, IsSoundTableSince, IsSoundEntrySince, IsSoundDatagramSince}
use Rattle.ripng_world.proofs.Announced.{announced_held}
use Rattle.ripng_world.proofs.Each.{each_filter, each_take, each_drop, each_mapped, each_image, each_flat, each_weaker}

module _ (past : Past) (router : ℕ) where
  -- unreachable entries are true
  poison : (e : Rte) → e.metric ≡ infinity → IsSoundEntrySince past router e
  poison e is = record { in_range = omega arith; backed = λ h. absurd (omega arith) }

  -- ---- ageing

  pub lost_sound : (now : ℕ) (p : Prefix6) (r : RouteValue) → IsSoundSince past router p r → IsSoundSince past router p (lost now r)
  lost_sound now p r s = record { is_prefix = s.is_prefix; in_range = le_refl _; backed = λ h. absurd (omega arith) }

  by_clock : (now : ℕ) (p : Prefix6) (r r' : RouteValue) → IsSoundSince past router p r → (c : Clock) → aged_by_clock now r c ≡ Some r' → IsSoundSince past router p r'
  by_clock now p r r' s Fixed e = subst (IsSoundSince past router p) (Some-same r r' e) s
  by_clock now p r r' s (Live until) e = by_test (nat_le until now) e
    where
      by_test : (b : Bool) → cond b (Some (lost now r)) (Some r) ≡ Some r' → IsSoundSince past router p r'
      by_test true is = subst (IsSoundSince past router p) (Some-same _ r' is) (lost_sound now p r s)
      by_test false is = subst (IsSoundSince past router p) (Some-same r r' is) s
  by_clock now p r r' s (Dying until) e = by_test (nat_le until now) e
    where
      by_test : (b : Bool) → cond b None (Some r) ≡ Some r' → IsSoundSince past router p r'
      by_test true is = absurd (None-Some r' is)
      by_test false is = subst (IsSoundSince past router p) (Some-same r r' is) s

  pub aged_sound : (now : ℕ) (table : Table) → IsSoundTableSince past router table → IsSoundTableSince past router (aged_table now table)
  aged_sound now table sound =
      at_map_values (aged now) (λ t. IsSoundSince past router t.0 t.1) (λ t. IsSoundSince past router t.0 t.1)
      (λ p r r' s is. by_clock now p r r' s r.clock is) table sound

  -- of a router that shuts down, all routes are unreachable
  unreachable_sound : (now : ℕ) (table : Table) → IsSoundTableSince past router table → IsSoundTableSince past router (unreachable_table now table)
  unreachable_sound now table sound =
      at_map_values (λ r. Some (lost now r)) (λ t. IsSoundSince past router t.0 t.1) (λ t. IsSoundSince past router t.0 t.1)
      (λ p r r' s is. subst (IsSoundSince past router p) (Some-same _ r' is) (lost_sound now p r s)) table sound

  -- where a link is lost, routes end or stay
  pub link_down_sound : (iface now : ℕ) (table : Table) → IsSoundTableSince past router table → IsSoundTableSince past router (table_after_link_down iface now table)
  link_down_sound iface now table sound =
      at_map_values (λ r. Some (after_link_down iface now r)) (λ t. IsSoundSince past router t.0 t.1) (λ t. IsSoundSince past router t.0 t.1)
      (λ p r r' s is. subst (IsSoundSince past router p) (Some-same _ r' is) (by_test p r s (is_live_on iface r))) table sound
    where
      by_test : (p : Prefix6) (r : RouteValue) → IsSoundSince past router p r → (b : Bool) → IsSoundSince past router p (cond b (lost now r) r)
      by_test p r s true = lost_sound now p r s
      by_test p r s false = s

  pub unmarked_sound : (table : Table) → IsSoundTableSince past router table → IsSoundTableSince past router (unmarked table)
  unmarked_sound table sound =
      at_map_values without_mark (λ t. IsSoundSince past router t.0 t.1) (λ t. IsSoundSince past router t.0 t.1)
      (λ p r r' s is. subst (IsSoundSince past router p) (Some-same _ r' is) (record { is_prefix = s.is_prefix; in_range = s.in_range; backed = s.backed }))
      table sound

  -- ---- lists of entries

  abbrev AllTrue : List Rte → Type 0
  AllTrue entries = AllByRecursion (IsSoundEntrySince past router) entries

  of_walk : (p : Prefix6) (metric tag : ℕ) → (metric < infinity → (walk : List Hop) × ReachesSince past router p metric tag walk)
      → (addr len : ℕ) → cleared addr len ≡ p → metric ≤ infinity → IsSoundEntrySince past router (record { addr = addr; tag = tag; len = len; metric = metric })
  of_walk p metric tag backed addr len is low =
      record {
        in_range = low;
        backed = λ h. let b : (walk : List Hop) × ReachesSince past router p metric tag walk = backed h in
            (b.0, subst (λ q. ReachesSince past router q metric tag b.0) (sym is) b.1);
      }

  told_true : (iface : ℕ) (p : Prefix6) (r : RouteValue) → IsSoundSince past router p r → IsSoundEntrySince past router (told_entry iface (p, r))
  told_true iface p r s =
      elim (is_learned_on iface r.origin) as (λ b. IsSoundEntrySince past router (record { addr = p.addr; tag = r.tag; len = p.len; metric = cond b infinity r.metric })) [
        | true ↦ poison _ refl
        | false ↦ of_walk p r.metric r.tag (λ h. let b = s.backed h in (b.0, b.1)) p.addr p.len s.is_prefix s.in_range
      ]

  all_told : (iface : ℕ) (which : RouteValue → Bool) (table : Table) → IsSoundTableSince past router table → AllTrue (told iface which table)
  all_told iface which table sound =
      each_mapped (IsSoundEntrySince past router) (told_entry iface) _
      (each_filter (λ (t : Prefix6 × RouteValue). IsSoundEntrySince past router (told_entry iface t)) (λ t. which t.1) (map_of.entries table)
      (all_entries (λ t. IsSoundEntrySince past router (told_entry iface t)) table (λ p r here. told_true iface p r (sound p r here))))

  filled_true : (table : Table) → IsSoundTableSince past router table → (e : Rte) (o : Option RouteValue)
      → ((r : RouteValue) → o ≡ Some r → IsSoundSince past router (cleared e.addr e.len) r) → IsSoundEntrySince past router (filled e o)
  filled_true table sound e None at = poison _ refl
  filled_true table sound e (Some r) at =
      let s : IsSoundSince past router (cleared e.addr e.len) r = at r refl in
      of_walk (cleared e.addr e.len) r.metric r.tag (λ h. let b = s.backed h in (b.0, b.1)) e.addr e.len refl s.in_range

  reply_true : (table : Table) → IsSoundTableSince past router table → (e : Rte) → IsSoundEntrySince past router (reply_entry table e)
  reply_true table sound e = by_length (nat_le e.len 128)
    where
      by_length : (b : Bool) → IsSoundEntrySince past router (filled e (cond b (map_of.get table (cleared e.addr e.len)) None))
      by_length true = filled_true table sound e _ (λ r is. sound (cleared e.addr e.len) r is)
      by_length false = filled_true table sound e None (λ r is. absurd (None-Some r is))

  announced_sound : (config : Config) (iface : ℕ) (table : Table) → IsSoundTableSince past router table → IsSoundTableSince past router (announced config iface table)
  announced_sound config iface table sound p r is = sound p r (announced_held config iface table p r is)

  reply_on_true : (config : Config) (iface : ℕ) (table : Table) → IsSoundTableSince past router table → (e : Rte) → IsSoundEntrySince past router (reply_on config iface table e)
  reply_on_true config iface table sound e =
      elim (is_announced config iface (prefix_named e)) as (λ b. IsSoundEntrySince past router (cond b (reply_entry table e) (filled e None))) [
        | true ↦ reply_true table sound e
        | false ↦ poison _ refl
      ]

  all_replied : (config : Config) (iface : ℕ) (table : Table) (asked : List Rte) → IsSoundTableSince past router table → AllTrue (reply config iface table asked)
  all_replied config iface table asked sound =
      elim (asks_for_all asked) as (λ b. AllTrue (cond b (told iface every_route (announced config iface table)) (map (reply_on config iface table) asked))) [
        | true ↦ all_told iface every_route (announced config iface table) (announced_sound config iface table sound)
        | false ↦ each_image (IsSoundEntrySince past router) (reply_on config iface table) (reply_on_true config iface table sound) asked
      ]

  -- ---- messages

  -- a Response has true entries only
  abbrev IsTrueMessage : Message → Type 0
  IsTrueMessage m = m.command ≡ Response → AllTrue m.entries

  abbrev AllTrueMessages : List Message → Type 0
  AllTrueMessages ms = AllByRecursion IsTrueMessage ms

  pieces_true : (n : ℕ) (entries : List Rte) → AllTrue entries → AllByRecursion AllTrue (pieces n entries)
  pieces_true n entries all =
      each_image AllTrue (λ k. slice_range entries (n * k) (n * k + n))
      (λ k. each_take (IsSoundEntrySince past router) ((n * k + n) - n * k) (drop (n * k) entries) (each_drop (IsSoundEntrySince past router) (n * k) entries all))
      (numbers_below ((length entries + (n - 1)) / n))

  responses_true : (config : Config) (iface : ℕ) (to : Destination) (entries : List Rte) → AllTrue entries → AllTrueMessages (responses config iface to entries)
  responses_true config iface to entries all =
      each_mapped IsTrueMessage (λ piece. record { iface = iface; to = to; command = Response; entries = piece }) (pieces (entries_for_mtu (mtu_at config iface)) entries)
      (each_weaker (λ piece. Response ≡ Response → AllTrue piece) AllTrue (λ piece t _. t) _ (pieces_true (entries_for_mtu (mtu_at config iface)) entries all))

  updates_true : (config : Config) (which : RouteValue → Bool) (table : Table) → IsSoundTableSince past router table → AllTrueMessages (update_messages config which table)
  updates_true config which table sound = each_flat IsTrueMessage (λ t. update_on config which table t.0) (λ t. update_true t.0) (enumerate_from 0 config.interfaces)
    where
      update_true : (iface : ℕ) → AllTrueMessages (update_on config which table iface)
      update_true iface =
          elim (is_passive config iface) as (λ b. AllTrueMessages (cond b [] (responses config iface Group (told iface which (announced config iface table))))) [
            | true ↦ tt
            | false ↦ responses_true config iface Group (told iface which (announced config iface table)) (all_told iface which (announced config iface table) (announced_sound config iface table sound))
          ]

  request_true : (iface : ℕ) → IsTrueMessage (request_on iface)
  request_true iface is = absurd (other_command is)
    where
      other_command : Request ≡ Response → ⊥
      other_command e = cc

  asked_true : (config : Config) (iface : ℕ) → AllTrueMessages (asked_on config iface)
  asked_true config iface =
      elim (is_passive config iface) as (λ b. AllTrueMessages (cond b [] (request_on iface ∷ []))) [
        | true ↦ tt
        | false ↦ (request_true iface, tt)
      ]

  starts_true : (config : Config) → AllTrueMessages (start_messages config)
  starts_true config = each_flat IsTrueMessage (λ t. asked_on config t.0) (λ t. asked_true config t.0) (enumerate_from 0 config.interfaces)

  link_up_true : (config : Config) (iface : ℕ) → AllTrueMessages (link_up_messages config iface)
  link_up_true config iface =
      elim (nat_lt iface (length config.interfaces)) as (λ b. AllTrueMessages (cond b (asked_on config iface) [])) [
        | true ↦ asked_true config iface
        | false ↦ tt
      ]

  replies_true : (config : Config) (table : Table) (x : Received) (asked : List Rte) → IsSoundTableSince past router table → AllTrueMessages (reply_messages config table x asked)
  replies_true config table x asked sound =
      elim (is_passive config x.iface && x.source_port == ripng_port) as (λ b. AllTrueMessages (cond b [] (responses config x.iface (Peer x.source x.source_port) (reply config x.iface table asked)))) [
        | true ↦ tt
        | false ↦ responses_true config x.iface (Peer x.source x.source_port) (reply config x.iface table asked) (all_replied config x.iface table asked sound)
      ]

  tick_true : (old : State) (now : ℕ) → IsSoundTableSince past router old.table → AllTrueMessages (tick_messages old now)
  tick_true old now sound =
      let aged_too = aged_sound now old.table sound in
      elim (is_regular_due old now) as (λ b. AllTrueMessages (cond b (update_messages old.config every_route (aged_table now old.table))
      (cond (is_triggered_due old now) (update_messages old.config is_changed (aged_table now old.table)) []))) [
        | true ↦ updates_true old.config every_route (aged_table now old.table) aged_too
        | false ↦ elim (is_triggered_due old now) as (λ b. AllTrueMessages (cond b (update_messages old.config is_changed (aged_table now old.table)) [])) [
          | true ↦ updates_true old.config is_changed (aged_table now old.table) aged_too
          | false ↦ tt
        ]
      ]

  -- ---- datagrams

  abbrev AllSound : List Outgoing → Type 0
  AllSound sends = AllByRecursion (λ o. IsSoundDatagramSince past router o.bytes) sends

  spelled_true : (ms : List Message) (sends : List Outgoing) → AllTrueMessages ms → AreSpelled ms sends → AllSound sends
  spelled_true [] [] all spelled = tt
  spelled_true [] (o ∷ os) all spelled = absurd spelled
  spelled_true (m ∷ ms) [] all spelled = absurd spelled
  spelled_true (m ∷ ms) (o ∷ os) all spelled = (
    λ entries read.
        let one : (m.command ≡ Response) × (m.entries ≡ entries) = one_reading m.command Response m.entries entries o.bytes spelled.0.bytes read in
        subst AllTrue one.1 (all.0 one.0),
    spelled_true ms os all.1 spelled.1,
  )

  accepts_true : (old : State) (now : ℕ) (x : Received) (answer : Answer) (new : State) → IsSoundTableSince past router old.table
      → (b : Bool) → MatchBool b (Hears old now x answer new) (Replies old now x answer new) → AllSound answer.sends
  accepts_true old now x answer new sound true hears = spelled_true [] answer.sends tt hears.answer_is.sends
  accepts_true old now x answer new sound false replies =
      spelled_true (reply_messages old.config old.table x replies.entries) answer.sends (replies_true old.config old.table x replies.entries sound) replies.answer_is.sends

  arrival_true : (old : State) (now : ℕ) (x : Received) (answer : Answer) (new : State) → IsSoundTableSince past router old.table
      → (o : Option Fault) → MatchOption o (Accepts old now x answer new) (λ why. Refuses old now why answer new) → AllSound answer.sends
  arrival_true old now x answer new sound None accepts = accepts_true old now x answer new sound (is_response x.bytes) accepts
  arrival_true old now x answer new sound (Some why) refuses = subst AllSound (sym (ap (λ (a : Answer). a.sends) refuses.answer_is)) tt

  pub sends_true : (old : State) (happening : Happening) (answer : Answer) (new : State)
      → IsSoundTableSince past router old.table → Moves old happening answer new → AllSound answer.sends
  sends_true old (Arrives x) answer new sound moves = arrival_true old (max old.last x.now) x answer new sound (fault old.config x) moves
  sends_true old (Ticks now word) answer new sound moves =
      spelled_true (tick_messages old (max old.last now)) answer.sends (tick_true old (max old.last now) sound) moves.answer_is.sends
  sends_true old (Restarts now) answer new sound moves = spelled_true (start_messages old.config) answer.sends (starts_true old.config) moves.answer_is.sends
  sends_true old (Reconfigures now c) answer new sound moves = spelled_true [] answer.sends tt moves.answer_is.sends
  sends_true old (ShutsDown now) answer new sound moves =
      spelled_true _ answer.sends (updates_true old.config every_route (unreachable_table (max old.last now) old.table) (unreachable_sound (max old.last now) old.table sound)) moves.answer_is.sends
  sends_true old (LinkGoesDown now iface) answer new sound moves = spelled_true [] answer.sends tt moves.answer_is.sends
  sends_true old (LinkComesUp now iface) answer new sound moves = spelled_true (link_up_messages old.config iface) answer.sends (link_up_true old.config iface) moves.answer_is.sends

  pub starting_true : (config : Config) (now : ℕ) (answer : Answer) (new : State) → Starts config now answer new → AllSound answer.sends
  starting_true config now answer new starts = spelled_true (start_messages config) answer.sends (starts_true config) starts.answer_is.sends
