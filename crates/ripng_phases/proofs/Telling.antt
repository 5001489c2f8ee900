-- What a router sends of a prefix is what its table holds, but where it was learned on the interface, or is not announced there: there
-- it may be told as lost.
use Rattle.std.proofs.Common.{◌≡◌, ◌⊎◌, inl, inr, ℕ, ◌+◌, ◌*◌, ◌-◌, ◌/◌, ◌<◌, ◌≤◌, Bool, true, false, cond, ◌&&◌, ◌==◌, nat_le, nat_lt, List, [], ◌∷◌, map, drop, length, slice_range, Option, Some, None, option_and_then, refl, ap, sym, subst, ◌∙◌, arith}
use Rattle.std.specs.List.{AllByRecursion, enumerate_from}
use Rattle.std.specs.FinMap as map_of
use Rattle.std.proofs.lemmas.Bool.Decides.{nat_tests}
use Rattle.prefix6.specs.Prefix.{Prefix6, IsPrefix, cleared}
use Rattle.ripng_wire.specs.declared.rte.Rte.{Rte}
use Rattle.ripng_wire.specs.declared.rte.Command.TheVariants.{Request, Response}
use Rattle.ripng_wire.specs.Layout.{Spells, entries_for_mtu}
use Rattle.ripng_wire.proofs.OneReading.{one_reading}
use Rattle.route_table.specs.Route.{RouteValue, infinity}
use Rattle.route_table.specs.Table.{Table}
use Rattle.route_table.proofs.TableLaws.{all_entries, get-map_values, None-Some, Some-same}
use Rattle.router_core.specs.Announcing.{announced, is_announced, is_passive}
use Rattle.router_core.specs.Config.{Config, mtu_at}
use Rattle.router_core.specs.Received.{Received}
use Rattle.router_core.specs.Faults.{ripng_port}
use Rattle.router_core.specs.Ageing.{aged_table, unmarked, without_mark}
use Rattle.router_core.specs.Output.{Message, AreSpelled, told, told_entry, is_learned_on, every_route, is_changed, numbers_below, pieces, filled, reply_entry, reply_on, reply, asks_for_all, asked_on, responses, request_on, link_up_messages, update_on, update_messages, reply_messages}
use Rattle.router_core.specs.Machine.{State, AsksOn, Replies, tick_messages, is_regular_due, is_triggered_due}
use Rattle.router_core.specs.declared.answer.Answer.{Answer}
use Rattle.router_core.specs.declared.answer.Outgoing.{Outgoing}
use Rattle.router_core.specs.declared.answer.Destination.{Destination}
use Rattle.router_core.specs.declared.answer.Destination.TheVariants.{Group, Peer}
use Rattle.router_core.specs.Offers.{prefix_named}
use Rattle.ripng_world.proofs.Announced.{announced_held}
use Rattle.ripng_world.proofs.Each.{each_filter, each_take, each_drop, each_mapped, each_image, each_flat, each_weaker}

-- prefixes are prefixes
abbrev pub IsClean : Table → Type 0
IsClean table = (p : Prefix6) (r : RouteValue) → map_of.get table p ≡ Some r → IsPrefix p

-- the entry, sent on the interface, tells what the table holds, if it is below 16; and what the table holds and is announced there is
-- told, or was learned there
pub record IsTrueOf (config : Config) (table : Table) (iface : ℕ) (e : Rte) : Type 0 where
  pub low : e.metric < infinity → (r : RouteValue) × (map_of.get table (prefix_named e) ≡ Some r) × (r.metric ≡ e.metric) × (r.tag ≡ e.tag)
  pub full : is_announced config iface (prefix_named e) ≡ true → (r : RouteValue) → map_of.get table (prefix_named e) ≡ Some r → (e.metric ≡ r.metric) ⊎ (is_learned_on iface r.origin ≡ true)

-- so do all entries of a Response
abbrev pub IsTrueDatagram : Config → Table → ℕ → List ℕ → Type 0
IsTrueDatagram config table iface bytes = (entries : List Rte) → Spells Response entries bytes → AllByRecursion (IsTrueOf config table iface) entries

not_low : (m : ℕ) → m ≡ 16 → m < 16 → ⊥
not_low m a b = omega arith

module _ (config : Config) (table : Table) (clean : IsClean table) where
  abbrev pub AllTrue : ℕ → List Rte → Type 0
  AllTrue iface entries = AllByRecursion (IsTrueOf config table iface) entries

  told_true : (iface : ℕ) (p : Prefix6) (r : RouteValue) → map_of.get table p ≡ Some r → IsTrueOf config table iface (told_entry iface (p, r))
  told_true iface p r at = by (is_learned_on iface r.origin) refl
    where
      named : map_of.get table (cleared p.addr p.len) ≡ Some r
      named = ap (map_of.get table) (clean p r at).clear ∙ at

      by : (b : Bool) → is_learned_on iface r.origin ≡ b → IsTrueOf config table iface (record { addr = p.addr; tag = r.tag; len = p.len; metric = cond b infinity r.metric })
      by true learned =
          record {
            low = λ low. absurd (not_low infinity refl low);
            full = λ out q here. inr (subst (λ (x : RouteValue). is_learned_on iface x.origin ≡ true) (Some-same r q (sym named ∙ here)) learned);
          }
      by false learned = record { low = λ low. (r, named, refl, refl); full = λ out q here. inl (ap (λ (x : RouteValue). x.metric) (Some-same r q (sym named ∙ here))) }

  all_told : (iface : ℕ) (which : RouteValue → Bool) → AllTrue iface (told iface which (announced config iface table))
  all_told iface which =
      each_mapped (IsTrueOf config table iface) (told_entry iface) _
      (each_filter (λ (t : Prefix6 × RouteValue). IsTrueOf config table iface (told_entry iface t)) (λ t. which t.1) (map_of.entries (announced config iface table))
      (all_entries (λ t. IsTrueOf config table iface (told_entry iface t)) (announced config iface table) (λ p r here. told_true iface p r (announced_held config iface table p r here))))

  reply_true : (iface : ℕ) (e : Rte) → IsTrueOf config table iface (reply_entry table e)
  reply_true iface e = by_length (nat_le e.len 128) refl
    where
      by_value : (o : Option RouteValue) → map_of.get table (cleared e.addr e.len) ≡ o → IsTrueOf config table iface (filled e o)
      by_value None is = record { low = λ low. absurd (not_low infinity refl low); full = λ out q here. absurd (None-Some q (sym is ∙ here)) }
      by_value (Some r) is = record { low = λ low. (r, is, refl, refl); full = λ out q here. inl (ap (λ (x : RouteValue). x.metric) (Some-same r q (sym is ∙ here))) }

      too_long : (n : ℕ) → nat_le n 128 ≡ false → n ≤ 128 → ⊥
      too_long n a b = grind (arith, nat_tests, a, b)

      by_length : (b : Bool) → nat_le e.len 128 ≡ b → IsTrueOf config table iface (filled e (cond b (map_of.get table (cleared e.addr e.len)) None))
      by_length true short = by_value (map_of.get table (cleared e.addr e.len)) refl
      by_length false long = record { low = λ low. absurd (not_low infinity refl low); full = λ out q here. absurd (too_long e.len long (clean (cleared e.addr e.len) q here).short) }

  reply_on_true : (iface : ℕ) (e : Rte) → IsTrueOf config table iface (reply_on config iface table e)
  reply_on_true iface e = by_test (is_announced config iface (prefix_named e)) refl
    where
      clash : true ≡ false → ⊥
      clash e = cc

      by_test : (b : Bool) → is_announced config iface (prefix_named e) ≡ b → IsTrueOf config table iface (cond b (reply_entry table e) (filled e None))
      by_test true out = reply_true iface e
      by_test false back = record { low = λ low. absurd (not_low infinity refl low); full = λ out q here. absurd (clash (sym out ∙ back)) }

  all_replied : (iface : ℕ) (asked : List Rte) → AllTrue iface (reply config iface table asked)
  all_replied iface asked =
      elim (asks_for_all asked) as (λ b. AllTrue iface (cond b (told iface every_route (announced config iface table)) (map (reply_on config iface table) asked))) [
        | true ↦ all_told iface every_route
        | false ↦ each_image (IsTrueOf config table iface) (reply_on config iface table) (reply_on_true iface) asked
      ]

  abbrev pub IsTrueMessage : Message → Type 0
  IsTrueMessage m = m.command ≡ Response → AllTrue m.iface m.entries

  abbrev pub AllTrueMessages : List Message → Type 0
  AllTrueMessages ms = AllByRecursion IsTrueMessage ms

  pieces_true : (iface n : ℕ) (entries : List Rte) → AllTrue iface entries → AllByRecursion (AllTrue iface) (pieces n entries)
  pieces_true iface n entries all =
      each_image (AllTrue iface) (λ k. slice_range entries (n * k) (n * k + n))
      (λ k. each_take (IsTrueOf config table iface) ((n * k + n) - n * k) (drop (n * k) entries) (each_drop (IsTrueOf config table iface) (n * k) entries all))
      (numbers_below ((length entries + (n - 1)) / n))

  responses_true : (iface : ℕ) (to : Destination) (entries : List Rte) → AllTrue iface entries → AllTrueMessages (responses config iface to entries)
  responses_true iface to entries all =
      each_mapped IsTrueMessage (λ piece. record { iface = iface; to = to; command = Response; entries = piece }) (pieces (entries_for_mtu (mtu_at config iface)) entries)
      (each_weaker (λ piece. Response ≡ Response → AllTrue iface piece) (AllTrue iface) (λ piece t _. t) _ (pieces_true iface (entries_for_mtu (mtu_at config iface)) entries all))

  pub updates_true : (which : RouteValue → Bool) → AllTrueMessages (update_messages config which table)
  updates_true which = each_flat IsTrueMessage (λ t. update_on config which table t.0) (λ t. update_true t.0) (enumerate_from 0 config.interfaces)
    where
      update_true : (iface : ℕ) → AllTrueMessages (update_on config which table iface)
      update_true iface =
          elim (is_passive config iface) as (λ b. AllTrueMessages (cond b [] (responses config iface Group (told iface which (announced config iface table))))) [
            | true ↦ tt
            | false ↦ responses_true iface Group (told iface which (announced config iface table)) (all_told iface which)
          ]

  replies_true : (x : Received) (asked : List Rte) → AllTrueMessages (reply_messages config table x asked)
  replies_true x asked =
      elim (is_passive config x.iface && x.source_port == ripng_port) as (λ b. AllTrueMessages (cond b [] (responses config x.iface (Peer x.source x.source_port) (reply config x.iface table asked)))) [
        | true ↦ tt
        | false ↦ responses_true x.iface (Peer x.source x.source_port) (reply config x.iface table asked) (all_replied x.iface asked)
      ]

  -- a Request tells nothing
  pub asked_true : (iface : ℕ) → AllTrueMessages (asked_on config iface)
  asked_true iface =
      elim (is_passive config iface) as (λ b. AllTrueMessages (cond b [] (request_on iface ∷ []))) [
        | true ↦ tt
        | false ↦ (λ is. absurd (other is), tt)
      ]
    where
      other : Request ≡ Response → ⊥
      other e = cc

  pub link_up_true : (iface : ℕ) → AllTrueMessages (link_up_messages config iface)
  link_up_true iface =
      elim (nat_lt iface (length config.interfaces)) as (λ b. AllTrueMessages (cond b (asked_on config iface) [])) [
        | true ↦ asked_true iface
        | false ↦ tt
      ]

  abbrev pub AllSound : List Outgoing → Type 0
  AllSound sends = AllByRecursion (λ o. IsTrueDatagram config table o.iface o.bytes) sends

  pub spelled_true : (ms : List Message) (sends : List Outgoing) → AllTrueMessages ms → AreSpelled ms sends → AllSound sends
  spelled_true [] [] all spelled = tt
  spelled_true [] (o ∷ os) all spelled = absurd spelled
  spelled_true (m ∷ ms) [] all spelled = absurd spelled
  spelled_true (m ∷ ms) (o ∷ os) all spelled = (
    λ entries read.
        let one : (m.command ≡ Response) × (m.entries ≡ entries) = one_reading m.command Response m.entries entries o.bytes spelled.0.bytes read in
        subst (λ i. AllTrue i entries) (sym spelled.0.iface) (subst (AllTrue m.iface) one.1 (all.0 one.0)),
    spelled_true ms os all.1 spelled.1,
  )

-- an answer to a Request
pub replies_sound : (old : State) (clean : IsClean old.table) (now : ℕ) (x : Received) (answer : Answer) (new : State) → Replies old now x answer new
    → AllSound old.config old.table clean answer.sends
replies_sound old clean now x answer new replies =
    spelled_true old.config old.table clean (reply_messages old.config old.table x replies.entries) answer.sends (replies_true old.config old.table clean x replies.entries) replies.answer_is.sends

-- a Request for whole tables
pub asks_sound : (old : State) (clean : IsClean old.table) (now iface : ℕ) (answer : Answer) (new : State) → AsksOn old now iface answer new → AllSound old.config old.table clean answer.sends
asks_sound old clean now iface answer new asks =
    spelled_true old.config old.table clean (link_up_messages old.config iface) answer.sends (link_up_true old.config old.table clean iface) asks.answer_is.sends

-- an update
pub tick_sound : (old : State) (now : ℕ) (clean : IsClean (aged_table now old.table)) (sends : List Outgoing) → AreSpelled (tick_messages old now) sends
    → AllSound old.config (aged_table now old.table) clean sends
tick_sound old now clean sends spelled = spelled_true old.config (aged_table now old.table) clean (tick_messages old now) sends messages spelled
  where
    updates : (which : RouteValue → Bool) → AllTrueMessages old.config (aged_table now old.table) clean (update_messages old.config which (aged_table now old.table))
    updates which = updates_true old.config (aged_table now old.table) clean which

    messages : AllTrueMessages old.config (aged_table now old.table) clean (tick_messages old now)
    messages =
        elim (is_regular_due old now) as (λ b. AllTrueMessages old.config (aged_table now old.table) clean (cond b (update_messages old.config every_route (aged_table now old.table))
        (cond (is_triggered_due old now) (update_messages old.config is_changed (aged_table now old.table)) []))) [
          | true ↦ updates every_route
          | false ↦ elim (is_triggered_due old now) as (λ b. AllTrueMessages old.config (aged_table now old.table) clean (cond b (update_messages old.config is_changed (aged_table now old.table)) [])) [
            | true ↦ updates is_changed
            | false ↦ tt
          ]
        ]

-- what is true of a table is true of it without its marks
pub unmarked_true : (config : Config) (table : Table) (iface : ℕ) (bytes : List ℕ) → IsTrueDatagram config table iface bytes → IsTrueDatagram config (unmarked table) iface bytes
unmarked_true config table iface bytes all entries spelled =
    each_weaker (IsTrueOf config (unmarked table) iface) (IsTrueOf config table iface)
    (λ e true_of. record {
      low = λ low. let r = true_of.low low in (record r.0 { changed = false }, get-map_values without_mark table (prefix_named e) ∙ ap (option_and_then without_mark) r.1, r.2, r.3);
      full = λ out q here. by_value e true_of out q (map_of.get table (prefix_named e)) refl (sym (get-map_values without_mark table (prefix_named e)) ∙ here);
    })
    entries (all entries spelled)
  where
    by_value : (e : Rte) → IsTrueOf config table iface e → is_announced config iface (prefix_named e) ≡ true → (q : RouteValue) (o : Option RouteValue) → map_of.get table (prefix_named e) ≡ o → option_and_then without_mark o ≡ Some q
        → (e.metric ≡ q.metric) ⊎ (is_learned_on iface q.origin ≡ true)
    by_value e true_of out q None is f = absurd (None-Some q f)
    by_value e true_of out q (Some r) is f =
        subst (λ (x : RouteValue). (e.metric ≡ x.metric) ⊎ (is_learned_on iface x.origin ≡ true)) (Some-same (record r { changed = false }) q f) (true_of.full out r is)
