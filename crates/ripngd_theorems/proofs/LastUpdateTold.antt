-- The last update of a router that shuts down tells each prefix of its table on each interface that is not passive and announces it.
use Rattle.std.proofs.Common.{◌≡◌, ℕ, zero, suc, ◌+◌, ◌-◌, ◌/◌, ◌<◌, ◌≤◌, ◌==◌, Bool, true, false, cond, List, [], ◌∷◌, map, filter, length, None, Some, option_and_then, slice_get, refl, ap, sym, subst, ◌∙◌, arith}
use Rattle.std.specs.List.{AllByRecursion, enumerate_from}
use Rattle.std.specs.FinMap as map_of
use Rattle.std.proofs.lemmas.Bool.{eq-eqb, eqb-true}
use Rattle.prefix6.specs.Prefix.{Prefix6}
use Rattle.ripng_wire.specs.declared.rte.Rte.{Rte}
use Rattle.ripng_wire.specs.declared.rte.Command.TheVariants.{Response}
use Rattle.ripng_wire.specs.Layout.{Spells, entries_for_mtu}
use Rattle.route_table.specs.Route.{RouteValue}
use Rattle.route_table.specs.Table.{Table}
use Rattle.route_table.proofs.TableLaws.{Some-same, None-Some, get-map_values}
use Rattle.router_core.specs.Adoption.{lost}
use Rattle.router_core.specs.Announcing.{announced, is_announced, is_passive}
use Rattle.router_core.specs.Config.{Config, mtu_at}
use Rattle.router_core.specs.Machine.{State}
use Rattle.router_core.specs.Output.{Message, AreSpelled, told, told_entry, every_route, pieces, responses, update_on}
use Rattle.router_core.specs.Shutdown.{unreachable_table, shutdown_messages}
use Rattle.router_core.specs.declared.answer.Destination.TheVariants.{Group}
use Rattle.router_core.specs.declared.answer.Outgoing.{Outgoing}
use Rattle.router_core.specs.declared.config.Interface.{Interface}
use Rattle.router_core.proofs.Announced.{announced_has}
use Rattle.router_core.proofs.Cutting.{joined-pieces}
use Rattle.router_core.proofs.HearingSteps.{at_place, numbered_at}
use Rattle.ripng_world.proofs.Each.{each_flat, each_image}
use Rattle.ripng_world.proofs.Members.{At, at_map, at_flat, at_filter, at_entries, in_joined}
use Rattle.ripng_world.proofs.RoundTicks.{spelled_at}
use Rattle.ripngd_theorems.specs.LastUpdate.{sent_on}

-- a datagram with an entry of the prefix's address and length
pub record Names (sent : List (List ℕ)) (p : Prefix6) : Type 0 where
  pub bytes : List ℕ
  pub stands : At sent bytes
  pub entries : List Rte
  pub spelled : Spells Response entries bytes
  pub entry : Rte
  pub in_entries : At entries entry
  pub addr : entry.addr ≡ p.addr
  pub len : entry.len ≡ p.len

-- what stands among all that is sent, on an interface
pub at_sent_on : (iface : ℕ) (sends : List Outgoing) (o : Outgoing) → At sends o → o.iface ≡ iface → At (sent_on iface sends) o.bytes
at_sent_on iface sends o a is = at_map (λ (x : Outgoing). x.bytes) (filter (λ x. x.iface == iface) sends) o (passed sends a.0 a.1)
  where
    passed : (xs : List Outgoing) (i : ℕ) → slice_get xs i ≡ Some o → At (filter (λ x. x.iface == iface) xs) o
    passed [] i e = absurd (None-Some o e)
    passed (x ∷ xs) i e = by_test (x.iface == iface) refl i e (passed xs)
      where
        clash : false ≡ true → ⊥
        clash e = cc

        by_test : (b : Bool) → (x.iface == iface) ≡ b → (i : ℕ) → slice_get (x ∷ xs) i ≡ Some o → ((j : ℕ) → slice_get xs j ≡ Some o → At (filter (λ y. y.iface == iface) xs) o)
            → At (cond b (x ∷ filter (λ y. y.iface == iface) xs) (filter (λ y. y.iface == iface) xs)) o
        by_test true t zero e later = (0, e)
        by_test true t (suc i) e later = let l = later i e in (suc l.0, l.1)
        by_test false t zero e later = absurd (clash (sym t ∙ eq-eqb x.iface iface (ap (λ (y : Outgoing). y.iface) (Some-same x o e) ∙ is)))
        by_test false t (suc i) e later = later i e

pub of_sent_on : (iface : ℕ) (sends : List Outgoing) (bytes : List ℕ) (i : ℕ) → slice_get (sent_on iface sends) i ≡ Some bytes → (o : Outgoing) × At sends o × (o.iface ≡ iface) × (o.bytes ≡ bytes)
of_sent_on iface [] bytes i e = absurd (None-Some bytes e)
of_sent_on iface (o ∷ os) bytes i e = by_test (o.iface == iface) refl i e (of_sent_on iface os bytes)
  where
    by_test : (b : Bool) → (o.iface == iface) ≡ b → (i : ℕ) → slice_get (map (λ (x : Outgoing). x.bytes) (cond b (o ∷ filter (λ x. x.iface == iface) os) (filter (λ x. x.iface == iface) os))) i ≡ Some bytes
        → ((j : ℕ) → slice_get (sent_on iface os) j ≡ Some bytes → (x : Outgoing) × At os x × (x.iface ≡ iface) × (x.bytes ≡ bytes))
        → (x : Outgoing) × At (o ∷ os) x × (x.iface ≡ iface) × (x.bytes ≡ bytes)
    by_test true t zero e later = (o, (0, refl), eqb-true o.iface iface t, Some-same o.bytes bytes e)
    by_test true t (suc i) e later = let l = later i e in (l.0, (suc l.1.0, l.1.1), l.2, l.3)
    by_test false t i e later = let l = later i e in (l.0, (suc l.1.0, l.1.1), l.2, l.3)

module _ (s : State) (n iface : ℕ) (active : is_passive s.config iface ≡ false) (here : iface < length s.config.interfaces) (wide : 1280 ≤ mtu_at s.config iface)
    (p : Prefix6) (r : RouteValue) (at : map_of.get s.table p ≡ Some r) (out : is_announced s.config iface p ≡ true) where
  abbrev entry : Rte
  entry = told_entry iface (p, lost n r)

  abbrev losses : Table
  losses = announced s.config iface (unreachable_table n s.table)

  -- the prefix is among what is announced
  lost_at : map_of.get losses p ≡ Some (lost n r)
  lost_at =
      announced_has s.config iface (unreachable_table n s.table) p
      ∙ ap (λ b. cond b (map_of.get (unreachable_table n s.table) p) None) out
      ∙ get-map_values (λ q. Some (lost n q)) s.table p ∙ ap (option_and_then (λ q. Some (lost n q))) at

  abbrev all : List Rte
  all = told iface every_route losses

  abbrev size : ℕ
  size = entries_for_mtu (mtu_at s.config iface)

  stands : At all entry
  stands =
      at_map (told_entry iface) (filter (λ (u : Prefix6 × RouteValue). every_route u.1) (map_of.entries losses)) (p, lost n r)
      (at_filter (λ (u : Prefix6 × RouteValue). every_route u.1) (map_of.entries losses) (p, lost n r) (at_entries losses p (lost n r) lost_at) (λ _. refl))

  some : 0 < size
  some = room (mtu_at s.config iface) wide
    where
      room : (m : ℕ) → 1280 ≤ m → 0 < (m - 52) / 20
      room m h = omega arith

  in_piece : (piece : List Rte) × At (pieces size all) piece × At piece entry
  in_piece = in_joined (pieces size all) entry (subst (λ es. At es entry) (sym (joined-pieces size all some)) stands)

  abbrev message : Message
  message = record { iface = iface; to = Group; command = Response; entries = in_piece.0 }

  in_update : At (update_on s.config every_route (unreachable_table n s.table) iface) message
  in_update =
      subst (λ b. At (cond b [] (responses s.config iface Group all)) message) (sym active)
      (at_map (λ piece. record { iface = iface; to = Group; command = Response; entries = piece }) (pieces size all) in_piece.0 in_piece.1)

  in_updates : At (shutdown_messages s.config n s.table) message
  in_updates =
      let i : (x : Interface) × (slice_get s.config.interfaces iface ≡ Some x) = at_place s.config.interfaces iface here in
      at_flat (λ u. update_on s.config every_route (unreachable_table n s.table) u.0) (enumerate_from 0 s.config.interfaces) (iface, i.0) message
      (iface, numbered_at 0 s.config.interfaces iface i.0 i.1 ∙ ap (λ (m : ℕ). Some (m, i.0)) (zero_first iface)) in_update
    where
      zero_first : (m : ℕ) → 0 + m ≡ m
      zero_first m = omega arith

  pub told_on : (sends : List Outgoing) → AreSpelled (shutdown_messages s.config n s.table) sends → Names (sent_on iface sends) p
  told_on sends spelled =
      let o = spelled_at (shutdown_messages s.config n s.table) sends spelled message in_updates in
      record {
        bytes = o.0.bytes;
        stands = at_sent_on iface sends o.0 o.1 o.2.iface;
        entries = in_piece.0;
        spelled = o.2.bytes;
        entry = entry;
        in_entries = in_piece.2;
        addr = refl;
        len = refl;
      }

-- ---- each of its datagrams is a Response

abbrev IsResponse : Message → Type 0
IsResponse m = m.command ≡ Response

all_responses : (config : Config) (n : ℕ) (table : Table) → AllByRecursion IsResponse (shutdown_messages config n table)
all_responses config n table = each_flat IsResponse (λ u. update_on config every_route (unreachable_table n table) u.0) (λ u. on_each u.0) (enumerate_from 0 config.interfaces)
  where
    on_each : (iface : ℕ) → AllByRecursion IsResponse (update_on config every_route (unreachable_table n table) iface)
    on_each iface =
        elim (is_passive config iface) as (λ b. AllByRecursion IsResponse (cond b [] (responses config iface Group (told iface every_route (announced config iface (unreachable_table n table)))))) [
          | true ↦ tt
          | false ↦ each_image IsResponse (λ piece. record { iface = iface; to = Group; command = Response; entries = piece }) (λ piece. refl)
              (pieces (entries_for_mtu (mtu_at config iface)) (told iface every_route (announced config iface (unreachable_table n table))))
        ]

spelled_responses : (ms : List Message) (sends : List Outgoing) → AllByRecursion IsResponse ms → AreSpelled ms sends → AllByRecursion (λ o. (entries : List Rte) × Spells Response entries o.bytes) sends
spelled_responses [] [] each spelled = tt
spelled_responses [] (o ∷ os) each spelled = absurd spelled
spelled_responses (m ∷ ms) [] each spelled = absurd spelled
spelled_responses (m ∷ ms) (o ∷ os) each spelled = ((m.entries, subst (λ c. Spells c m.entries o.bytes) each.0 spelled.0.bytes), spelled_responses ms os each.1 spelled.1)

pub sent_responses : (config : Config) (n : ℕ) (table : Table) (sends : List Outgoing) → AreSpelled (shutdown_messages config n table) sends
    → AllByRecursion (λ o. (entries : List Rte) × Spells Response entries o.bytes) sends
sent_responses config n table sends spelled = spelled_responses (shutdown_messages config n table) sends (all_responses config n table) spelled
