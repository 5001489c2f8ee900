-- A router shuts down, and a neighbor hears all of its last update and nothing else of it.
use Rattle.std.proofs.Common.{◌≡◌, ℕ, true, false, max, ◌<◌, ◌≤◌, ◌==◌, List, filter, length, Contains, All, Option, Some, None, refl, ap₂, subst, ◌∙◌}
use Rattle.std.specs.List.{AllByRecursion}
use Rattle.std.specs.FinMap as map_of
use Rattle.std.proofs.lemmas.List.Elements.{recursion_from_All}
use Rattle.prefix6.specs.Prefix.{Prefix6, IsPrefix, cleared, is_routable}
use Rattle.route_table.specs.Route.{RouteValue}
use Rattle.router_core.specs.Announcing.{is_announced, is_passive}
use Rattle.router_core.specs.Config.{mtu_at}
use Rattle.router_core.specs.Machine.{State, Happening, ShutsDown, Moves}
use Rattle.router_core.specs.declared.answer.Answer.{Answer}
use Rattle.router_core.specs.declared.answer.Outgoing.{Outgoing}
use Rattle.ripng_world.proofs.Each.{each_at_place, each_filter, each_mapped, each_weaker}
use Rattle.ripng_world.proofs.Members.{at_from_contains}
use Rattle.ripngd_theorems.specs.LastUpdate.{AreRoutes, HasNoneBy, HearsFrom, IsHeardWhole, sent_on}
use Rattle.ripngd_theorems.proofs.LastUpdateHeard.{CanEnd, HasEnded, lawful_can_end}
use Rattle.ripngd_theorems.proofs.LastUpdateSteps.{CanEndIn, HasEndedIn, TellsLosses, TellsOf, leads}
use Rattle.ripngd_theorems.proofs.LastUpdateTold.{Names, told_on}
use Rattle.ripngd_theorems.proofs.OneRoute.{OfRoute}

losses_on : (iface : ℕ) (sends : List Outgoing) → AllByRecursion (λ o. TellsLosses o.bytes) sends → AllByRecursion TellsLosses (sent_on iface sends)
losses_on iface sends all =
    each_mapped TellsLosses (λ (o : Outgoing). o.bytes) (filter (λ o. o.iface == iface) sends)
    (each_filter (λ (o : Outgoing). TellsLosses o.bytes) (λ o. o.iface == iface) sends all)

-- what is heard is of what was sent
losses_heard : (sent heard : List (List ℕ)) → AllByRecursion TellsLosses sent → All (Contains sent) heard → AllByRecursion TellsLosses heard
losses_heard sent heard losses only =
    each_weaker TellsLosses (Contains sent) (λ bytes c. let a = at_from_contains sent bytes c in each_at_place TellsLosses sent losses a.0 bytes a.1) heard
    (recursion_from_All (Contains sent) heard only)

tells_of : (sent : List (List ℕ)) (p : Prefix6) → cleared p.addr p.len ≡ p → (n : Names sent p) → TellsOf n.bytes p
tells_of sent p clear n =
    record {
      entries = n.entries;
      spelled = n.spelled;
      place = n.in_entries.0;
      entry = n.entry;
      listed = n.in_entries.1;
      names = ap₂ cleared n.addr n.len ∙ clear;
    }

can_end : (iface from : ℕ) (p : Prefix6) (short : p.len ≤ 128) (routable : is_routable p ≡ true) (s : State) → AreRoutes s.table → CanEndIn iface from p short routable s
can_end iface from p short routable s lawful = by_value (map_of.get s.table p) refl
  where
    by_value : (o : Option RouteValue) → map_of.get s.table p ≡ o → OfRoute (CanEnd iface from) o
    by_value None is = tt
    by_value (Some r) is = lawful_can_end iface from r (lawful p r is)

none_by : (iface from : ℕ) (p : Prefix6) (short : p.len ≤ 128) (routable : is_routable p ≡ true) (s : State) → HasEndedIn iface from p short routable s → HasNoneBy iface from s.table p
none_by iface from p short routable s ended r next_hop at = subst (OfRoute (HasEnded iface from)) at ended next_hop

pub neighbor_ends : (a a' b b' : State) (now iface on from : ℕ) (answer : Answer) (happenings : List Happening) (heard : List (List ℕ))
    → AllByRecursion (λ o. TellsLosses o.bytes) answer.sends
    → is_passive a.config iface ≡ false → iface < length a.config.interfaces → 1280 ≤ mtu_at a.config iface → Moves a (ShutsDown now) answer a'
    → AreRoutes b.table → HearsFrom on from b happenings heard b' → IsHeardWhole (sent_on iface answer.sends) heard
    → (p : Prefix6) (r : RouteValue) → map_of.get a.table p ≡ Some r → is_announced a.config iface p ≡ true → IsPrefix p → is_routable p ≡ true → HasNoneBy on from b'.table p
neighbor_ends a a' b b' now iface on from answer happenings heard losses active here wide moves lawful hears whole p r at out is_prefix routable =
    let short = is_prefix.short in
    let n : Names (sent_on iface answer.sends) p = told_on a (max a.last now) iface active here wide p r at out answer.sends moves.answer_is.sends in
    let heard_it = at_from_contains heard n.bytes (each_at_place (Contains heard) (sent_on iface answer.sends) (recursion_from_All (Contains heard) (sent_on iface answer.sends) whole.all) n.stands.0 n.bytes n.stands.1) in
    let all = leads on from p short routable b happenings heard b' hears (losses_heard (sent_on iface answer.sends) heard (losses_on iface answer.sends losses) whole.only) in
    none_by on from p short routable b' (all.ends (can_end on from p short routable b lawful) n.bytes heard_it (tells_of (sent_on iface answer.sends) p is_prefix.clear n))
