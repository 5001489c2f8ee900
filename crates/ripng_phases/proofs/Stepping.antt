-- What an ordinary event keeps of one router's routes, and what is known of all that it sends.
use Rattle.std.proofs.Common.{◌≡◌, ◌⊎◌, inl, inr, ℕ, ◌+◌, max, ◌<◌, Some, refl, ap, sym, subst, ◌∙◌}
use Rattle.std.specs.FinMap as map_of
use Rattle.prefix6.specs.Prefix.{Prefix6}
use Rattle.route_table.specs.Route.{RouteValue}
use Rattle.route_table.specs.declared.route.Clock.TheVariants.{Live}
use Rattle.router_core.specs.Machine.{State, gateway_of}
use Rattle.router_core.specs.Timers.{garbage_time}
use Rattle.router_core.specs.declared.answer.Answer.{Answer}
use Rattle.ripng_world.specs.Network.{Network}
use Rattle.ripng_world.specs.Rounds.{router_of, moment_of}
use Rattle.ripng_world.specs.World.{World, Event, arrival_of}
use Rattle.ripng_phases.proofs.Moving.{IsStep, HearsHere}
use Rattle.ripng_phases.proofs.Rows.{IsSame, IsTaken, IsLasting, LastsBy, heard_live, heard_lasting, aged_live, unmarked_live, aged_lasting, unmarked_lasting, lasts_on}

-- a live route was there before, or is taken from the datagram that is heard
abbrev pub IsLiveAfter : Network → World → Event → Answer → ℕ → State → State → Prefix6 → RouteValue → ℕ → Type 0
IsLiveAfter net w e answer router s t p r until =
    ((q : RouteValue) × (map_of.get s.table p ≡ Some q) × IsSame q r)
    ⊎ ((here : HearsHere net w e answer router s t) × IsTaken (gateway_of s (max s.last here.now) (arrival_of net here.sent here.iface here.now)) here.hears.entries p r until)

pub live_after : (net : Network) (w : World) (e : Event) (answer : Answer) (router : ℕ) (s t : State) → IsStep net w e answer router s t → (p : Prefix6) (r : RouteValue) (until : ℕ)
    → map_of.get t.table p ≡ Some r → r.clock ≡ Live until → IsLiveAfter net w e answer router s t p r until
live_after net w e answer router s t (inl waits) p r until is clock =
    inl (r, ap (λ x. map_of.get x p) (sym waits.table) ∙ is, record { metric = refl; tag = refl; origin = refl; clock = refl })
live_after net w e answer router s t (inr (inl ages)) p r until is clock =
    elim (ages.row p) [
      | inl row ↦ let a = aged_live t.last (map_of.get s.table p) r until (sym row ∙ is) clock in inl (a.0, a.1, a.2)
      | inr row ↦ let a = unmarked_live t.last (map_of.get s.table p) r until (sym row ∙ is) clock in inl (a.0, a.1, a.2)
    ]
live_after net w e answer router s t (inr (inr here)) p r until is clock =
    let held : map_of.get here.hears.table p ≡ Some r = ap (λ (x : State). map_of.get x.table p) (sym here.hears.state) ∙ is in
    elim (heard_live _ here.hears.table p here.hears.heard r until held clock) [
      | inl was ↦ inl (r, was, record { metric = refl; tag = refl; origin = refl; clock = refl })
      | inr taken ↦ inr (here, taken)
    ]

-- a route that lasts is there after the event, and lasts
pub lasting_after : (net : Network) (w : World) (e : Event) (answer : Answer) (router : ℕ) (s t : State) → IsStep net w e answer router s t → (moments : ℕ → Type 0)
    → (router_of e ≡ router → moments (moment_of e)) → (router_of e ≡ router → (x : ℕ) → moments x → moment_of e < x + garbage_time)
    → (p : Prefix6) → IsLasting moments s.last (map_of.get s.table p) → IsLasting moments t.last (map_of.get t.table p)
lasting_after net w e answer router s t (inl waits) moments now near p k =
    elim waits.last [
      | inl same ↦ (k.0, ap (λ x. map_of.get x p) waits.table ∙ k.1, subst (λ n. LastsBy moments n k.0.clock) (sym same) k.2)
      | inr later ↦ (k.0, ap (λ x. map_of.get x p) waits.table ∙ k.1, lasts_on moments s.last (moment_of e) t.last later.1 (near later.0) k.0.clock k.2)
    ]
lasting_after net w e answer router s t (inr (inl ages)) moments now near p k =
    let first : IsLasting moments t.last (map_of.get s.table p) = (k.0, k.1, lasts_on moments s.last (moment_of e) t.last ages.last (near ages.here) k.0.clock k.2) in
    let aged_too = aged_lasting moments s.last (moment_of e) t.last ages.last (now ages.here) (map_of.get s.table p) first in
    elim (ages.row p) [
      | inl row ↦ subst (IsLasting moments t.last) (sym row) aged_too
      | inr row ↦ subst (IsLasting moments t.last) (sym row) (unmarked_lasting moments t.last _ aged_too)
    ]
lasting_after net w e answer router s t (inr (inr here)) moments now near p k =
    let mine : router_of e ≡ router = ap router_of here.event in
    let at : moment_of e ≡ here.now = ap moment_of here.event in
    let first : IsLasting moments (max s.last here.now) (map_of.get s.table p) =
    (k.0, k.1, lasts_on moments s.last here.now (max s.last here.now) refl (subst (λ n. (x : ℕ) → moments x → n < x + garbage_time) at (near mine)) k.0.clock k.2) in
    let after = heard_lasting moments s.last here.now (max s.last here.now) refl (subst moments at (now mine)) _ here.hears.table p refl here.hears.heard first in
    subst (λ (x : State). IsLasting moments x.last (map_of.get x.table p)) (sym here.hears.state) after
