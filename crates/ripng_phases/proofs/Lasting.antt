-- What a router tells below 16 it still has when its next regular update comes: a route that it loses is kept for the garbage time.
use Rattle.std.proofs.Common.{◌≡◌, ◌⊎◌, inl, inr, ℕ, ◌+◌, ◌<◌, ◌≤◌, List, ◌++◌, length, Some, slice_get, ap, sym, subst, ◌∙◌, arith}
use Rattle.std.specs.FinMap as map_of
use Rattle.prefix6.specs.Prefix.{Prefix6}
use Rattle.ripng_wire.specs.declared.rte.Rte.{Rte}
use Rattle.ripng_wire.specs.declared.rte.Command.TheVariants.{Response}
use Rattle.ripng_wire.specs.Layout.{Spells}
use Rattle.route_table.specs.Route.{RouteValue, infinity}
use Rattle.route_table.specs.declared.route.Clock.{Clock}
use Rattle.route_table.specs.declared.route.Clock.TheVariants.{Fixed, Live, Dying}
use Rattle.route_table.proofs.TableLaws.{Some-same}
use Rattle.router_core.specs.Machine.{State}
use Rattle.router_core.specs.Offers.{prefix_named}
use Rattle.router_core.specs.Timers.{garbage_time}
use Rattle.router_core.specs.declared.answer.Answer.{Answer}
use Rattle.router_core.proofs.HearingSteps.{at_place}
use Rattle.ripng_world.specs.Network.{Network}
use Rattle.ripng_world.specs.Rounds.{router_of, moment_of}
use Rattle.ripng_world.specs.World.{World, Event, Happens}
use Rattle.ripng_world.specs.declared.event.Sent.{Sent}
use Rattle.ripng_world.proofs.Each.{each_at_place}
use Rattle.ripng_world.proofs.HealPlain.{IsClocked}
use Rattle.ripng_world.proofs.Members.{At, get_left, get_right}
use Rattle.ripng_phases.specs.Phases.{IsOrdinary}
use Rattle.ripng_phases.proofs.Moving.{step_of}
use Rattle.ripng_phases.proofs.Orderly.{IsOrderly}
use Rattle.ripng_phases.proofs.Rows.{IsLasting, LastsBy}
use Rattle.ripng_phases.proofs.Sending.{IsToldTruly, TellsTruly}
use Rattle.ripng_phases.proofs.Stepping.{lasting_after}
use Rattle.ripng_phases.proofs.Telling.{IsTrueOf}

-- the sender of each entry below infinity that was told since that number has a route that lasts
abbrev pub SaidLasts : (ℕ → ℕ → Type 0) → World → ℕ → Type 0
SaidLasts moments w first =
    (i : ℕ) (d : Sent) → first ≤ i → slice_get w.sent i ≡ Some d → (entries : List Rte) → Spells Response entries d.bytes → (e : Rte) → At entries e → e.metric < infinity
    → (s : State) → slice_get w.states d.router ≡ Some s → IsLasting (moments d.router) s.last (map_of.get s.table (prefix_named e))

split : (a b : ℕ) → (b ≤ a) ⊎ (a < b)
split a b = grind arith

-- what was sent before is among what is sent
pub sent_before : (w w' : World) (new : List Sent) → w'.sent ≡ w.sent ++ new → (i : ℕ) (d : Sent) → i < length w.sent → slice_get w'.sent i ≡ Some d → slice_get w.sent i ≡ Some d
sent_before w w' new is i d old at =
    let was = at_place w.sent i old in
    was.1 ∙ ap Some (Some-same was.0 d (sym (get_left w.sent new i was.0 was.1) ∙ ap (λ (ds : List Sent). slice_get ds i) (sym is) ∙ at))

module _ (net : Network) (known : Prefix6 → Type 0) (moments : ℕ → ℕ → Type 0) where
  -- a route below infinity lasts
  low_lasts : (router last : ℕ) (r : RouteValue) → r.metric < infinity → IsClocked r.metric r.clock → LastsBy (moments router) last r.clock
  low_lasts router last r low = by_clock r.clock
    where
      no : (n : ℕ) → n ≡ 16 → n < 16 → ⊥
      no n e f = omega arith

      by_clock : (c : Clock) → IsClocked r.metric c → LastsBy (moments router) last c
      by_clock Fixed k = tt
      by_clock (Live until) k = tt
      by_clock (Dying until) k = absurd (no r.metric k low)

  pub lasting_on : (w w' : World) (e : Event) (answer : Answer) → IsOrdinary e → Happens net w e answer w' → IsOrderly net known w' → TellsTruly w w'
      → moments (router_of e) (moment_of e) → ((x : ℕ) → moments (router_of e) x → moment_of e < x + garbage_time)
      → (first : ℕ) → SaidLasts moments w first → SaidLasts moments w' first
  lasting_on w w' e answer plain h orderly tells now near first said i d late is entries spelled entry stands low t t_is =
      elim (split i (length w.sent)) [
        | inl new ↦ of_new (get_right w.sent tells.0 i d new (ap (λ (ds : List Sent). slice_get ds i) (sym tells.1) ∙ is))
        | inr old ↦ of_old (sent_before w w' tells.0 tells.1 i d old is)
      ]
    where
      of_new : At tells.0 d → IsLasting (moments d.router) t.last (map_of.get t.table (prefix_named entry))
      of_new a =
          let told : IsToldTruly w' d = each_at_place (IsToldTruly w') tells.0 tells.2 a.0 d a.1 in
          let same : told.0 ≡ t = Some-same told.0 t (sym told.1 ∙ t_is) in
          let r = (each_at_place (IsTrueOf told.0.config told.0.table d.iface) entries (told.2 entries spelled) stands.0 entry stands.1).low low in
          let at : map_of.get t.table (prefix_named entry) ≡ Some r.0 = ap (λ (s : State). map_of.get s.table (prefix_named entry)) (sym same) ∙ r.1 in
          (r.0, at, low_lasts d.router t.last r.0 (subst (λ n. n < infinity) (sym r.2) low) ((orderly.states d.router t t_is).plain (prefix_named entry) r.0 at).clocked)

      of_old : slice_get w.sent i ≡ Some d → IsLasting (moments d.router) t.last (map_of.get t.table (prefix_named entry))
      of_old was =
          let from = step_of net w w' e answer plain h d.router t t_is in
          lasting_after net w e answer d.router from.0 t from.2 (moments d.router)
          (λ here. subst (λ r. moments r (moment_of e)) here now)
          (λ here. subst (λ r. (x : ℕ) → moments r x → moment_of e < x + garbage_time) here near)
          (prefix_named entry) (said i d late was entries spelled entry stands low from.0 from.1)
