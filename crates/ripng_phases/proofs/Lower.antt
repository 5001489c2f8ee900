-- Along a phase what is held and told counts up, unless a walk backs it.
use Rattle.std.proofs.Common.{◌≡◌, ◌≢◌, inl, inr, ℕ, ◌+◌, ◌<◌, ◌≤◌, List, [], ◌∷◌, ◌++◌, length, All, Some, refl, sym, subst, arith}
use Rattle.std.proofs.lemmas.Option.{slice_get_within}
use Rattle.prefix6.specs.Prefix.{Prefix6}
use Rattle.route_table.specs.Route.{RouteValue, infinity}
use Rattle.route_table.specs.declared.route.Clock.{Clock}
use Rattle.route_table.specs.declared.route.Clock.TheVariants.{Fixed, Live, Dying}
use Rattle.router_core.specs.declared.answer.Answer.{Answer}
use Rattle.router_core.specs.declared.answer.NoteKind.TheVariants.{NoMemory}
use Rattle.ripng_world.specs.Network.{Network, interface_at}
use Rattle.ripng_world.specs.Walks.{cost_of_interface}
use Rattle.ripng_world.specs.World.{World, Event, Deliver, Happens}
use Rattle.ripng_world.specs.declared.network.NetInterface.{NetInterface}
use Rattle.ripng_world.proofs.HealPlain.{IsClocked}
use Rattle.ripng_phases.specs.Phases.{Step, IsOrdinary, Before, reached}
use Rattle.ripng_phases.proofs.Along.{along}
use Rattle.ripng_phases.proofs.Bounding.{TablesAbove, SaidAbove, tables_above, tables_above_two}
use Rattle.ripng_phases.proofs.Calm.{orderly_here, orderly_next, recent_now, tells_here}
use Rattle.ripng_phases.proofs.Held.{AllHeld}
use Rattle.ripng_phases.proofs.Moving.{step_of}
use Rattle.ripng_phases.proofs.Orderly.{IsOrderly, IsOrderlyBy}
use Rattle.ripng_phases.proofs.Resting.{BeginsFrom, IsRestingOn, IsAbove, IsRowAbove, rests_above, rests_low, row_same, taken_rests}
use Rattle.ripng_phases.proofs.Saying.{said_on}
use Rattle.ripng_phases.proofs.Stepping.{live_after}
use Rattle.ripng_phases.proofs.Updating.{IsCalmPart, orderly_first}

abbrev pub IsPositive : Network → Type 0
IsPositive net = (router iface : ℕ) (here : NetInterface) → interface_at net router iface ≡ Some here → 1 ≤ cost_of_interface net router iface

abbrev pub NoneOld : ℕ → ℕ → Type 0
NoneOld router until = ⊥

pub above_less : (net : Network) (m : ℕ) (router : ℕ) (p : Prefix6) (r : RouteValue) → IsRowAbove net (m + 1) router p r → IsRowAbove net m router p r
above_less net m router p r (inl x) = inl (less m r.metric x)
  where
    less : (a b : ℕ) → a + 1 ≤ b → a ≤ b
    less a b e = omega arith
above_less net m router p r (inr x) = inr x

-- nothing was sent yet
pub none_said : (net : Network) (w : World) (m : ℕ) → SaidAbove net w (length w.sent) m
none_said net w m i d late is = absurd (no i (length w.sent) late (slice_get_within w.sent i d is))
  where
    no : (i n : ℕ) → n ≤ i → i < n → ⊥
    no i n a b = omega arith

module _ (net : Network) (known : Prefix6 → Type 0) (positive : IsPositive net) where
  above_on : (w w' : World) (e : Event) (answer : Answer) → IsOrdinary e → Happens net w e answer w' → IsOrderly net known w → IsOrderly net known w'
      → (first m : ℕ) → ((datagram router iface now : ℕ) → e ≡ Deliver datagram router iface now → first ≤ datagram)
      → SaidAbove net w first m → TablesAbove net w (m + 1) → TablesAbove net w' (m + 1)
  above_on w w' e answer plain h orderly orderly' first m recent said tables router p r at low =
      let s = orderly'.states router at.0 at.1 in
      by_clock r.clock refl (s.plain p r at.2).clocked (s.by_clock p r at.2)
    where
      as_le : (n : ℕ) → n ≡ 1 → 1 ≤ n
      as_le n e = omega arith

      no : (n : ℕ) → n ≡ 16 → n < 16 → ⊥
      no n e f = omega arith

      by_clock : (c : Clock) → r.clock ≡ c → IsClocked r.metric c → IsOrderlyBy net router at.0.last p r c → IsRowAbove net (m + 1) router p r
      by_clock Fixed e k own = inr (1, own.1.0, [], record { is_walk = tt; costs = refl; owner = own.1.1 }, as_le r.metric k, subst (λ o. BeginsFrom net o []) (sym own.0) tt)
      by_clock (Dying until) e k own = absurd (no r.metric k low)
      by_clock (Live until) clock k own =
          let from = step_of net w w' e answer plain h router at.0 at.1 in
          elim (live_after net w e answer router from.0 at.0 from.2 p r until at.2 clock) [
            | inl was ↦ row_same net (m + 1) router p was.0 r was.2.metric was.2.origin (tables router p was.0 (from.0, from.1, was.1) (subst (λ n. n < infinity) was.2.metric low))
            | inr got ↦
                let o = orderly.states router from.0 from.1 in
                let x : IsRestingOn net w first router p r =
                taken_rests net orderly.zoned w e answer router from.0 at.0 o.node o.node_is o.config_is got.0 p r until got.1 first (recent got.0.datagram router got.0.iface got.0.now got.0.event) in
                rests_above net w first m router p r x (positive router x.iface x.linked.here x.linked.here_is) low
                (subst (λ q. IsAbove net m x.sent.router q x.entry.metric) x.names (said x.datagram x.sent x.recent x.sent_is x.entries x.spelled x.entry x.stands (rests_low net w first router p r x low)))
          ]

  module _ (past : Before) (w : World) (steps : List Step) (w' : World) (calm : IsCalmPart net known past w steps w') where
    -- two, or backed, is whatever is told
    pub told_two : (before after : List Step) → steps ≡ before ++ after → SaidAbove net (reached w before) (length w.sent) 2
    told_two before after parts =
        along net w w' steps calm.begun.takes (λ _ v. SaidAbove net v (length w.sent) 2)
        (λ before s after parts plain h memory said.
        said_on net (reached w before) s.after (length w.sent) 2 (tells_here net known past w steps w' calm before s after parts plain h)
        (tables_above_two net known s.after (orderly_next net known past w steps w' calm before s after parts)) said)
        before after parts (none_said net w 2)

    -- one more than what was told in the phase before, or backed, is whatever is held or told in this one
    pub record IsLow (first m new : ℕ) (v : World) : Type 0 where
      pub said : SaidAbove net v first m
      pub tables : TablesAbove net v (m + 1)
      pub told : SaidAbove net v new (m + 1)

    pub low_at : (m : ℕ) → AllHeld net w past.first past.moments NoneOld → SaidAbove net w past.first m → (before after : List Step) → steps ≡ before ++ after → IsLow past.first m (length w.sent) (reached w before)
    low_at m held said before after parts =
        along net w w' steps calm.begun.takes (λ _ v. IsLow past.first m (length w.sent) v) next before after parts
        (record { said = said; tables = first_tables; told = none_said net w (m + 1) })
      where
        first_tables : TablesAbove net w (m + 1)
        first_tables =
            tables_above net known positive w (orderly_first net known past w steps w' calm) past.first m
            (λ router p r until at clock. elim (held router p r until at clock) [ inl x ↦ x.rests | inr x ↦ absurd x ]) said

        next : (before : List Step) (s : Step) (after : List Step) → steps ≡ before ++ s ∷ after → IsOrdinary s.event → Happens net (reached w before) s.event s.answer s.after
            → All (λ n. n.kind ≢ NoMemory) s.answer.notes → IsLow past.first m (length w.sent) (reached w before) → IsLow past.first m (length w.sent) s.after
        next before s after parts plain h memory low =
            let tells = tells_here net known past w steps w' calm before s after parts plain h in
            let tables = above_on (reached w before) s.after s.event s.answer plain h (orderly_here net known past w steps w' calm before s after parts) (orderly_next net known past w steps w' calm before s after parts)
            past.first m (recent_now net known past w steps w' calm before s after parts) low.said low.tables in
            record {
              said = said_on net (reached w before) s.after past.first m tells (λ router p r at small. above_less net m router p r (tables router p r at small)) low.said;
              tables = tables;
              told = said_on net (reached w before) s.after (length w.sent) (m + 1) tells tables low.told;
            }
