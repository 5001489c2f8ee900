-- Old routes run out: a regular update puts off the next by 15 seconds, and is past each route that has expired.
use Rattle.std.proofs.Common.{◌≡◌, ◌≢◌, inl, inr, ℕ, ◌+◌, max, ◌<◌, ◌≤◌, List, [], ◌∷◌, ◌++◌, length, All, Some, slice_get, ap, sym, subst, ◌∙◌, arith, append-nil, le_refl, le_trans}
use Rattle.std.specs.FinMap as map_of
use Rattle.prefix6.specs.Prefix.{Prefix6}
use Rattle.route_table.specs.Route.{RouteValue}
use Rattle.route_table.specs.declared.route.Clock.TheVariants.{Live}
use Rattle.route_table.proofs.TableLaws.{Some-same}
use Rattle.router_core.specs.Machine.{State}
use Rattle.router_core.specs.Timers.{timeout}
use Rattle.router_core.specs.declared.answer.Answer.{Answer}
use Rattle.router_core.specs.declared.answer.NoteKind.TheVariants.{NoMemory}
use Rattle.ripng_world.specs.Network.{Network}
use Rattle.ripng_world.specs.Rounds.{moment_of}
use Rattle.ripng_world.specs.World.{World, Event, Happens}
use Rattle.ripng_world.proofs.HealPlain.{IsTicked}
use Rattle.ripng_world.proofs.RoundStays.{event_stays}
use Rattle.ripng_phases.specs.Phases.{Step, IsOrdinary, IsHeardUpdate, Takes, Before, reached}
use Rattle.ripng_phases.proofs.Along.{along}
use Rattle.ripng_phases.proofs.Later.{takes_later}
use Rattle.ripng_phases.proofs.Moving.{IsStep, step_of}
use Rattle.ripng_phases.proofs.Rows.{unmarked_live}
use Rattle.ripng_phases.proofs.Runs.{takes_first, takes_rest, takes_reached}
use Rattle.ripng_phases.proofs.Stepping.{live_after}
use Rattle.ripng_phases.proofs.Updating.{IsCalmPhase, ticked}

-- time does not go back
pub no_earlier : (net : Network) (w : World) (e : Event) (answer : Answer) (router : ℕ) (s t : State) → IsStep net w e answer router s t → s.last ≤ t.last
no_earlier net w e answer router s t step = by step
  where
    up : (a b c : ℕ) → c ≡ max a b → a ≤ c
    up a b c e = omega arith

    same_as : (a b : ℕ) → b ≡ a → a ≤ b
    same_as a b e = omega arith

    by : IsStep net w e answer router s t → s.last ≤ t.last
    by (inl waits) = elim waits.last [ inl same ↦ same_as s.last t.last same | inr later ↦ up s.last (moment_of e) t.last later.1 ]
    by (inr (inl ages)) = up s.last (moment_of e) t.last ages.last
    by (inr (inr here)) = up s.last here.now t.last (ap (λ (x : State). x.last) here.hears.state)

-- the state of a router after steps
pub takes_last : (net : Network) (steps : List Step) (w w' : World) → Takes net w steps w' → (router : ℕ) (s : State) → slice_get w.states router ≡ Some s
    → (t : State) × (slice_get w'.states router ≡ Some t) × (s.last ≤ t.last)
takes_last net [] w w' is router s at = (s, ap (λ (v : World). slice_get v.states router) is ∙ at, le_refl s.last)
takes_last net (step ∷ steps) w w' is router s at =
    let next = event_stays net w step.after step.event step.answer is.1 router s at in
    let from = step_of net w step.after step.event step.answer is.0 is.1 router next.0 next.1 in
    let same : from.0 ≡ s = Some-same from.0 s (sym from.1 ∙ at) in
    let one : s.last ≤ next.0.last = subst (λ (x : State). x.last ≤ next.0.last) same (no_earlier net w step.event step.answer router from.0 next.0 from.2) in
    let rest = takes_last net steps step.after w' is.3 router next.0 next.1 in
    (rest.0, rest.1, le_trans one rest.2)

module _ (net : Network) (known : Prefix6 → Type 0) (past : Before) (w : World) (steps : List Step) (w' : World) (calm : IsCalmPhase net known past w steps w')
    (router : ℕ) (here : router < length net) (s : State) (at : slice_get w.states router ≡ Some s) where
  abbrev u : IsHeardUpdate net w steps router
  u = calm.phase.told router here

  parts_takes : Takes net w (u.before ++ u.tick ∷ u.after) w'
  parts_takes = subst (λ xs. Takes net w xs w') u.parts calm.phase.takes

  rest_takes : Takes net (reached w u.before) (u.tick ∷ u.after) w'
  rest_takes = takes_rest net u.before (u.tick ∷ u.after) w w' parts_takes

  pub record IsTickOf : Type 0 where
    pub old : State
    pub old_is : slice_get (reached w u.before).states router ≡ Some old
    pub due : s.regular ≤ old.regular
    pub later : s.last ≤ old.last
    pub new : State
    pub new_is : slice_get u.tick.after.states router ≡ Some new
    pub tick : IsTicked old new u.now

  the_tick : IsTickOf
  the_tick =
      let first = takes_first net u.before (u.tick ∷ u.after) w w' parts_takes in
      let old = takes_later net u.before w (reached w u.before) first router s at in
      let last = takes_last net u.before w (reached w u.before) first router s at in
      let done = (ticked net known past w steps w' calm router here).all_ticked.0 old.0 old.1 in
      record {
        old = old.0;
        old_is = old.1;
        due = no_more s.regular old.0.regular old.2;
        later = subst (λ (x : State). s.last ≤ x.last) (Some-same last.0 old.0 (sym last.1 ∙ old.1)) last.2;
        new = done.0;
        new_is = done.1;
        tick = done.2;
      }
    where
      no_more : (a b : ℕ) → a + 0 ≤ b → a ≤ b
      no_more a b e = omega arith

  -- its next regular update is so much later than its time was at the beginning
  pub put_off : (t : State) → slice_get w'.states router ≡ Some t → max s.last s.regular + 15_000 ≤ t.regular
  put_off t t_is =
      let k = the_tick in
      let end = takes_later net u.after u.tick.after w' rest_takes.3 router k.new k.new_is in
      let same : end.0 ≡ t = Some-same end.0 t (sym end.1 ∙ t_is) in
      total s.last s.regular k.old.last k.old.regular u.now k.new.last k.new.regular t.regular k.later k.due k.tick.last k.tick.due k.tick.regular (subst (λ (x : State). k.new.regular + 0 ≤ x.regular) same end.2)
    where
      total : (a r b o n c k t : ℕ) → a ≤ b → r ≤ o → c ≡ max b n → o ≤ c → c + 15_000 ≤ k → k + 0 ≤ t → max a r + 15_000 ≤ t
      total a r b o n c k t e f g h i j = omega arith

  -- and no live route is left that was to run out before it was due
  abbrev Outlast : ℕ → World → Type 0
  Outlast bound v = (t : State) → slice_get v.states router ≡ Some t → (bound ≤ t.last) × ((p : Prefix6) (r : RouteValue) (until : ℕ) → map_of.get t.table p ≡ Some r → r.clock ≡ Live until → bound < until)

  pub outlasting : (bound : ℕ) → bound ≤ max s.last s.regular → (t : State) → slice_get w'.states router ≡ Some t → (p : Prefix6) (r : RouteValue) (until : ℕ) → map_of.get t.table p ≡ Some r → r.clock ≡ Live until → bound < until
  outlasting bound early t t_is =
      (subst (Outlast bound) (sym (takes_reached net u.after u.tick.after w' rest_takes.3))
      (along net u.tick.after w' u.after rest_takes.3 (λ _ v. Outlast bound v) next u.after [] (sym (append-nil u.after)) first) t t_is).1
    where
      first : Outlast bound u.tick.after
      first t t_is =
          let k = the_tick in
          let same : k.new ≡ t = Some-same k.new t (sym k.new_is ∙ t_is) in
          subst (λ (x : State). (bound ≤ x.last) × ((p : Prefix6) (r : RouteValue) (until : ℕ) → map_of.get x.table p ≡ Some r → r.clock ≡ Live until → bound < until)) same
          (both k (passed bound s.last s.regular k.old.last k.old.regular u.now k.new.last early k.later k.due k.tick.last k.tick.due))
        where
          passed : (b a r c o n l : ℕ) → b ≤ max a r → a ≤ c → r ≤ o → l ≡ max c n → o ≤ l → b ≤ l
          passed b a r c o n l e f g h i = omega arith

          after : (b l u : ℕ) → b ≤ l → l < u → b < u
          after b l u e f = omega arith

          both : (k : IsTickOf) → bound ≤ k.new.last → (bound ≤ k.new.last) × ((p : Prefix6) (r : RouteValue) (until : ℕ) → map_of.get k.new.table p ≡ Some r → r.clock ≡ Live until → bound < until)
          both k le = (le, λ p r until is clock. after bound k.new.last until le (unmarked_live k.new.last (map_of.get k.old.table p) r until (sym (k.tick.table p) ∙ is) clock).3)

      next : (before : List Step) (x : Step) (after : List Step) → u.after ≡ before ++ x ∷ after → IsOrdinary x.event → Happens net (reached u.tick.after before) x.event x.answer x.after
          → All (λ n. n.kind ≢ NoMemory) x.answer.notes → Outlast bound (reached u.tick.after before) → Outlast bound x.after
      next before x after parts plain h memory o t t_is =
          let came = step_of net (reached u.tick.after before) x.after x.event x.answer plain h router t t_is in
          let was = o came.0 came.1 in (
            le_trans was.0 (no_earlier net (reached u.tick.after before) x.event x.answer router came.0 t came.2),
            λ p r until is clock. elim (live_after net (reached u.tick.after before) x.event x.answer router came.0 t came.2 p r until is clock) [
              | inl q ↦ was.1 p q.0 until q.1 (sym q.2.clock ∙ clock)
              | inr got ↦ more bound came.0.last got.0.now until was.0 got.1.until_is
            ],
          )
        where
          more : (b l n u : ℕ) → b ≤ l → u ≡ max l n + timeout → b < u
          more b l n u e f = omega arith
