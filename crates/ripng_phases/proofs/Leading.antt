-- Steps that lead from one world to another, whatever they are: a run of their events, cut anywhere; and which of them sent a datagram.
use Rattle.std.proofs.Common.{◌≡◌, ◌⊎◌, inl, inr, ℕ, ◌<◌, ◌≤◌, List, [], ◌∷◌, ◌++◌, length, Some, slice_get, refl, ap, sym, subst, ◌∙◌, arith, append_assoc}
use Rattle.std.proofs.lemmas.Option.{slice_get_within}
use Rattle.router_core.proofs.HearingSteps.{at_place}
use Rattle.ripng_world.specs.Network.{Network}
use Rattle.ripng_world.specs.World.{World, WorldRun}
use Rattle.ripng_world.specs.declared.event.Sent.{Sent}
use Rattle.ripng_phases.specs.Ages.{Lead}
use Rattle.ripng_phases.specs.Minutes.{Timed, untimed}
use Rattle.ripng_phases.specs.Phases.{Step, events_of, reached}
use Rattle.ripng_phases.proofs.Cutting.{untimed_on}
use Rattle.ripng_phases.proofs.Holding.{Keeps, event_keeps_sent}
use Rattle.ripng_phases.proofs.Runs.{reached_on}

module _ (net : Network) where
  pub lead_run : (steps : List Step) (w w' : World) → Lead net w steps w' → WorldRun net w (events_of steps) w'
  lead_run [] w w' is = is
  lead_run (s ∷ steps) w w' is = (s.after, s.answer, is.0, lead_run steps s.after w' is.1)

  pub lead_reached : (steps : List Step) (w w' : World) → Lead net w steps w' → w' ≡ reached w steps
  lead_reached [] w w' is = is
  lead_reached (s ∷ steps) w w' is = lead_reached steps s.after w' is.1

  pub lead_first : (steps later : List Step) (w w' : World) → Lead net w (steps ++ later) w' → Lead net w steps (reached w steps)
  lead_first [] later w w' is = refl
  lead_first (s ∷ steps) later w w' is = (is.0, lead_first steps later s.after w' is.1)

  pub lead_rest : (steps later : List Step) (w w' : World) → Lead net w (steps ++ later) w' → Lead net (reached w steps) later w'
  lead_rest [] later w w' is = is
  lead_rest (s ∷ steps) later w w' is = lead_rest steps later s.after w' is.1

  pub lead_keeps : (steps : List Step) (w w' : World) → Lead net w steps w' → Keeps w w'
  lead_keeps [] w w' is i d at = ap (λ (v : World). slice_get v.sent i) is ∙ at
  lead_keeps (s ∷ steps) w w' is i d at = lead_keeps steps s.after w' is.1 i d (event_keeps_sent net w s.after s.event s.answer is.0 i d at)

-- what a step of a history leads to
pub reached_next : (before : List Timed) (t : Timed) (w : World) → reached w (untimed (before ++ t ∷ [])) ≡ t.step.after
reached_next before t w = ap (reached w) (untimed_on before (t ∷ [])) ∙ reached_on (untimed before) (t.step ∷ []) w

-- the step of a history by which a datagram was sent
pub record IsSender (w : World) (history : List Timed) (i : ℕ) (d : Sent) : Type 0 where
  pub before : List Timed
  pub step : Timed
  pub after : List Timed
  pub parts : history ≡ before ++ step ∷ after
  pub not_yet : length (reached w (untimed before)).sent ≤ i
  pub then : slice_get step.step.after.sent i ≡ Some d

module _ (net : Network) (w : World) where
  split : (a b : ℕ) → (b ≤ a) ⊎ (a < b)
  split a b = grind arith

  never : (a b : ℕ) → b ≤ a → a < b → ⊥
  never a b e f = omega arith

  search_from : (done rest : List Timed) (w' : World) → Lead net (reached w (untimed done)) (untimed rest) w' → (i : ℕ) (d : Sent) → length (reached w (untimed done)).sent ≤ i → slice_get w'.sent i ≡ Some d
      → IsSender w (done ++ rest) i d
  search_from done [] w' lead i d not_yet is =
      absurd (never i (length (reached w (untimed done)).sent) not_yet (slice_get_within (reached w (untimed done)).sent i d (ap (λ (v : World). slice_get v.sent i) (sym lead) ∙ is)))
  search_from done (t ∷ rest) w' lead i d not_yet is =
      by (split i (length t.step.after.sent))
      (λ later. search_from (done ++ t ∷ []) rest w' (subst (λ v. Lead net v (untimed rest) w') (sym (reached_next done t w)) lead.1) i d
      (subst (λ (v : World). length v.sent ≤ i) (sym (reached_next done t w)) later) is)
    where
      by : (length t.step.after.sent ≤ i) ⊎ (i < length t.step.after.sent) → (length t.step.after.sent ≤ i → IsSender w ((done ++ t ∷ []) ++ rest) i d) → IsSender w (done ++ t ∷ rest) i d
      by (inl later) go_on = subst (λ (xs : List Timed). IsSender w xs i d) (append_assoc done (t ∷ []) rest) (go_on later)
      by (inr here) go_on =
          let was = at_place t.step.after.sent i here in
          record {
            before = done;
            step = t;
            after = rest;
            parts = refl;
            not_yet = not_yet;
            then = was.1 ∙ sym (lead_keeps net (untimed rest) t.step.after w' lead.1 i was.0 was.1) ∙ is;
          }

  pub sender_of : (history : List Timed) (w' : World) → Lead net w (untimed history) w' → (i : ℕ) (d : Sent) → length w.sent ≤ i → slice_get w'.sent i ≡ Some d → IsSender w history i d
  sender_of history w' lead i d not_yet is = search_from [] history w' lead i d not_yet is
