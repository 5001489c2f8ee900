-- Phases that are made one after another.
use Rattle.std.proofs.Common.{◌≡◌, ℕ, ◌+◌, ◌*◌, ◌<◌, ◌≤◌, Bool, Option, None, List, [], ◌∷◌, ◌++◌, length, refl, ap, sym, subst, ◌∙◌, arith, append-nil, le_trans}
use Rattle.std.specs.Prelude.{◌↔◌, IsTrue}
use Rattle.std.proofs.lemmas.Grind.{flat_map-append}
use Rattle.std.proofs.lemmas.List.{length-append}
use Rattle.ripng_world.specs.Labs.{LabValue, HasRun}
use Rattle.ripng_world.specs.Network.{Network}
use Rattle.ripng_world.specs.Watching.{Told}
use Rattle.ripng_world.specs.World.{World}
use Rattle.ripng_world.specs.declared.watch.Stopped.{Stopped}
use Rattle.ripng_world.proofs.Each.{each_at_place}
use Rattle.ripng_world.proofs.Members.{at_from_contains}
use Rattle.ripng_phases.specs.Changing.{IsLastChange, last_change, shown_in}
use Rattle.ripng_phases.specs.Making.{AreMadeInPart, AreMadePhases, HealsIn, IsCutShort, IsInMinute, IsLast, IsLatest, IsMadePhase, IsTooLate, LetsArriveIn, TellsSteps}
use Rattle.ripng_phases.specs.Phases.{Step, Before, IsBegun, IsHeardUpdate, IsMomentIn, IsPhase, Phases, PhasesAfter, BegunAfter, before_next, events_of, reached, steps_of}
use Rattle.ripng_phases.specs.declared.refused.PhaseRefused.{PhaseRefused}
use Rattle.ripng_phases.proofs.Begun.{phases_begun}
use Rattle.ripng_phases.proofs.Changing.{next_change}
use Rattle.ripng_phases.proofs.Healing.{arrive_in_phases, heals_in_phases}
use Rattle.ripng_phases.proofs.Runs.{phases_take, reached_on, takes_reached}
use Rattle.ripng_phases.proofs.Tells.{near_of, not_overtaken, recent_of, tells_on, tells_take}

-- what the next phase has before it
abbrev pub past_after : Before → World → List (List Step) → Before
past_after past w [] = past
past_after past w (steps ∷ phases) = past_after (before_next w steps) (reached w steps) phases

-- what the first has
abbrev pub nothing_before : Before
nothing_before = record { first = 0; counts = λ _. ⊥; moments = λ _ _. ⊥ }

-- one more
phases_more : (net : Network) (phases : List (List Step)) (past : Before) (w mid w' : World) (steps : List Step) → PhasesAfter net past w phases mid → IsPhase net (past_after past w phases) mid steps w'
    → PhasesAfter net past w (phases ++ steps ∷ []) w'
phases_more net [] past w mid w' steps first is = (w', subst (λ (v : World). IsPhase net past v steps w') first is, refl)
phases_more net (x ∷ phases) past w mid w' steps first is = (
  first.0,
  first.1,
  phases_more net phases (before_next w x) first.0 mid w' steps first.2
      (subst (λ (v : World). IsPhase net (past_after (before_next w x) v phases) mid steps w') (sym (takes_reached net x w first.0 first.1.takes)) is),
)

-- one that is not over
begun_more : (net : Network) (phases : List (List Step)) (past : Before) (w mid w' : World) (since : List Step) → PhasesAfter net past w phases mid → IsBegun net (past_after past w phases) mid since w'
    → BegunAfter net past w phases since w'
begun_more net [] past w mid w' since first is = subst (λ (v : World). IsBegun net past v since w') first is
begun_more net (x ∷ phases) past w mid w' since first is = (
  first.0,
  first.1,
  begun_more net phases (before_next w x) first.0 mid w' since first.2
      (subst (λ (v : World). IsBegun net (past_after (before_next w x) v phases) mid since w') (sym (takes_reached net x w first.0 first.1.takes)) is),
)

-- from which number on the last phase sent, and when its routers moved
past_first : (phases : List (List Step)) (steps : List Step) (past : Before) (w : World) → (past_after past w (phases ++ steps ∷ [])).first ≡ length (reached w (steps_of phases)).sent
past_first [] steps past w = refl
past_first (x ∷ phases) steps past w = past_first phases steps (before_next w x) (reached w x) ∙ ap (λ (v : World). length v.sent) (sym (reached_on x (steps_of phases) w))

past_moments : (phases : List (List Step)) (steps : List Step) (past : Before) (w : World) (router x : ℕ) → (past_after past w (phases ++ steps ∷ [])).moments router x → IsMomentIn steps router x
past_moments [] steps past w router x m = m
past_moments (y ∷ phases) steps past w router x m = past_moments phases steps (before_next w y) (reached w y) router x m

-- phases so far, and where the next begins
pub record AreSoFar {V : Type 0} (t : V → Told → V → Type 0) (net : Network) (s : World × V) (count begin first : ℕ) (last : Option ℕ) (s' : World × V) : Type 0 where
  pub phases : List (List Step)
  pub as_many : length phases ≡ count
  pub are : Phases net s.0 phases s'.0
  pub changed : IsLastChange net s.0 phases last
  pub told : TellsSteps t net s (steps_of phases) s'
  pub recent : (past_after nothing_before s.0 phases).first ≤ first
  pub moments : (router x : ℕ) → (past_after nothing_before s.0 phases).moments router x → (begin ≤ x + 60_000) × (x < begin)

module _ {V : Type 0} (t : V → Told → V → Type 0) (net : Network) (s : World × V) where
  pub none_so_far : (begin first : ℕ) → AreSoFar t net s 0 begin first None s
  none_so_far begin first = record { phases = []; as_many = refl; are = refl; changed = λ phase early. absurd (none phase early); told = refl; recent = zero_least first; moments = λ router x m. absurd m }
    where
      zero_least : (n : ℕ) → 0 ≤ n
      zero_least n = omega arith

      none : (n : ℕ) → n < 0 → ⊥
      none n e = omega (arith, e)

  module _ (count begin first : ℕ) (last : Option ℕ) (a : LabValue × V) (so_far : AreSoFar t net s count begin first last (a.0.world, a.1)) (same : a.0.network ≡ net) where
    -- one more phase
    pub one_more : (next : ℕ) (stays : Bool) (b : LabValue × V) → IsMadePhase t a first begin next b → IsTrue stays ↔ (shown_in a.0.network b.0.world ≡ shown_in a.0.network a.0.world)
        → AreSoFar t net s (count + 1) (begin + 60_000) next (last_change last stays count) (b.0.world, b.1)
    one_more next stays b m compared =
        let tells : TellsSteps t net (a.0.world, a.1) m.steps (b.0.world, b.1) = subst (λ (n : Network). TellsSteps t n (a.0.world, a.1) m.steps (b.0.world, b.1)) same m.tells in
        let phase : IsPhase net (past_after nothing_before s.0 so_far.phases) a.0.world m.steps b.0.world =
        record {
          takes = tells_take t net m.steps (a.0.world, a.1) (b.0.world, b.1) tells;
          told = λ router here. subst (λ (n : Network). IsHeardUpdate n a.0.world m.steps router) same (m.told router (subst (λ (n : Network). router < length n) (sym same) here));
          recent = λ datagram router iface now c. le_trans so_far.recent (recent_of first (events_of m.steps) next datagram router iface now m.in_order c);
          in_order = not_overtaken _ a.0.world m.steps first next m.in_order;
          close = near_of (past_after nothing_before s.0 so_far.phases) begin m.steps so_far.moments m.in_minute;
        } in
        let flat : steps_of (so_far.phases ++ m.steps ∷ []) ≡ steps_of so_far.phases ++ m.steps =
        flat_map-append (λ (xs : List Step). xs) so_far.phases (m.steps ∷ []) ∙ ap (λ (xs : List Step). steps_of so_far.phases ++ xs) (append-nil m.steps) in
        let here : a.0.world ≡ reached s.0 (steps_of so_far.phases) = reached_by so_far.phases a.0.world so_far.are in
        record {
          phases = so_far.phases ++ m.steps ∷ [];
          as_many = length-append so_far.phases (m.steps ∷ []) ∙ ap (λ (n : ℕ). n + 1) so_far.as_many;
          are = phases_more net so_far.phases nothing_before s.0 a.0.world b.0.world m.steps so_far.are phase;
          changed =
              next_change net s.0 so_far.phases m.steps a.0.world b.0.world here
              (reached_by (so_far.phases ++ m.steps ∷ []) b.0.world (phases_more net so_far.phases nothing_before s.0 a.0.world b.0.world m.steps so_far.are phase))
              last stays count so_far.as_many (subst (λ (n : Network). IsTrue stays ↔ (shown_in n b.0.world ≡ shown_in n a.0.world)) same compared) so_far.changed;
          told = subst (λ (xs : List Step). TellsSteps t net s xs (b.0.world, b.1)) (sym flat)
              (tells_on t net (steps_of so_far.phases) m.steps s (a.0.world, a.1) (b.0.world, b.1) so_far.told tells);
          recent = subst (λ (n : ℕ). n ≤ next) (sym (past_first so_far.phases m.steps nothing_before s.0)) (subst (λ (w : World). length w.sent ≤ next) here m.handed_on);
          moments = λ router x k. in_minute m x router (past_moments so_far.phases m.steps nothing_before s.0 router x k);
        }
      where
        reached_by : (phases : List (List Step)) (w : World) → Phases net s.0 phases w → w ≡ reached s.0 (steps_of phases)
        reached_by phases w are = takes_reached net (steps_of phases) s.0 w (phases_take net phases _ s.0 w are)

        in_minute : (m : IsMadePhase t a first begin next b) (x router : ℕ) → IsMomentIn m.steps router x → (begin + 60_000 ≤ x + 60_000) × (x < begin + 60_000)
        in_minute m x router k =
            let p = at_from_contains (events_of m.steps) k.event k.happens in
            let q = subst (λ (n : ℕ). (begin ≤ n) × (n < begin + 60_000)) k.moment_is (each_at_place (IsInMinute begin) (events_of m.steps) m.in_minute p.0 k.event p.1) in
            (omega (arith, q.0), q.1)

    -- one that stops
    pub in_part : {F : Type 0} (f : V → Told → V → Type 0) (why : Stopped PhaseRefused F) (b : LabValue × V) (latest : ℕ) → IsLatest s.0.states (length net) latest → begin ≡ latest + 60_000 * count
        → IsCutShort t f a first begin why b → AreMadeInPart t f net s count why (b.0.world, b.1)
    in_part f why b latest latest_is begin_is m =
        let tells : TellsSteps t net (a.0.world, a.1) m.steps m.before = subst (λ (n : Network). TellsSteps t n (a.0.world, a.1) m.steps m.before) same m.tells in
        let begun : IsBegun net (past_after nothing_before s.0 so_far.phases) a.0.world m.steps m.before.0 =
        record {
          takes = tells_take t net m.steps (a.0.world, a.1) m.before tells;
          recent = λ datagram router iface now c. le_trans so_far.recent (recent_of first (events_of m.steps) m.high datagram router iface now m.in_order c);
          close = near_of (past_after nothing_before s.0 so_far.phases) begin m.steps so_far.moments m.in_minute;
        } in
        record {
          phases = so_far.phases;
          since = m.steps;
          before = m.before;
          as_many = so_far.as_many;
          begun = begun_more net so_far.phases nothing_before s.0 a.0.world m.before.0 m.steps so_far.are begun;
          told = tells_on t net (steps_of so_far.phases) m.steps s (a.0.world, a.1) m.before so_far.told tells;
          ends = subst (λ (n : Network). IsLast t f n m.before why (b.0.world, b.1)) same m.ends;
          latest = latest;
          latest_is = latest_is;
          too_late = subst (λ (n : ℕ). IsTooLate why n b.0.world) begin_is m.too_late;
        }

  pub all_made : (count begin first : ℕ) (last : Option ℕ) (s' : World × V) → AreSoFar t net s count begin first last s' → AreMadePhases t net s count last s'
  all_made count begin first last s' so_far = record { phases = so_far.phases; as_many = so_far.as_many; are = so_far.are; changed = so_far.changed; told = so_far.told }

  pub all_heal : (count : ℕ) (last : Option ℕ) (s' : World × V) → HasRun net s.0 → AreMadePhases t net s count last s' → HealsIn net s.0 count s'.0
  all_heal count last s' has_run made = λ noisy fits many.
      heals_in_phases net has_run.moments has_run.events made.phases [] has_run.cold s.0 s'.0 has_run.lawful noisy has_run.is_cold has_run.run fits
      (phases_begun net made.phases _ s.0 s'.0 made.are) (subst (λ (n : ℕ). 28 ≤ n) (sym made.as_many) many)

  pub all_arrive : (count : ℕ) (last : Option ℕ) (s' : World × V) → HasRun net s.0 → AreMadePhases t net s count last s' → LetsArriveIn net s.0 count s'.0
  all_arrive count last s' has_run made = λ noisy fits many.
      arrive_in_phases net has_run.moments has_run.events made.phases [] has_run.cold s.0 s'.0 has_run.lawful noisy has_run.is_cold has_run.run fits
      (phases_begun net made.phases _ s.0 s'.0 made.are) (subst (λ (n : ℕ). 28 ≤ n) (sym made.as_many) many)
