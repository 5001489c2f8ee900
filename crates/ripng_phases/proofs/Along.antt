-- What each step keeps holds at every moment of the steps.
use Rattle.std.proofs.Common.{◌≡◌, ◌≢◌, ◌⊎◌, inl, inr, ℕ, zero, suc, List, [], ◌∷◌, ◌++◌, All, Contains, Some, slice_get, refl, ap, sym, subst, ◌∙◌, append-nil, append_assoc}
use Rattle.std.proofs.lemmas.Option.{slice_get_within, get_or_from_slice_get}
use Rattle.route_table.proofs.TableLaws.{Some-same}
use Rattle.router_core.specs.declared.answer.NoteKind.TheVariants.{NoMemory}
use Rattle.ripng_world.specs.Network.{Network}
use Rattle.ripng_world.specs.World.{World, Event, Happens}
use Rattle.ripng_world.proofs.Members.{At, at_map, at_right, at_from_contains}
use Rattle.ripng_phases.specs.Phases.{Step, IsOrdinary, Takes, events_of, reached}
use Rattle.ripng_phases.proofs.Runs.{takes_rest, reached_on}

-- the world may be spoken of together with the steps that are still to come
module _ (net : Network) (w w' : World) (all : List Step) (takes : Takes net w all w') (P : List Step → World → Type 0)
    (step : (before : List Step) (s : Step) (after : List Step) → all ≡ before ++ s ∷ after → IsOrdinary s.event → Happens net (reached w before) s.event s.answer s.after
    → All (λ n. n.kind ≢ NoMemory) s.answer.notes → P (s ∷ after) (reached w before) → P after s.after) where
  from : (before done after : List Step) → all ≡ done ++ (before ++ after) → P (before ++ after) (reached w done) → P after (reached w (done ++ before))
  from [] done after parts p = subst (λ xs. P after (reached w xs)) (sym (append-nil done)) p
  from (s ∷ before) done after parts p =
      let here = takes_rest net done (s ∷ (before ++ after)) w w' (subst (λ xs. Takes net w xs w') parts takes) in
      let next : P (before ++ after) s.after = step done s (before ++ after) parts here.0 here.1 here.2 p in
      subst (λ xs. P after (reached w xs)) (append_assoc done (s ∷ []) before)
      (from before (done ++ s ∷ []) after (parts ∙ sym (append_assoc done (s ∷ []) (before ++ after))) (subst (P (before ++ after)) (sym (reached_on done (s ∷ []) w)) next))

  pub along : (before after : List Step) → all ≡ before ++ after → P all w → P after (reached w before)
  along before after parts p = from before [] after parts (subst (λ xs. P xs w) parts p)

-- ---- where a step stands

pub contains_from : {X : Type 0} (xs : List X) (x : X) → At xs x → Contains xs x
contains_from xs x a = (a.0, slice_get_within xs a.0 x a.1, get_or_from_slice_get xs a.0 x x a.1)

pub stands_here : (before : List Step) (s : Step) (after : List Step) → At (before ++ s ∷ after) s
stands_here before s after = at_right before (s ∷ after) s (0, refl)

pub happens_here : (all before : List Step) (s : Step) (after : List Step) → all ≡ before ++ s ∷ after → Contains (events_of all) s.event
happens_here all before s after parts =
    contains_from (events_of all) s.event (at_map (λ (x : Step). x.event) all s (subst (λ xs. At xs s) (sym parts) (stands_here before s after)))

-- a step that stands among others, and its place
abbrev pub IsAmong : List Step → Step → Type 0
IsAmong steps s = (before : List Step) × (after : List Step) × (steps ≡ before ++ s ∷ after)

-- an event of steps is one of them
pub step_at : (steps : List Step) (e : Event) → Contains (events_of steps) e → (s : Step) × (s.event ≡ e) × IsAmong steps s
step_at steps e c = let a = at_from_contains (events_of steps) e c in by_place steps a.0 a.1
  where
    by_place : (xs : List Step) (i : ℕ) → slice_get (events_of xs) i ≡ Some e → (s : Step) × (s.event ≡ e) × IsAmong xs s
    by_place [] i is = absurd (cc)
    by_place (x ∷ xs) zero is = (x, first is, ([], xs, refl))
      where
        first : Some x.event ≡ Some e → x.event ≡ e
        first f = Some-same x.event e f
    by_place (x ∷ xs) (suc i) is = let l = by_place xs i is in (l.0, l.1, (x ∷ l.2.0, l.2.1, ap (λ ys. x ∷ ys) l.2.2))

-- of two steps one comes first, or they are the same
abbrev pub AreApart : Step → List Step → Step → List Step → Type 0
AreApart s b t d = ((mid : List Step) × (b ≡ mid ++ t ∷ d)) ⊎ ((s ≡ t) ⊎ ((mid : List Step) × (d ≡ mid ++ s ∷ b)))

pub two_splits : (a : List Step) (s : Step) (b c : List Step) (t : Step) (d : List Step) → a ++ s ∷ b ≡ c ++ t ∷ d → AreApart s b t d
two_splits [] s b [] t d e = inr (inl (first e))
  where
    first : s ∷ b ≡ t ∷ d → s ≡ t
    first e = cc
two_splits [] s b (x ∷ c) t d e = inl (c, rest e)
  where
    rest : s ∷ b ≡ x ∷ (c ++ t ∷ d) → b ≡ c ++ t ∷ d
    rest e = cc
two_splits (x ∷ a) s b [] t d e = inr (inr (a, sym (rest e)))
  where
    rest : x ∷ (a ++ s ∷ b) ≡ t ∷ d → a ++ s ∷ b ≡ d
    rest e = cc
two_splits (x ∷ a) s b (y ∷ c) t d e = two_splits a s b c t d (rest e)
  where
    rest : x ∷ (a ++ s ∷ b) ≡ y ∷ (c ++ t ∷ d) → a ++ s ∷ b ≡ c ++ t ∷ d
    rest e = cc
