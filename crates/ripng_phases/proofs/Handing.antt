-- A datagram is handed on: which interfaces it comes to, and how it comes to one after another.
use Rattle.std.proofs.Common.{◌≡◌, ◌⊎◌, inl, inr, ℕ, zero, suc, ◌+◌, ◌<◌, Bool, IsTrue, List, [], ◌∷◌, ◌++◌, Contains, Some, length, take, get_or, slice_get, refl, ap, sym, subst, ◌∙◌, arith}
use Rattle.std.specs.List.{AllByRecursion}
use Rattle.std.proofs.lemmas.List.{take_more}
use Rattle.route_table.proofs.TableLaws.{Some-same, None-Some}
use Rattle.ripng_world.specs.Network.{Network}
use Rattle.ripng_world.specs.Watching.{IfRefused, Told, WatchedRun, heard}
use Rattle.ripng_world.specs.World.{World, Event, Deliver}
use Rattle.ripng_world.specs.declared.watch.Stopped.{Stopped}
use Rattle.ripng_world.proofs.Members.{at_from_contains, split_at}
use Rattle.ripng_phases.specs.Making.{IsDeliveryAt, IsHanded, IsHandedInPart, IsLast, TellsSteps}
use Rattle.ripng_phases.specs.Phases.{Step, events_of}
use Rattle.ripng_phases.specs.declared.refused.PhaseRefused.{PhaseRefused}
use Rattle.ripng_phases.specs.declared.refused.PhaseRefused.TheVariants.{OutOfMemory}
use Rattle.ripng_phases.proofs.Along.{contains_from}
use Rattle.ripng_phases.proofs.Begun.{events_on}
use Rattle.ripng_phases.proofs.Tells.{all_on, contains_left, contains_right, tells_on, tells_one}

-- ---- what is put behind the end

pub last_of : {X : Type 0} (xs : List X) (x : X) → Contains (xs ++ x ∷ []) x
last_of xs x = contains_right xs (x ∷ []) x (contains_from (x ∷ []) x (0, refl))

pub split_last : {X : Type 0} (xs : List X) (x y : X) → Contains (xs ++ x ∷ []) y → Contains xs y ⊎ (x ≡ y)
split_last {X} xs x y c =
    let a = at_from_contains (xs ++ x ∷ []) y c in
    elim (split_at xs (x ∷ []) a.0 y a.1) [
      | inl b ↦ inl (contains_from xs y b)
      | inr b ↦ inr (one b.0 b.1)
    ]
  where
    one : (i : ℕ) → slice_get (x ∷ []) i ≡ Some y → x ≡ y
    one zero e = Some-same x y e
    one (suc i) e = absurd (None-Some y e)

pub next_of : (a b : ℕ) → a < b + 1 → (a < b) ⊎ (a ≡ b)
next_of a b lt = grind (arith, lt)

-- ---- a datagram comes to one interface after another

module _ {V : Type 0} (t : V → Told → V → Type 0) (net : Network) (s : World × V) (datagram moment : ℕ) (keeps : Bool) where
  pub none_handed : IsHanded t net s datagram moment keeps [] s
  none_handed = record { steps = []; tells = refl; only_this = tt; each = λ kept r c. absurd (none r c) }
    where
      none : (r : ℕ × ℕ) → Contains {X = ℕ × ℕ} [] r → ⊥
      none r c = None-Some r (at_from_contains [] r c).1

  module _ (receivers : List (ℕ × ℕ)) (i : ℕ) (here : i < length receivers) (mid : World × V) (first : IsHanded t net s datagram moment keeps (take i receivers) mid) where
    abbrev one : ℕ × ℕ
    one = get_or receivers i (0, 0)

    next : take (i + 1) receivers ≡ take i receivers ++ one ∷ []
    next = take_more receivers i (0, 0) here

    -- this one loses it
    pub lost : (IsTrue keeps → ⊥) → IsHanded t net s datagram moment keeps (take (i + 1) receivers) mid
    lost never = record { steps = first.steps; tells = first.tells; only_this = first.only_this; each = λ kept r c. absurd (never kept) }

    module _ (net' : Network) (same : net' ≡ net) (s' : World × V) where
      -- or hears it
      module _ (run : WatchedRun t heard net' mid (Deliver datagram (get_or receivers i (0, 0)).0 (get_or receivers i (0, 0)).1 moment ∷ []) s') where
        step : (x : Step) × (x.event ≡ Deliver datagram one.0 one.1 moment) × TellsSteps t net mid (x ∷ []) s'
        step = tells_one t net (Deliver datagram one.0 one.1 moment) tt mid s' (subst (λ (n : Network). WatchedRun t heard n mid (Deliver datagram one.0 one.1 moment ∷ []) s') same run)

        only : AllByRecursion (IsDeliveryAt datagram moment) (events_of (step.0 ∷ []))
        only = subst (λ (e : Event). AllByRecursion (IsDeliveryAt datagram moment) (e ∷ [])) (sym step.1) ((refl, refl), tt)

        by : IsTrue keeps → (r : ℕ × ℕ) → Contains (take i receivers) r ⊎ (one ≡ r) → Contains (events_of (first.steps ++ step.0 ∷ [])) (Deliver datagram r.0 r.1 moment)
        by kept r (inl old) =
            subst (λ (es : List Event). Contains es (Deliver datagram r.0 r.1 moment)) (sym (events_on first.steps (step.0 ∷ [])))
            (contains_left (events_of first.steps) (events_of (step.0 ∷ [])) (Deliver datagram r.0 r.1 moment) (first.each kept r old))
        by kept r (inr new) =
            subst (λ (es : List Event). Contains es (Deliver datagram r.0 r.1 moment)) (sym (events_on first.steps (step.0 ∷ [])))
            (contains_right (events_of first.steps) (events_of (step.0 ∷ [])) (Deliver datagram r.0 r.1 moment)
            (contains_from (step.0.event ∷ []) (Deliver datagram r.0 r.1 moment) (0, ap Some (step.1 ∙ ap (λ (p : ℕ × ℕ). Deliver datagram p.0 p.1 moment) new))))

        pub one_handed : IsHanded t net s datagram moment keeps (take (i + 1) receivers) s'
        one_handed =
            record {
              steps = first.steps ++ step.0 ∷ [];
              tells = tells_on t net first.steps (step.0 ∷ []) s mid s' first.tells step.2;
              only_this = subst (AllByRecursion (IsDeliveryAt datagram moment)) (sym (events_on first.steps (step.0 ∷ [])))
                  (all_on (IsDeliveryAt datagram moment) (events_of first.steps) (events_of (step.0 ∷ [])) first.only_this only);
              each = λ kept r c. by kept r (split_last (take i receivers) one r (subst (λ (rs : List (ℕ × ℕ)). Contains rs r) next c));
            }

      -- or the call stops at it
      pub stops_at : {F : Type 0} (f : V → Told → V → Type 0) (why : Stopped PhaseRefused F) → IsLast t f net' mid why s' → IfRefused why (λ refusal. refusal ≡ OutOfMemory)
          → IsHandedInPart t f net s datagram moment why s'
      stops_at f why last memory =
          record {
            steps = first.steps;
            before = mid;
            tells = first.tells;
            only_this = first.only_this;
            ends = subst (λ (n : Network). IsLast t f n mid why s') same last;
            memory = memory;
          }
