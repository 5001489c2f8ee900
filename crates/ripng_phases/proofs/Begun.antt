-- Any moment of phases comes after some whole ones, and what has happened since.
use Rattle.std.proofs.Common.{◌≡◌, ◌⊎◌, inl, inr, ℕ, List, [], ◌∷◌, ◌++◌, Contains, refl, ap, sym, subst, ◌∙◌, append_assoc}
use Rattle.route_table.proofs.TableLaws.{None-Some}
use Rattle.ripng_world.specs.Network.{Network}
use Rattle.ripng_world.specs.World.{World, Event}
use Rattle.ripng_world.proofs.Members.{at_from_contains, at_left}
use Rattle.ripng_phases.specs.Phases.{Step, Takes, IsMomentIn, IsPhase, IsBegun, Before, BegunAfter, PhasesAfter, before_next, events_of, reached, steps_of}
use Rattle.ripng_phases.proofs.Along.{contains_from}
use Rattle.ripng_phases.proofs.Runs.{takes_on, takes_first, takes_reached, reached_on}

pub events_on : (a b : List Step) → events_of (a ++ b) ≡ events_of a ++ events_of b
events_on [] b = refl
events_on (s ∷ a) b = ap (λ xs. s.event ∷ xs) (events_on a b)

-- a part of the steps that are two parts
abbrev pub AreParts : List Step → List Step → List Step → List Step → Type 0
AreParts xs ys a b = ((c : List Step) × (xs ≡ a ++ c)) ⊎ ((c : List Step) × (a ≡ xs ++ c) × (ys ≡ c ++ b))

pub cut : (xs ys a b : List Step) → xs ++ ys ≡ a ++ b → AreParts xs ys a b
cut [] ys a b e = inr (a, refl, e)
cut (x ∷ xs) ys [] b e = inl (x ∷ xs, refl)
cut (x ∷ xs) ys (y ∷ a) b e = elim (cut xs ys a b (rest e)) [
  | inl z ↦ inl (z.0, ap (λ l. x ∷ l) z.1 ∙ ap (λ k. k ∷ (a ++ z.0)) (first e))
  | inr z ↦ inr (z.0, ap (λ l. y ∷ l) z.1 ∙ ap (λ k. k ∷ (xs ++ z.0)) (sym (first e)), z.2)
]
  where
    first : x ∷ (xs ++ ys) ≡ y ∷ (a ++ b) → x ≡ y
    first e = cc

    rest : x ∷ (xs ++ ys) ≡ y ∷ (a ++ b) → xs ++ ys ≡ a ++ b
    rest e = cc

-- what has happened up to a moment of a phase
pub begun_until : (net : Network) (past : Before) (w : World) (steps : List Step) (w' : World) → IsPhase net past w steps w' → (before after : List Step) → steps ≡ before ++ after → IsBegun net past w before (reached w before)
begun_until net past w steps w' is before after parts =
    record {
      takes = takes_first net before after w w' (subst (λ xs. Takes net w xs w') parts is.takes);
      recent = λ datagram router iface now c. is.recent datagram router iface now (more _ c);
      close = λ router x y m k. is.close router x y (elim m [ inl a ↦ inl a | inr a ↦ inr (moment router x a) ]) (moment router y k);
    }
  where
    more : (e : Event) → Contains (events_of before) e → Contains (events_of steps) e
    more e c =
        let a = at_from_contains (events_of before) e c in
        subst (λ xs. Contains xs e) (sym (ap events_of parts ∙ events_on before after)) (contains_from (events_of before ++ events_of after) e (at_left (events_of before) (events_of after) e a))

    moment : (router x : ℕ) → IsMomentIn before router x → IsMomentIn steps router x
    moment router x m = record { event = m.event; happens = more m.event m.happens; router_is = m.router_is; moment_is = m.moment_is }

-- nothing has happened
pub begun_none : (net : Network) (past : Before) (w : World) → IsBegun net past w [] w
begun_none net past w =
    record {
      takes = refl;
      recent = λ datagram router iface now c. absurd (none _ c);
      close = λ router x y m k. absurd (none k.event k.happens);
    }
  where
    none : (e : Event) → Contains [] e → ⊥
    none e c = let a = at_from_contains [] e c in None-Some e a.1

pub begun_of : (net : Network) (past : Before) (w : World) (steps : List Step) (w' : World) → IsPhase net past w steps w' → IsBegun net past w steps w'
begun_of net past w steps w' is = record { takes = is.takes; recent = is.recent; close = is.close }

pub begun_take : (net : Network) (phases : List (List Step)) (since : List Step) (past : Before) (w w' : World) → BegunAfter net past w phases since w' → Takes net w (steps_of phases ++ since) w'
begun_take net [] since past w w' is = is.takes
begun_take net (steps ∷ phases) since past w w' is =
    subst (λ xs. Takes net w xs w') (sym (append_assoc steps (steps_of phases) since)) (takes_on net steps (steps_of phases ++ since) w is.0 w' is.1.takes (begun_take net phases since (before_next w steps) is.0 w' is.2))

-- whole phases, with nothing since
pub phases_begun : (net : Network) (phases : List (List Step)) (past : Before) (w w' : World) → PhasesAfter net past w phases w' → BegunAfter net past w phases [] w'
phases_begun net [] past w w' is = subst (IsBegun net past w []) (sym is) (begun_none net past w)
phases_begun net (steps ∷ phases) past w w' is = (is.0, is.1, phases_begun net phases (before_next w steps) is.0 w' is.2)

-- at a moment behind some of them
pub record IsAtMoment (net : Network) (past : Before) (w : World) (phases : List (List Step)) (w' : World) : Type 0 where
  pub more : List (List Step)
  pub since : List Step
  pub begun : BegunAfter net past w (phases ++ more) since w'

pub moment_in : (net : Network) (phases later : List (List Step)) (past : Before) (w w' : World) → PhasesAfter net past w (phases ++ later) w' → (before after : List Step) → steps_of later ≡ before ++ after
    → IsAtMoment net past w phases (reached w (steps_of phases ++ before))
moment_in net [] [] past w w' is [] after parts = record { more = []; since = []; begun = begun_none net past w }
moment_in net [] [] past w w' is (x ∷ before) after parts = absurd (none parts)
  where
    none : [] ≡ x ∷ (before ++ after) → ⊥
    none e = cc
moment_in net [] (steps ∷ later) past w w' is before after parts = by (cut steps (steps_of later) before after parts) (λ c e. moment_in net [] later (before_next w steps) is.0 w' is.2 c after e)
  where
    by : AreParts steps (steps_of later) before after → ((c : List Step) → steps_of later ≡ c ++ after → IsAtMoment net (before_next w steps) is.0 [] (reached is.0 c)) → IsAtMoment net past w [] (reached w before)
    by (inl z) next = record { more = []; since = before; begun = begun_until net past w steps is.0 is.1 before z.0 z.1 }
    by (inr z) next =
        let x = next z.0 z.2 in
        record {
          more = steps ∷ x.more;
          since = x.since;
          begun = (
            is.0,
            is.1,
            subst (BegunAfter net (before_next w steps) is.0 x.more x.since)
                (ap (λ v. reached v z.0) (takes_reached net steps w is.0 is.1.takes) ∙ sym (reached_on steps z.0 w) ∙ ap (reached w) (sym z.1)) x.begun,
          );
        }
moment_in net (steps ∷ phases) later past w w' is before after parts =
    let x = moment_in net phases later (before_next w steps) is.0 w' is.2 before after parts in
    record {
      more = x.more;
      since = x.since;
      begun = (
        is.0,
        is.1,
        subst (BegunAfter net (before_next w steps) is.0 (phases ++ x.more) x.since)
            (ap (λ v. reached v (steps_of phases ++ before)) (takes_reached net steps w is.0 is.1.takes) ∙ sym (reached_on steps (steps_of phases ++ before) w) ∙ ap (reached w) (sym (append_assoc steps (steps_of phases) before))) x.begun,
      );
    }
