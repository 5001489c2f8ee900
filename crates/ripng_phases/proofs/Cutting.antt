-- A history by a true clock, cut at a moment: where its parts stand.
use Rattle.std.proofs.Common.{◌≡◌, ◌⊎◌, inl, inr, ℕ, zero, suc, ◌<◌, ◌≤◌, List, [], ◌∷◌, ◌++◌, Contains, Some, slice_get, refl, ap, sym, subst, ◌∙◌, arith, append-nil}
use Rattle.std.specs.List.{AllByRecursion}
use Rattle.route_table.proofs.TableLaws.{Some-same}
use Rattle.ripng_world.specs.World.{Event}
use Rattle.ripng_world.proofs.Members.{at_from_contains}
use Rattle.ripng_phases.specs.Minutes.{Timed, AreFrom, untimed}
use Rattle.ripng_phases.specs.Phases.{events_of}

pub untimed_on : (a b : List Timed) → untimed (a ++ b) ≡ untimed a ++ untimed b
untimed_on [] b = refl
untimed_on (t ∷ a) b = ap (λ xs. t.step ∷ xs) (untimed_on a b)

-- all are before a moment, or none is
abbrev pub AreBefore : ℕ → List Timed → Type 0
AreBefore end history = AllByRecursion (λ t. t.at < end) history

abbrev pub AreNotBefore : ℕ → List Timed → Type 0
AreNotBefore start history = AllByRecursion (λ t. start ≤ t.at) history

pub from_all : (start later : ℕ) (history : List Timed) → start ≤ later → AreFrom later history → AreNotBefore start history
from_all start later [] le is = tt
from_all start later (t ∷ history) le is = (up start later t.at le is.0, from_all start t.at history (up start later t.at le is.0) is.1)
  where
    up : (a b c : ℕ) → a ≤ b → b ≤ c → a ≤ c
    up a b c e f = omega arith

-- a history has an early part and a late one
pub record IsCut (start at : ℕ) (history : List Timed) : Type 0 where
  pub early : List Timed
  pub late : List Timed
  pub parts : history ≡ early ++ late
  pub before : AreBefore at early
  pub not_before : AreNotBefore start early
  pub from : AreFrom at late

pub cut_at : (start at : ℕ) (history : List Timed) → AreFrom start history → IsCut start at history
cut_at start at [] is = record { early = []; late = []; parts = refl; before = tt; not_before = tt; from = tt }
cut_at start at (t ∷ history) is = by (split t.at at) (cut_at t.at at history is.1)
  where
    split : (a b : ℕ) → (b ≤ a) ⊎ (a < b)
    split a b = grind arith

    by : (at ≤ t.at) ⊎ (t.at < at) → IsCut t.at at history → IsCut start at (t ∷ history)
    by (inl late) rest = record { early = []; late = t ∷ history; parts = refl; before = tt; not_before = tt; from = (late, is.1) }
    by (inr early) rest =
        record {
          early = t ∷ rest.early;
          late = rest.late;
          parts = ap (λ xs. t ∷ xs) rest.parts;
          before = (early, rest.before);
          not_before = (is.0, lower rest.early rest.not_before);
          from = rest.from;
        }
      where
        up : (a b c : ℕ) → a ≤ b → b ≤ c → a ≤ c
        up a b c e f = omega arith

        lower : (xs : List Timed) → AreNotBefore t.at xs → AreNotBefore start xs
        lower [] all = tt
        lower (x ∷ xs) all = (up start t.at x.at is.0 all.0, lower xs all.1)

-- two ways to take a list apart
abbrev pub AreParts : List Timed → List Timed → List Timed → List Timed → Type 0
AreParts xs ys a b = ((c : List Timed) × (xs ≡ a ++ c) × (b ≡ c ++ ys)) ⊎ ((c : List Timed) × (a ≡ xs ++ c) × (ys ≡ c ++ b))

pub two_ways : (xs ys a b : List Timed) → xs ++ ys ≡ a ++ b → AreParts xs ys a b
two_ways [] ys a b e = inr (a, refl, e)
two_ways (x ∷ xs) ys [] b e = inl (x ∷ xs, refl, sym e)
two_ways (x ∷ xs) ys (y ∷ a) b e = elim (two_ways xs ys a b (rest e)) [
  | inl z ↦ inl (z.0, ap (λ l. x ∷ l) z.1 ∙ ap (λ k. k ∷ (a ++ z.0)) (first e), z.2)
  | inr z ↦ inr (z.0, ap (λ l. y ∷ l) z.1 ∙ ap (λ k. k ∷ (xs ++ z.0)) (sym (first e)), z.2)
]
  where
    first : x ∷ (xs ++ ys) ≡ y ∷ (a ++ b) → x ≡ y
    first e = cc

    rest : x ∷ (xs ++ ys) ≡ y ∷ (a ++ b) → xs ++ ys ≡ a ++ b
    rest e = cc

-- one that stands at a place is such as all are
pub all_here : (P : Timed → Type 0) (a : List Timed) (t : Timed) (b xs : List Timed) → xs ≡ a ++ t ∷ b → AllByRecursion P xs → P t
all_here P a t b xs parts all = go a (subst (AllByRecursion P) parts all)
  where
    go : (a : List Timed) → AllByRecursion P (a ++ t ∷ b) → P t
    go [] all = all.0
    go (x ∷ a) all = go a all.1

-- one that is not in the late part is in the early one
pub in_early : (early late a : List Timed) (t : Timed) (b : List Timed) → early ++ late ≡ a ++ t ∷ b → (at : ℕ) → t.at < at → AreNotBefore at late → (c : List Timed) × (early ≡ a ++ t ∷ c) × (b ≡ c ++ late)
in_early early late a t b e at soon far = elim (two_ways early late a (t ∷ b) e) [
  | inl z ↦ by z.0 z.1 z.2
  | inr z ↦ absurd (no t.at at (all_here (λ x. at ≤ x.at) z.0 t b late z.2 far) soon)
]
  where
    no : (a b : ℕ) → b ≤ a → a < b → ⊥
    no a b e f = omega arith

    by : (c : List Timed) → early ≡ a ++ c → t ∷ b ≡ c ++ late → (c : List Timed) × (early ≡ a ++ t ∷ c) × (b ≡ c ++ late)
    by [] f g = absurd (no t.at at (all_here (λ x. at ≤ x.at) [] t b late (sym g) far) soon)
    by (x ∷ c) f g = (c, f ∙ ap (λ y. a ++ y ∷ c) (sym (first g)), rest g)
      where
        first : t ∷ b ≡ x ∷ (c ++ late) → t ≡ x
        first g = cc

        rest : t ∷ b ≡ x ∷ (c ++ late) → b ≡ c ++ late
        rest g = cc

-- one that is not in the early part is in the late one
pub in_late : (early late a : List Timed) (t : Timed) (b : List Timed) → early ++ late ≡ a ++ t ∷ b → (at : ℕ) → at ≤ t.at → AreBefore at early → (c : List Timed) × (a ≡ early ++ c) × (late ≡ c ++ t ∷ b)
in_late early late a t b e at far soon = elim (two_ways early late a (t ∷ b) e) [
  | inl z ↦ by z.0 z.1 z.2
  | inr z ↦ z
]
  where
    no : (a b : ℕ) → b ≤ a → a < b → ⊥
    no a b e f = omega arith

    by : (c : List Timed) → early ≡ a ++ c → t ∷ b ≡ c ++ late → (c : List Timed) × (a ≡ early ++ c) × (late ≡ c ++ t ∷ b)
    by [] f g = ([], sym (append-nil a) ∙ sym f ∙ sym (append-nil early), sym g)
    by (x ∷ c) f g = absurd (no t.at at far (all_here (λ y. y.at < at) a t c early (f ∙ ap (λ y. a ++ y ∷ c) (sym (first g))) soon))
      where
        first : t ∷ b ≡ x ∷ (c ++ late) → t ≡ x
        first g = cc

-- an event of a history happens at some moment
pub timed_at : (history : List Timed) (e : Event) → Contains (events_of (untimed history)) e → (t : Timed) × (t.step.event ≡ e) × ((before : List Timed) × (after : List Timed) × (history ≡ before ++ t ∷ after))
timed_at history e c = let a = at_from_contains (events_of (untimed history)) e c in by_place history a.0 a.1
  where
    by_place : (xs : List Timed) (i : ℕ) → slice_get (events_of (untimed xs)) i ≡ Some e → (t : Timed) × (t.step.event ≡ e) × ((before : List Timed) × (after : List Timed) × (xs ≡ before ++ t ∷ after))
    by_place [] i is = absurd (cc)
    by_place (x ∷ xs) zero is = (x, Some-same x.step.event e is, ([], xs, refl))
    by_place (x ∷ xs) (suc i) is = let l = by_place xs i is in (l.0, l.1, (x ∷ l.2.0, l.2.1, ap (λ ys. x ∷ ys) l.2.2))
