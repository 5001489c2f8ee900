-- What summaries say of two lists of routes, and of what a search may leave out.
use Rattle.std.proofs.Common.{◌≡◌, Bool, true, false, ◌&&◌, ◌||◌, [], ◌∷◌, ◌++◌, Option, Some, None, refl, sym, ap, ap₂, ◌∙◌, arith}
use mathlib.Core.Bool.{false≢true}
use Rattle.std.specs.Prelude.{ℕ, All, slice_index_or}
use Rattle.std.proofs.lemmas.List.Elements.{All-nil, All-cons}
use Rattle.std.proofs.lemmas.Bool.Decides.{nat_tests}
use Rattle.prefix6.specs.Prefix.{Prefix6}
use Rattle.route_table.specs.Place.{Entries}
use Rattle.route_table.specs.Table.{is_past}
use Rattle.route_table.specs.Due.{is_reached, earlier, least_deadline, first_where}
use Rattle.route_table.specs.Summary.{SummaryValue, both, summary_of, summary_of_route, meets, may_meet}
use Rattle.route_table.specs.declared.wanted.Wanted.{Wanted}
use Rattle.route_table.specs.declared.wanted.Wanted.TheVariants.{Any, Due, Changed, DueOrChanged}
use Rattle.route_table.proofs.TrieLists.{Entry, first_fails}

pub earlier-assoc : (a b c : Option ℕ) → earlier a (earlier b c) ≡ earlier (earlier a b) c
earlier-assoc None b c = refl
earlier-assoc (Some a) None c = refl
earlier-assoc (Some a) (Some b) None = refl
earlier-assoc (Some a) (Some b) (Some c) = ap (λ n. Some n) (omega arith)

pub earlier-none : (a : Option ℕ) → earlier a None ≡ a
earlier-none None = refl
earlier-none (Some a) = refl

or-assoc : (a b c : Bool) → (a || (b || c)) ≡ ((a || b) || c)
or-assoc true b c = refl
or-assoc false b c = refl

pub or-none : (a : Bool) → (a || false) ≡ a
or-none true = refl
or-none false = refl

abbrev pub of_two : Option ℕ → Bool → SummaryValue
of_two d b = record { due = d; changed = b }

pub both-assoc : (a b c : SummaryValue) → both a (both b c) ≡ both (both a b) c
both-assoc a b c = ap₂ of_two (earlier-assoc a.due b.due c.due) (or-assoc a.changed b.changed c.changed)

-- of two lists one after the other
pub summary-append : (xs ys : Entries) → both (summary_of xs) (summary_of ys) ≡ summary_of (xs ++ ys)
summary-append [] ys = refl
summary-append (x ∷ xs) ys = sym (both-assoc (summary_of_route x.1) (summary_of xs) (summary_of ys)) ∙ ap (both (summary_of_route x.1)) (summary-append xs ys)

-- of one entry
pub summary-one : (e : Entry) → summary_of_route e.1 ≡ summary_of (e ∷ [])
summary-one e = ap₂ of_two (sym (earlier-none (summary_of_route e.1).due)) (sym (or-none e.1.changed))

-- what two together do not reach, neither reaches
pub neither : (by : ℕ) (a b : Option ℕ) → is_reached by (earlier a b) ≡ false → (is_reached by a ≡ false) × (is_reached by b ≡ false)
neither by None b h = (refl, h)
neither by (Some a) None h = (h, refl)
neither by (Some a) (Some b) h = (grind (arith, nat_tests, h), grind (arith, nat_tests, h))

pub neither_is : (a b : Bool) → (a || b) ≡ false → (a ≡ false) × (b ≡ false)
neither_is true b h = absurd (false≢true (sym h))
neither_is false b h = (refl, h)

-- what the summary rules out is not there
ruled_out : (w : Wanted) (es : Entries) → may_meet w (summary_of es) ≡ false → All (λ e. meets w e.1 ≡ false) es
ruled_out w [] h = All-nil (λ (e : Entry). meets w e.1 ≡ false)
ruled_out Any (e ∷ es) h = absurd (false≢true (sym h))
ruled_out (Due by) (e ∷ es) h =
    let apart = neither by (summary_of_route e.1).due (summary_of es).due h in
    All-cons (λ (e : Entry). meets (Due by) e.1 ≡ false) e es apart.0 (ruled_out (Due by) es apart.1)
ruled_out Changed (e ∷ es) h =
    let apart = neither_is e.1.changed (summary_of es).changed h in
    All-cons (λ (e : Entry). meets Changed e.1 ≡ false) e es apart.0 (ruled_out Changed es apart.1)
ruled_out (DueOrChanged by) (e ∷ es) h =
    let apart = neither_is (is_reached by (earlier (summary_of_route e.1).due (summary_of es).due)) (e.1.changed || (summary_of es).changed) h in
    let due = neither by (summary_of_route e.1).due (summary_of es).due apart.0 in
    let changed = neither_is e.1.changed (summary_of es).changed apart.1 in
    All-cons (λ (e : Entry). meets (DueOrChanged by) e.1 ≡ false) e es (ap₂ (λ a b. a || b) due.0 changed.0)
    (ruled_out (DueOrChanged by) es (ap₂ (λ a b. a || b) due.1 changed.1))

pub nothing_wanted : (w : Wanted) (after : Option Prefix6) (es : Entries) → may_meet w (summary_of es) ≡ false → first_where (meets w) after es ≡ None
nothing_wanted w after es h = first_fails (λ e. meets w e.1 && is_past after e.0) es (λ i d lt. ap (λ b. b && is_past after (slice_index_or es i d).0) (ruled_out w es h i d lt))

-- the deadline of a summary is the least
pub due_of : (es : Entries) → (summary_of es).due ≡ least_deadline es
due_of [] = refl
due_of (e ∷ es) = ap (earlier (summary_of_route e.1).due) (due_of es)
