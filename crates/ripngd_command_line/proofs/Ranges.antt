-- What the parts of a text between its dots say of the seeds that it names.
use Rattle.std.proofs.Common.{◌≡◌, ◌∙◌, ◌≤◌, ap, sym, ℕ, length}
use Rattle.std.specs.List.{after_first, before_first}
use Rattle.std.proofs.lemmas.List.{nil_from_length}
use Rattle.clap.specs.Walk.{Text}
use Rattle.ripngd_command_line.specs.declared.asked.Seeds.{Seeds}
use Rattle.ripngd_command_line.specs.Asked.{IsSeedText, ReadsSeeds, is_dot}

-- two seeds in order, with two dots between them
pub seeds_read : (text first rest between last : Text) (x y : ℕ) → first ≡ before_first is_dot text → rest ≡ after_first is_dot text
    → between ≡ before_first is_dot rest → last ≡ after_first is_dot rest → length between ≡ 0 → IsSeedText first x → IsSeedText last y → x ≤ y
    → ReadsSeeds text (record { first = x; last = y })
seeds_read text first rest between last x y is_first is_rest is_between is_last empty one two order = record {
  first = rw is_first at one;
  dots = (rw is_rest at (sym is_between)) ∙ nil_from_length between empty;
  last = rw is_rest at (rw is_last at two);
  order = order;
}

-- something stands between the dots
pub not_dotted : (text rest between : Text) → rest ≡ after_first is_dot text → between ≡ before_first is_dot rest → ¬ (length between ≡ 0)
    → (seeds : Seeds) → ¬ (ReadsSeeds text seeds)
not_dotted text rest between is_rest is_between some seeds reads = some (ap length ((rw is_rest at is_between) ∙ reads.dots))

-- no seed stands in front
pub no_first : (text first : Text) → first ≡ before_first is_dot text → ((n : ℕ) → ¬ (IsSeedText first n)) → (seeds : Seeds) → ¬ (ReadsSeeds text seeds)
no_first text first is_first none seeds reads = none seeds.first (rw is_first reads.first)

-- no seed stands at the end
pub no_last : (text rest last : Text) → rest ≡ after_first is_dot text → last ≡ after_first is_dot rest → ((n : ℕ) → ¬ (IsSeedText last n))
    → (seeds : Seeds) → ¬ (ReadsSeeds text seeds)
no_last text rest last is_rest is_last none seeds reads = none seeds.last (rw is_last (rw is_rest reads.last))

-- the second seed is less than the first
pub not_in_order : (text first rest last : Text) (x y : ℕ) → first ≡ before_first is_dot text → rest ≡ after_first is_dot text
    → last ≡ after_first is_dot rest → IsSeedText first x → IsSeedText last y → ¬ (x ≤ y) → (seeds : Seeds) → ¬ (ReadsSeeds text seeds)
not_in_order text first rest last x y is_first is_rest is_last one two out seeds reads =
    let same_first : x ≡ seeds.first = sym (rw is_first at one).value ∙ reads.first.value in
    let same_last : y ≡ seeds.last = sym (rw is_rest at (rw is_last at two)).value ∙ reads.last.value in
    out (rw (same_first, same_last) reads.order)
