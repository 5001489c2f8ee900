-- Texts of ranges, by what a reader of prefixes answers.
use Rattle.std.proofs.Common.{◌≡◌, ◌-◌, ◌==◌, ℕ, List, [], Ok, Err, Result, length, slice_index, subst, sym}
use Rattle.std.specs.List.{before_first, after_first}
use Rattle.prefix6.specs.Prefix.{Prefix6}
use Rattle.prefix6.specs.Text.{ParsesPrefix, ReadsPrefix}
use Rattle.prefix6.specs.declared.error.PrefixError.{PrefixError}
use Rattle.ripngd_config.specs.Ranges.{ReadsRange, is_plus}
use Rattle.ripngd_config.specs.declared.range.Range.{Range}

pub range_read : (text prefix : List ℕ) (r : Result Prefix6 PrefixError) (x : Range) → prefix ≡ before_first is_plus text → after_first is_plus text ≡ [] → x.is_longer ≡ (slice_index text (length text - 1) == 43)
    → ParsesPrefix prefix r → r ≡ Ok x.prefix → ReadsRange text x
range_read text prefix r x before last longer parses ok =
    record { prefix = subst (λ (t : List ℕ). ReadsPrefix t x.prefix) before ((parses.reads x.prefix).0 ok); last = last; longer = longer }

pub range_refused : (text prefix : List ℕ) (r : Result Prefix6 PrefixError) (e : PrefixError) → prefix ≡ before_first is_plus text → ParsesPrefix prefix r → r ≡ Err e → (x : Range) → ¬ (ReadsRange text x)
range_refused text prefix r e before parses err x reads =
    cc (sym err, (parses.reads x.prefix).1 (subst (λ (t : List ℕ). ReadsPrefix t x.prefix) (sym before) reads.prefix))
