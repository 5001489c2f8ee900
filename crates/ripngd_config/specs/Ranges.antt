-- Texts that name prefixes of a list: `2001:db8::/32`, or with `+` at its end all longer ones in it as well.
use Rattle.std.specs.Prelude.{◌≡◌, ◌-◌, ◌==◌, ℕ, Bool, List, [], length, slice_index}
use Rattle.std.specs.List.{before_first, after_first}
use Rattle.ripngd_config.specs.Below.{ReadsPrefix}
use Rattle.ripngd_config.specs.declared.range.Range.{Range}

-- the byte is `+`
abbrev pub is_plus : ℕ → Bool
is_plus c = c == 43

-- the prefix, after which there is nothing or one `+`, and whether it is there
pub record ReadsRange (text : List ℕ) (r : Range) : Type 0 where
  pub prefix : ReadsPrefix (before_first is_plus text) r.prefix
  pub last : after_first is_plus text ≡ []
  pub longer : r.is_longer ≡ (slice_index text (length text - 1) == 43)
