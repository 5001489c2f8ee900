-- Indices in a list of entries that is in the order of their prefixes.
use Rattle.std.specs.Prelude.{◌≡◌, ℕ, ◌<◌, ◌≤◌, List, length, slice_index_or as get_or}
use Rattle.std.specs.declared.cmp.Ordering.TheVariants.{Less, Greater}
use Rattle.prefix6.specs.Prefix.{Prefix6, prefix_cmp}

-- a value at each prefix
abbrev pub Valued : Type 0 → Type 0
Valued X = List (Prefix6 × X)

-- the prefix of the entry at an index, or of d past the end
abbrev pub prefix_at : {X : Type 0} → Valued X → ℕ → Prefix6 × X → Prefix6
prefix_at es i d = (get_or es i d).0

-- the entry of a prefix is at this index
pub record IsAt {X : Type 0} (es : Valued X) (p : Prefix6) (i : ℕ) : Type 0 where
  pub in_range : i < length es
  pub has_prefix : (d : Prefix6 × X) → prefix_at es i d ≡ p

-- a prefix without an entry would go to this index
pub record IsGap {X : Type 0} (es : Valued X) (p : Prefix6) (i : ℕ) : Type 0 where
  pub in_range : i ≤ length es
  pub before : (j : ℕ) (d : Prefix6 × X) → j < i → prefix_cmp (prefix_at es j d) p ≡ Less
  pub after : (j : ℕ) (d : Prefix6 × X) → i ≤ j → j < length es → prefix_cmp (prefix_at es j d) p ≡ Greater
