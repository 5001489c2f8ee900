-- The sum of words, word by word.
use Rattle.std.proofs.Common.{◌≡◌, ◌≤◌, ℕ, ◌+◌, ◌*◌, List, [], ◌∷◌, length, get_or, drop, refl, arith}
use Rattle.byteorder.specs.Endian.{big_number}
use Rattle.ripng_capture.specs.Checksum.{word_sum}

-- the first word and those behind it
pub word_sum_step : (xs : List ℕ) → 2 ≤ length xs → word_sum xs ≡ big_number 2 xs + word_sum (drop 2 xs)
unfolding word_sum
word_sum_step [] h = absurd (omega arith)
word_sum_step (high ∷ []) h = absurd (omega arith)
word_sum_step (high ∷ low ∷ rest) h = omega arith

-- a last byte alone
pub word_sum_one : (xs : List ℕ) → length xs ≡ 1 → word_sum xs ≡ 256 * get_or xs 0 0
unfolding word_sum
word_sum_one [] h = absurd (omega arith)
word_sum_one (high ∷ []) h = refl
word_sum_one (high ∷ low ∷ rest) h = absurd (omega arith)

-- nothing
pub word_sum_none : (xs : List ℕ) → length xs ≡ 0 → word_sum xs ≡ 0
unfolding word_sum
word_sum_none [] h = refl
word_sum_none (high ∷ rest) h = absurd (omega arith)
