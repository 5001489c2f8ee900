-- The checksum of UDP over IPv6 (RFC 8200, 8.1; RFC 1071, 1).
use Rattle.std.specs.Prelude.{ℕ, ◌+◌, ◌-◌, ◌*◌, ◌%◌, List, [], ◌∷◌}

-- the sum of the 16-bit words of some bytes; a last byte alone is the higher one of its word
unfoldable pub word_sum : List ℕ → ℕ
word_sum [] = 0
word_sum (high ∷ []) = 256 * high
word_sum (high ∷ low ∷ rest) = 256 * high + low + word_sum rest

-- the number from 1 to 65535 that makes the sum of all words, itself among them, a multiple of 65535: the complement of their
-- ones' complement sum, with 65535 in place of 0
abbrev pub checksum_of : List ℕ → ℕ
checksum_of bytes = 65535 - word_sum bytes % 65535
