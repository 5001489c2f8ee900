-- The two halves of an address, as numbers of 64 bits.
use Rattle.std.specs.Prelude.{◌≡◌, ℕ, ◌+◌, ◌*◌, ◌/◌, ◌%◌, ◌^◌, ◌<◌}
use Rattle.std.proofs.lemmas.Nat.{div-mul-add}
use Rattle.std.proofs.Common.{arith}

-- two numbers of 64 bits
pub record AreHalves (high low : ℕ) : Type 0 where
  pub high_fits : high < 2 ^ 64
  pub low_fits : low < 2 ^ 64

-- put together, they give the high one back
pub same_high : (high low : ℕ) → AreHalves high low → (high * 2 ^ 64 + low) / 2 ^ 64 ≡ high
same_high high low h = div-mul-add high (2 ^ 64) low h.low_fits

-- and the low one
pub same_low : (high low : ℕ) → AreHalves high low → (high * 2 ^ 64 + low) % 2 ^ 64 ≡ low
same_low high low h = omega (arith, h.low_fits)
