use Rattle.std.proofs.Common.{◌<◌, ◌^◌, ℕ, zero, suc, IfSome, Some, None, Option, arith}
use Rattle.std.specs.Option.{SomeIff}
use Rattle.ripng_capture.proofs.interface.units_of.Goals as goal

-- a power of ten is not 0
power : (n : ℕ) → 0 < 10 ^ n
power zero = omega arith
power (suc n) = omega (arith, power n)

-- nor is one that fits
checked : (r : Option ℕ) (n : ℕ) → SomeIff r (10 ^ n < 2 ^ 32) (10 ^ n) → IfSome r (λ units. 0 < units)
checked None n h = tt
checked (Some units) n h = rw h.1 (power n)

pub returns-in-0-to-9 : goal.returns-in-0-to-9
returns-in-0-to-9 c = checked c.checked_pow.result _ c.checked_pow.ensures
