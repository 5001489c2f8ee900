-- Whether a prefix begins before the middle of another, from the halves of their addresses.
use Rattle.std.proofs.Common.{◌≡◌, ◌≢◌, ℕ, ◌+◌, ◌-◌, ◌*◌, ◌/◌, ◌%◌, ◌^◌, ◌<◌, IsTrue, nat_lt, sym, ap, subst, ◌∙◌, arith}
use Rattle.std.proofs.lemmas.Bool.Decides.{nat_tests}
use Rattle.std.proofs.lemmas.Nat.{pow-add, pow_pos}
use Rattle.std.proofs.Math.Pow.{pow-lt}
use Rattle.prefix6.specs.Prefix.{Prefix6}
use Rattle.prefix6.specs.Halves.{middle}

-- what the code computes of a length below 64
pub half_is : (len : ℕ) → len < 64 → 1 * 2 ^ (63 - len) % 2 ^ 64 ≡ 2 ^ (63 - len)
half_is len short = let fits : 2 ^ (63 - len) < 2 ^ 64 = pow-lt {j = 64} (omega arith) in omega (arith, fits)

middle_is : (p : Prefix6) → p.len < 64 → middle p ≡ p.addr + 2 ^ (63 - p.len) * 2 ^ 64
middle_is p short =
    let e : 127 - p.len ≡ 63 - p.len + 64 = omega arith in
    ap (λ n. p.addr + 2 ^ n) e ∙ ap (λ m. p.addr + m) (pow-add 2 (63 - p.len) 64)

decided : (x y : ℕ) (P : Type 0) → (x < y → P) → (P → x < y) → (IsTrue (nat_lt x y) → P) × (P → IsTrue (nat_lt x y))
decided x y P to from = (λ h. to (grind (arith, nat_tests, h)), λ p. let lt = from p in grind (arith, nat_tests, lt))

module _ (a b h : ℕ) where
  low_to : b / 2 ^ 64 - a / 2 ^ 64 ≡ h → 0 < h → b % 2 ^ 64 < a % 2 ^ 64 → b < a + h * 2 ^ 64
  low_to is positive lt = omega arith

  low_from : b / 2 ^ 64 - a / 2 ^ 64 ≡ h → 0 < h → b < a + h * 2 ^ 64 → b % 2 ^ 64 < a % 2 ^ 64
  low_from is positive lt = omega arith

  high_to : b / 2 ^ 64 - a / 2 ^ 64 < h → b < a + h * 2 ^ 64
  high_to lt = omega arith

  high_from : b / 2 ^ 64 - a / 2 ^ 64 ≢ h → b < a + h * 2 ^ 64 → b / 2 ^ 64 - a / 2 ^ 64 < h
  high_from other lt = omega arith

module _ (p q : Prefix6) (short : p.len < 64) where
  -- the upper halves are just half a prefix apart: the lower ones decide
  pub by_low : q.addr / 2 ^ 64 - p.addr / 2 ^ 64 ≡ 2 ^ (63 - p.len) → (IsTrue (nat_lt (q.addr % 2 ^ 64) (p.addr % 2 ^ 64)) → q.addr < middle p) × (q.addr < middle p → IsTrue (nat_lt (q.addr % 2 ^ 64) (p.addr % 2 ^ 64)))
  by_low is =
      decided _ _ (q.addr < middle p)
      (λ lt. subst (λ m. q.addr < m) (sym (middle_is p short)) (low_to p.addr q.addr _ is (pow_pos (63 - p.len)) lt))
      (λ lt. low_from p.addr q.addr _ is (pow_pos (63 - p.len)) (subst (λ m. q.addr < m) (middle_is p short) lt))

  -- and else the upper ones
  pub by_high : q.addr / 2 ^ 64 - p.addr / 2 ^ 64 ≢ 2 ^ (63 - p.len)
      → (IsTrue (nat_lt (q.addr / 2 ^ 64 - p.addr / 2 ^ 64) (2 ^ (63 - p.len))) → q.addr < middle p) × (q.addr < middle p → IsTrue (nat_lt (q.addr / 2 ^ 64 - p.addr / 2 ^ 64) (2 ^ (63 - p.len))))
  by_high other =
      decided _ _ (q.addr < middle p)
      (λ lt. subst (λ m. q.addr < m) (sym (middle_is p short)) (high_to p.addr q.addr _ lt))
      (λ lt. high_from p.addr q.addr _ other (subst (λ m. q.addr < m) (middle_is p short) lt))
