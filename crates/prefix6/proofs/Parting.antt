-- The addresses of a prefix and of its halves, and where two prefixes part.
use Rattle.std.proofs.Common.{◌≡◌, ◌≢◌, ℕ, ◌+◌, ◌-◌, ◌*◌, ◌/◌, ◌%◌, ◌^◌, ◌<◌, ◌≤◌, sym, ap, subst, ◌∙◌, inl, inr, arith}
use Rattle.std.proofs.lemmas.Bool.{cases_lt}
use Rattle.std.proofs.lemmas.Nat.{div-add-mod', div-mul-add, mod_below, pow_pos, pow-add, shr_below, row_fits}
use Rattle.std.proofs.Math.Nat.{mod-eq_of_lt, add-mod_left, two-pow-succ}
use Rattle.std.proofs.Math.Pow.{mod-mod-pow, pow_mono}
use Rattle.prefix6.specs.Prefix.{Prefix6, IsPrefix, Holds, first_bits, cleared}
use Rattle.prefix6.specs.Halves.{IsWithin, IsUnder, IsLow, IsHigh, IsMeet, middle, past}

same_parts : (p q : Prefix6) → p.addr ≡ q.addr → p.len ≡ q.len → p ≡ q
same_parts p q d l = λ i. record { addr = d i; len = l i }

at_addr : (p q : Prefix6) → p ≡ q → p.addr ≡ q.addr
at_addr p q e = ap (λ (r : Prefix6). r.addr) e

-- what is left of an address is zero
zeros : (p : Prefix6) → IsPrefix p → p.addr % 2 ^ (128 - p.len) ≡ 0
zeros p is = omega (arith, div-add-mod' p.addr (2 ^ (128 - p.len)), at_addr _ _ is.clear)

-- ---- the addresses of a prefix
module _ (p : Prefix6) (is : IsPrefix p) (a : ℕ) where
  start : first_bits p.addr p.len * 2 ^ (128 - p.len) ≡ p.addr
  start = at_addr _ _ is.clear

  below : a % 2 ^ (128 - p.len) < 2 ^ (128 - p.len)
  below = mod_below a (2 ^ (128 - p.len)) (pow_pos (128 - p.len))

  same_start : Holds p a → first_bits a p.len * 2 ^ (128 - p.len) ≡ p.addr
  same_start h = ap (λ n. n * 2 ^ (128 - p.len)) h.1 ∙ start

  pub at_least : Holds p a → p.addr ≤ a
  at_least h = omega (arith, div-add-mod' a (2 ^ (128 - p.len)), same_start h)

  pub less_than : Holds p a → a < past p
  less_than h = omega (arith, div-add-mod' a (2 ^ (128 - p.len)), same_start h, below)

  pub holds_between : a < 2 ^ 128 → p.addr ≤ a → a < past p → Holds p a
  holds_between fits from to =
      let apart : a ≡ first_bits p.addr p.len * 2 ^ (128 - p.len) + (a - p.addr) = omega (arith, start) in
      (fits, ap (λ n. n / 2 ^ (128 - p.len)) apart ∙ div-mul-add (first_bits p.addr p.len) (2 ^ (128 - p.len)) (a - p.addr) (omega arith))

-- a longer prefix lies in another whose bits its address has
pub under_holds : (p q : Prefix6) → IsPrefix p → IsPrefix q → p.len < q.len → (Holds p q.addr → IsUnder p q) × (IsUnder p q → Holds p q.addr)
under_holds p q is q_is longer = (
  λ h. record { longer = longer; from = at_least p is q.addr h; to = less_than p is q.addr h },
  λ u. holds_between p is q.addr q_is.in_range u.from u.to,
)

-- a prefix lies in itself
pub itself_within : (p : Prefix6) → IsWithin p p
itself_within p = record { as_long = omega arith; from = omega arith; to = omega (arith, pow_pos (128 - p.len)) }

half_fits : (n : ℕ) → 2 ^ (127 - n) ≤ 2 ^ (128 - n)
half_fits n =
    let e : 127 - n ≤ 128 - n = omega arith in
    pow_mono e

pub low_within : (p q : Prefix6) → IsLow p q → IsWithin p q
low_within p q low = record { as_long = omega (arith, low.longer); from = low.from; to = omega (arith, low.to, half_fits p.len) }

pub high_within : (p q : Prefix6) → IsHigh p q → IsWithin p q
high_within p q high = record { as_long = omega (arith, high.longer); from = omega (arith, high.from); to = high.to }

pub under_low : (p q : Prefix6) → IsUnder p q → q.addr < middle p → IsLow p q
under_low p q u less = record { longer = u.longer; from = u.from; to = less }

pub under_high : (p q : Prefix6) → IsUnder p q → middle p ≤ q.addr → IsHigh p q
under_high p q u ge = record { longer = u.longer; from = ge; to = u.to }

-- ---- a prefix and the start of a shorter one that holds it
-- a multiple below a larger multiple leaves room for one more
aligned : (r j k : ℕ) → r % 2 ^ k ≡ 0 → r < 2 ^ (j + k) → r + 2 ^ k ≤ 2 ^ (j + k)
aligned r j k zero lt =
    let whole : r ≡ r / 2 ^ k * 2 ^ k = omega (arith, div-add-mod' r (2 ^ k)) in
    omega (arith, whole, row_fits (r / 2 ^ k) (2 ^ k) (2 ^ j) (2 ^ k) (shr_below r j k lt) (omega arith), pow-add 2 j k)

double : (n : ℕ) → 2 ^ (n + 1) ≡ 2 ^ n + 2 ^ n
double n = ap (λ m. 2 ^ m) (omega arith) ∙ two-pow-succ n

module _ (a n l : ℕ) (shorter : l < n) (n_is : n ≤ 128) (clear : a % 2 ^ (128 - n) ≡ 0) where
  abbrev rest : ℕ
  rest = a % 2 ^ (128 - l)

  rest_below : rest < 2 ^ (128 - l)
  rest_below = mod_below a (2 ^ (128 - l)) (pow_pos (128 - l))

  rest_clear : rest % 2 ^ (128 - n) ≡ 0
  rest_clear =
      let e : 128 - l ≡ n - l + (128 - n) = omega arith in
      subst (λ x. a % 2 ^ x % 2 ^ (128 - n) ≡ 0) (sym e) (mod-mod-pow a (n - l) (128 - n) ∙ clear)

  fits : rest + 2 ^ (128 - n) ≤ 2 ^ (128 - l)
  fits =
      let e : 128 - l ≡ n - l + (128 - n) = omega arith in
      subst (λ x. rest + 2 ^ (128 - n) ≤ 2 ^ x) (sym e) (aligned rest (n - l) (128 - n) rest_clear (subst (λ x. rest < 2 ^ x) e rest_below))

  fits_half : rest < 2 ^ (127 - l) → rest + 2 ^ (128 - n) ≤ 2 ^ (127 - l)
  fits_half lt =
      let e : 127 - l ≡ n - l - 1 + (128 - n) = omega arith in
      subst (λ x. rest + 2 ^ (128 - n) ≤ 2 ^ x) (sym e) (aligned rest (n - l - 1) (128 - n) rest_clear (subst (λ x. rest < 2 ^ x) e lt))

module _ (m q : Prefix6) (is : m ≡ cleared q.addr m.len) (clear : IsPrefix q) (shorter : m.len < q.len) where
  abbrev rest_of : ℕ
  rest_of = q.addr % 2 ^ (128 - m.len)

  starts : m.addr + rest_of ≡ q.addr
  starts = omega (arith, at_addr _ _ is, div-add-mod' q.addr (2 ^ (128 - m.len)))

  whole_is : 2 ^ (128 - m.len) ≡ 2 ^ (127 - m.len) + 2 ^ (127 - m.len)
  whole_is = let e : 128 - m.len ≡ 127 - m.len + 1 = omega (arith, clear.short) in ap (λ n. 2 ^ n) e ∙ double (127 - m.len)

  -- what lies in the longer prefix lies on its side of the middle
  pub all_low : q.addr < middle m → (x : Prefix6) → IsWithin q x → IsLow m x
  all_low less x w = record {
    longer = omega (arith, w.as_long);
    from = omega (arith, starts, w.from);
    to = omega (arith, starts, w.to, fits_half q.addr q.len m.len shorter clear.short (zeros q clear) (omega (arith, starts)));
  }

  pub all_high : middle m ≤ q.addr → (x : Prefix6) → IsWithin q x → IsHigh m x
  all_high ge x w = record {
    longer = omega (arith, w.as_long);
    from = omega (arith, w.from);
    to = omega (arith, starts, w.to, fits q.addr q.len m.len shorter clear.short (zeros q clear));
  }

  half_below : rest_of % 2 ^ (127 - m.len) ≡ q.addr % 2 ^ (127 - m.len)
  half_below = let e : 128 - m.len ≡ 1 + (127 - m.len) = omega (arith, clear.short) in subst (λ n. q.addr % 2 ^ n % 2 ^ (127 - m.len) ≡ q.addr % 2 ^ (127 - m.len)) (sym e) (mod-mod-pow q.addr 1 (127 - m.len))

  rest_small : rest_of < 2 ^ (128 - m.len)
  rest_small = mod_below q.addr (2 ^ (128 - m.len)) (pow_pos (128 - m.len))

  -- one bit more: the address up to that bit
  pub next_low : q.addr < middle m → q.addr - q.addr % 2 ^ (127 - m.len) ≡ m.addr
  next_low less =
      let rest_is : rest_of % 2 ^ (127 - m.len) ≡ rest_of = mod-eq_of_lt (omega (arith, starts)) in
      omega (arith, starts, half_below, rest_is)

  pub next_high : middle m ≤ q.addr → q.addr - q.addr % 2 ^ (127 - m.len) ≡ middle m
  next_high ge =
      let over : rest_of ≡ 2 ^ (127 - m.len) + (rest_of - 2 ^ (127 - m.len)) = omega (arith, starts) in
      let rest_is : rest_of % 2 ^ (127 - m.len) ≡ rest_of - 2 ^ (127 - m.len) = ap (λ n. n % 2 ^ (127 - m.len)) over ∙ add-mod_left (2 ^ (127 - m.len)) (rest_of - 2 ^ (127 - m.len)) ∙ mod-eq_of_lt (omega (arith, rest_small, whole_is)) in
      omega (arith, starts, half_below, rest_is)

-- addresses that are alike up to a bit have the same first bits
same_first : (a b n : ℕ) → a - a % 2 ^ (128 - n) ≡ b - b % 2 ^ (128 - n) → first_bits a n ≡ first_bits b n
same_first a b n e =
    let d = 2 ^ (128 - n) in
    let whole : a / 2 ^ (128 - n) * 2 ^ (128 - n) + 0 ≡ b / 2 ^ (128 - n) * 2 ^ (128 - n) + 0 = omega (arith, div-add-mod' a (2 ^ (128 - n)), div-add-mod' b (2 ^ (128 - n)), e) in
    sym (div-mul-add (a / 2 ^ (128 - n)) (2 ^ (128 - n)) 0 (pow_pos (128 - n))) ∙ ap (λ x. x / 2 ^ (128 - n)) whole ∙ div-mul-add (b / 2 ^ (128 - n)) (2 ^ (128 - n)) 0 (pow_pos (128 - n))

-- ---- two prefixes, of which the first does not lie above the second, and the longest that holds both
module _ (q k m : Prefix6) (meet : IsMeet q k m) (q_is : IsPrefix q) (k_is : IsPrefix k) (other : q ≢ k) (outside : IsUnder q k → ⊥) where
  pub of_second : m ≡ cleared k.addr m.len
  of_second = meet.of_first ∙ ap (λ n. record { addr = n * 2 ^ (128 - m.len); len = m.len }) meet.agree

  same_len : (a : Prefix6) → IsPrefix a → m ≡ cleared a.addr m.len → m.len ≡ a.len → m ≡ a
  same_len a clear is e = is ∙ ap (cleared a.addr) e ∙ clear.clear

  apart : q ≡ cleared k.addr q.len → q.len ≤ k.len → ⊥
  apart is le =
      elim (cases_lt q.len k.len) [
        | inl lt ↦ outside (record { longer = lt; from = omega (arith, at_addr _ _ is, div-add-mod' k.addr (2 ^ (128 - q.len))); to = omega (arith, at_addr _ _ is, div-add-mod' k.addr (2 ^ (128 - q.len)), mod_below k.addr (2 ^ (128 - q.len)) (pow_pos (128 - q.len))) })
        | inr ge ↦ let e : q.len ≡ k.len = omega arith in other (is ∙ ap (cleared k.addr) e ∙ k_is.clear)
      ]

  pub first_longer : m.len < q.len
  first_longer = elim (cases_lt m.len q.len) [
    | inl lt ↦ lt
    | inr ge ↦
        let same : m ≡ q = same_len q q_is meet.of_first (omega (arith, meet.first_len)) in
        absurd (apart (subst (λ x. x ≡ cleared k.addr x.len) same of_second) (subst (λ x. x.len ≤ k.len) same meet.second_len))
  ]

  pub second_longer : m ≢ k → m.len < k.len
  second_longer differ = elim (cases_lt m.len k.len) [
    | inl lt ↦ lt
    | inr ge ↦ absurd (differ (same_len k k_is of_second (omega (arith, meet.second_len))))
  ]

  no_further : m ≢ k → q.addr - q.addr % 2 ^ (127 - m.len) ≡ k.addr - k.addr % 2 ^ (127 - m.len) → ⊥
  no_further differ e =
      let one_less : 127 - m.len ≡ 128 - (m.len + 1) = omega arith in
      meet.longest (m.len + 1) (omega arith) (omega (arith, first_longer)) (omega (arith, second_longer differ)) (same_first q.addr k.addr (m.len + 1) (subst (λ n. q.addr - q.addr % 2 ^ n ≡ k.addr - k.addr % 2 ^ n) one_less e))

  -- the two lie on two sides
  pub other_high : m ≢ k → k.addr < middle m → middle m ≤ q.addr
  other_high differ less = elim (cases_lt q.addr (middle m)) [
    | inl lt ↦ absurd (no_further differ (next_low m q meet.of_first q_is first_longer lt ∙ sym (next_low m k of_second k_is (second_longer differ) less)))
    | inr ge ↦ ge
  ]

  pub other_low : m ≢ k → middle m ≤ k.addr → q.addr < middle m
  other_low differ ge = elim (cases_lt q.addr (middle m)) [
    | inl lt ↦ lt
    | inr q_ge ↦ absurd (no_further differ (next_high m q meet.of_first q_is first_longer q_ge ∙ sym (next_high m k of_second k_is (second_longer differ) ge)))
  ]
