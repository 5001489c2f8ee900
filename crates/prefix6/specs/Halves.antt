-- The halves of a prefix, and the first bit in which two prefixes differ.
use Rattle.std.specs.Prelude.{◌≡◌, ◌≢◌, ℕ, ◌+◌, ◌-◌, ◌^◌, ◌<◌, ◌≤◌}
use Rattle.prefix6.specs.Prefix.{Prefix6, first_bits, cleared}

-- where the upper half of a prefix begins: its addresses whose next bit is 1
abbrev pub middle : Prefix6 → ℕ
middle p = p.addr + 2 ^ (127 - p.len)

-- the first address past a prefix
abbrev pub past : Prefix6 → ℕ
past p = p.addr + 2 ^ (128 - p.len)

-- the second is no shorter and lies in the first
pub record IsWithin (p q : Prefix6) : Type 0 where
  pub as_long : p.len ≤ q.len
  pub from : p.addr ≤ q.addr
  pub to : q.addr < past p

-- the second is longer and lies in the first
pub record IsUnder (p q : Prefix6) : Type 0 where
  pub longer : p.len < q.len
  pub from : p.addr ≤ q.addr
  pub to : q.addr < past p

-- the second is longer and lies in the first, where the next bit is 0
pub record IsLow (p q : Prefix6) : Type 0 where
  pub longer : p.len < q.len
  pub from : p.addr ≤ q.addr
  pub to : q.addr < middle p

-- the second is longer and lies in the first, where the next bit is 1
pub record IsHigh (p q : Prefix6) : Type 0 where
  pub longer : p.len < q.len
  pub from : middle p ≤ q.addr
  pub to : q.addr < past p

-- the longest prefix that contains both
pub record IsMeet (a b m : Prefix6) : Type 0 where
  pub of_first : m ≡ cleared a.addr m.len
  pub agree : first_bits a.addr m.len ≡ first_bits b.addr m.len
  pub first_len : m.len ≤ a.len
  pub second_len : m.len ≤ b.len
  pub longest : (n : ℕ) → m.len < n → n ≤ a.len → n ≤ b.len → first_bits a.addr n ≢ first_bits b.addr n
