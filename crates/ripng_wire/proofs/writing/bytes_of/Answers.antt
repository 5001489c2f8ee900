use Rattle.std.proofs.Common.{◌≡◌, ◌+◌, ◌*◌, ◌<◌, ◌/◌, ◌%◌, ◌^◌, ◌++◌, ℕ, ◌∷◌, [], List, ap₂, arith}
use Rattle.std.specs.Int.{byte_at}
use Rattle.byteorder.specs.Endian.{big_bytes}
use Rattle.ripng_wire.specs.Layout.{entry_bytes}
use Rattle.ripng_wire.proofs.writing.bytes_of.Goals as goal

-- a number of two bytes and two bytes behind it are the bytes of one number
last_bytes : (tag len metric : ℕ) → tag < 65536 → len < 256 → metric < 256
    → big_bytes 4 ((tag * 256 + len) * 256 + metric) ≡ big_bytes 2 tag ++ len ∷ metric ∷ []
last_bytes tag len metric ht hl hm =
    let n = (tag * 256 + len) * 256 + metric in
    let third : byte_at 3 n ≡ byte_at 1 tag = omega arith in
    let second : byte_at 2 n ≡ byte_at 0 tag = omega arith in
    let first : byte_at 1 n ≡ len = omega arith in
    let zeroth : byte_at 0 n ≡ metric = omega arith in
    cc (third, second, first, zeroth)

-- the bytes of an address are those of its halves
halves : (addr : ℕ) → addr < 2 ^ 128 → big_bytes 8 (addr / 2 ^ 64) ++ big_bytes 8 (addr % 2 ^ 64) ≡ big_bytes 16 addr
halves addr fits =
    let high1 : byte_at 1 (addr / 2 ^ 64) ≡ byte_at 9 addr = omega arith in
    let high2 : byte_at 2 (addr / 2 ^ 64) ≡ byte_at 10 addr = omega arith in
    let high3 : byte_at 3 (addr / 2 ^ 64) ≡ byte_at 11 addr = omega arith in
    let high4 : byte_at 4 (addr / 2 ^ 64) ≡ byte_at 12 addr = omega arith in
    let high5 : byte_at 5 (addr / 2 ^ 64) ≡ byte_at 13 addr = omega arith in
    let high6 : byte_at 6 (addr / 2 ^ 64) ≡ byte_at 14 addr = omega arith in
    let high7 : byte_at 7 (addr / 2 ^ 64) ≡ byte_at 15 addr = omega arith in
    let low0 : byte_at 0 (addr % 2 ^ 64) ≡ byte_at 0 addr = omega arith in
    let low1 : byte_at 1 (addr % 2 ^ 64) ≡ byte_at 1 addr = omega arith in
    let low2 : byte_at 2 (addr % 2 ^ 64) ≡ byte_at 2 addr = omega arith in
    let low3 : byte_at 3 (addr % 2 ^ 64) ≡ byte_at 3 addr = omega arith in
    let low4 : byte_at 4 (addr % 2 ^ 64) ≡ byte_at 4 addr = omega arith in
    let low5 : byte_at 5 (addr % 2 ^ 64) ≡ byte_at 5 addr = omega arith in
    let low6 : byte_at 6 (addr % 2 ^ 64) ≡ byte_at 6 addr = omega arith in
    let low7 : byte_at 7 (addr % 2 ^ 64) ≡ byte_at 7 addr = omega arith in
    cc (high1, high2, high3, high4, high5, high6, high7, low0, low1, low2, low3, low4, low5, low6, low7)

pub returns-clause-layout : goal.returns-clause-layout
unfolding entry_bytes
returns-clause-layout c =
    let e = c.args.entry in
    rw (c.write_u32.ensures, c.write_u64-2.ensures, c.write_u64.ensures, c.from.ensures, c.from-2.ensures, c.from-3.ensures)
    (ap₂ (λ (x y : List ℕ). x ++ y) (halves e.addr (omega arith)) (last_bytes e.tag e.len e.metric (omega arith) (omega arith) (omega arith)))
