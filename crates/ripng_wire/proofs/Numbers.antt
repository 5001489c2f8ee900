-- Bytes and the number that they are: each gives the other.
use Rattle.std.proofs.Common.{◌≡◌, ℕ, zero, suc, ◌+◌, ◌*◌, ◌/◌, ◌^◌, ◌<◌, ◌≤◌, List, [], ◌∷◌, length, get_or, take, drop, sym, ap, ◌∙◌, arith, inl, inr}
use Rattle.std.proofs.Math.Nat.{mod-lt}
use Rattle.std.proofs.lemmas.Bool.{cases_lt}
use Rattle.std.proofs.lemmas.List.{append-nil, nil_from_length, get_or-drop, get_or-take, get_or_past, length-take}
use Rattle.std.proofs.lemmas.Nat.{div-mul-add}
use Rattle.std.specs.Int.{byte_at, bytes_high_first}
use Rattle.byteorder.specs.Endian.{big_from}
use Rattle.byteorder.specs.Numbers.{big_from-cons, big_from-lt, big_from-take, big_number-reads_back, length-bytes_high_first}

-- each number is a byte
abbrev pub IsBytes : List ℕ → Type 0
IsBytes bytes = (i : ℕ) → get_or bytes i 0 < 256

-- what is left behind the first n bytes is bytes
pub IsBytes-drop : (n : ℕ) (bytes : List ℕ) → IsBytes bytes → IsBytes (drop n bytes)
IsBytes-drop n bytes h i = rw get_or-drop (h (n + i))

-- the first n bytes are bytes
IsBytes-take : (n : ℕ) (bytes : List ℕ) → IsBytes bytes → IsBytes (take n bytes)
IsBytes-take n bytes h i =
    elim (cases_lt i n) [
      | inl lt ↦ rw (get_or-take n bytes i 0 lt) (h i)
      | inr le ↦ rw (get_or_past (take n bytes) i 0 (omega (arith, length-take n bytes))) (omega arith)
    ]

-- a number and what is below its unit are known from their sum
same_head : (m x y r s : ℕ) → r < m → s < m → x * m + r ≡ y * m + s → (x ≡ y) × (r ≡ s)
same_head m x y r s hr hs e =
    let same : x ≡ y = sym (div-mul-add x m r hr) ∙ ap (λ (v : ℕ). v / m) e ∙ div-mul-add y m s hs in
    let high : x * m ≡ y * m = ap (λ (v : ℕ). v * m) same in
    (same, omega arith)

-- n bytes are known from their number
same_number : (n : ℕ) (xs ys : List ℕ) → length xs ≡ n → length ys ≡ n → IsBytes xs → IsBytes ys → big_from 0 n xs ≡ big_from 0 n ys → xs ≡ ys
same_number zero xs ys lx ly bx by_ e = nil_from_length xs lx ∙ sym (nil_from_length ys ly)
same_number (suc n) [] ys lx ly bx by_ e = absurd (omega arith)
same_number (suc n) (x ∷ xs) [] lx ly bx by_ e = absurd (omega arith)
same_number (suc n) (x ∷ xs) (y ∷ ys) lx ly bx by_ e =
    let bxs : IsBytes xs = λ i. bx (suc i) in
    let bys : IsBytes ys = λ i. by_ (suc i) in
    let moved : x * 256 ^ n + big_from 0 n xs ≡ y * 256 ^ n + big_from 0 n ys =
    ap (λ (r : ℕ). x * 256 ^ n + r) (sym (big_from-cons 0 n x xs)) ∙ e ∙ ap (λ (r : ℕ). y * 256 ^ n + r) (big_from-cons 0 n y ys) in
    let parts = same_head (256 ^ n) x y (big_from 0 n xs) (big_from 0 n ys) (big_from-lt 0 n xs bxs) (big_from-lt 0 n ys bys) moved in
    let tails : xs ≡ ys = same_number n xs ys (omega arith) (omega arith) bxs bys parts.1 in
    cc (parts.0, tails)

-- each byte of a number is one
byte_at-lt : (k x : ℕ) → byte_at k x < 256
byte_at-lt zero x = mod-lt x (omega arith)
byte_at-lt (suc k) x = mod-lt (x / 256 ^ suc k) (omega arith)

-- the bytes of a number are bytes
bytes_fit : (n x : ℕ) → IsBytes (bytes_high_first n x)
bytes_fit zero x i = omega arith
bytes_fit (suc n) x zero = byte_at-lt n x
bytes_fit (suc n) x (suc i) = bytes_fit n x i

-- the n bytes of the number of n bytes are these bytes
number_bytes : (n : ℕ) (xs : List ℕ) → length xs ≡ n → IsBytes xs → bytes_high_first n (big_from 0 n xs) ≡ xs
number_bytes n xs len fits =
    let v = big_from 0 n xs in
    let back : big_from 0 n (bytes_high_first n v) ≡ v = ap (big_from 0 n) (sym (append-nil (bytes_high_first n v))) ∙ big_number-reads_back n v [] (big_from-lt 0 n xs fits) in
    same_number n (bytes_high_first n v) xs (length-bytes_high_first n v) len (bytes_fit n v) fits back

-- the bytes of the number in the first n bytes are these bytes
pub first_bytes : (n : ℕ) (xs : List ℕ) → n ≤ length xs → IsBytes xs → bytes_high_first n (big_from 0 n xs) ≡ take n xs
first_bytes n xs le fits =
    ap (bytes_high_first n) (sym (big_from-take 0 n n xs (omega arith)))
    ∙ number_bytes n (take n xs) (omega (arith, length-take n xs)) (IsBytes-take n xs fits)
