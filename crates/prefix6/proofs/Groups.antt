-- An address and its eight groups: each gives the other.
use Rattle.std.proofs.Common.{◌≡◌, ℕ, zero, suc, ◌+◌, ◌*◌, ◌/◌, ◌%◌, ◌^◌, ◌<◌, List, [], ◌∷◌, length, get_or, refl, sym, ap, ◌∙◌, arith}
use Rattle.std.proofs.Math.Nat.{div-div-eq-div-mul}
use Rattle.std.proofs.lemmas.Nat.{div-mul-add, mod-mul-add}
use Rattle.std.proofs.NetLemmas.Arrays.{eight_items}
use Rattle.std.specs.Int.{w128, to_be_bytes, from_be_bytes}
use Rattle.std.specs.Net.Addr.{segments_of, octets_of}
use Rattle.prefix6.specs.Addr.{groups_of}

-- two bytes of a number are a group of it
group_of_bytes : (n p : ℕ) → n / (p * 256) % 256 * 256 + n / p % 256 ≡ n / p % 65536
group_of_bytes n p =
    let e : n / (p * 256) ≡ n / p / 256 = sym (div-div-eq-div-mul n p 256) in
    omega arith

lowest_group : (n : ℕ) → n / 256 % 256 * 256 + n % 256 ≡ n / 1 % 65536
lowest_group n = omega arith

-- std's segments of a number are its groups
pub segments-groups_of : (n : ℕ) → segments_of (to_be_bytes w128 n) ≡ groups_of n
unfolding groups_of
segments-groups_of n = λ i.
    group_of_bytes n (2 ^ 112) i ∷ group_of_bytes n (2 ^ 96) i ∷ group_of_bytes n (2 ^ 80) i ∷ group_of_bytes n (2 ^ 64) i
    ∷ group_of_bytes n (2 ^ 48) i ∷ group_of_bytes n (2 ^ 32) i ∷ group_of_bytes n (2 ^ 16) i ∷ lowest_group n i ∷ []

-- the number of eight groups
abbrev joined : ℕ → ℕ → ℕ → ℕ → ℕ → ℕ → ℕ → ℕ → ℕ
joined a b c d e f g h = a * 2 ^ 112 + b * 2 ^ 96 + c * 2 ^ 80 + d * 2 ^ 64 + e * 2 ^ 48 + f * 2 ^ 32 + g * 2 ^ 16 + h

group_at_place : (low p group high n : ℕ) → low < p → group < 65536 → n ≡ (high * 65536 + group) * p + low → n / p % 65536 ≡ group
group_at_place low p group high n below small is =
    ap (λ (m : ℕ). m / p % 65536) is ∙ ap (λ (m : ℕ). m % 65536) (div-mul-add (high * 65536 + group) p low below) ∙ mod-mul-add high 65536 group small

groups_of-joined : (a b c d e f g h n : ℕ) → a < 65536 → b < 65536 → c < 65536 → d < 65536 → e < 65536 → f < 65536 → g < 65536 → h < 65536 → n ≡ joined a b c d e f g h → groups_of n ≡ a ∷ b ∷ c ∷ d ∷ e ∷ f ∷ g ∷ h ∷ []
unfolding groups_of
groups_of-joined a b c d e f g h n a' b' c' d' e' f' g' h' is =
    let at_h : n / 1 % 65536 ≡ h = group_at_place 0 1 h (a * 2 ^ 96 + b * 2 ^ 80 + c * 2 ^ 64 + d * 2 ^ 48 + e * 2 ^ 32 + f * 2 ^ 16 + g) n (omega arith) h' (omega arith) in
    let at_g = group_at_place h (2 ^ 16) g (a * 2 ^ 80 + b * 2 ^ 64 + c * 2 ^ 48 + d * 2 ^ 32 + e * 2 ^ 16 + f) n (omega arith) g' (omega arith) in
    let at_f = group_at_place (g * 2 ^ 16 + h) (2 ^ 32) f (a * 2 ^ 64 + b * 2 ^ 48 + c * 2 ^ 32 + d * 2 ^ 16 + e) n (omega arith) f' (omega arith) in
    let at_e = group_at_place (f * 2 ^ 32 + g * 2 ^ 16 + h) (2 ^ 48) e (a * 2 ^ 48 + b * 2 ^ 32 + c * 2 ^ 16 + d) n (omega arith) e' (omega arith) in
    let at_d = group_at_place (e * 2 ^ 48 + f * 2 ^ 32 + g * 2 ^ 16 + h) (2 ^ 64) d (a * 2 ^ 32 + b * 2 ^ 16 + c) n (omega arith) d' (omega arith) in
    let at_c = group_at_place (d * 2 ^ 64 + e * 2 ^ 48 + f * 2 ^ 32 + g * 2 ^ 16 + h) (2 ^ 80) c (a * 2 ^ 16 + b) n (omega arith) c' (omega arith) in
    let at_b = group_at_place (c * 2 ^ 80 + d * 2 ^ 64 + e * 2 ^ 48 + f * 2 ^ 32 + g * 2 ^ 16 + h) (2 ^ 96) b a n (omega arith) b' (omega arith) in
    let at_a = group_at_place (b * 2 ^ 96 + c * 2 ^ 80 + d * 2 ^ 64 + e * 2 ^ 48 + f * 2 ^ 32 + g * 2 ^ 16 + h) (2 ^ 112) a 0 n (omega arith) a' (omega arith) in
    λ i. at_a i ∷ at_b i ∷ at_c i ∷ at_d i ∷ at_e i ∷ at_f i ∷ at_g i ∷ at_h i ∷ []

-- the address of the groups a list holds
abbrev pub address_of : List ℕ → ℕ
address_of xs = joined (get_or xs 0 0) (get_or xs 1 0) (get_or xs 2 0) (get_or xs 3 0) (get_or xs 4 0) (get_or xs 5 0) (get_or xs 6 0) (get_or xs 7 0)

pub groups_of-address_of : (xs : List ℕ) → length xs ≡ 8 → ((k : ℕ) → get_or xs k 0 < 65536) → groups_of (address_of xs) ≡ xs
groups_of-address_of xs eight fits =
    groups_of-joined _ _ _ _ _ _ _ _ _ (fits 0) (fits 1) (fits 2) (fits 3) (fits 4) (fits 5) (fits 6) (fits 7) refl ∙ sym (eight_items xs eight)

pub address_of-lt : (xs : List ℕ) → ((k : ℕ) → get_or xs k 0 < 65536) → address_of xs < 2 ^ 128
address_of-lt xs fits = omega (arith, fits 0, fits 1, fits 2, fits 3, fits 4, fits 5, fits 6, fits 7)

joined_bytes : (a b c d e f g h : ℕ) → from_be_bytes w128 (octets_of (a ∷ b ∷ c ∷ d ∷ e ∷ f ∷ g ∷ h ∷ [])) ≡ joined a b c d e f g h
joined_bytes a b c d e f g h = omega arith

-- std's number of eight segments is the address of these groups
pub from_segments : (xs : List ℕ) → length xs ≡ 8 → from_be_bytes w128 (octets_of xs) ≡ address_of xs
from_segments xs eight = ap (λ ys. from_be_bytes w128 (octets_of ys)) (eight_items xs eight) ∙ joined_bytes _ _ _ _ _ _ _ _

group_and_rest : (n p : ℕ) → n / p ≡ n / p % 65536 + n / (p * 65536) * 65536
group_and_rest n p = omega (arith, div-div-eq-div-mul n p 65536)

-- an address is that of its groups
pub address_of-groups_of : (n : ℕ) → n < 2 ^ 128 → address_of (groups_of n) ≡ n
unfolding groups_of
address_of-groups_of n low =
    let top : n / 2 ^ 112 ≡ n / 2 ^ 112 % 65536 = omega arith in
    omega (arith, group_and_rest n 1, group_and_rest n (2 ^ 16), group_and_rest n (2 ^ 32), group_and_rest n (2 ^ 48), group_and_rest n (2 ^ 64), group_and_rest n (2 ^ 80), group_and_rest n (2 ^ 96))

pub groups_of-injective : (a b : ℕ) → a < 2 ^ 128 → b < 2 ^ 128 → groups_of a ≡ groups_of b → a ≡ b
groups_of-injective a b low low' same = sym (address_of-groups_of a low) ∙ ap address_of same ∙ address_of-groups_of b low'

pub length-groups_of : (n : ℕ) → length (groups_of n) ≡ 8
unfolding groups_of
length-groups_of n = refl

-- each group fits 16 bits
pub groups_of-fit : (n k : ℕ) → get_or (groups_of n) k 0 < 65536
unfolding groups_of
groups_of-fit n zero = omega arith
groups_of-fit n (suc zero) = omega arith
groups_of-fit n (suc (suc zero)) = omega arith
groups_of-fit n (suc (suc (suc zero))) = omega arith
groups_of-fit n (suc (suc (suc (suc zero)))) = omega arith
groups_of-fit n (suc (suc (suc (suc (suc zero))))) = omega arith
groups_of-fit n (suc (suc (suc (suc (suc (suc zero)))))) = omega arith
groups_of-fit n (suc (suc (suc (suc (suc (suc (suc zero))))))) = omega arith
groups_of-fit n (suc (suc (suc (suc (suc (suc (suc (suc k)))))))) = omega arith
