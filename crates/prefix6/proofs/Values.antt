-- What a text reads as: eight groups of 16 bits, the groups of one address, and no other.
use Rattle.std.proofs.Common.{◌≡◌, ℕ, zero, suc, ◌-◌, ◌^◌, ◌<◌, ◌≤◌, List, [], ◌∷◌, ◌++◌, length, get_or, replicate, refl, sym, ap, ◌∙◌, subst, arith, inl, inr, lit≤, length-append}
use Rattle.std.proofs.lemmas.Int.Digits.{digits_value-lt}
use Rattle.std.proofs.Math.Nat.{pow-le-pow_right}
use Rattle.std.proofs.NetLemmas.Options.{same_parts}
use Rattle.std.proofs.NetLemmas.Ipv6.{read_ipv6_complete, EndsGroups-nil}
use Rattle.prefix6.specs.Addr.{groups_of}
use Rattle.prefix6.specs.Text.{IsGroup, AreGroups, ReadsAs, Reads}
use Rattle.prefix6.proofs.Grammar.{to_colon_hex}
use Rattle.prefix6.proofs.Groups.{groups_of-injective, groups_of-address_of, address_of, address_of-lt}

-- a text has one list of groups at most
pub ReadsAs_unique : (text xs ys : List ℕ) → ReadsAs text xs → ReadsAs text ys → xs ≡ ys
ReadsAs_unique text xs ys h k =
    let read = read_ipv6_complete text xs [] (to_colon_hex text xs h) EndsGroups-nil in
    let again = read_ipv6_complete text ys [] (to_colon_hex text ys k) EndsGroups-nil in
    (same_parts _ _ _ _ (sym read ∙ again)).0

-- a text reads as one address at most
pub Reads_unique : (text : List ℕ) (a b : ℕ) → Reads text a → Reads text b → a ≡ b
Reads_unique text a b h k = groups_of-injective a b h.in_range k.in_range (ReadsAs_unique text _ _ h.groups k.groups)

-- each number fits 16 bits
abbrev Fit : List ℕ → Type 0
Fit [] = Unit {0}
Fit (x ∷ xs) = (x < 65536) × Fit xs

Fit-append : (xs ys : List ℕ) → Fit xs → Fit ys → Fit (xs ++ ys)
Fit-append [] ys h k = k
Fit-append (x ∷ xs) ys h k = (h.0, Fit-append xs ys h.1 k)

Fit-zeros : (n : ℕ) → Fit (replicate n 0)
Fit-zeros zero = tt
Fit-zeros (suc n) = (omega arith, Fit-zeros n)

Fit-at : (xs : List ℕ) → Fit xs → (k : ℕ) → get_or xs k 0 < 65536
Fit-at [] h k = omega arith
Fit-at (x ∷ xs) h zero = h.0
Fit-at (x ∷ xs) h (suc k) = Fit-at xs h.1 k

group-fits : (text : List ℕ) (group : ℕ) → IsGroup text group → group < 65536
group-fits text group h =
    let below = digits_value-lt 16 text h.digits.1 in
    let most : 16 ^ length text ≤ 16 ^ 4 = pow-le-pow_right (lit≤ tt) h.short in
    omega (arith, h.value)

groups-fit : (groups text : List ℕ) → AreGroups text groups → Fit groups
groups-fit [] text h = tt
groups-fit (g ∷ []) text h = (group-fits text g h, tt)
groups-fit (g ∷ n ∷ groups) text h =
    let (first, rest, spelled, group, more) = h in
    (group-fits first g group, groups-fit (n ∷ groups) rest more)

all_groups-fit : (text groups : List ℕ) → ReadsAs text groups → Fit groups
all_groups-fit text groups (inl h) = groups-fit groups text h.0
all_groups-fit text groups (inr h) =
    subst Fit (sym h.value) (Fit-append _ h.back (Fit-append h.front _ (groups-fit h.front h.front_text h.front_groups) (Fit-zeros _)) (groups-fit h.back h.back_text h.back_groups))

-- each group of a text fits 16 bits
pub read_groups-fit : (text groups : List ℕ) → ReadsAs text groups → (k : ℕ) → get_or groups k 0 < 65536
read_groups-fit text groups h = Fit-at groups (all_groups-fit text groups h)

length-zeros : (n : ℕ) → length {A = ℕ} (replicate n 0) ≡ n
length-zeros zero = refl
length-zeros (suc n) = ap suc (length-zeros n)

-- a text has eight groups
pub read_groups-eight : (text groups : List ℕ) → ReadsAs text groups → length groups ≡ 8
read_groups-eight text groups (inl h) = h.1
read_groups-eight text groups (inr h) =
    ap length h.value ∙ omega (arith, length-append (h.front ++ replicate (8 - length h.front - length h.back) 0) h.back, length-append h.front (replicate (8 - length h.front - length h.back) 0), length-zeros (8 - length h.front - length h.back), h.missing)

-- the groups of a text are those of an address
pub read_address : (text groups : List ℕ) → ReadsAs text groups → (a : ℕ) × Reads text a × (groups ≡ groups_of a)
read_address text groups h =
    let fits = read_groups-fit text groups h in
    let same = groups_of-address_of groups (read_groups-eight text groups h) fits in
    (address_of groups, record { in_range = address_of-lt groups fits; groups = subst (ReadsAs text) (sym same) h }, sym same)
