-- The texts that are read: the first two forms of an address of RFC 4291, 2.2, and the form of a prefix of 2.3.
use Rattle.std.specs.Prelude.{◌≡◌, ◌≢◌, ◌↔◌, ℕ, ◌+◌, ◌-◌, ◌^◌, ◌<◌, ◌≤◌, ◌==◌, ◌⊎◌, List, [], ◌∷◌, ◌++◌, length, replicate, slice_index, codes, Result, Ok, Err, IfErr}
use Rattle.std.specs.List.{before_first, after_first}
use Rattle.std.specs.Str.Parse.{IsNumeral, digits_value}
use Rattle.prefix6.specs.Addr.{groups_of}
use Rattle.prefix6.specs.Prefix.{Prefix6, cleared}
use Rattle.prefix6.specs.declared.error.PrefixError.{PrefixError}
use Rattle.prefix6.specs.declared.error.PrefixError.TheVariants.{LengthTooLarge, BadAddressText, BadLengthText}

-- one to four hexadecimal digits of either case, and the number that they write
pub record IsGroup (text : List ℕ) (group : ℕ) : Type 0 where
  pub digits : IsNumeral 16 text
  pub short : length text ≤ 4
  pub value : digits_value 16 text ≡ group

-- groups with a colon between each and the next; no group is no text
abbrev pub AreGroups : List ℕ → List ℕ → Type 0
AreGroups text [] = text ≡ []
AreGroups text (group ∷ []) = IsGroup text group
AreGroups text (group ∷ next ∷ groups) =
    (first rest : List ℕ) × (text ≡ first ++ codes ":" ++ rest) × IsGroup first group
    × AreGroups rest (next ∷ groups)

-- groups on both sides of `::`, which stands for the zero groups that are missing, at least one
pub record IsCompressed (text groups : List ℕ) : Type 0 where
  pub front_text : List ℕ
  pub back_text : List ℕ
  pub front : List ℕ
  pub back : List ℕ
  pub spelled : text ≡ front_text ++ codes "::" ++ back_text
  pub front_groups : AreGroups front_text front
  pub back_groups : AreGroups back_text back
  pub missing : length front + length back < 8
  pub value : groups ≡ front ++ replicate (8 - length front - length back) 0 ++ back

-- all eight groups, or fewer with one `::`
abbrev pub ReadsAs : List ℕ → List ℕ → Type 0
ReadsAs text groups = (AreGroups text groups × (length groups ≡ 8)) ⊎ IsCompressed text groups

-- the text is one of an address
pub record Reads (text : List ℕ) (a : ℕ) : Type 0 where
  pub in_range : a < 2 ^ 128
  pub groups : ReadsAs text (groups_of a)

-- what a reader of addresses answers: the address, exactly where the text reads as one
pub record ParsesAddr (text : List ℕ) (r : Result ℕ PrefixError) : Type 0 where
  pub reads : (a : ℕ) → (r ≡ Ok a) ↔ Reads text a
  pub refused : IfErr r (λ e. e ≡ BadAddressText)

-- a length: decimal digits, of which the first is not 0 (48) unless it is the only one, at most 128
pub record IsLengthText (text : List ℕ) (len : ℕ) : Type 0 where
  pub digits : IsNumeral 10 text
  pub no_leading_zero : slice_index text 0 ≡ 48 → length text ≡ 1
  pub value : digits_value 10 text ≡ len
  pub bound : len ≤ 128

-- an address, a slash and a length: the prefix of that length that contains the address (RFC 4291, 2.3)
pub record ReadsPrefix (text : List ℕ) (p : Prefix6) : Type 0 where
  pub addr_text : List ℕ
  pub len_text : List ℕ
  pub addr : ℕ
  pub spelled : text ≡ addr_text ++ codes "/" ++ len_text
  pub reads : Reads addr_text addr
  pub len : IsLengthText len_text p.len
  pub value : p ≡ cleared addr p.len

-- the text up to the first slash (47), or the whole; and what stands after it, or nothing
abbrev pub address_part : List ℕ → List ℕ
address_part text = before_first (λ c. c == 47) text

-- what stands after the first slash
abbrev pub length_part : List ℕ → List ℕ
length_part text = after_first (λ c. c == 47) text

-- what stands before the first slash is not an address
abbrev pub HasNoAddress : List ℕ → Type 0
HasNoAddress text = (a : ℕ) → ¬ (Reads (address_part text) a)

-- an address stands there, and no length after it
abbrev pub HasNoLength : List ℕ → Type 0
HasNoLength text = ((a : ℕ) × Reads (address_part text) a)
    × ((len : ℕ) → ¬ (IsLengthText (length_part text) len))

-- what a reader of prefixes answers: the prefix, exactly where the text reads as one, and which refusal
pub record ParsesPrefix (text : List ℕ) (r : Result Prefix6 PrefixError) : Type 0 where
  pub reads : (p : Prefix6) → (r ≡ Ok p) ↔ ReadsPrefix text p
  pub bad_address : (r ≡ Err BadAddressText) ↔ HasNoAddress text
  pub bad_length : (r ≡ Err BadLengthText) ↔ HasNoLength text
  pub no_other : r ≢ Err LengthTooLarge
