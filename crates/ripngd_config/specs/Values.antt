-- What the values of a configuration are read as.
use Rattle.std.specs.Prelude.{◌≡◌, ◌≤◌, ℕ, pos, Bool, List, [], ◌∷◌, Option, MatchOption, IsSomeAnd, Some}
use Rattle.ripngd_config.specs.Below.{Data, Items, Members, as_array, as_str, as_table, boolean, get_member, integer, item, no_items, Prefix6, Reads, ReadsPrefix}
use Rattle.ripngd_config.specs.Ranges.{ReadsRange}
use Rattle.ripngd_config.specs.declared.range.Range.{Range}

-- a number from low to high
abbrev pub IsNumber : ℕ → ℕ → Data → ℕ → Type 0
IsNumber low high d n = (d ≡ integer (pos n)) × (low ≤ n) × (n ≤ high)

-- a number where there is one
abbrev pub IsSomeNumber : ℕ → ℕ → Data → Option ℕ → Type 0
IsSomeNumber low high d o = IsSomeAnd o (IsNumber low high d)

-- a text that is read as the address
abbrev pub IsAddress : Data → ℕ → Type 0
IsAddress d a = IsSomeAnd (as_str d) (λ text. Reads text a)

-- a text that is read as the prefix
abbrev pub IsPrefixValue : Data → Prefix6 → Type 0
IsPrefixValue d p = IsSomeAnd (as_str d) (λ text. ReadsPrefix text p)

-- a text that is read as the range
abbrev pub IsRange : Data → Range → Type 0
IsRange d r = IsSomeAnd (as_str d) (λ text. ReadsRange text r)

-- a truth value
abbrev pub IsTruth : Data → Bool → Type 0
IsTruth d b = d ≡ boolean b

-- the value at a key is read as x, or is not there and x is the default
abbrev pub IsReadAt : {X : Type 0} → (Data → X → Type 0) → List ℕ → Option X → Members → X → Type 0
IsReadAt ReadsAs key default ms x = MatchOption (get_member key ms) (default ≡ Some x) (λ d. ReadsAs d x)

-- a table that is read as x
abbrev pub IsItem : {X : Type 0} → (Members → X → Type 0) → Data → X → Type 0
IsItem R d x = IsSomeAnd (as_table d) (λ ms. R ms x)

-- members of an array that are read as these values, one by one
abbrev pub AreItems : {X : Type 0} → (Data → X → Type 0) → Items → List X → Type 0
AreItems R no_items xs = xs ≡ []
AreItems R (item d rest) [] = ⊥
AreItems R (item d rest) (x ∷ xs) = R d x × AreItems R rest xs

-- an array of such members
abbrev pub IsArray : {X : Type 0} → (Data → X → Type 0) → Data → List X → Type 0
IsArray R d xs = IsSomeAnd (as_array d) (λ items. AreItems R items xs)

-- an array of tables that are read so
abbrev pub AreSections : {X : Type 0} → (Members → X → Type 0) → Data → List X → Type 0
AreSections R = IsArray (IsItem R)
