-- Why a configuration is refused: which of the faults its tables have.
use Rattle.std.specs.Prelude.{◌≡◌, ◌⊎◌, ◌<◌, ℕ, ℤ, pos, negsuc, Bool, true, false, List, MatchOption, IsSomeAnd, None, ⊤}
use Rattle.ripngd_config.specs.Below.{Data, Items, Members, as_array, as_bool, as_integer, as_str, as_table, get_member, item, member, no_items, no_members, Reads, ReadsPrefix, ConfigFault, BadToml, MissingKey, WrongType, BadValue, UnknownKey, Router, PortTwice, PeerTwice, OutOfMemory}
use Rattle.ripngd_config.specs.Ranges.{ReadsRange}
use Rattle.ripngd_config.specs.Keys.{Keys, Kind, address, is_listed, key, keys_with, link_keys, names_of, no_keys, number, prefix, range, table, array, truth}

-- ---- which fault a value has, by what its key holds

-- an integer below the least or above the greatest
abbrev pub IsOutside : ℕ → ℕ → ℤ → Type 0
IsOutside low high (pos n) = (n < low) ⊎ (high < n)
IsOutside low high (negsuc n) = ⊤

-- a number from low to high: the value is no integer, or one that is outside
abbrev pub NumberHas : ℕ → ℕ → Data → ConfigFault → Type 0
NumberHas low high d (WrongType path) = as_integer d ≡ None
NumberHas low high d (BadValue path) = IsSomeAnd (as_integer d) (IsOutside low high)
NumberHas low high d _ = ⊥

-- a text of an address or a prefix: the value is no text, or one that names nothing
abbrev pub TextHas : {X : Type 0} → (List ℕ → X → Type 0) → Data → ConfigFault → Type 0
TextHas Names d (WrongType path) = as_str d ≡ None
TextHas {X = X} Names d (BadValue path) = IsSomeAnd (as_str d) (λ text. (x : X) → ¬ (Names text x))
TextHas Names d _ = ⊥

-- a boolean: the value is of another type
abbrev pub TruthHas : Data → ConfigFault → Type 0
TruthHas d (WrongType path) = as_bool d ≡ None
TruthHas d _ = ⊥

-- ---- which fault a table has, by its keys

-- the type is wrong
abbrev pub IsWrongType : ConfigFault → Type 0
IsWrongType (WrongType path) = ⊤
IsWrongType _ = ⊥

-- the key is absent, and required
abbrev pub AbsentHas : Bool → ConfigFault → Type 0
AbsentHas required (MissingKey path) = required ≡ true
AbsentHas required _ = ⊥

-- a key is not among the names
abbrev pub HasOther : List (List ℕ) → Members → Type 0
HasOther names no_members = ⊥
HasOther names (member name d ms) = (is_listed names name ≡ false) ⊎ HasOther names ms

-- the table has such a key
abbrev pub OtherHas : List (List ℕ) → Members → ConfigFault → Type 0
OtherHas names ms (UnknownKey path) = HasOther names ms
OtherHas names ms _ = ⊥

-- the value is no table, or is one that has the fault
abbrev pub ItemHas : (Members → ConfigFault → Type 0) → Data → ConfigFault → Type 0
ItemHas Has d f = MatchOption (as_table d) (IsWrongType f) (λ ms. Has ms f)

-- one of the members has
abbrev pub ItemsHave : (Data → ConfigFault → Type 0) → Items → ConfigFault → Type 0
ItemsHave Has no_items f = ⊥
ItemsHave Has (item d ds) f = Has d f ⊎ ItemsHave Has ds f

-- the value is no array, or a member of it has
abbrev pub ArrayHas : (Data → ConfigFault → Type 0) → Data → ConfigFault → Type 0
ArrayHas Has d f = MatchOption (as_array d) (IsWrongType f) (λ ds. ItemsHave Has ds f)

abbrev mutual
  -- the value of a kind has the fault
  pub KindHas : Kind → Data → ConfigFault → Type 0
  KindHas (number low high) d f = NumberHas low high d f
  KindHas address d f = TextHas Reads d f
  KindHas prefix d f = TextHas ReadsPrefix d f
  KindHas range d f = TextHas ReadsRange d f
  KindHas truth d f = TruthHas d f
  KindHas (table keys) d f = ItemHas (λ ms g. KeysHave (names_of (keys ms)) (keys ms) ms g) d f
  KindHas (array kind) d f = ArrayHas (λ e g. KindHas kind e g) d f

  -- one of the keys has it, or the table has a key that is not among the names
  pub KeysHave : List (List ℕ) → Keys → Members → ConfigFault → Type 0
  KeysHave names no_keys ms f = OtherHas names ms f
  KeysHave names (key name required kind keys) ms f =
      MatchOption (get_member name ms) (AbsentHas required f) (λ d. KindHas kind d f) ⊎ KeysHave names keys ms f

-- one key has it
abbrev pub KeyHas : List ℕ → Bool → Kind → Members → ConfigFault → Type 0
KeyHas name required kind ms f = MatchOption (get_member name ms) (AbsentHas required f) (λ d. KindHas kind d f)

-- the table, which may have these keys, has it
abbrev pub TableHas : (Members → Keys) → Members → ConfigFault → Type 0
TableHas keys ms f = KeysHave (names_of (keys ms)) (keys ms) ms f

-- memory ran out, or the refusal is of a key, and its fault is there
abbrev pub RefusesKey : (ConfigFault → Type 0) → ConfigFault → Type 0
RefusesKey Has (BadToml place) = ⊥
RefusesKey Has (Router refused named) = ⊥
RefusesKey Has (PortTwice path) = ⊥
RefusesKey Has (PeerTwice path) = ⊥
RefusesKey Has OutOfMemory = ⊤
RefusesKey Has fault = Has fault

-- one of the keys of such a link has it, or the table of an interface has a key that one of such a link has not
abbrev pub RefusesOf : Keys → Members → ConfigFault → Type 0
RefusesOf link ms f = RefusesKey (λ g. KeysHave (names_of (keys_with link)) link ms g) f

-- the same of the link that the table is of
abbrev pub LinkRefuses : Members → ConfigFault → Type 0
LinkRefuses ms f = RefusesOf (link_keys ms) ms f
