-- A spelling passes each test, and bytes that pass each test are a spelling.
use Rattle.std.proofs.Common.{◌≡◌, ℕ, ◌+◌, ◌*◌, ◌-◌, ◌/◌, ◌%◌, ◌^◌, ◌<◌, ◌≤◌, ◌==◌, ◌||◌, ◌&&◌, not, Bool, true, false, List, [], ◌∷◌, length, get_or, take, drop, refl, sym, ap, ◌∙◌, arith, None, ◌⊎◌, inl, inr}
use Rattle.std.specs.List.{All}
use Rattle.std.proofs.lemmas.List.{length-drop, take_all, get_or_past}
use Rattle.std.proofs.lemmas.List.Elements.{All-get_or, All-from_recursion, recursion_from_All}
use Rattle.std.proofs.lemmas.Bool.{cases_lt, ltb-false, le-ltb, eqb-true, eq-eqb}
use Rattle.ripng_wire.specs.declared.rte.Command.{Command}
use Rattle.ripng_wire.specs.declared.rte.Command.TheVariants.{Request, Response}
use Rattle.ripng_wire.specs.declared.rte.Rte.{Rte}
use Rattle.ripng_wire.specs.Layout.{version}
use Rattle.ripng_wire.specs.Layout.{Fits, Spells, command_byte, most_entries}
use Rattle.ripng_wire.specs.Reading.{entries_of, first_entries}
use Rattle.ripng_wire.specs.Wire.{wire_reasons, wire_fault}
use Rattle.ripng_wire.proofs.Numbers.{IsBytes, IsBytes-drop}
use Rattle.ripng_wire.proofs.Entries.{first_whole, first_fit, length-first, length_entries, entries_again}
use Rattle.ripng_wire.proofs.FirstReason.{EachPasses, each_passes, none_fails}

-- a test whose negation is false passes
not_false : (b : Bool) → not b ≡ false → b ≡ true
not_false true e = refl
not_false false e = absurd cc

-- both of two tests hold where both together do
both : (a b : Bool) → (a && b) ≡ true → (a ≡ true) × (b ≡ true)
both true b e = (refl, e)
both false b e = absurd cc

-- one of two tests holds where one or the other does
either : (a b : Bool) → (a || b) ≡ true → (a ≡ true) ⊎ (b ≡ true)
either true b e = inl refl
either false b e = inr e

-- ---- a spelling passes each test

-- a spelling has the bytes of its header and of its entries
spelling_length : (command : Command) (entries : List Rte) (bytes : List ℕ) → Spells command entries bytes → length bytes ≡ 4 + 20 * length entries
spelling_length command entries bytes s = ap length s.bytes_are ∙ omega (arith, length_entries entries)

-- the byte of a command is one of the two
header_passes : (command : Command) → not (command_byte command == 1 || command_byte command == 2) ≡ false
header_passes Request = refl
header_passes Response = refl

-- each test of the bytes of a spelling passes
pub spelling_passes : (command : Command) (entries : List Rte) (bytes : List ℕ) → Spells command entries bytes → EachPasses (wire_reasons bytes)
spelling_passes command entries bytes s =
    let len = spelling_length command entries bytes s in
    let at = λ (i : ℕ). ap (λ (x : List ℕ). get_or x i 0) s.bytes_are in (
      le-ltb _ _ (omega arith),
      (
        le-ltb _ _ (omega (arith, s.few)),
        (
          ap not (eq-eqb _ _ (omega arith)),
          (
            ap (λ (b : ℕ). not (b == 1 || b == 2)) (at 0) ∙ header_passes command,
            (ap (λ (b : ℕ). not (b == version)) (at 1), (rw (at 2, at 3) refl, tt)),
          ),
        ),
      ),
    )

-- bytes that spell a datagram have no fault
pub spelling_has_no_fault : (command : Command) (entries : List Rte) (bytes : List ℕ) → Spells command entries bytes → wire_fault bytes ≡ None
spelling_has_no_fault command entries bytes s = none_fails (wire_reasons bytes) (spelling_passes command entries bytes s)

-- ---- bytes that pass each test are a spelling

-- bytes from their first four
four_and_rest : (bytes : List ℕ) (a : ℕ) → 4 ≤ length bytes → get_or bytes 0 0 ≡ a → get_or bytes 1 0 ≡ version → get_or bytes 2 0 ≡ 0 → get_or bytes 3 0 ≡ 0 → bytes ≡ a ∷ version ∷ 0 ∷ 0 ∷ drop 4 bytes
four_and_rest [] a le h0 h1 h2 h3 = absurd (omega arith)
four_and_rest (x ∷ []) a le h0 h1 h2 h3 = absurd (omega arith)
four_and_rest (x ∷ y ∷ []) a le h0 h1 h2 h3 = absurd (omega arith)
four_and_rest (x ∷ y ∷ z ∷ []) a le h0 h1 h2 h3 = absurd (omega arith)
four_and_rest (x ∷ y ∷ z ∷ w ∷ rest) a le h0 h1 h2 h3 = cc (h0, h1, h2, h3)

-- bytes without a fault spell the entries behind the header
pub is_spelling : (command : Command) (bytes : List ℕ) → IsBytes bytes → wire_fault bytes ≡ None → get_or bytes 0 0 ≡ command_byte command → Spells command (entries_of (drop 4 bytes)) bytes
is_spelling command bytes fits none code =
    let passes = each_passes (wire_reasons bytes) none in
    let low : 4 ≤ length bytes = ltb-false _ _ passes.0 in
    let high : length bytes ≤ 4 + 20 * most_entries = ltb-false _ _ passes.1.0 in
    let whole : (length bytes - 4) % 20 ≡ 0 = eqb-true _ _ (not_false _ passes.1.1.0) in
    let first : get_or bytes 1 0 ≡ version = eqb-true _ _ (not_false _ passes.1.1.1.1.0) in
    let zeros : ((get_or bytes 2 0 == 0) ≡ true) × ((get_or bytes 3 0 == 0) ≡ true) = both _ _ (not_false _ passes.1.1.1.1.1.0) in
    let body = drop 4 bytes in
    let n = length body / 20 in
    let exact : length body ≡ 20 * n = omega (arith, length-drop 4 bytes) in
    let fits_body = IsBytes-drop 4 bytes fits in
    record {
      bytes_are = four_and_rest bytes (command_byte command) low code first (eqb-true _ _ zeros.0) (eqb-true _ _ zeros.1)
          ∙ ap (λ (x : List ℕ). command_byte command ∷ version ∷ 0 ∷ 0 ∷ x) (sym (first_whole n body exact fits_body));
      few = omega (arith, length-first n body, length-drop 4 bytes);
      fit = All-from_recursion Fits (first_entries n body) (first_fit n body fits_body);
    }

-- the first byte of bytes without a fault is that of a command
command_of : (bytes : List ℕ) → wire_fault bytes ≡ None → (command : Command) × (get_or bytes 0 0 ≡ command_byte command)
command_of bytes none =
    let passes = each_passes (wire_reasons bytes) none in
    elim (either _ _ (not_false _ passes.1.1.1.0)) [
      | inl request ↦ (Request, eqb-true _ _ request)
      | inr response ↦ (Response, eqb-true _ _ response)
    ]

-- a list of bytes gives a byte, or 0, at each place
all_bytes : (bytes : List ℕ) → All (λ b. b < 2 ^ 8) bytes → IsBytes bytes
all_bytes bytes all i =
    elim (cases_lt i (length bytes)) [
      | inl lt ↦ All-get_or (λ b. b < 2 ^ 8) bytes i 0 lt all
      | inr le ↦ rw (get_or_past bytes i 0 le) (omega arith)
    ]

-- bytes without a fault spell some datagram
pub faultless_spells : (bytes : List ℕ) → All (λ b. b < 2 ^ 8) bytes → wire_fault bytes ≡ None → (command : Command) × ((entries : List Rte) × Spells command entries bytes)
faultless_spells bytes all none =
    let found = command_of bytes none in
    (found.0, (entries_of (drop 4 bytes), is_spelling found.0 bytes (all_bytes bytes all) none found.1))

-- ---- what a spelling is read as

-- the entries of a spelling are those behind its header
pub spelling_entries : (command : Command) (entries : List Rte) (bytes : List ℕ) → Spells command entries bytes → entries_of (drop 4 bytes) ≡ entries
spelling_entries command entries bytes s =
    ap (λ (x : List ℕ). entries_of (drop 4 x)) s.bytes_are ∙ entries_again entries (recursion_from_All Fits entries s.fit)

-- commands are known from their bytes
same_command : (a b : Command) → command_byte a ≡ command_byte b → a ≡ b
same_command Request Request e = refl
same_command Request Response e = absurd (omega arith)
same_command Response Request e = absurd (omega arith)
same_command Response Response e = refl

-- the command of a spelling is that of its first byte
pub spelling_command : (command found : Command) (entries : List Rte) (bytes : List ℕ) → Spells command entries bytes → get_or bytes 0 0 ≡ command_byte found → found ≡ command
spelling_command command found entries bytes s e =
    same_command found command (sym e ∙ ap (λ (x : List ℕ). get_or x 0 0) s.bytes_are)

-- the rest of the bytes, as the code takes it
pub body_is : (bytes : List ℕ) → take (length bytes - 4) (drop 4 bytes) ≡ drop 4 bytes
body_is bytes = take_all (length bytes - 4) (drop 4 bytes) (omega (arith, length-drop 4 bytes))
