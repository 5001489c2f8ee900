-- Which bytes are refused as a datagram (RFC 2080, 2.1). The order, numbers and names of the reasons are this project's choice.
use Rattle.std.specs.Prelude.{ℕ, ◌+◌, ◌-◌, ◌*◌, ◌%◌, ◌==◌, ◌&&◌, ◌||◌, not, nat_lt, Bool, if◌then◌else◌, List, [], ◌∷◌, ◌++◌, length, slice_index, codes, decimal, Option, Some, None}
use Rattle.ripng_wire.specs.declared.error.WireError.{WireError}
use Rattle.ripng_wire.specs.declared.error.WireError.TheVariants.{Short, TooLong, Ragged, BadCommand, BadVersion, NotZero}
use Rattle.ripng_wire.specs.Layout.{most_entries, version}

-- the first reason that applies, of reasons in their order
abbrev pub first_reason : {F : Type 0} → List (Bool × F) → Option F
first_reason [] = None
first_reason (reason ∷ reasons) = if reason.0 then Some reason.1 else first_reason reasons

-- the reasons to refuse the bytes, each with whether it applies (RFC 2080, 2.1)
abbrev pub wire_reasons : List ℕ → List (Bool × WireError)
wire_reasons bytes =
    (nat_lt (length bytes) 4, Short)
    ∷ (nat_lt (4 + 20 * most_entries) (length bytes), TooLong)
    ∷ (not ((length bytes - 4) % 20 == 0), Ragged)
    ∷ (not (slice_index bytes 0 == 1 || slice_index bytes 0 == 2), BadCommand)
    ∷ (not (slice_index bytes 1 == version), BadVersion)
    ∷ (not (slice_index bytes 2 == 0 && slice_index bytes 3 == 0), NotZero)
    ∷ []

-- why the bytes are refused, if they are
abbrev pub wire_fault : List ℕ → Option WireError
wire_fault bytes = first_reason (wire_reasons bytes)

-- the command is that of a Response; the only other one is that of a Request (RFC 2080, 2.1)
abbrev pub is_response : List ℕ → Bool
is_response bytes = slice_index bytes 0 == 2

-- the number of a refusal, as it is printed
abbrev pub wire_error_number : WireError → ℕ
wire_error_number Short = 1
wire_error_number TooLong = 2
wire_error_number Ragged = 3
wire_error_number BadCommand = 4
wire_error_number BadVersion = 5
wire_error_number NotZero = 6

-- the name of a refusal, as the variant is spelled
abbrev pub wire_error_name : WireError → List ℕ
wire_error_name Short = codes "Short"
wire_error_name TooLong = codes "TooLong"
wire_error_name Ragged = codes "Ragged"
wire_error_name BadCommand = codes "BadCommand"
wire_error_name BadVersion = codes "BadVersion"
wire_error_name NotZero = codes "NotZero"

-- a refusal as it is printed: `NUMBER NAME`
abbrev pub wire_error_text : WireError → List ℕ
wire_error_text e = decimal (wire_error_number e) ++ (codes " " ++ wire_error_name e)
