-- Numbers as files of captures have them.
use Rattle.std.specs.Prelude.{ℕ, Bool, if◌then◌else◌, List, [], ◌∷◌, Option, Some, None}
use Rattle.byteorder.specs.Endian.{big_number, little_number}
use Rattle.ripng_capture.specs.declared.number.Endianness.{Endianness}
use Rattle.ripng_capture.specs.declared.number.Endianness.TheVariants.{Big, Little}

-- the number in the first n bytes
abbrev pub number_in : Endianness → ℕ → List ℕ → ℕ
number_in Big n bytes = big_number n bytes
number_in Little n bytes = little_number n bytes

-- the first reason that applies, of reasons in their order
abbrev pub first_reason : {F : Type 0} → List (Bool × F) → Option F
first_reason [] = None
first_reason (reason ∷ reasons) = if reason.0 then Some reason.1 else first_reason reasons
