-- Bytes that stand in others.
use Rattle.std.proofs.Common.{◌≡◌, ◌∙◌, ◌≤◌, ℕ, ◌+◌, ◌-◌, min, List, length, take, drop, [], Some, Result, Ok, Err, ap, refl, sym, subst, arith}
use Rattle.std.proofs.Math.Seq.{drop-length}
use Rattle.std.specs.Prelude.{IfOk}
use Rattle.std.proofs.lemmas.List.{take_min, length-take, length-drop, take-take, drop-take, drop-drop}
use Rattle.ripng_capture.specs.Found.{IsTail, StandsIn}
use Rattle.ripng_capture.specs.Reading.{GivesFrame, HasFrame, IsPartOf}
use Rattle.ripng_capture.specs.declared.damage.CaptureError.{CaptureError}
use Rattle.ripng_capture.specs.declared.damage.Damage.{Damage}
use Rattle.ripng_capture.specs.declared.frames.Part.{Part}
use Rattle.ripng_capture.specs.declared.frames.Part.TheVariants.{Frame as HasOne, Interface as Describes, Other}

-- any piece does
pub stands_take : (whole part : List ℕ) (k n : ℕ) → n ≤ length whole → part ≡ take k (drop n whole) → StandsIn whole part
stands_take whole part k n within is =
    let rest = drop n whole in
    let len : length part ≡ min k (length rest) = ap length is ∙ length-take k rest in
    (n, omega (arith, len, length-drop n whole, within), is ∙ sym (take_min k rest) ∙ ap (λ (m : ℕ). take m rest) (sym len))

-- a piece of a piece does
pub stands_through : (whole mid part : List ℕ) → StandsIn whole mid → StandsIn mid part → StandsIn whole part
stands_through whole mid part (n, mid_fits, mid_is) (m, part_fits, part_is) =
    let rest = drop n whole in
    let len = length mid in
    let both : len ≡ m + (len - m) = omega (arith, part_fits) in
    let cut : drop m mid ≡ take (len - m) (drop m rest) =
    ap (drop m) mid_is ∙ ap (λ (k : ℕ). drop m (take k rest)) both ∙ drop-take m (len - m) rest in
    let fits : length part ≤ len - m = omega (arith, part_fits) in (
      n + m,
      omega (arith, mid_fits, part_fits),
      part_is ∙ ap (take (length part)) cut ∙ take-take (length part) (len - m) (drop m rest) fits ∙ ap (take (length part)) (drop-drop m n whole),
    )

-- a part with a frame that stands in a piece
pub has_frame : (left bytes : List ℕ) (r : Result Part Damage) → StandsIn left bytes → IfOk r (IsPartOf bytes) → IfOk r (HasFrame left)
has_frame left bytes (Ok (HasOne f)) stands is = subst (StandsIn left) (sym is) stands
has_frame left bytes (Ok (Describes interface)) stands is = tt
has_frame left bytes (Ok Other) stands is = tt
has_frame left bytes (Err e) stands is = tt

-- a piece of the end of some bytes
pub stands_in_tail : (whole tail part : List ℕ) → IsTail whole tail → StandsIn tail part → StandsIn whole part
stands_in_tail whole tail part (n, within, tail_is) (m, part_fits, part_is) =
    let len : length tail ≡ length whole - n = ap length tail_is ∙ length-drop n whole in (
      n + m,
      omega (arith, part_fits, len, within),
      part_is ∙ ap (take (length part)) (ap (drop m) tail_is ∙ drop-drop m n whole),
    )

-- an end of an end
pub tail_through : (whole mid tail : List ℕ) → IsTail whole mid → IsTail mid tail → IsTail whole tail
tail_through whole mid tail (n, within, mid_is) (m, fits, tail_is) =
    let len : length mid ≡ length whole - n = ap length mid_is ∙ length-drop n whole in
    (n + m, omega (arith, fits, len, within), tail_is ∙ ap (drop m) mid_is ∙ drop-drop m n whole)

-- the same of what stands in a piece
pub has_frame_through : (whole mid : List ℕ) (r : Result Part Damage) → StandsIn whole mid → IfOk r (HasFrame mid) → IfOk r (HasFrame whole)
has_frame_through whole mid (Ok (HasOne f)) stands is = stands_through whole mid f.bytes.now stands is
has_frame_through whole mid (Ok (Describes interface)) stands is = tt
has_frame_through whole mid (Ok Other) stands is = tt
has_frame_through whole mid (Err e) stands is = tt

-- an error is given, and nothing is left
pub gives_error : (left : List ℕ) (e : CaptureError) → GivesFrame left (Some (Err e)) []
gives_error left e = record { frame = tt; ended = refl; rest = (length left, omega arith, sym (drop-length left)) }
