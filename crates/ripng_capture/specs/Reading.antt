-- What a reader of a capture gives of the bytes that are left, call by call.
use Rattle.std.specs.Prelude.{◌≡◌, ⊤, ℕ, List, [], Option, Some, IfOk, IfSome, OnErr, Result}
use Rattle.ripng_capture.specs.Found.{IsTail, StandsIn}
use Rattle.ripng_capture.specs.Layout.{beginning_fault}
use Rattle.ripng_capture.specs.declared.damage.CaptureError.{CaptureError}
use Rattle.ripng_capture.specs.declared.damage.CaptureError.TheVariants.{Damaged}
use Rattle.ripng_capture.specs.declared.damage.Damage.{Damage}
use Rattle.ripng_capture.specs.declared.frames.Frame.{Frame}
use Rattle.ripng_capture.specs.declared.frames.Part.{Part}
use Rattle.ripng_capture.specs.declared.frames.Part.TheVariants.{Frame as HasOne, Interface as Describes, Other}

-- a call gives a frame that stands in what was left, or an error, behind which nothing is left; and it leaves the end of what was left
pub record GivesFrame (left : List ℕ) (item : Option (Result Frame CaptureError)) (left' : List ℕ) : Type 0 where
  pub frame : IfSome item (λ r. IfOk r (λ f. StandsIn left f.bytes.now))
  pub ended : IfSome item (λ r. OnErr r (left' ≡ []))
  pub rest : IsTail left left'

-- the file is refused at its beginning, for this reason
abbrev pub IsRefused : List ℕ → CaptureError → Type 0
IsRefused file e = (damage : Damage) × (e ≡ Damaged 0 damage) × (beginning_fault file ≡ Some damage)

-- a part with a frame has these bytes
abbrev pub IsPartOf : List ℕ → Part → Type 0
IsPartOf bytes (HasOne f) = f.bytes.now ≡ bytes
IsPartOf bytes (Describes interface) = ⊤
IsPartOf bytes Other = ⊤

-- a part with a frame has one that stands in what was left
abbrev pub HasFrame : List ℕ → Part → Type 0
HasFrame left (HasOne f) = StandsIn left f.bytes.now
HasFrame left (Describes interface) = ⊤
HasFrame left Other = ⊤
