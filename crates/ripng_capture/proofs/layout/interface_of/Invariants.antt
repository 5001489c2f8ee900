use Rattle.std.proofs.Common.{◌<◌, IfSome}
use Rattle.ripng_capture.proofs.layout.interface_of.Given as goal

-- a second has units
abbrev pub invariant-loop-code : goal.invariant-loop-code
invariant-loop-code l = IfSome l.units (λ units. 0 < units)
