use Rattle.std.proofs.Common.{◌≡◌}
use Rattle.ripng_lab.proofs.line.Line.follow.Given as goal

abbrev pub invariant-loop-part : goal.invariant-loop-part
invariant-loop-part l = l.self.verb ≡ l.fn.self.verb
