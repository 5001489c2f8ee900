use Rattle.std.proofs.Common.{◌≡◌}
use Rattle.ripng_lab.proofs.line.Line.take_places.Given as goal

abbrev pub invariant-loop-word : goal.invariant-loop-word
invariant-loop-word l = l.self.verb ≡ l.fn.self.verb
