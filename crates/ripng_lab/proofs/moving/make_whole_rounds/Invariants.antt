use Rattle.std.proofs.Common.{◌≡◌, All, length}
use Rattle.ripng_lab.proofs.moving.make_whole_rounds.Given as goal

abbrev pub invariant-loop-now : goal.invariant-loop-now
invariant-loop-now g l = All (λ t. length t.1.items ≡ l.routers) l.ticks.items
