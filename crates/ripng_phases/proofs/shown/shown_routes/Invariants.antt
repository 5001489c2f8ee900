use Rattle.std.proofs.Common.{◌≡◌}
use Rattle.ripng_phases.specs.Changing.{shown_below}
use Rattle.ripng_phases.proofs.shown.shown_routes.Given as goal

abbrev pub invariant-loop-number : goal.invariant-loop-number
invariant-loop-number g l = l.shown.items ≡ shown_below l.lab.world.states l.number
