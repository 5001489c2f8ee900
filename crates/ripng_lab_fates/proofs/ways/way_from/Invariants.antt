use Rattle.std.proofs.Common.{◌≡◌, [], drop}
use Rattle.ripng_lab_fates.specs.Ways.{way_by}
use Rattle.ripng_lab_fates.proofs.ways.way_from.Given as goal

-- what becomes of packets from here on, that have passed those routers, is what becomes of them from the first
abbrev pub invariant-loop-step : goal.invariant-loop-step
invariant-loop-step l =
    way_by (drop l._step-index l.steps) l.steps l.changes l.passed.items l.at ≡ way_by l.steps l.steps l.changes [] l.fn.router
