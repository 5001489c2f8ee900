use Rattle.std.proofs.Common.{◌+◌, ap, sym, subst, ◌∙◌, arith}
use Rattle.std.specs.Option.{option_copied}
use Rattle.ripng_phases.specs.Making.{IsLatest}
use Rattle.ripng_phases.proofs.Latest.{latest_next, latest_skip}
use Rattle.ripng_clock.proofs.running.latest.Goals as goal
use Rattle.ripng_clock.proofs.running.latest.Goals.{in-Some, in_default}

pub loop-router-preserved : goal.loop-router-preserved
loop-router-preserved g c =
    let states = c.args.running.now.world.states in
    let n = c.loop-router.router in
    let was = c.loop-router.latest in
    elim c.match-router.branch [
      | in-Some w ↦
          latest_next states n was c.loop-router.invariant w.in-Some.router.now c.match-router.latest (sym w.in-Some.ensures)
          (omega (arith, w.latest-is, w.max-latest.ensures, w.ms.ensures.value, w.last.ensures))
      | in_default w ↦
          subst (IsLatest states (n + 1)) (sym w.latest-is)
          (latest_skip states n was c.loop-router.invariant (sym c.router.ensures ∙ ap option_copied w.in_default.is))
    ]
