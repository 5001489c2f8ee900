use Rattle.std.proofs.Common.{◌+◌, arith, refl}
use Rattle.ripng_lab.proofs.Healed.{one_more}
use Rattle.ripng_lab.proofs.healing.first_unhealed.Goals as goal

pub loop-router-init : goal.loop-router-init
loop-router-init c = λ router below. absurd (omega (arith, below))

pub loop-router-preserved : goal.loop-router-preserved
loop-router-preserved c =
    one_more c.args.outages.now c.args.lab.now c.loop-router.router (c.loop-router.router + 1) refl c.loop-router.invariant (c.in_ok-prefix.ensures.none c.in_default.is)

pub returns-clause-none : goal.returns-clause-none
returns-clause-none c = λ is router below. c.loop-router.invariant router (omega (arith, below, c.loop-router-test.false, c.routers-router-end.ensures))
