use Rattle.std.proofs.Common.{arith, sym}
use Rattle.ripngd_control.proofs.Following.{Shown-more, shows_more}
use Rattle.ripngd_control.proofs.pieces.write_routes.Goals as goal

pub loop-done-preserved : goal.loop-done-preserved
loop-done-preserved g c =
    Shown-more _ _ _ _ _ _ _ _ _ _ c.loop-done.invariant (sym c.in-Some.ensures) c.in_ok-writeln.ensures.bytes

pub returns : goal.returns
returns g c =
    let past = c.loop-done-test.false in
    let within = c.loop-done.auto._done-end in
    shows_more _ _ _ _ _ _ _ c.loop-done.invariant (omega (arith, past, within))
