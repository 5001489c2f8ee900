use Rattle.std.proofs.Common.{◌+◌, arith, refl}
use Rattle.ripngd_daemon.proofs.Courses.{asks_more}
use Rattle.ripngd_daemon.proofs.questions.ask_all.Goals as goal

pub loop-iface-preserved : goal.loop-iface-preserved
loop-iface-preserved g c = record {
  going = c.if-not-ask_on.ensures.goes_on refl;
  asks = asks_more c.loop-iface.iface _ _ _ c.loop-iface.invariant.asks c.loop-iface.invariant.going c.ask_on.ensures.asks;
}

pub returns-then-not-ask_on-clause-asks : goal.returns-then-not-ask_on-clause-asks
returns-then-not-ask_on-clause-asks g c =
    let below = rw (c.interfaces-iface-end.ensures.value, c.config.ensures, c.router.ensures) at c.loop-iface-test.true in
    record {
      going = c.requires.going;
      told = c.requires.told;
      count = c.loop-iface.iface + 1;
      within = omega (arith, below);
      asks = asks_more c.loop-iface.iface _ _ _ c.loop-iface.invariant.asks c.loop-iface.invariant.going c.ask_on.ensures.asks;
    }
