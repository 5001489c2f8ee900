use Rattle.std.proofs.Common.{◌≡◌, length}
use Rattle.ripng_clock.specs.Ending.{AreAlarmsUpTo}
use Rattle.ripng_clock.proofs.due.alarms_of.Given as goal

abbrev pub invariant-loop-router : goal.invariant-loop-router
invariant-loop-router g l = record {
  as_many : length l.alarms ≡ length l.fn.running.network;
  set : AreAlarmsUpTo l.fn.span l.fn.running.world l.alarms l.router;
}
