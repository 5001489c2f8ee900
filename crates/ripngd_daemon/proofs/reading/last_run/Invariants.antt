use Rattle.std.proofs.Common.{◌+◌, ◌≤◌, length}
use Rattle.ripngd_daemon.specs.LastRun.{HasPassed}
use Rattle.ripngd_daemon.proofs.reading.last_run.Given as goal

abbrev pub invariant-loop-line : goal.invariant-loop-line
invariant-loop-line l = record {
  has_passed : HasPassed l.text l.run l.rest l.skipped l.passed;
  behind : l.skipped + length l.run ≤ length l.text;
  within : l.passed + length l.rest ≤ length l.text;
}

abbrev pub decreases-loop-line : goal.decreases-loop-line
decreases-loop-line l = length l.rest
