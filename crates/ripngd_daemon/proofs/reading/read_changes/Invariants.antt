use Rattle.std.proofs.Common.{◌≡◌, ◌++◌, ◌+◌, ◌≤◌, length, All}
use Rattle.ripngd_engine.specs.Log.{log_of}
use Rattle.ripngd_daemon.specs.Reading.{IsWritableChange}
use Rattle.ripngd_daemon.proofs.reading.read_changes.Given as goal

abbrev pub invariant-loop-line : goal.invariant-loop-line
invariant-loop-line l = record {
  spelled : l.text ≡ log_of l.changes.items ++ l.rest;
  lawful : All IsWritableChange l.changes.items;
  shorter : length l.changes.items + length l.rest ≤ length l.text;
}

abbrev pub decreases-loop-line : goal.decreases-loop-line
decreases-loop-line l = length l.rest
