use Rattle.std.proofs.Common.{◌≤◌, ◌+◌, length}
use Rattle.ripng_lab.proofs.horizon.bytes_by.Given as goal

-- no more entries are told than there are in a datagram, at most 3,276
abbrev pub invariant-loop-entry : goal.invariant-loop-entry
invariant-loop-entry g l = length l.entries.items + length l.entry-iterator ≤ 3276
