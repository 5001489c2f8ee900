use Rattle.std.proofs.Common.{◌≡◌, ◌≤◌, ◌-◌, ◌++◌, ℕ, Some, length, slice_get, take}
use Rattle.ripng_trace.specs.Reading.{known_of}
use Rattle.ripng_trace.specs.Starting.{TellsRouter}
use Rattle.ripng_trace.specs.declared.records.RouterRecord.{RouterRecord}
use Rattle.ripng_trace.proofs.known.Known.start_record.Given as goal

abbrev pub invariant-loop-router : goal.invariant-loop-router
invariant-loop-router l = record {
  known : l.self.routers.items ≡ l.fn.self.routers.items ++ take (length l.routers.items) (known_of l.lab.world);
  line : l.self.line ≡ l.fn.self.line;
  few : length l.routers.items ≤ length l.lab.world.states;
  each : (k : ℕ) (r : RouterRecord) → slice_get l.routers.items k ≡ Some r → TellsRouter l.lab k r;
}

abbrev pub decreases-loop-router : goal.decreases-loop-router
decreases-loop-router l = length l.lab.world.states - length l.routers.items
