use Rattle.std.proofs.Common.{◌≡◌, None, drop}
use Rattle.std.specs.FinMap as map_of
use Rattle.std.specs.FinMap.{find}
use Rattle.prefix6.specs.Prefix.{Prefix6, prefix_cmp}
use Rattle.ripng_trace.specs.Records.{taken_out}
use Rattle.ripng_trace.proofs.known.forget_gone.Given as goal

abbrev pub invariant-loop-entry : goal.invariant-loop-entry
invariant-loop-entry l = record {
  listed : l.known ≡ taken_out l.fn.known l.gone.items;
  gone : (p : Prefix6) → map_of.get l.table p ≡ None
      → find prefix_cmp p (drop l.entry-index (map_of.entries l.fn.known)) ≡ None → map_of.get l.known p ≡ None;
}
