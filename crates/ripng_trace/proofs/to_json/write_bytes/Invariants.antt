use Rattle.std.proofs.Common.{◌<◌, length, take}
use Rattle.std.specs.Io.KnownBytes.{Appends}
use Rattle.ripng_trace.proofs.to_json.write_bytes.Given as goal

abbrev pub invariant-loop : goal.invariant-loop
invariant-loop g l = record {
  within : l.written < length l.bytes;
  appends : Appends (g.W.Write.contents l.fn.out) (g.W.Write.contents l.out) (take l.written l.bytes);
}
