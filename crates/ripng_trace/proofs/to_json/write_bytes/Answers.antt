use Rattle.std.proofs.Common.{◌<◌, ℕ, length, sym, subst, take}
use Rattle.std.specs.Io.KnownBytes.{Appends}
use Rattle.std.proofs.KnownBytes.{Appends-kept}
use Rattle.ripng_trace.proofs.Lines.{few_more, more_written}
use Rattle.ripng_trace.proofs.to_json.write_bytes.Goals.{in-Ok, in-Err}
use Rattle.ripng_trace.proofs.to_json.write_bytes.Goals as goal

pub loop-preserved : goal.loop-preserved
loop-preserved g c =
    elim c.match-write.branch [
      | in-Ok w ↦ record {
        within = few_more c.args.bytes.now c.loop.written w.in-Ok.count c.match-write.written c.loop.invariant.within w.written-is w.in-Ok.ensures.bound c.if-written-bytes.false;
        appends = more_written c.args.bytes.now c.loop.written w.in-Ok.count c.match-write.written c.loop.invariant.within w.written-is _ _ _ c.loop.invariant.appends w.in-Ok.ensures.bytes;
      }
      | in-Err w ↦ record {
        within = subst (λ (n : ℕ). n < length c.args.bytes.now) (sym w.written-is) c.loop.invariant.within;
        appends = subst (λ (n : ℕ). Appends (g.W.Write.contents c.args.out.now) (g.W.Write.contents c.write.new.self) (take n c.args.bytes.now)) (sym w.written-is)
            (Appends-kept _ _ _ _ c.loop.invariant.appends w.in-Err.ensures.bytes);
      }
    ]
