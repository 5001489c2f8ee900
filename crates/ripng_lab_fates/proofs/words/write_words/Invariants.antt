use Rattle.std.proofs.Common.{take}
use Rattle.std.specs.Prelude.{flat_map}
use Rattle.std.specs.Io.KnownBytes.{Appends}
use Rattle.std.specs.List.{enumerate_from}
use Rattle.ripng_lab_fates.specs.Text.{word_of}
use Rattle.ripng_lab_fates.proofs.words.write_words.Given as goal

-- what is written is the words so far
abbrev pub invariant-loop-router : goal.invariant-loop-router
invariant-loop-router g l =
    Appends (g.W.Write.contents l.fn.out) (g.W.Write.contents l.out) (flat_map (word_of l.steps l.changes) (take l.router (enumerate_from 0 l.steps)))
