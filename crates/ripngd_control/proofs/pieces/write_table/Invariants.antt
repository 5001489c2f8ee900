use Rattle.ripngd_control.proofs.Following.{EntriesShown}
use Rattle.ripngd_control.proofs.pieces.write_table.Given as goal

-- what is written so far is of the entries that are behind
abbrev pub invariant-loop-done : goal.invariant-loop-done
invariant-loop-done g l = EntriesShown l.initial.entries l.entries l._done l.last (g.W.Write.contents l.fn.out) (g.W.Write.contents l.out)
