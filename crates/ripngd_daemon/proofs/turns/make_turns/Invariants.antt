use Rattle.std.proofs.Common.{◌≡◌, false}
use Rattle.std.specs.Prelude.{None}
use Rattle.ripngd_engine.specs.Seen.{seen}
use Rattle.ripngd_daemon.specs.Run.{lines_of, words_of}
use Rattle.ripngd_daemon.proofs.Courses.{HasMinded}
use Rattle.ripngd_daemon.proofs.turns.make_turns.Given as goal

-- the turns so far were made, with what was told and asked between them
abbrev pub invariant-loop-done : goal.invariant-loop-done
invariant-loop-done g l = record {
  going : l.engine.ended ≡ false;
  alone : l.fn.clients ≡ None → l.clients ≡ None;
  minded : HasMinded l.fn.order.seconds l.done (lines_of l.clients) l.between.asking
      (seen words_of g.W.Write.contents l.fn.engine l.fn.log) (seen words_of g.W.Write.contents l.engine l.log);
}
