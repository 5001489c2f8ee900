use Rattle.std.proofs.Common.{◌≡◌, false}
use Rattle.ripngd_engine.specs.Seen.{seen}
use Rattle.ripngd_daemon.specs.Questions.{AsksOnFirst}
use Rattle.ripngd_daemon.specs.Run.{words_of}
use Rattle.ripngd_daemon.proofs.questions.ask_all.Given as goal

-- it has asked on the links before this one
abbrev pub invariant-loop-iface : goal.invariant-loop-iface
invariant-loop-iface g l = record {
  going : l.engine.ended ≡ false;
  asks : AsksOnFirst l.iface (seen words_of g.W.Write.contents l.fn.engine l.fn.log) (seen words_of g.W.Write.contents l.engine l.log);
}
