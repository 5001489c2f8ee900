use Rattle.std.proofs.Common.{inl, inr, refl}
use Rattle.ripngd_engine.specs.Seen.{seen}
use Rattle.ripngd_daemon.specs.Run.{words_of}
use Rattle.ripngd_daemon.proofs.turns.pass.Goals as goal

pub returns-in-true-clause-does : goal.returns-in-true-clause-does
returns-in-true-clause-does g c = (
  seen words_of g.W.Write.contents c.turn.new.engine c.turn.new.log,
  c.turn.new.between.asking,
  c.in_ok-state.ensures.does,
  inr ((rw c.in-Running.is at c.in_ok-state.ensures.goes_on) (λ e. cc e), c.ask_if_due.ensures.asks),
)

pub returns-in-false-clause-does : goal.returns-in-false-clause-does
returns-in-false-clause-does g c = (
  seen words_of g.W.Write.contents c.turn.new.engine c.turn.new.log,
  c.turn.new.between.asking,
  c.in_ok-state.ensures.does,
  inr ((rw c.in-Running.is at c.in_ok-state.ensures.goes_on) (λ e. cc e), c.ask_if_due.ensures.asks),
)

pub returns-in-Stopped-clause-does : goal.returns-in-Stopped-clause-does
returns-in-Stopped-clause-does g c =
    (seen words_of g.W.Write.contents c.turn.new.engine c.turn.new.log, c.turn.new.between.asking, c.in_ok-state.ensures.does, inl (refl, refl))

pub returns-in-Ended-clause-does : goal.returns-in-Ended-clause-does
returns-in-Ended-clause-does g c =
    (seen words_of g.W.Write.contents c.turn.new.engine c.turn.new.log, c.turn.new.between.asking, c.in_ok-state.ensures.does, inl (refl, refl))
