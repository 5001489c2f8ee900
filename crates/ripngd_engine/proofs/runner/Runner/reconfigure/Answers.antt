use Rattle.std.proofs.Common.{sym, ◌∙◌}
use Rattle.ripngd_engine.proofs.Steps.{follows}
use Rattle.ripngd_engine.proofs.Changes.{Acts-changed, Acts-unchanged}
use Rattle.ripngd_engine.proofs.runner.Runner.reconfigure.Goals as goal

pub invariant_of-self : goal.invariant_of-self
invariant_of-self g c = record {
  same_interfaces = c.carry_out.ensures.same ∙ c.args.self.now.same_interfaces ∙ sym c.reconfigure.ensures.interfaces;
  fib_follows = λ on. follows _ _ _ _ _ _ c.carry_out.ensures.carries _ _ (c.args.self.now.fib_follows c.requires.ended) c.in-Ok.ensures.replays on;
}

pub returns-in-Ok-carry_out : goal.returns-in-Ok-carry_out
returns-in-Ok-carry_out g c = (
  c.in-Ok-carry_out.ensures.ended,
  Acts-changed _ _ _ _ _ _ _ _ c.now-now.ensures.gained _ _ _ _ c.in-Ok.answer c.args.change c.in-Ok.ensures.moves c.carry_out.ensures.carries,
)

pub returns-in-Err-carry_out : goal.returns-in-Err-carry_out
returns-in-Err-carry_out g c = (
  c.in-Err-carry_out.ensures.ended,
  Acts-changed _ _ _ _ _ _ _ _ c.now-now.ensures.gained _ _ _ _ c.in-Ok.answer c.args.change c.in-Ok.ensures.moves c.carry_out.ensures.carries,
)

pub returns-in-Err : goal.returns-in-Err
returns-in-Err g c = (
  c.requires.ended,
  c.in-Err.ensures.refused,
  Acts-unchanged _ _ _ _ _ _ _ c.now-now.result c.now-now.ensures.gained c.in-Err.ensures.err,
)
