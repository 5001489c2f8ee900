use Rattle.std.proofs.Common.{ap, sym, ◌∙◌, length}
use Rattle.ripngd_engine.proofs.Steps.{follows, Started-carried}
use Rattle.ripngd_engine.proofs.engine.Engine.start.Goals as goal

pub invariant_of-runner : goal.invariant_of-runner
invariant_of-runner g c = record {
  same_interfaces = c.carry_out.ensures.same ∙ c.requires ∙ ap (λ s. length s.config.interfaces) (sym c.in_ok-router.ensures.starts.state);
  fib_follows = λ on. follows _ _ _ _ _ _ c.carry_out.ensures.carries _ _ c.new.ensures c.in_ok-router.ensures.replays on;
}

pub returns-clause-ok : goal.returns-clause-ok
returns-clause-ok g c =
    Started-carried _ _ _ _ _ _ _ _ _ c.now-now.result _ _ _ c.now-now.ensures.gained c.in_ok-router.ensures.starts
    (rw c.new.ensures at c.carry_out.ensures.carries) c.in_ok-carry_out.ensures.ended
