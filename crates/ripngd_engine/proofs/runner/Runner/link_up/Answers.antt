use Rattle.std.proofs.Common.{ap, refl, sym, ◌∙◌, length}
use Rattle.router_core.specs.Config.{Config}
use Rattle.ripngd_engine.proofs.Steps.{follows}
use Rattle.ripngd_engine.proofs.Changes.{Acts-link_up, Acts-unchanged}
use Rattle.ripngd_engine.proofs.runner.Runner.link_up.Goals as goal

pub invariant_of-self : goal.invariant_of-self
invariant_of-self g c = record {
  same_interfaces = c.carry_out.ensures.same ∙ c.args.self.now.same_interfaces ∙ sym (ap (λ (k : Config). length k.interfaces) c.link_up.ensures.config);
  fib_follows = λ on. follows _ _ _ _ _ _ c.carry_out.ensures.carries _ _ (c.args.self.now.fib_follows c.requires) c.in-Ok.ensures.replays on;
}

pub returns-in-Ok-carry_out : goal.returns-in-Ok-carry_out
returns-in-Ok-carry_out g c = (
  c.in-Ok-carry_out.ensures.ended,
  Acts-link_up _ _ _ _ _ _ _ _ c.now-now.ensures.gained _ _ _ _ c.in-Ok.answer c.args.iface c.in-Ok.ensures.moves c.carry_out.ensures.carries,
)

pub returns-in-Err-carry_out : goal.returns-in-Err-carry_out
returns-in-Err-carry_out g c = (
  c.in-Err-carry_out.ensures.ended,
  Acts-link_up _ _ _ _ _ _ _ _ c.now-now.ensures.gained _ _ _ _ c.in-Ok.answer c.args.iface c.in-Ok.ensures.moves c.carry_out.ensures.carries,
)

pub returns-in-Err : goal.returns-in-Err
returns-in-Err g c = (
  c.requires,
  refl,
  Acts-unchanged _ _ _ _ _ _ _ c.now-now.result c.now-now.ensures.gained c.in-Err.ensures.err,
)
