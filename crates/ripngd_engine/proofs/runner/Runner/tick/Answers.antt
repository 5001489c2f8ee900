use Rattle.std.proofs.Common.{refl, ap, sym, ◌∙◌, length}
use Rattle.router_core.specs.Machine.{Ticks}
use Rattle.ripngd_engine.proofs.Steps.{follows, Acts-moved, Acts-lost, Acts-ticks}
use Rattle.ripngd_engine.proofs.runner.Runner.tick.Goals as goal

pub invariant_of-self : goal.invariant_of-self
invariant_of-self g c = record {
  same_interfaces = c.carry_out.ensures.same ∙ c.args.self.now.same_interfaces ∙ ap (λ config. length config.interfaces) (sym c.in-Ok.ensures.config);
  fib_follows = λ on. follows _ _ _ _ _ _ c.carry_out.ensures.carries _ _ (c.args.self.now.fib_follows c.requires) c.in-Ok.ensures.replays on;
}

pub returns-in-Ok-clause-acts : goal.returns-in-Ok-clause-acts
returns-in-Ok-clause-acts g c =
    let now = c.now-now.result in
    let word = c.next_u32-word.result in
    Acts-ticks _ _ _ _ _ now word _ c.next_u32-word.ensures
    (Acts-moved _ _ _ _ _ _ _ _ now (Ticks now word) c.now-now.ensures.gained
    _ _ _ _ c.in-Ok.answer _ c.in-Ok.ensures.moves
    (rw (c.is_regular_due-is_regular.ensures, c.as_slice.ensures) at c.tell_of_update.ensures) c.carry_out.ensures.carries)

pub returns-in-Err-clause-acts : goal.returns-in-Err-clause-acts
returns-in-Err-clause-acts g c =
    let now = c.now-now.result in
    let word = c.next_u32-word.result in
    Acts-ticks _ _ _ _ _ now word _ c.next_u32-word.ensures
    (Acts-lost _ _ _ _ _ _ _ _ now (Ticks now word) c.now-now.ensures.gained
    _ _ _ c.in-Err.ensures.err c.one_more-self.ensures)
