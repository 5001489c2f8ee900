use Rattle.std.proofs.Common.{refl, ap, sym, ◌∙◌, length}
use Rattle.router_core.specs.Machine.{Arrives}
use Rattle.ripngd_engine.specs.Link.{datagram_in}
use Rattle.ripngd_engine.specs.Run.{arrival, no_step}
use Rattle.ripngd_engine.proofs.Steps.{follows, Acts-moved, Acts-lost, Acts-takes, Shows-no_step}
use Rattle.ripngd_engine.proofs.runner.Runner.arrive.Goals as goal

pub invariant_of-self : goal.invariant_of-self
invariant_of-self g c = record {
  same_interfaces = c.carry_out.ensures.same ∙ c.args.self.now.same_interfaces ∙ ap (λ config. length config.interfaces) (sym c.in-Ok.ensures.config);
  fib_follows = λ on. follows _ _ _ _ _ _ c.carry_out.ensures.carries _ _ (c.args.self.now.fib_follows c.requires.ended) c.in-Ok.ensures.replays on;
}

pub returns-in-None-clause-acts : goal.returns-in-None-clause-acts
returns-in-None-clause-acts g c =
    rw c.in-None.is (record { acts = record { trace = no_step; does = (refl, refl); shows = Shows-no_step _ }; told = refl })

pub returns-in-Ok-clause-acts : goal.returns-in-Ok-clause-acts
returns-in-Ok-clause-acts g c =
    let datagram = datagram_in c.in-Some.received c.args.buffer.now in
    rw c.in-Some.is (
    Acts-takes _ _ _ _ _ c.now.result datagram
    (Acts-moved _ _ _ _ _ _ _ _ c.now.result (Arrives (arrival c.now.result datagram)) c.now.ensures.gained
    _ _ _ _ c.in-Ok.answer _ c.in-Ok.ensures.moves (_, rw c.as_slice.ensures at c.processed.ensures, refl) c.carry_out.ensures.carries)
    )

pub returns-in-Err-clause-acts : goal.returns-in-Err-clause-acts
returns-in-Err-clause-acts g c =
    let datagram = datagram_in c.in-Some.received c.args.buffer.now in
    rw c.in-Some.is (
    Acts-takes _ _ _ _ _ c.now.result datagram
    (Acts-lost _ _ _ _ _ _ _ _ c.now.result (Arrives (arrival c.now.result datagram)) c.now.ensures.gained
    _ _ _ c.in-Err.ensures.err c.one_more-self.ensures)
    )
