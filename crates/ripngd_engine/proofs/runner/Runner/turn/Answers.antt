use Rattle.std.proofs.Common.{refl}
use Rattle.std.proofs.lemmas.Result.{err_from_is_err_and}
use Rattle.ripngd_engine.proofs.Steps.{Turn-whole-told, Turn-refused-told}
use Rattle.ripngd_engine.proofs.runner.Runner.turn.Goals as goal

pub returns : goal.returns
returns g c = (
  Turn-whole-told _ _ _ _ _ _ _ _ c.in_ok-received.received c.listen.new.buffer.items c.requires
      (record { calls = c.in_ok-received.ensures.gained; machine = refl; rest = refl })
      (rw c.as_slice.ensures.value at c.arrive.ensures.acts) c.in_ok-arrive.ensures.ended c.tick.ensures.acts,
  c.in_ok-tick.ensures.ended,
)

pub returns-in_err-arrive : goal.returns-in_err-arrive
returns-in_err-arrive g c =
    let fault = err_from_is_err_and c.from_residual-in_err-arrive.result c.from_residual-in_err-arrive.ensures.1 in
    rw (fault.1, fault.2) (
      Turn-refused-told _ _ _ _ _ _ c.in_ok-received.received c.listen.new.buffer.items c.requires
          (record { calls = c.in_ok-received.ensures.gained; machine = refl; rest = refl })
          (rw c.as_slice.ensures.value at c.arrive.ensures.acts) c.in_err-arrive.ensures.ended,
      c.in_err-arrive.ensures.ended,
    )

pub returns-in_err-tick : goal.returns-in_err-tick
returns-in_err-tick g c =
    let fault = err_from_is_err_and c.from_residual-in_err-tick.result c.from_residual-in_err-tick.ensures.1 in
    rw (fault.1, fault.2) (
      Turn-whole-told _ _ _ _ _ _ _ _ c.in_ok-received.received c.listen.new.buffer.items c.requires
          (record { calls = c.in_ok-received.ensures.gained; machine = refl; rest = refl })
          (rw c.as_slice.ensures.value at c.arrive.ensures.acts) c.in_ok-arrive.ensures.ended c.tick.ensures.acts,
      c.in_err-tick.ensures.ended,
    )
