use Rattle.std.proofs.Common.{◌+◌, arith, inl, inr}
use Rattle.ripngd_daemon.proofs.Courses.{minded_nothing, passed}
use Rattle.ripngd_daemon.proofs.Runs.{deaf_after, ended_after, refused_after}
use Rattle.ripngd_daemon.proofs.turns.make_turns.Goals as goal

pub loop-done-init : goal.loop-done-init
loop-done-init g c = record {
  going = c.requires.going;
  alone = λ is. is;
  minded = minded_nothing c.args.order.seconds _ _ _ c.requires.untold c.new.ensures.idle;
}

pub loop-done-preserved : goal.loop-done-preserved
loop-done-preserved g c = record {
  going = (rw c.in-Ok-Running.field-0-is at c.in-Ok-Running.ensures.goes_on) (λ e. cc e);
  alone = λ is. c.pass.ensures.alone (c.loop-done.invariant.alone is);
  minded =
      passed c.args.order.seconds c.loop-done.done _ _ _ _ _ _ _ c.loop-done.invariant.minded
      (c.is_over.ensures.in_time c.if-is_over.false) c.in-Ok-Running.ensures.does;
}

pub returns-in-Ok-Stopped-clause-lasts : goal.returns-in-Ok-Stopped-clause-lasts
returns-in-Ok-Stopped-clause-lasts g c =
    let test = c.loop-done-test.true in
    record {
      count = c.loop-done.done + 1;
      within = omega arith;
      has_done =
          (passed c.args.order.seconds c.loop-done.done _ _ _ _ _ _ _ c.loop-done.invariant.minded
          (c.is_over.ensures.in_time c.if-is_over.false) c.in-Ok-Stopped.ensures.does).has_done;
      ends = inr (inr (c.in-Ok-Stopped.ensures.stops c.in-Ok-Stopped.field-0-is));
      goes_on = (rw c.in-Ok-Stopped.field-0-is at c.in-Ok-Stopped.ensures.goes_on) (λ e. cc e);
    }

pub returns-then-is_over-clause-lasts : goal.returns-then-is_over-clause-lasts
returns-then-is_over-clause-lasts g c =
    let test = c.loop-done-test.true in
    record {
      count = c.loop-done.done;
      within = omega arith;
      has_done = c.loop-done.invariant.minded.has_done;
      ends = inr (inl (c.is_over.ensures.over c.if-is_over.true));
      goes_on = c.loop-done.invariant.going;
    }

pub returns-clause-lasts : goal.returns-clause-lasts
returns-clause-lasts g c =
    let test = c.loop-done-test.false in
    record {
      count = c.loop-done.done;
      within = omega arith;
      has_done = c.loop-done.invariant.minded.has_done;
      ends = inl (omega arith);
      goes_on = c.loop-done.invariant.going;
    }

pub returns-in-Ok-Ended-clause-fails : goal.returns-in-Ok-Ended-clause-fails
returns-in-Ok-Ended-clause-fails g c =
    ended_after c.args.order.seconds (c.loop-done.done + 1) _ _ _
    (passed c.args.order.seconds c.loop-done.done _ _ _ _ _ _ _ c.loop-done.invariant.minded
    (c.is_over.ensures.in_time c.if-is_over.false) c.in-Ok-Ended.ensures.does).has_done

pub returns-in-Err-OutOfMemory-clause-fails : goal.returns-in-Err-OutOfMemory-clause-fails
returns-in-Err-OutOfMemory-clause-fails g c =
    let fails = rw c.in-Err-OutOfMemory.field-0-is at c.in-Err-OutOfMemory.ensures.fails in
    refused_after c.args.order.seconds c.loop-done.done _ _ _ _ _ c.loop-done.invariant.minded.has_done c.loop-done.invariant.going
    (c.is_over.ensures.in_time c.if-is_over.false) fails.0 fails.1

pub returns-in-Err-LinkFault-clause-fails : goal.returns-in-Err-LinkFault-clause-fails
returns-in-Err-LinkFault-clause-fails g c =
    let fails = rw c.in-Err-LinkFault.field-0-is at c.in-Err-LinkFault.ensures.fails in
    deaf_after c.args.order.seconds c.loop-done.done _ _ _ _ _ _ c.loop-done.invariant.minded.has_done fails.0 fails.1
