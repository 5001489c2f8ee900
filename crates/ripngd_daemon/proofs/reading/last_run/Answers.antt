use Rattle.std.proofs.Common.{◌≡◌, ◌∙◌, ◌+◌, ◌∷◌, ap, arith, length, length-append}
use Rattle.ripngd_daemon.proofs.Passing.{passed_line, passed_none, passed_start}
use Rattle.ripngd_daemon.proofs.reading.last_run.Goals as goal

pub loop-line-init : goal.loop-line-init
loop-line-init c = record { has_passed = passed_none c.args.text.now; behind = omega arith; within = omega arith }

pub loop-line-preserved-then-is_start : goal.loop-line-preserved-then-is_start
loop-line-preserved-then-is_start c =
    let line = c.in-Some.line.now in
    let after = c.in-Some.after.now in
    let within = c.loop-line.invariant.within in
    let sizes : length c.loop-line.rest.now ≡ length line + length (10 ∷ after) = ap length c.in-Some.ensures.spelled ∙ length-append line (10 ∷ after) in record {
      has_passed = passed_start _ _ _ line after _ _ c.loop-line.invariant.has_passed c.in-Some.ensures.line c.in-Some.ensures.spelled
          (c.is_start.ensures.0 c.if-is_start.true);
      behind = omega arith;
      within = omega arith;
    }

pub loop-line-preserved : goal.loop-line-preserved
loop-line-preserved c =
    let line = c.in-Some.line.now in
    let after = c.in-Some.after.now in
    let within = c.loop-line.invariant.within in
    let sizes : length c.loop-line.rest.now ≡ length line + length (10 ∷ after) = ap length c.in-Some.ensures.spelled ∙ length-append line (10 ∷ after) in record {
      has_passed = passed_line _ _ _ line after _ _ c.loop-line.invariant.has_passed c.in-Some.ensures.line c.in-Some.ensures.spelled
          (λ e. let is = c.is_start.ensures.1 e in let isnt = c.if-is_start.false in cc);
      behind = c.loop-line.invariant.behind;
      within = omega arith;
    }
