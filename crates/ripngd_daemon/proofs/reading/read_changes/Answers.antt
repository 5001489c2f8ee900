use Rattle.std.proofs.Common.{◌∷◌, ◌++◌, ◌+◌, length, refl, sym, ap, ◌∙◌, subst, append_assoc, arith}
use Rattle.std.proofs.lemmas.Grind.{common_steps}
use Rattle.ripngd_engine.specs.Log.{log_of}
use Rattle.ripngd_daemon.specs.Reading.{IsFirstBadOfRun}
use Rattle.ripngd_daemon.specs.Words.{PushesLine}
use Rattle.ripngd_daemon.proofs.reading.read_changes.Goals as goal

pub returns-then-not-branch-clause-refused : goal.returns-then-not-branch-clause-refused
returns-then-not-branch-clause-refused c =
    let none = subst (λ is_one. PushesLine c.in-Some.line.now is_one c.loop-line.changes.items c.push_line.new.changes.items) c.if-not-branch.true c.in_ok-push_line.ensures in
    let bad : IsFirstBadOfRun c.args.text.now (length c.loop-line.changes.items + 1) = record {
      before = c.loop-line.changes.items;
      bad = c.in-Some.line.now;
      after = c.in-Some.after.now;
      lawful = c.loop-line.invariant.lawful;
      spelled =
          c.loop-line.invariant.spelled ∙ ap (λ t. log_of c.loop-line.changes.items ++ t) c.in-Some.ensures.spelled
          ∙ sym (append_assoc (log_of c.loop-line.changes.items) c.in-Some.line.now (10 ∷ c.in-Some.after.now));
      is_line = c.in-Some.ensures.line;
      numbered = refl;
      no_change = none.0;
    } in
    (length c.loop-line.changes.items + 1, bad, let same = ap length none.1 in grind (arith, common_steps))
