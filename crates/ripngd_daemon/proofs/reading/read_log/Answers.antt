use Rattle.std.proofs.Common.{◌∙◌, subst}
use Rattle.std.specs.FinMap as map
use Rattle.fib.specs.Forwarding.{Replays}
use Rattle.ripngd_daemon.specs.Reading.{IsLogOf}
use Rattle.ripngd_daemon.proofs.reading.read_log.Goals as goal

pub returns-clause-follows : goal.returns-clause-follows
returns-clause-follows c changes log =
    let read : IsLogOf c.args.text.now c.in_ok-changes.changes.items =
    (c.last_run-skipped.result.0.now, c.last_run-skipped.result.1, c.last_run-skipped.ensures.last, c.in_ok-changes.ensures.log) in
    let same = c.logs_are_read_one_way.ensures.one c.args.text.now c.in_ok-changes.changes.items changes read log in
    let from_empty = subst (λ old. Replays old c.deref.result.now c.apply.new.self) c.new-fib.ensures c.in_ok-apply.ensures.ok in
    subst (λ read. Replays map.empty read c.apply.new.self) (c.deref.ensures.value ∙ same) from_empty
