use Rattle.std.proofs.Common.{Some}
use Rattle.ripng_lab.specs.ScriptWatching.{value_of}
use Rattle.ripng_lab.proofs.Passed.{ran_done, ran_told, run_stopped}
use Rattle.ripng_lab.proofs.ScriptWatching.{has_told_on}
use Rattle.ripng_lab.proofs.course.Course.pass_time.Goals as goal

pub returns-in-Ok-clause-done : goal.returns-in-Ok-clause-done
returns-in-Ok-clause-done g c =
    ran_done g.V.Watch.starts g.V.Observer.takes g.V.Observer.fails g.V.Watch.notes c.tell.result (value_of c.args.self.now.site) (value_of c.run_until.new.lab) c.args.watch.now c.run_until.new.watch c.tell.new.watch _ _ c.in-Ok.ensures.ran c.tell.ensures.done

pub returns-in-Ok-clause-told : goal.returns-in-Ok-clause-told
returns-in-Ok-clause-told g c =
    has_told_on g.V.Watch.starts g.V.Observer.takes g.V.Observer.fails g.V.Watch.notes c.tell.result (Some (value_of c.args.self.now.site), c.args.watch.now) (Some (value_of c.run_until.new.lab), c.run_until.new.watch) (Some (value_of c.run_until.new.lab), c.tell.new.watch)
    (ran_told g.V.Watch.starts g.V.Observer.takes g.V.Observer.fails g.V.Watch.notes (value_of c.args.self.now.site) (value_of c.run_until.new.lab) c.args.watch.now c.run_until.new.watch _ _ c.in-Ok.ensures.ran) c.tell.ensures.told

pub returns-in-Err-clause-told : goal.returns-in-Err-clause-told
returns-in-Err-clause-told g c =
    run_stopped g.V.Watch.starts g.V.Observer.takes g.V.Observer.fails g.V.Watch.notes (value_of c.args.self.now.site) (value_of c.run_until.new.lab) c.args.watch.now c.run_until.new.watch _ _ c.in-Err.why c.stop_of.result c.stop_of.ensures c.in-Err.ensures.stopped
