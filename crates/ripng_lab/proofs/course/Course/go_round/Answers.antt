use Rattle.std.proofs.Common.{Some}
use Rattle.ripng_lab.specs.ScriptWatching.{value_of}
use Rattle.ripng_lab.proofs.Doing.{noted_done}
use Rattle.ripng_lab.proofs.ScriptWatching.{has_told_on}
use Rattle.ripng_lab.proofs.course.Course.go_round.Goals as goal

pub returns-clause-told : goal.returns-clause-told
returns-clause-told g c =
    has_told_on g.V.Watch.starts g.V.Observer.takes g.V.Observer.fails g.V.Watch.notes c.tell.result (Some (value_of c.args.self.now.site), c.args.watch.now) (Some (value_of c.make_rounds.new.self.site), c.make_rounds.new.watch) (Some (value_of c.make_rounds.new.self.site), c.tell.new.watch) c.in_ok-make_rounds.ensures c.tell.ensures.told

pub returns-clause-done : goal.returns-clause-done
returns-clause-done g c =
    noted_done g.V.Watch.starts g.V.Observer.takes g.V.Observer.fails g.V.Watch.notes c.tell.result (Some (value_of c.args.self.now.site), c.args.watch.now) (Some (value_of c.make_rounds.new.self.site), c.make_rounds.new.watch) (Some (value_of c.make_rounds.new.self.site), c.tell.new.watch) c.in_ok-make_rounds.ensures c.tell.ensures.done
