use Rattle.std.proofs.Common.{Ok, Some}
use Rattle.ripng_lab.specs.ScriptWatching.{value_of}
use Rattle.ripng_lab.proofs.ScriptWatching.{has_told, untold}
use Rattle.ripng_lab.proofs.Waving.{none_ask, one_asks}
use Rattle.ripng_lab.proofs.course.Course.ask_about.Goals as goal

pub returns-in-Some-clause-done : goal.returns-in-Some-clause-done
returns-in-Some-clause-done g c =
    one_asks g.V.Watch.starts g.V.Observer.takes g.V.Observer.fails g.V.Watch.notes c.ask.result c.args.router (Some (value_of c.args.self.now.site), c.args.watch.now) (Some (value_of c.ask.new.self.site), c.ask.new.watch) c.ask.ensures.done

pub returns-in-None-clause-done : goal.returns-in-None-clause-done
returns-in-None-clause-done g c = none_ask g.V.Watch.starts g.V.Observer.takes g.V.Observer.fails g.V.Watch.notes (Some (value_of c.args.self.now.site), c.args.watch.now)

pub returns-in-None-clause-told : goal.returns-in-None-clause-told
returns-in-None-clause-told g c = has_told g.V.Watch.starts g.V.Observer.takes g.V.Observer.fails g.V.Watch.notes (Ok tt) (Some (value_of c.args.self.now.site), c.args.watch.now) (Some (value_of c.args.self.now.site), c.args.watch.now) (untold g.V.Watch.starts g.V.Observer.takes g.V.Observer.fails g.V.Watch.notes (Some (value_of c.args.self.now.site), c.args.watch.now))
