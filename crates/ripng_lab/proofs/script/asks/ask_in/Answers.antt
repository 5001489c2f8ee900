use Rattle.std.proofs.Common.{Ok}
use Rattle.ripng_lab.specs.ScriptWatching.{lab_in}
use Rattle.ripng_lab.proofs.ScriptWatching.{has_told, untold}
use Rattle.ripng_lab.proofs.Waving.{none_ask}
use Rattle.ripng_lab.proofs.script.asks.ask_in.Goals as goal

pub returns-in-None-clause-done : goal.returns-in-None-clause-done
returns-in-None-clause-done g c = none_ask g.V.Watch.starts g.V.Observer.takes g.V.Observer.fails g.V.Watch.notes (lab_in c.args.course.now, c.args.watch.now)

pub returns-in-None-clause-told : goal.returns-in-None-clause-told
returns-in-None-clause-told g c =
    has_told g.V.Watch.starts g.V.Observer.takes g.V.Observer.fails g.V.Watch.notes (Ok tt) (lab_in c.args.course.now, c.args.watch.now) (lab_in c.args.course.now, c.args.watch.now) (untold g.V.Watch.starts g.V.Observer.takes g.V.Observer.fails g.V.Watch.notes (lab_in c.args.course.now, c.args.watch.now))
