use Rattle.std.proofs.Common.{Some}
use Rattle.ripng_world.specs.Events.{event_of}
use Rattle.ripng_lab.specs.ScriptWatching.{value_of}
use Rattle.ripng_lab.proofs.Waving.{played_nothing}
use Rattle.ripng_lab.proofs.course.Course.bring.Goals as goal

pub returns-in-Some-clause-done : goal.returns-in-Some-clause-done
returns-in-Some-clause-done g c =
    played_nothing g.V.Watch.starts g.V.Observer.takes g.V.Observer.fails g.V.Watch.notes c.args.advert c.in-Some.advert (event_of c.args.event.now) (Some (value_of c.args.self.now.site), c.args.watch.now) c.in-Some.is
