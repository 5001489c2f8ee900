use Rattle.std.proofs.Common.{Some, Err}
use Rattle.ripng_lab.specs.declared.stop.Refusal.TheVariants.{DatagramLost}
use Rattle.ripng_lab.specs.declared.stop.Stop.TheVariants.{Refused}
use Rattle.ripng_lab.specs.ScriptWatching.{value_of}
use Rattle.ripng_lab.proofs.ScriptWatching.{untold, has_told, given_ok}
use Rattle.ripng_lab.proofs.course.Course.lose.Goals as goal

pub returns-in_err-check_named-clause-told : goal.returns-in_err-check_named-clause-told
returns-in_err-check_named-clause-told g c =
    has_told g.V.Watch.starts g.V.Observer.takes g.V.Observer.fails g.V.Watch.notes c.from_residual.result (Some (value_of c.args.self.now.site), c.args.watch.now) (Some (value_of c.args.self.now.site), c.args.watch.now) (untold g.V.Watch.starts g.V.Observer.takes g.V.Observer.fails g.V.Watch.notes (Some (value_of c.args.self.now.site), c.args.watch.now))

pub returns-then-contains-clause-told : goal.returns-then-contains-clause-told
returns-then-contains-clause-told g c =
    has_told g.V.Watch.starts g.V.Observer.takes g.V.Observer.fails g.V.Watch.notes (Err (Refused DatagramLost)) (Some (value_of c.args.self.now.site), c.args.watch.now) (Some (value_of c.args.self.now.site), c.args.watch.now) (untold g.V.Watch.starts g.V.Observer.takes g.V.Observer.fails g.V.Watch.notes (Some (value_of c.args.self.now.site), c.args.watch.now))

pub returns-in_err-push-clause-told : goal.returns-in_err-push-clause-told
returns-in_err-push-clause-told g c =
    has_told g.V.Watch.starts g.V.Observer.takes g.V.Observer.fails g.V.Watch.notes c.from_residual-in_err-push.result (Some (value_of c.args.self.now.site), c.args.watch.now) (Some (value_of c.args.self.now.site), c.args.watch.now) (untold g.V.Watch.starts g.V.Observer.takes g.V.Observer.fails g.V.Watch.notes (Some (value_of c.args.self.now.site), c.args.watch.now))

pub returns-clause-lost : goal.returns-clause-lost
returns-clause-lost g c = given_ok c.tell.result c.in_ok-push.ensures.items
