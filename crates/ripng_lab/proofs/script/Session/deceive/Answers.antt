use Rattle.std.proofs.Common.{◌≡◌, ℕ, List, Some, rules}
use Rattle.ripng_lab.specs.Doing.{IsLie, arrival_by}
use Rattle.ripng_lab.specs.ScriptWatching.{lab_in, value_of}
use Rattle.ripng_lab.proofs.Doing.{done_from, forged}
use Rattle.ripng_lab.proofs.ScriptWatching.{has_told, untold, untold_as}
use Rattle.ripng_lab.proofs.script.Session.deceive.Goals as goal

pub returns-in_err-bytes-clause-told : goal.returns-in_err-bytes-clause-told
returns-in_err-bytes-clause-told g c =
    has_told g.V.Watch.starts g.V.Observer.takes g.V.Observer.fails g.V.Watch.notes c.from_residual.result (lab_in c.args.self.now.course, c.args.watch.now) (lab_in c.args.self.now.course, c.args.watch.now)
    (untold g.V.Watch.starts g.V.Observer.takes g.V.Observer.fails g.V.Watch.notes (lab_in c.args.self.now.course, c.args.watch.now))

pub returns-in_err-running-clause-told : goal.returns-in_err-running-clause-told
returns-in_err-running-clause-told g c =
    has_told g.V.Watch.starts g.V.Observer.takes g.V.Observer.fails g.V.Watch.notes c.from_residual-in_err-running.result (lab_in c.args.self.now.course, c.args.watch.now) (lab_in c.args.self.now.course, c.args.watch.now)
    (untold g.V.Watch.starts g.V.Observer.takes g.V.Observer.fails g.V.Watch.notes (lab_in c.args.self.now.course, c.args.watch.now))

pub returns-in_err-check_lie-clause-told : goal.returns-in_err-check_lie-clause-told
returns-in_err-check_lie-clause-told g c =
    has_told g.V.Watch.starts g.V.Observer.takes g.V.Observer.fails g.V.Watch.notes c.from_residual-in_err-check_lie.result (lab_in c.args.self.now.course, c.args.watch.now) (lab_in c.args.self.now.course, c.args.watch.now)
    (untold g.V.Watch.starts g.V.Observer.takes g.V.Observer.fails g.V.Watch.notes (lab_in c.args.self.now.course, c.args.watch.now))

pub returns-in_err-course-clause-told : goal.returns-in_err-course-clause-told
returns-in_err-course-clause-told g c =
    untold_as g.V.Watch.starts g.V.Observer.takes g.V.Observer.fails g.V.Watch.notes c.from_residual-in_err-course.result (lab_in c.args.self.now.course) (lab_in c.give_up.new.self.course) c.args.watch.now c.give_up.ensures.course

pub returns-clause-done : goal.returns-clause-done
returns-clause-done g c =
    let same : lab_in c.args.self.now.course ≡ Some (value_of c.in_ok-course.course.now.site) = search rules in
    done_from g.V.Watch.starts g.V.Observer.takes g.V.Observer.fails g.V.Watch.notes c.lie.result (λ ts. (by : List ℕ) × IsLie c.args.line.now.router (arrival_by c.args.line.now by) ts) (lab_in c.args.self.now.course) (Some (value_of c.in_ok-course.course.now.site)) c.args.watch.now (Some (value_of c.lie.new.self.site), c.lie.new.watch) same
    (forged g.V.Watch.starts g.V.Observer.takes g.V.Observer.fails g.V.Watch.notes c.lie.result c.args.line.now c.arrival-arrival.result _ (Some (value_of c.in_ok-course.course.now.site), c.args.watch.now) (Some (value_of c.lie.new.self.site), c.lie.new.watch) c.arrival-arrival.ensures c.lie.ensures.done)
