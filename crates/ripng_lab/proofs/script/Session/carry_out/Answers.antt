use Rattle.std.proofs.Common.{ap, is_some}
use Rattle.ripng_lab.specs.ScriptWatching.{lab_in}
use Rattle.ripng_lab.specs.declared.forms.Verb.TheVariants as verb
use Rattle.ripng_lab.proofs.Doing.{asked_as, asks_as, asks_listed, awaits_as, awaits_listed, listed, still_done, verb_done}
use Rattle.ripng_lab.proofs.ScriptWatching.{given_ok, has_told, untold, untold_as}
use Rattle.ripng_lab.proofs.script.Session.carry_out.Goals as goal

pub returns-in-Router-clause-told : goal.returns-in-Router-clause-told
returns-in-Router-clause-told g c =
    untold_as g.V.Watch.starts g.V.Observer.takes g.V.Observer.fails g.V.Watch.notes c.list.result (lab_in c.args.self.now.course) (lab_in c.list.new.self.course) c.args.watch.now (ap lab_in c.list.ensures.course)

pub returns-in-Router-clause-done : goal.returns-in-Router-clause-done
returns-in-Router-clause-done g c =
    listed g.V.Watch.starts g.V.Observer.takes g.V.Observer.fails g.V.Watch.notes c.list.result c.args.line.now (lab_in c.args.self.now.course) (lab_in c.list.new.self.course) c.args.watch.now c.in-Router.is (ap lab_in c.list.ensures.course)

pub returns-in-Router-clause-awaited : goal.returns-in-Router-clause-awaited
returns-in-Router-clause-awaited g c =
    given_ok c.list.result (awaits_listed c.args.line.now.verb c.args.line.now.refusal c.args.self.now.awaited c.list.new.self.awaited c.in-Router.is c.list.ensures.awaited)

pub returns-in-Start-clause-done : goal.returns-in-Start-clause-done
returns-in-Start-clause-done g c =
    verb_done g.V.Watch.starts g.V.Observer.takes g.V.Observer.fails g.V.Watch.notes c.start.result c.args.line.now verb.Start (lab_in c.args.self.now.course, c.args.watch.now) (lab_in c.start.new.self.course, c.start.new.watch) c.in-Start.is c.start.ensures.done

pub returns-in-Start-clause-awaited : goal.returns-in-Start-clause-awaited
returns-in-Start-clause-awaited g c =
    given_ok c.start.result (awaits_as c.args.line.now.verb verb.Start c.args.line.now.refusal c.args.self.now.awaited c.start.new.self.awaited c.in-Start.is c.start.ensures.awaited)

pub returns-in-Forge-clause-done : goal.returns-in-Forge-clause-done
returns-in-Forge-clause-done g c =
    verb_done g.V.Watch.starts g.V.Observer.takes g.V.Observer.fails g.V.Watch.notes c.deceive.result c.args.line.now verb.Forge (lab_in c.args.self.now.course, c.args.watch.now) (lab_in c.deceive.new.self.course, c.deceive.new.watch) c.in-Forge.is c.deceive.ensures.done

pub returns-in-Forge-clause-awaited : goal.returns-in-Forge-clause-awaited
returns-in-Forge-clause-awaited g c =
    given_ok c.deceive.result (awaits_as c.args.line.now.verb verb.Forge c.args.line.now.refusal c.args.self.now.awaited c.deceive.new.self.awaited c.in-Forge.is c.deceive.ensures.awaited)

pub returns-in-Bend-clause-done : goal.returns-in-Bend-clause-done
returns-in-Bend-clause-done g c =
    verb_done g.V.Watch.starts g.V.Observer.takes g.V.Observer.fails g.V.Watch.notes c.bend.result c.args.line.now verb.Bend (lab_in c.args.self.now.course, c.args.watch.now) (lab_in c.bend.new.self.course, c.bend.new.watch) c.in-Bend.is c.bend.ensures.done

pub returns-in-Bend-clause-awaited : goal.returns-in-Bend-clause-awaited
returns-in-Bend-clause-awaited g c =
    given_ok c.bend.result (awaits_as c.args.line.now.verb verb.Bend c.args.line.now.refusal c.args.self.now.awaited c.bend.new.self.awaited c.in-Bend.is c.bend.ensures.awaited)

pub returns-in_err-running-in-Await-clause-told : goal.returns-in_err-running-in-Await-clause-told
returns-in_err-running-in-Await-clause-told g c = has_told g.V.Watch.starts g.V.Observer.takes g.V.Observer.fails g.V.Watch.notes c.from_residual.result (lab_in c.args.self.now.course, c.args.watch.now) (lab_in c.args.self.now.course, c.args.watch.now) (untold g.V.Watch.starts g.V.Observer.takes g.V.Observer.fails g.V.Watch.notes (lab_in c.args.self.now.course, c.args.watch.now))

pub returns-in_err-course-in-Act-clause-told : goal.returns-in_err-course-in-Act-clause-told
returns-in_err-course-in-Act-clause-told g c = has_told g.V.Watch.starts g.V.Observer.takes g.V.Observer.fails g.V.Watch.notes c.from_residual-in_err-course-in-Act.result (lab_in c.args.self.now.course, c.args.watch.now) (lab_in c.args.self.now.course, c.args.watch.now) (untold g.V.Watch.starts g.V.Observer.takes g.V.Observer.fails g.V.Watch.notes (lab_in c.args.self.now.course, c.args.watch.now))

pub returns-in-Router-clause-asks : goal.returns-in-Router-clause-asks
returns-in-Router-clause-asks g c =
    given_ok c.list.result (asks_listed c.args.line.now.verb (is_some c.args.self.now.askers) (is_some c.list.new.self.askers) c.in-Router.is (ap is_some c.list.ensures.askers))

pub returns-in-Start-clause-asks : goal.returns-in-Start-clause-asks
returns-in-Start-clause-asks g c =
    given_ok c.start.result (asks_as c.args.line.now.verb verb.Start (is_some c.args.self.now.askers) (is_some c.start.new.self.askers) c.in-Start.is (ap is_some c.start.ensures.askers))

pub returns-in-Forge-clause-asks : goal.returns-in-Forge-clause-asks
returns-in-Forge-clause-asks g c =
    given_ok c.deceive.result (asks_as c.args.line.now.verb verb.Forge (is_some c.args.self.now.askers) (is_some c.deceive.new.self.askers) c.in-Forge.is (ap is_some c.deceive.ensures.askers))

pub returns-in-Bend-clause-asks : goal.returns-in-Bend-clause-asks
returns-in-Bend-clause-asks g c =
    given_ok c.bend.result (asks_as c.args.line.now.verb verb.Bend (is_some c.args.self.now.askers) (is_some c.bend.new.self.askers) c.in-Bend.is (ap is_some c.bend.ensures.askers))

pub returns-in-Asking-clause-told : goal.returns-in-Asking-clause-told
returns-in-Asking-clause-told g c =
    untold_as g.V.Watch.starts g.V.Observer.takes g.V.Observer.fails g.V.Watch.notes c.set_asking.result (lab_in c.args.self.now.course) (lab_in c.set_asking.new.self.course) c.args.watch.now (ap lab_in c.set_asking.ensures.course)

pub returns-in-Asking-clause-done : goal.returns-in-Asking-clause-done
returns-in-Asking-clause-done g c =
    verb_done g.V.Watch.starts g.V.Observer.takes g.V.Observer.fails g.V.Watch.notes c.set_asking.result c.args.line.now (verb.Asking c.in-Asking.asks) (lab_in c.args.self.now.course, c.args.watch.now) (lab_in c.set_asking.new.self.course, c.args.watch.now) c.in-Asking.is
    (still_done g.V.Watch.starts g.V.Observer.takes g.V.Observer.fails g.V.Watch.notes c.set_asking.result (lab_in c.args.self.now.course) (lab_in c.set_asking.new.self.course) c.args.watch.now (ap lab_in c.set_asking.ensures.course))

pub returns-in-Asking-clause-awaited : goal.returns-in-Asking-clause-awaited
returns-in-Asking-clause-awaited g c =
    given_ok c.set_asking.result (awaits_as c.args.line.now.verb (verb.Asking c.in-Asking.asks) c.args.line.now.refusal c.args.self.now.awaited c.set_asking.new.self.awaited c.in-Asking.is c.set_asking.ensures.awaited)

pub returns-in-Asking-clause-asks : goal.returns-in-Asking-clause-asks
returns-in-Asking-clause-asks g c =
    asked_as c.set_asking.result c.args.line.now.verb c.in-Asking.asks (is_some c.args.self.now.askers) (is_some c.set_asking.new.self.askers) c.in-Asking.is c.set_asking.ensures.asks
