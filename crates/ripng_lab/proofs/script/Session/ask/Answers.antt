use Rattle.std.proofs.Common.{◌≡◌, Bool, Ok, OnOk, false, is_some, true, rules, subst, sym}
use Rattle.ripng_lab.specs.Asking.{AskAfter}
use Rattle.ripng_lab.specs.Doing.{HasDone}
use Rattle.ripng_lab.specs.ScriptWatching.{lab_in}
use Rattle.ripng_lab.proofs.Doing.{nothing_done}
use Rattle.ripng_lab.proofs.ScriptWatching.{has_told, untold}
use Rattle.ripng_lab.proofs.script.Session.ask.Goals as goal

pub returns-in_default-clause-done : goal.returns-in_default-clause-done
returns-in_default-clause-done g c =
    let none : is_some c.args.self.now.askers ≡ false = search rules in
    subst (λ (b : Bool). HasDone (AskAfter b) g.V.Watch.starts g.V.Observer.takes g.V.Watch.notes (lab_in c.args.self.now.course, c.args.watch.now) (lab_in c.args.self.now.course, c.args.watch.now)) (sym none)
    (nothing_done g.V.Watch.starts g.V.Observer.takes g.V.Observer.fails g.V.Watch.notes (lab_in c.args.self.now.course, c.args.watch.now))

pub returns-in_default-clause-told : goal.returns-in_default-clause-told
returns-in_default-clause-told g c =
    has_told g.V.Watch.starts g.V.Observer.takes g.V.Observer.fails g.V.Watch.notes (Ok tt) (lab_in c.args.self.now.course, c.args.watch.now) (lab_in c.args.self.now.course, c.args.watch.now) (untold g.V.Watch.starts g.V.Observer.takes g.V.Observer.fails g.V.Watch.notes (lab_in c.args.self.now.course, c.args.watch.now))

pub returns-clause-done : goal.returns-clause-done
returns-clause-done g c =
    let some : is_some c.args.self.now.askers ≡ true = search rules in
    subst (λ (b : Bool). OnOk c.ask_in-outcome.result (HasDone (AskAfter b) g.V.Watch.starts g.V.Observer.takes g.V.Watch.notes (lab_in c.args.self.now.course, c.args.watch.now) (lab_in c.ask_in-outcome.new.course, c.ask_in-outcome.new.watch))) (sym some)
    c.ask_in-outcome.ensures.done
