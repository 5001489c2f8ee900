use Rattle.std.proofs.Common.{Bool, None, Option, refl, rules}
use Rattle.ripng_world.specs.Labs.{LabValue}
use Rattle.ripng_lab.specs.Doing.{HasDone}
use Rattle.ripng_lab.specs.Scripts.{IsOfScript}
use Rattle.ripng_lab.proofs.Handing.{done_by, done_same, if_ok_as, told_by, told_same, until_by, until_same}
use Rattle.ripng_lab.proofs.ScriptWatching.{err_then, ok_then}
use Rattle.ripng_lab.proofs.script.watched_by.Goals as goal

pub returns-clause-said : goal.returns-clause-said
returns-clause-said g c =
    if_ok_as c.run_script-outcome.result _ _
    (λ done h.
    let same = done_same g.V.Watch.starts g.V.Observer.takes g.V.Observer.fails g.V.Watch.notes _ c.run_script-outcome.new.watch h.0 h.1 in
    (h.0, done_by g.V.Watch.starts g.V.Observer.takes g.V.Observer.fails g.V.Watch.notes _ c.run_script-outcome.new.watch h.0 c.args.watch.now _ refl (search (rules, same)) (IsOfScript c.args.script.now done) h.1))
    c.run_script-outcome.ensures.said

pub returns-clause-told : goal.returns-clause-told
returns-clause-told g c =
    ok_then c.run_script-outcome.result
    (λ h.
    let same = told_same g.V.Watch.starts g.V.Observer.takes g.V.Observer.fails g.V.Watch.notes _ c.run_script-outcome.new.watch h.0 h.1 in
    (h.0, told_by g.V.Watch.starts g.V.Observer.takes g.V.Observer.fails g.V.Watch.notes _ c.run_script-outcome.new.watch h.0 c.args.watch.now _ refl (search (rules, same)) h.1))
    c.run_script-outcome.ensures.told

pub returns-clause-told_until : goal.returns-clause-told_until
returns-clause-told_until g c =
    err_then c.run_script-outcome.result
    (λ h.
    let same = until_same g.V.Watch.starts g.V.Observer.takes g.V.Observer.fails g.V.Watch.notes _ c.run_script-outcome.new.watch h.0 h.1 in
    (h.0, until_by g.V.Watch.starts g.V.Observer.takes g.V.Observer.fails g.V.Watch.notes _ c.run_script-outcome.new.watch h.0 c.args.watch.now _ refl (search (rules, same)) h.1))
    c.run_script-outcome.ensures.told_until
