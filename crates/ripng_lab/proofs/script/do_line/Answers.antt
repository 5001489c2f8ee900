use Rattle.std.proofs.Common.{◌≡◌, ℕ, List, Err, None, is_some, rules, subst}
use Rattle.ripng_lab.specs.Scripts.{HasWords}
use Rattle.ripng_lab.specs.ScriptWatching.{lab_in}
use Rattle.ripng_lab.proofs.Saying.{line_done}
use Rattle.ripng_lab.proofs.ScriptWatching.{untold, has_told}
use Rattle.ripng_lab.proofs.script.do_line.Goals as goal

pub returns-in_default-clause-told : goal.returns-in_default-clause-told
returns-in_default-clause-told g c = has_told g.V.Watch.starts g.V.Observer.takes g.V.Observer.fails g.V.Watch.notes (Err c.from.result) (lab_in c.args.session.now.course, c.args.watch.now) (lab_in c.args.session.now.course, c.args.watch.now) (untold g.V.Watch.starts g.V.Observer.takes g.V.Observer.fails g.V.Watch.notes (lab_in c.args.session.now.course, c.args.watch.now))

pub returns-in-None-clause-done : goal.returns-in-None-clause-done
returns-in-None-clause-done g c =
    let before : c.args.session.now.awaited ≡ None = search rules in
    let after : c.take-awaited.new.self ≡ None = search rules in
    let text : c.in-Ok.text.now ≡ c.args.line.now = search rules in
    line_done g.V.Watch.starts g.V.Observer.takes g.V.Observer.fails g.V.Watch.notes c.obey-outcome.result c.args.line.now c.words_of.result.now c.args.session.now.awaited c.take-awaited.new.self c.obey-outcome.new.self.awaited (is_some c.args.session.now.askers) (is_some c.obey-outcome.new.self.askers) (lab_in c.args.session.now.course, c.args.watch.now) (lab_in c.obey-outcome.new.self.course, c.obey-outcome.new.watch)
    before after (subst (λ (t : List ℕ). HasWords t c.words_of.result.now) text c.words_of.ensures) c.obey-outcome.ensures.done
