use Rattle.std.proofs.Common.{Err, ap, is_some, sym, ◌∙◌}
use Rattle.ripng_lab.specs.ScriptWatching.{lab_in}
use Rattle.ripng_lab.proofs.Saying.{obeyed}
use Rattle.ripng_lab.proofs.ScriptWatching.{told_from, untold_as}
use Rattle.ripng_lab.proofs.script.Session.obey.Goals as goal

pub returns-in-Err-clause-told : goal.returns-in-Err-clause-told
returns-in-Err-clause-told g c =
    untold_as g.V.Watch.starts g.V.Observer.takes g.V.Observer.fails g.V.Watch.notes (Err c.from.result) (lab_in c.args.self.now.course) (lab_in c.read.new.self.course) c.args.watch.now (ap lab_in c.read.ensures.course)

pub returns-clause-told : goal.returns-clause-told
returns-clause-told g c =
    told_from g.V.Watch.starts g.V.Observer.takes g.V.Observer.fails g.V.Watch.notes c.carry_out.result (lab_in c.args.self.now.course) (lab_in c.forget.new.self.course) c.args.watch.now (lab_in c.carry_out.new.self.course, c.carry_out.new.watch) (ap lab_in (sym (c.forget.ensures.course ∙ c.read.ensures.course))) c.carry_out.ensures.told

pub returns-clause-done : goal.returns-clause-done
returns-clause-done g c =
    obeyed g.V.Watch.starts g.V.Observer.takes g.V.Observer.fails g.V.Watch.notes c.carry_out.result c.args.words.now c.in-Ok.line c.args.self.now.awaited c.forget.new.self.awaited c.carry_out.new.self.awaited (is_some c.args.self.now.askers) (is_some c.forget.new.self.askers) (is_some c.carry_out.new.self.askers) (lab_in c.args.self.now.course) (lab_in c.forget.new.self.course) c.args.watch.now (lab_in c.carry_out.new.self.course, c.carry_out.new.watch)
    c.in-Ok.ensures.verb (ap lab_in (c.forget.ensures.course ∙ c.read.ensures.course)) (c.forget.ensures.awaited ∙ c.read.ensures.awaited) (c.forget.ensures.askers ∙ ap is_some c.read.ensures.askers) c.carry_out.ensures.done c.carry_out.ensures.awaited c.carry_out.ensures.asks
