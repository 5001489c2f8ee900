use Rattle.std.proofs.Common.{Some}
use Rattle.ripng_lab.specs.ScriptWatching.{value_of}
use Rattle.ripng_lab.proofs.Saying.{told_done}
use Rattle.ripng_lab.proofs.ScriptWatching.{untold, told_on, has_told, handed_on}
use Rattle.ripng_lab.proofs.course.Course.make_rounds.Goals as goal

pub returns-in_err-make_wave : goal.returns-in_err-make_wave
returns-in_err-make_wave g c =
    handed_on g.V.Watch.starts g.V.Observer.takes g.V.Observer.fails g.V.Watch.notes c.from_residual-in_err-make_wave.result c.in_err-make_wave.field-0.0 (Some (value_of c.args.self.now.site), c.args.watch.now) (Some (value_of c.loop-round.self.site), c.loop-round.watch) (Some (value_of c.make_wave.new.self.site), c.make_wave.new.watch) c.from_residual-in_err-make_wave.ensures.1 c.loop-round.invariant c.in_err-make_wave.ensures.told

pub loop-round-preserved : goal.loop-round-preserved
loop-round-preserved g c =
    told_on g.V.Watch.starts g.V.Observer.takes g.V.Observer.fails g.V.Watch.notes (Some (value_of c.args.self.now.site), c.args.watch.now) (Some (value_of c.loop-round.self.site), c.loop-round.watch) (Some (value_of c.make_wave.new.self.site), c.make_wave.new.watch) c.loop-round.invariant (told_done g.V.Watch.starts g.V.Observer.takes g.V.Observer.fails g.V.Watch.notes _ (Some (value_of c.loop-round.self.site), c.loop-round.watch) (Some (value_of c.make_wave.new.self.site), c.make_wave.new.watch) c.in_ok-make_wave.ensures.done)

pub returns-in_err-moments : goal.returns-in_err-moments
returns-in_err-moments g c =
    has_told g.V.Watch.starts g.V.Observer.takes g.V.Observer.fails g.V.Watch.notes c.from_residual.result (Some (value_of c.args.self.now.site), c.args.watch.now) (Some (value_of c.args.self.now.site), c.args.watch.now) (untold g.V.Watch.starts g.V.Observer.takes g.V.Observer.fails g.V.Watch.notes (Some (value_of c.args.self.now.site), c.args.watch.now))
