use Rattle.std.proofs.Common.{Some}
use Rattle.ripng_lab.specs.ScriptWatching.{IsToldOfLab, value_of}
use Rattle.ripng_lab.proofs.course.Course.make_rounds.Given as goal

abbrev pub invariant-loop-round : goal.invariant-loop-round
invariant-loop-round g l = IsToldOfLab g.V.Watch.starts g.V.Observer.takes g.V.Watch.notes (Some (value_of l.fn.self.site), l.fn.watch) (Some (value_of l.self.site), l.watch)
