use Rattle.std.proofs.Common.{Some, true}
use Rattle.ripng_lab.specs.Asking.{AskAfter}
use Rattle.ripng_lab.specs.Doing.{HasDone}
use Rattle.ripng_lab.specs.ScriptWatching.{value_of}
use Rattle.ripng_lab.proofs.course.Course.ask_all.Given as goal

-- the routers so far have asked, if it was time
abbrev pub invariant-loop-number : goal.invariant-loop-number
invariant-loop-number g l =
    HasDone (AskAfter true) g.V.Watch.starts g.V.Observer.takes g.V.Watch.notes (Some (value_of l.fn.self.site), l.fn.watch) (Some (value_of l.self.site), l.watch)
