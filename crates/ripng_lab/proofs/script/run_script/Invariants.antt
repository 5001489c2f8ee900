use Rattle.std.proofs.Common.{None, take}
use Rattle.ripng_lab.specs.Doing.{HasDone}
use Rattle.ripng_lab.specs.Scripts.{AreSaid, at_begin, mode_of, numbered}
use Rattle.ripng_lab.specs.ScriptWatching.{lab_in}
use Rattle.ripng_lab.proofs.script.run_script.Given as goal

-- the lines so far are done
abbrev pub invariant-loop-place : goal.invariant-loop-place
invariant-loop-place g l =
    HasDone (λ ts. AreSaid at_begin (take l.place (numbered l.script)) ts (mode_of l.session)) g.V.Watch.starts g.V.Observer.takes g.V.Watch.notes (None, l.fn.watch) (lab_in l.session.course, l.watch)
