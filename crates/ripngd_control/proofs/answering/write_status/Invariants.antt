use Rattle.std.proofs.Common.{take}
use Rattle.std.specs.Io.KnownBytes.{Appends}
use Rattle.std.specs.List.{enumerate_from}
use Rattle.ripngd_control.specs.Links.{links_seen}
use Rattle.ripngd_control.specs.Printed.{interface_lines}
use Rattle.ripngd_control.proofs.answering.write_status.Given as goal

-- what is written is the lines of the interfaces so far
abbrev pub invariant-loop-number : goal.invariant-loop-number
invariant-loop-number g l =
    Appends (g.W.Write.contents l.fn.out) (g.W.Write.contents l.out)
    (interface_lines (links_seen l.monitor.links l.engine.queues) (take l.number (enumerate_from 0 l.interfaces)))
