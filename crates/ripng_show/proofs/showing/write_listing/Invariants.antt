use Rattle.std.proofs.Common.{◌++◌, length}
use Rattle.std.specs.List.{flat_map}
use Rattle.std.specs.Io.KnownBytes.{Appends}
use Rattle.ripng_show.specs.Shown.{entry_line, head_line}
use Rattle.ripng_show.proofs.showing.write_listing.Given as goal

-- what is written is the head and the lines of the entries so far
abbrev pub invariant-loop-index : goal.invariant-loop-index
invariant-loop-index g l =
    Appends (g.W.Write.contents l.fn.out) (g.W.Write.contents l.out)
    (head_line l.datagram.command (length l.datagram.entries) ++ flat_map (λ p. entry_line p.0 p.1) l.yielded)
