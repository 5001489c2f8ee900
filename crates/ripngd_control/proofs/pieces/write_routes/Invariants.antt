use Rattle.ripngd_control.proofs.Following.{Shown}
use Rattle.ripngd_control.proofs.pieces.write_routes.Given as goal

-- what is written so far is of routes that follow one another
abbrev pub invariant-loop-done : goal.invariant-loop-done
invariant-loop-done g l =
    Shown (g.S.RouteStore.table l.routes) l.moment l.fn.after l.last l._done (g.W.Write.contents l.fn.out) (g.W.Write.contents l.out)
