use Rattle.std.proofs.Common.{◌∙◌, ℕ, List, [], ◌∷◌, ◌++◌, ap, codes, refl, sym}
use Rattle.std.specs.Result.{is_ok}
use Rattle.ripngd_daemon.proofs.Failing.{of_ok}
use Rattle.ripngd_daemon.proofs.ctl_command.ctl.Goals as goal

pub returns-clause-answered : goal.returns-clause-answered
returns-clause-answered g c =
    let how : List ℕ = codes ": " ++ (c.usage_of-usage.result.now ++ 10 ∷ []) in
    let line = codes "refused 52 NoSuchCommand" ++ how in
    let bytes = of_ok c.writeln.result (sym c.map_err-in-None.ensures.variant ∙ ap is_ok c.in_ok-map_err-in-None.was) c.writeln.ensures.bytes in
    (line, (line, (refl, [], codes "52 NoSuchCommand" ++ how, refl), bytes))
