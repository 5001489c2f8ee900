use Rattle.std.proofs.Common.{◌∙◌, ap, refl, sym}
use Rattle.std.specs.Result.{is_ok}
use Rattle.ripngd_daemon.specs.Tabled.{table_text}
use Rattle.ripngd_daemon.proofs.Failing.{of_ok}
use Rattle.ripngd_daemon.proofs.table_command.table.Goals as goal

pub returns-in_ok-map_err-in-Ok-clause-tabled : goal.returns-in_ok-map_err-in-Ok-clause-tabled
returns-in_ok-map_err-in-Ok-clause-tabled g c =
    let written = rw c.entries.ensures at c.write_entries.ensures in
    let bytes = of_ok c.write_entries.result (sym c.map_err.ensures.variant ∙ ap is_ok c.in_ok-map_err-in-Ok.was) written in
    (table_text c.in-Ok.fib, (c.in-Ok.fib, c.in-Ok.ensures.table, refl), bytes)
