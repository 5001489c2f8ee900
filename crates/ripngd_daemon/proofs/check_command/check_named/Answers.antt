use Rattle.std.proofs.Common.{◌∙◌, ap, sym}
use Rattle.std.specs.Result.{is_ok}
use Rattle.ripngd_daemon.proofs.Failing.{of_ok, refused_is_checked}
use Rattle.ripngd_daemon.proofs.check_command.check_named.Goals as goal

pub returns-in_ok-map_err-in-Ok-clause-checked : goal.returns-in_ok-map_err-in-Ok-clause-checked
returns-in_ok-map_err-in-Ok-clause-checked g c =
    let bytes = of_ok c.writeln.result (sym c.map_err.ensures.variant ∙ ap is_ok c.in_ok-map_err-in-Ok.was) c.writeln.ensures.bytes in
    (c.in-Ok.config, c.in-Ok.ensures.read, rw (c.interfaces.ensures.value, c.prefixes.ensures.value, c.count_peers-peers.ensures, c.as_slice.ensures.value) at bytes)

pub returns-in-Err-clause-checked : goal.returns-in-Err-clause-checked
returns-in-Err-clause-checked g c =
    refused_is_checked c.args.text.now c.in-Err.fault c.write_refusal.result _ _ c.in-Err.ensures.refused c.write_refusal.ensures.refused
