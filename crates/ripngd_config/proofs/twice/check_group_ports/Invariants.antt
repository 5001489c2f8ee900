use Rattle.std.proofs.Common.{◌≡◌, All, false, take}
use Rattle.ripngd_config.specs.Twice.{has_group_port}
use Rattle.ripngd_config.proofs.twice.check_group_ports.Given as goal

abbrev pub invariant-loop-index : goal.invariant-loop-index
invariant-loop-index l = All (λ t. has_group_port l.interfaces t ≡ false) (take l.index-counter l.interfaces)
