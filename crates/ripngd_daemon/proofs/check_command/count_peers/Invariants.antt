use Rattle.std.proofs.Common.{◌≡◌, take}
use Rattle.ripngd_daemon.specs.Checked.{peers_counted}
use Rattle.ripngd_daemon.proofs.check_command.count_peers.Given as goal

abbrev pub invariant-loop-of_interface : goal.invariant-loop-of_interface
invariant-loop-of_interface l = l.count ≡ peers_counted (take l.of_interface-index l.peers)
