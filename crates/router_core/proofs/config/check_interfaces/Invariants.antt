use Rattle.router_core.specs.Config.{interface_reasons}
use Rattle.router_core.proofs.ReasonsOfEach.{PassesBelow}
use Rattle.router_core.proofs.config.check_interfaces.Given as goal

abbrev pub invariant-loop-place : goal.invariant-loop-place
invariant-loop-place l = PassesBelow interface_reasons l.interfaces l.place
