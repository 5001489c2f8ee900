use Rattle.std.proofs.Common.{take, All}
use Rattle.prefix6.specs.Prefix.{IsPrefix}
use Rattle.router_core.specs.Config.{prefix_reasons}
use Rattle.router_core.proofs.ReasonsOfEach.{PassesBelow}
use Rattle.router_core.proofs.config.check_prefixes.Given as goal

abbrev pub invariant-loop-place : goal.invariant-loop-place
invariant-loop-place l = record {
  passes : PassesBelow prefix_reasons l.prefixes l.place;
  prefixes : All (λ t. IsPrefix t.0) (take l.place l.prefixes);
}
