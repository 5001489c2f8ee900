use Rattle.std.proofs.Common.{rules}
use Rattle.ripngd_control.proofs.Counted.{Refused-one}
use Rattle.ripngd_control.proofs.counts.Counts.count_arrival.Goals as goal

pub returns : goal.returns
returns c = λ a bytes. record {
  arrivals = search rules;
  sends = search rules;
  failed_sends = search rules;
  refusals = Refused-one _ _ _ c.count.ensures;
  asked = search rules;
}
