use Rattle.std.proofs.Common.{rules, tests}
use Rattle.std.proofs.lemmas.Iterator.{YieldsList-from_slice}
use Rattle.std.proofs.lemmas.Iterator.Consumers.{YieldsList-from_filter, count_from_yields_List}
use Rattle.ripng_lab.specs.Exercises.{is_met}
use Rattle.ripng_lab.proofs.marking.count_met.Goals as goal

pub returns : goal.returns
returns c =
    count_from_yields_List c.filter.result _ c.count.ensures.ran
    (YieldsList-from_filter _ (is_met c.args.end) (YieldsList-from_slice c.args.statements.now cc) c.filter.ensures.closure (λ x b q k. search (rules, tests)))
