use Rattle.std.proofs.Common.{◌∙◌, not, rules, tests}
use Rattle.std.proofs.lemmas.Iterator.{YieldsList-from_slice}
use Rattle.std.proofs.lemmas.Iterator.Search.{find_from_yields_List}
use Rattle.ripng_lab.specs.Asking.{reaches_prefix}
use Rattle.ripng_lab.proofs.asking.first_lost.Goals as goal

pub returns : goal.returns
returns c =
    c.copied.ensures
    ∙ find_from_yields_List (λ p. not (reaches_prefix c.args.table.now p)) _ _ _ c.find.ensures.ran (YieldsList-from_slice c.args.before.now cc) (λ x b q k. search (rules, tests))
