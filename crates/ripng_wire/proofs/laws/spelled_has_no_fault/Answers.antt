use Rattle.ripng_wire.proofs.Spellings.{faultless_spells, spelling_has_no_fault}
use Rattle.ripng_wire.proofs.laws.spelled_has_no_fault.Goals as goal

pub returns-clause-passes : goal.returns-clause-passes
returns-clause-passes c = spelling_has_no_fault

pub returns-clause-spelled : goal.returns-clause-spelled
returns-clause-spelled c = faultless_spells
