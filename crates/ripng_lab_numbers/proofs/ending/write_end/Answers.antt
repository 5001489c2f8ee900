use Rattle.ripng_lab_numbers.proofs.Rows.{some_text}
use Rattle.ripng_lab_numbers.proofs.ending.write_end.Goals as goal

pub returns : goal.returns
returns g c = some_text c.write_all.result _ _ _ c.write_all.ensures.bytes
