use Rattle.std.proofs.Common.{refl}
use Rattle.ripng_lab.proofs.Words.{first_is}
use Rattle.ripng_lab.proofs.forms.first_word.Goals as goal

pub returns : goal.returns
returns c = rw c.unwrap_or.ensures (first_is c.args.text.now c.split_once.result _ refl c.split_once.ensures.cases)
