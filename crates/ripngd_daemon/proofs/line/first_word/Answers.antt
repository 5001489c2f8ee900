use Rattle.ripngd_daemon.proofs.Readings.{word_is_cut}
use Rattle.ripngd_daemon.proofs.line.first_word.Goals as goal

pub returns : goal.returns
returns c = rw c.unwrap_or.ensures (word_is_cut c.args.line.now c.split_once.result _ c.split_once.ensures.cases)
