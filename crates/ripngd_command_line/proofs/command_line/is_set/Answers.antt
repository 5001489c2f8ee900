use Rattle.clap.specs.Words.{found_of}
use Rattle.ripngd_command_line.proofs.Matches.{flag_read}
use Rattle.ripngd_command_line.proofs.command_line.is_set.Goals as goal

pub returns : goal.returns
returns c = rw c.unwrap_or.ensures (flag_read _ (found_of c.args.matches.now) c.args.id.now c.get_one.result c.get_one.ensures.none c.get_one.ensures.value)
