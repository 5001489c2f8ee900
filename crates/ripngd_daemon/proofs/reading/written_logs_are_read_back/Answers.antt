use Rattle.std.proofs.Common.{refl}
use Rattle.ripngd_daemon.proofs.reading.written_logs_are_read_back.Goals as goal

pub returns : goal.returns
returns c changes rest lawful free = record { rest = rest; lawful = lawful; spelled = refl; unended = free }
