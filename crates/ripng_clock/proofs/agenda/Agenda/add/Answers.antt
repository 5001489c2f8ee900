use Rattle.ripng_clock.proofs.Pairs.{is_added}
use Rattle.ripng_clock.proofs.agenda.Agenda.add.Goals as goal

pub returns-clause-added : goal.returns-clause-added
returns-clause-added c = is_added c.args.self.now (record { entries = c.insert.new.self }) c.args.time c.args.number c.in_ok-insert.ensures.updates
