use Rattle.ripng_clock.proofs.Pairs.{is_removed}
use Rattle.ripng_clock.proofs.agenda.Agenda.remove.Goals as goal

pub returns : goal.returns
returns c = is_removed c.args.self.now (record { entries = c.remove.new.self }) c.args.time c.args.number c.remove.ensures.updates
