use Rattle.std.proofs.Common.{arith}
use Rattle.ripng_phases.proofs.Adding.{added_in}
use Rattle.ripng_phases.proofs.acting.Course.add.Goals as goal

pub returns-then-router-len-clause-told : goal.returns-then-router-len-clause-told
returns-then-router-len-clause-told c = added_in c.args.self.now.told.items c.args.router c.args.update (omega (arith, c.if-router-len.true, c.len.ensures, c.args.self.now.told.ok.0))
