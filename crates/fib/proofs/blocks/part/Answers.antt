use Rattle.std.proofs.Common.{ap}
use Rattle.std.specs.Result.{is_ok}
use Rattle.fib.proofs.BlockChanges.{are_parted}
use Rattle.fib.proofs.blocks.part.Goals as goal

pub returns-clause-same : goal.returns-clause-same
returns-clause-same c = (are_parted c.args.blocks.now.items c.reserve.new.self.items c.args.at c.index_mut.result.now c.split.new.self c.in_ok-upper.upper c.insert.new.self.items c.reserve.ensures.items c.index_mut.ensures.value c.in_ok-upper.ensures.ok c.in_ok-upper.ensures.upper (is_ok c.insert.result) c.insert.ensures.items (ap is_ok c.in-Ok.is) c.requires.ordered c.requires.within c.requires.full).same

pub returns-clause-filled : goal.returns-clause-filled
returns-clause-filled c = (are_parted c.args.blocks.now.items c.reserve.new.self.items c.args.at c.index_mut.result.now c.split.new.self c.in_ok-upper.upper c.insert.new.self.items c.reserve.ensures.items c.index_mut.ensures.value c.in_ok-upper.ensures.ok c.in_ok-upper.ensures.upper (is_ok c.insert.result) c.insert.ensures.items (ap is_ok c.in-Ok.is) c.requires.ordered c.requires.within c.requires.full).filled
