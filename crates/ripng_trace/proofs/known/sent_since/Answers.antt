use Rattle.std.proofs.Common.{◌∙◌}
use Rattle.std.proofs.lemmas.Iterator.{YieldsList-from_slice}
use Rattle.std.proofs.lemmas.Iterator.Adapters.{YieldsList-from_skip}
use Rattle.std.proofs.lemmas.Iterator.Consumers.{YieldsList-at, YieldsList-from_enumerate, map_from_collect}
use Rattle.ripng_trace.proofs.known.sent_since.Goals as goal

pub returns : goal.returns
returns c =
    let numbered = YieldsList-from_enumerate (YieldsList-at c.enumerate.ensures.source (YieldsList-from_slice c.args.lab.now.world.sent (c.iter.ensures.rest ∙ c.sent.ensures))) c.enumerate.ensures.count in
    map_from_collect c.collect.result c.collect.ensures.ran (YieldsList-from_skip c.args.first (YieldsList-at c.skip.ensures.source numbered) c.skip.ensures.count)
