use Rattle.router_core.proofs.Announced.{unfiltered_if}
use Rattle.router_core.proofs.filter.lets_all_through.Goals as goal

pub returns : goal.returns
returns c = unfiltered_if c.args.filters.now c.args.iface c.has_filter.result c.has_filter.ensures
