use Rattle.std.proofs.Common.{List, ap, sym, ◌∙◌}
use Rattle.std.specs.FinMap.{entries}
use Rattle.route_table.specs.Table.{map_entries}
use Rattle.router_core.specs.Lists.{lets_through}
use Rattle.router_core.specs.Settling.{told_route}
use Rattle.router_core.specs.declared.filter.Filter.{Filter}
use Rattle.router_core.proofs.Announced.{all_of}
use Rattle.router_core.proofs.listing.is_whole.Goals as goal

pub returns-then-lets_all_through : goal.returns-then-lets_all_through
returns-then-lets_all_through g c = λ is.
    ap (map_entries (told_route c.args.now c.args.which))
    (all_of c.args.config.now c.args.iface
    (λ p. ap (λ (fs : List Filter). lets_through fs c.args.iface p) (sym c.announcements.ensures) ∙ c.lets_all_through.ensures c.if-lets_all_through.true p)
    (entries (g.S.RouteStore.table c.args.store.now)))
    ∙ c.is_as_stored.ensures is
