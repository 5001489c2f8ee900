use Rattle.std.proofs.Common.{rules, tests, cond, None, option_map}
use Rattle.std.proofs.lemmas.Iterator.{YieldsList-from_slice}
use Rattle.std.proofs.lemmas.Iterator.Adapters.{items_from_extend}
use Rattle.std.proofs.lemmas.Iterator.Consumers.{YieldsList-from_filter_map}
use Rattle.router_core.specs.Announcing.{is_announced}
use Rattle.router_core.specs.Settling.{told_route}
use Rattle.router_core.proofs.Announced.{mapped_filtered}
use Rattle.router_core.proofs.DueRoutes.{Entry}
use Rattle.router_core.proofs.listing.push_told.Goals as goal

pub returns : goal.returns
returns c =
    let config = c.args.config.now in
    let left = λ (e : Entry). option_map {U = Entry} (λ y. (e.0, y)) (told_route c.args.now c.args.which e.1) in
    let h = items_from_extend c.extend.result c.extend.ensures.ran
    (YieldsList-from_filter_map _ (λ (e : Entry). cond (is_announced config c.args.iface e.0) (left e) None) (YieldsList-from_slice c.args.batch.now cc) c.filter_map.ensures.closure (λ x r q k. search (rules, tests))) in
    let same = mapped_filtered (λ (e : Entry). is_announced config c.args.iface e.0) left c.args.batch.now in
    search (rules, tests)
