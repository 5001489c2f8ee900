use Rattle.std.proofs.Common.{rules, ◌-◌}
use Rattle.router_core.specs.Changes.{forwards}
use Rattle.ripng_world.proofs.Mapped.{counts_down, first_mapped}
use Rattle.ripng_world.proofs.PathMatches.{HopAt, found_longest, found_none}
use Rattle.ripng_world.proofs.path.longest_match.Goals as goal

pub returns-clause-found : goal.returns-clause-found
returns-clause-found g c =
    let table = forwards (g.S.RouteStore.table c.args.routes.now) in
    found_longest table c.args.addr c.find_map.result
    (first_mapped (λ k. 129 - 1 - k) 129 (HopAt table c.args.addr) c.find_map.result c.find_map.ensures.runs (counts_down 129 c.rev.ensures.runs) (λ x o q called. search rules))

pub returns-clause-none : goal.returns-clause-none
returns-clause-none g c = λ none.
    let table = forwards (g.S.RouteStore.table c.args.routes.now) in
    found_none table c.args.addr c.find_map.result none
    (first_mapped (λ k. 129 - 1 - k) 129 (HopAt table c.args.addr) c.find_map.result c.find_map.ensures.runs (counts_down 129 c.rev.ensures.runs) (λ x o q called. search rules))
