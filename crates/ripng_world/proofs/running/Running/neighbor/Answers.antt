use Rattle.std.proofs.Common.{◌≢◌, ℕ, Option, IsNone, refl, subst, sym, rules, ◌<◌}
use Rattle.ripng_world.specs.Path.{LeadsTo}
use Rattle.ripng_world.specs.Walks.{Hop}
use Rattle.ripng_world.proofs.Mapped.{counts_up, first_mapped, of_none}
use Rattle.ripng_world.proofs.PathNeighbors.{led_inside}
use Rattle.ripng_world.proofs.running.Running.neighbor.Goals as goal

pub returns-clause-none : goal.returns-clause-none
returns-clause-none g c = λ none h leads.
    let leads_off : ℕ → Option Hop → Type 0 = λ other o. IsNone o → (h : Hop) → LeadsTo c.args.self.now.network c.args.router c.args.iface c.args.next_hop h → h.router ≢ other in
    let found = first_mapped (λ k. k) c.routers.result leads_off c.find_map.result c.find_map.ensures.runs (counts_up c.routers.result) (λ x o q called. search rules) in
    of_none c.find_map.result _ _ none found h.router
    (subst (λ (n : ℕ). h.router < n) (sym c.routers.ensures) (led_inside c.args.self.now.network c.args.router c.args.iface c.args.next_hop h leads))
    refl h leads refl
