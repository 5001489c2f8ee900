use Rattle.std.proofs.Common.{ap, sym, ◌∙◌}
use Rattle.std.specs.Prelude.{ℕ, option_map}
use Rattle.prefix6.specs.Prefix.{Prefix6}
use Rattle.router_core.proofs.Waking.{least_found}
use Rattle.router_core.proofs.router.Router.ages_at.Goals as goal

pub returns-in-None : goal.returns-in-None
returns-in-None g c = ap (option_map (λ (n : ℕ × Prefix6). n.0)) (sym c.in-None.is) ∙ least_found c.args.self.now.table c.next_due.result c.next_due.ensures

pub returns-in-Some : goal.returns-in-Some
returns-in-Some g c = ap (option_map (λ (n : ℕ × Prefix6). n.0)) (sym c.in-Some.is) ∙ least_found c.args.self.now.table c.next_due.result c.next_due.ensures
