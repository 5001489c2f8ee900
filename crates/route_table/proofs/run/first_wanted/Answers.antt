use Rattle.std.proofs.Common.{sym, ◌∙◌}
use Rattle.route_table.specs.Summary.{meets}
use Rattle.route_table.proofs.SortedDue.{starts, goes_on, finds, finds_none}
use Rattle.route_table.proofs.run.first_wanted.Goals as goal

pub loop-k-init : goal.loop-k-init
loop-k-init c = starts (meets c.args.wanted) c.args.after c.args.routes.now _ c.requires c.place_past-k.ensures

pub loop-k-preserved : goal.loop-k-preserved
loop-k-preserved c = goes_on (meets c.args.wanted) c.args.after c.args.routes.now c.loop-k.k c.loop-k.invariant c.index-routes-k.result c.loop-k-test.true c.index-routes-k.is (sym c.is_met_by.ensures ∙ c.if-is_met_by.false)

pub returns-then-is_met_by : goal.returns-then-is_met_by
returns-then-is_met_by c = finds (meets c.args.wanted) c.args.after c.args.routes.now c.loop-k.k c.loop-k.invariant c.index-routes-k.result c.loop-k-test.true c.index-routes-k.is (sym c.is_met_by.ensures ∙ c.if-is_met_by.true)

pub returns : goal.returns
returns c = finds_none (meets c.args.wanted) c.args.after c.args.routes.now c.loop-k.k c.loop-k.invariant c.loop-k-test.false
