use Rattle.std.proofs.Common.{◌≡◌, [], ◌-◌, ◌++◌, length, take, sym, ap, ◌∙◌, arith, append-nil}
use Rattle.route_table.specs.Summary.{wanted_of}
use Rattle.route_table.specs.Table.{past}
use Rattle.route_table.proofs.BlockBounds.{none_listed}
use Rattle.route_table.proofs.PastPrefix.{take_none}
use Rattle.route_table.proofs.WantedLists.{all_wanted}
use Rattle.route_table.proofs.block.Block.list_wanted.Goals as goal

pub returns-then-not-may_be_in-clause-items : goal.returns-then-not-may_be_in-clause-items
returns-then-not-may_be_in-clause-items c =
    let es = c.self.inside.routes.items in
    let out = c.args.out.now.items in
    let none : wanted_of c.args.wanted (past c.args.after.now es) ≡ [] = none_listed c.args.wanted c.args.after.now c.self.inside.bound es (sym c.may_be_in.ensures ∙ c.if-not-may_be_in.true) c.self.invariant.covered in
    rw (← c.self.view_is) (sym (ap (λ l. out ++ take c.args.most l) none ∙ ap (λ l. out ++ l) (take_none c.args.most) ∙ append-nil out))

pub returns-then-not-may_be_in-clause-left : goal.returns-then-not-may_be_in-clause-left
returns-then-not-may_be_in-clause-left c =
    let es = c.self.inside.routes.items in
    let none : wanted_of c.args.wanted (past c.args.after.now es) ≡ [] = none_listed c.args.wanted c.args.after.now c.self.inside.bound es (sym c.may_be_in.ensures ∙ c.if-not-may_be_in.true) c.self.invariant.covered in
    rw (← c.self.view_is) (omega (arith, ap length none))

pub returns-in-Any-clause-items : goal.returns-in-Any-clause-items
returns-in-Any-clause-items c =
    rw c.in-Any.is (c.list_run.ensures.items ∙ ap (λ l. c.args.out.now.items ++ take c.args.most l) (all_wanted (past c.args.after.now c.args.self.now)))

pub returns-in-Any-clause-left : goal.returns-in-Any-clause-left
returns-in-Any-clause-left c =
    rw c.in-Any.is (c.list_run.ensures.left ∙ ap (λ l. c.args.most - length l) (all_wanted (past c.args.after.now c.args.self.now)))
