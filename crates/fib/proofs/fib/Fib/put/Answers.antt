use Rattle.std.proofs.Common.{sym, subst, ◌∙◌}
use mathlib.Core.Bool.{false≢true}
use Rattle.std.specs.Prelude.{IsSome}
use Rattle.fib.specs.Blocks.{joined, forward_in, IsFib, IsVacant}
use Rattle.fib.proofs.BlockChanges.{none_vacant}
use Rattle.fib.proofs.Tables.{added, replaced, table_put, get_is}
use Rattle.fib.proofs.fib.Fib.put.Goals as goal

pub invariant_of-self : goal.invariant_of-self
invariant_of-self c = replaced c.self.inside.count c.self.inside.blocks.items c.self.invariant c.replace.new.blocks.items c.replace.ensures.filled c.args.prefix (record { hop = c.args.hop; metric = c.args.metric }) (forward_in c.replace.result) c.replace.ensures.was c.replace.ensures.now

pub returns-in-Ok-clause-was : goal.returns-in-Ok-clause-was
returns-in-Ok-clause-was c = sym (get_is (joined c.self.inside.blocks.items) c.self.invariant.blocks.sorted c.args.self.now c.self.view_is c.args.prefix ∙ c.replace.ensures.was)

pub returns-in-Ok-clause-ok : goal.returns-in-Ok-clause-ok
returns-in-Ok-clause-ok c = table_put (joined c.self.inside.blocks.items) c.self.invariant.blocks.sorted c.args.self.now c.self.view_is c.args.prefix (record { hop = c.args.hop; metric = c.args.metric }) (joined c.replace.new.blocks.items) (sym c.replace.ensures.now)

pub returns-in_default-clause-present : goal.returns-in_default-clause-present
returns-in_default-clause-present c some =
    let vacant : IsVacant c.self.inside.blocks.items c.args.prefix c.in-Err.place = rw c.deref.ensures.value at c.in-Err.ensures.absent in
    absurd (false≢true (subst IsSome (get_is (joined c.self.inside.blocks.items) c.self.invariant.blocks.sorted c.args.self.now c.self.view_is c.args.prefix ∙ none_vacant c.self.inside.blocks.items c.args.prefix c.in-Err.place vacant) some))

pub returns-in_err-add-in-Err-clause-present : goal.returns-in_err-add-in-Err-clause-present
returns-in_err-add-in-Err-clause-present c some =
    let vacant : IsVacant c.self.inside.blocks.items c.args.prefix c.in-Err.place = rw c.deref.ensures.value at c.in-Err.ensures.absent in
    absurd (false≢true (subst IsSome (get_is (joined c.self.inside.blocks.items) c.self.invariant.blocks.sorted c.args.self.now c.self.view_is c.args.prefix ∙ none_vacant c.self.inside.blocks.items c.args.prefix c.in-Err.place vacant) some))

pub invariant_of-self-in-Err : goal.invariant_of-self-in-Err
invariant_of-self-in-Err c =
    let vacant : IsVacant c.self.inside.blocks.items c.args.prefix c.in-Err.place = rw c.deref.ensures.value at c.in-Err.ensures.absent in
    subst (λ k. IsFib k c.add.new.blocks.items) (sym c.in-Some.ensures.1)
    (added c.self.inside.count c.self.inside.blocks.items c.self.invariant c.add.new.blocks.items c.add.ensures.filled c.args.prefix (record { hop = c.args.hop; metric = c.args.metric }) (none_vacant c.self.inside.blocks.items c.args.prefix c.in-Err.place vacant) c.in_ok-add-in-Err.ensures.ok)

pub returns-in_ok-add-in-Err-clause-was : goal.returns-in_ok-add-in-Err-clause-was
returns-in_ok-add-in-Err-clause-was c =
    let vacant : IsVacant c.self.inside.blocks.items c.args.prefix c.in-Err.place = rw c.deref.ensures.value at c.in-Err.ensures.absent in
    sym (get_is (joined c.self.inside.blocks.items) c.self.invariant.blocks.sorted c.args.self.now c.self.view_is c.args.prefix ∙ (none_vacant c.self.inside.blocks.items c.args.prefix c.in-Err.place vacant))

pub returns-in_ok-add-in-Err-clause-ok : goal.returns-in_ok-add-in-Err-clause-ok
returns-in_ok-add-in-Err-clause-ok c = table_put (joined c.self.inside.blocks.items) c.self.invariant.blocks.sorted c.args.self.now c.self.view_is c.args.prefix (record { hop = c.args.hop; metric = c.args.metric }) (joined c.add.new.blocks.items) (sym c.in_ok-add-in-Err.ensures.ok)
