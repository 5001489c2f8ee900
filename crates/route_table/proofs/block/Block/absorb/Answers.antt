use Rattle.std.proofs.Common.{◌≡◌, ◌++◌, length, ap, ◌∙◌, arith}
use Rattle.std.specs.Result.{is_ok}
use Rattle.route_table.proofs.BlockEdits.{absorbed_block, taken}
use Rattle.route_table.proofs.block.Block.absorb.Goals as goal

pub invariant_of-self : goal.invariant_of-self
invariant_of-self c =
    let us = c.upper.inside.routes.items in
    let is : c.extend_from_slice.new.self.items ≡ c.self.inside.routes.items ++ us = taken (is_ok c.extend_from_slice.result) _ _ _ c.extend_from_slice.ensures.items (ap is_ok c.in-Ok.is) ∙ ap (λ l. c.self.inside.routes.items ++ l) c.deref.ensures.value in
    absorbed_block c.self.inside.first c.self.inside.bound c.self.inside.routes.items c.self.invariant c.upper.inside.first c.upper.inside.bound us c.upper.invariant c.and-self-inside.result c.extend_from_slice.new.self.items
    (rw (← c.self.view_is) at c.requires.some) (rw (← c.self.view_is, ← c.upper.view_is) at c.requires.ordered) is c.and-self-inside.ensures
    (omega (arith, c.if-len-min.false, c.min.ensures, c.len.ensures.value, c.len-2.ensures.value, ap length c.self.view_is, ap length c.upper.view_is))
