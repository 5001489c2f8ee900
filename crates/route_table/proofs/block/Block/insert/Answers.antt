use Rattle.std.proofs.Common.{◌≡◌, length, ap, subst, ◌∙◌, arith}
use Rattle.std.specs.List.{insert}
use Rattle.std.specs.Result.{is_ok}
use Rattle.prefix6.specs.Places.{IsAt, IsGap}
use Rattle.route_table.proofs.BlockEdits.{put_block, put_is, taken, found_absent}
use Rattle.route_table.proofs.block.Block.insert.Goals as goal

pub unreachable-requires : goal.unreachable-requires
unreachable-requires c =
    let items = c.self.inside.routes.items in
    let same : c.deref.result.now ≡ items = c.deref.ensures.value ∙ c.reserve.ensures.items in
    found_absent items c.args.prefix c.in_default.field-0 c.self.invariant.sorted (subst (λ l. IsAt l c.args.prefix c.in_default.field-0) same c.in_default.ensures.found) (rw (← c.self.view_is) at c.requires.absent)

pub invariant_of-self-2 : goal.invariant_of-self-2
invariant_of-self-2 c =
    let items = c.self.inside.routes.items in
    let same : c.deref.result.now ≡ items = c.deref.ensures.value ∙ c.reserve.ensures.items in
    let gap : IsGap items c.args.prefix c.in-Err.at = subst (λ l. IsGap l c.args.prefix c.in-Err.at) same c.in-Err.ensures.absent in
    let is : c.insert.new.self.items ≡ insert items c.in-Err.at (c.args.prefix, c.args.route) = taken (is_ok c.insert.result) _ _ _ c.insert.ensures.items (ap is_ok c.in-Ok.is) ∙ ap (λ l. insert l c.in-Err.at (c.args.prefix, c.args.route)) c.reserve.ensures.items in
    put_block c.self.inside.first c.self.inside.bound items c.self.invariant c.args.prefix c.args.route c.in-Err.at c.insert.new.self.items c.first_of-self-inside.result c.of.result c.and-self-inside.result
    (omega (arith, ap length c.self.view_is, c.requires.room)) gap is (rw c.deref-2.ensures.value at c.first_of-self-inside.ensures) c.of.ensures c.and-self-inside.ensures

pub returns-clause-ok : goal.returns-clause-ok
returns-clause-ok c =
    let items = c.self.inside.routes.items in
    let same : c.deref.result.now ≡ items = c.deref.ensures.value ∙ c.reserve.ensures.items in
    let gap : IsGap items c.args.prefix c.in-Err.at = subst (λ l. IsGap l c.args.prefix c.in-Err.at) same c.in-Err.ensures.absent in
    let is : c.insert.new.self.items ≡ insert items c.in-Err.at (c.args.prefix, c.args.route) = taken (is_ok c.insert.result) _ _ _ c.insert.ensures.items (ap is_ok c.in-Ok.is) ∙ ap (λ l. insert l c.in-Err.at (c.args.prefix, c.args.route)) c.reserve.ensures.items in
    rw (← c.self.view_is) (put_is c.self.inside.first c.self.inside.bound items c.self.invariant c.args.prefix c.args.route c.in-Err.at c.insert.new.self.items gap is)
