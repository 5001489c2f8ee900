use Rattle.std.proofs.Common.{◌≡◌, refl, set, sym, subst, ap, Some, ◌∙◌}
use Rattle.prefix6.specs.Places.{IsAt}
use Rattle.prefix6.proofs.SortedEntries.{find_at, put_at}
use Rattle.route_table.proofs.TrieLists.{Entry}
use Rattle.route_table.proofs.BlockEdits.{set_block, covers_changed}
use Rattle.route_table.proofs.block.Block.update.Goals as goal

pub bound_of-self-inside-requires : goal.bound_of-self-inside-requires
bound_of-self-inside-requires g c = covers_changed c.self.inside.bound c.of-summary.result c.and-bound.result c.self.inside.routes.items c.deref.result.now c.args.at c.index_mut.result.now.0 c.change-answer.new.arg2 c.self.invariant.covered c.of-summary.ensures c.and-bound.ensures c.deref.ensures.value

pub invariant_of-self : goal.invariant_of-self
invariant_of-self g c =
    let es = c.self.inside.routes.items in
    let old = c.index_mut.result.now in
    let a : IsAt es c.args.prefix.now c.args.at = rw (← c.self.view_is) at c.requires.place in
    let same : old.0 ≡ c.args.prefix.now = ap (λ (e : Entry). e.0) c.index_mut.ensures.value ∙ a.has_prefix old in
    set_block c.self.inside.first c.self.inside.bound es c.self.invariant old.0 c.change-answer.new.arg2 c.args.at c.bound_of-self-inside.result (subst (λ q. IsAt es q c.args.at) (sym same) a) (rw c.deref.ensures.value at c.bound_of-self-inside.ensures)

pub returns : goal.returns
returns g c =
    let es = c.self.inside.routes.items in
    let old = c.index_mut.result.now in
    let p = c.args.prefix.now in
    let r = c.change-answer.new.arg2 in
    let a : IsAt es p c.args.at = rw (← c.self.view_is) at c.requires.place in
    let same : old.0 ≡ p = ap (λ (e : Entry). e.0) c.index_mut.ensures.value ∙ a.has_prefix old in (
      record {
        before = old.1;
        after = r;
        held = rw (← c.self.view_is) (find_at es p c.args.at old c.self.invariant.sorted a ∙ ap (λ (e : Entry). Some e.1) (sym c.index_mut.ensures.value));
        made = record { shown = _; shows = refl; left = _; met = c.change-answer.ensures; leaves = refl };
        placed = rw (← c.self.view_is) (ap (λ q. set es c.args.at (q, r)) same ∙ sym (put_at es p r c.args.at c.self.invariant.sorted a));
      },
      c.of-summary.ensures,
    )
