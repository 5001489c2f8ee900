use Rattle.std.proofs.Common.{◌≡◌, length, sym, ap, ◌∙◌}
use Rattle.route_table.specs.Due.{without_mark}
use Rattle.route_table.specs.Table.{map_entries}
use Rattle.route_table.proofs.SortedMarks.{written_back}
use Rattle.route_table.proofs.TrieMarks.{plain_length}
use Rattle.route_table.proofs.BlockBounds.{plain_already}
use Rattle.route_table.proofs.BlockEdits.{plain_block}
use Rattle.route_table.proofs.block.Block.unmark.Goals as goal

pub returns-then-not-has_changed : goal.returns-then-not-has_changed
returns-then-not-has_changed c = record {
  unmarked = rw (← c.self.view_is) (plain_already c.self.inside.bound c.self.inside.routes.items (sym c.has_changed.ensures ∙ c.if-not-has_changed.true) c.self.invariant.covered);
  covered = rw (← c.self.view_is) c.self.invariant.covered;
}

pub returns-clause-covered : goal.returns-clause-covered
returns-clause-covered c =
    let v = c.self.inside.routes in
    let is : c.unmark.new.routes ≡ map_entries without_mark v.items = c.unmark.ensures ∙ ap (map_entries without_mark) c.deref_mut.ensures.value in
    (plain_block c.self.inside.first c.self.inside.bound v.items c.self.invariant _ c.without_mark-self-inside.result (written_back v.len c.unmark.new.routes v.items v.ok.0 (ap length is ∙ plain_length v.items) ∙ is) c.without_mark-self-inside.ensures).covered

pub invariant_of-self : goal.invariant_of-self
invariant_of-self c =
    let v = c.self.inside.routes in
    let is : c.unmark.new.routes ≡ map_entries without_mark v.items = c.unmark.ensures ∙ ap (map_entries without_mark) c.deref_mut.ensures.value in
    plain_block c.self.inside.first c.self.inside.bound v.items c.self.invariant _ c.without_mark-self-inside.result (written_back v.len c.unmark.new.routes v.items v.ok.0 (ap length is ∙ plain_length v.items) ∙ is) c.without_mark-self-inside.ensures
