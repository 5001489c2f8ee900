use Rattle.std.proofs.Common.{◌≡◌, ◌≤◌, length, take}
use Rattle.toml.specs.View.{items_view}
use Rattle.ripngd_config.specs.Values.{AreItems}
use Rattle.ripngd_config.proofs.section.items_at.Given as goal

abbrev pub invariant-loop-index : goal.invariant-loop-index
invariant-loop-index g l = record {
  room : length l.items ≤ l.found.cap;
  count : length l.found.items ≡ l.index-counter;
  read : AreItems g.T.FromItem.is_item (items_view (take l.index-counter l.items)) l.found.items;
}
