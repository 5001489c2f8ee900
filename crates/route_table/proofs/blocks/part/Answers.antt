use Rattle.std.proofs.Common.{sym, ap, ◌∙◌}
use mathlib.Core.Bool.{false≢true}
use Rattle.std.specs.Ordering.{is_lt}
use Rattle.std.specs.Result.{is_ok}
use Rattle.route_table.proofs.BlockChanges.{IsParted, are_parted}
use Rattle.route_table.proofs.TrieWalk.{is_less, less_is}
use Rattle.route_table.proofs.blocks.part.Goals as goal

pub returns-then-lt : goal.returns-then-lt
returns-then-lt c =
    let p = c.args.prefix.now in
    let f = c.first-first.result in
    let parted : IsParted c.args.blocks.now.items c.insert.new.self.items p f c.args.at = are_parted c.args.blocks.now.items c.reserve.new.self.items c.args.at c.index_mut.result.now c.split.new.self c.in_ok-upper.upper c.insert.new.self.items p f
    c.reserve.ensures.items c.index_mut.ensures.value c.in_ok-upper.ensures.ok c.in_ok-upper.ensures.upper (is_ok c.insert.result) c.insert.ensures.items (ap is_ok c.in-Ok.is)
    c.requires.ordered c.requires.home c.requires.full c.first-first.ensures c.in_ok-upper.ensures.room in
    record {
      ok = parted.lower (is_less _ (sym (less_is p f) ∙ sym c.lt.ensures ∙ c.if-lt.true));
      same = parted.same;
      filled = parted.filled;
    }

pub returns-else-lt : goal.returns-else-lt
returns-else-lt c =
    let p = c.args.prefix.now in
    let f = c.first-first.result in
    let parted : IsParted c.args.blocks.now.items c.insert.new.self.items p f c.args.at = are_parted c.args.blocks.now.items c.reserve.new.self.items c.args.at c.index_mut.result.now c.split.new.self c.in_ok-upper.upper c.insert.new.self.items p f
    c.reserve.ensures.items c.index_mut.ensures.value c.in_ok-upper.ensures.ok c.in_ok-upper.ensures.upper (is_ok c.insert.result) c.insert.ensures.items (ap is_ok c.in-Ok.is)
    c.requires.ordered c.requires.home c.requires.full c.first-first.ensures c.in_ok-upper.ensures.room in
    record {
      ok = parted.upper (λ less. false≢true (sym c.if-lt.false ∙ c.lt.ensures ∙ less_is p f ∙ ap is_lt less));
      same = parted.same;
      filled = parted.filled;
    }
