use Rattle.std.proofs.Common.{sym, ◌∙◌}
use Rattle.route_table.proofs.BlockEdits.{gap_at_end}
use Rattle.route_table.proofs.TrieWalk.{is_less, less_is}
use Rattle.route_table.proofs.run.search_from_end.Goals as goal

pub returns-then-lt-clause-absent : goal.returns-then-lt-clause-absent
returns-then-lt-clause-absent c =
    gap_at_end c.args.routes.now c.index-routes-len.result c.args.prefix.now c.requires c.if-len-ne0.true
    (is_less _ (sym (less_is _ c.args.prefix.now) ∙ sym c.lt.ensures ∙ c.if-lt.true))
