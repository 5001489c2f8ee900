use Rattle.std.proofs.Common.{◌<◌, [], ◌∷◌, ◌++◌, List, length, sym, subst, ap, ap₂, ◌∙◌, arith}
use Rattle.std.proofs.lemmas.List.Elements.{All-push}
use Rattle.route_table.specs.Place.{Entries}
use Rattle.route_table.specs.Blocks.{joined, AreFilled}
use Rattle.route_table.proofs.BlockChanges.{joined_push}
use Rattle.route_table.proofs.blocks.append.Goals as goal

pub returns-clause-ok : goal.returns-clause-ok
returns-clause-ok c =
    ap joined (c.push_reserved.ensures.items ∙ ap₂ (λ (xs : List Entries) (b : Entries). xs ++ b ∷ []) c.reserve.ensures.items c.in_ok-block.ensures)
    ∙ joined_push c.args.blocks.now.items c.args.prefix c.args.route c.requires.behind

pub returns-clause-filled : goal.returns-clause-filled
returns-clause-filled c =
    subst AreFilled (sym (c.push_reserved.ensures.items ∙ ap₂ (λ (xs : List Entries) (b : Entries). xs ++ b ∷ []) c.reserve.ensures.items c.in_ok-block.ensures))
    (All-push (λ (b : Entries). 0 < length b) c.args.blocks.now.items ((c.args.prefix, c.args.route) ∷ []) c.requires.filled (omega arith))
