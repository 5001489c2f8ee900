use Rattle.std.proofs.Common.{sym, ◌∙◌, arith}
use Rattle.std.proofs.Common.{◌-◌, length, drop, length-drop}
use Rattle.std.proofs.lemmas.List.{take_all}
use Rattle.route_table.proofs.PastPrefix.{past_from}
use Rattle.route_table.proofs.run.past.Goals as goal

pub returns : goal.returns
returns c =
    let es = c.args.routes.now in
    let at = c.place_past.result in
    take_all (length es - at) (drop at es) (omega (arith, length-drop at es, c.place_past.ensures.in_range)) ∙ sym (past_from c.args.after es at c.requires c.place_past.ensures)
