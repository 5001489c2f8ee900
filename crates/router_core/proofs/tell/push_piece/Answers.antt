use Rattle.std.proofs.Common.{◌∷◌, ◌∙◌, [], length, refl, ap, arith}
use Rattle.std.proofs.lemmas.List.{length-append}
use Rattle.router_core.specs.declared.answer.Destination.TheVariants.{Group}
use Rattle.router_core.specs.declared.answer.Outgoing.{Outgoing}
use Rattle.router_core.proofs.tell.push_piece.Goals as goal

pub returns-clause-spelled : goal.returns-clause-spelled
returns-clause-spelled c =
    let o : Outgoing = record { iface = c.args.iface; to = Group; bytes = c.from_vec-bytes.result } in
    record {
      added = o ∷ [];
      behind = c.in_ok-push.ensures.items;
      spelled = (record { iface = refl; to = refl; bytes = rw (← c.from_vec-bytes.ensures) at c.in_ok-told_response.ensures }, tt);
    }

pub returns-clause-one : goal.returns-clause-one
returns-clause-one c =
    let o : Outgoing = record { iface = c.args.iface; to = Group; bytes = c.from_vec-bytes.result } in
    let pushed = ap length c.in_ok-push.ensures.items ∙ length-append c.args.sends.now.items (o ∷ []) in
    omega (arith, pushed)
