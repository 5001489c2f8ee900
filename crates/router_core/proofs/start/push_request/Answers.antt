use Rattle.std.proofs.Common.{[], ◌∷◌, List, cond, length, ap, sym, subst, ◌∙◌, arith}
use Rattle.std.proofs.lemmas.List.{length-append}
use Rattle.router_core.specs.Output.{Message, AddsSpelled, asked_on, request_on}
use Rattle.router_core.proofs.Sending.{AddsSpelled-none, AddsSpelled-one}
use Rattle.router_core.proofs.start.push_request.Goals as goal

pub returns-then-is_passive-clause-spelled : goal.returns-then-is_passive-clause-spelled
returns-then-is_passive-clause-spelled c =
    AddsSpelled-none (asked_on c.args.config.now c.args.iface) c.args.sends.now.items
    (ap (λ b. cond b [] (request_on c.args.iface ∷ [])) (sym c.is_passive.ensures.value ∙ c.if-is_passive.true))

pub returns-clause-spelled : goal.returns-clause-spelled
returns-clause-spelled c =
    let active = ap (λ b. cond b [] (request_on c.args.iface ∷ [])) (sym c.is_passive.ensures.value ∙ c.if-is_passive.false) in
    subst (λ (ms : List Message). AddsSpelled ms c.args.sends.now.items c.push.new.self.items) (sym active)
    (AddsSpelled-one (request_on c.args.iface) c.in_ok-request.field-0 c.args.sends.now.items c.push.new.self.items c.in_ok-push.ensures.items c.in_ok-request.ensures)

pub returns-clause-few : goal.returns-clause-few
returns-clause-few c =
    omega (arith, ap length c.in_ok-push.ensures.items, length-append c.args.sends.now.items (c.in_ok-request.field-0 ∷ []))
