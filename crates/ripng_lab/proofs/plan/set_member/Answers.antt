use Rattle.std.proofs.Common.{rules, ◌≡◌, ◌==◌, ◌++◌, ◌∷◌, [], Bool, not, ap, sym, ◌∙◌}
use Rattle.std.specs.List.{filter}
use Rattle.std.proofs.lemmas.Fn.{filter_same}
use Rattle.ripng_lab.specs.Plans.{with_member}
use Rattle.ripng_lab.proofs.plan.set_member.Goals as goal

pub returns-in_ok-push : goal.returns-in_ok-push
returns-in_ok-push c =
    let left : c.retain.new.self.items ≡ filter (λ y. not (y == c.args.member)) c.args.members.now.items = filter_same _ _ _ (λ x b f' k. search rules) _ _ c.retain.ensures.filtered in
    c.in_ok-push.ensures.items ∙ ap (λ xs. xs ++ c.args.member ∷ []) left ∙ ap (λ (b : Bool). with_member b c.args.member c.args.members.now.items) (sym c.if-is_in.true)

pub returns-else-is_in : goal.returns-else-is_in
returns-else-is_in c =
    let left : c.retain.new.self.items ≡ filter (λ y. not (y == c.args.member)) c.args.members.now.items = filter_same _ _ _ (λ x b f' k. search rules) _ _ c.retain.ensures.filtered in
    left ∙ ap (λ (b : Bool). with_member b c.args.member c.args.members.now.items) (sym c.if-is_in.false)
