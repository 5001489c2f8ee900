use Rattle.std.proofs.Common.{◌≡◌, ◌∙◌, ◌∷◌, List, arith, flat_map, subst, take}
use Rattle.std.proofs.lemmas.List.{take_all}
use Rattle.json.specs.Token.{begin_object, key}
use Rattle.json.specs.Tree.{json_tokens}
use Rattle.ripngd_control.specs.Json.{Grows, refusal_name, refused_by}
use Rattle.ripngd_control.specs.Printed.{every_refusal}
use Rattle.ripngd_control.proofs.Jsons.{Grows-then, object_tokens}
use Rattle.ripngd_control.proofs.status_json.write_refused.Goals as goal

pub returns : goal.returns
returns c =
    let refusals = c.args.refusals.now in
    let items = c.as_slice-refusal-items.result.now in
    let past = c.loop-refusal-test.false in
    let all : take c.loop-refusal.refusal-index items ≡ every_refusal = take_all c.loop-refusal.refusal-index items (omega (arith, past)) ∙ c.as_slice-refusal-items.ensures in
    let members = subst (λ (rs : List _). Grows c.args.text.now c.loop-refusal.text (begin_object ∷ flat_map (λ r. key (refusal_name r) ∷ json_tokens (refused_by refusals r)) rs)) all c.loop-refusal.invariant in
    subst (Grows c.args.text.now c.token-2.new.self) (object_tokens refusal_name (refused_by refusals) every_refusal) (Grows-then members c.token-2.ensures)
