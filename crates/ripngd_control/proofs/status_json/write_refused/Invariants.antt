use Rattle.std.proofs.Common.{◌∷◌, flat_map, take}
use Rattle.json.specs.Token.{begin_object, key}
use Rattle.json.specs.Tree.{json_tokens}
use Rattle.ripngd_control.specs.Json.{Grows, refusal_name, refused_by}
use Rattle.ripngd_control.proofs.status_json.write_refused.Given as goal

-- the members of the rules so far are written
abbrev pub invariant-loop-refusal : goal.invariant-loop-refusal
invariant-loop-refusal l =
    Grows l.fn.text l.text (begin_object ∷ flat_map (λ r. key (refusal_name r) ∷ json_tokens (refused_by l.refusals r)) (take l.refusal-index l.refusal-items))
