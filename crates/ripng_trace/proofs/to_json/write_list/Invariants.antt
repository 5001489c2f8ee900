use Rattle.std.proofs.Common.{◌∷◌, flat_map, take}
use Rattle.json.specs.Token.{begin_array}
use Rattle.json.specs.Tree.{json_tokens}
use Rattle.ripng_trace.specs.Growing.{Grows}
use Rattle.ripng_trace.proofs.to_json.write_list.Given as goal

abbrev pub invariant-loop-value : goal.invariant-loop-value
invariant-loop-value g l =
    Grows l.fn.text l.text (begin_array ∷ flat_map (λ value. json_tokens (g.T.ToJson.json value)) (take l.value-index l.values))
