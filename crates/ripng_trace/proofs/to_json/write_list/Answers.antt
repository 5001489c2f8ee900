use Rattle.std.proofs.Common.{◌∷◌, List, flat_map, subst}
use Rattle.std.proofs.lemmas.List.{take_all}
use Rattle.json.specs.Token.{begin_array}
use Rattle.json.specs.Tree.{json_tokens}
use Rattle.ripng_trace.specs.Growing.{Grows}
use Rattle.ripng_trace.proofs.Growing.{Grows-then, list_tokens}
use Rattle.ripng_trace.proofs.to_json.write_list.Goals as goal

pub returns : goal.returns
returns g c =
    let json = g.T.ToJson.json in
    let all = take_all c.loop-value.value-index c.args.values.now c.loop-value-test.false in
    let values =
    subst (λ (xs : List _). Grows c.args.text.now c.loop-value.text (begin_array ∷ flat_map (λ value. json_tokens (json value)) xs)) all c.loop-value.invariant in
    subst (Grows c.args.text.now c.token-2.new.self) (list_tokens json c.args.values.now) (Grows-then values c.token-2.ensures)
