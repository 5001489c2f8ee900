use Rattle.std.proofs.Common.{◌≡◌, ◌∙◌, rules, subst}
use Rattle.json.specs.Json.{Json}
use Rattle.json.specs.Tree.{json_tokens}
use Rattle.ripng_trace.specs.Growing.{Grows}
use Rattle.ripng_trace.proofs.Routes.{route_parts}
use Rattle.ripng_trace.proofs.to_json.records.Tuple2PrefixRouteToJson.write_json.Goals as goal

pub returns : goal.returns
returns c =
    let until : c.map.result ≡ c.deadline.result = search rules in
    subst (λ (json : Json). Grows c.args.text.now c.object.new.self (json_tokens json))
    (route_parts c.args.self.now.0 c.args.self.now.1 c.metric.result c.tag.result c.origin.result c.map.result c.is_changed.result
    c.metric.ensures.value c.tag.ensures c.origin.ensures.value (until ∙ c.deadline.ensures) c.is_changed.ensures)
    c.object.ensures
