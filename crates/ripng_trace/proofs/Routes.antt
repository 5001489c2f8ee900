-- The JSON of a route, by its parts.
use Rattle.std.proofs.Common.{◌≡◌, ◌∙◌, ap, ℕ, Bool, [], ◌∷◌, Option, codes}
use Rattle.json.specs.Json.{Json, boolean}
use Rattle.prefix6.specs.Prefix.{Prefix6}
use Rattle.route_table.specs.Route.{RouteValue, deadline}
use Rattle.route_table.specs.declared.route.Origin.{Origin}
use Rattle.ripng_trace.specs.Json.{json_of_origin, json_of_route, number_of, object_of, option_of, prefix_of}

abbrev pub route_as : Prefix6 → ℕ → ℕ → Origin → Option ℕ → Bool → Json
route_as p metric tag origin until marked =
    object_of
    ((codes "prefix", prefix_of p)
    ∷ (codes "metric", number_of metric)
    ∷ (codes "tag", number_of tag)
    ∷ (codes "gateway", json_of_origin origin)
    ∷ (codes "until", option_of number_of until)
    ∷ (codes "marked", boolean marked)
    ∷ [])

pub route_parts : (p : Prefix6) (r : RouteValue) (metric tag : ℕ) (origin : Origin) (until : Option ℕ) (marked : Bool)
    → metric ≡ r.metric → tag ≡ r.tag → origin ≡ r.origin → until ≡ deadline r → marked ≡ r.changed → route_as p metric tag origin until marked ≡ json_of_route (p, r)
unfolding json_of_route
route_parts p r metric tag origin until marked metric-is tag-is origin-is until-is marked-is =
    ap (λ (x : ℕ). route_as p x tag origin until marked) metric-is
    ∙ ap (λ (x : ℕ). route_as p r.metric x origin until marked) tag-is
    ∙ ap (λ (x : Origin). route_as p r.metric r.tag x until marked) origin-is
    ∙ ap (λ (x : Option ℕ). route_as p r.metric r.tag r.origin x marked) until-is
    ∙ ap (λ (x : Bool). route_as p r.metric r.tag r.origin (deadline r) x) marked-is
