use Rattle.std.proofs.Common.{◌≤◌, map, length, sym, ap, ◌∙◌, arith}
use Rattle.std.specs.Option.{option_copied}
use Rattle.std.proofs.lemmas.List.{length-map}
use Rattle.std.proofs.lemmas.Option.{slice_get_past}
use Rattle.ripng_world.specs.Stations.{StationValue}
use Rattle.ripng_world.proofs.running.Running.router.Goals as goal

pub returns-in_err-get : goal.returns-in_err-get
returns-in_err-get g c =
    let over = c.in_err-get.ensures.lookup.3 in
    let many : length (map (λ (s : StationValue). s.state) c.self.inside.stations.items) ≤ c.args.router =
    omega (arith, over, ap length c.deref.ensures.value, length-map c.self.inside.stations.items (λ (s : StationValue). s.state)) in
    rw (← c.self.view_is) (ap option_copied c.from_residual.ensures ∙ sym (slice_get_past (map (λ (s : StationValue). s.state) c.self.inside.stations.items) c.args.router many))
