use Rattle.std.proofs.Common.{◌≡◌, ℕ, ◌<◌, ◌≤◌, List, length, get_or, Option, None, Some, IfSome, MatchOption, slice_get, sym, ap, ◌∙◌}
use Rattle.std.specs.Borrow.{Bor}
use Rattle.std.specs.Option.{option_copied}
use Rattle.std.proofs.lemmas.Option.{slice_get-get_or, slice_get_past}
use Rattle.ripng_world.specs.declared.network.NetInterface.{NetInterface}
use Rattle.ripng_world.proofs.Refusals.{interface_of, no_interface}
use Rattle.ripng_world.proofs.station.interface_at.Goals as goal

-- what is copied of a list, at a place that may be past its end
looked_up : {X : Type 0} (o : Option (Bor X)) (xs : List X) (i : ℕ) (P : Bor X → Type 0) → IfSome o (λ x. x.now ≡ get_or xs i x.now) → MatchOption o (length xs ≤ i) (λ x. (i < length xs) × P x)
    → option_copied o ≡ slice_get xs i
looked_up None xs i P is there = sym (slice_get_past xs i there)
looked_up (Some x) xs i P is there = sym (slice_get-get_or xs i x.now there.0 ∙ ap Some (sym is))

pub returns : goal.returns
returns g c =
    let stations = c.args.stations.now in
    let station = c.in_ok-get.field-0.now in
    let here = slice_get-get_or stations c.args.router station c.in_ok-get.ensures.lookup.3.0 ∙ ap Some (sym c.in_ok-get.ensures.lookup.1) in
    let own : c.copied.result ≡ slice_get c.interfaces.result.now c.args.iface = c.copied.ensures ∙ looked_up c.get-2.result c.interfaces.result.now c.args.iface _ c.get-2.ensures.lookup.1 c.get-2.ensures.lookup.3 in
    own ∙ ap (λ (is : List NetInterface). slice_get is c.args.iface) c.interfaces.ensures ∙ sym (interface_of stations c.args.router c.args.iface station here)

pub returns-in_err-get : goal.returns-in_err-get
returns-in_err-get g c = c.from_residual.ensures ∙ sym (no_interface c.args.stations.now c.args.router c.args.iface c.in_err-get.ensures.lookup.3)
