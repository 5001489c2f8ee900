-- What is sent while all tables keep a bound keeps it too.
use Rattle.std.proofs.Common.{◌≡◌, ◌⊎◌, inl, inr, ℕ, ◌<◌, ◌≤◌, List, ◌++◌, length, Some, slice_get, ap, sym, subst, ◌∙◌, arith}
use Rattle.route_table.specs.Route.{infinity}
use Rattle.route_table.proofs.TableLaws.{Some-same}
use Rattle.router_core.specs.Offers.{prefix_named}
use Rattle.router_core.proofs.HearingSteps.{at_place}
use Rattle.ripng_world.specs.Network.{Network}
use Rattle.ripng_world.specs.World.{World}
use Rattle.ripng_world.specs.declared.event.Sent.{Sent}
use Rattle.ripng_world.proofs.Each.{each_at_place}
use Rattle.ripng_world.proofs.Members.{At, get_left, get_right}
use Rattle.ripng_phases.proofs.Bounding.{TablesAbove, SaidAbove}
use Rattle.ripng_phases.proofs.Resting.{IsAbove, row_above}
use Rattle.ripng_phases.proofs.Sending.{IsToldTruly, TellsTruly}
use Rattle.ripng_phases.proofs.Telling.{IsTrueOf}

split : (a b : ℕ) → (b ≤ a) ⊎ (a < b)
split a b = grind arith

pub said_on : (net : Network) (w w' : World) (first m : ℕ) → TellsTruly w w' → TablesAbove net w' m → SaidAbove net w first m → SaidAbove net w' first m
said_on net w w' first m tells tables said i d late is entries spelled e stands low =
    elim (split i (length w.sent)) [
      | inl new ↦ of_new (get_right w.sent tells.0 i d new there)
      | inr old ↦
          let was = at_place w.sent i old in
          let same : was.0 ≡ d = Some-same was.0 d (sym (get_left w.sent tells.0 i was.0 was.1) ∙ there) in
          said i d late (was.1 ∙ ap Some same) entries spelled e stands low
    ]
  where
    there : slice_get (w.sent ++ tells.0) i ≡ Some d
    there = ap (λ (ds : List Sent). slice_get ds i) (sym tells.1) ∙ is

    of_new : At tells.0 d → IsAbove net m d.router (prefix_named e) e.metric
    of_new a =
        let told : IsToldTruly w' d = each_at_place (IsToldTruly w') tells.0 tells.2 a.0 d a.1 in
        let r = (each_at_place (IsTrueOf told.0.config told.0.table d.iface) entries (told.2 entries spelled) stands.0 e stands.1).low low in
        subst (IsAbove net m d.router (prefix_named e)) r.2
        (row_above net m d.router (prefix_named e) r.0 (tables d.router (prefix_named e) r.0 (told.0, told.1, r.1) (subst (λ n. n < infinity) (sym r.2) low)))
