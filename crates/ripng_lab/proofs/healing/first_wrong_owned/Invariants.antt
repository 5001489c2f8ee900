use Rattle.std.proofs.Common.{◌≡◌, drop, not}
use Rattle.std.specs.List.{list_any}
use Rattle.ripng_lab.specs.Healing.{has_wrong_owned, is_right, owned_at}
use Rattle.ripng_lab.proofs.healing.first_wrong_owned.Given as goal

abbrev pub invariant-loop-owned : goal.invariant-loop-owned
invariant-loop-owned l =
    list_any (λ t. not (is_right l.lab l.router l.neighbors t.0)) (drop l.owned-index (owned_at l.lab l.router)) ≡ has_wrong_owned l.lab l.router l.neighbors
