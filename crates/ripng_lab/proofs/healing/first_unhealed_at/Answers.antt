use Rattle.std.proofs.Common.{◌≡◌, List, None, false, subst}
use Rattle.ripng_lab.specs.Below.{Neighbor}
use Rattle.ripng_lab.specs.Healing.{has_wrong, has_wrong_heard, has_wrong_owned}
use Rattle.ripng_lab.proofs.Handing.{if_ok_as}
use Rattle.ripng_lab.proofs.Healed.{right_everywhere}
use Rattle.ripng_lab.proofs.healing.first_unhealed_at.Goals as goal

pub returns-clause-none : goal.returns-clause-none
returns-clause-none c =
    if_ok_as c.first_wrong_heard.result _ _
    (λ found none is speaks p.
    right_everywhere c.args.outages.now c.args.lab.now c.args.router c.in_ok-neighbors.neighbors.items c.in_ok-neighbors.ensures
    (subst (λ (ns : List Neighbor). has_wrong_owned c.args.lab.now c.args.router ns ≡ false) c.deref-2.ensures.value (c.first_wrong_owned.ensures.none c.in_default.is))
    (subst (λ (ns : List Neighbor). has_wrong c.args.lab.now c.args.router ns c.args.router ≡ false) c.deref-3.ensures.value (c.in_ok-prefix.ensures.none c.in_default-2.is))
    (subst (λ (ns : List Neighbor). has_wrong_heard c.args.lab.now c.args.router ns ns ≡ false) c.deref-4.ensures.value (none is))
    p)
    c.first_wrong_heard.ensures.none
