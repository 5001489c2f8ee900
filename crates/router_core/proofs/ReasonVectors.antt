-- Which row of the table of adoption an offer falls under, on worked examples: both sides of each comparison.
use Rattle.std.specs.Prelude.{◌≡◌, false, refl, Some, None}
use Rattle.router_core.specs.Adoption.{reason}
use Rattle.router_core.specs.Owning.{owned_route}
use Rattle.router_core.specs.declared.reason.Reason.TheVariants.{Nothing, Added, Owned, GivenUp, Refreshed, Cheaper, Older, Dearer, Young, Revived, Gone}
use Rattle.router_core.proofs.Vectors.{from, offer, held, gone}

-- over an interface of cost 1, fifteen hops are the farthest
farthest_added : reason (from 2 0) None (offer 2 14) ≡ Added
farthest_added = refl

too_far_is_nothing : reason (from 2 0) None (offer 2 15) ≡ Nothing
too_far_is_nothing = refl

own_is_owned : reason (from 2 0) (Some (owned_route 7)) (offer 2 1) ≡ Owned
own_is_owned = refl

own_at_infinity : reason (from 2 0) (Some (owned_route 7)) (offer 2 16) ≡ Owned
own_at_infinity = refl

-- its own gateway, whatever the metric was
told_again : reason (from 2 1_000) (Some (held 2 2 180_000 false)) (offer 2 14) ≡ Refreshed
told_again = refl

given_up : reason (from 2 1_000) (Some (held 2 2 180_000 false)) (offer 2 15) ≡ GivenUp
given_up = refl

-- another gateway, one hop nearer, as far, and farther
nearer : reason (from 3 1) (Some (held 3 2 180_000 false)) (offer 3 1) ≡ Cheaper
nearer = refl

as_far_too_early : reason (from 3 89_999) (Some (held 3 2 180_000 false)) (offer 3 2) ≡ Young
as_far_too_early = refl

as_far_half_way : reason (from 3 90_000) (Some (held 3 2 180_000 false)) (offer 3 2) ≡ Older
as_far_half_way = refl

farther_half_way : reason (from 3 90_000) (Some (held 3 2 180_000 false)) (offer 3 3) ≡ Dearer
farther_half_way = refl

-- the same address on another interface is another gateway
other_interface : reason (record (from 2 1) { iface = 1 }) (Some (held 2 2 180_000 false)) (offer 2 1) ≡ Young
other_interface = refl

-- a route that is dying
comes_back : reason (from 3 1) (Some (gone 121_000)) (offer 3 14) ≡ Revived
comes_back = refl

stays_gone : reason (from 3 1) (Some (gone 121_000)) (offer 3 15) ≡ Gone
stays_gone = refl
