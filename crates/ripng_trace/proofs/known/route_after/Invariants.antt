use Rattle.std.proofs.Common.{◌≡◌, drop, fold}
use Rattle.ripng_trace.specs.Offers.{route_after, with_offer}
use Rattle.ripng_trace.proofs.known.route_after.Given as goal

abbrev pub invariant-loop-offered : goal.invariant-loop-offered
invariant-loop-offered l =
    fold (with_offer l.notes l.prefix) l.held (drop l.offered-index l.offers) ≡ route_after l.known l.notes l.offers l.prefix
