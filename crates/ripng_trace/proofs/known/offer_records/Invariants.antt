use Rattle.std.proofs.Common.{◌≡◌, ◌++◌, drop}
use Rattle.ripng_trace.specs.Offers.{offer_records, records_from}
use Rattle.ripng_trace.proofs.known.offer_records.Given as goal

abbrev pub invariant-loop-number : goal.invariant-loop-number
invariant-loop-number l =
    l.records.items ++ records_from l.known l.notes l.offers l.number (drop l.number l.offers)
    ≡ offer_records l.known l.notes l.offers
