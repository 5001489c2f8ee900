-- How a link's counts go on.
use Rattle.std.specs.Prelude.{◌≤◌}
use Rattle.ripngd_udp.specs.declared.endpoint.Counts.{Counts}

-- no count is less than before
abbrev pub Grows : Counts → Counts → Type 0
Grows before after = (before.failed_sends ≤ after.failed_sends) × (before.lost_arrivals ≤ after.lost_arrivals) × (before.strangers ≤ after.strangers)
