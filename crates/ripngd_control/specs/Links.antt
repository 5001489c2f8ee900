-- What is known of a router's links: what was counted at each interface, and what waits to be sent there.
use Rattle.std.specs.Prelude.{ℕ, None, List, replicate, slice_get, unwrap_or}
use Rattle.ripngd_engine.specs.declared.link.Queue.{Queue}
use Rattle.ripngd_control.specs.declared.links.LinkTally.{LinkTally}
use Rattle.ripngd_control.specs.declared.links.Links.{Links}
use Rattle.ripngd_control.specs.declared.neighbors.Tally.{Tally}
use Rattle.ripngd_control.specs.declared.refusals.Refusals.{Refusals}

-- nothing was refused
abbrev pub no_refusals : Refusals
no_refusals = record { by_number = replicate 27 0 }

-- nothing came
abbrev pub no_tally : Tally
no_tally = record { arrivals = 0; responses = 0; entries = 0; last = None; refusals = no_refusals }

-- nothing was counted at an interface
abbrev pub no_link : LinkTally
no_link = record { triggered = 0; tally = no_tally }

-- what was counted at an interface, where one without a row counts nothing
abbrev pub link_at : List LinkTally → ℕ → LinkTally
link_at rows iface = unwrap_or (slice_get rows iface) no_link

-- what was counted at each interface, and what waits there
pub record LinksSeen : Type 0 where
  pub rows : List LinkTally
  pub queues : List Queue

abbrev pub links_seen : Links → List Queue → LinksSeen
links_seen links queues = record { rows = links.rows.items; queues = queues }
