use Rattle.std.proofs.Common.{◌≡◌, ℕ, take, filter, flat_map}
use Rattle.std.specs.List.{enumerate_from}
use Rattle.ripng_world.specs.Linked.{is_on, listed_on}
use Rattle.ripng_world.specs.Stations.{network_of}
use Rattle.ripng_world.proofs.Linking.{places_of}
use Rattle.ripng_world.proofs.links.Links.of.Given as goal

abbrev pub invariant-loop-router : goal.invariant-loop-router
invariant-loop-router g l =
    (link : ℕ) → listed_on l.links link ≡ filter (is_on (network_of l.stations) link) (flat_map places_of (enumerate_from 0 (take l.router (network_of l.stations))))
