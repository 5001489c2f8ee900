use Rattle.std.proofs.Common.{◌≡◌, ℕ, ◌++◌, Some, map, filter, option_map, slice_get}
use Rattle.std.specs.List.{range_with_len}
use Rattle.ripng_world.specs.Labs.{is_one_link}
use Rattle.ripng_world.specs.Linked.{listed_on}
use Rattle.ripng_world.proofs.links.Links.add_router.Given as goal

abbrev pub invariant-loop-iface : goal.invariant-loop-iface
invariant-loop-iface l =
    (link : ℕ) → listed_on l.self link ≡ listed_on l.initial.self link
    ++ filter (λ at. is_one_link (Some link) (option_map (λ i. i.link) (slice_get l.interfaces at.1))) (map (λ iface. (l.router, iface)) (range_with_len 0 l.iface))
