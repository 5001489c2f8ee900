use Rattle.std.proofs.Common.{◌≡◌, ◌+◌, ◌++◌, drop, length, map, vec_len}
use Rattle.ripngd_udp.specs.Peers.{links_at}
use Rattle.ripngd_udp.proofs.peer_table.peer_tables_at.Given as goal

-- the interfaces so far and those of the places that are left are all
abbrev pub invariant-loop-place : goal.invariant-loop-place
invariant-loop-place l = (vec_len l.links ≡ l.place-index) × (l.place-index + vec_len l.rest ≡ length l.places)
    × (l.links.items ++ links_at (drop l.place-index l.places) (map (λ v. v.items) l.rest.items) ≡ links_at l.places (map (λ v. v.items) l.initial.rest.items))
