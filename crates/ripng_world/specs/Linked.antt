-- The interfaces on each link of a network, and the lists of them.
use Rattle.std.specs.Prelude.{◌≡◌, ℕ, ◌==◌, Bool, cond, List, [], ◌∷◌, map, filter, length, Some, option_map, unwrap_or, slice_get}
use Rattle.std.specs.BTreeMap.{get}
use Rattle.std.specs.Ordering.{nat_cmp}
use Rattle.ripng_world.specs.Below.{Links, NetInterface, range_with_len}
use Rattle.ripng_world.specs.AskedRounds.{interfaces_of}
use Rattle.ripng_world.specs.Labs.{is_one_link, link_at}
use Rattle.ripng_world.specs.Network.{Network}

-- the interface is on the link
abbrev pub is_on : Network → ℕ → ℕ × ℕ → Bool
is_on net link at = is_one_link (Some link) (link_at net at.0 at.1)

-- all interfaces on a link, each after its router's number, in order
abbrev pub interfaces_on : Network → ℕ → List (ℕ × ℕ)
interfaces_on net link = filter (is_on net link) (interfaces_of net)

-- those of one router
abbrev pub interfaces_there : ℕ → List NetInterface → ℕ → List (ℕ × ℕ)
interfaces_there router interfaces link =
    filter (λ at. is_one_link (Some link) (option_map (λ i. i.link) (slice_get interfaces at.1))) (map (λ iface. (router, iface)) (range_with_len 0 (length interfaces)))

-- the place, if the two links are one
abbrev pub place_if : ℕ → ℕ → ℕ × ℕ → List (ℕ × ℕ)
place_if link other place = cond (link == other) (place ∷ []) []

-- what the lists have for a link: nothing if it is in none
abbrev pub listed_on : Links → ℕ → List (ℕ × ℕ)
listed_on links link = unwrap_or (option_map (λ places. places.items) (get nat_cmp links.places link)) []

-- each link of the network has its interfaces listed
unfoldable pub AreListed : Network → Links → Type 0
AreListed net links = (link : ℕ) → listed_on links link ≡ interfaces_on net link
