-- Rounds that a caller asks for, and the events that they make.
use Rattle.std.specs.Prelude.{◌≡◌, ℕ, ◌%◌, ◌==◌, ◌≤◌, not, Bool, ◌&&◌, List, [], ◌∷◌, ◌++◌, map, drop, length, filter, filter_map, flat_map, option_map, slice_get}
use Rattle.ripng_world.specs.Below.{enumerate_from, list_any, range_with_len, Pair, Sent}
use Rattle.ripng_world.specs.Asked.{Asked}
use Rattle.ripng_world.specs.Convergence.{IsNeverQuiet, FitsTables, AreConverged, HaveSettled}
use Rattle.ripng_world.specs.Labs.{is_one_link, link_at}
use Rattle.ripng_world.specs.Network.{Network}
use Rattle.ripng_world.specs.Rounds.{Round, AllTick, AllHeard, SynchronousRounds, AreWithinTimeout, events_of_rounds}
use Rattle.ripng_world.specs.World.{World, Event, Deliver, Tick, WorldRun, IsCold}

-- ---- the events of a round

-- each router ticks, in order, at its moment and with its word
abbrev pub ticks_of : List (ℕ × ℕ) → List Event
ticks_of ticks = map (λ t. Tick t.0 t.1.0 t.1.1) (enumerate_from 0 ticks)

-- all interfaces, each with its router, in order
abbrev pub interfaces_of : Network → List (ℕ × ℕ)
interfaces_of net = flat_map (λ n. map (λ i. (n.0, i)) (range_with_len 0 (length n.1.interfaces))) (enumerate_from 0 net)

-- another interface of the link that the datagram was sent on
abbrev pub is_other : Network → Sent → ℕ × ℕ → Bool
is_other net d at = is_one_link (link_at net d.router d.iface) (link_at net at.0 at.1) && not (at.0 == d.router && at.1 == d.iface)

-- the number of a datagram, and an interface that it may come to
abbrev pub pair_at : ℕ → ℕ × ℕ → Pair
pair_at number at = record { datagram = number; router = at.0; iface = at.1 }

-- each datagram from a number on, with each other interface of its link, in order
abbrev pub pairs_since : Network → ℕ → List Sent → List Pair
pairs_since net first sent = flat_map (λ d. map (pair_at d.0) (filter (is_other net d.1) (interfaces_of net))) (enumerate_from first (drop first sent))

-- the datagram comes to the interface
abbrev pub delivery : Pair → ℕ → Event
delivery pair now = Deliver pair.datagram pair.router pair.iface now

-- each pick delivers the pair with that number, modulo the number of pairs
abbrev pub picked_deliveries : List Pair → List (ℕ × ℕ) → List Event
picked_deliveries pairs picks = filter_map (λ p. option_map (λ pair. delivery pair p.1) (slice_get pairs (p.0 % length pairs))) picks

-- some pick takes the pair with that number
abbrev pub is_picked : ℕ → List (ℕ × ℕ) → ℕ → Bool
is_picked pairs picks number = list_any (λ p. p.0 % pairs == number) picks

-- the pairs that are not picked are delivered, in order
abbrev pub other_deliveries : (ℕ → Bool) → List Pair → ℕ → List Event
other_deliveries picked pairs rest = map (λ p. delivery p.1 rest) (filter (λ p. not (picked p.0)) (enumerate_from 0 pairs))

-- first the pairs that are picked, then the pairs not yet delivered
abbrev pub deliveries_of : List Pair → List (ℕ × ℕ) → ℕ → List Event
deliveries_of pairs picks rest = picked_deliveries pairs picks ++ other_deliveries (is_picked (length pairs) picks) pairs rest

-- the events of a round that begins in one world, and whose ticks lead to another
abbrev pub round_of : Network → Asked → World → World → Round
round_of net asked w after_ticks =
    record {
      ticks = ticks_of asked.ticks;
      deliveries = deliveries_of (pairs_since net (length w.sent) after_ticks.sent) asked.picks asked.rest;
    }

-- ---- rounds that are done

-- the round is exactly its events: each router ticks when its regular update is due, then the deliveries happen, and memory suffices
-- for every new route
abbrev pub IsMade : Network → World → Asked → World → Type 0
IsMade net w asked w' = (after_ticks : World) × AllTick net w (round_of net asked w after_ticks).ticks after_ticks × AllHeard net after_ticks (round_of net asked w after_ticks).deliveries w'

-- the same of several rounds, one after another
abbrev pub AreMade : Network → World → List Asked → List Round → World → Type 0
AreMade net w [] [] w' = w' ≡ w
AreMade net w (asked ∷ more) (round ∷ rounds) w' =
    (after_ticks : World) × (mid : World) × (round ≡ round_of net asked w after_ticks)
    × AllTick net w round.ticks after_ticks × AllHeard net after_ticks round.deliveries mid × AreMade net mid more rounds w'
AreMade net w _ _ w' = ⊥

-- all rounds that were asked for are made, as synchronous rounds, and nothing else happens
pub record AreAllMade (net : Network) (w : World) (asked : List Asked) (w' : World) : Type 0 where
  pub rounds : List Round
  pub made : AreMade net w asked rounds w'
  pub as_many : length rounds ≡ length asked
  pub synchronous : SynchronousRounds net w rounds w'
  pub run : WorldRun net w (events_of_rounds rounds) w'

-- from a cold start, with moments close together, k rounds find every least cost within k hops
pub record Converges (net : Network) (w : World) (asked : List Asked) (w' : World) : Type 0 where
  pub exact : (moments : List ℕ) (rounds : List Round) → IsCold net moments w → IsNeverQuiet net → FitsTables net
      → AreMade net w asked rounds w' → AreWithinTimeout rounds → AreConverged net (length asked) w'
  pub settled : (moments : List ℕ) (rounds : List Round) → IsCold net moments w → IsNeverQuiet net → FitsTables net
      → AreMade net w asked rounds w' → AreWithinTimeout rounds → 14 ≤ length asked → HaveSettled net w'
