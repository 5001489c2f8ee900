-- Where the packets of daemons go: by the forwarding tables that their changes made.
use Rattle.std.specs.Prelude.{◌≡◌, ℕ, ◌<◌, length, false, Option, Some, option_map, option_and_then, slice_get}
use Rattle.ripngd_theorems.specs.Below.{Network, Forwardings, Machine}

-- the forwarding tables of the network's daemons
abbrev pub forwardings_by : Network → (ℕ → Option Machine) → Forwardings
forwardings_by net daemons router = option_and_then (λ node. option_map (λ m. m.fib) (daemons router)) (slice_get net router)

-- none of them has ended
abbrev pub AllGoOn : Network → (ℕ → Option Machine) → Type 0
AllGoOn net daemons = (router : ℕ) (m : Machine) → router < length net → daemons router ≡ Some m → m.ended ≡ false
