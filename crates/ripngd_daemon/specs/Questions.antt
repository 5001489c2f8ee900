-- When a router asks its neighbors for their tables, since it has lost a route.
use Rattle.std.specs.Prelude.{◌≡◌, ◌<◌, ◌≤◌, ◌+◌, ◌-◌, ◌⊎◌, ℕ, zero, suc, true, false, is_some, length, Option, None, Some}
use Rattle.std.specs.FinMap as map_of
use Rattle.ripngd_daemon.specs.Below.{Acts, Forwarding, LinkComesUpOnce, ReconfiguresNothing, Seen, State, Asking, Sizes}

-- ---- what is a loss
-- how many prefixes a router forwards to, and how many of its routes are unreachable
abbrev pub sizes_in : State → Forwarding → Sizes
sizes_in router fib = record { forwarded = map_of.len fib; unreachable = map_of.len router.table - map_of.len fib }

-- a route was lost: it forwards to fewer prefixes, or more of its routes are unreachable
abbrev pub HasLost : Sizes → Sizes → Type 0
HasLost before after = (after.forwarded < before.forwarded) ⊎ (before.unreachable < after.unreachable)

-- a router lost a route between these
abbrev pub LosesRoute : Seen → Seen → Type 0
LosesRoute a b = HasLost (sizes_in a.machine.router a.machine.fib) (sizes_in b.machine.router b.machine.fib)

-- a router minds a loss, if there was one: it will ask; a pause stays
abbrev pub Minds : Type 0 → Asking → Asking → Type 0
Minds Loss old new = ((¬ Loss) × (new ≡ old)) ⊎ (Loss × (is_some new.due ≡ true) × (new.free_at ≡ old.free_at))

-- it minds a loss only where there was one
abbrev pub MindsOnly : Type 0 → Asking → Asking → Type 0
MindsOnly Loss old new = (new ≡ old) ⊎ (Loss × (new.free_at ≡ old.free_at))

-- ---- when it asks
-- it asks at a moment: a route was lost since it asked last, and the pause after that is over
abbrev pub IsDue : Asking → ℕ → Type 0
IsDue asking now = (d : ℕ) × (asking.due ≡ Some d) × (d ≤ now) × (asking.free_at ≤ now)

-- ---- what it does then
-- it asks on a link for whole tables, or memory is refused for that
abbrev pub AsksOn : ℕ → Seen → Seen → Type 0
AsksOn iface a b = Acts (LinkComesUpOnce iface) a b ⊎ Acts ReconfiguresNothing a b

-- it asks on its first links, so many of them, one after another
abbrev pub AsksOnFirst : ℕ → Seen → Seen → Type 0
AsksOnFirst zero a b = b ≡ a
AsksOnFirst (suc iface) a b = (m : Seen) × AsksOnFirst iface a m × (m.machine.ended ≡ false) × AsksOn iface m b

-- it asks on each of its links, or on the first ones until memory ends it; a quiet router never does
pub record AsksAll (a b : Seen) : Type 0 where
  pub going : a.machine.ended ≡ false
  pub told : a.machine.router.config.quiet ≡ false
  pub count : ℕ
  pub within : count ≤ length a.machine.router.config.interfaces
  pub asks : AsksOnFirst count a b

-- it asks if that is due, and then not for a second; or nothing was due
abbrev pub AsksIfDue : Asking → Seen → Asking → Seen → Type 0
AsksIfDue old a new b = ((new ≡ old) × (b ≡ a))
    ⊎ (IsDue old a.machine.router.last × AsksAll a b × (new.due ≡ None) × (b.machine.router.last + 1000 ≤ new.free_at))
