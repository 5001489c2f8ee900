-- When a daemon asks its neighbors for their tables by itself: after a loss, and on each link at most once in a second.
use Rattle.std.specs.Prelude.{◌≡◌, ℕ, ◌+◌, ◌-◌, ◌≤◌, ◌==◌, ◌||◌, Bool, true, false, if◌then◌else◌, nat_lt, List, [], ◌∷◌, Some}
use Rattle.std.specs.FinMap as map_of
use Rattle.ripngd_runs.specs.Below.{Machine, Act, Ask, Deed, Does, Config}

-- of a link: whether a route was lost since the daemon asked there last, and from when on it may ask there again
pub record Waiting : Type 0 where
  pub lost : Bool
  pub free_at : ℕ

-- no route was lost yet
abbrev pub waits_for_nothing : Waiting
waits_for_nothing = record { lost = false; free_at = 0 }

-- how many routes of a daemon are unreachable
abbrev pub unreachable_in : Machine → ℕ
unreachable_in m = map_of.len m.router.table - map_of.len m.fib

-- whether a route was lost between these: the daemon forwards to fewer prefixes, or more of its routes are unreachable
abbrev pub has_lost : Machine → Machine → Bool
has_lost m n = nat_lt (map_of.len n.fib) (map_of.len m.fib) || nat_lt (unreachable_in m) (unreachable_in n)

-- whether an act asks on a link
abbrev pub asks_on : ℕ → Act → Bool
asks_on iface (Ask on) = on == iface
asks_on iface _ = false

-- what an act between these makes of that: once the daemon has asked, nothing is lost, and for a second it does not ask there again
abbrev pub waits_after : ℕ → Waiting → Machine → Act → Machine → Waiting
waits_after iface w m act n =
    if asks_on iface act then record { lost = false; free_at = n.router.last + 1000 }
    else record { lost = has_lost m n || w.lost; free_at = w.free_at }

-- a daemon may ask on a link: a route was lost since it asked there last, and the second after that is over
abbrev pub MayAsk : Waiting → Machine → Type 0
MayAsk w m = (w.lost ≡ true) × (w.free_at ≤ m.router.last)

-- by these deeds a daemon went on from one machine to another, and it asked on the link only when it might
abbrev pub AsksRightly : ℕ → Config → Waiting → Machine → List Deed → Machine → Type 0
AsksRightly iface config w m [] now = now ≡ m
AsksRightly iface config w m (d ∷ deeds) now =
    (n : Machine) × Does config (Some m) d.act d.trace n × (asks_on iface d.act ≡ true → MayAsk w m)
    × AsksRightly iface config (waits_after iface w m d.act n) n deeds now
