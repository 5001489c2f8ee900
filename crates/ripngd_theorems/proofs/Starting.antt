-- The next regular update of a daemon is due 45 seconds after its last step at the latest, whatever it did since its start.
use Rattle.std.proofs.Common.{◌≡◌, inl, inr, ℕ, ◌+◌, max, ◌≤◌, ◌<◌, List, [], ◌∷◌, length, Option, Some, None, refl, sym, subst, arith}
use Rattle.router_core.specs.Config.{Config}
use Rattle.router_core.specs.Machine.{State, Happening, Arrives, Ticks, Restarts, Reconfigures, ShutsDown, LinkGoesDown, LinkComesUp, Moves}
use Rattle.router_core.specs.declared.answer.Answer.{Answer}
use Rattle.ripng_world.specs.Network.{Network, config_of}
use Rattle.ripngd_engine.specs.Link.{Call, Gave, Silent, RecvFailed, Handed}
use Rattle.ripngd_engine.specs.Run.{Machine, Trace, MovedOrLost, arrival}
use Rattle.ripngd_theorems.specs.Daemons.{Act, Start, Listen, Tick, Reconfigure, Shutdown, LinkDown, LinkUp, Ask, Refuse, Deed, Does, Happened, HearsCall, Lives, own_deeds}
use Rattle.ripngd_theorems.specs.Links.{HaveRun}
use Rattle.ripngd_theorems.proofs.Running.{there_is}
use Rattle.ripngd_theorems.proofs.Winding.{arrived_wound, ticked_wound}

abbrev pub IsSet : State → Type 0
IsSet s = s.regular ≤ s.last + 45_000

moved_set : (old : State) (happening : Happening) (answer : Answer) (new : State) → IsSet old → Moves old happening answer new → IsSet new
moved_set old (Arrives x) answer new set moves = (arrived_wound old new x.now x answer set moves refl).1
moved_set old (Ticks now word) answer new set moves = subst IsSet (sym moves.state) (ticked_wound old (max old.last now) word set (later old.last now)).1
  where
    later : (a b : ℕ) → a ≤ max a b
    later a b = omega arith
moved_set old (Restarts now) answer new set moves = subst IsSet (sym moves.state) (more now)
  where
    more : (n : ℕ) → n ≤ n + 45_000
    more n = omega arith
moved_set old (ShutsDown now) answer new set moves = subst IsSet (sym moves.state) (up old.last old.regular now set)
  where
    up : (a b n : ℕ) → b ≤ a + 45_000 → b ≤ max a n + 45_000
    up a b n e = omega arith
moved_set old (LinkGoesDown now iface) answer new set moves = subst IsSet (sym moves.state) (up old.last old.regular now set)
  where
    up : (a b n : ℕ) → b ≤ a + 45_000 → b ≤ max a n + 45_000
    up a b n e = omega arith
moved_set old (LinkComesUp now iface) answer new set moves = subst IsSet (sym moves.state) (up old.last old.regular now set)
  where
    up : (a b n : ℕ) → b ≤ a + 45_000 → b ≤ max a n + 45_000
    up a b n e = omega arith
moved_set old (Reconfigures now c) answer new set moves = subst IsSet (sym moves.state) (up old.last old.regular now set)
  where
    up : (a b n : ℕ) → b ≤ a + 45_000 → b ≤ max a n + 45_000
    up a b n e = omega arith

stepped_set : (m : Machine) (happening : Happening) (now : ℕ) (t : Trace) (n : Machine) → IsSet m.router → MovedOrLost m happening now t n → IsSet n.router
stepped_set m happening now t n set (inl moved) = moved_set m.router happening moved.answer n.router set moved.moves
stepped_set m happening now t n set (inr lost) = subst (λ (x : Machine). IsSet x.router) (sym lost.machine) set

same_set : (m n : Machine) → n ≡ m → IsSet m.router → IsSet n.router
same_set m n e set = subst (λ (x : Machine). IsSet x.router) (sym e) set

heard_set : (call : Call) (m : Machine) (t : Trace) (n : Machine) → IsSet m.router → HearsCall call m t n → IsSet n.router
heard_set (Gave d) m t n set hears = stepped_set m (Arrives (arrival hears.1.0 d)) hears.1.0 hears.0 n set hears.1.1
heard_set Silent m t n set hears = same_set m n hears.1.1 set
heard_set RecvFailed m t n set hears = same_set m n hears.1 set
heard_set (Handed o went) m t n set hears = absurd hears.1

-- one that was up was set
abbrev IfUp : Option Machine → Type 0
IfUp None = Unit {0}
IfUp (Some m) = IsSet m.router

does_set : (config : Config) (before : Option Machine) (act : Act) (t : Trace) (n : Machine) → IfUp before → Does config before act t n → IsSet n.router
does_set config before Start t n set did = subst IsSet (sym did.1.starts.state) (more did.1.now)
  where
    more : (n : ℕ) → n ≤ n + 45_000
    more n = omega arith
does_set config (Some m) (Listen call) t n set did = heard_set call m t n set did.1
does_set config (Some m) Tick t n set did = stepped_set (record m { stream = did.1.stream }) (Ticks did.1.now did.1.word) did.1.now t n set did.1.step
does_set config (Some m) (Reconfigure c) t n set did = moved_set m.router (Reconfigures did.1.0 c) did.1.1.answer n.router set did.1.1.moves
does_set config (Some m) Shutdown t n set did = moved_set m.router (ShutsDown did.1.0) did.1.1.answer n.router set did.1.1.moves
does_set config (Some m) (LinkDown on) t n set did = moved_set m.router (LinkGoesDown did.1.0 on) did.1.1.answer n.router set did.1.1.moves
does_set config (Some m) (LinkUp on) t n set did = moved_set m.router (LinkComesUp did.1.0 on) did.1.1.answer n.router set did.1.1.moves
does_set config (Some m) (Ask on) t n set did = elim did.1 [
  | inl asks ↦ moved_set m.router (LinkComesUp asks.0 on) asks.1.answer n.router set asks.1.moves
  | inr nothing ↦ same_set m n nothing.2 set
]
does_set config (Some m) Refuse t n set did = same_set m n did.1.2 set
does_set config None (Listen call) t n set did = absurd did
does_set config None Tick t n set did = absurd did
does_set config None (Reconfigure c) t n set did = absurd did
does_set config None Shutdown t n set did = absurd did
does_set config None (LinkDown on) t n set did = absurd did
does_set config None (LinkUp on) t n set did = absurd did
does_set config None (Ask on) t n set did = absurd did
does_set config None Refuse t n set did = absurd did

life_set : (config : Config) (before : Option Machine) (deeds : List Deed) (m : Machine) → IfUp before → Lives config before deeds (Some m) → IsSet m.router
life_set config before [] m set lives = subst IfUp (sym lives) set
life_set config before (d ∷ deeds) m set lives = life_set config (Some lives.0) deeds m (does_set config before d.act d.trace lives.0 set lives.1) lives.2

pub all_set : (net : Network) (order : List Happened) (daemons : ℕ → Option Machine) → HaveRun net order daemons
    → (router : ℕ) (m : Machine) → router < length net → daemons router ≡ Some m → m.router.regular ≤ m.router.last + 45_000
all_set net order daemons ran router m low up =
    let node = there_is net router low in
    life_set (config_of node.0) None (own_deeds router order) m tt (subst (λ o. Lives (config_of node.0) None (own_deeds router order) o) up (ran.lives router node.0 node.1))
