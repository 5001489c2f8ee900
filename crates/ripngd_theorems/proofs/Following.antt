-- The forwarding table of a daemon that has not ended is that of its router's table.
use Rattle.std.proofs.Common.{◌≡◌, inl, inr, List, [], ◌∷◌, Option, Some, None, false, refl, sym, subst}
use Rattle.std.specs.Prelude.{ℕ}
use Rattle.std.specs.FinMap as map_of
use Rattle.fib.specs.Forwarding.{Replays}
use Rattle.fib.proofs.ReplayLaws.{replays_to_one}
use Rattle.router_core.specs.Changes.{forwards}
use Rattle.router_core.specs.Config.{Config}
use Rattle.router_core.specs.Machine.{Happening, Arrives, Ticks, Restarts, Reconfigures, ShutsDown, LinkGoesDown, LinkComesUp, started, forwards_before}
use Rattle.router_core.proofs.MovesReplay.{moves_replay}
use Rattle.ripngd_engine.specs.Link.{Call, Gave, Silent, RecvFailed, Handed}
use Rattle.ripngd_engine.specs.Run.{Machine, Trace, FollowsUnless, MovedOrLost, arrival}
use Rattle.ripngd_theorems.specs.Daemons.{Act, Start, Listen, Tick, Reconfigure, Shutdown, LinkDown, LinkUp, Ask, Refuse, Deed, Does, Goes, HearsCall, Lives, in_force}

-- the forwarding table of a daemon that goes on
abbrev pub Follows : Machine → Type 0
Follows m = m.ended ≡ false → m.fib ≡ forwards m.router.table

-- one that was up still follows
abbrev pub IfUp : Option Machine → Type 0
IfUp None = Unit {0}
IfUp (Some m) = Follows m

stepped : (m : Machine) (happening : Happening) (now : ℕ) (t : Trace) (n : Machine) → forwards_before m.router happening ≡ forwards m.router.table
    → m.ended ≡ false → Follows m → MovedOrLost m happening now t n → Follows n
stepped m happening now t n same going follows (inl moved) going_on =
    let replayed : Replays m.fib moved.answer.changes n.fib = subst (λ b. FollowsUnless b m.fib moved.answer.changes n.fib) going_on moved.carries.fib in
    replays_to_one (forwards m.router.table) n.fib (forwards n.router.table) moved.answer.changes
    (subst (λ f. Replays f moved.answer.changes n.fib) (follows going) replayed)
    (subst (λ f. Replays f moved.answer.changes (forwards n.router.table)) same (moves_replay m.router n.router happening moved.answer moved.moves))
stepped m happening now t n same going follows (inr lost) going_on = subst Follows (sym lost.machine) follows going_on

heard : (call : Call) (m : Machine) (t : Trace) (n : Machine) → m.ended ≡ false → Follows m → HearsCall call m t n → Follows n
heard (Gave d) m t n going follows hears = stepped m (Arrives (arrival hears.1.0 d)) hears.1.0 hears.0 n refl going follows hears.1.1
heard Silent m t n going follows hears = subst Follows (sym hears.1.1) follows
heard RecvFailed m t n going follows hears = subst Follows (sym hears.1) follows
heard (Handed o went) m t n going follows hears = absurd hears.1

gone : (act : Act) (m : Machine) (t : Trace) (n : Machine) → Follows m → Goes act m t n → Follows n
gone Start m t n follows did = absurd did
gone (Listen call) m t n follows did = heard call m t n did.0 follows did.1
gone Tick m t n follows did = stepped (record m { stream = did.1.stream }) (Ticks did.1.now did.1.word) did.1.now t n refl did.0 follows did.1.step
gone (Reconfigure c) m t n follows did = stepped m (Reconfigures did.1.0 c) did.1.0 t n refl did.0 follows (inl did.1.1)
gone Shutdown m t n follows did = stepped m (ShutsDown did.1.0) did.1.0 t n refl did.0 follows (inl did.1.1)
gone (LinkDown on) m t n follows did = stepped m (LinkGoesDown did.1.0 on) did.1.0 t n refl did.0 follows (inl did.1.1)
gone (LinkUp on) m t n follows did = stepped m (LinkComesUp did.1.0 on) did.1.0 t n refl did.0 follows (inl did.1.1)
gone (Ask on) m t n follows did = elim did.1 [
  | inl asks ↦ stepped m (LinkComesUp asks.0 on) asks.0 t n refl did.0 follows (inl asks.1)
  | inr nothing ↦ subst Follows (sym nothing.2) follows
]
gone Refuse m t n follows did = subst Follows (sym did.1.2) follows

does : (config : Config) (before : Option Machine) (act : Act) (t : Trace) (n : Machine) → IfUp before → Does config before act t n → Follows n
does config before Start t n follows did =
    let up = did.1 in λ going.
    replays_to_one map_of.empty n.fib (forwards n.router.table) up.answer.changes
    (subst (λ b. FollowsUnless b map_of.empty up.answer.changes n.fib) going up.carries.fib)
    (moves_replay (started (in_force config before) up.now) n.router (Restarts up.now) up.answer up.starts)
does config (Some m) (Listen call) t n follows did = gone (Listen call) m t n follows did
does config (Some m) Tick t n follows did = gone Tick m t n follows did
does config (Some m) (Reconfigure c) t n follows did = gone (Reconfigure c) m t n follows did
does config (Some m) Shutdown t n follows did = gone Shutdown m t n follows did
does config (Some m) (LinkDown on) t n follows did = gone (LinkDown on) m t n follows did
does config (Some m) (LinkUp on) t n follows did = gone (LinkUp on) m t n follows did
does config (Some m) (Ask on) t n follows did = gone (Ask on) m t n follows did
does config (Some m) Refuse t n follows did = gone Refuse m t n follows did
does config None (Listen call) t n follows did = absurd did
does config None Tick t n follows did = absurd did
does config None (Reconfigure c) t n follows did = absurd did
does config None Shutdown t n follows did = absurd did
does config None (LinkDown on) t n follows did = absurd did
does config None (LinkUp on) t n follows did = absurd did
does config None (Ask on) t n follows did = absurd did
does config None Refuse t n follows did = absurd did

-- after all of its life
pub life_follows : (config : Config) (before : Option Machine) (deeds : List Deed) (m : Machine) → IfUp before → Lives config before deeds (Some m) → Follows m
life_follows config before [] m follows lives = subst IfUp (sym lives) follows
life_follows config before (d ∷ deeds) m follows lives = life_follows config (Some lives.0) deeds m (does config before d.act d.trace lives.0 follows lives.1) lives.2
