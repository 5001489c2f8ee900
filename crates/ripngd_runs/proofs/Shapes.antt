-- The calls of a deed: a `recv` that it begins with, if it listens, and then what it hands over.
use Rattle.std.proofs.Common.{◌≡◌, ◌⊎◌, inl, inr, List, [], ◌∷◌, ◌++◌, Option, Some, None, refl, ap, sym, subst}
use Rattle.std.specs.Prelude.{ℕ}
use Rattle.std.specs.List.{AllByRecursion}
use Rattle.router_core.specs.Config.{Config}
use Rattle.router_core.specs.Machine.{Happening, Arrives, Ticks, Reconfigures, ShutsDown, LinkGoesDown, LinkComesUp}
use Rattle.ripngd_engine.specs.Changing.{LinkComesUpOnce, ReconfiguresNothing}
use Rattle.ripngd_engine.specs.Link.{Call, Gave, Silent, RecvFailed, Handed}
use Rattle.ripngd_engine.specs.Run.{Machine, Trace, MovedOrLost, Sends, all_joined, arrival, handed}
use Rattle.ripngd_theorems.specs.Daemons.{Act, Start, Listen, Tick, Reconfigure, Shutdown, LinkDown, LinkUp, Ask, Refuse, Deed, Does, Goes, HearsCall, Lives, traces_of}
use Rattle.ripngd_runs.proofs.Weaving.{HasCalls, IsHanded, IsShaped, calls_in}

abbrev AreHanded : List Call → Type 0
AreHanded calls = AllByRecursion IsHanded calls

all_handed : (sends : Sends) → AreHanded (handed sends)
all_handed [] = tt
all_handed (s ∷ sends) = (tt, all_handed sends)

stepped : (m : Machine) (happening : Happening) (now : ℕ) (t : Trace) (n : Machine) → MovedOrLost m happening now t n → AreHanded t.calls
stepped m happening now t n (inl moved) = subst (λ (x : Trace). AreHanded x.calls) (sym moved.carries.trace) (all_handed moved.carries.sends)
stepped m happening now t n (inr lost) = subst (λ (x : Trace). AreHanded x.calls) (sym lost.trace) tt

heard : (call : Call) (m : Machine) (t : Trace) (n : Machine) → HearsCall call m t n → HasCalls (Listen call) t.calls
heard (Gave d) m t n hears = (hears.0.calls, ap (λ (x : Trace). x.calls) hears.2, stepped m (Arrives (arrival hears.1.0 d)) hears.1.0 hears.0 n hears.1.1)
heard Silent m t n hears = (hears.0.calls, ap (λ (x : Trace). x.calls) hears.2, subst (λ (x : Trace). AreHanded x.calls) (sym hears.1.0) tt)
heard RecvFailed m t n hears = ([], ap (λ (x : Trace). x.calls) hears.0, tt)
heard (Handed o went) m t n hears = absurd hears.1

asked : (on : ℕ) (m : Machine) (t : Trace) (n : Machine) → LinkComesUpOnce on m t n ⊎ ReconfiguresNothing m t n → HasCalls (Ask on) t.calls
asked on m t n (inl up) = stepped m (LinkComesUp up.0 on) up.0 t n (inl up.1)
asked on m t n (inr nothing) = subst (λ (x : Trace). AreHanded x.calls) (sym nothing.1) tt

gone : (act : Act) (m : Machine) (t : Trace) (n : Machine) → Goes act m t n → HasCalls act t.calls
gone Start m t n did = absurd did
gone (Listen call) m t n did = heard call m t n did.1
gone Tick m t n did = stepped (record m { stream = did.1.stream }) (Ticks did.1.now did.1.word) did.1.now t n did.1.step
gone (Reconfigure c) m t n did = stepped m (Reconfigures did.1.0 c) did.1.0 t n (inl did.1.1)
gone Shutdown m t n did = stepped m (ShutsDown did.1.0) did.1.0 t n (inl did.1.1)
gone (LinkDown on) m t n did = stepped m (LinkGoesDown did.1.0 on) did.1.0 t n (inl did.1.1)
gone (LinkUp on) m t n did = stepped m (LinkComesUp did.1.0 on) did.1.0 t n (inl did.1.1)
gone (Ask on) m t n did = asked on m t n did.1
gone Refuse m t n did = subst (λ (x : Trace). AreHanded x.calls) (sym did.1.1) tt

does : (config : Config) (before : Option Machine) (act : Act) (t : Trace) (n : Machine) → Does config before act t n → HasCalls act t.calls
does config before Start t n did = subst (λ (x : Trace). AreHanded x.calls) (sym did.1.carries.trace) (all_handed did.1.carries.sends)
does config (Some m) (Listen call) t n did = gone (Listen call) m t n did
does config (Some m) Tick t n did = gone Tick m t n did
does config (Some m) (Reconfigure c) t n did = gone (Reconfigure c) m t n did
does config (Some m) Shutdown t n did = gone Shutdown m t n did
does config (Some m) (LinkDown on) t n did = gone (LinkDown on) m t n did
does config (Some m) (LinkUp on) t n did = gone (LinkUp on) m t n did
does config (Some m) (Ask on) t n did = gone (Ask on) m t n did
does config (Some m) Refuse t n did = gone Refuse m t n did
does config None (Listen call) t n did = absurd did
does config None Tick t n did = absurd did
does config None (Reconfigure c) t n did = absurd did
does config None Shutdown t n did = absurd did
does config None (LinkDown on) t n did = absurd did
does config None (LinkUp on) t n did = absurd did
does config None (Ask on) t n did = absurd did
does config None Refuse t n did = absurd did

pub lives_shaped : (config : Config) (before : Option Machine) (deeds : List Deed) (after : Option Machine) → Lives config before deeds after → AllByRecursion IsShaped deeds
lives_shaped config before [] after lives = tt
lives_shaped config before (d ∷ deeds) after lives = (does config before d.act d.trace lives.0 lives.1, lives_shaped config (Some lives.0) deeds after lives.2)

-- the calls of all of them
pub joined_calls : (deeds : List Deed) → (all_joined (traces_of deeds)).calls ≡ calls_in deeds
joined_calls [] = refl
joined_calls (d ∷ deeds) = ap (λ x. d.trace.calls ++ x) (joined_calls deeds)
