-- A router keeps the number of its interfaces for life.
use Rattle.std.proofs.Common.{◌≡◌, ◌⊎◌, inl, inr, ℕ, suc, ◌+◌, ◌%◌, max, Bool, true, false, cond, MatchBool, MatchOption, List, [], ◌∷◌, map, length, Option, Some, None, refl, ap, sym, ◌∙◌}
use Rattle.ripng_wire.specs.Wire.{is_response}
use Rattle.router_core.specs.Ageing.{aged_table, unmarked}
use Rattle.router_core.specs.Config.{Config}
use Rattle.router_core.specs.Faults.{fault}
use Rattle.router_core.specs.Machine.{State, Happening, Arrives, Ticks, Restarts, Reconfigures, ShutsDown, LinkGoesDown, LinkComesUp, Moves, Accepts, Refuses, Hears as RouterHears, Replies, started, ticked, is_regular_due, is_triggered_due}
use Rattle.router_core.specs.Received.{Received}
use Rattle.router_core.specs.Reconfiguring.{reconfigured_config}
use Rattle.router_core.specs.declared.answer.Answer.{Answer}
use Rattle.router_core.specs.declared.arrival.Fault.{Fault}
use Rattle.router_core.specs.declared.config.Interface.{Interface}
use Rattle.router_core.specs.declared.reconfiguring.Change.{Change}
use Rattle.router_core.specs.declared.reconfiguring.Change.TheVariants.{Cost, Own, Disown}
use Rattle.ripng_world.proofs.WorldRuns.{set_addresses, zoned_address}
use Rattle.ripngd_engine.specs.Changing.{LinkComesUpOnce, ReconfiguresNothing}
use Rattle.ripngd_engine.specs.Link.{Call, Gave, Silent, RecvFailed, Handed}
use Rattle.ripngd_engine.specs.Run.{Machine, Trace, MovedOrLost, arrival}
use Rattle.ripngd_theorems.specs.Daemons.{Act, Start, Listen, Tick, Reconfigure, Shutdown, LinkDown, LinkUp, Ask, Refuse, Deed, Does, Goes, HearsCall, Lives, in_force}
use Rattle.router_core.specs.Timers.{next_hold, next_regular}

-- ---- a router

-- how many interfaces a configuration has
abbrev count_of : Config → ℕ
count_of config = length config.interfaces

accepted : (old : State) (now : ℕ) (x : Received) (answer : Answer) (new : State) (b : Bool) → MatchBool b (RouterHears old now x answer new) (Replies old now x answer new)
    → count_of new.config ≡ count_of old.config
accepted old now x answer new true hears = ap (λ (s : State). count_of s.config) hears.state
accepted old now x answer new false replies = ap (λ (s : State). count_of s.config) replies.state

arrived : (old : State) (now : ℕ) (x : Received) (answer : Answer) (new : State) (o : Option Fault)
    → MatchOption o (Accepts old now x answer new) (λ why. Refuses old now why answer new) → count_of new.config ≡ count_of old.config
arrived old now x answer new None accepts = accepted old now x answer new (is_response x.bytes) accepts
arrived old now x answer new (Some why) refuses = ap (λ (s : State). count_of s.config) refuses.state

same_ticked : (old : State) (now word : ℕ) → count_of (ticked old now word).config ≡ count_of old.config
same_ticked old now word = by_due (is_regular_due old now) (is_triggered_due old now)
  where
    by_due : (b c : Bool) → count_of (cond b (record old { table = unmarked (aged_table now old.table); last = now; regular = next_regular now word })
        (cond c (record old { table = unmarked (aged_table now old.table); last = now; hold = next_hold now word }) (record old { table = aged_table now old.table; last = now }))).config ≡ count_of old.config
    by_due true c = refl
    by_due false true = refl
    by_due false false = refl

same_length : (xs : List Interface) → length (map zoned_address xs) ≡ length xs
same_length [] = refl
same_length (x ∷ xs) = ap suc (same_length xs)

changed : (config : Config) (c : Change) → count_of (reconfigured_config config c) ≡ count_of config
changed config (Cost iface cost) =
    sym (same_length (reconfigured_config config (Cost iface cost)).interfaces) ∙ ap length (set_addresses config.interfaces iface cost) ∙ same_length config.interfaces
changed config (Own p tag) = refl
changed config (Disown p) = refl

moves_keep : (old : State) (happening : Happening) (answer : Answer) (new : State) → Moves old happening answer new → count_of new.config ≡ count_of old.config
moves_keep old (Arrives x) answer new moves = arrived old (max old.last x.now) x answer new (fault old.config x) moves
moves_keep old (Ticks now word) answer new moves = ap (λ (s : State). count_of s.config) moves.state ∙ same_ticked old (max old.last now) word
moves_keep old (Restarts now) answer new moves = ap (λ (s : State). count_of s.config) moves.state
moves_keep old (ShutsDown now) answer new moves = ap (λ (s : State). count_of s.config) moves.state
moves_keep old (LinkGoesDown now iface) answer new moves = ap (λ (s : State). count_of s.config) moves.state
moves_keep old (LinkComesUp now iface) answer new moves = ap (λ (s : State). count_of s.config) moves.state
moves_keep old (Reconfigures now c) answer new moves = ap (λ (s : State). count_of s.config) moves.state ∙ changed old.config c

-- ---- a daemon

-- how many interfaces a daemon has
abbrev count_now : Machine → ℕ
count_now m = count_of m.router.config

stepped : (m : Machine) (happening : Happening) (now : ℕ) (t : Trace) (n : Machine) → MovedOrLost m happening now t n → count_now n ≡ count_now m
stepped m happening now t n (inl moved) = moves_keep m.router happening moved.answer n.router moved.moves
stepped m happening now t n (inr lost) = ap count_now lost.machine

heard : (call : Call) (m : Machine) (t : Trace) (n : Machine) → HearsCall call m t n → count_now n ≡ count_now m
heard (Gave d) m t n hears = stepped m (Arrives (arrival hears.1.0 d)) hears.1.0 hears.0 n hears.1.1
heard Silent m t n hears = ap count_now hears.1.1
heard RecvFailed m t n hears = ap count_now hears.1
heard (Handed o went) m t n hears = absurd hears.1

asked : (on : ℕ) (m : Machine) (t : Trace) (n : Machine) → LinkComesUpOnce on m t n ⊎ ReconfiguresNothing m t n → count_now n ≡ count_now m
asked on m t n (inl up) = stepped m (LinkComesUp up.0 on) up.0 t n (inl up.1)
asked on m t n (inr nothing) = ap count_now nothing.2

gone : (act : Act) (m : Machine) (t : Trace) (n : Machine) → Goes act m t n → count_now n ≡ count_now m
gone Start m t n did = absurd did
gone (Listen call) m t n did = heard call m t n did.1
gone Tick m t n did = stepped (record m { stream = did.1.stream }) (Ticks did.1.now did.1.word) did.1.now t n did.1.step
gone (Reconfigure c) m t n did = stepped m (Reconfigures did.1.0 c) did.1.0 t n (inl did.1.1)
gone Shutdown m t n did = stepped m (ShutsDown did.1.0) did.1.0 t n (inl did.1.1)
gone (LinkDown on) m t n did = stepped m (LinkGoesDown did.1.0 on) did.1.0 t n (inl did.1.1)
gone (LinkUp on) m t n did = stepped m (LinkComesUp did.1.0 on) did.1.0 t n (inl did.1.1)
gone (Ask on) m t n did = asked on m t n did.1
gone Refuse m t n did = ap count_now did.1.2

does : (config : Config) (before : Option Machine) (act : Act) (t : Trace) (n : Machine) → Does config before act t n → count_now n ≡ count_of (in_force config before)
does config before Start t n did = moves_keep (started (in_force config before) did.1.now) (Restarts did.1.now) did.1.answer n.router did.1.starts
does config (Some m) (Listen call) t n did = gone (Listen call) m t n did
does config (Some m) Tick t n did = gone Tick m t n did
does config (Some m) (Reconfigure c) t n did = gone (Reconfigure c) m t n did
does config (Some m) Shutdown t n did = gone Shutdown m t n did
does config (Some m) (LinkDown on) t n did = gone (LinkDown on) m t n did
does config (Some m) (LinkUp on) t n did = gone (LinkUp on) m t n did
does config (Some m) (Ask on) t n did = gone (Ask on) m t n did
does config (Some m) Refuse t n did = gone Refuse m t n did
does config None (Listen call) t n did = absurd did
does config None Tick t n did = absurd did
does config None (Reconfigure c) t n did = absurd did
does config None Shutdown t n did = absurd did
does config None (LinkDown on) t n did = absurd did
does config None (LinkUp on) t n did = absurd did
does config None (Ask on) t n did = absurd did
does config None Refuse t n did = absurd did

lives_keep : (config : Config) (before : Option Machine) (deeds : List Deed) (n : Machine) → Lives config before deeds (Some n)
    → count_now n ≡ count_of (in_force config before)
lives_keep config before [] n lives = ap (λ o. count_of (in_force config o)) lives
lives_keep config before (d ∷ deeds) n lives = lives_keep config (Some lives.0) deeds n lives.2 ∙ does config before d.act d.trace lives.0 lives.1

pub lives_interfaces : (config : Config) (before : Option Machine) (deeds : List Deed) (n : Machine) → Lives config before deeds (Some n)
    → length n.router.config.interfaces ≡ length (in_force config before).interfaces
lives_interfaces = lives_keep
