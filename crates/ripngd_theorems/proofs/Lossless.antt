-- A daemon that counts no more lost steps at the end than at first has lost none.
use Rattle.std.proofs.Common.{◌≡◌, inl, inr, ℕ, ◌+◌, ◌<◌, ◌≤◌, ◌==◌, max, min, Bool, true, false, cond, List, [], ◌∷◌, Option, Some, None, refl, ap, sym, subst, arith, le_refl, le_trans}
use Rattle.std.specs.List.{AllByRecursion, cons_option}
use Rattle.route_table.proofs.TableLaws.{Some-same}
use Rattle.router_core.specs.Config.{Config}
use Rattle.router_core.specs.Machine.{Happening, Arrives, Ticks, LinkComesUp}
use Rattle.ripngd_engine.specs.Link.{Call, Gave, Silent, RecvFailed, Handed}
use Rattle.ripngd_engine.specs.Run.{Machine, Trace, MovedOrLost, arrival}
use Rattle.ripngd_theorems.specs.Daemons.{Act, Start, Listen, Tick, Reconfigure, Shutdown, LinkDown, LinkUp, Ask, Refuse, Deed, Happened, Does, HearsCall, Lives, own_deeds}
use Rattle.ripngd_theorems.specs.OnTime.{IsPlain}

-- ---- the count never falls

step_up : (m : Machine) (happening : Happening) (now : ℕ) (t : Trace) (n : Machine) → MovedOrLost m happening now t n → m.lost_memory ≤ n.lost_memory
step_up m happening now t n (inl moved) = as_le m.lost_memory n.lost_memory moved.lost_memory
  where
    as_le : (a b : ℕ) → b ≡ a → a ≤ b
    as_le a b e = omega arith
step_up m happening now t n (inr lost) = up m.lost_memory _ n.lost_memory (ap (λ (x : Machine). x.lost_memory) lost.machine)
  where
    up : (a b c : ℕ) → c ≡ max a b → a ≤ c
    up a b c e = omega arith

same_up : (m n : Machine) → n ≡ m → m.lost_memory ≤ n.lost_memory
same_up m n e = subst (λ (x : Machine). m.lost_memory ≤ x.lost_memory) (sym e) (le_refl m.lost_memory)

heard_up : (call : Call) (m : Machine) (t : Trace) (n : Machine) → HearsCall call m t n → m.lost_memory ≤ n.lost_memory
heard_up (Gave d) m t n hears = step_up m (Arrives (arrival hears.1.0 d)) hears.1.0 hears.0 n hears.1.1
heard_up Silent m t n hears = same_up m n hears.1.1
heard_up RecvFailed m t n hears = same_up m n hears.1
heard_up (Handed o went) m t n hears = absurd hears.1

did_up : (config : Config) (act : Act) (m : Machine) (t : Trace) (n : Machine) → IsPlain act → Does config (Some m) act t n → m.lost_memory ≤ n.lost_memory
did_up config Start m t n plain did = absurd plain
did_up config (Listen call) m t n plain did = heard_up call m t n did.1
did_up config Tick m t n plain did = step_up (record m { stream = did.1.stream }) (Ticks did.1.now did.1.word) did.1.now t n did.1.step
did_up config (Reconfigure c) m t n plain did = absurd plain
did_up config Shutdown m t n plain did = absurd plain
did_up config (LinkDown on) m t n plain did = absurd plain
did_up config (LinkUp on) m t n plain did = step_up m (LinkComesUp did.1.0 on) did.1.0 t n (inl did.1.1)
did_up config (Ask on) m t n plain did = elim did.1 [
  | inl asks ↦ step_up m (LinkComesUp asks.0 on) asks.0 t n (inl asks.1)
  | inr nothing ↦ same_up m n nothing.2
]
did_up config Refuse m t n plain did = same_up m n did.1.2

-- one that is not up does nothing but come up
down_does : (config : Config) (act : Act) (t : Trace) (n : Machine) → IsPlain act → Does config None act t n → ⊥
down_does config Start t n plain did = plain
down_does config (Listen call) t n plain did = did
down_does config Tick t n plain did = did
down_does config (Reconfigure c) t n plain did = plain
down_does config Shutdown t n plain did = plain
down_does config (LinkDown on) t n plain did = plain
down_does config (LinkUp on) t n plain did = did
down_does config (Ask on) t n plain did = did
down_does config Refuse t n plain did = did

abbrev pub ArePlain : List Deed → Type 0
ArePlain deeds = AllByRecursion (λ d. IsPlain d.act) deeds

-- what a daemon was before such deeds
pub record WasBefore (a : Option Machine) (n : Machine) : Type 0 where
  pub was : Machine
  pub was_up : a ≡ Some was
  pub fewer : was.lost_memory ≤ n.lost_memory

pub does_from : (config : Config) (act : Act) (a : Option Machine) (t : Trace) (n : Machine) → IsPlain act → Does config a act t n → WasBefore a n
does_from config act None t n plain did = absurd (down_does config act t n plain did)
does_from config act (Some m) t n plain did = record { was = m; was_up = refl; fewer = did_up config act m t n plain did }

pub lives_from : (config : Config) (deeds : List Deed) (a : Option Machine) (n : Machine) → ArePlain deeds → Lives config a deeds (Some n) → WasBefore a n
lives_from config [] a n plain lives = record { was = n; was_up = sym lives; fewer = le_refl n.lost_memory }
lives_from config (d ∷ deeds) a n plain lives =
    let rest = lives_from config deeds (Some lives.0) n plain.1 lives.2 in
    let one = does_from config d.act a d.trace lives.0 plain.0 lives.1 in
    let same = Some-same lives.0 rest.was rest.was_up in
    record { was = one.was; was_up = one.was_up; fewer = le_trans one.fewer (subst (λ (x : Machine). x.lost_memory ≤ n.lost_memory) (sym same) rest.fewer) }

-- and what it is after
pub record IsAfter (m : Machine) (b : Option Machine) : Type 0 where
  pub end : Machine
  pub is_up : b ≡ Some end
  pub more : m.lost_memory ≤ end.lost_memory

pub lives_to : (config : Config) (deeds : List Deed) (m : Machine) (b : Option Machine) → ArePlain deeds → Lives config (Some m) deeds b → IsAfter m b
lives_to config [] m b plain lives = record { end = m; is_up = lives; more = le_refl m.lost_memory }
lives_to config (d ∷ deeds) m b plain lives =
    let rest = lives_to config deeds lives.0 b plain.1 lives.2 in
    record { end = rest.end; is_up = rest.is_up; more = le_trans (did_up config d.act m d.trace lives.0 plain.0 lives.1) rest.more }

-- ---- so where the count stays, none was lost

pub none_lost : (a b c d top : ℕ) → a ≤ b → c ≡ max b (min (b + 1) top) → c ≤ d → d ≡ a → a < top → ⊥
none_lost a b c d top e f g h i = omega arith

-- the own deeds of a router, of which all are plain
pub plain_own : (router : ℕ) (order : List Happened) → AllByRecursion (λ h. IsPlain h.deed.act) order → ArePlain (own_deeds router order)
plain_own router [] all = tt
plain_own router (h ∷ order) all = by (h.router == router) (plain_own router order all.1)
  where
    by : (b : Bool) → ArePlain (own_deeds router order) → ArePlain (cons_option (cond b (Some h.deed) None) (own_deeds router order))
    by true rest = (all.0, rest)
    by false rest = rest
