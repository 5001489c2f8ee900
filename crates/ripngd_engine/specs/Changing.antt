-- What is done to an engine's router between its turns: changes of its configuration, its shutdown, and links of it that go down or come up.
use Rattle.std.specs.Prelude.{ℕ, ◌≡◌, Result, Ok, Err, true, false, unwrap_or}
use Rattle.router_core.specs.Machine.{State, Reconfigures, ShutsDown, LinkGoesDown, LinkComesUp}
use Rattle.router_core.specs.Reconfiguring.{reconfigure_fault}
use Rattle.router_core.specs.declared.reconfiguring.Change.{Change}
use Rattle.router_core.specs.declared.reconfiguring.ReconfigureRefused.{ReconfigureRefused}
use Rattle.router_core.specs.declared.reconfiguring.ReconfigureRefused.TheVariants as refusals
use Rattle.ripngd_engine.specs.Run.{Machine, Trace, Moved, one_moment}
use Rattle.ripngd_engine.specs.Seen.{Seen, Acts}
use Rattle.ripngd_engine.specs.declared.report.ChangeFault.{ChangeFault}
use Rattle.ripngd_engine.specs.declared.report.ChangeFault.TheVariants.{Refused, Ended}

-- the router was changed at the moment that the clock gave, and its answer was carried out
abbrev pub ReconfiguresOnce : Change → Machine → Trace → Machine → Type 0
ReconfiguresOnce c m t n = (now : ℕ) × Moved m (Reconfigures now c) now t n

-- the router shut down
abbrev pub ShutsDownOnce : Machine → Trace → Machine → Type 0
ShutsDownOnce m t n = (now : ℕ) × Moved m (ShutsDown now) now t n

-- the link of an interface of the router went down
abbrev pub LinkGoesDownOnce : ℕ → Machine → Trace → Machine → Type 0
LinkGoesDownOnce iface m t n = (now : ℕ) × Moved m (LinkGoesDown now iface) now t n

-- the link of an interface of the router came up
abbrev pub LinkComesUpOnce : ℕ → Machine → Trace → Machine → Type 0
LinkComesUpOnce iface m t n = (now : ℕ) × Moved m (LinkComesUp now iface) now t n

-- a change was refused: it has used its moment, and left all else
abbrev pub ReconfiguresNothing : Machine → Trace → Machine → Type 0
ReconfiguresNothing m t n = (now : ℕ) × (t ≡ one_moment now) × (n ≡ m)

-- why a router refuses a change: the first reason against it, or out of memory
abbrev pub why_refused : State → Change → ReconfigureRefused
why_refused s c = unwrap_or (reconfigure_fault s.config s.table c) refusals.OutOfMemory

-- what a change of an engine that has not ended answers: Ok, and it goes on; why the router refused it; or that memory for
-- the forwarding table was refused, after all else of the change was done
abbrev pub ReconfigureAnswer : Change → Seen → Result (Unit {0}) ChangeFault → Seen → Type 0
ReconfigureAnswer c a (Ok u) b = (b.machine.ended ≡ false) × Acts (ReconfiguresOnce c) a b
ReconfigureAnswer c a (Err (Refused why)) b = (b.machine.ended ≡ false) × (why ≡ why_refused a.machine.router c) × Acts ReconfiguresNothing a b
ReconfigureAnswer c a (Err Ended) b = (b.machine.ended ≡ true) × Acts (ReconfiguresOnce c) a b

-- what such a step of an engine that has not ended answers: Ok, and it goes on; that memory was refused for it, which has used its
-- moment alone; or that memory for the forwarding table was refused, after all else of the step was done
abbrev pub StepAnswer : (Machine → Trace → Machine → Type 0) → Seen → Result (Unit {0}) ChangeFault → Seen → Type 0
StepAnswer Does a (Ok u) b = (b.machine.ended ≡ false) × Acts Does a b
StepAnswer Does a (Err (Refused why)) b = (b.machine.ended ≡ false) × (why ≡ refusals.OutOfMemory) × Acts ReconfiguresNothing a b
StepAnswer Does a (Err Ended) b = (b.machine.ended ≡ true) × Acts Does a b
