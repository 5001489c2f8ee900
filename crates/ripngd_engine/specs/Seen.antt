-- What contracts see of an engine and of its link, clock and log, and how calls of the engine change that.
use Rattle.std.specs.Prelude.{ℕ, ◌≡◌, ◌<◌, ◌≤◌, List, [], ◌∷◌, Option, Result, Ok, Err, Bool, true, false, length}
use Rattle.std.specs.Io.KnownBytes.{Appends}
use Rattle.rand_core.specs.Stream.{Stream}
use Rattle.fib.specs.Forwarding.{Forwarding}
use Rattle.router_core.specs.Config.{Config}
use Rattle.router_core.specs.Machine.{State}
use Rattle.ripngd_engine.specs.Telling.{Gains}
use Rattle.ripngd_engine.specs.Link.{Call, RecvFailed, failed_sends}
use Rattle.ripngd_engine.specs.Log.{log_of}
use Rattle.ripngd_engine.specs.Observer.{LinkReport, WasTold}
use Rattle.ripngd_engine.specs.Run.{Machine, Trace, ComesUp, Turns, all_joined, counted}
use Rattle.ripngd_engine.specs.declared.link.Queue.{Queue}
use Rattle.ripngd_engine.specs.declared.report.EngineFault.{EngineFault}
use Rattle.ripngd_engine.specs.declared.report.EngineFault.TheVariants.{LinkFault, OutOfMemory}

-- what an engine holds
pub record Held (R : Type 0) : Type 0 where
  pub router : State
  pub fib : Forwarding
  pub ended : Bool  -- whether it has answered OutOfMemory
  pub lost_memory : ℕ
  pub rng : R
  pub calls : Option (List Call)  -- what its link tells
  pub queues : List Queue  -- what waits to be sent on each interface
  pub moments : Option (List ℕ)  -- what its clock tells
  pub lost_sends : ℕ
  pub log_failed : Bool

-- the past of the link, clock and log of an engine, and what the engine reports of them
pub record Outside : Type 0 where
  pub calls : Option (List Call)
  pub moments : Option (List ℕ)
  pub text : Option (List ℕ)  -- what stands in the log
  pub lost_sends : ℕ
  pub log_failed : Bool

-- what an engine goes on from, and the past of its link, clock and log
pub record Seen : Type 0 where
  pub machine : Machine
  pub outside : Outside

-- an engine and its log, where `stream` gives the words that a source has left, and `text` the text of a log
abbrev pub seen : {R W : Type 0} → (R → Stream) → (W → Option (List ℕ)) → Held R → W → Seen
seen stream text e log =
    record {
      machine = record {
        router = e.router;
        fib = e.fib;
        ended = e.ended;
        lost_memory = e.lost_memory;
        stream = stream e.rng;
      };
      outside = record {
        calls = e.calls;
        moments = e.moments;
        text = text log;
        lost_sends = e.lost_sends;
        log_failed = e.log_failed;
      };
    }

-- the outside before an engine starts
abbrev pub untouched : Option (List Call) → Option (List ℕ) → Option (List ℕ) → Outside
untouched calls moments text =
    record { calls = calls; moments = moments; text = text; lost_sends = 0; log_failed = false }

-- the outside gained just this. A log that has failed is written no more; one that has not gained a line for each change
pub record Shows (a : Outside) (t : Trace) (b : Outside) : Type 0 where
  pub calls : Gains a.calls b.calls t.calls
  pub moments : Gains a.moments b.moments t.moments
  pub lost_sends : b.lost_sends ≡ counted a.lost_sends (failed_sends t.calls)
  pub log_ends : a.log_failed ≡ true → (b.log_failed ≡ true) × (b.text ≡ a.text)
  pub log_gains : b.log_failed ≡ false → Appends a.text b.text (log_of t.changes)

-- an engine came up, and the outside gained just that
pub record Started (config : Config) (stream : Stream) (a : Outside) (b : Seen) : Type 0 where
  pub trace : Trace
  pub comes_up : ComesUp config stream trace b.machine
  pub shows : Shows a trace b.outside

-- something was done, and the outside gained just that
pub record Acts (Does : Machine → Trace → Machine → Type 0) (a b : Seen) : Type 0 where
  pub trace : Trace
  pub does : Does a.machine trace b.machine
  pub shows : Shows a.outside trace b.outside

-- this call of `recv` was made, and nothing else was done
pub record Listens (call : Call) (a b : Seen) : Type 0 where
  pub calls : Gains a.outside.calls b.outside.calls (call ∷ [])
  pub machine : b.machine ≡ a.machine
  pub rest : b.outside ≡ record a.outside { calls = b.outside.calls }

-- `count` turns were made, and the outside gained just these
pub record Ran (count : ℕ) (a b : Seen) : Type 0 where
  pub traces : List Trace
  pub count_is : length traces ≡ count
  pub turns : Turns a.machine traces b.machine
  pub shows : Shows a.outside (all_joined traces) b.outside

-- `done` turns were made, and then a `recv` failed
pub record RanUntilDeaf (done : ℕ) (a b : Seen) : Type 0 where
  pub middle : Seen
  pub ran : Ran done a middle
  pub deaf : Listens RecvFailed middle b

-- the last of at most n turns was the one whose changes were refused
pub record RanUntilRefused (n : ℕ) (a b : Seen) : Type 0 where
  pub count : ℕ
  pub within : count ≤ n
  pub ran : Ran count a b

-- what a call for n turns answers of an engine that has not ended: Ok after all of them; a link fault after those before
-- the failed `recv`; or want of memory, after the turn whose changes were refused
abbrev pub TurnsAnswer : ℕ → Seen → Result (Unit {0}) EngineFault → Seen → Type 0
TurnsAnswer n a (Ok u) b = (b.machine.ended ≡ false) × Ran n a b
TurnsAnswer n a (Err (LinkFault done)) b = (b.machine.ended ≡ false) × (done < n) × RanUntilDeaf done a b
TurnsAnswer n a (Err OutOfMemory) b = (b.machine.ended ≡ true) × RanUntilRefused n a b

-- what an observer is notified of in the turns of such an answer
abbrev pub told_in_turns : (n : ℕ) (a : Seen) (result : Result (Unit {0}) EngineFault) (b : Seen) → TurnsAnswer n a result b → List LinkReport
told_in_turns n a (Ok u) b answer = (all_joined answer.1.traces).told
told_in_turns n a (Err (LinkFault done)) b answer = (all_joined answer.2.ran.traces).told
told_in_turns n a (Err OutOfMemory) b answer = (all_joined answer.1.ran.traces).told

-- such turns were made, and an observer was notified of just their arrivals and sends
pub record TurnsObserved {V : Type 0} (takes : V → LinkReport → V → Type 0) (v w : V) (n : ℕ) (a : Seen) (result : Result (Unit {0}) EngineFault) (b : Seen) : Type 0 where
  pub answer : TurnsAnswer n a result b
  pub told : WasTold takes v (told_in_turns n a result b answer) w
