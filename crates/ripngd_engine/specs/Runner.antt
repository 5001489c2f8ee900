-- What a contract reads of a running router and its log.
use Rattle.std.specs.Prelude.{ℕ, ◌≡◌, List, Option, Result, Ok, Err, true, false}
use Rattle.rand_core.specs.Stream.{Stream}
use Rattle.ripngd_engine.specs.Link.{Call, RecvFailed, gave_call}
use Rattle.ripngd_engine.specs.Run.{Machine, Trace, TakesIn, Turn}
use Rattle.ripngd_engine.specs.Seen.{Seen, Acts, Listens}
use Rattle.ripngd_engine.specs.Observer.{LinkReport, WasTold}
use Rattle.ripngd_engine.specs.declared.link.Received.{Received}
use Rattle.ripngd_engine.specs.declared.runner.Runner.{Runner}
use Rattle.ripngd_engine.specs.declared.runner.TurnFault.{TurnFault}
use Rattle.ripngd_engine.specs.declared.runner.TurnFault.TheVariants.{NoLink, NoMemory}
use Rattle.route_table.specs.declared.store.RouteStore as RouteStore
use Rattle.ripngd_engine.specs.declared.link.Link as Link
use Rattle.ripngd_engine.specs.declared.clock.TimeSource as TimeSource
use Rattle.rand_core.specs.declared.Rng as Rng

-- a running router and its log, where the first four give the past of its link and clock, the words of its source and the text of
-- its log
abbrev pub runner_seen : {S L C R W : Type 0} {s : RouteStore.Ghosts S} {l : Link.Ghosts L} {c : TimeSource.Ghosts C} {r : Rng.Ghosts R}
    → (L → Option (List Call)) → (C → Option (List ℕ)) → (R → Stream) → (W → Option (List ℕ)) → Runner S L C R s l c r → W → Seen
runner_seen calls moments stream text e log =
    record {
      machine = record {
        router = e.router;
        fib = e.outlet.fib;
        ended = e.outlet.ended;
        lost_memory = e.lost_memory;
        stream = stream e.rng;
      };
      outside = record {
        calls = calls e.outlet.link;
        moments = moments e.clock;
        text = text log;
        lost_sends = e.outlet.lost_sends;
        log_failed = e.outlet.log_failed;
      };
    }

-- what follows a `recv` that gave this, with this in the buffer
abbrev pub TakesReceived : Option Received → List ℕ → Machine → Trace → Machine → Type 0
TakesReceived received buffer m t n = TakesIn (gave_call received buffer) m t n

-- something was done, the outside gained just that, and an observer was notified of just that
pub record ActsTold {V : Type 0} (takes : V → LinkReport → V → Type 0) (v w : V) (Does : Machine → Trace → Machine → Type 0) (a b : Seen) : Type 0 where
  pub acts : Acts Does a b
  pub told : WasTold takes v acts.trace.told w

-- a turn; or a `recv` that failed, and nothing else
abbrev pub TurnAnswers : {V : Type 0} → (V → LinkReport → V → Type 0) → V → V → Seen → Result (Unit {0}) TurnFault → Seen → Type 0
TurnAnswers takes v w a (Ok u) b = ActsTold takes v w Turn a b × (b.machine.ended ≡ false)
TurnAnswers takes v w a (Err NoMemory) b = ActsTold takes v w Turn a b × (b.machine.ended ≡ true)
TurnAnswers takes v w a (Err NoLink) b = Listens RecvFailed a b × (w ≡ v)
