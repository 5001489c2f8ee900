-- What an observer of a run is notified of.
use Rattle.std.specs.Prelude.{ℕ, ◌≡◌, List, [], ◌∷◌, Option, Bool}
use Rattle.router_core.specs.declared.answer.Note.{Note}
use Rattle.router_core.specs.declared.answer.Outgoing.{Outgoing}
use Rattle.router_core.specs.declared.arrival.Fault.{Fault}
use Rattle.ripngd_engine.specs.declared.observer.Arrived.{Arrived}
use Rattle.ripngd_engine.specs.declared.observer.Update.{Update}

-- an arrival and its bytes, with what the router answered of it; that an update is sent now; or a datagram that was handed to the link,
-- and whether it was taken
pub data LinkReport : Type 0 where
  Processed : Arrived → List ℕ → Option Fault → List Note → LinkReport
  Begins : Update → LinkReport
  Sent : Outgoing → Bool → LinkReport

-- an observer was notified of just these, in order, where `takes` says what one report makes of it
abbrev pub WasTold : {V : Type 0} → (V → LinkReport → V → Type 0) → V → List LinkReport → V → Type 0
WasTold takes v [] w = w ≡ v
WasTold {V} takes v (t ∷ ts) w = (u : V) × takes v t u × WasTold takes u ts w
