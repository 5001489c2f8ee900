-- The calls of a link.
use Rattle.std.specs.Prelude.{ℕ, ◌+◌, List, [], ◌∷◌, Option, None, Some, Result, Ok, Err, Bool, if◌then◌else◌, take, slice_get, unwrap_or}
use Rattle.router_core.specs.declared.answer.Outgoing.{Outgoing}
use Rattle.ripngd_engine.specs.declared.link.Queue.{Queue}
use Rattle.ripngd_engine.specs.declared.link.Received.{Received}

-- nothing waits to be sent
abbrev pub no_queue : Queue
no_queue = record { waiting = 0; answers = 0 }

-- what waits on an interface, of what waits on each
abbrev pub queue_at : List Queue → ℕ → Queue
queue_at queues iface = unwrap_or (slice_get queues iface) no_queue

-- a datagram that a link gave
pub record Datagram : Type 0 where
  pub iface : ℕ
  pub source : ℕ
  pub source_port : ℕ
  pub hop_limit : ℕ
  pub to_group : Bool
  pub bytes : List ℕ

-- one call of a link: what `recv` gave, or what `send` was handed and whether it went out
pub data Call : Type 0 where
  Gave : Datagram → Call
  Silent : Call
  RecvFailed : Call
  Handed : Outgoing → Bool → Call

-- what a link put into a buffer
abbrev pub datagram_in : Received → List ℕ → Datagram
datagram_in r buffer =
    record {
      iface = r.iface;
      source = r.source;
      source_port = r.source_port;
      hop_limit = r.hop_limit;
      to_group = r.to_group;
      bytes = take r.len buffer;
    }

-- the call that a `recv` was which gave this
abbrev pub gave_call : Option Received → List ℕ → Call
gave_call (Some r) buffer = Gave (datagram_in r buffer)
gave_call None buffer = Silent

-- the call that a `recv` was
abbrev pub recv_call : {E : Type 0} → Result (Option Received) E → List ℕ → Call
recv_call (Ok o) buffer = gave_call o buffer
recv_call (Err e) buffer = RecvFailed

-- how many of these calls were a `send` that failed
abbrev pub failed_sends : List Call → ℕ
failed_sends [] = 0
failed_sends (Handed s went ∷ calls) = (if went then 0 else 1) + failed_sends calls
failed_sends (_ ∷ calls) = failed_sends calls
