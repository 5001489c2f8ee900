-- A run of an engine: a start, and then one turn after another.
use Rattle.std.specs.Prelude.{ℕ, ◌≡◌, ◌+◌, ◌-◌, ◌^◌, ◌++◌, min, max, List, [], ◌∷◌, Bool, false, MatchBool, map, ◌⊎◌, if◌then◌else◌}
use Rattle.std.specs.FinMap as map_of
use Rattle.rand_core.specs.Stream.{Stream, next_u32}
use Rattle.fib.specs.Forwarding.{Forwarding, Replays}
use Rattle.fib.specs.declared.change.RouteChange.{RouteChange}
use Rattle.router_core.specs.Config.{Config}
use Rattle.router_core.specs.Machine.{State, Happening, Arrives, Ticks, Restarts, Reconfigures, ShutsDown, LinkGoesDown, LinkComesUp, Moves, Starts, is_regular_due}
use Rattle.router_core.specs.Received.{Received}
use Rattle.router_core.specs.declared.answer.Answer.{Answer}
use Rattle.router_core.specs.declared.answer.Outgoing.{Outgoing}
use Rattle.ripngd_engine.specs.Link.{Datagram, Call, Gave, Silent, RecvFailed, Handed}
use Rattle.ripngd_engine.specs.Observer.{LinkReport, Processed, Begins, Sent}
use Rattle.ripngd_engine.specs.declared.observer.Arrived.{Arrived}
use Rattle.ripngd_engine.specs.declared.observer.Update.TheVariants.{Regular, Triggered}

-- what the turns of an engine go on from
pub record Machine : Type 0 where
  pub router : State
  pub fib : Forwarding
  pub ended : Bool  -- whether `Fib::apply` was refused
  pub lost_memory : ℕ  -- how many steps were refused for memory
  pub stream : Stream  -- the words that the source has left

-- what some steps did on the outside: the calls of the link, the moments that the clock gave, the changes of routes, and
-- what an observer is notified of, each in order
pub record Trace : Type 0 where
  pub calls : List Call
  pub moments : List ℕ
  pub changes : List RouteChange
  pub told : List LinkReport

-- no step was made
abbrev pub no_step : Trace
no_step = record { calls = []; moments = []; changes = []; told = [] }

-- this call of the link, and nothing else
abbrev pub one_call : Call → Trace
one_call call = record { calls = call ∷ []; moments = []; changes = []; told = [] }

-- the clock gave this moment, and nothing else was done
abbrev pub one_moment : ℕ → Trace
one_moment now = record { calls = []; moments = now ∷ []; changes = []; told = [] }

-- what was done first, and then
abbrev pub followed_by : Trace → Trace → Trace
followed_by a b =
    record {
      calls = a.calls ++ b.calls;
      moments = a.moments ++ b.moments;
      changes = a.changes ++ b.changes;
      told = a.told ++ b.told;
    }

-- all of these, one after the other
abbrev pub all_joined : List Trace → Trace
all_joined [] = no_step
all_joined (t ∷ ts) = followed_by t (all_joined ts)

-- ---- a step
-- datagrams that were handed to a link, each with whether it went out
abbrev pub Sends : Type 0
Sends = List (Outgoing × Bool)

abbrev pub datagrams_of : Sends → List Outgoing
datagrams_of sends = map (λ s. s.0) sends

-- the calls by which they were handed over, each once and in order
abbrev pub handed : Sends → List Call
handed sends = map (λ s. Handed s.0 s.1) sends

-- what an observer is notified of them
abbrev pub sent : Sends → List LinkReport
sent sends = map (λ s. Sent s.0 s.1) sends

-- an arrival, as an observer gets it
abbrev pub arrived : Received → Arrived
arrived x = record { moment = x.now; iface = x.iface; source = x.source; source_port = x.source_port }

-- of which kind an update is that a tick sends, if it sends one
abbrev pub begun : Bool → List Outgoing → List LinkReport
begun is_regular [] = []
begun is_regular (o ∷ os) = Begins (if is_regular then Regular else Triggered) ∷ []

-- what an observer is notified of before an answer is carried out: an arrival and its bytes, with its fault and its notes; and of a
-- tick which update it sends, a regular one or a triggered one (RFC 2080, 2.3 and 2.5.1)
abbrev pub told_first : State → Happening → Answer → List LinkReport
told_first s (Arrives x) answer = Processed (arrived x) x.bytes answer.fault answer.notes ∷ []
told_first s (Ticks now word) answer = begun (is_regular_due s (max s.last now)) answer.sends
told_first s (Restarts now) answer = []
told_first s (Reconfigures now c) answer = []
told_first s (ShutsDown now) answer = []
told_first s (LinkGoesDown now iface) answer = []
told_first s (LinkComesUp now iface) answer = []

-- the count after some more; it stays at the greatest u64
abbrev pub counted : ℕ → ℕ → ℕ
counted n more = max n (min (n + more) (2 ^ 64 - 1))

-- the forwarding table follows the changes, or is left as it was where memory for them is refused
abbrev pub FollowsUnless : Bool → Forwarding → List RouteChange → Forwarding → Type 0
FollowsUnless refused old changes new = MatchBool refused (new ≡ old) (Replays old changes new)

-- an answer of the router was carried out: its datagrams were handed over, failed or not, and its changes followed. This
-- was told first
pub record Carries (first : List LinkReport) (now : ℕ) (answer : Answer) (old : Forwarding) (t : Trace) (n : Machine) : Type 0 where
  pub sends : Sends
  pub all_sends : datagrams_of sends ≡ answer.sends
  pub trace : t ≡ record { calls = handed sends; moments = now ∷ []; changes = answer.changes; told = first ++ sent sends }
  pub fib : FollowsUnless n.ended old answer.changes n.fib

-- the router moved, and its answer was carried out
pub record Moved (m : Machine) (happening : Happening) (now : ℕ) (t : Trace) (n : Machine) : Type 0 where
  pub answer : Answer
  pub moves : Moves m.router happening answer n.router
  pub carries : Carries (told_first m.router happening answer) now answer m.fib t n
  pub lost_memory : n.lost_memory ≡ m.lost_memory
  pub stream : n.stream ≡ m.stream

-- the step was refused for memory: it has used its moment, and is counted
pub record Lost (m : Machine) (now : ℕ) (t : Trace) (n : Machine) : Type 0 where
  pub trace : t ≡ one_moment now
  pub machine : n ≡ record m { lost_memory = counted m.lost_memory 1 }

-- a step of the router: its answer was carried out, or it was refused for memory
abbrev pub MovedOrLost : Machine → Happening → ℕ → Trace → Machine → Type 0
MovedOrLost m happening now t n = Moved m happening now t n ⊎ Lost m now t n

-- ---- a start
-- a router came up, and its first answer was carried out over an empty forwarding table
pub record ComesUp (config : Config) (stream : Stream) (t : Trace) (n : Machine) : Type 0 where
  pub now : ℕ
  pub answer : Answer
  pub starts : Starts config now answer n.router
  pub carries : Carries [] now answer map_of.empty t n
  pub going : n.ended ≡ false
  pub lost_memory : n.lost_memory ≡ 0
  pub stream_is : n.stream ≡ stream

-- ---- a turn
-- a datagram as what arrives at the router at this moment
abbrev pub arrival : ℕ → Datagram → Received
arrival now d =
    record {
      now = now;
      iface = d.iface;
      source = d.source;
      source_port = d.source_port;
      hop_limit = d.hop_limit;
      to_group = d.to_group;
      bytes = d.bytes;
    }

-- the arrival of a datagram, at the moment that the clock gave
abbrev pub TakesArrival : Datagram → Machine → Trace → Machine → Type 0
TakesArrival d m t n = (now : ℕ) × MovedOrLost m (Arrives (arrival now d)) now t n

-- what follows what `recv` gave: an arrival, if it gave a datagram
abbrev pub TakesIn : Call → Machine → Trace → Machine → Type 0
TakesIn (Gave d) m t n = TakesArrival d m t n
TakesIn Silent m t n = (t ≡ no_step) × (n ≡ m)
TakesIn RecvFailed m t n = ⊥
TakesIn (Handed s went) m t n = ⊥

-- a tick at the moment that the clock gave, with the next word of the source
pub record TicksOnce (m : Machine) (t : Trace) (n : Machine) : Type 0 where
  pub now : ℕ
  pub word : ℕ
  pub stream : Stream
  pub drawn : (word, stream) ≡ next_u32 m.stream
  pub step : MovedOrLost (record m { stream = stream }) (Ticks now word) now t n

-- nothing follows a step whose changes were refused for memory
abbrev pub TicksUnless : Bool → Machine → Trace → Machine → Type 0
TicksUnless ended m t n = MatchBool ended ((t ≡ no_step) × (n ≡ m)) (TicksOnce m t n)

-- one `recv`, an arrival if it gave a datagram, and then a tick
pub record Turn (m : Machine) (t : Trace) (n : Machine) : Type 0 where
  pub going : m.ended ≡ false
  pub call : Call
  pub taken : Trace
  pub middle : Machine
  pub ticked : Trace
  pub takes_in : TakesIn call m taken middle
  pub ticks : TicksUnless middle.ended middle ticked n
  pub trace : t ≡ followed_by (one_call call) (followed_by taken ticked)

-- these turns, one after another
abbrev pub Turns : Machine → List Trace → Machine → Type 0
Turns m [] n = n ≡ m
Turns m (t ∷ ts) n = (k : Machine) × Turn m t k × Turns k ts n
