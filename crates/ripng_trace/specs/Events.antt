-- What the record of an event says: of the event, of the answer, and of what was sent.
use Rattle.std.specs.Prelude.{◌≡◌, ℕ, Bool, List, drop, map, Option, None, option_map, slice_get}
use Rattle.ripng_trace.specs.Below.{enumerate_from, Bor, event_of, LabValue, moment_of, router_of, Told, Event, Deliver, Sent, addr_at, EventRecord}
use Rattle.ripng_trace.specs.Records.{timers_in}

-- the datagram of a delivery, and the address that it was sent from, if it was sent
abbrev pub sender_at : LabValue → Event → Option (Sent × Option ℕ)
sender_at lab (Deliver datagram router iface now) = option_map (λ d. (d, addr_at lab d.router d.iface)) (slice_get lab.world.sent datagram)
sender_at lab _ = None

-- such a datagram
abbrev pub sender_said : Bor Sent × Option ℕ → Sent × Option ℕ
sender_said r = (r.0.now, r.1)

-- a datagram with its number
abbrev pub sent_said : ℕ × Bor Sent → ℕ × Sent
sent_said r = (r.0, r.1.now)

-- all datagrams from a number on, each with its own
abbrev pub sent_from : ℕ → List Sent → List (ℕ × Sent)
sent_from first sent = drop first (enumerate_from 0 sent)

-- the record, of this line of the script, says what is told of an event, and nothing else; a lie is told as the arrival of a stranger,
-- and the record says that it is a lie
pub record RecordTells (is_forged : Bool) (line : ℕ) (what : Told) (r : EventRecord) : Type 0 where
  pub at_line : r.line ≡ line
  pub router_is : r.router ≡ router_of what.event
  pub moment_is : r.now ≡ moment_of what.event
  pub event_is : event_of r.happened.event.now ≡ what.event
  pub lie_is : r.happened.is_forged ≡ is_forged
  pub sender_is : option_map sender_said r.happened.sender ≡ sender_at what.lab what.event
  pub answer_is : r.answer.now ≡ what.answer
  pub sent_are : map sent_said r.sent.items ≡ sent_from what.first what.lab.world.sent
  pub timers_are : r.timers ≡ option_map timers_in (slice_get what.lab.world.states r.router)
