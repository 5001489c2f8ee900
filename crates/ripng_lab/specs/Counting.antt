-- What has happened in a network since its start, in numbers.
use Rattle.std.specs.Prelude.{◌≡◌, ℕ, ◌+◌, ◌-◌, ◌/◌, ◌^◌, ◌==◌, min, not, Bool, true, false, ◌&&◌, if◌then◌else◌, List, [], drop, fold, length, map, Option, Some, None, option_and_then, slice_get, slice_set, IfSome, ◌≤◌, ⊤}
use Rattle.ripng_lab.specs.Below.{option_map_or, range_with_len, Prefix6, State, LabValue, World, Told, router_of, Event, Deliver, Stranger, Tick, Sent, RouteChange, Install, Withdraw, Counter, Counting, Numbers, TableChange, Cause, Regular, Triggered, Timing}
use Rattle.ripng_wire.specs.declared.rte.Command.{Command}
use Rattle.ripng_wire.specs.declared.rte.Command.TheVariants.{Request, Response}
use Rattle.ripng_lab.specs.Asides.{Aside, Lie, Broken}

-- a number goes up, to 2^64 - 1 at most
abbrev pub up_by : ℕ → ℕ → ℕ
up_by k n = min (n + k) (2 ^ 64 - 1)

-- nothing has happened yet
abbrev pub no_counts : Numbers
no_counts =
    record {
      datagrams = 0;
      entries = 0;
      bytes = 0;
      regular = 0;
      triggered = 0;
      requests = 0;
      replies = 0;
      changes = 0;
      last = None;
    }

-- ---- what routers send

abbrev pub one_if : Bool → ℕ
one_if true = 1
one_if false = 0

-- the first byte of a datagram is its command: 1 of a Request, 2 of a Response (RFC 2080, 2.1)
abbrev pub has_command : ℕ → List ℕ → Bool
has_command command bytes = option_map_or (λ b. b == command) (slice_get bytes 0) false

abbrev pub command_number : Command → ℕ
command_number Request = 1
command_number Response = 2

-- a Response has 4 bytes and then 20 for each entry
abbrev pub entries_in : List ℕ → ℕ
entries_in bytes = if has_command 2 bytes then (length bytes - 4) / 20 else 0

-- a datagram is sent, as an answer to one that came, or not
abbrev pub counted_datagram : Bool → List ℕ → Numbers → Numbers
counted_datagram answers bytes c =
    record c {
      datagrams = up_by 1 c.datagrams;
      entries = up_by (entries_in bytes) c.entries;
      bytes = up_by (length bytes) c.bytes;
      requests = up_by (one_if (has_command 1 bytes)) c.requests;
      replies = up_by (one_if (has_command 2 bytes && answers)) c.replies;
    }

abbrev pub counted_datagrams : Bool → List Sent → Numbers → Numbers
counted_datagrams answers sent c = fold (λ so_far d. counted_datagram answers d.bytes so_far) c sent

-- an event brings a datagram to its router
abbrev pub brings : Event → Bool
brings (Deliver datagram router iface now) = true
brings (Stranger router x) = true
brings _ = false

-- ---- updates

-- when a router's next regular update is due, and until when it delays triggered ones
abbrev pub timing_in : State → Timing
timing_in s = record { regular = s.regular; hold = s.hold }

abbrev pub timing_at : LabValue → ℕ → Timing
timing_at lab router = option_map_or timing_in (slice_get lab.world.states router) (record { regular = 0; hold = 0 })

-- of each router, in order
abbrev pub timings_in : LabValue → List Timing
timings_in lab = map (timing_at lab) (range_with_len 0 (length lab.network))

-- the update by the timers of before and of now: each update moves its own timer
abbrev pub cause_by : Timing → Timing → Option Cause
cause_by before now =
    if not (now.regular == before.regular) then Some Regular
    else if not (now.hold == before.hold) then Some Triggered
    else None

-- which update a router made at an event: one is made at a tick alone
abbrev pub cause_of : List Timing → LabValue → Event → Option Cause
cause_of timings lab (Tick router now word) =
    option_and_then (λ before. cause_by before (timing_at lab router)) (slice_get timings router)
cause_of timings lab _ = None

abbrev pub counted_update : Option Cause → Numbers → Numbers
counted_update None c = c
counted_update (Some Regular) c = record c { regular = up_by 1 c.regular }
counted_update (Some Triggered) c = record c { triggered = up_by 1 c.triggered }

-- the timers as they are after an event: those of its router have moved
abbrev pub timings_after : LabValue → Event → List Timing → List Timing
timings_after lab e timings = slice_set timings (router_of e) (timing_at lab (router_of e))

-- ---- changes of forwarding tables

abbrev pub prefix_of : RouteChange → Prefix6
prefix_of (Install p hop metric) = p
prefix_of (Withdraw p) = p

-- an entry changes, of a router, at the moment of its step
abbrev pub counted_change : ℕ → ℕ → RouteChange → Numbers → Numbers
counted_change router at change c =
    record c { changes = up_by 1 c.changes; last = Some (record { at = at; router = router; prefix = prefix_of change }) }

abbrev pub counted_changes : ℕ → ℕ → List RouteChange → Numbers → Numbers
counted_changes router at changes c = fold (λ so_far change. counted_change router at change so_far) c changes

-- the moment of a router's last step
abbrev pub last_at : LabValue → ℕ → ℕ
last_at lab router = option_map_or (λ s. s.last) (slice_get lab.world.states router) 0

-- ---- all that an observer is notified of

-- the Requests of the start
abbrev pub counts_at_start : World → Numbers → Numbers
counts_at_start w c = counted_datagrams false w.sent c

-- an event: the update that its router made, what it sent, and how its forwarding table changed
abbrev pub counted : List Timing → Told → Numbers → Numbers
counted timings what c =
    counted_changes (router_of what.event) (last_at what.lab (router_of what.event)) what.answer.changes
    (counted_datagrams (brings what.event) (drop what.first what.lab.world.sent) (counted_update (cause_of timings what.lab what.event) c))

-- no forwarding table has changed after a moment
abbrev pub IsSettled : Numbers → ℕ → Type 0
IsSettled c by = IfSome c.last (λ change. change.at ≤ by)

-- ---- the observer that counts

-- an event, or a forged Response, is counted, and the timers are known
pub record HasCounted (old : Counter) (what : Told) (new : Counter) : Type 0 where
  pub counts : new.counts ≡ counted old.timings.items what old.counts
  pub timings : new.timings.items ≡ timings_after what.lab what.event old.timings.items
  pub refused : new.refused ≡ old.refused

-- so is the start, unless memory runs out for the timers
pub record HasStartedCounting (old : Counter) (lab : LabValue) (new : Counter) : Type 0 where
  pub counts : new.counts ≡ counts_at_start lab.world old.counts
  pub timings : new.refused ≡ false → new.timings.items ≡ timings_in lab

-- of all else nothing is counted
abbrev pub CountedAside : Counter → Aside → Counter → Type 0
CountedAside old (Lie what) new = HasCounted old what new
CountedAside old Broken new = ⊤
CountedAside old _ new = new ≡ old

-- it notifies the same observer
abbrev pub SameWatch : {V : Type 0} → Counting V → Counting V → Type 0
SameWatch old new = new.watch.ghost_name ≡ old.watch.ghost_name
