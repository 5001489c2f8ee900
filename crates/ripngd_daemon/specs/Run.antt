-- What a run has done.
use Rattle.std.specs.Prelude.{◌≡◌, ◌≢◌, ◌≤◌, ◌+◌, ◌*◌, ◌⊎◌, ℕ, ⊤, Bool, true, false, List, [], ◌∷◌, ◌++◌, Option, None, Some, map}
use Rattle.ripngd_daemon.specs.Below.{Appends, steps_u32, stream_of, Stream, Lcg, pcg32, Forwarding, Order, IsConfigured, RefusesConfig, Config, ConfigFault, ClientsState, Heeds, ObeysLine, control_text, LinkDown, Stop, StopNow, Call, RecvFailed, Outside, Ran, RanUntilDeaf, Seen, Started, untouched, OnLink, links_at, Asking, Failure, History}
use Rattle.router_core.specs.Config.{Config as RouterValue}
use Rattle.ripngd_config.specs.declared.fault.ConfigFault.TheVariants as config_faults
use Rattle.ripngd_daemon.specs.declared.failure.Failure.TheVariants as failures
use Rattle.ripngd_daemon.specs.Questions.{AsksAll, AsksIfDue, LosesRoute, Minds, MindsOnly}
use Rattle.ripngd_daemon.specs.Losses.{AreLossesOf, has_failed}
use Rattle.ripngd_daemon.specs.Tabled.{table_text}
use Rattle.ripngd_daemon.specs.Written.{begins_with}

-- the words that a random source has left
abbrev pub words_of : Lcg → Stream
words_of = stream_of (steps_u32 pcg32)

-- the lines of clients that a router has obeyed, if it listened
abbrev pub lines_of : Option ClientsState → List (List ℕ)
lines_of None = []
lines_of (Some clients) = clients.lines

-- the peers on the links of a configuration
abbrev pub links_of : Config → List OnLink
links_of config = links_at config.places.items (map (λ v. v.items) config.peers.items)

-- ---- turns, and the commands of clients between them
-- the seconds, if there are any, have passed at a moment, which is in milliseconds
abbrev pub IsOver : Option ℕ → ℕ → Type 0
IsOver None moment = ⊥
IsOver (Some seconds) moment = seconds * 1000 ≤ moment

-- a turn is made, and the seconds had not passed at the step before it
abbrev pub RanInTime : Option ℕ → Seen → Seen → Type 0
RanInTime seconds a b = (¬ (IsOver seconds a.machine.router.last)) × Ran 1 a b

-- a client's line cut a link, and with it a route was lost
abbrev pub CutsRoute : List (List ℕ) → Seen → List (List ℕ) → Seen → Type 0
CutsRoute before a after b = LosesRoute a b × (iface : ℕ) × (after ≡ before ++ control_text (LinkDown iface) ∷ [])

-- a router made a turn, which did not end it, and then obeyed the line of a client, or none. Routes that were lost are minded
abbrev pub TurnsAndHeeds : Asking → List (List ℕ) → Seen → Asking → List (List ℕ) → Seen → Type 0
TurnsAndHeeds old before a new after b = (m : Seen) × (middle : Asking) × Ran 1 a m × (m.machine.ended ≡ false) × Minds (LosesRoute a m) old middle
    × Heeds before m after b × MindsOnly (CutsRoute before m after b) middle new

-- and then, if it has not ended, it asked its neighbors if that was due
abbrev pub Passes : Asking → List (List ℕ) → Seen → Asking → List (List ℕ) → Seen → Type 0
Passes old before a new after b = (m : Seen) × (middle : Asking) × TurnsAndHeeds old before a middle after m
    × (((new ≡ middle) × (b ≡ m)) ⊎ ((m.machine.ended ≡ false) × AsksIfDue middle m new b))

-- the steps of a router, the last one last: it made a turn, obeyed the line of a client, or asked its neighbors for their tables
pub data Steps : Type 0 where
  Begun : Steps
  Turned : Steps → Steps
  Told : Steps → List ℕ → Steps
  Asked : Steps → Steps

-- how many of them are turns
abbrev pub turns_in : Steps → ℕ
turns_in Begun = 0
turns_in (Turned before) = turns_in before + 1
turns_in (Told before line) = turns_in before
turns_in (Asked before) = turns_in before

-- the lines among them, in their order
abbrev pub lines_in : Steps → List (List ℕ)
lines_in Begun = []
lines_in (Turned before) = lines_in before
lines_in (Told before line) = lines_in before ++ line ∷ []
lines_in (Asked before) = lines_in before

-- they were done: each turn in time, each line obeyed by a router that had not ended, and each question asked on all links
abbrev pub AreDone : Option ℕ → Steps → Seen → Seen → Type 0
AreDone seconds Begun a b = b ≡ a
AreDone seconds (Turned before) a b = (m : Seen) × AreDone seconds before a m × RanInTime seconds m b
AreDone seconds (Told before line) a b = (m : Seen) × AreDone seconds before a m × (m.machine.ended ≡ false) × ObeysLine line m b
AreDone seconds (Asked before) a b = (m : Seen) × AreDone seconds before a m × AsksAll m b

-- since it asked last, it has lost a route, in a turn or by a link that a client cut
abbrev pub HasLostSince : (seconds : Option ℕ) (steps : Steps) (a b : Seen) → AreDone seconds steps a b → Type 0
HasLostSince seconds Begun a b done = ⊥
HasLostSince seconds (Turned before) a b done = LosesRoute done.0 b ⊎ HasLostSince seconds before a done.0 done.1
HasLostSince seconds (Told before line) a b done =
    (LosesRoute done.0 b × (iface : ℕ) × (line ≡ control_text (LinkDown iface))) ⊎ HasLostSince seconds before a done.0 done.1
HasLostSince seconds (Asked before) a b done = ⊥

-- it asked last a second before a moment, or earlier, or never
abbrev pub IsSecondAfter : ℕ → (seconds : Option ℕ) (steps : Steps) (a b : Seen) → AreDone seconds steps a b → Type 0
IsSecondAfter now seconds Begun a b done = ⊤
IsSecondAfter now seconds (Turned before) a b done = IsSecondAfter now seconds before a done.0 done.1
IsSecondAfter now seconds (Told before line) a b done = IsSecondAfter now seconds before a done.0 done.1
IsSecondAfter now seconds (Asked before) a b done = b.machine.router.last + 1000 ≤ now

-- it asks only after a loss, and never twice in a second
abbrev pub AsksRightly : (seconds : Option ℕ) (steps : Steps) (a b : Seen) → AreDone seconds steps a b → Type 0
AsksRightly seconds Begun a b done = ⊤
AsksRightly seconds (Turned before) a b done = AsksRightly seconds before a done.0 done.1
AsksRightly seconds (Told before line) a b done = AsksRightly seconds before a done.0 done.1
AsksRightly seconds (Asked before) a b done = HasLostSince seconds before a done.0 done.1
    × IsSecondAfter done.0.machine.router.last seconds before a done.0 done.1 × AsksRightly seconds before a done.0 done.1

-- `count` turns were made, and just these lines of clients obeyed between them; the router asked its neighbors for their tables only
-- after a loss, and never twice in a second
pub record HasDone (seconds : Option ℕ) (count : ℕ) (lines : List (List ℕ)) (a b : Seen) : Type 0 where
  pub steps : Steps
  pub turns : turns_in steps ≡ count
  pub told : lines_in steps ≡ lines
  pub are_done : AreDone seconds steps a b
  pub asks : AsksRightly seconds steps a b are_done

-- the last of these lines is `stop` or `stop now`
abbrev pub IsToldToStop : List (List ℕ) → Type 0
IsToldToStop lines =
    (before : List (List ℕ)) × ((lines ≡ before ++ control_text Stop ∷ []) ⊎ (lines ≡ before ++ control_text StopNow ∷ []))

-- a router has made all its turns, or fewer, and then its seconds had passed, or a client had stopped it. It has not run out of
-- memory for its forwarding table
pub record Lasts (most : ℕ) (seconds : Option ℕ) (lines : List (List ℕ)) (a b : Seen) : Type 0 where
  pub count : ℕ
  pub within : count ≤ most
  pub has_done : HasDone seconds count lines a b
  pub ends : (count ≡ most) ⊎ (IsOver seconds b.machine.router.last ⊎ IsToldToStop lines)
  pub goes_on : b.machine.ended ≡ false

-- ---- a run

-- the outside of a run before it starts: a link that was never called, a clock that was never read, and a log that begins as ordered
abbrev pub outside_before : Order → Outside
outside_before order = untouched (Some []) (Some []) (Some (begins_with order.log order.append))

-- a run is under way, or has ended: a router of this configuration started with these random words, made turns in time, and obeyed
-- just these lines of clients between them. These are the calls of its link so far, and it has the moments that its clock gave
pub record IsUnderWay (order : Order) (router : RouterValue) (rng : Lcg) (calls : List Call) (lines : List (List ℕ)) (now : Seen) : Type 0 where
  pub begun : Seen
  pub count : ℕ
  pub started : Started router (words_of rng) (outside_before order) begun
  pub has_done : HasDone order.seconds count lines begun now
  pub calls_are : now.outside.calls ≡ Some calls
  pub moments : List ℕ
  pub moments_are : now.outside.moments ≡ Some moments

-- ---- a whole run
-- a router of this configuration started with these random words, over a link that was never called, a clock that was never read
-- and a log that begins as ordered, and has done as ordered what its clients' lines say. What is known of it are just the calls
-- of its link, just the moments that its clock gave, just the bytes of its log, and what it and its link have lost; this is its
-- forwarding table then
pub record HasRun (order : Order) (router : RouterValue) (rng : Lcg) (history : History) (table : Forwarding) : Type 0 where
  pub calls : List Call
  pub begun : Seen
  pub done : Seen
  pub started : Started router (words_of rng) (outside_before order) begun
  pub lasts : Lasts order.turns order.seconds (lines_of history.clients) begun done
  pub calls_are : (done.outside.calls ≡ Some calls) × (history.ports.calls ≡ Some calls)
  pub moments : List ℕ
  pub moments_are : done.outside.moments ≡ Some moments
  pub log_is : done.outside.text ≡ Some history.log.past.bytes
  pub lost : AreLossesOf done.outside.lost_sends done.machine.lost_memory (has_failed order.log done.outside.log_failed) history.lost
  pub table_is : table ≡ done.machine.fib

-- the writer gained the forwarding table of such a router
abbrev pub ShowsRun : Order → RouterValue → Lcg → History → Option (List ℕ) → Option (List ℕ) → Type 0
ShowsRun order router rng history old new =
    (table : Forwarding) × HasRun order router rng history table × Appends old new (table_text table)

-- a run of a configuration's text as it is ordered: its ports were bound, its router ran, told nothing where no path is ordered
-- for clients, and its forwarding table was written; or the text is refused
abbrev pub IsRan : Order → List ℕ → History → Bool → Option (List ℕ) → Option (List ℕ) → Type 0
IsRan order text history true old new =
    (config : Config) × IsConfigured text order.tag order.quiet config × (history.ports.on_links ≡ Some (links_of config))
    × (order.control ≡ None → lines_of history.clients ≡ []) × ShowsRun order config.router config.rng history old new
IsRan order text history false old new =
    (fault : ConfigFault) × (fault ≢ config_faults.OutOfMemory) × RefusesConfig text order.tag order.quiet fault

-- ---- a run that failed
-- how a failure ends a router that has made so many turns: its link could not be read, after just these turns, and nothing else was
-- done; or its table was not written, or memory ran out, in what it did last
abbrev pub Stops : Failure → ℕ → Seen → Seen → Type 0
Stops (failures.Link done) count now end = (count ≡ done) × (end.machine.ended ≡ false) × RanUntilDeaf 0 now end
Stops failures.Output count now end = end ≡ now
Stops failures.OutOfMemory count now end = end ≡ now
Stops failure count now end = ⊥

-- turns were made, and just these lines of clients obeyed between them, until a failure
pub record FailsIn (seconds : Option ℕ) (lines : List (List ℕ)) (failure : Failure) (a b : Seen) : Type 0 where
  pub count : ℕ
  pub now : Seen
  pub has_done : HasDone seconds count lines a now
  pub stops : Stops failure count now b

-- the calls of a link at which a run fails: one `recv`, if it is the link that failed
abbrev pub calls_at : Failure → List Call
calls_at (failures.Link done) = RecvFailed ∷ []
calls_at failure = []

-- a run of this configuration failed after its router had started. Until then it was under way. What is known of it are just the calls
-- of its link, the failed `recv` included, just the bytes of its log, and what it and its link have lost
pub record HasFailed (order : Order) (router : RouterValue) (rng : Lcg) (failure : Failure) (history : History) : Type 0 where
  pub calls : List Call
  pub now : Seen
  pub end : Seen
  pub under_way : IsUnderWay order router rng calls (lines_of history.clients) now
  pub stops : Stops failure under_way.count now end
  pub calls_are : (end.outside.calls ≡ Some (calls ++ calls_at failure)) × (history.ports.calls ≡ Some (calls ++ calls_at failure))
  pub log_is : end.outside.text ≡ Some history.log.past.bytes
  pub lost : AreLossesOf end.outside.lost_sends end.machine.lost_memory (has_failed order.log end.outside.log_failed) history.lost

-- a run failed whose ports were bound: its router did not start, and no calls are told; or after that
abbrev pub FailsBound : Order → RouterValue → Lcg → Failure → History → Type 0
FailsBound order router rng failure history =
    (history.ports.calls ≡ None) ⊎ HasFailed order router rng failure history

-- a run of a configuration's text, as it is ordered, failed: nothing was bound, and its history is as it was; or its ports were bound
abbrev pub IsCutOff : Order → List ℕ → Failure → History → Type 0
IsCutOff order text failure history =
    (config : Config) × IsConfigured text order.tag order.quiet config × (history.ports.on_links ≡ Some (links_of config))
    × FailsBound order config.router config.rng failure history
