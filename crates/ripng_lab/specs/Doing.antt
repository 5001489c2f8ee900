-- What a line of a script makes happen, by what it does and by the parts that it names: as notifications of the script's observer.
use Rattle.std.specs.Prelude.{◌≡◌, ⊤, ◌⊎◌, All, ℕ, Bool, true, false, List, [], ◌∷◌, ◌++◌, map, Option}
use Rattle.ripng_lab.specs.Below.{AllByRecursion, Answer, LabValue, Numbers, Told, Event, Deliver, Stranger, Tick, Received, Outages}
use Rattle.ripng_clock.specs.Passing.{AreInOrder}
use Rattle.ripng_world.specs.Below.{Cost, Own, Disown}
use Rattle.ripng_world.specs.World.{Restart, Shutdown, LinkDown, LinkUp, Reconfigure}
use Rattle.ripng_lab.specs.Asides.{Aside}
use Rattle.ripng_lab.specs.Plans.{all_ticks}
use Rattle.ripng_lab.specs.ScriptWatching.{Telling, Starts, Does, Notes, Counts, Shows, Deceives, TellsAll}
use Rattle.ripng_lab.specs.declared.forms.Action.{Action}
use Rattle.ripng_lab.specs.declared.forms.Action.TheVariants as action
use Rattle.ripng_lab.specs.declared.forms.Step.{Step}
use Rattle.ripng_lab.specs.declared.forms.Step.TheVariants as step
use Rattle.ripng_lab.specs.declared.forms.Verb.{Verb}
use Rattle.ripng_lab.specs.declared.forms.Verb.TheVariants as verb
use Rattle.ripng_lab.specs.declared.line.Line.{Line}

-- the event of that kind at an interface of a router: of the datagram, the moment, the word, the cost and the prefix that the line names
abbrev pub event_by : Step → Line → ℕ → ℕ → Event
event_by step.Deliver line router iface = Deliver line.datagram router iface line.now
event_by step.Tick line router iface = Tick router line.now line.word
event_by step.Restart line router iface = Restart router line.now
event_by step.Shutdown line router iface = Shutdown router line.now
event_by step.Down line router iface = LinkDown router line.now iface
event_by step.Up line router iface = LinkUp router line.now iface
event_by step.Cost line router iface = Reconfigure router line.now (Cost iface line.cost)
event_by step.Gain line router iface = Reconfigure router line.now (Own line.prefix line.tag)
event_by step.Drop line router iface = Reconfigure router line.now (Disown line.prefix)

-- a datagram of an outside host, with the addresses, the port and the moment that the line names
abbrev pub arrival_by : Line → List ℕ → Received
arrival_by line bytes =
    record {
      now = line.now;
      iface = line.iface;
      source = line.addr;
      source_port = line.port;
      hop_limit = line.hop_limit;
      to_group = line.to_group;
      bytes = bytes;
    }

-- just this event happens, with some answer of its router
abbrev pub IsEvent : Event → List Telling → Type 0
IsEvent e ts = (answer : Answer) × (ts ≡ Does e answer ∷ [])

-- just this forged Response comes, with some answer of its router
abbrev pub IsLie : ℕ → Received → List Telling → Type 0
IsLie router x ts = (answer : Answer) × (ts ≡ Deceives router x answer ∷ [])

-- just one thing is noted
abbrev pub IsNote : List Telling → Type 0
IsNote ts = ts ≡ Notes ∷ []

-- this comes last
abbrev pub EndsIn : Telling → List Telling → Type 0
EndsIn last ts = (before : List Telling) × (ts ≡ before ++ last ∷ [])

-- at last so many phases are counted
abbrev pub EndsInPhases : ℕ → List Telling → Type 0
EndsInPhases phases ts = (last : Option ℕ) × EndsIn (Counts phases last) ts

-- of each of these, one after another, this happens
abbrev pub InTurn : {X : Type 0} → (X → List Telling → Type 0) → List X → List Telling → Type 0
InTurn happens [] ts = ts ≡ []
InTurn happens (x ∷ xs) ts = (own : List Telling) × (rest : List Telling) × happens x own × InTurn happens xs rest × (ts ≡ own ++ rest)

-- an event is the arrival of a datagram at an interface, at that moment
abbrev pub IsDelivery : ℕ → Event → Type 0
IsDelivery now (Deliver datagram router iface moment) = moment ≡ now
IsDelivery now _ = ⊥

-- what a delivery brings: the datagram; or, where its sender has another horizon than RIPng's, what that sends in its place, or nothing
abbrev pub IsBrought : Event → List Telling → Type 0
IsBrought e ts = IsEvent e ts ⊎ ((ts ≡ []) ⊎ ((router : ℕ) × (x : Received) × IsDelivery x.now e × IsLie router x ts))

-- an event, or, where there is something else in place of the datagram that it delivers, what that brings
abbrev pub IsPlayed : Bool → Event → List Telling → Type 0
IsPlayed false e ts = IsEvent e ts
IsPlayed true e ts = IsBrought e ts

-- a wave: these ticks, one after another, and then deliveries, all at that moment
abbrev pub IsWave : List Event → ℕ → List Telling → Type 0
IsWave ticks now ts =
    (first : List Telling) × (rest : List Telling) × InTurn IsEvent ticks first
    × (events : List Event) × All (IsDelivery now) events × InTurn IsBrought events rest × (ts ≡ first ++ rest)

-- a round: each router of a network of so many, but for those that are silent, ticks once, in order, with the word 0; and then a wave's
-- deliveries
abbrev pub IsRound : ℕ → List Telling → Type 0
IsRound now ts = (outages : Outages) × (routers : ℕ) × IsWave (all_ticks outages routers now) now ts

-- these are events of that kind, each at an interface
abbrev pub AreAtEach : Step → Line → List Event → Type 0
AreAtEach kind line events = (places : List (ℕ × ℕ)) × (events ≡ map (λ place. event_by kind line place.0 place.1) places)

-- an event of that kind at each of some interfaces, one after another
abbrev pub IsAtEach : Step → Line → List Telling → Type 0
IsAtEach kind line ts = (events : List Event) × AreAtEach kind line events × InTurn IsEvent events ts

-- just what was counted is shown
abbrev pub IsShown : List Telling → Type 0
IsShown ts = (numbers : Numbers) × (ts ≡ Shows numbers ∷ [])

-- a router ticks, or a datagram comes to it
abbrev pub IsTickOrDelivery : Event → Type 0
IsTickOrDelivery (Tick router now word) = ⊤
IsTickOrDelivery (Deliver datagram router iface now) = ⊤
IsTickOrDelivery _ = ⊥

-- time passes until a moment: routers tick and datagrams come, in the order of time, none later than then, and at last that is noted
abbrev pub PassesUntil : ℕ → List Telling → Type 0
PassesUntil until ts =
    (begin : ℕ) × (events : List Event) × AllByRecursion IsTickOrDelivery events × AreInOrder begin events until × (own : List Telling) × InTurn IsEvent events own
    × (ts ≡ own ++ Notes ∷ [])

-- what a line does with a network that runs. One event: just that. What prints, and a loss, is noted, and nothing happens. Of silence,
-- a cut, how a link carries, and an expectation that is met nothing is said. At a link, an event at each interface. Waves: the tick of one router, of none,
-- or of all. A line of many rounds or phases may have any events, but rounds are noted at last, and phases counted. Where time
-- passes, ticks and deliveries until then
abbrev pub MeansAct : Action → Line → List Telling → Type 0
MeansAct (action.Step kind) line ts = IsEvent (event_by kind line line.router line.iface) ts
MeansAct action.Arrive line ts = (bytes : List ℕ) × IsEvent (Stranger line.router (arrival_by line bytes)) ts
MeansAct action.Lose line ts = IsNote ts
MeansAct action.PrintAll line ts = IsNote ts
MeansAct action.PrintRouter line ts = IsNote ts
MeansAct action.PrintRoute line ts = IsNote ts
MeansAct action.PrintAllSent line ts = IsNote ts
MeansAct action.PrintSent line ts = IsNote ts
MeansAct action.Say line ts = IsNote ts
MeansAct action.Path line ts = IsNote ts
MeansAct (action.Silent silent) line ts = ts ≡ []
MeansAct (action.Cut cut) line ts = ts ≡ []
MeansAct action.Expect line ts = ts ≡ []
MeansAct action.ExpectPath line ts = ts ≡ []
MeansAct (action.AtLink kind) line ts = IsAtEach kind line ts
MeansAct action.Tell line ts = IsWave (Tick line.router line.now line.word ∷ []) line.now ts
MeansAct action.Hear line ts = IsWave [] line.now ts
MeansAct action.Round line ts = IsRound line.now ts
MeansAct action.Rounds line ts = EndsIn Notes ts
MeansAct action.Phases line ts = EndsInPhases line.count ts
MeansAct action.Run line ts = PassesUntil line.now ts
MeansAct action.Carry line ts = ts ≡ []
MeansAct action.Count line ts = IsShown ts
MeansAct action.ExpectSettled line ts = ts ≡ []
MeansAct action.ExpectHealed line ts = ts ≡ []

-- what a line does: of a part of a network, of a refusal that is awaited, and of whether routers ask, nothing is said; at `cold` all routers start at the line's
-- moment; a forged Response comes, or another horizon is noted; or it does something with a network that runs
abbrev pub MeansVerb : Verb → Line → List Telling → Type 0
MeansVerb (verb.Router quiet) line ts = ts ≡ []
MeansVerb verb.Interface line ts = ts ≡ []
MeansVerb verb.Prefixes line ts = ts ≡ []
MeansVerb verb.Start line ts = ts ≡ Starts line.now ∷ []
MeansVerb verb.Forge line ts = (bytes : List ℕ) × IsLie line.router (arrival_by line bytes) ts
MeansVerb verb.Bend line ts = IsNote ts
MeansVerb verb.Await line ts = ts ≡ []
MeansVerb (verb.Asking asks) line ts = ts ≡ []
MeansVerb (verb.Act does) line ts = MeansAct does line ts

-- what a line does, as it says
abbrev pub Means : Line → List Telling → Type 0
Means line ts = MeansVerb line.verb line ts

-- the observer is notified, one after another, of what has that meaning, and nothing else happens in the lab
abbrev pub HasDone : {V : Type 0} → (List Telling → Type 0) → (V → LabValue → ℕ → V → Type 0) → (V → Told → V → Type 0) → (V → Aside → V → Type 0) → Option LabValue × V → Option LabValue × V → Type 0
HasDone means starts takes notes s s' = (ts : List Telling) × means ts × TellsAll starts takes notes s ts s'
