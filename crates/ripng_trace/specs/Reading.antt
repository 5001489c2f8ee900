-- What a reader of a trace has, who goes through its records from the first one on: each router's table.
use Rattle.std.specs.Prelude.{◌≡◌, ◌⊎◌, ℕ, Bool, true, false, ⊤, List, [], ◌∷◌, map, Option, Some, None, codes, get_or, slice_set}
use Rattle.ripng_trace.specs.Below.{Table, Answer, Json, LabValue, telling, Received, Lies, World, Event, Stranger, Happens, StartsAt, KnownRouter, Action, Prints, Asks, Loses, GoesRound, Makes, Runs, Tallies, Ends, AsideRecord, EventRecord, StartRecord}
use Rattle.std.specs.FinMap as map_of
use Rattle.ripng_trace.specs.Events.{RecordTells}
use Rattle.ripng_trace.specs.Json.{json_of_aside, json_of_event, json_of_start}
use Rattle.ripng_trace.specs.Lines.{WritesLess, WritesRecord}
use Rattle.ripng_trace.specs.Offers.{TellsOffers}
use Rattle.ripng_trace.specs.Records.{known_as, taken_out, with_routes}
use Rattle.ripng_trace.specs.Starting.{TellsStart}
use Rattle.ripng_trace.specs.Updates.{due_at}

-- ---- what a reader has

-- a line of a trace: the record of a start, of an event or a lie, of what a line of the script prints, loses or has made, or of why it
-- ends the script
pub data Line : Type 0 where
  StartLine : StartRecord → Line
  EventLine : (is_forged : Bool) → EventRecord → Line
  AsideLine : AsideRecord → Line

-- what a reader has of each router once it has read a line: of a start each router's routes; of an event what it had, but of the
-- router that moved without what is gone and with the routes that are told; else what it had
abbrev pub read_line : List Table → Line → List Table
read_line shown (StartLine r) = map (λ router. with_routes map_of.empty router.routes.items) r.routers.items
read_line shown (EventLine is_forged r) = slice_set shown r.router (with_routes (taken_out (get_or shown r.router map_of.empty) r.news.gone.items) r.news.routes.items)
read_line shown (AsideLine r) = shown

-- ---- what there is to know

-- the table of each router
abbrev pub tables_of : World → List Table
tables_of w = map (λ s. s.table) w.states

-- each router as it is
abbrev pub known_of : World → List KnownRouter
known_of w = map known_as w.states

-- the same of a script's lab, which has no routers before its start
abbrev pub tables_in : Option LabValue → List Table
tables_in None = []
tables_in (Some lab) = tables_of lab.world

abbrev pub known_in : Option LabValue → List KnownRouter
known_in None = []
known_in (Some lab) = known_of lab.world

-- an event happens in a lab, with this answer
abbrev pub HappensIn : LabValue → Event → Answer → LabValue → Type 0
HappensIn lab e answer lab' = (lab'.network ≡ lab.network) × Happens lab.network lab.world e answer lab'.world

-- the word of a record of what a line prints
abbrev pub IsPrintWord : List ℕ → Type 0
IsPrintWord word = (word ≡ codes "print") ⊎ ((word ≡ codes "sent") ⊎ ((word ≡ codes "say") ⊎ ((word ≡ codes "path") ⊎ (word ≡ codes "horizon"))))

abbrev pub HasWord : Action → Type 0
HasWord (Prints word lines text) = IsPrintWord word.now
HasWord (Asks names router now lost lost_at) = ⊤
HasWord (Loses datagram) = ⊤
HasWord (GoesRound rounds last) = ⊤
HasWord (Makes made) = ⊤
HasWord (Runs until seed) = ⊤
HasWord (Tallies numbers) = ⊤
HasWord (Ends how why hint) = ⊤

-- a record of an event has the offers and the update of it, by the lab before and the lab after
pub record Explains (lab : LabValue) (e : Event) (answer : Answer) (lab' : LabValue) (r : EventRecord) : Type 0 where
  pub offers : TellsOffers (known_of lab.world) lab' e answer.notes r.offers.items
  pub update : r.update ≡ due_at lab e

-- a record tells of an event that happens in a lab, or of a lie
abbrev pub TellsMove : Bool → LabValue → LabValue → EventRecord → Type 0
TellsMove false lab lab' r =
    (e : Event) × (answer : Answer) × HappensIn lab e answer lab' × RecordTells false r.line (telling lab.network lab.world e answer lab'.world) r × Explains lab e answer lab' r
TellsMove true lab lab' r =
    (router : ℕ) × (x : Received) × (answer : Answer) × (lab'.network ≡ lab.network) × Lies lab.world router x answer lab'.world
    × RecordTells true r.line (telling lab.network lab.world (Stranger router x) answer lab'.world) r

-- a line tells what becomes of a script's lab: it starts; an event or a lie happens in it; or nothing does
abbrev pub TellsOf : Line → Option LabValue → Option LabValue → Type 0
TellsOf (StartLine r) before after = (before ≡ None) × (lab : LabValue) × (after ≡ Some lab) × StartsAt lab r.now × TellsStart r.line lab r.now r
TellsOf (EventLine is_forged r) before after = (lab : LabValue) × (before ≡ Some lab) × (lab' : LabValue) × (after ≡ Some lab') × TellsMove is_forged lab lab' r
TellsOf (AsideLine r) before after = (after ≡ before) × HasWord r.action

-- ---- a trace

-- these lines tell all that becomes of a script's lab, one after another; and after each of them a reader has each router's table
abbrev pub TellsScript : Option LabValue → List Table → List Line → Option LabValue → Type 0
TellsScript lab shown [] end = end ≡ lab
TellsScript lab shown (line ∷ lines) end =
    (mid : Option LabValue) × TellsOf line lab mid × (read_line shown line ≡ tables_in mid) × TellsScript mid (read_line shown line) lines end

-- the JSON of its record
abbrev pub json_of : Line → Json
json_of (StartLine r) = json_of_start r
json_of (EventLine is_forged r) = json_of_event r
json_of (AsideLine r) = json_of_aside r

-- its record is written, as one line
abbrev pub IsWritten : Line → Option (List ℕ) → Option (List ℕ) → Type 0
IsWritten line = WritesRecord (json_of line)

-- so is that of each of these, in order, and nothing else
abbrev pub AreWritten : List Line → Option (List ℕ) → Option (List ℕ) → Type 0
AreWritten [] old new = new ≡ old
AreWritten (line ∷ lines) old new = (mid : Option (List ℕ)) × IsWritten line old mid × AreWritten lines mid new

-- a script is traced, from before its lab starts until this is its lab: behind what was written before stands a line for each
-- record, and the records tell all that became of the lab, to a reader who had nothing
abbrev pub IsTraced : Option (List ℕ) → Option LabValue → Option (List ℕ) → Type 0
IsTraced old lab new = (lines : List Line) × TellsScript None [] lines lab × AreWritten lines old new

-- the lab is one event further, or one lie
abbrev pub IsOneFurther : Option LabValue → Option LabValue → Type 0
IsOneFurther before lab =
    (l : LabValue) × (before ≡ Some l) × (l' : LabValue) × (lab ≡ Some l')
    × (((e : Event) × (answer : Answer) × HappensIn l e answer l') ⊎ ((router : ℕ) × (x : Received) × (answer : Answer) × (l'.network ≡ l.network) × Lies l.world router x answer l'.world))

-- so it is until memory is refused, or the writer fails: then the lab may be one event further than what is told, and behind the
-- lines there may be less than one more
abbrev pub IsTracedUntil : Option (List ℕ) → Option LabValue → Option (List ℕ) → Type 0
IsTracedUntil old lab new =
    (told : Option LabValue) × (written : Option (List ℕ)) × IsTraced old told written × ((lab ≡ told) ⊎ IsOneFurther told lab) × WritesLess written new
