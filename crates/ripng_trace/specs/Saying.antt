-- What the tracer makes of what it is told.
use Rattle.std.specs.Prelude.{◌≡◌, ⊤, ℕ, Bool, true, false, List, ◌++◌, Option, IfSome, slice_get, slice_set}
use Rattle.ripng_trace.specs.Below.{LabValue, Told, Aside, NextLine, CountsPhases, ShowsCounts, Lie, Broken, Known, KnownRouter, Action, EventRecord, StartRecord, Tracer}
use Rattle.ripng_lab.specs.Asides.{Prints}
use Rattle.ripng_trace.specs.Events.{RecordTells}
use Rattle.ripng_trace.specs.Json.{json_of_aside, json_of_event, json_of_start}
use Rattle.ripng_trace.specs.Lines.{WritesLess, WritesRecord, written_as}
use Rattle.ripng_trace.specs.Offers.{TellsOffers}
use Rattle.ripng_trace.specs.Reading.{IsPrintWord, known_of}
use Rattle.ripng_trace.specs.Records.{LeadsTo, known_as}
use Rattle.ripng_trace.specs.Starting.{TellsStart}
use Rattle.ripng_trace.specs.Updates.{TellsUpdate}
use Rattle.ripng_trace.specs.declared.records.Action.TheVariants as action

-- the line of the script that it is at, and each router as a reader of its records knows it
pub record Knows : Type 0 where
  pub line : ℕ
  pub routers : List KnownRouter

abbrev pub knows : Known → Knows
knows k = record { line = k.line; routers = k.routers.items }

-- the same, and what is written
pub record Said : Type 0 where
  pub known : Knows
  pub written : Option (List ℕ)

abbrev pub said_by : {W : Type 0} → (W → Option (List ℕ)) → Tracer W → Said
said_by contents t = record { known = knows t.known; written = written_as t.form (contents t.out.now) }

-- it writes to the same reference, in the same form
abbrev pub SameOutput : {W : Type 0} → Tracer W → Tracer W → Type 0
SameOutput old new = (new.form ≡ old.form) × (new.out.ghost_name ≡ old.out.ghost_name)

-- ---- the start and events

-- a record tells of the start, and each router is known from then on
pub record StartIsTold (known : Knows) (lab : LabValue) (now : ℕ) (r : StartRecord) (known' : Knows) : Type 0 where
  pub tells : TellsStart known.line lab now r
  pub routers_are : known'.routers ≡ known.routers ++ known_of lab.world
  pub line_is : known'.line ≡ known.line

-- a record tells of an event, or of a lie, of its offers and of its update, and leads from the table known of its router to that
-- router's own; that router is known from then on as it is, and all others as they were
pub record EventIsTold (is_forged : Bool) (known : Knows) (what : Told) (r : EventRecord) (known' : Knows) : Type 0 where
  pub tells : RecordTells is_forged known.line what r
  pub listed : IfSome (slice_get known.routers r.router) (λ before. IfSome (slice_get what.lab.world.states r.router) (λ state. LeadsTo before.table r.news.routes.items r.news.gone.items state.table))
  pub offers : TellsOffers known.routers what.lab what.event what.answer.notes r.offers.items
  pub update : TellsUpdate known.routers what.lab what.event r.update
  pub routers_are : IfSome (slice_get what.lab.world.states r.router) (λ state. known'.routers ≡ slice_set known.routers r.router (known_as state))
  pub line_is : known'.line ≡ known.line

-- such a record is written, as one line
abbrev pub SaysStart : Said → LabValue → ℕ → Said → Type 0
SaysStart said lab now said' = (r : StartRecord) × StartIsTold said.known lab now r said'.known × WritesRecord (json_of_start r) said.written said'.written

abbrev pub SaysMove : Bool → Said → Told → Said → Type 0
SaysMove is_forged said what said' = (r : EventRecord) × EventIsTold is_forged said.known what r said'.known × WritesRecord (json_of_event r) said.written said'.written

abbrev pub SaysEvent : Said → Told → Said → Type 0
SaysEvent said what said' = SaysMove false said what said'

-- where the telling of an event fails, less than a line is written
abbrev pub BreaksOff : Said → Told → Said → Type 0
BreaksOff said what said' = WritesLess said.written said'.written

-- ---- asides

-- it prints something, asks, loses a datagram, makes rounds, lets time pass, or ends the script
abbrev pub IsPrinted : Action → Type 0
IsPrinted (action.Prints word lines text) = IsPrintWord word.now
IsPrinted (action.Asks names router now lost lost_at) = ⊤
IsPrinted (action.Loses datagram) = ⊤
IsPrinted (action.GoesRound rounds last) = ⊤
IsPrinted (action.Makes made) = ⊥
IsPrinted (action.Runs until seed) = ⊤
IsPrinted (action.Tallies numbers) = ⊥
IsPrinted (action.Ends how why hint) = ⊤

-- the record of such an action is written, as one line, and all that is known stays
pub record SaysAlone (a : Action) (said said' : Said) : Type 0 where
  pub known_is : said'.known ≡ said.known
  pub writes : WritesRecord (json_of_aside (record { line = said.known.line; action = a })) said.written said'.written

-- of what a line prints, loses or has made, or why it ends the script, a record is written
abbrev pub SaysPrinted : Said → Said → Type 0
SaysPrinted said said' = (a : Action) × IsPrinted a × SaysAlone a said said'

-- of the number of the next line it writes nothing, and knows it; of all else a record
abbrev pub SaysAside : Said → Aside → Said → Type 0
SaysAside said (NextLine number) said' = said' ≡ record said { known = record said.known { line = number } }
SaysAside said Prints said' = SaysPrinted said said'
SaysAside said (CountsPhases phases last) said' = SaysAlone (action.Makes (record { phases = phases; last = last })) said said'
SaysAside said (ShowsCounts numbers) said' = SaysAlone (action.Tallies numbers) said said'
SaysAside said (Lie what) said' = SaysMove true said what said'
SaysAside said Broken said' = WritesLess said.written said'.written
