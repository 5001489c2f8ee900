-- A trace of a script: its records are those of what the lines of the script made happen, in order.
use Rattle.std.specs.Prelude.{◌≡◌, ℕ, Bool, true, false, List, [], ◌∷◌, Option, None}
use Rattle.ripng_trace.specs.Below.{event_of, LabValue, Stranger, Makes, Tallies}
use Rattle.ripng_lab.specs.Scripts.{IsOfScript}
use Rattle.ripng_lab.specs.ScriptWatching.{Telling, Starts, Does, Turns, Notes, Counts, Shows, Deceives}
use Rattle.ripng_trace.specs.Reading.{Line, StartLine, EventLine, AsideLine, AreWritten, TellsScript}

-- a record is of that line of a script, and of what was notified of: a start at the moment; the event; a forged Response as that datagram;
-- so many phases; what was counted; or something that is printed, lost or made, or ends the script
abbrev pub IsRecordOf : ℕ → Telling → Line → Type 0
IsRecordOf number (Starts now) (StartLine r) = (r.line ≡ number) × (r.now ≡ now)
IsRecordOf number (Does e answer) (EventLine false r) = (r.line ≡ number) × (event_of r.happened.event.now ≡ e)
IsRecordOf number (Deceives router x answer) (EventLine true r) = (r.line ≡ number) × (event_of r.happened.event.now ≡ Stranger router x)
IsRecordOf number (Counts phases last) (AsideLine r) = (r.line ≡ number) × (r.action ≡ Makes (record { phases = phases; last = last }))
IsRecordOf number (Shows numbers) (AsideLine r) = (r.line ≡ number) × (r.action ≡ Tallies numbers)
IsRecordOf number Notes (AsideLine r) = r.line ≡ number
IsRecordOf number _ _ = ⊥

-- the records are of all that was notified of, one for each, in order, with the number of its line; of the number of a line there is none
abbrev pub AreRecordsOf : ℕ → List Telling → List Line → Type 0
AreRecordsOf number [] records = records ≡ []
AreRecordsOf number (Turns next ∷ ts) records = AreRecordsOf next ts records
AreRecordsOf number (t ∷ ts) [] = ⊥
AreRecordsOf number (t ∷ ts) (r ∷ records) = IsRecordOf number t r × AreRecordsOf number ts records

-- a trace with a record of all that was notified of, from before the first line on, and with no other
abbrev pub IsTraceOf : List Telling → Option (List ℕ) → Option LabValue → Option (List ℕ) → Type 0
IsTraceOf ts old lab new = (records : List Line) × TellsScript None [] records lab × AreWritten records old new × AreRecordsOf 0 ts records

-- a script is traced, and every line was done or not: there is a record of each thing that its lines make happen, and no other
abbrev pub IsScriptTraced : List ℕ → Bool → Option (List ℕ) → Option LabValue → Option (List ℕ) → Type 0
IsScriptTraced script done old lab new = (ts : List Telling) × IsOfScript script done ts × IsTraceOf ts old lab new
