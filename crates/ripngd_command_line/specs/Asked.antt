-- What the words of a command line ask of ripngd.
use Rattle.std.specs.Prelude.{◌≡◌, ◌≢◌, ◌<◌, ◌≤◌, ◌⊎◌, ◌^◌, ◌==◌, ℕ, Bool, List, [], Option, Some, None, codes, length, option_map, IsTrue, ◌↔◌, slice_get, slice_index}
use Rattle.std.specs.List.{before_first, after_first}
use Rattle.std.specs.Str.Parse.{IsNumeral, digits_value, without_leading_plus}
use Rattle.clap.specs.Walk.{Row, Text, first_of, one_of}
use Rattle.clap.specs.Simple.{subcommand_of}
use Rattle.ripngd_command_line.specs.declared.asked.Ask.{Ask}
use Rattle.ripngd_command_line.specs.declared.asked.Capturing.{Capturing}
use Rattle.ripngd_command_line.specs.declared.asked.Job.{Job}
use Rattle.ripngd_command_line.specs.declared.asked.Marking.{Marking}
use Rattle.ripngd_command_line.specs.declared.asked.Numbering.{Numbering}
use Rattle.ripngd_command_line.specs.declared.asked.Order.{Order}
use Rattle.ripngd_command_line.specs.declared.asked.Question.{Question}
use Rattle.ripngd_command_line.specs.declared.asked.Seeds.{Seeds}
use Rattle.ripngd_command_line.specs.declared.asked.Sweep.{Sweep}
use Rattle.ripngd_command_line.specs.declared.asked.Ask.TheVariants as asks
use Rattle.ripngd_command_line.specs.declared.asked.Job.TheVariants as jobs
use Rattle.ripngd_command_line.specs.CommandLine.{ripngd}

-- the number of a decimal text
abbrev pub decimal_value : Text → ℕ
decimal_value text = digits_value 10 (without_leading_plus text)

-- the argument has this number as its value
abbrev pub HasNumber : List Row → Text → ℕ → Type 0
HasNumber rows id n = (text : Text) × (one_of id rows ≡ Some text) × (decimal_value text ≡ n)

-- the flag was given
abbrev pub IsSet : List Row → Text → Type 0
IsSet rows id = one_of id rows ≡ Some (codes "true")

-- the number is written with a sign
abbrev pub IsSigned : Option Text → Type 0
IsSigned None = ⊥
IsSigned (Some number) = (slice_get number 0 ≡ Some 43) ⊎ (slice_get number 0 ≡ Some 45)

-- the argument has a number that is written with a sign
abbrev pub HasSign : List Row → Text → Type 0
HasSign rows id = IsSigned (first_of id rows)

-- a number of `run` is
abbrev pub HasSignedOrder : List Row → Type 0
HasSignedOrder rows = HasSign rows (codes "tag") ⊎ HasSign rows (codes "turns") ⊎ HasSign rows (codes "seconds")

-- the argument has these seconds as its value; or it was not given
abbrev pub AreSeconds : Text → Option ℕ → List Row → Type 0
AreSeconds id (Some n) rows = HasNumber rows id n × (1 ≤ n)
AreSeconds id None rows = first_of id rows ≡ None

-- the rows of `run` order this
pub record IsOrdered (order : Order) (rows : List Row) : Type 0 where
  pub quiet : IsTrue order.quiet ↔ IsSet rows (codes "quiet")
  pub debug : IsTrue order.debug ↔ IsSet rows (codes "debug")
  pub tag : HasNumber rows (codes "tag") order.tag
  pub log : option_map (λ s. s.now) order.log ≡ first_of (codes "log") rows
  pub append : IsTrue order.append ↔ IsSet rows (codes "append")
  pub turns : HasNumber rows (codes "turns") order.turns
  pub some : 1 ≤ order.turns
  pub seconds : AreSeconds (codes "seconds") order.seconds rows
  pub control : option_map (λ s. s.now) order.control ≡ first_of (codes "control") rows
  pub config : first_of (codes "CONFIG") rows ≡ Some order.config.now
  pub signed : IsTrue order.signed ↔ HasSignedOrder rows

-- the log of a run is a file
abbrev pub IsFile : Option Text → Type 0
IsFile None = ⊥
IsFile (Some name) = name ≢ codes "-"

-- a run is to go on in a log, and that is no file
abbrev pub GoesOnInNoFile : Order → Type 0
GoesOnInNoFile order = IsTrue order.append × ¬ (IsFile (option_map (λ s. s.now) order.log))

-- a capture has other options beside it, or would take the place of its script
abbrev pub IsCapturedBadly : Capturing → Type 0
IsCapturedBadly capturing = IsTrue capturing.mixed ⊎ (capturing.capture.now ≡ capturing.script.now)

-- lines of numbers are to be by something else than router
abbrev pub AreByOther : Option Text → Type 0
AreByOther None = ⊥
AreByOther (Some column) = column ≢ codes "router"

-- lines of numbers have other options beside them, no interval or one with a sign, or a column that there is not
abbrev pub IsNumberedBadly : Numbering → Type 0
IsNumberedBadly numbering =
    IsTrue numbering.mixed ⊎ (numbering.seconds ≡ None) ⊎ IsTrue numbering.signed ⊎ AreByOther (option_map (λ s. s.now) numbering.by)

-- a sweep has other options beside it, or no seeds
abbrev pub IsSweptBadly : Sweep → Type 0
IsSweptBadly sweep = IsTrue sweep.mixed ⊎ (sweep.seeds ≡ None)

-- what is asked makes no sense, though clap takes each word of it, or has a number with a sign
abbrev pub IsMisused : Job → Type 0
IsMisused (jobs.Ask (asks.Run order)) = GoesOnInNoFile order ⊎ IsTrue order.signed
IsMisused (jobs.Ask (asks.Ctl question)) = IsTrue question.mixed
IsMisused (jobs.LabCapture capturing) = IsCapturedBadly capturing
IsMisused (jobs.LabNumbers numbering) = IsNumberedBadly numbering
IsMisused (jobs.LabSeeds sweep) = IsSweptBadly sweep
IsMisused _ = ⊥

-- the byte is a dot
abbrev pub is_dot : ℕ → Bool
is_dot byte = byte == 46

-- a seed: decimal digits, of which the first is not 0 (48) unless it is the only one, whose number fits 64 bits
pub record IsSeedText (text : Text) (seed : ℕ) : Type 0 where
  pub digits : IsNumeral 10 text
  pub no_leading_zero : slice_index text 0 ≡ 48 → length text ≡ 1
  pub value : digits_value 10 text ≡ seed
  pub bound : seed < 2 ^ 64

-- the text is two seeds in order, with two dots between them
pub record ReadsSeeds (text : Text) (seeds : Seeds) : Type 0 where
  pub first : IsSeedText (before_first is_dot text) seeds.first
  pub dots : before_first is_dot (after_first is_dot text) ≡ []
  pub last : IsSeedText (after_first is_dot (after_first is_dot text)) seeds.last
  pub order : seeds.first ≤ seeds.last

-- these are the seeds of the text; or it has none
abbrev pub AreSeeds : Option Seeds → Text → Type 0
AreSeeds (Some seeds) text = ReadsSeeds text seeds
AreSeeds None text = (seeds : Seeds) → ¬ (ReadsSeeds text seeds)

-- the rows of `lab` say that a script is marked: against an exercise, or by a count
abbrev pub AreOfMarking : List Row → Type 0
AreOfMarking rows = (first_of (codes "against") rows ≢ None) ⊎ IsSet rows (codes "count")

-- and so they say how
pub record IsMarking (marking : Marking) (rows : List Row) : Type 0 where
  pub script : first_of (codes "SCRIPT") rows ≡ Some marking.script.now
  pub exercise : option_map (λ s. s.now) marking.exercise ≡ first_of (codes "against") rows
  pub counts : IsTrue marking.counts ↔ IsSet rows (codes "count")

-- what stands behind the command: with `--json` that word, and WHAT otherwise
abbrev pub IsWhat : Option Text → List Row → Type 0
IsWhat what rows =
    (IsSet rows (codes "json") × (what ≡ Some (codes "json"))) ⊎ (¬ (IsSet rows (codes "json")) × (what ≡ first_of (codes "WHAT") rows))

-- `--json` stands with another command than `status`, or with a word behind it
abbrev pub IsJsonElsewhere : List Row → Type 0
IsJsonElsewhere rows =
    IsSet rows (codes "json") × ((first_of (codes "COMMAND") rows ≢ Some (codes "status")) ⊎ (first_of (codes "WHAT") rows ≢ None))

-- the rows of `ctl` ask this
pub record IsQuestion (question : Question) (rows : List Row) : Type 0 where
  pub socket : first_of (codes "PATH") rows ≡ Some question.socket.now
  pub command : first_of (codes "COMMAND") rows ≡ Some question.command.now
  pub what : IsWhat (option_map (λ s. s.now) question.what) rows
  pub value : option_map (λ s. s.now) question.value ≡ first_of (codes "VALUE") rows
  pub port : option_map (λ s. s.now) question.port ≡ first_of (codes "PORT") rows
  pub mixed : IsTrue question.mixed ↔ IsJsonElsewhere rows

-- the subcommand of this name, with the rows of its arguments, is what is asked
abbrev pub IsAsked : Ask → Text → List Row → Type 0
IsAsked (asks.Show hex) name rows =
    (name ≡ codes "show") × (first_of (codes "HEX") rows ≡ Some hex.now)
IsAsked (asks.Check file) name rows =
    (name ≡ codes "check") × (first_of (codes "CONFIG") rows ≡ Some file.now)
IsAsked (asks.Lab file) name rows =
    (name ≡ codes "lab") × (first_of (codes "SCRIPT") rows ≡ Some file.now) × ¬ (AreOfMarking rows) × ¬ (IsSet rows (codes "trace"))
    × ¬ (IsSet rows (codes "changes")) × ¬ (IsSet rows (codes "explain"))
IsAsked (asks.Mark marking) name rows = (name ≡ codes "lab") × AreOfMarking rows × IsMarking marking rows
IsAsked (asks.Explain file) name rows =
    (name ≡ codes "lab") × (first_of (codes "SCRIPT") rows ≡ Some file.now) × ¬ (AreOfMarking rows) × ¬ (IsSet rows (codes "trace"))
    × ¬ (IsSet rows (codes "changes")) × IsSet rows (codes "explain")
IsAsked (asks.Changes file) name rows =
    (name ≡ codes "lab") × (first_of (codes "SCRIPT") rows ≡ Some file.now) × ¬ (AreOfMarking rows) × ¬ (IsSet rows (codes "trace"))
    × IsSet rows (codes "changes")
IsAsked (asks.Trace file) name rows =
    (name ≡ codes "lab") × (first_of (codes "SCRIPT") rows ≡ Some file.now) × ¬ (AreOfMarking rows) × IsSet rows (codes "trace")
IsAsked (asks.Run order) name rows = (name ≡ codes "run") × IsOrdered order rows
IsAsked (asks.Ctl question) name rows = (name ≡ codes "ctl") × IsQuestion question rows
IsAsked (asks.Table file) name rows =
    (name ≡ codes "table") × (first_of (codes "LOG") rows ≡ Some file.now)

-- the rows of `lab` have an option beside that of a capture
abbrev pub HasOtherOption : List Row → Type 0
HasOtherOption rows = AreOfMarking rows ⊎ IsSet rows (codes "trace") ⊎ IsSet rows (codes "changes") ⊎ IsSet rows (codes "explain")

-- the rows of `lab` say how a capture is made
pub record IsCapturing (capturing : Capturing) (rows : List Row) : Type 0 where
  pub capture : first_of (codes "pcap") rows ≡ Some capturing.capture.now
  pub script : first_of (codes "SCRIPT") rows ≡ Some capturing.script.now
  pub mixed : IsTrue capturing.mixed ↔ HasOtherOption rows

-- the rows of `lab` have an option of the lines of numbers
abbrev pub HasNumbers : List Row → Type 0
HasNumbers rows = (first_of (codes "csv") rows ≢ None) ⊎ (first_of (codes "by") rows ≢ None)

-- the rows of `lab` say how the lines of numbers are written
pub record IsNumbering (numbering : Numbering) (rows : List Row) : Type 0 where
  pub script : first_of (codes "SCRIPT") rows ≡ Some numbering.script.now
  pub seconds : AreSeconds (codes "csv") numbering.seconds rows
  pub by : option_map (λ s. s.now) numbering.by ≡ first_of (codes "by") rows
  pub mixed : IsTrue numbering.mixed ↔ (HasOtherOption rows ⊎ (first_of (codes "pcap") rows ≢ None))
  pub signed : IsTrue numbering.signed ↔ HasSign rows (codes "csv")

-- the rows of `lab` say which seeds are run
pub record IsSweep (sweep : Sweep) (rows : List Row) : Type 0 where
  pub script : first_of (codes "SCRIPT") rows ≡ Some sweep.script.now
  pub range : first_of (codes "seeds") rows ≡ Some sweep.range.now
  pub seeds : AreSeeds sweep.seeds sweep.range.now
  pub mixed : IsTrue sweep.mixed ↔ (HasOtherOption rows ⊎ (first_of (codes "pcap") rows ≢ None) ⊎ HasNumbers rows)

-- no option of `lab` makes a capture, writes lines of numbers, or names seeds
pub record IsPlain (rows : List Row) : Type 0 where
  pub pcap : first_of (codes "pcap") rows ≡ None
  pub numbers : ¬ (HasNumbers rows)
  pub seeds : first_of (codes "seeds") rows ≡ None

-- the subcommand of this name, with the rows of its arguments, is this job: of `lab` a sweep where `--seeds` is given, lines of numbers
-- where `--csv` or `--by` is, and else a capture where `--pcap` is; of `show` a capture with `--pcap`
abbrev pub IsJob : Job → Text → List Row → Type 0
IsJob (jobs.Ask (asks.Show hex)) name rows = IsAsked (asks.Show hex) name rows × ¬ (IsSet rows (codes "pcap"))
IsJob (jobs.Ask a) name rows = IsAsked a name rows × ((name ≡ codes "lab") → IsPlain rows)
IsJob (jobs.ShowCapture file) name rows =
    (name ≡ codes "show") × (first_of (codes "HEX") rows ≡ Some file.now) × IsSet rows (codes "pcap")
IsJob (jobs.LabCapture capturing) name rows =
    (name ≡ codes "lab") × IsCapturing capturing rows × ¬ (HasNumbers rows) × (first_of (codes "seeds") rows ≡ None)
IsJob (jobs.LabNumbers numbering) name rows =
    (name ≡ codes "lab") × IsNumbering numbering rows × HasNumbers rows × (first_of (codes "seeds") rows ≡ None)
IsJob (jobs.LabSeeds sweep) name rows = (name ≡ codes "lab") × IsSweep sweep rows

-- the words ask this
abbrev pub Asks : List Text → Job → Type 0
Asks words job =
    (met : Text × List Row) × (subcommand_of ripngd words ≡ Some met) × IsJob job met.0 met.1
