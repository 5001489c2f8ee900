-- What the exit statuses of ripngd mean (they are this project's choice).
use Rattle.std.specs.Prelude.{◌≡◌, ◌≢◌, ◌⊎◌, ℕ, Bool, IfSome, List, [], Option, Some, is_some, ⊤}
use Rattle.std.specs.Io.KnownBytes.{Appends}
use Rattle.clap.specs.Faults.{fault_of}
use Rattle.clap.specs.Kinds.{IsAmong}
use Rattle.clap.specs.Walk.{Text}
use Rattle.clap.specs.declared.error.kind.ErrorKind.TheVariants.{DisplayHelp, DisplayVersion}
use Rattle.ripngd_command_line.specs.declared.asked.Ask.{Ask}
use Rattle.ripngd_command_line.specs.declared.asked.Ask.TheVariants as asks
use Rattle.ripngd_command_line.specs.declared.asked.Job.{Job}
use Rattle.ripngd_command_line.specs.declared.asked.Job.TheVariants as jobs
use Rattle.ripngd_command_line.specs.declared.asked.Marking.{Marking}
use Rattle.ripngd_command_line.specs.declared.asked.Numbering.{Numbering}
use Rattle.ripngd_daemon.specs.declared.failure.Failure.{Failure}
use Rattle.ripngd_daemon.specs.declared.history.History.{History}
use Rattle.ripngd_daemon.specs.declared.failure.Failure.TheVariants as failures
use Rattle.ripngd_command_line.specs.Asked.{Asks, IsMisused}
use Rattle.ripngd_daemon.specs.Asking.{IsAnswerWritten}
use Rattle.ripngd_daemon.specs.Checked.{IsChecked}
use Rattle.ripngd_command_line.specs.CommandLine.{ripngd}
use Rattle.ripngd_daemon.specs.Failing.{MayFail}
use Rattle.ripngd_daemon.specs.Run.{IsRan}
use Rattle.ripngd_daemon.specs.Tabled.{IsTabled}
use Rattle.ripng_lab_numbers.specs.Running.{AreNumbers}
use Rattle.ripng_show.specs.Shown.{IsShown}

-- there is a text that the file of a script may hold; and one of the exercise, if there is one
abbrev pub AreHeld : (List ℕ → List ℕ → Type 0) → Marking → Type 0
AreHeld holds marking =
    ((script : List ℕ) × holds marking.script.now script) × IfSome marking.exercise (λ file. (exercise : List ℕ) × holds file.now exercise)

-- the bytes of a writer grew by the answer to what is asked, of a text that the file which is asked about may hold, and of a run of
-- which this is known. What `lab` prints, and that a trace is that of its script, is not said here
abbrev pub AnswersAsk : (List ℕ → List ℕ → Type 0) → History → Ask → Bool → Option (List ℕ) → Option (List ℕ) → Type 0
AnswersAsk holds history (asks.Show hex) accepted old new = (text : List ℕ) × IsShown hex.now accepted text × Appends old new text
AnswersAsk holds history (asks.Check file) accepted old new =
    (config : List ℕ) × holds file.now config × IsChecked config accepted old new
AnswersAsk holds history (asks.Lab file) accepted old new = (script : List ℕ) × holds file.now script
AnswersAsk holds history (asks.Mark marking) accepted old new = AreHeld holds marking
AnswersAsk holds history (asks.Trace file) accepted old new = (script : List ℕ) × holds file.now script
AnswersAsk holds history (asks.Explain file) accepted old new = (script : List ℕ) × holds file.now script
AnswersAsk holds history (asks.Changes file) accepted old new = (script : List ℕ) × holds file.now script
AnswersAsk holds history (asks.Run order) accepted old new =
    (config : List ℕ) × holds order.config.now config × IsRan order config history accepted old new
AnswersAsk holds history (asks.Ctl question) accepted old new = (answer : List ℕ) × IsAnswerWritten answer accepted old new
AnswersAsk holds history (asks.Table file) accepted old new = (log : List ℕ) × holds file.now log
    × (text : List ℕ) × IsTabled log accepted text × Appends old new text

-- the bytes of a writer grew by the numbers of a script that the file which is asked about may hold, by intervals
abbrev pub AnswersNumbers : (List ℕ → List ℕ → Type 0) → Numbering → Bool → Option (List ℕ) → Option (List ℕ) → Type 0
AnswersNumbers holds numbering accepted old new =
    (script : List ℕ) × holds numbering.script.now script × (seconds : ℕ) × (numbering.seconds ≡ Some seconds)
    × AreNumbers script seconds (is_some numbering.by) accepted old new

-- the same of a job. What is shown of a capture, what it has of a script, and the lines of a sweep are not said here
abbrev pub AnswersJob : (List ℕ → List ℕ → Type 0) → History → Job → Bool → Option (List ℕ) → Option (List ℕ) → Type 0
AnswersJob holds history (jobs.Ask ask) accepted old new = AnswersAsk holds history ask accepted old new
AnswersJob holds history (jobs.ShowCapture file) accepted old new = (capture : List ℕ) × holds file.now capture
AnswersJob holds history (jobs.LabCapture capturing) accepted old new = (script : List ℕ) × holds capturing.script.now script
AnswersJob holds history (jobs.LabNumbers numbering) accepted old new = AnswersNumbers holds numbering accepted old new
AnswersJob holds history (jobs.LabSeeds sweep) accepted old new = (script : List ℕ) × holds sweep.script.now script

-- what may fail where this is the job: a file of it, what is printed, or memory
abbrev pub JobMayFail : Job → Failure → Type 0
JobMayFail (jobs.Ask ask) failure = MayFail ask failure
JobMayFail (jobs.ShowCapture shown) (failures.Read file cause) = file.now ≡ shown.now
JobMayFail (jobs.LabCapture capturing) (failures.Read file cause) = file.now ≡ capturing.script.now
JobMayFail (jobs.LabCapture capturing) (failures.Log file cause) = file.now ≡ capturing.capture.now
JobMayFail (jobs.LabNumbers numbering) (failures.Read file cause) = file.now ≡ numbering.script.now
JobMayFail (jobs.LabSeeds sweep) (failures.Read file cause) = file.now ≡ sweep.script.now
JobMayFail job failures.Output = ⊤
JobMayFail job failures.OutOfMemory = ⊤
JobMayFail job failure = ⊥

-- the bytes of a writer grew by the answer to what the words ask
abbrev pub AnswersWords : (List ℕ → List ℕ → Type 0) → List Text → Bool → Option (List ℕ) → Option (List ℕ) → Type 0
AnswersWords holds words accepted old new =
    (job : Job) × Asks words job × (history : History) × AnswersJob holds history job accepted old new

-- a file may hold anything: of those of the system nothing is known
abbrev pub holds_any : List ℕ → List ℕ → Type 0
holds_any file text = ⊤

-- what failed is what is printed, or memory, or it is of what the words ask
abbrev pub FailsWords : List Text → Failure → Type 0
FailsWords words failures.Output = ⊤
FailsWords words failures.OutOfMemory = ⊤
FailsWords words failure = (job : Job) × Asks words job × JobMayFail job failure

-- the words ask for help, or for the version
abbrev pub AsksForHelp : List Text → Type 0
AsksForHelp words = IsAmong DisplayHelp (fault_of ripngd words) ⊎ IsAmong DisplayVersion (fault_of ripngd words)

-- the words have a fault, or make no sense together
abbrev pub HaveFault : List Text → Type 0
HaveFault words = (fault_of ripngd words ≢ []) ⊎ ((job : Job) × Asks words job × IsMisused job)
