-- A flush that keeps what was written keeps an answer.
use Rattle.std.proofs.Common.{◌∙◌, ℕ, Bool, true, false, List, Option, None, Some}
use Rattle.std.specs.Io.KnownBytes.{Appends, Keeps}
use Rattle.ripngd_command_line.specs.declared.asked.Ask.{Ask}
use Rattle.ripngd_command_line.specs.declared.asked.Ask.TheVariants as asks
use Rattle.ripngd_command_line.specs.declared.asked.Job.{Job}
use Rattle.ripngd_command_line.specs.declared.asked.Job.TheVariants as jobs
use Rattle.ripngd_daemon.specs.declared.history.History.{History}
use Rattle.ripng_lab_numbers.specs.Running.{WritesLines}
use Rattle.ripngd.specs.Exit.{AnswersAsk, AnswersJob}

-- what was appended stays
appends_kept : (text : List ℕ) (old mid new : Option (List ℕ)) → Appends old mid text → Keeps mid new → Appends old new text
appends_kept text None mid new wrote kept = tt
appends_kept text (Some xs) None new wrote kept = absurd wrote
appends_kept text (Some xs) (Some ys) None wrote kept = absurd kept
appends_kept text (Some xs) (Some ys) (Some zs) wrote kept = kept ∙ wrote

-- so do lines of numbers, and what stands behind them
lines_kept : (done : Bool) (lines : List ℕ) (old mid new : Option (List ℕ)) → WritesLines done old mid lines → Keeps mid new → WritesLines done old new lines
lines_kept true lines old mid new wrote kept = appends_kept lines old mid new wrote kept
lines_kept false lines old mid new (rest, wrote) kept = (rest, appends_kept _ old mid new wrote kept)

-- whatever was asked
pub answer_kept : (holds : List ℕ → List ℕ → Type 0) (history : History) (ask : Ask) (accepted : Bool) (old mid new : Option (List ℕ))
    → AnswersAsk holds history ask accepted old mid → Keeps mid new → AnswersAsk holds history ask accepted old new
answer_kept holds history (asks.Show hex) accepted old mid new (text, is, wrote) kept = (text, is, appends_kept text old mid new wrote kept)
answer_kept holds history (asks.Check file) true old mid new (text, held, (config, is, wrote)) kept =
    (text, held, (config, is, appends_kept _ old mid new wrote kept))
answer_kept holds history (asks.Check file) false old mid new answer kept = answer
answer_kept holds history (asks.Lab file) accepted old mid new answer kept = answer
answer_kept holds history (asks.Mark marking) accepted old mid new answer kept = answer
answer_kept holds history (asks.Trace file) accepted old mid new answer kept = answer
answer_kept holds history (asks.Explain file) accepted old mid new answer kept = answer
answer_kept holds history (asks.Changes file) accepted old mid new answer kept = answer
answer_kept holds history (asks.Run order) true old mid new (text, held, (config, is, bound, alone, (table, has_run, wrote))) kept =
    (text, held, (config, is, bound, alone, (table, has_run, appends_kept _ old mid new wrote kept)))
answer_kept holds history (asks.Run order) false old mid new answer kept = answer
answer_kept holds history (asks.Ctl question) accepted old mid new (answer, (text, is, wrote)) kept =
    (answer, (text, is, appends_kept text old mid new wrote kept))
answer_kept holds history (asks.Table file) accepted old mid new (log, held, text, is, wrote) kept =
    (log, held, text, is, appends_kept text old mid new wrote kept)

-- whatever the job was
pub job_kept : (holds : List ℕ → List ℕ → Type 0) (history : History) (job : Job) (accepted : Bool) (old mid new : Option (List ℕ))
    → AnswersJob holds history job accepted old mid → Keeps mid new → AnswersJob holds history job accepted old new
job_kept holds history (jobs.Ask ask) accepted old mid new answer kept = answer_kept holds history ask accepted old mid new answer kept
job_kept holds history (jobs.ShowCapture file) accepted old mid new answer kept = answer
job_kept holds history (jobs.LabCapture capturing) accepted old mid new answer kept = answer
job_kept holds history (jobs.LabNumbers numbering) accepted old mid new (script, held, seconds, are, numbers) kept =
    (script, held, seconds, are, record { end = numbers.end; counted = numbers.counted; names = numbers.names; written = lines_kept accepted _ old mid new numbers.written kept })
job_kept holds history (jobs.LabSeeds sweep) accepted old mid new answer kept = answer
