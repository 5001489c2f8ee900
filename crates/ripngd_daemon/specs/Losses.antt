-- What is written of what a run lost (the format is this project's choice).
use Rattle.std.specs.Prelude.{◌≡◌, ℕ, Bool, true, false, List, [], ◌++◌, Option, None, Some, codes, decimal}
use Rattle.ripngd_daemon.specs.Below.{Losses, counted, Report, newline}

-- nothing was lost
abbrev pub nothing_lost : Report
nothing_lost = record { lost_sends = 0; lost_memory = 0; log_failed = false }

-- nor by a link
abbrev pub no_losses : Losses
no_losses = record { report = nothing_lost; arrivals = 0; strangers = 0 }

-- whether the log has failed: it has not where none is ordered
abbrev pub has_failed : {A : Type 0} → Option A → Bool → Bool
has_failed None log_failed = false
has_failed (Some name) log_failed = log_failed

-- these are the losses of an engine that has lost `sends` and `steps`, together with those of its link: `late` sends that failed after
-- they had waited, and received datagrams that it could not keep, which count as steps
pub record AreLossesOf (sends steps : ℕ) (log_failed : Bool) (lost : Losses) : Type 0 where
  pub late : ℕ
  pub sends_are : lost.report.lost_sends ≡ counted sends late
  pub steps_are : lost.report.lost_memory ≡ counted steps lost.arrivals
  pub log_is : lost.report.log_failed ≡ log_failed

-- `, log failed`, if it failed
abbrev pub log_text : Bool → List ℕ
log_text true = codes ", log failed"
log_text false = []

-- `ripngd: lost sends N, lost steps M`, and what became of the log
abbrev pub losses_line : Report → List ℕ
losses_line r = codes "ripngd: lost sends " ++ (decimal r.lost_sends ++ (codes ", lost steps " ++ (decimal r.lost_memory
    ++ (log_text r.log_failed ++ newline))))
