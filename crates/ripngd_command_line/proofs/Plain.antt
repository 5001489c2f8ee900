-- What is asked of `lab` without a capture, lines of numbers and seeds is a job.
use Rattle.std.proofs.Common.{◌≡◌, ap, arith, codes, List, ℕ, slice_index}
use Rattle.clap.specs.Walk.{Row}
use Rattle.ripngd_command_line.specs.declared.asked.Ask.{Ask}
use Rattle.ripngd_command_line.specs.declared.asked.Ask.TheVariants as asks
use Rattle.ripngd_command_line.specs.declared.asked.Job.TheVariants as jobs
use Rattle.ripngd_command_line.specs.Asked.{IsAsked, IsJob, IsPlain}

pub plain_job : (ask : Ask) (rows : List Row) → IsAsked ask (codes "lab") rows → IsPlain rows → IsJob (jobs.Ask ask) (codes "lab") rows
plain_job (asks.Show hex) rows asked plain =
    absurd (let heads : 108 ≡ 115 = ap (λ (x : List ℕ). slice_index x 0) asked.0 in omega arith)
plain_job (asks.Check file) rows asked plain = (asked, λ lab. plain)
plain_job (asks.Lab file) rows asked plain = (asked, λ lab. plain)
plain_job (asks.Mark marking) rows asked plain = (asked, λ lab. plain)
plain_job (asks.Trace file) rows asked plain = (asked, λ lab. plain)
plain_job (asks.Explain file) rows asked plain = (asked, λ lab. plain)
plain_job (asks.Changes file) rows asked plain = (asked, λ lab. plain)
plain_job (asks.Run order) rows asked plain = (asked, λ lab. plain)
plain_job (asks.Ctl question) rows asked plain = (asked, λ lab. plain)
plain_job (asks.Table file) rows asked plain = (asked, λ lab. plain)
