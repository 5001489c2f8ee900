use Rattle.clap.specs.Walk.{rows_of}
use Rattle.clap.specs.Words.{found_of}
use Rattle.ripngd_command_line.proofs.Matches.{IfSome-weaker, subcommand_met}
use Rattle.ripngd_command_line.proofs.command_line.subcommand_asked.Goals as goal

pub returns : goal.returns
returns c =
    let name = c.in_ok-name.name.now in
    let rows = rows_of (found_of c.in_ok-name.inner.now) in
    let met = subcommand_met c.args.matches.now name rows c.in_ok-name.ensures.name c.in_ok-name.ensures.rows in
    IfSome-weaker c.job_of.result _ _ (λ a is. ((name, rows), met, is)) c.job_of.ensures
