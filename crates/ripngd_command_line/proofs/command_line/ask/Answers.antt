use Rattle.std.proofs.Common.{◌≡◌, ◌∙◌, Err, ap, map, subst, sym}
use Rattle.std.proofs.lemmas.Result.{err_from_is_err_and}
use Rattle.clap.specs.Simple.{App, is_simple, subcommand_of}
use Rattle.clap.specs.Takes.{takes}
use Rattle.clap.specs.Faults.{fault_of, is_simple_and_free}
use Rattle.clap.specs.Kinds.{FailsBy}
use Rattle.ripngd_command_line.specs.CommandLine.{ripngd}
use Rattle.ripngd_command_line.proofs.Commands.{ripngd_is_free, ripngd_is_simple}
use Rattle.ripngd_command_line.proofs.Matches.{IfOk-ok_or, fails_by_memory}
use Rattle.ripngd_command_line.proofs.command_line.ask.Goals as goal
use Rattle.ripngd_command_line.proofs.command_line.ask.Goals.{After-from_residual-in_err-matches, After-try_get_matches_from}

-- the parse fails by a fault of the command
fails : (c : After-try_get_matches_from) → FailsBy (fault_of ripngd (map (λ w. w.now) c.args.words.now)) c.try_get_matches_from.result
fails c =
    let is = c.in_ok-command.ensures.app_is in
    subst (λ (a : App). FailsBy (fault_of a (map (λ w. w.now) c.args.words.now)) c.try_get_matches_from.result) is
    (c.try_get_matches_from.ensures.kinds (ap is_simple_and_free is ∙ ripngd_is_free))

-- its error is what is answered
answered : (c : After-from_residual-in_err-matches) → c.from_residual-in_err-matches.result ≡ Err c.in_err-matches.field-0.0
answered c =
    let e = err_from_is_err_and c.from_residual-in_err-matches.result c.from_residual-in_err-matches.ensures.1 in
    e.1 ∙ ap (λ x. Err x) e.2

pub returns-in_err-matches-clause-taken : goal.returns-in_err-matches-clause-taken
returns-in_err-matches-clause-taken c =
    rw (answered c) (λ t. c.in_err-matches.ensures.passes (ap (λ (a : App). takes a (map (λ w. w.now) c.args.words.now)) c.in_ok-command.ensures.app_is ∙ t))

pub returns-in_err-matches-clause-kinds : goal.returns-in_err-matches-clause-kinds
returns-in_err-matches-clause-kinds c =
    rw (answered c) (rw c.in_err-matches.was at (fails (goal.at.returns-in_err-matches-clause-kinds c).After-try_get_matches_from))

pub returns-clause-asked : goal.returns-clause-asked
returns-clause-asked c =
    let is = c.in_ok-command.ensures.app_is in
    let met = (c.in_ok-matches.ensures.matches (ap is_simple is ∙ ripngd_is_simple)).1 ∙ ap (λ (a : App). subcommand_of a (map (λ w. w.now) c.args.words.now)) is in
    rw c.ok_or.ensures.value (IfOk-ok_or c.subcommand_asked.result c.from.result _ _
    (λ a asked. (asked.0, sym met ∙ asked.1, asked.2)) c.subcommand_asked.ensures)

pub returns-clause-kinds : goal.returns-clause-kinds
returns-clause-kinds c =
    rw c.ok_or.ensures.value (fails_by_memory c.subcommand_asked.result c.from.result _
    (rw c.in_ok-matches.was at (fails (goal.at.returns-clause-kinds c).After-try_get_matches_from)) c.from.ensures)
