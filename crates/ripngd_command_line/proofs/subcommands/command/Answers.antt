use Rattle.std.proofs.Common.{codes, rules, true, []}
use Rattle.clap.specs.Simple.{new_shape}
use Rattle.ripngd_command_line.specs.CommandLine.{IsCommand}
use Rattle.ripngd_command_line.proofs.Commands.{subcommand_added, subcommand_added_ok}
use Rattle.ripngd_command_line.proofs.subcommands.command.Goals as goal
use Rattle.ripngd_command_line.proofs.subcommands.command.Goals.{After-subcommand_required}

begun_is : (c : After-subcommand_required)
    → IsCommand c.subcommand_required.result (record { top = record (new_shape (codes "ripngd")) { has_version = true; subcommand_required = true }; subs = [] })
begun_is c = record { app_is = search rules; local = search rules }

pub returns : goal.returns
returns c =
    let s0 = begun_is (goal.at.returns c).After-subcommand_required in
    let s1 = subcommand_added _ _ _ _ _ c.in_ok-subcommand.ensures c.in_ok-show.ensures s0 in
    let s2 = subcommand_added _ _ _ _ _ c.in_ok-subcommand-2.ensures c.in_ok-check.ensures s1 in
    let s3 = subcommand_added _ _ _ _ _ c.in_ok-subcommand-3.ensures c.in_ok-lab.ensures s2 in
    let s4 = subcommand_added _ _ _ _ _ c.in_ok-subcommand-4.ensures c.in_ok-run.ensures s3 in
    let s5 = subcommand_added _ _ _ _ _ c.in_ok-subcommand-5.ensures c.in_ok-table.ensures s4 in
    subcommand_added_ok _ _ _ _ c.subcommand-6.result c.subcommand-6.ensures c.in_ok-ctl.ensures s5
