use Rattle.std.proofs.Common.{codes, rules}
use Rattle.clap.specs.Simple.{new_app}
use Rattle.ripngd_command_line.specs.CommandLine.{IsArg, IsCommand, by_name, flag, optional, required}
use Rattle.ripngd_command_line.proofs.Commands.{arg_added, arg_added_ok}
use Rattle.ripngd_command_line.proofs.subcommands.ctl.Goals as goal
use Rattle.ripngd_command_line.proofs.subcommands.ctl.Goals.{After-after_help, After-arg, After-arg-3, After-arg-5, After-arg-7, After-arg-9, After-arg-11}

begun_is : (c : After-after_help) → IsCommand c.after_help.result (new_app (codes "ctl"))
begun_is c = record { app_is = search rules; local = search rules }

json_is : (c : After-arg) → IsArg c.arg.result (flag (by_name (codes "json")))
json_is c = record { rule_is = search rules; local = search rules }

path_is : (c : After-arg-3) → IsArg c.arg-3.result (required (codes "PATH"))
path_is c = record { rule_is = search rules; local = search rules }

command_is : (c : After-arg-5) → IsArg c.arg-5.result (required (codes "COMMAND"))
command_is c = record { rule_is = search rules; local = search rules }

what_is : (c : After-arg-7) → IsArg c.arg-7.result (optional (codes "WHAT"))
what_is c = record { rule_is = search rules; local = search rules }

value_is : (c : After-arg-9) → IsArg c.arg-9.result (optional (codes "VALUE"))
value_is c = record { rule_is = search rules; local = search rules }

port_is : (c : After-arg-11) → IsArg c.arg-11.result (optional (codes "PORT"))
port_is c = record { rule_is = search rules; local = search rules }

pub returns : goal.returns
returns c =
    let at = goal.at.returns c in
    let s0 = begun_is at.After-after_help in
    let s1 = arg_added _ _ _ _ _ c.in_ok-arg.ensures (json_is at.After-arg) s0 in
    let s2 = arg_added _ _ _ _ _ c.in_ok-arg-2.ensures (path_is at.After-arg-3) s1 in
    let s3 = arg_added _ _ _ _ _ c.in_ok-arg-3.ensures (command_is at.After-arg-5) s2 in
    let s4 = arg_added _ _ _ _ _ c.in_ok-arg-4.ensures (what_is at.After-arg-7) s3 in
    let s5 = arg_added _ _ _ _ _ c.in_ok-arg-5.ensures (value_is at.After-arg-9) s4 in
    arg_added_ok _ _ _ _ c.arg-12.result c.arg-12.ensures (port_is at.After-arg-11) s5
