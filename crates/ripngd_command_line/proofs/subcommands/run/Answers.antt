use Rattle.std.proofs.Common.{codes, rules}
use Rattle.clap.specs.Simple.{new_app}
use Rattle.ripngd_command_line.specs.CommandLine.{IsArg, IsCommand, by_letter, by_name, defaulting, flag, number, required, valued}
use Rattle.ripngd_command_line.proofs.Commands.{arg_added, arg_added_ok}
use Rattle.ripngd_command_line.proofs.subcommands.run.Goals as goal
use Rattle.ripngd_command_line.proofs.subcommands.run.Goals.{After-after_help, After-arg, After-arg-3, After-default_value, After-arg-7, After-arg-9, After-default_value-2, After-counted-2, After-arg-15, After-arg-17}

begun_is : (c : After-after_help) → IsCommand c.after_help.result (new_app (codes "run"))
begun_is c = record { app_is = search rules; local = search rules }

quiet_is : (c : After-arg) → IsArg c.arg.result (flag (by_letter (codes "quiet") 113))
quiet_is c = record { rule_is = search rules; local = search rules }

debug_is : (c : After-arg-3) → IsArg c.arg-3.result (flag (by_letter (codes "debug") 100))
debug_is c = record { rule_is = search rules; local = search rules }

tag_is : (c : After-default_value) → IsArg c.default_value.result (defaulting (codes "0") (number 0 65535 (by_letter (codes "tag") 116)))
tag_is c = record { rule_is = search rules; local = search rules }

log_is : (c : After-arg-7) → IsArg c.arg-7.result (valued (by_letter (codes "log") 82))
log_is c = record { rule_is = search rules; local = search rules }

append_is : (c : After-arg-9) → IsArg c.arg-9.result (flag (by_name (codes "append")))
append_is c = record { rule_is = search rules; local = search rules }

turns_is : (c : After-default_value-2) → IsArg c.default_value-2.result (defaulting (codes "4294967295") (number 1 4294967295 (by_name (codes "turns"))))
turns_is c = record { rule_is = search rules; local = search rules }

seconds_is : (c : After-counted-2) → IsArg c.counted-2.result (number 1 4294967295 (by_name (codes "seconds")))
seconds_is c = record { rule_is = search rules; local = search rules }

control_is : (c : After-arg-15) → IsArg c.arg-15.result (valued (by_name (codes "control")))
control_is c = record { rule_is = search rules; local = search rules }

config_is : (c : After-arg-17) → IsArg c.arg-17.result (required (codes "CONFIG"))
config_is c = record { rule_is = search rules; local = search rules }

pub returns : goal.returns
returns c =
    let at = goal.at.returns c in
    let s0 = begun_is at.After-after_help in
    let s1 = arg_added _ _ _ _ _ c.in_ok-arg.ensures (quiet_is at.After-arg) s0 in
    let s2 = arg_added _ _ _ _ _ c.in_ok-arg-2.ensures (debug_is at.After-arg-3) s1 in
    let s3 = arg_added _ _ _ _ _ c.in_ok-arg-3.ensures (tag_is at.After-default_value) s2 in
    let s4 = arg_added _ _ _ _ _ c.in_ok-arg-4.ensures (log_is at.After-arg-7) s3 in
    let s5 = arg_added _ _ _ _ _ c.in_ok-arg-5.ensures (append_is at.After-arg-9) s4 in
    let s6 = arg_added _ _ _ _ _ c.in_ok-arg-6.ensures (turns_is at.After-default_value-2) s5 in
    let s7 = arg_added _ _ _ _ _ c.in_ok-arg-7.ensures (seconds_is at.After-counted-2) s6 in
    let s8 = arg_added _ _ _ _ _ c.in_ok-arg-8.ensures (control_is at.After-arg-15) s7 in
    arg_added_ok _ _ _ _ c.arg-18.result c.arg-18.ensures (config_is at.After-arg-17) s8
