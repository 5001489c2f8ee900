use Rattle.std.proofs.Common.{codes, rules}
use Rattle.clap.specs.Simple.{new_app}
use Rattle.ripngd_command_line.specs.CommandLine.{IsArg, IsCommand, by_name, flag, number, required, valued}
use Rattle.ripngd_command_line.proofs.Commands.{arg_added, arg_added_ok}
use Rattle.ripngd_command_line.proofs.subcommands.lab.Goals as goal
use Rattle.ripngd_command_line.proofs.subcommands.lab.Goals.{After-after_help, After-arg, After-arg-3, After-arg-5, After-arg-7, After-counted, After-arg-11, After-arg-13, After-arg-15, After-arg-17, After-arg-19}

begun_is : (c : After-after_help) → IsCommand c.after_help.result (new_app (codes "lab"))
begun_is c = record { app_is = search rules; local = search rules }

trace_is : (c : After-arg) → IsArg c.arg.result (flag (by_name (codes "trace")))
trace_is c = record { rule_is = search rules; local = search rules }

explain_is : (c : After-arg-3) → IsArg c.arg-3.result (flag (by_name (codes "explain")))
explain_is c = record { rule_is = search rules; local = search rules }

changes_is : (c : After-arg-5) → IsArg c.arg-5.result (flag (by_name (codes "changes")))
changes_is c = record { rule_is = search rules; local = search rules }

pcap_is : (c : After-arg-7) → IsArg c.arg-7.result (valued (by_name (codes "pcap")))
pcap_is c = record { rule_is = search rules; local = search rules }

csv_is : (c : After-counted) → IsArg c.counted.result (number 1 4294967295 (by_name (codes "csv")))
csv_is c = record { rule_is = search rules; local = search rules }

by_is : (c : After-arg-11) → IsArg c.arg-11.result (valued (by_name (codes "by")))
by_is c = record { rule_is = search rules; local = search rules }

seeds_is : (c : After-arg-13) → IsArg c.arg-13.result (valued (by_name (codes "seeds")))
seeds_is c = record { rule_is = search rules; local = search rules }

against_is : (c : After-arg-15) → IsArg c.arg-15.result (valued (by_name (codes "against")))
against_is c = record { rule_is = search rules; local = search rules }

count_is : (c : After-arg-17) → IsArg c.arg-17.result (flag (by_name (codes "count")))
count_is c = record { rule_is = search rules; local = search rules }

script_is : (c : After-arg-19) → IsArg c.arg-19.result (required (codes "SCRIPT"))
script_is c = record { rule_is = search rules; local = search rules }

pub returns : goal.returns
returns c =
    let at = goal.at.returns c in
    let s0 = begun_is at.After-after_help in
    let s1 = arg_added _ _ _ _ _ c.in_ok-arg.ensures (trace_is at.After-arg) s0 in
    let s2 = arg_added _ _ _ _ _ c.in_ok-arg-2.ensures (explain_is at.After-arg-3) s1 in
    let s3 = arg_added _ _ _ _ _ c.in_ok-arg-3.ensures (changes_is at.After-arg-5) s2 in
    let s4 = arg_added _ _ _ _ _ c.in_ok-arg-4.ensures (pcap_is at.After-arg-7) s3 in
    let s5 = arg_added _ _ _ _ _ c.in_ok-arg-5.ensures (csv_is at.After-counted) s4 in
    let s6 = arg_added _ _ _ _ _ c.in_ok-arg-6.ensures (by_is at.After-arg-11) s5 in
    let s7 = arg_added _ _ _ _ _ c.in_ok-arg-7.ensures (seeds_is at.After-arg-13) s6 in
    let s8 = arg_added _ _ _ _ _ c.in_ok-arg-8.ensures (against_is at.After-arg-15) s7 in
    let s9 = arg_added _ _ _ _ _ c.in_ok-arg-9.ensures (count_is at.After-arg-17) s8 in
    arg_added_ok _ _ _ _ c.arg-20.result c.arg-20.ensures (script_is at.After-arg-19) s9
