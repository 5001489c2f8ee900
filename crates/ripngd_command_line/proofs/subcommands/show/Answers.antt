use Rattle.std.proofs.Common.{codes, rules}
use Rattle.clap.specs.Simple.{new_app}
use Rattle.ripngd_command_line.specs.CommandLine.{IsArg, IsCommand, by_name, flag, required}
use Rattle.ripngd_command_line.proofs.Commands.{arg_added, arg_added_ok}
use Rattle.ripngd_command_line.proofs.subcommands.show.Goals as goal
use Rattle.ripngd_command_line.proofs.subcommands.show.Goals.{After-after_help, After-arg, After-arg-3}

begun_is : (c : After-after_help) → IsCommand c.after_help.result (new_app (codes "show"))
begun_is c = record { app_is = search rules; local = search rules }

pcap_is : (c : After-arg) → IsArg c.arg.result (flag (by_name (codes "pcap")))
pcap_is c = record { rule_is = search rules; local = search rules }

hex_is : (c : After-arg-3) → IsArg c.arg-3.result (required (codes "HEX"))
hex_is c = record { rule_is = search rules; local = search rules }

pub returns : goal.returns
returns c =
    let at = goal.at.returns c in
    let s0 = begun_is at.After-after_help in
    let s1 = arg_added _ _ _ _ _ c.in_ok-arg.ensures (pcap_is at.After-arg) s0 in
    arg_added_ok _ _ _ _ c.arg-4.result c.arg-4.ensures (hex_is at.After-arg-3) s1
