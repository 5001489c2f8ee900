use Rattle.std.proofs.Common.{◌≡◌, rules, None, codes}
use Rattle.clap.specs.Words.{first_of, found_of, rows_of}
use Rattle.ripngd_command_line.proofs.Plain.{plain_job}
use Rattle.ripngd_command_line.proofs.command_line.text_asked.Goals as goal

pub returns-in_ok-plain_lab_asked-in-None : goal.returns-in_ok-plain_lab_asked-in-None
returns-in_ok-plain_lab_asked-in-None c = λ numbers seeds.
    let pcap : first_of (codes "pcap") (rows_of (found_of c.args.matches.now)) ≡ None = search rules in
    plain_job c.in_ok-plain_lab_asked-in-None.field-0 _ c.in_ok-plain_lab_asked-in-None.ensures (record { pcap = pcap; numbers = numbers; seeds = seeds })
