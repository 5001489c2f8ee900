-- Command lines that are written out, and what the command says of them.
use Rattle.std.proofs.Common.{◌≡◌, true, [], ◌∷◌, refl, codes}
use Rattle.clap.specs.Faults.{fault_of}
use Rattle.clap.specs.Takes.{takes}
use Rattle.clap.specs.declared.error.kind.ErrorKind.TheVariants.{DisplayHelp, DisplayVersion, MissingRequiredArgument, UnknownArgument, ValueValidation}
use Rattle.clap.proofs.OnLiterals.{clap_on_literals}
use Rattle.ripngd_command_line.specs.CommandLine.{ripngd}

-- `show 02`
digits_are_taken : takes ripngd (codes "ripngd" ∷ codes "show" ∷ codes "02" ∷ []) ≡ true
unfolding clap_on_literals
digits_are_taken = refl

-- `show -`: a lone dash is a value
dash_is_taken : takes ripngd (codes "ripngd" ∷ codes "show" ∷ codes "-" ∷ []) ≡ true
unfolding clap_on_literals
dash_is_taken = refl

-- `show ''`
empty_is_taken : takes ripngd (codes "ripngd" ∷ codes "show" ∷ [] ∷ []) ≡ true
unfolding clap_on_literals
empty_is_taken = refl

-- `show -02`: any other word with a dash in front is an option, and there is none
dashed_is_no_value : fault_of ripngd (codes "ripngd" ∷ codes "show" ∷ codes "-02" ∷ []) ≡ UnknownArgument ∷ []
unfolding clap_on_literals
dashed_is_no_value = refl

-- `show`
hex_is_missing : fault_of ripngd (codes "ripngd" ∷ codes "show" ∷ []) ≡ MissingRequiredArgument ∷ []
unfolding clap_on_literals
hex_is_missing = refl

-- `--help`
help_is_asked : fault_of ripngd (codes "ripngd" ∷ codes "--help" ∷ []) ≡ DisplayHelp ∷ []
unfolding clap_on_literals
help_is_asked = refl

-- `--version`
version_is_asked : fault_of ripngd (codes "ripngd" ∷ codes "--version" ∷ []) ≡ DisplayVersion ∷ []
unfolding clap_on_literals
version_is_asked = refl

-- `run -qdt7 -R log --turns=3 c`: short options in one word, a long one with its value
run_is_taken : takes ripngd (codes "ripngd" ∷ codes "run" ∷ codes "-qdt7" ∷ codes "-R" ∷ codes "log" ∷ codes "--turns=3" ∷ codes "c" ∷ []) ≡ true
unfolding clap_on_literals
run_is_taken = refl

-- `run --turns 0 c`
turns_are_some : fault_of ripngd (codes "ripngd" ∷ codes "run" ∷ codes "--turns" ∷ codes "0" ∷ codes "c" ∷ []) ≡ ValueValidation ∷ []
unfolding clap_on_literals
turns_are_some = refl

-- `run -t 65536 c`
tag_has_two_bytes : fault_of ripngd (codes "ripngd" ∷ codes "run" ∷ codes "-t" ∷ codes "65536" ∷ codes "c" ∷ []) ≡ ValueValidation ∷ []
unfolding clap_on_literals
tag_has_two_bytes = refl

-- `ctl east.sock peer 0 fe80::9 5219`: up to four words behind the path
peer_is_taken : takes ripngd (codes "ripngd" ∷ codes "ctl" ∷ codes "east.sock" ∷ codes "peer" ∷ codes "0" ∷ codes "fe80::9" ∷ codes "5219" ∷ []) ≡ true
unfolding clap_on_literals
peer_is_taken = refl

-- `ctl east.sock cost 0 16`
cost_is_taken : takes ripngd (codes "ripngd" ∷ codes "ctl" ∷ codes "east.sock" ∷ codes "cost" ∷ codes "0" ∷ codes "16" ∷ []) ≡ true
unfolding clap_on_literals
cost_is_taken = refl

-- `ctl east.sock routes`
routes_are_taken : takes ripngd (codes "ripngd" ∷ codes "ctl" ∷ codes "east.sock" ∷ codes "routes" ∷ []) ≡ true
unfolding clap_on_literals
routes_are_taken = refl

-- `ctl east.sock`
command_is_missing : fault_of ripngd (codes "ripngd" ∷ codes "ctl" ∷ codes "east.sock" ∷ []) ≡ MissingRequiredArgument ∷ []
unfolding clap_on_literals
command_is_missing = refl

-- `run --control east.sock c`
control_is_taken : takes ripngd (codes "ripngd" ∷ codes "run" ∷ codes "--control" ∷ codes "east.sock" ∷ codes "c" ∷ []) ≡ true
unfolding clap_on_literals
control_is_taken = refl

-- `run --seconds 5 --turns=3 c`: both may be given
seconds_are_taken : takes ripngd (codes "ripngd" ∷ codes "run" ∷ codes "--seconds" ∷ codes "5" ∷ codes "--turns=3" ∷ codes "c" ∷ []) ≡ true
unfolding clap_on_literals
seconds_are_taken = refl

-- `run --seconds 0 c`
seconds_are_some : fault_of ripngd (codes "ripngd" ∷ codes "run" ∷ codes "--seconds" ∷ codes "0" ∷ codes "c" ∷ []) ≡ ValueValidation ∷ []
unfolding clap_on_literals
seconds_are_some = refl

-- `run --append -R log c`
append_is_taken : takes ripngd (codes "ripngd" ∷ codes "run" ∷ codes "--append" ∷ codes "-R" ∷ codes "log" ∷ codes "c" ∷ []) ≡ true
unfolding clap_on_literals
append_is_taken = refl

-- `run --turns +3 c`: clap takes a sign, which makes it misused
plus_is_taken : takes ripngd (codes "ripngd" ∷ codes "run" ∷ codes "--turns" ∷ codes "+3" ∷ codes "c" ∷ []) ≡ true
unfolding clap_on_literals
plus_is_taken = refl

-- `run -t-0 c`: and so does this
minus_is_taken : takes ripngd (codes "ripngd" ∷ codes "run" ∷ codes "-t-0" ∷ codes "c" ∷ []) ≡ true
unfolding clap_on_literals
minus_is_taken = refl

-- `lab --count --against e s`: a script is marked
marking_is_taken : takes ripngd (codes "ripngd" ∷ codes "lab" ∷ codes "--count" ∷ codes "--against" ∷ codes "e" ∷ codes "s" ∷ []) ≡ true
unfolding clap_on_literals
marking_is_taken = refl

-- `lab --against e`: and there has to be one
solution_is_missing : fault_of ripngd (codes "ripngd" ∷ codes "lab" ∷ codes "--against" ∷ codes "e" ∷ []) ≡ MissingRequiredArgument ∷ []
unfolding clap_on_literals
solution_is_missing = refl

-- `show --pcap c.pcap`: the datagrams of a capture
capture_is_taken : takes ripngd (codes "ripngd" ∷ codes "show" ∷ codes "--pcap" ∷ codes "c.pcap" ∷ []) ≡ true
unfolding clap_on_literals
capture_is_taken = refl

-- `show --pcap`: and there has to be a file
capture_is_missing : fault_of ripngd (codes "ripngd" ∷ codes "show" ∷ codes "--pcap" ∷ []) ≡ MissingRequiredArgument ∷ []
unfolding clap_on_literals
capture_is_missing = refl

-- `lab --pcap c.pcap s`: a capture is made
capturing_is_taken : takes ripngd (codes "ripngd" ∷ codes "lab" ∷ codes "--pcap" ∷ codes "c.pcap" ∷ codes "s" ∷ []) ≡ true
unfolding clap_on_literals
capturing_is_taken = refl

-- `lab --csv 10 --by router s`: lines of numbers
numbers_are_taken : takes ripngd (codes "ripngd" ∷ codes "lab" ∷ codes "--csv" ∷ codes "10" ∷ codes "--by" ∷ codes "router" ∷ codes "s" ∷ []) ≡ true
unfolding clap_on_literals
numbers_are_taken = refl

-- `lab --csv 0 s`
interval_is_some : fault_of ripngd (codes "ripngd" ∷ codes "lab" ∷ codes "--csv" ∷ codes "0" ∷ codes "s" ∷ []) ≡ ValueValidation ∷ []
unfolding clap_on_literals
interval_is_some = refl

-- `lab --seeds 1..100 s`: a sweep
seeds_are_taken : takes ripngd (codes "ripngd" ∷ codes "lab" ∷ codes "--seeds" ∷ codes "1..100" ∷ codes "s" ∷ []) ≡ true
unfolding clap_on_literals
seeds_are_taken = refl

-- `ctl east.sock status --json`: an option may stand behind the words
json_is_taken : takes ripngd (codes "ripngd" ∷ codes "ctl" ∷ codes "east.sock" ∷ codes "status" ∷ codes "--json" ∷ []) ≡ true
unfolding clap_on_literals
json_is_taken = refl
