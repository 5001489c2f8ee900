-- The command line of ripngd: its subcommands, with their options and arguments.
use Rattle.std.specs.Prelude.{◌≡◌, ℕ, false, [], ◌∷◌, List, Some, codes, pos, true}
use Rattle.clap.specs.Walk.{Rule, Text, rule_of}
use Rattle.clap.specs.declared.builder.arg.Arg.{Arg}
use Rattle.clap.specs.declared.builder.command.Command.{Command}
use Rattle.clap.specs.declared.builder.command.Command.TheViews.{out-Command}
use Rattle.clap.specs.declared.builder.action.ArgAction.TheVariants.{Set, SetTrue}
use Rattle.clap.specs.declared.builder.value_parser.ValueParser.TheVariants as parsers
use Rattle.clap.specs.Simple.{App, app_of, new_rule, new_shape}

-- the argument is one of this rule, at its own command alone
pub record IsArg (arg : Arg) (rule : Rule) : Type 0 where
  pub rule_is : rule_of arg ≡ rule
  pub local : arg.global ≡ false

-- the command is this one, with no global argument
pub record IsCommand (command : Command) (app : App) : Type 0 where
  pub app_is : app_of command ≡ app
  pub local : (out-Command command).has_globals ≡ false

-- an option of this name, which is written by a letter
abbrev pub by_letter : Text → ℕ → Rule
by_letter name letter = record (new_rule name) { short = Some letter }

-- an option which is written `--name`
abbrev pub by_name : Text → Rule
by_name name = record (new_rule name) { long = Some name }

-- the option is a flag
abbrev pub flag : Rule → Rule
flag option = record option { action = Some SetTrue }

-- the option has one value
abbrev pub valued : Rule → Rule
valued option = record option { action = Some Set; value_names = 1 }

-- the option has one value, a number in this range
abbrev pub number : ℕ → ℕ → Rule → Rule
number least most option = record (valued option) { parser = Some (parsers.Signed (pos least) (pos most)) }

-- the option has this value if it is not given
abbrev pub defaulting : Text → Rule → Rule
defaulting text option = record option { defaults = text ∷ [] }

-- an argument that may be given, by its place
abbrev pub optional : Text → Rule
optional name = valued (new_rule name)

-- an argument that has to be given, by its place
abbrev pub required : Text → Rule
required name = record (optional name) { required = true }

-- a subcommand with these options and arguments
abbrev pub subcommand : Text → List Rule → App
subcommand name rules = record { top = record (new_shape name) { rules = rules }; subs = [] }

-- `show [--pcap] HEX`
abbrev pub show_command : App
show_command = subcommand (codes "show") (flag (by_name (codes "pcap")) ∷ required (codes "HEX") ∷ [])

-- `check CONFIG`
abbrev pub check_command : App
check_command = subcommand (codes "check") (required (codes "CONFIG") ∷ [])

-- `lab [--trace] [--explain] [--changes] [--pcap FILE] [--csv SECONDS] [--by COLUMN] [--seeds A..B] [--against EXERCISE] [--count] SCRIPT`
abbrev pub lab_command : App
lab_command = subcommand (codes "lab") (
    flag (by_name (codes "trace"))
    ∷ flag (by_name (codes "explain"))
    ∷ flag (by_name (codes "changes"))
    ∷ valued (by_name (codes "pcap"))
    ∷ number 1 4294967295 (by_name (codes "csv"))
    ∷ valued (by_name (codes "by"))
    ∷ valued (by_name (codes "seeds"))
    ∷ valued (by_name (codes "against"))
    ∷ flag (by_name (codes "count"))
    ∷ required (codes "SCRIPT")
    ∷ [])

-- `run [-q] [-d] [-t TAG] [-R FILE] [--append] [--turns N] [--seconds N] [--control PATH] CONFIG`
abbrev pub run_command : App
run_command = subcommand (codes "run") (
    flag (by_letter (codes "quiet") 113)
    ∷ flag (by_letter (codes "debug") 100)
    ∷ defaulting (codes "0") (number 0 65535 (by_letter (codes "tag") 116))
    ∷ valued (by_letter (codes "log") 82)
    ∷ flag (by_name (codes "append"))
    ∷ defaulting (codes "4294967295") (number 1 4294967295 (by_name (codes "turns")))
    ∷ number 1 4294967295 (by_name (codes "seconds"))
    ∷ valued (by_name (codes "control"))
    ∷ required (codes "CONFIG")
    ∷ [])

-- `ctl [--json] PATH COMMAND [WHAT] [VALUE] [PORT]`
abbrev pub ctl_command : App
ctl_command = subcommand (codes "ctl") (
    flag (by_name (codes "json"))
    ∷ required (codes "PATH")
    ∷ required (codes "COMMAND")
    ∷ optional (codes "WHAT")
    ∷ optional (codes "VALUE")
    ∷ optional (codes "PORT")
    ∷ [])

-- `table LOG`
abbrev pub table_command : App
table_command = subcommand (codes "table") (required (codes "LOG") ∷ [])

-- `ripngd`, which prints its version, and needs one of these subcommands
abbrev pub ripngd : App
ripngd = record {
  top = record (new_shape (codes "ripngd")) { has_version = true; subcommand_required = true; is_leaf = false };
  subs = show_command.top ∷ check_command.top ∷ lab_command.top ∷ run_command.top ∷ table_command.top ∷ ctl_command.top ∷ [];
}
