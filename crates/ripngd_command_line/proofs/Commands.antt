-- What each step in the making of a command leaves it as.
use Rattle.std.proofs.Common.{◌≡◌, ◌∙◌, ◌||◌, ap, ap₂, true, refl, Result}
use Rattle.std.specs.Prelude.{IfOk}
use Rattle.std.proofs.lemmas.Result.{IfOk-weaker}
use Rattle.clap.specs.declared.builder.command.Command.{Command}
use Rattle.clap.specs.Walk.{Rule}
use Rattle.clap.specs.Simple.{App, is_simple, with_rule, with_subcommand}
use Rattle.clap.specs.Built.{AddsArg, AddsSubcommand}
use Rattle.clap.specs.declared.builder.arg.Arg.{Arg}
use Rattle.clap.specs.Faults.{is_simple_and_free}
use Rattle.clap.proofs.OnLiterals.{clap_on_literals}
use Rattle.ripngd_command_line.specs.CommandLine.{IsArg, IsCommand, ripngd}

-- an argument is added
pub arg_added : (old : Command) (a : Arg) (new : Command) (app : App) (r : Rule) → AddsArg old a new → IsArg a r → IsCommand old app → IsCommand new (with_rule app r)
arg_added old a new app r h arg is = record {
  app_is = h.shape arg.local ∙ ap₂ with_rule is.app_is arg.rule_is;
  local = h.globals ∙ ap₂ (λ x y. x || y) is.local arg.local;
}

-- an argument is added, where there is memory for it
pub arg_added_ok : {E : Type 0} (old : Command) (a : Arg) (app : App) (r : Rule) (new : Result Command E) → IfOk new (AddsArg old a) → IsArg a r → IsCommand old app → IfOk new (λ c. IsCommand c (with_rule app r))
arg_added_ok old a app r new h arg is = IfOk-weaker new _ _ (λ c added. arg_added old a c app r added arg is) h

-- a subcommand is added
pub subcommand_added : (old sub new : Command) (app inner : App) → AddsSubcommand old sub new → IsCommand sub inner → IsCommand old app → IsCommand new (with_subcommand app inner.top)
subcommand_added old sub new app inner h is_sub is = record {
  app_is = h.shape is_sub.local ∙ ap₂ with_subcommand is.app_is (ap (λ (a : App). a.top) is_sub.app_is);
  local = h.globals ∙ ap₂ (λ x y. x || y) is.local is_sub.local;
}

-- a subcommand is added, where there is memory for it
pub subcommand_added_ok : {E : Type 0} (old sub : Command) (app inner : App) (new : Result Command E) → IfOk new (AddsSubcommand old sub) → IsCommand sub inner → IsCommand old app → IfOk new (λ c. IsCommand c (with_subcommand app inner.top))
subcommand_added_ok old sub app inner new h is_sub is = IfOk-weaker new _ _ (λ c added. subcommand_added old sub c app inner added is_sub is) h

-- the command of ripngd is one whose parse clap tells in full
pub ripngd_is_simple : is_simple ripngd ≡ true
unfolding clap_on_literals
ripngd_is_simple = refl

-- the command of ripngd is one whose faults clap tells in full
pub ripngd_is_free : is_simple_and_free ripngd ≡ true
unfolding clap_on_literals
ripngd_is_free = refl
