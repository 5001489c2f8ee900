use Rattle.std.specs.Str.Parse.{ExplainsUnsignedError, HasUnsignedDigitsIfOk, ParsesUnsigned}
use Rattle.clap.specs.Words.{found_of}
use Rattle.ripngd_command_line.proofs.Matches.{number_read}
use Rattle.ripngd_command_line.proofs.command_line.number.Goals as goal

pub returns-else-number-least-clause-number : goal.returns-else-number-least-clause-number
returns-else-number-least-clause-number c =
    let read = number_read (λ bs r. ParsesUnsigned 32 10 bs r × ExplainsUnsignedError 10 bs r × HasUnsignedDigitsIfOk bs r) (λ t n h. h.0.1) (found_of c.args.matches.now) c.args.id.now c.get_one.result c.get_one.ensures.none c.get_one.ensures.value in
    rw c.in_ok-number.was at read
