use Rattle.std.proofs.Common.{sym, ◌∙◌}
use Rattle.prefix6.proofs.Parsing.{refuses_dots, takes_std, refuses_std}
use Rattle.prefix6.proofs.text.parse_addr.Goals as goal

pub returns-then-contains : goal.returns-then-contains
returns-then-contains c =
    refuses_dots c.args.text.now (rw c.as_bytes-bytes.ensures.value at (sym c.contains.ensures.value ∙ c.if-contains.true))

pub returns-in-Ok : goal.returns-in-Ok
returns-in-Ok c =
    let none = rw c.as_bytes-bytes.ensures.value at (sym c.contains.ensures.value ∙ c.if-contains.false) in
    let std = rw c.as_bytes-bytes.ensures.value at c.in-Ok.ensures in
    takes_std c.args.text.now c.in-Ok.addr _ none std (c.from_bits.ensures ∙ c.to_bits.ensures)

pub returns-in-Err : goal.returns-in-Err
returns-in-Err c =
    refuses_std c.args.text.now (rw c.as_bytes-bytes.ensures.value at c.in-Err.ensures)
