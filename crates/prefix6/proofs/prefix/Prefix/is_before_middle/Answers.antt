use Rattle.std.proofs.Common.{◌-◌, sym, ap₂, ◌∙◌}
use Rattle.prefix6.specs.Prefix.{Prefix6}
use Rattle.prefix6.proofs.HalfTests.{half_is, by_low, by_high}
use Rattle.prefix6.proofs.prefix.Prefix.is_before_middle.Goals as goal

pub returns-then-ahead-half : goal.returns-then-ahead-half
returns-then-ahead-half c =
    let p : Prefix6 = record { addr = c.self.inside.addr; len = c.self.inside.len } in
    let q : Prefix6 = record { addr = c.other.inside.addr; len = c.other.inside.len } in
    let short = c.if-self-lt64.true in
    let ahead = c.saturating_sub-ahead.ensures ∙ ap₂ ◌-◌ c.high.ensures c.high-then-self-lt64.ensures in
    rw (← c.self.view_is, ← c.other.view_is, c.low.ensures, c.low-then-ahead-half.ensures)
    (by_low p q short (sym ahead ∙ c.if-ahead-half.true ∙ half_is p.len short))

pub returns-else-ahead-half : goal.returns-else-ahead-half
returns-else-ahead-half c =
    let p : Prefix6 = record { addr = c.self.inside.addr; len = c.self.inside.len } in
    let q : Prefix6 = record { addr = c.other.inside.addr; len = c.other.inside.len } in
    let short = c.if-self-lt64.true in
    let ahead = c.saturating_sub-ahead.ensures ∙ ap₂ ◌-◌ c.high.ensures c.high-then-self-lt64.ensures in
    rw (← c.self.view_is, ← c.other.view_is, half_is p.len short, ahead)
    (by_high p q short (λ e. c.if-ahead-half.false (ahead ∙ e ∙ sym (half_is p.len short))))
