use Rattle.std.proofs.Common.{rules, subst, sym}
use Rattle.prefix6.specs.Prefix.{IsPrefix, Holds}
use Rattle.prefix6.proofs.Parting.{under_holds}
use Rattle.prefix6.proofs.prefix.Prefix.is_above.Goals as goal

pub returns-then-self-other : goal.returns-then-self-other
returns-then-self-other c =
    let p = c.args.self.now in
    let q = c.args.other.now in
    let u = under_holds p q (subst IsPrefix c.self.view_is c.self.invariant) c.addr.ensures.prefix (search rules) in
    (λ h. u.0 (subst (Holds p) c.addr.ensures.value (c.contains.ensures.0 h)), λ h. c.contains.ensures.1 (subst (Holds p) (sym c.addr.ensures.value) (u.1 h)))
