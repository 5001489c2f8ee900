-- The order of prefixes: what comes no later, in numbers and from one prefix to the next.
use Rattle.std.proofs.Common.{◌≡◌, ◌≢◌, ◌≤◌, arith}
use Rattle.std.specs.declared.cmp.Ordering.TheVariants.{Less, Greater}
use Rattle.std.proofs.lemmas.Bool.Decides.{nat_tests}
use Rattle.prefix6.specs.Prefix.{Prefix6, prefix_cmp}

-- a prefix that does not come after another has no greater address, and at the same address is no longer
pub record IsNoLater (p q : Prefix6) : Type 0 where
  pub addr : p.addr ≤ q.addr
  pub len : p.addr ≡ q.addr → p.len ≤ q.len

pub no_later : (p q : Prefix6) → prefix_cmp p q ≢ Greater → IsNoLater p q
no_later p q h = record { addr = grind (arith, nat_tests); len = λ e. grind (arith, nat_tests) }

pub not_greater : (p q : Prefix6) → IsNoLater p q → prefix_cmp p q ≢ Greater
not_greater p q h = λ g. absurd (grind (arith, nat_tests, h.addr, h.len))

pub less_is_no_later : (p q : Prefix6) → prefix_cmp p q ≡ Less → prefix_cmp p q ≢ Greater
less_is_no_later p q e g = cc

pub itself_no_later : (p q : Prefix6) → p ≡ q → prefix_cmp p q ≢ Greater
itself_no_later p q e = not_greater p q (record { addr = rw e (omega arith); len = λ _. rw e (omega arith) })
