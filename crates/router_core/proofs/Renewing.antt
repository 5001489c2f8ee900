-- An offer that repeats a valid route of its own gateway starts its timeout anew, and changes nothing else.
use Rattle.std.proofs.Common.{◌≡◌, ℕ, ◌+◌, ◌<◌, Bool, true, false, ◌||◌, refl, sym, ap, subst, ◌∙◌, arith}
use mathlib.Core.Bool.{false≢true}
use Rattle.std.proofs.lemmas.Bool.Decides.{nat_tests}
use Rattle.std.specs.Prelude.{◌==◌, nat_lt}
use Rattle.route_table.specs.Route.{IsRoute, RouteValue, infinity}
use Rattle.route_table.specs.declared.route.Clock.{Clock}
use Rattle.route_table.specs.declared.route.Clock.TheVariants.{Fixed, Live, Dying}
use Rattle.router_core.specs.Adoption.{Gateway, metric_through, taken, adopted_by_clock}
use Rattle.router_core.specs.Offers.{Offer}
use Rattle.router_core.specs.Timers.{timeout}

same_number : (n : ℕ) → (n == n) ≡ true
same_number n = grind (arith, nat_tests)

other_number : (n : ℕ) → n < infinity → (n == infinity) ≡ false
other_number n less = grind (arith, nat_tests)

lower : (n : ℕ) → n < infinity → nat_lt n infinity ≡ true
lower n less = grind (arith, nat_tests)

kept : (b : Bool) → (b || false) ≡ b
kept true = refl
kept false = refl

by_clock : (g : Gateway) (o : Offer) (c : Clock) (b : Bool) → IsRoute (record (taken g o) { clock = c; changed = b }) → metric_through g o < infinity
    → record (taken g o) { changed = b } ≡ adopted_by_clock g o (record (taken g o) { clock = c; changed = b }) c
by_clock g o Fixed b h usable = absurd (false≢true (sym h.fixed))
by_clock g o (Dying until) b h usable = absurd (false≢true (sym (other_number (metric_through g o) usable) ∙ sym h.dying))
by_clock g o (Live until) b h usable =
    rw (same_number g.iface, same_number g.from, lower (metric_through g o) usable, same_number (metric_through g o), same_number o.tag, same_number o.next_hop)
    (ap (λ x. record (taken g o) { changed = x }) (sym (kept b)))

pub renewed_is : (g : Gateway) (o : Offer) (r : RouteValue) → IsRoute r → metric_through g o < infinity
    → r ≡ record (taken g o) { clock = r.clock; changed = r.changed } → record r { clock = Live (g.moment + timeout) } ≡ adopted_by_clock g o r r.clock
renewed_is g o r h usable is = subst (λ x. record x { clock = Live (g.moment + timeout) } ≡ adopted_by_clock g o x r.clock) (sym is) (by_clock g o r.clock r.changed (subst IsRoute is h) usable)
