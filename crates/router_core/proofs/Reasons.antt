-- What is adopted is what the row says that the offer falls under.
use Rattle.std.proofs.Common.{◌≡◌, ℕ, ◌+◌, Bool, true, false, ◌==◌, ◌&&◌, ◌||◌, if◌then◌else◌, Option, Some, None, refl, ap, arith}
use Rattle.std.specs.Prelude.{nat_lt, nat_le}
use Rattle.std.proofs.lemmas.Bool.Decides.{nat_tests}
use Rattle.route_table.specs.Route.{RouteValue}
use Rattle.route_table.specs.declared.route.Clock.{Clock}
use Rattle.route_table.specs.declared.route.Clock.TheVariants.{Fixed, Live, Dying}
use Rattle.router_core.specs.Adoption.{Gateway, metric_through, is_reachable, is_through, is_preferred, taken, refreshed, adopted, adopted_by_clock, reason, reason_by_clock, reason_of_other, by_reason}
use Rattle.router_core.specs.Offers.{Offer}
use Rattle.router_core.specs.Timers.{half_timeout}
use Rattle.router_core.specs.declared.reason.Reason.TheVariants.{Nothing, Added, Cheaper, Older, Dearer, Young, Revived, Gone, Refreshed, GivenUp}

module _ (g : Gateway) (o : Offer) where
  first : (b : Bool) → (if b then Some (taken g o) else None) ≡ by_reason (if b then Added else Nothing) g None o
  first true = refl
  first false = refl

  module _ (r : RouteValue) where
    -- of two metrics one is lower, or they are equal
    of_three : (lower higher same late : Bool) → (higher ≡ true → same ≡ false) → (lower ≡ false → higher ≡ false → same ≡ true)
        → Some (if lower || (same && late) then taken g o else r)
        ≡ by_reason (if lower then Cheaper else if higher then Dearer else if late then Older else Young) g (Some r) o
    of_three true higher same late apart equal = refl
    of_three false true same late apart equal = ap (λ b. Some (if b && late then taken g o else r)) (apart refl)
    of_three false false same true apart equal = ap (λ b. Some (if b && true then taken g o else r)) (equal refl refl)
    of_three false false same false apart equal = ap (λ b. Some (if b && false then taken g o else r)) (equal refl refl)

    apart : (m a : ℕ) → nat_lt a m ≡ true → (m == a) ≡ false
    apart m a h = grind (arith, nat_tests, h)

    equal : (m a : ℕ) → nat_lt m a ≡ false → nat_lt a m ≡ false → (m == a) ≡ true
    equal m a lower higher = grind (arith, nat_tests, lower, higher)

    of_other : (until : ℕ) → Some (if is_preferred g o r.metric until then taken g o else r) ≡ by_reason (reason_of_other g o r.metric until) g (Some r) o
    of_other until =
        of_three (nat_lt (metric_through g o) r.metric) (nat_lt r.metric (metric_through g o)) (metric_through g o == r.metric) (nat_le until (g.moment + half_timeout))
        (apart (metric_through g o) r.metric) (equal (metric_through g o) r.metric)

    live : (until : ℕ) (through : Bool)
        → Some (if through then refreshed g o r else if is_preferred g o r.metric until then taken g o else r)
        ≡ by_reason (if through then if is_reachable (metric_through g o) then Refreshed else GivenUp else reason_of_other g o r.metric until) g (Some r) o
    live until true = again (is_reachable (metric_through g o)) refl
      where
        again : (b : Bool) → is_reachable (metric_through g o) ≡ b → Some (refreshed g o r) ≡ by_reason (if b then Refreshed else GivenUp) g (Some r) o
        again true is = rw is refl
        again false is = rw is refl
    live until false = of_other until

    dying : (b : Bool) → Some (if b then taken g o else r) ≡ by_reason (if b then Revived else Gone) g (Some r) o
    dying true = refl
    dying false = refl

    by_clock : (c : Clock) → Some (adopted_by_clock g o r c) ≡ by_reason (reason_by_clock g o r c) g (Some r) o
    by_clock Fixed = refl
    by_clock (Live until) = live until (is_through g r.origin)
    by_clock (Dying until) = dying (is_reachable (metric_through g o))

  pub adopted_is : (old : Option RouteValue) → adopted g old o ≡ by_reason (reason g old o) g old o
  adopted_is None = first (is_reachable (metric_through g o))
  adopted_is (Some r) = by_clock r r.clock
