use Rattle.std.proofs.Common.{◌≡◌, ◌+◌, true, false, get_or, nat_lt, sym, subst, rules, tests, arith}
use Rattle.std.specs.List.{IsAllAdjacentAnswer}
use Rattle.std.proofs.lemmas.Bool.Decides.{nat_tests}
use Rattle.std.proofs.lemmas.Fn.{always_returns_same}
use Rattle.ripng_world.proofs.RepeatedAddresses.{none_twice, one_twice}
use Rattle.ripng_world.proofs.network.check_addresses.Goals as goal

pub returns-then-is_sorted_by : goal.returns-then-is_sorted_by
returns-then-is_sorted_by c =
    let ys = c.sort_unstable.new.self in
    let answer : IsAllAdjacentAnswer (λ x y b. b ≡ nat_lt x y) ys true =
    subst (λ r. IsAllAdjacentAnswer (λ x y b. b ≡ nat_lt x y) ys r) c.if-is_sorted_by.true (c.is_sorted_by.ensures.cases nat_lt (always_returns_same _ (λ a r. r ≡ nat_lt a.0.now a.1.0.now) _ (λ a r f k. search (rules, tests)))) in
    none_twice c.args.addresses.now ys c.sort_unstable.ensures.permutation c.sort_unstable.ensures.sorted
    (λ k d within. let less : nat_lt (get_or ys k d) (get_or ys (k + 1) d) ≡ true = sym (answer k d within) in grind (arith, nat_tests, less))

pub returns-else-is_sorted_by : goal.returns-else-is_sorted_by
returns-else-is_sorted_by c =
    let ys = c.sort_unstable.new.self in
    let answer : IsAllAdjacentAnswer (λ x y b. b ≡ nat_lt x y) ys false =
    subst (λ r. IsAllAdjacentAnswer (λ x y b. b ≡ nat_lt x y) ys r) c.if-is_sorted_by.false (c.is_sorted_by.ensures.cases nat_lt (always_returns_same _ (λ a r. r ≡ nat_lt a.0.now a.1.0.now) _ (λ a r f k. search (rules, tests)))) in
    one_twice c.args.addresses.now ys c.sort_unstable.ensures.permutation c.sort_unstable.ensures.sorted answer.0 answer.1
    (λ d. let not_less : nat_lt (get_or ys answer.0 d) (get_or ys (answer.0 + 1) d) ≡ false = sym (answer.2 d) in grind (arith, nat_tests, not_less))
