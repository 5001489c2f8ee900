use Rattle.std.proofs.Common.{◌≡◌, ◌==◌, nat_lt, ◌∙◌, sym, true, false, length, arith}
use Rattle.std.proofs.lemmas.Bool.Decides.{nat_tests}
use Rattle.std.proofs.lemmas.Result.{err_from_is_err_and}
use Rattle.router_core.specs.Config.{config}
use Rattle.router_core.specs.Config.{interface_limit, owned_limit}
use Rattle.router_core.proofs.ConfigReasons.{by_interfaces, by_count, by_prefixes}
use Rattle.router_core.proofs.config.check_lists.Goals as goal

pub returns-in_err-check_interfaces-clause-fault : goal.returns-in_err-check_interfaces-clause-fault
returns-in_err-check_interfaces-clause-fault c =
    let some : (length c.args.interfaces.now == 0) ≡ false = grind (arith, nat_tests) in
    let few : nat_lt interface_limit (length c.args.interfaces.now) ≡ false = grind (arith, nat_tests) in
    let p = err_from_is_err_and c.from_residual.result c.from_residual.ensures.1 in
    rw (p.1, p.2) (λ quiet. sym (by_interfaces (config c.args.interfaces.now c.args.prefixes.now quiet) some few _ (sym c.in_err-check_interfaces.ensures)))

pub returns-clause-fault : goal.returns-clause-fault
returns-clause-fault c =
    let some : (length c.args.interfaces.now == 0) ≡ false = grind (arith, nat_tests) in
    let few : nat_lt interface_limit (length c.args.interfaces.now) ≡ false = grind (arith, nat_tests) in
    let fit : nat_lt owned_limit (length c.args.prefixes.now) ≡ false = grind (arith, nat_tests) in
    λ quiet. c.check_prefixes.ensures.fault ∙ sym (by_prefixes (config c.args.interfaces.now c.args.prefixes.now quiet) some few (sym c.in_ok-check_interfaces.ensures) fit)

pub returns-then-prefixes-gt-OWNED_LIMIT-clause-fault : goal.returns-then-prefixes-gt-OWNED_LIMIT-clause-fault
returns-then-prefixes-gt-OWNED_LIMIT-clause-fault c =
    let some : (length c.args.interfaces.now == 0) ≡ false = grind (arith, nat_tests) in
    let few : nat_lt interface_limit (length c.args.interfaces.now) ≡ false = grind (arith, nat_tests) in
    let many : nat_lt owned_limit (length c.args.prefixes.now) ≡ true = grind (arith, nat_tests) in
    λ quiet. sym (by_count (config c.args.interfaces.now c.args.prefixes.now quiet) some few (sym c.in_ok-check_interfaces.ensures) many)
