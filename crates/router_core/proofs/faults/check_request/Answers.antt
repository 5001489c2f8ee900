use Rattle.std.proofs.Common.{◌≡◌, ◌==◌, ◌∙◌, length, true, false, arith, rules}
use Rattle.std.proofs.lemmas.Bool.Decides.{nat_tests}
use Rattle.ripng_wire.specs.declared.rte.Command.{Command}
use Rattle.router_core.proofs.EmptyRequests.{is_empty_request}
use Rattle.router_core.proofs.faults.check_request.Goals as goal

pub returns-then-len-eq0 : goal.returns-then-len-eq0
returns-then-len-eq0 c =
    let none : (length c.args.request.now.entries == 0) ≡ true = grind (arith, nat_tests) in
    let empty = is_empty_request Command.Request _ _ c.requires ∙ none in
    rw empty

pub returns-then-arrival-eq-RIPNG_PORT : goal.returns-then-arrival-eq-RIPNG_PORT
returns-then-arrival-eq-RIPNG_PORT c =
    let some : (length c.args.request.now.entries == 0) ≡ false = grind (arith, nat_tests) in
    let full = is_empty_request Command.Request _ _ c.requires ∙ some in
    rw full (search rules)

pub returns-else-arrival-eq-RIPNG_PORT : goal.returns-else-arrival-eq-RIPNG_PORT
returns-else-arrival-eq-RIPNG_PORT c =
    let some : (length c.args.request.now.entries == 0) ≡ false = grind (arith, nat_tests) in
    let full = is_empty_request Command.Request _ _ c.requires ∙ some in
    rw full (search rules)
