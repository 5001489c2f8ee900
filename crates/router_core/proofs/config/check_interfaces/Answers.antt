use Rattle.std.proofs.Common.{sym, arith}
use Rattle.std.proofs.lemmas.Result.{err_from_is_err_and}
use Rattle.router_core.specs.Config.{interface_reasons}
use Rattle.router_core.proofs.ReasonsOfEach.{passes_more, passes_all, fails_here}
use Rattle.router_core.proofs.config.check_interfaces.Goals as goal

pub loop-place-preserved : goal.loop-place-preserved
loop-place-preserved c =
    passes_more interface_reasons c.args.interfaces.now c.loop-place.place c.index-interfaces-place.result (omega arith) c.index-interfaces-place.is
    c.loop-place.invariant (sym c.in_ok-check_interface.ensures)

pub returns : goal.returns
returns c = sym (passes_all interface_reasons c.args.interfaces.now c.loop-place.place (omega arith) c.loop-place.invariant)

pub returns-in_err-check_interface : goal.returns-in_err-check_interface
returns-in_err-check_interface c =
    let p = err_from_is_err_and c.from_residual.result c.from_residual.ensures.1 in
    rw (p.1, p.2)
    (sym (fails_here interface_reasons c.args.interfaces.now c.loop-place.place c.index-interfaces-place.result _ (omega arith) c.index-interfaces-place.is
    c.loop-place.invariant (sym c.in_err-check_interface.ensures)))
