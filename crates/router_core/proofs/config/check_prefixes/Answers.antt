use Rattle.std.proofs.Common.{sym, subst, arith, All}
use Rattle.std.proofs.lemmas.List.Elements.{All-more}
use Rattle.std.proofs.lemmas.Result.{err_from_is_err_and}
use Rattle.prefix6.specs.Prefix.{IsPrefix}
use Rattle.router_core.specs.Config.{prefix_reasons}
use Rattle.router_core.proofs.ReasonsOfEach.{passes_more, passes_all, fails_here, take_all}
use Rattle.router_core.proofs.config.check_prefixes.Goals as goal

pub loop-place-preserved : goal.loop-place-preserved
loop-place-preserved c =
    let ps = c.args.prefixes.now in
    let i = c.loop-place.place in
    let p = c.index-prefixes-place.result in
    record {
      passes = passes_more prefix_reasons ps i p (omega arith) c.index-prefixes-place.is c.loop-place.invariant.passes (sym c.in_ok-check_prefix.ensures.fault);
      prefixes = All-more (λ t. IsPrefix t.0) ps i p (omega arith) c.loop-place.invariant.prefixes
          (subst (λ t. IsPrefix t.0) c.index-prefixes-place.is c.in_ok-check_prefix.ensures.prefix);
    }

pub returns-clause-fault : goal.returns-clause-fault
returns-clause-fault c = sym (passes_all prefix_reasons c.args.prefixes.now c.loop-place.place (omega arith) c.loop-place.invariant.passes)

pub returns-clause-prefixes : goal.returns-clause-prefixes
returns-clause-prefixes c = subst (All (λ t. IsPrefix t.0)) (take_all c.args.prefixes.now c.loop-place.place (omega arith)) c.loop-place.invariant.prefixes

pub returns-in_err-check_prefix-clause-fault : goal.returns-in_err-check_prefix-clause-fault
returns-in_err-check_prefix-clause-fault c =
    let p = err_from_is_err_and c.from_residual.result c.from_residual.ensures.1 in
    rw (p.1, p.2)
    (sym (fails_here prefix_reasons c.args.prefixes.now c.loop-place.place c.index-prefixes-place.result _ (omega arith) c.index-prefixes-place.is
    c.loop-place.invariant.passes (sym c.in_err-check_prefix.ensures.fault)))
