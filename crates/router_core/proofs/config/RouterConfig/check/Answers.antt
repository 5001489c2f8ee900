use Rattle.std.proofs.Common.{All, ap₂, subst, sym, ◌∙◌}
use Rattle.std.proofs.lemmas.Result.{err_from_is_err_and}
use Rattle.prefix6.specs.Prefix.{IsPrefix}
use Rattle.router_core.specs.Config.{config, config_fault}
use Rattle.router_core.proofs.config.RouterConfig.check.Goals as goal

pub returns-in_err-check_lists-clause-refused : goal.returns-in_err-check_lists-clause-refused
returns-in_err-check_lists-clause-refused c =
    let p = err_from_is_err_and c.from_residual.result c.from_residual.ensures.1 in
    rw (p.1, p.2)
    (c.in_err-check_lists.ensures.fault c.args.is_quiet
    ∙ ap₂ (λ is ps. config_fault (config is ps c.args.is_quiet)) c.deref.ensures.value c.deref-2.ensures.value)

pub returns-clause-refused : goal.returns-clause-refused
returns-clause-refused c =
    c.in_ok-check_lists.ensures.fault c.args.is_quiet
    ∙ ap₂ (λ is ps. config_fault (config is ps c.args.is_quiet)) c.deref.ensures.value c.deref-2.ensures.value

pub invariant_of-result : goal.invariant_of-result
invariant_of-result c =
    record {
      passes = sym (c.in_ok-check_lists.ensures.fault c.args.is_quiet
          ∙ ap₂ (λ is ps. config_fault (config is ps c.args.is_quiet)) c.deref.ensures.value c.deref-2.ensures.value);
      prefixes = subst (All (λ t. IsPrefix t.0)) c.deref-2.ensures.value c.in_ok-check_lists.ensures.prefixes;
    }

pub returns-clause-lawful : goal.returns-clause-lawful
returns-clause-lawful c =
    record {
      passes = sym (c.in_ok-check_lists.ensures.fault c.args.is_quiet
          ∙ ap₂ (λ is ps. config_fault (config is ps c.args.is_quiet)) c.deref.ensures.value c.deref-2.ensures.value);
      prefixes = subst (All (λ t. IsPrefix t.0)) c.deref-2.ensures.value c.in_ok-check_lists.ensures.prefixes;
    }
