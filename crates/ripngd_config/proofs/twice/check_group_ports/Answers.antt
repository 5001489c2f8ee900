use Rattle.std.proofs.Common.{◌≡◌, ◌∙◌, All, List, false, inr, refl, subst, sym}
use Rattle.std.proofs.lemmas.List.{take_all}
use Rattle.std.proofs.lemmas.List.Elements.{All-more}
use Rattle.std.proofs.lemmas.Option.{slice_get_read}
use Rattle.ripngd_config.specs.Twice.{has_group_port}
use Rattle.ripngd_config.specs.declared.tables.InterfaceTable.{InterfaceTable}
use Rattle.ripngd_config.proofs.twice.check_group_ports.Goals as goal

pub loop-index-preserved : goal.loop-index-preserved
loop-index-preserved c =
    let tables = c.args.interfaces.now in
    let table = c.index-interfaces-index.result in
    All-more (λ t. has_group_port tables t ≡ false) tables c.loop-index.index-counter table c.loop-index-test.true c.loop-index.invariant
    (subst (λ (t : InterfaceTable). has_group_port tables t ≡ false) c.index-interfaces-index.is (sym c.has_group_port.ensures ∙ c.if-has_group_port.false))

pub returns-clause-ok : goal.returns-clause-ok
returns-clause-ok c =
    subst (λ (ts : List InterfaceTable). All (λ t. has_group_port c.args.interfaces.now t ≡ false) ts) (take_all c.loop-index.index-counter c.args.interfaces.now c.loop-index-test.false)
    c.loop-index.invariant

pub returns-then-has_group_port-clause-fault : goal.returns-then-has_group_port-clause-fault
returns-then-has_group_port-clause-fault c = (
  c.loop-index.index-counter,
  record {
    interface = c.index-interfaces-index.result;
    there = slice_get_read c.args.interfaces.now _ c.loop-index.index-counter c.index-interfaces-index.result refl c.loop-index-test.true c.index-interfaces-index.is;
    twice = inr (sym c.has_group_port.ensures ∙ c.if-has_group_port.true);
  },
)
