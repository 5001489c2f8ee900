use Rattle.std.proofs.Common.{List, inl, inr, subst}
use Rattle.std.proofs.lemmas.Result.{err_from_is_err_and}
use Rattle.ripngd_config.specs.Twice.{AreAllPeersDistinct, AreGroupPortsApart, ArePortsDistinct, RefusesTwice}
use Rattle.ripngd_config.specs.declared.tables.InterfaceTable.{InterfaceTable}
use Rattle.ripngd_config.proofs.OneEach.{one_each}
use Rattle.ripngd_config.proofs.configuration.read_config.Goals as goal

pub returns-in_err-router-clause-refused : goal.returns-in_err-router-clause-refused
returns-in_err-router-clause-refused c =
    let p = err_from_is_err_and c.from_residual-in_err-router.result c.from_residual-in_err-router.ensures.1 in
    rw (p.1, p.2) (inr (c.in_ok-document.document, c.in_ok-document.ensures.read, inl c.in_err-router.ensures.refused))

pub returns-in_err-check_ports-clause-refused : goal.returns-in_err-check_ports-clause-refused
returns-in_err-check_ports-clause-refused c =
    let p = err_from_is_err_and c.from_residual-in_err-check_ports.result c.from_residual-in_err-check_ports.ensures.1 in
    let twice = subst (λ (ts : List InterfaceTable). RefusesTwice ts c.in_err-check_ports.field-0.0) c.deref.ensures.value c.in_err-check_ports.ensures.fault in
    rw (p.1, p.2) (inr (c.in_ok-document.document, c.in_ok-document.ensures.read, inr twice))

pub returns-in_err-check_group_ports-clause-refused : goal.returns-in_err-check_group_ports-clause-refused
returns-in_err-check_group_ports-clause-refused c =
    let p = err_from_is_err_and c.from_residual-in_err-check_group_ports.result c.from_residual-in_err-check_group_ports.ensures.1 in
    let twice = subst (λ (ts : List InterfaceTable). RefusesTwice ts c.in_err-check_group_ports.field-0.0) c.deref-2.ensures.value c.in_err-check_group_ports.ensures.fault in
    rw (p.1, p.2) (inr (c.in_ok-document.document, c.in_ok-document.ensures.read, inr twice))

pub returns-in_err-check_peers-clause-refused : goal.returns-in_err-check_peers-clause-refused
returns-in_err-check_peers-clause-refused c =
    let p = err_from_is_err_and c.from_residual-in_err-check_peers.result c.from_residual-in_err-check_peers.ensures.1 in
    let twice = subst (λ (ts : List InterfaceTable). RefusesTwice ts c.in_err-check_peers.field-0.0) c.deref-3.ensures.value c.in_err-check_peers.ensures.fault in
    rw (p.1, p.2) (inr (c.in_ok-document.document, c.in_ok-document.ensures.read, inr twice))

pub returns-clause-read : goal.returns-clause-read
returns-clause-read c = (
  c.in_ok-document.document,
  c.in_ok-document.ensures.read,
  record {
    router = c.in_ok-router.ensures.kept;
    places = c.in_ok-places.ensures;
    peers = c.in_ok-peers.ensures;
    rng = c.seed_from_u64-rng.ensures;
    lawful = c.in_ok-router.ensures.lawful;
    distinct_ports = subst (λ (ts : List InterfaceTable). ArePortsDistinct ts) c.deref.ensures.value c.in_ok-check_ports.ensures.ok;
    distinct_group_ports = subst (λ (ts : List InterfaceTable). AreGroupPortsApart ts) c.deref-2.ensures.value c.in_ok-check_group_ports.ensures.ok;
    distinct_peers = subst (λ (ts : List InterfaceTable). AreAllPeersDistinct ts) c.deref-3.ensures.value c.in_ok-check_peers.ensures.ok;
  },
)

pub returns-clause-one_each : goal.returns-clause-one_each
returns-clause-one_each c =
    one_each c.args.default_tag c.args.quiet c.in_ok-document.document _ c.in_ok-router.ensures.kept c.in_ok-places.ensures c.in_ok-peers.ensures
