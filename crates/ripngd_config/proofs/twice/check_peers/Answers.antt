use Rattle.std.proofs.Common.{List, refl, subst}
use Rattle.std.proofs.lemmas.List.{take_all}
use Rattle.std.proofs.lemmas.List.Elements.{All-more}
use Rattle.std.proofs.lemmas.Option.{slice_get_read}
use Rattle.ripngd_config.specs.Twice.{AreAllPeersDistinct, ArePeersDistinct}
use Rattle.ripngd_config.specs.declared.tables.InterfaceTable.{InterfaceTable}
use Rattle.ripngd_config.proofs.twice.check_peers.Goals as goal

pub loop-index-preserved : goal.loop-index-preserved
loop-index-preserved c =
    let table = c.index-interfaces-index.result in
    let here : ArePeersDistinct table.peers.items = rw (← c.deref.ensures.value) c.in_default.ensures in
    All-more (λ t. ArePeersDistinct t.peers.items) c.args.interfaces.now c.loop-index.index-counter table c.loop-index-test.true c.loop-index.invariant
    (subst (λ (t : InterfaceTable). ArePeersDistinct t.peers.items) c.index-interfaces-index.is here)

pub returns-clause-ok : goal.returns-clause-ok
returns-clause-ok c =
    subst (λ (ts : List InterfaceTable). AreAllPeersDistinct ts) (take_all c.loop-index.index-counter c.args.interfaces.now c.loop-index-test.false) c.loop-index.invariant

pub returns-in-Some-clause-fault : goal.returns-in-Some-clause-fault
returns-in-Some-clause-fault c = (
  c.loop-index.index-counter,
  record {
    interface = c.index-interfaces-index.result;
    there = slice_get_read c.args.interfaces.now _ c.loop-index.index-counter c.index-interfaces-index.result refl c.loop-index-test.true c.index-interfaces-index.is;
    peer = c.in-Some.peer;
    twice = rw (← c.deref.ensures.value) c.in-Some.ensures;
  },
)
