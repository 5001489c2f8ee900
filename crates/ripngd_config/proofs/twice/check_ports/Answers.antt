use Rattle.std.proofs.Common.{◌≡◌, ◌∙◌, false, inl, refl, sym}
use Rattle.std.proofs.lemmas.Option.{slice_get_read}
use Rattle.ripngd_config.specs.Twice.{share_socket}
use Rattle.ripngd_config.proofs.Pairs.{pairs_all, pairs_more}
use Rattle.ripngd_config.proofs.twice.check_ports.Goals as goal

pub loop-index-preserved : goal.loop-index-preserved
loop-index-preserved c =
    pairs_more (λ t u. share_socket t.socket u.socket ≡ false) (λ t u. share_socket t.socket u.socket) (λ t u apart. apart)
    c.args.interfaces.now c.loop-index.index-counter c.index-interfaces-index.result c.loop-index-test.true c.index-interfaces-index.is
    (sym c.has_port.ensures ∙ c.if-has_port.false) c.loop-index.invariant

pub returns-clause-ok : goal.returns-clause-ok
returns-clause-ok c = pairs_all (λ t u. share_socket t.socket u.socket ≡ false) c.args.interfaces.now c.loop-index.index-counter c.loop-index-test.false c.loop-index.invariant

pub returns-then-has_port-clause-fault : goal.returns-then-has_port-clause-fault
returns-then-has_port-clause-fault c = (
  c.loop-index.index-counter,
  record {
    interface = c.index-interfaces-index.result;
    there = slice_get_read c.args.interfaces.now _ c.loop-index.index-counter c.index-interfaces-index.result refl c.loop-index-test.true c.index-interfaces-index.is;
    twice = inl (sym c.has_port.ensures ∙ c.if-has_port.true);
  },
)
