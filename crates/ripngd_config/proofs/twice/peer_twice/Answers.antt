use Rattle.std.proofs.Common.{◌∙◌, refl, sym}
use Rattle.std.proofs.lemmas.Option.{slice_get_read}
use Rattle.ripngd_config.specs.Twice.{AreApart}
use Rattle.ripngd_config.proofs.Clashes.{peers_apart, peers_clash}
use Rattle.ripngd_config.proofs.Pairs.{pairs_all, pairs_more}
use Rattle.ripngd_config.proofs.twice.peer_twice.Goals as goal

pub loop-index-preserved : goal.loop-index-preserved
loop-index-preserved c =
    pairs_more AreApart peers_clash peers_apart c.args.peers.now c.loop-index.index c.index-peers-index.result c.loop-index-test.true c.index-peers-index.is
    (sym c.has_clash.ensures ∙ c.if-has_clash.false) c.loop-index.invariant

pub returns : goal.returns
returns c = pairs_all AreApart c.args.peers.now c.loop-index.index c.loop-index-test.false c.loop-index.invariant

pub returns-then-has_clash : goal.returns-then-has_clash
returns-then-has_clash c = record {
  peer = c.index-peers-index.result;
  there = slice_get_read c.args.peers.now _ c.loop-index.index c.index-peers-index.result refl c.loop-index-test.true c.index-peers-index.is;
  twice = sym c.has_clash.ensures ∙ c.if-has_clash.true;
}
