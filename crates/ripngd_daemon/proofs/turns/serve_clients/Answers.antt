use Rattle.ripngd_engine.specs.Seen.{seen}
use Rattle.ripngd_daemon.specs.Run.{words_of}
use Rattle.ripngd_daemon.proofs.Courses.{cut_minded}
use Rattle.ripngd_daemon.proofs.turns.serve_clients.Goals as goal

pub returns-clause-minds : goal.returns-clause-minds
returns-clause-minds g c =
    rw c.in-Some.is
    (cut_minded _ _ (seen words_of g.W.Write.contents c.args.engine.now c.args.log.now)
    (seen words_of g.W.Write.contents c.serve-state.new.engine c.serve-state.new.log) _ _ (c.serve-state.ensures.cuts c.if-not-is_cut.false) (rw c.sizes_of-before.ensures at c.mind_loss.ensures.minds))
