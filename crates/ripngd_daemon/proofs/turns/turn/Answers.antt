use Rattle.ripngd_engine.specs.Seen.{seen}
use Rattle.ripngd_daemon.specs.Run.{words_of}
use Rattle.ripngd_daemon.proofs.turns.turn.Goals as goal

pub returns-clause-does : goal.returns-clause-does
returns-clause-does g c =
    let ran = c.in_ok-turns_observed.ensures.runs (rw c.change_link.ensures c.requires) in (
      seen words_of g.W.Write.contents c.turns_observed.new.self c.turns_observed.new.log,
      c.mind_loss.new.asking,
      rw c.change_link.ensures at ran.1,
      ran.0,
      rw c.sizes_of-held.ensures at c.mind_loss.ensures.minds,
      c.serve_clients-state.ensures.heeds,
      c.serve_clients-state.ensures.minds,
    )

pub serve_clients-state-requires : goal.serve_clients-state-requires
serve_clients-state-requires g c = (c.in_ok-turns_observed.ensures.runs (rw c.change_link.ensures c.requires)).0
