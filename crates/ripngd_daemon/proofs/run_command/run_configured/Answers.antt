use Rattle.std.proofs.Common.{◌∙◌, Some, ap, map}
use Rattle.ripngd_udp.specs.Peers.{links_at}
use Rattle.ripngd_daemon.specs.Run.{links_of, lines_of}
use Rattle.ripngd_daemon.proofs.Runs.{bound_outcome, listening_stopped, on_ok, outcome_stopped}
use Rattle.ripngd_daemon.proofs.run_command.run_configured.Goals as goal

pub returns-clause-alone : goal.returns-clause-alone
returns-clause-alone g c = on_ok c.run_ready-outcome.result (λ none.
    c.stop_listening.ensures.lines ∙ ap lines_of (c.run_ready-outcome.ensures.alone (c.in_ok-history.ensures.alone none)))

pub returns-clause-ran : goal.returns-clause-ran
returns-clause-ran g c =
    listening_stopped c.args.order c.args.config.router c.args.config.rng c.run_ready-outcome.new.history c.stop_listening.new.self _ _ c.run_ready-outcome.result
    c.stop_listening.ensures.lines c.stop_listening.ensures.same c.run_ready-outcome.ensures.ran

pub returns-clause-cut_off : goal.returns-clause-cut_off
returns-clause-cut_off g c =
    bound_outcome c.args.order c.args.config.router c.args.config.rng c.args.history.now c.stop_listening.new.self (links_of c.args.config) c.run_ready-outcome.result
    (ap (λ h. h.ports.on_links) c.stop_listening.ensures.same ∙ c.run_ready-outcome.ensures.bound ∙ ap (λ p. p.on_links) c.in_ok-link.ensures.ports
    ∙ ap (λ ps. Some (links_at ps (map (λ v. v.items) c.args.config.peers.items))) c.as_slice-places.ensures.value)
    (outcome_stopped c.args.order c.args.config.router c.args.config.rng c.run_ready-outcome.new.history c.stop_listening.new.self c.run_ready-outcome.result
    c.stop_listening.ensures.lines c.stop_listening.ensures.same c.run_ready-outcome.ensures.cut_off)
