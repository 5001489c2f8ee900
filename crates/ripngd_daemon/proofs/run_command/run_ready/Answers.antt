use Rattle.std.proofs.Common.{◌++◌, ◌∙◌, Some, ap, sym}
use Rattle.ripngd_daemon.specs.Written.{begins_with}
use Rattle.ripngd_daemon.proofs.Runs.{fails_outcome, shows_outcome}
use Rattle.ripngd_daemon.proofs.run_command.run_ready.Goals as goal

pub returns-clause-ran : goal.returns-clause-ran
returns-clause-ran g c =
    let known = c.close.ensures.calls in
    let read = c.close.ensures.moments in
    let begun = c.in_ok-begin.ensures.begun ∙ ap (λ bytes. bytes ++ begins_with c.args.order.log c.args.order.append) c.requires.unwritten in
    shows_outcome c.args.order c.args.ready.router c.args.ready.rng c.close.new.self _ c.args.ready.link.calls known.0 _ c.begin.new.self.written.past.bytes
    _ _ read.0 _ _ c.show_turns-outcome.result c.close.ensures.clients c.requires.uncalled c.new-clock.ensures begun c.in_ok-engine.ensures.ok
    c.show_turns-outcome.ensures.lasts known.1 known.2 read.1 (ap (λ w. Some w.past.bytes) (sym c.close.ensures.log))
    c.close.ensures.lost c.show_turns-outcome.ensures.shown

pub returns-clause-cut_off : goal.returns-clause-cut_off
returns-clause-cut_off g c =
    let known = c.close.ensures.calls in
    let read = c.close.ensures.moments in
    let begun = c.in_ok-begin.ensures.begun ∙ ap (λ bytes. bytes ++ begins_with c.args.order.log c.args.order.append) c.requires.unwritten in
    fails_outcome c.args.order c.args.ready.router c.args.ready.rng c.close.new.self _ c.args.ready.link.calls known.0 _ c.begin.new.self.written.past.bytes
    read.0 _ _ c.show_turns-outcome.result c.close.ensures.clients c.requires.uncalled c.new-clock.ensures begun c.in_ok-engine.ensures.ok
    c.show_turns-outcome.ensures.fails known.1 known.2 read.1 (ap (λ w. Some w.past.bytes) (sym c.close.ensures.log))
    c.close.ensures.lost
