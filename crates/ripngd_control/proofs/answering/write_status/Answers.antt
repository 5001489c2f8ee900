use Rattle.std.proofs.KnownBytes.{Appends-trans}
use Rattle.router_core.proofs.Sending.{take_all_numbered}
use Rattle.ripngd_control.specs.Links.{links_seen}
use Rattle.ripngd_control.proofs.Answered.{appended}
use Rattle.ripngd_control.proofs.Following.{interface_lines_more}
use Rattle.ripngd_control.proofs.answering.write_status.Goals as goal

pub loop-number-preserved : goal.loop-number-preserved
loop-number-preserved g c =
    let links = links_seen c.args.monitor.now.links c.args.engine.now.queues in
    let line = rw (c.link_at.ensures, c.queue_at.ensures) at c.in_ok-write_interface.ensures in
    rw (interface_lines_more links c.interfaces-interfaces.result.now c.loop-number.number c.index-interfaces-number.result c.loop-number-test.true c.index-interfaces-number.is)
    (Appends-trans _ _ _ _ _ c.loop-number.invariant line)

pub returns : goal.returns
returns g c =
    let all = rw (take_all_numbered c.interfaces-interfaces.result.now c.loop-number.number c.loop-number-test.false) at c.loop-number.invariant in
    let first = rw (c.interfaces-interfaces.ensures.value, c.config.ensures, c.router-router.ensures) at all in
    let rest = rw (c.router-router.ensures, c.fib.ensures.value) at c.in_ok-write_sums.ensures in
    let sums = Appends-trans _ _ _ _ _ first rest in
    appended c.write_asked.result _ _ _ _ _ sums (rw c.asked.ensures at c.write_asked.ensures)
