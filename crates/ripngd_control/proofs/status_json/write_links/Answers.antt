use Rattle.std.proofs.Common.{◌∷◌, List, flat_map, subst}
use Rattle.std.specs.List.{enumerate_from}
use Rattle.json.specs.Token.{begin_array}
use Rattle.json.specs.Tree.{json_tokens}
use Rattle.router_core.proofs.Sending.{take_all_numbered}
use Rattle.ripngd_control.specs.Json.{Grows, link_json}
use Rattle.ripngd_control.specs.Links.{links_seen}
use Rattle.ripngd_control.proofs.Jsons.{Grows-numbered, Grows-then, list_tokens}
use Rattle.ripngd_control.proofs.status_json.write_links.Goals as goal

pub loop-number-preserved : goal.loop-number-preserved
loop-number-preserved g c =
    let links = links_seen c.args.monitor.now.links c.args.engine.now.queues in
    Grows-numbered (λ e. json_tokens (link_json c.args.now c.args.rows.now links e)) c.args.interfaces.now c.loop-number.number c.index-interfaces-number.result c.loop-number-test.true
    c.index-interfaces-number.is c.loop-number.invariant (rw (c.link_at-counted.ensures, c.queue_at-queue.ensures) at c.write_link.ensures)

pub returns : goal.returns
returns g c =
    let json = link_json c.args.now c.args.rows.now (links_seen c.args.monitor.now.links c.args.engine.now.queues) in
    let interfaces = c.args.interfaces.now in
    let all = take_all_numbered interfaces c.loop-number.number c.loop-number-test.false in
    let items = subst (λ (es : List _). Grows c.args.text.now c.loop-number.text (begin_array ∷ flat_map (λ e. json_tokens (json e)) es)) all c.loop-number.invariant in
    subst (Grows c.args.text.now c.token-2.new.self) (list_tokens json (enumerate_from 0 interfaces)) (Grows-then items c.token-2.ensures)
