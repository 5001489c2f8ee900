use Rattle.std.proofs.Common.{◌≡◌, rules, subst}
use Rattle.std.specs.FinMap as map_of
use Rattle.json.specs.Json.{Json}
use Rattle.json.specs.Tree.{json_tokens}
use Rattle.ripngd_control.specs.Json.{Grows, status_json}
use Rattle.ripngd_control.specs.Links.{links_seen}
use Rattle.ripngd_control.proofs.Jsons.{Grows-then, status_is, status_parts, whole_of}
use Rattle.ripngd_control.proofs.status_json.text_of_status.Goals as goal

pub returns : goal.returns
returns g c =
    let engine = c.args.engine.now in
    let router = engine.router in
    let links = links_seen c.args.monitor.now.links engine.queues in
    let heard = c.args.monitor.now.neighbors in
    let all : Grows c.new-text.result c.token-6.new.self (json_tokens (status_parts c.interfaces-interfaces.result.now c.ms-now.result c.len.result c.counts.result c.args.lost c.rows.result.now c.others.result links)) =
    Grows-then c.token.ensures (Grows-then c.token-2.ensures (Grows-then c.write_router.ensures (Grows-then c.token-3.ensures (Grows-then c.write_links.ensures
    (Grows-then c.token-4.ensures (Grows-then c.token-5.ensures (Grows-then c.write_tally.ensures c.token-6.ensures))))))) in
    let interfaces : c.interfaces-interfaces.result.now ≡ router.config.interfaces = search rules in
    let now : c.ms-now.result ≡ router.last = search rules in
    let routes : c.len.result ≡ map_of.len engine.fib = search rules in
    let counts : c.counts.result ≡ c.args.monitor.now.counts = search rules in
    let rows : c.rows.result.now ≡ heard.rows.items = search rules in
    let others : c.others.result ≡ heard.others = search rules in
    let json = status_json router.config.interfaces router.last (map_of.len engine.fib) c.args.monitor.now.counts c.args.lost heard links in
    let grown = subst (λ (j : Json). Grows c.new-text.result c.token-6.new.self (json_tokens j)) (status_is c.args.lost heard links interfaces now routes counts rows others) all in
    whole_of c.whole.result (λ text. text.items) _ _ json c.new-text.ensures.before c.new-text.ensures.tokens grown c.whole.ensures
