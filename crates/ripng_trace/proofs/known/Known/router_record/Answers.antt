use Rattle.std.proofs.Common.{IfOk, Result, ap, map, rules, subst, vec_items, ◌≡◌, ◌∙◌}
use Rattle.std.specs.List.{enumerate_from}
use Rattle.std.proofs.lemmas.Iterator.{YieldsList-from_map, YieldsList-from_slice}
use Rattle.std.proofs.lemmas.Iterator.Consumers.{YieldsList-at, YieldsList-from_enumerate}
use Rattle.std.proofs.lemmas.Iterator.{items_from_collect}
use Rattle.route_table.specs.Table.{Table}
use Rattle.router_core.specs.Config.{Config}
use Rattle.ripng_trace.specs.Records.{LeadsTo}
use Rattle.ripng_trace.specs.Starting.{interface_record}
use Rattle.ripng_trace.proofs.Telling.{leads_from_nothing}
use Rattle.ripng_trace.proofs.known.Known.router_record.Goals as goal

pub returns-clause-tells : goal.returns-clause-tells
returns-clause-tells c =
    let config = c.args.router.now.config in
    let numbered = YieldsList-from_enumerate (YieldsList-at c.enumerate-numbered.ensures.source (YieldsList-from_slice config.interfaces (c.iter.ensures.rest ∙ c.interfaces.ensures.value ∙ ap (λ (k : Config). k.interfaces) c.config-config.ensures))) c.enumerate-numbered.ensures.count in
    let listed = items_from_collect c.collect.result c.collect.ensures.ran
    (YieldsList-from_map _ (interface_record c.args.lab.now c.args.number) (YieldsList-at c.map-linked.ensures.source numbered) c.map-linked.ensures.closure (λ x r q k. search rules)) in
    λ is. record {
      state = c.args.router.now;
      state_is = is;
      quiet_is = c.is_quiet.ensures ∙ ap (λ (k : Config). k.quiet) c.config-config.ensures;
      interfaces_are = subst (λ (r : Result _ _). IfOk r (λ w. vec_items w ≡ map (interface_record c.args.lab.now c.args.number) (enumerate_from 0 config.interfaces))) c.in_ok-interfaces.was listed;
      prefixes_are = c.in_ok-from_slice.ensures.items ∙ c.prefixes.ensures.value ∙ ap (λ (k : Config). k.prefixes) c.config-config.ensures;
      timers_are = c.timers_in-timers.ensures;
      routes_lead = leads_from_nothing c.in_ok-news.news.routes.items c.in_ok-news.news.gone.items c.args.router.now.table
          (subst (λ (t : Table). LeadsTo t c.in_ok-news.news.routes.items c.in_ok-news.news.gone.items c.args.router.now.table) c.empty-table.ensures (c.in_ok-news.ensures.listed ∙ c.routes.ensures));
    }
