use Rattle.std.proofs.Common.{◌≡◌, ℕ, IfOk, arith, filter, map, not, refl, rules, subst, tests}
use Rattle.std.specs.List.{range_with_len}
use Rattle.std.proofs.lemmas.Iterator.{YieldsList-from_map_by, YieldsList-from_range}
use Rattle.std.proofs.lemmas.Iterator.Consumers.{YieldsList-at, YieldsList-from_filter, map_from_collect}
use Rattle.ripng_world.specs.Events.{event_of}
use Rattle.ripng_world.specs.Labs.{LabValue}
use Rattle.ripng_world.specs.World.{LinkUp}
use Rattle.ripng_lab.specs.Asking.{is_on, requests_of}
use Rattle.ripng_lab.proofs.course.Course.requests.Goals as goal

pub returns : goal.returns
returns c =
    let lab = c.running-lab.result.now in
    let down = c.args.self.now.outages.down.items in
    let count = c.count_interfaces.result in
    let made : IfOk c.collect.result (λ events. map event_of events.items ≡ map (λ iface. LinkUp c.args.router c.args.now iface) (filter (λ iface. not (is_on down lab.network c.args.router iface)) (range_with_len 0 count))) =
    map_from_collect c.collect.result c.collect.ensures.ran
    (YieldsList-from_map_by _ event_of (λ iface. LinkUp c.args.router c.args.now iface)
    (YieldsList-at c.map.ensures.source (YieldsList-from_filter _ (λ iface. not (is_on down lab.network c.args.router iface)) (YieldsList-at c.filter.ensures.source (YieldsList-from_range 0 count count refl (omega arith))) c.filter.ensures.closure (λ x r q k. search (rules, tests))))
    c.map.ensures.closure (λ x r q k. search (rules, tests))) in
    subst (λ (l : LabValue). IfOk c.collect.result (λ events. map event_of events.items ≡ requests_of l down c.args.router c.args.now)) c.running-lab.ensures
    (subst (λ (n : ℕ). IfOk c.collect.result (λ events. map event_of events.items ≡ map (λ iface. LinkUp c.args.router c.args.now iface) (filter (λ iface. not (is_on down lab.network c.args.router iface)) (range_with_len 0 n)))) c.count_interfaces.ensures made)
