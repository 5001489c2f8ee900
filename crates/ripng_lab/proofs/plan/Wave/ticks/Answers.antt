use Rattle.std.proofs.Common.{◌≡◌, ◌⊎◌, ◌∙◌, inl, inr, ℕ, List, IfOk, ap, arith, filter, map, not, refl, rules, subst, sym, tests}
use Rattle.std.specs.List.{range_with_len}
use Rattle.std.proofs.lemmas.Iterator.{YieldsList-from_map_by, YieldsList-from_range}
use Rattle.std.proofs.lemmas.Iterator.Consumers.{YieldsList-at, YieldsList-from_filter, map_from_collect}
use Rattle.ripng_world.specs.Events.{event_of}
use Rattle.ripng_world.specs.Rounds.{router_of}
use Rattle.ripng_world.specs.World.{Event, Tick}
use Rattle.ripng_lab.specs.Plans.{all_ticks, is_silent, ticks_by, ticks_of}
use Rattle.ripng_lab.specs.declared.plan.Outages.{Outages}
use Rattle.ripng_lab.specs.declared.plan.Ticking.{Ticking}
use Rattle.ripng_lab.specs.declared.plan.Ticking.TheVariants.{All, Due}
use Rattle.ripng_lab.specs.declared.plan.Wave.{Wave}
use Rattle.ripng_lab.proofs.Planning.{filter_of_map}
use Rattle.ripng_lab.proofs.plan.Wave.ticks.Goals as goal

all_tick : (wave : Wave) (outages : Outages) (routers : ℕ) → (wave.ticking ≡ All) ⊎ ((round : ℕ) × (wave.ticking ≡ Due round)) → all_ticks outages routers wave.moment ≡ ticks_of wave outages routers
all_tick wave outages routers (inl is) = ap (λ (t : Ticking). ticks_by t wave.moment outages routers) (sym is)
all_tick wave outages routers (inr is) = ap (λ (t : Ticking). ticks_by t wave.moment outages routers) (sym is.1)

pub returns-in-All : goal.returns-in-All
returns-in-All c =
    let made : IfOk c.collect.result (λ ticks. map event_of ticks.items ≡ map (λ router. Tick router c.args.self.now.moment 0) (filter (λ router. not (is_silent c.args.outages.now router)) (range_with_len 0 c.args.routers))) =
    map_from_collect c.collect.result c.collect.ensures.ran
    (YieldsList-from_map_by _ event_of (λ router. Tick router c.args.self.now.moment 0)
    (YieldsList-at c.map.ensures.source (YieldsList-from_filter _ (λ router. not (is_silent c.args.outages.now router)) (YieldsList-at c.filter.ensures.source (YieldsList-from_range 0 c.args.routers c.args.routers refl (omega arith))) c.filter.ensures.closure (λ x r q k. search (rules, tests))))
    c.map.ensures.closure (λ x r q k. search (rules, tests))) in
    subst (λ (es : List Event). IfOk c.collect.result (λ ticks. map event_of ticks.items ≡ es))
    (filter_of_map (λ router. Tick router c.args.self.now.moment 0) (λ e. not (is_silent c.args.outages.now (router_of e))) (range_with_len 0 c.args.routers) ∙ all_tick c.args.self.now c.args.outages.now c.args.routers c.in-All.is)
    made
