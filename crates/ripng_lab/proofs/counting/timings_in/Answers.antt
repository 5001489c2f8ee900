use Rattle.std.proofs.Common.{◌≡◌, ℕ, IfOk, arith, map, refl, rules, subst, tests}
use Rattle.std.specs.List.{range_with_len}
use Rattle.std.proofs.lemmas.Iterator.{YieldsList-from_map, YieldsList-from_range, items_from_collect}
use Rattle.std.proofs.lemmas.Iterator.Consumers.{YieldsList-at}
use Rattle.ripng_lab.specs.Counting.{timing_at}
use Rattle.ripng_lab.proofs.counting.timings_in.Goals as goal

pub returns : goal.returns
returns c =
    subst (λ (n : ℕ). IfOk c.collect.result (λ timings. timings.items ≡ map (timing_at c.args.lab.now) (range_with_len 0 n))) c.routers.ensures
    (items_from_collect c.collect.result c.collect.ensures.ran
    (YieldsList-from_map _ (timing_at c.args.lab.now) (YieldsList-at c.map.ensures.source (YieldsList-from_range 0 c.routers.result c.routers.result refl (omega arith))) c.map.ensures.closure (λ x r q k. search (rules, tests))))
