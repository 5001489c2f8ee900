use Rattle.std.proofs.Common.{◌≡◌, IfOk, Result, map, rules, subst, tests}
use Rattle.std.proofs.lemmas.Iterator.{YieldsList-from_map_by, YieldsList-from_slice}
use Rattle.std.proofs.lemmas.Iterator.Consumers.{map_from_collect}
use Rattle.ripng_world.specs.Events.{event_of}
use Rattle.ripng_lab.specs.Doing.{event_by}
use Rattle.ripng_lab.proofs.course.Course.events_at.Goals as goal

pub returns : goal.returns
returns c =
    let made : IfOk c.collect.result (λ events. map event_of events.items ≡ map (λ place. event_by c.args.kind c.args.line.now place.0 place.1) c.deref.result.now) =
    map_from_collect c.collect.result c.collect.ensures.ran
    (YieldsList-from_map_by _ event_of (λ place. event_by c.args.kind c.args.line.now place.0 place.1) (YieldsList-from_slice c.deref.result.now cc) c.map.ensures.closure (λ x r q k. search (rules, tests))) in
    (c.deref.result.now, subst (λ (r : Result _ _). IfOk r (λ events. map event_of events.items ≡ map (λ place. event_by c.args.kind c.args.line.now place.0 place.1) c.deref.result.now)) c.in_ok-events.was made)
