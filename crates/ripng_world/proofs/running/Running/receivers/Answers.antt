use Rattle.std.proofs.Common.{◌≡◌, ◌∙◌, ℕ, not, ◌==◌, ◌&&◌, List, IfOk, ap, filter, rules, subst, sym, tests}
use Rattle.std.proofs.lemmas.Iterator.{YieldsList-from_slice, items_from_collect}
use Rattle.std.proofs.lemmas.Iterator.Consumers.{YieldsList-at, YieldsList-from_copied, YieldsList-from_filter}
use Rattle.ripng_world.specs.Labs.{LabValue}
use Rattle.ripng_world.specs.Linked.{interfaces_on}
use Rattle.ripng_world.proofs.Linking.{lists_of, no_others, others_of}
use Rattle.ripng_world.proofs.running.Running.receivers.Goals as goal

pub returns : goal.returns
returns g c =
    let net = c.args.self.now.network in
    let d = c.args.datagram.now in
    let others = λ (at : ℕ × ℕ). not (at.0 == d.router && at.1 == d.iface) in
    let listed : c.on.result.now ≡ interfaces_on net c.in-Some.link =
    c.on.ensures ∙ lists_of _ c.self.inside.links c.self.invariant c.in-Some.link ∙ ap (λ (l : LabValue). interfaces_on l.network c.in-Some.link) c.self.view_is in
    let made : IfOk c.collect.result (λ receivers. receivers.items ≡ filter others c.on.result.now) =
    items_from_collect c.collect.result c.collect.ensures.ran
    (YieldsList-from_filter _ others (YieldsList-at c.filter-others.ensures.source (YieldsList-from_copied (YieldsList-at c.copied.ensures.source (YieldsList-from_slice c.on.result.now c.iter.ensures.rest)))) c.filter-others.ensures.closure (λ x b q k. search (rules, tests))) in
    subst (λ (ps : List (ℕ × ℕ)). IfOk c.collect.result (λ receivers. receivers.items ≡ ps)) (ap (filter others) listed ∙ others_of net d c.in-Some.link (sym c.in-Some.ensures)) made

pub returns-in_default : goal.returns-in_default
returns-in_default g c = c.new.ensures.items ∙ sym (no_others c.args.self.now.network c.args.datagram.now (sym c.in_default.ensures))
