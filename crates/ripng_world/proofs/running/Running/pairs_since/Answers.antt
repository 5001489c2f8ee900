use Rattle.std.proofs.Common.{ℕ, ◌≡◌, ◌+◌, ◌-◌, ◌<◌, ◌≤◌, ◌++◌, List, Ok, map, take, drop, filter, flat_map, get_or, length, ap, ◌∙◌, rules, tests, arith}
use Rattle.std.specs.List.{enumerate_from}
use Rattle.std.proofs.lemmas.Iterator.{YieldsList-from_map, YieldsList-from_slice}
use Rattle.std.proofs.lemmas.Iterator.Adapters.{items_from_extend}
use Rattle.std.proofs.lemmas.List.{length-drop, take_all}
use Rattle.ripng_world.specs.AskedRounds.{is_other, pair_at, interfaces_of}
use Rattle.ripng_world.specs.Labs.{LabValue}
use Rattle.ripng_world.specs.Network.{Network}
use Rattle.ripng_world.specs.declared.lab.delivering.Pair.{Pair}
use Rattle.ripng_world.specs.declared.event.Sent.{Sent}
use Rattle.ripng_world.proofs.Among.{numbered_more, flat_grows}
use Rattle.ripng_world.proofs.running.Running.pairs_since.Goals as goal

of_datagram : Network → ℕ × Sent → List Pair
of_datagram net d = map (pair_at d.0) (filter (is_other net d.1) (interfaces_of net))

pub loop-number-preserved : goal.loop-number-preserved
unfolding of_datagram
loop-number-preserved g c =
    let net = c.args.self.now.network in
    let sent = c.args.self.now.world.sent in
    let sent_is : c.self.inside.sent.items ≡ sent = ap (λ (l : LabValue). l.world.sent) c.self.view_is in
    let n = c.loop-number.number-counter in
    let d = c.index.result.now in
    let within : n < length sent = omega (arith, c.loop-number-test.true, c.len-number-end.ensures, c.self.inside.sent.ok.0, ap length sent_is) in
    flat_grows (of_datagram net) (enumerate_from c.args.first (take (n - c.args.first) (drop c.args.first sent)))
    (enumerate_from c.args.first (take (n + 1 - c.args.first) (drop c.args.first sent))) (n, d) c.loop-number.pairs.items c.extend.new.self.items c.loop-number.invariant
    ((items_from_extend {E = ℕ} (Ok tt) c.in_ok-extend.ensures.ran (YieldsList-from_map _ (pair_at n) (YieldsList-from_slice c.deref.result.now cc) c.map.ensures.closure (λ x y q k. search (rules, tests)))).0
    ∙ ap (λ (rs : List (ℕ × ℕ)). c.loop-number.pairs.items ++ map (pair_at n) rs) (c.deref.ensures.value ∙ c.in_ok-receivers.ensures))
    (numbered_more sent c.args.first n d (omega (arith, c.loop-number.auto.number-counter)) (omega (arith, within)) (c.index.ensures ∙ ap (λ (ds : List Sent). get_or ds n d) sent_is))

pub returns : goal.returns
unfolding of_datagram
returns g c =
    let sent = c.args.self.now.world.sent in
    let sent_is : c.self.inside.sent.items ≡ sent = ap (λ (l : LabValue). l.world.sent) c.self.view_is in
    let rest = c.loop-number.number-counter - c.args.first in
    let long : length (drop c.args.first sent) ≤ rest = omega (arith, c.loop-number-test.false, c.len-number-end.ensures, c.self.inside.sent.ok.0, ap length sent_is, length-drop c.args.first sent) in
    c.loop-number.invariant ∙ ap (λ (ds : List Sent). flat_map (of_datagram c.args.self.now.network) (enumerate_from c.args.first ds)) (take_all rest (drop c.args.first sent) long)
