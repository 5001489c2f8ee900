use Rattle.std.proofs.Common.{◌≡◌, ℕ, ◌+◌, ◌-◌, ◌<◌, ◌==◌, ◌||◌, Bool, true, is_ok, nat_eq, List, [], ◌∷◌, length, refl, ap, ap₂, sym, subst, ◌∙◌, arith}
use Rattle.std.specs.Prelude.{if◌then◌else◌}
use Rattle.std.specs.List.{list_any}
use Rattle.std.proofs.lemmas.Bool.Decides.{nat_tests}
use Rattle.ripng_world.specs.Packets.{forwardings_of}
use Rattle.ripng_world.specs.Walks.{Hop}
use Rattle.ripng_world.proofs.PathWalked.{ends, fewer_left, goes_round, started, went_on}
use Rattle.ripng_world.proofs.running.Running.path.Goals as goal

-- an equation of numbers may be tested either way
either_way : (n : ℕ) (xs : List ℕ) → list_any (nat_eq n) xs ≡ list_any (λ x. x == n) xs
either_way n [] = refl
either_way n (x ∷ xs) = ap₂ (λ (b c : Bool). b || c) (swap n x) (either_way n xs)
  where
    swap : (a b : ℕ) → (a == b) ≡ (b == a)
    swap a b = grind (arith, nat_tests)

-- what is pushed where memory is there
pushed : {X : Type 0} (b : Bool) (xs ys zs : List X) → zs ≡ (if b then xs else ys) → b ≡ true → zs ≡ xs
pushed b xs ys zs is there = is ∙ ap (λ (c : Bool). if c then xs else ys) there

pub loop-addr-init : goal.loop-addr-init
loop-addr-init g c = record {
  walked = started c.args.self.now.network (forwardings_of c.args.self.now.world) c.args.addr c.args.router c.new-hops.result.items c.new-passed.result.items
      c.new-hops.ensures.items c.new-passed.ensures.items;
}

pub returns-in-Err-clause-path : goal.returns-in-Err-clause-path
returns-in-Err-clause-path g c =
    ends c.args.self.now.network (forwardings_of c.args.self.now.world) c.args.addr c.args.router c.loop-addr.hops.items c.loop-addr.passed.items c.loop-addr.at c.loop-addr.invariant.walked
    c.in-Err.end c.in-Err.ensures.end

pub loop-addr-preserved : goal.loop-addr-preserved
loop-addr-preserved g c =
    record {
      walked = went_on c.args.self.now.network (forwardings_of c.args.self.now.world) c.args.addr c.args.router c.loop-addr.hops.items c.loop-addr.passed.items c.loop-addr.at c.loop-addr.invariant.walked
          c.in-Ok.hop (sym (ap (list_any (nat_eq c.loop-addr.at)) c.deref.ensures.value) ∙ either_way c.loop-addr.at c.deref.result.now ∙ sym c.contains.ensures.value ∙ c.loop-addr-test.true) c.in-Ok.ensures.hop
          c.push-in-Ok.new.self.items c.push.new.self.items c.hop.inside.router (pushed (is_ok c.push-in-Ok.result) _ _ _ c.push-in-Ok.ensures.items (sym c.map_err-in-Ok.ensures.variant ∙ ap is_ok c.in_ok-map_err-in-Ok-2.was)) (pushed (is_ok c.push.result) _ _ _ c.push.ensures.items (sym c.map_err.ensures.variant ∙ ap is_ok c.in_ok-map_err-in-Ok.was)) (ap (λ (h : Hop). h.router) c.hop.view_is);
    }

pub loop-addr-smaller : goal.loop-addr-smaller
loop-addr-smaller g c =
    subst (λ (rs : List ℕ). length c.args.self.now.network + 1 - length rs < length c.args.self.now.network + 1 - length c.loop-addr.passed.items) (sym (pushed (is_ok c.push.result) _ _ _ c.push.ensures.items (sym c.map_err.ensures.variant ∙ ap is_ok c.in_ok-map_err-in-Ok.was)))
    (fewer_left c.args.self.now.network (forwardings_of c.args.self.now.world) c.args.addr c.args.router c.loop-addr.hops.items c.loop-addr.passed.items c.loop-addr.at c.loop-addr.invariant.walked
    c.in-Ok.hop (sym (ap (list_any (nat_eq c.loop-addr.at)) c.deref.ensures.value) ∙ either_way c.loop-addr.at c.deref.result.now ∙ sym c.contains.ensures.value ∙ c.loop-addr-test.true) c.in-Ok.ensures.hop)

pub returns-clause-path : goal.returns-clause-path
returns-clause-path g c =
    goes_round c.args.self.now.network (forwardings_of c.args.self.now.world) c.args.addr c.args.router c.loop-addr.hops.items c.loop-addr.passed.items c.loop-addr.at c.loop-addr.invariant.walked
    (sym (ap (list_any (nat_eq c.loop-addr.at)) c.deref.ensures.value) ∙ either_way c.loop-addr.at c.deref.result.now ∙ sym c.contains.ensures.value ∙ c.loop-addr-test.false)
