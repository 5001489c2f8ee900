use Rattle.std.proofs.Common.{ℕ, ◌++◌, List, Ok, map, ap, ◌∙◌, rules, tests, arith}
use Rattle.std.proofs.lemmas.Iterator.{YieldsList-from_map, YieldsList-from_slice}
use Rattle.std.proofs.lemmas.Iterator.Adapters.{items_from_extend}
use Rattle.ripng_world.specs.Network.{Node}
use Rattle.ripng_world.specs.declared.network.NetInterface.{NetInterface}
use Rattle.ripng_world.proofs.NetworkLaws.{addresses_more}
use Rattle.ripng_world.proofs.network.addresses.Goals as goal

pub loop-router-preserved : goal.loop-router-preserved
loop-router-preserved c =
    addresses_more c.args.routers.now c.loop-router.router-index c.router-item.result c.loop-router.all.items _ (omega (arith, c.loop-router-test.true)) c.router-item.is c.loop-router.invariant
    ((items_from_extend {E = ℕ} (Ok tt) c.in_ok-extend.ensures.ran (YieldsList-from_map _ (λ i. i.interface.addr) (YieldsList-from_slice c.deref.result.now cc) (cc) (λ x r q k. search (rules, tests)))).0
    ∙ ap (λ (is : List NetInterface). c.loop-router.all.items ++ map (λ i. i.interface.addr) is) (c.deref.ensures.value ∙ ap (λ (n : Node). n.interfaces) c.router.view_is))
