use Rattle.std.proofs.Common.{◌≡◌, ℕ, ◌+◌, ◌<◌, ◌++◌, ◌∷◌, [], List, Some, take, filter, flat_map, length, get_or, slice_get, sym, ap, ap₂, ◌∙◌, arith}
use Rattle.std.specs.List.{enumerate_from}
use Rattle.std.proofs.lemmas.List.{get_or-map, length-map, take_all}
use Rattle.std.proofs.lemmas.Option.{slice_get-get_or}
use Rattle.ripng_world.specs.Linked.{interfaces_there, is_on}
use Rattle.ripng_world.specs.Network.{Node}
use Rattle.ripng_world.specs.Stations.{StationValue, network_of}
use Rattle.ripng_world.specs.declared.network.NetInterface.{NetInterface}
use Rattle.ripng_world.proofs.Among.{enumerate_more}
use Rattle.ripng_world.proofs.Linking.{are_listed, on_one_more, places_of}
use Rattle.ripng_world.proofs.links.Links.of.Goals as goal

-- the router at its place
at_place : (stations : List StationValue) (r : ℕ) (s : StationValue) → r < length stations → s ≡ get_or stations r s → get_or (network_of stations) r s.node ≡ s.node
at_place stations r s here is = get_or-map (λ (t : StationValue). t.node) stations r s s.node here ∙ ap (λ (t : StationValue). t.node) (sym is)

pub loop-router-preserved : goal.loop-router-preserved
loop-router-preserved g c = λ link.
    let stations = c.args.stations.now in
    let net = network_of stations in
    let r = c.loop-router.router in
    let s = c.index-stations-router.result in
    let below : r < length stations = omega (arith, c.loop-router-test.true) in
    let within : r < length net = omega (arith, below, length-map stations (λ (t : StationValue). t.node)) in
    let node : get_or net r s.node ≡ s.node = at_place stations r s below c.index-stations-router.is in
    let here : slice_get net r ≡ Some s.node = slice_get-get_or net r s.node within ∙ ap Some node in
    let next : enumerate_from 0 (take (r + 1) net) ≡ enumerate_from 0 (take r net) ++ (r, s.node) ∷ [] =
    enumerate_more 0 net r s.node within ∙ ap₂ (λ (m : ℕ) (n : Node). enumerate_from 0 (take r net) ++ (m, n) ∷ []) (omega arith) node in
    c.in_ok-add_router.ensures link
    ∙ ap₂ (λ (ys : List (ℕ × ℕ)) (is : List NetInterface). ys ++ interfaces_there r is link) (c.loop-router.invariant link) c.interfaces.ensures
    ∙ on_one_more net link r s.node here (enumerate_from 0 (take r net)) (enumerate_from 0 (take (r + 1) net)) next

pub returns : goal.returns
returns g c =
    let stations = c.args.stations.now in
    let net = network_of stations in
    are_listed net c.loop-router.links
    (λ link. c.loop-router.invariant link
    ∙ ap (λ (ns : List Node). filter (is_on net link) (flat_map places_of (enumerate_from 0 ns)))
    (take_all c.loop-router.router net (omega (arith, c.loop-router-test.false, length-map stations (λ (t : StationValue). t.node)))))
