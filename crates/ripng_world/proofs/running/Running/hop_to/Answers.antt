use Rattle.std.proofs.Common.{◌≡◌, List, Some, ap, sym, ◌∙◌, rules, tests}
use Rattle.std.specs.List.{position}
use Rattle.std.proofs.lemmas.Iterator.{YieldsList-from_slice}
use Rattle.std.proofs.lemmas.Iterator.Search.{position_from_yields_List}
use Rattle.std.proofs.lemmas.Option.{slice_get-get_or}
use Rattle.ripng_world.specs.Network.{interface_at}
use Rattle.ripng_world.specs.Stations.{StationValue, network_of}
use Rattle.ripng_world.proofs.PathNeighbors.{is_on, leads_nowhere, leads_past, leads_to, passed_by}
use Rattle.ripng_world.proofs.running.Running.hop_to.Goals as goal

pub returns-then-other-router-clause-none : goal.returns-then-other-router-clause-none
returns-then-other-router-clause-none g c = λ none h leads same. leads.is_hop.0 (sym (same ∙ c.if-other-router.true))

pub returns-in_err-here-clause-none : goal.returns-in_err-here-clause-none
returns-in_err-here-clause-none g c =
    rw (← c.self.view_is, ← c.deref.ensures.value) (λ none h leads. absurd (leads_nowhere (network_of c.deref.result.now) c.args.router c.args.iface c.args.next_hop (sym c.in_err-here.ensures) h leads))

pub returns-in_err-station-clause-none : goal.returns-in_err-station-clause-none
returns-in_err-station-clause-none g c =
    rw (← c.self.view_is, ← c.deref-2.ensures.value) (λ none. leads_past c.deref-2.result.now c.args.router c.args.iface c.args.next_hop c.args.other c.in_err-station.ensures.lookup.3)

pub returns-in_err-router_iface-clause-none : goal.returns-in_err-router_iface-clause-none
returns-in_err-router_iface-clause-none g c =
    let stations = c.deref-2.result.now in
    let station = c.in_ok-station.station.now in
    let there = slice_get-get_or stations c.args.other station c.in_ok-station.ensures.lookup.3.0 ∙ ap Some (sym c.in_ok-station.ensures.lookup.1) in
    let here = sym (c.in_ok-here.ensures ∙ ap (λ (ss : List StationValue). interface_at (network_of ss) c.args.router c.args.iface) (c.deref.ensures.value ∙ sym c.deref-2.ensures.value)) in
    let at : c.position.result ≡ position (is_on c.in_ok-here.here.link c.args.next_hop) c.interfaces.result.now =
    position_from_yields_List (is_on c.in_ok-here.here.link c.args.next_hop) _ _ c.position.result c.position.ensures.ran (YieldsList-from_slice c.interfaces.result.now cc) (λ x b q k. search (rules, tests)) in
    rw (← c.self.view_is, ← c.deref-2.ensures.value) (λ none.
    passed_by stations c.args.router c.args.iface c.args.next_hop c.in_ok-here.here here c.args.other station there
    (ap (position (is_on c.in_ok-here.here.link c.args.next_hop)) (sym c.interfaces.ensures) ∙ sym at ∙ c.in_err-router_iface.was))

pub returns-clause-found : goal.returns-clause-found
returns-clause-found g c =
    let stations = c.deref-2.result.now in
    let station = c.in_ok-station.station.now in
    let there = slice_get-get_or stations c.args.other station c.in_ok-station.ensures.lookup.3.0 ∙ ap Some (sym c.in_ok-station.ensures.lookup.1) in
    let here = sym (c.in_ok-here.ensures ∙ ap (λ (ss : List StationValue). interface_at (network_of ss) c.args.router c.args.iface) (c.deref.ensures.value ∙ sym c.deref-2.ensures.value)) in
    let at : c.position.result ≡ position (is_on c.in_ok-here.here.link c.args.next_hop) c.interfaces.result.now =
    position_from_yields_List (is_on c.in_ok-here.here.link c.args.next_hop) _ _ c.position.result c.position.ensures.ran (YieldsList-from_slice c.interfaces.result.now cc) (λ x b q k. search (rules, tests)) in
    rw (← c.self.view_is, ← c.deref-2.ensures.value)
    (leads_to stations c.args.router c.args.iface c.args.next_hop c.in_ok-here.here here c.args.other c.in_ok-router_iface.router_iface station
    (λ same. c.if-other-router.false (sym same)) there
    (ap (position (is_on c.in_ok-here.here.link c.args.next_hop)) (sym c.interfaces.ensures) ∙ sym at ∙ c.in_ok-router_iface.was))
