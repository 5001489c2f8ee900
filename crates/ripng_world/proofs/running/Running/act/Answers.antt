use Rattle.std.proofs.Common.{◌≡◌, ℕ, ◌∷◌, [], ◌++◌, inr, List, Some, map, slice_get, refl, sym, subst, ◌∙◌, ap, arith, rules}
use Rattle.router_core.specs.declared.reconfiguring.Change.{Change}
use Rattle.ripng_world.specs.Events.{event_of}
use Rattle.ripng_world.specs.Labs.{LabValue, IsPlacedIn}
use Rattle.ripng_world.specs.Linked.{AreListed}
use Rattle.ripng_world.specs.Network.{Network}
use Rattle.ripng_world.specs.Rounds.{router_of}
use Rattle.ripng_world.specs.Stations.{StationValue, IsFor, network_of}
use Rattle.ripng_world.specs.World.{Deliver, address_at, reconfigurations_in, sent_by}
use Rattle.ripng_world.specs.declared.event.Event.{Event}
use Rattle.ripng_world.specs.declared.event.Sent.{Sent}
use Rattle.ripng_world.proofs.StationMoves.{acts, err_is, network_kept, no_change, no_source, placed_at, same_source, something, state_at, station_at, unmoved}
use Rattle.ripng_world.proofs.running.Running.act.Goals as goal
use Rattle.ripng_world.proofs.running.Running.act.Goals.{in-Deliver, in_default, in-Reconfigure, in_default-event}

pub file-requires : goal.file-requires
file-requires g c =
    let e = event_of c.args.event.now in
    let p = subst (λ (l : LabValue). IsPlacedIn l e) (sym c.self.view_is) c.requires in
    let x = something (λ _. c.match-event.source) p.0 c.self.inside.sent.items e p.2 in
    let few = c.in_ok-answer.ensures.few x.0 (subst (λ (ds : List Sent). IsFor (λ _. c.match-event.source) ds e x.0) (sym (c.deref-3.ensures.value ∙ c.in_ok-reserve.ensures.items)) x.1) in
    let room = c.room-room.ensures.value (λ _. c.match-event.source) x.0 (subst (λ (ds : List Sent). IsFor (λ _. c.match-event.source) ds e x.0) (sym c.deref-2.ensures.value) x.1) in
    let ok = c.in_ok-reserve.ensures.ok in
    omega (arith, few, room, ok)

pub returns-in_err-answer-clause-refused : goal.returns-in_err-answer-clause-refused
returns-in_err-answer-clause-refused g c =
    let e = event_of c.args.event.now in
    let p = subst (λ (l : LabValue). IsPlacedIn l e) (sym c.self.view_is) c.requires in
    let stations = c.self.inside.stations.items in
    let sent = c.self.inside.sent.items in
    let cs = c.self.inside.reconfigurations.items in
    let r = c.router-router.result in
    let old = c.index_mut-station.result.now in
    let here = station_at stations sent cs e r c.router-router.ensures p old c.index_mut-station.ensures.value in
    let at = ap (λ (l : LabValue). slice_get l.world.states (router_of e)) (sym c.self.view_is) ∙ state_at stations sent cs e r c.router-router.ensures p old here in
    err_is c.from_residual-in_err-answer.result _ _ (λ why is. inr (old.state, at, is ∙ c.in_err-answer.ensures.refused)) c.from_residual-in_err-answer.ensures.1

pub returns-clause-network : goal.returns-clause-network
returns-clause-network g c =
    let e = event_of c.args.event.now in
    let p = subst (λ (l : LabValue). IsPlacedIn l e) (sym c.self.view_is) c.requires in
    let stations = c.self.inside.stations.items in
    let r = c.router-router.result in
    let old = c.index_mut-station.result.now in
    let here = station_at stations c.self.inside.sent.items c.self.inside.reconfigurations.items e r c.router-router.ensures p old c.index_mut-station.ensures.value in
    let kept = network_kept stations r old c.happen.new.self here c.in_ok-answer.ensures.node ∙ ap (λ (l : LabValue). l.network) c.self.view_is in
    elim c.match-event-2.branch [
      | in-Reconfigure w ↦ rw (w.self-inside-is) kept
      | in_default-event w ↦ rw (w.self-inside-is) kept
    ]

pub returns-clause-acts : goal.returns-clause-acts
returns-clause-acts g c =
    let e = event_of c.args.event.now in
    let p = subst (λ (l : LabValue). IsPlacedIn l e) (sym c.self.view_is) c.requires in
    let stations = c.self.inside.stations.items in
    let sent = c.self.inside.sent.items in
    let cs = c.self.inside.reconfigurations.items in
    let r = c.router-router.result in
    let old = c.index_mut-station.result.now in
    let here = station_at stations sent cs e r c.router-router.ensures p old c.index_mut-station.ensures.value in
    let same : (datagram router iface now : ℕ) (d : Sent) → e ≡ Deliver datagram router iface now → slice_get sent datagram ≡ Some d → c.match-event.source ≡ address_at (network_of stations) d.router d.iface =
    elim c.match-event.branch [
      | in-Deliver w ↦
          let d = w.in-Deliver in
          same_source sent stations e d.datagram d.router d.iface d.now c.match-event.source w.index.result.now (ap event_of d.is) w.index.ensures
          (w.source-is ∙ w.source_of-source.ensures ∙ ap (λ (ss : List StationValue). address_at (network_of ss) w.index.result.now.router w.index.result.now.iface) w.deref.ensures.value)
      | in_default w ↦ λ datagram router iface now d is at. absurd (no_source c.args.event.now w.in_default.not-Deliver datagram router iface now is)
    ] in
    let added = c.file.ensures ∙ ap (λ (ds : List Sent). ds ++ map (sent_by r) c.in_ok-answer.answer.sends) c.in_ok-reserve.ensures.items in
    let moved = λ (cs' : List (ℕ × Change)). acts stations sent cs e r c.router-router.ensures p old here c.happen.new.self c.match-event.source c.in_ok-answer.answer _ c.file.new.sent.items cs' c.in_ok-answer.ensures.node c.room-room.ensures.interfaces same
    (λ h is. c.in_ok-answer.ensures.moves h (subst (λ (ds : List Sent). IsFor (λ _. c.match-event.source) ds e h) (sym (c.deref-3.ensures.value ∙ c.in_ok-reserve.ensures.items)) is)) added in
    elim c.match-event-2.branch [
      | in-Reconfigure w ↦
          let x = w.in-Reconfigure in
          let done = w.push_reserved.ensures.items
          ∙ ap (λ (xs : List (ℕ × Change)). xs ++ (r, x.change) ∷ []) c.in_ok-reserve-2.ensures.items
          ∙ ap (λ (n : ℕ). cs ++ (n, x.change) ∷ []) (c.router-router.ensures ∙ ap (λ (y : Event). router_of (event_of y)) x.is)
          ∙ sym (ap (λ (y : Event). cs ++ reconfigurations_in (event_of y ∷ [])) x.is) in
          rw (w.self-inside-is, ← c.self.view_is) (moved _ done (search rules))
      | in_default-event w ↦ rw (w.self-inside-is, ← c.self.view_is) (moved _ (c.in_ok-reserve-2.ensures.items ∙ no_change c.args.event.now cs w.in_default-event.not-Reconfigure) (search rules))
    ]

-- the links are those of the same network
pub invariant_of-self-2 : goal.invariant_of-self-2
invariant_of-self-2 g c =
    let e = event_of c.args.event.now in
    let p = subst (λ (l : LabValue). IsPlacedIn l e) (sym c.self.view_is) c.requires in
    let stations = c.self.inside.stations.items in
    let r = c.router-router.result in
    let old = c.index_mut-station.result.now in
    let here = station_at stations c.self.inside.sent.items c.self.inside.reconfigurations.items e r c.router-router.ensures p old c.index_mut-station.ensures.value in
    let listed = subst (λ (net : Network). AreListed net c.self.inside.links) (sym (network_kept stations r old c.happen.new.self here c.in_ok-answer.ensures.node)) c.self.invariant in
    elim c.match-event-2.branch [
      | in-Reconfigure w ↦ rw (w.self-inside-is) listed
      | in_default-event w ↦ rw (w.self-inside-is) listed
    ]

-- the router of the event is there, and the event is placed at it
pub room-room-requires : goal.room-room-requires
room-room-requires g c =
    let e = event_of c.args.event.now in
    let p = subst (λ (l : LabValue). IsPlacedIn l e) (sym c.self.view_is) c.requires in
    let stations = c.self.inside.stations.items in
    let sent = c.self.inside.sent.items in
    let cs = c.self.inside.reconfigurations.items in
    let r = c.router-router.result in
    let old = c.index_mut-station.result.now in
    let here = station_at stations sent cs e r c.router-router.ensures p old c.index_mut-station.ensures.value in
    placed_at stations sent cs e r c.router-router.ensures p old here c.deref-2.result.now c.deref-2.ensures.value

pub happen-requires : goal.happen-requires
happen-requires g c =
    let e = event_of c.args.event.now in
    let p = subst (λ (l : LabValue). IsPlacedIn l e) (sym c.self.view_is) c.requires in
    let stations = c.self.inside.stations.items in
    let sent = c.self.inside.sent.items in
    let cs = c.self.inside.reconfigurations.items in
    let r = c.router-router.result in
    let old = c.index_mut-station.result.now in
    let here = station_at stations sent cs e r c.router-router.ensures p old c.index_mut-station.ensures.value in
    placed_at stations sent cs e r c.router-router.ensures p old here c.deref-3.result.now (c.deref-3.ensures.value ∙ c.in_ok-reserve.ensures.items)

-- where memory or the router refuses, nothing moves
pub returns-in_err-reserve-clause-err : goal.returns-in_err-reserve-clause-err
returns-in_err-reserve-clause-err g c =
    let e = event_of c.args.event.now in
    let p = subst (λ (l : LabValue). IsPlacedIn l e) (sym c.self.view_is) c.requires in
    let stations = c.self.inside.stations.items in
    let sent = c.self.inside.sent.items in
    let cs = c.self.inside.reconfigurations.items in
    let r = c.router-router.result in
    let old = c.index_mut-station.result.now in
    let here = station_at stations sent cs e r c.router-router.ensures p old c.index_mut-station.ensures.value in
    unmoved stations sent cs e r c.router-router.ensures p old here c.from_residual.result c.args.self.now old c.reserve.new.self.items cs c.self.view_is refl c.in_err-reserve.ensures.items refl

pub returns-in_err-reserve-2-clause-err : goal.returns-in_err-reserve-2-clause-err
returns-in_err-reserve-2-clause-err g c =
    let e = event_of c.args.event.now in
    let p = subst (λ (l : LabValue). IsPlacedIn l e) (sym c.self.view_is) c.requires in
    let stations = c.self.inside.stations.items in
    let sent = c.self.inside.sent.items in
    let cs = c.self.inside.reconfigurations.items in
    let r = c.router-router.result in
    let old = c.index_mut-station.result.now in
    let here = station_at stations sent cs e r c.router-router.ensures p old c.index_mut-station.ensures.value in
    unmoved stations sent cs e r c.router-router.ensures p old here c.from_residual-in_err-reserve-2.result c.args.self.now old c.reserve.new.self.items c.reserve-2.new.self.items c.self.view_is
    refl c.in_ok-reserve.ensures.items c.in_err-reserve-2.ensures.items

pub returns-in_err-answer-clause-err : goal.returns-in_err-answer-clause-err
returns-in_err-answer-clause-err g c =
    let e = event_of c.args.event.now in
    let p = subst (λ (l : LabValue). IsPlacedIn l e) (sym c.self.view_is) c.requires in
    let stations = c.self.inside.stations.items in
    let sent = c.self.inside.sent.items in
    let cs = c.self.inside.reconfigurations.items in
    let r = c.router-router.result in
    let old = c.index_mut-station.result.now in
    let here = station_at stations sent cs e r c.router-router.ensures p old c.index_mut-station.ensures.value in
    unmoved stations sent cs e r c.router-router.ensures p old here c.from_residual-in_err-answer.result c.args.self.now c.happen.new.self c.reserve.new.self.items c.reserve-2.new.self.items c.self.view_is
    c.in_err-answer.ensures.err c.in_ok-reserve.ensures.items c.in_ok-reserve-2.ensures.items
