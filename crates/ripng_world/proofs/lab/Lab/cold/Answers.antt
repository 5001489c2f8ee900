use Rattle.std.proofs.Common.{◌≡◌, ℕ, ◌+◌, ◌≤◌, ◌++◌, [], List, map, length, vec_len, refl, sym, subst, ◌∙◌, ap}
use Rattle.std.specs.Vec.{vec_capacity}
use Rattle.std.specs.Vec.Iter.{into_iter_items}
use Rattle.router_core.specs.Machine.{Starts}
use Rattle.router_core.specs.declared.reconfiguring.Change.{Change}
use Rattle.ripng_world.specs.Labs.{HasRun}
use Rattle.ripng_world.specs.Network.{Network, Node, IsNetwork, config_of}
use Rattle.ripng_world.specs.Stations.{network_of, world_of}
use Rattle.ripng_world.specs.World.{IsCold, sent_by}
use Rattle.ripng_world.specs.declared.event.Sent.{Sent}
use Rattle.ripng_world.proofs.LabRuns.{all_cold, all_listed, cold_on, keeps, listed_on, next_room, room_left, started_few}
use Rattle.ripng_world.proofs.lab.Lab.cold.Goals as goal

pub loop-router-preserved : goal.loop-router-preserved
loop-router-preserved g c =
    let stations = c.loop-router.stations.items in
    let station = c.in_ok-station.station in
    let left = into_iter_items c.loop-router.router-iterator in
    let rest = into_iter_items c.next.new.self in
    let left_is = c.in-Some.ensures.steps.0 in
    let all_are = c.into_iter-router-iterator.ensures.into_iter_gives in
    let each = c.requires ∙ sym (ap length c.network.view_is) ∙ sym (ap length all_are.0) in
    let few = started_few stations left rest (into_iter_items c.into_iter-router-iterator.result) c.in-Some.router c.args.moments.now c.loop-router.stations.len c.loop-router.invariant.network left_is each c.loop-router.stations.ok.0 in
    record {
      can_next = tt;
      is_finite = tt;
      network = listed_on stations _ station c.in-Some.router left rest _ c.push_reserved.ensures.items c.in_ok-station.ensures.node left_is c.loop-router.invariant.network;
      cold = cold_on stations _ c.args.moments.now c.loop-router.sent.items _ station c.index-moments-number.result c.in_ok-station.answer c.loop-router.stations.len _ c.len-number.result
          c.push_reserved.ensures.items c.loop-router.stations.ok.0 c.push_reserved.ensures.len c.len-number.ensures
          (c.file.ensures ∙ ap (λ (ds : List Sent). ds ++ map (sent_by c.len-number.result) c.in_ok-station.answer.sends) c.reserve.ensures.items) few c.index-moments-number.is c.loop-router.invariant.cold
          (subst (λ (n : Node). Starts (config_of n) c.index-moments-number.result c.in_ok-station.answer station.state) (sym c.in_ok-station.ensures.node) c.in_ok-station.ensures.starts);
      room = room_left _ _ _ _ left rest c.in-Some.router left_is c.loop-router.invariant.room c.push_reserved.ensures.len c.push_reserved.ensures.capacity;
    }

-- what the parts of a turn ask
pub bounds-moments-number : goal.bounds-moments-number
bounds-moments-number g c =
    let left = into_iter_items c.loop-router.router-iterator in
    let each = c.requires ∙ sym (ap length c.network.view_is) ∙ sym (ap length c.into_iter-router-iterator.ensures.into_iter_gives.0) in
    started_few c.loop-router.stations.items left (into_iter_items c.next.new.self) (into_iter_items c.into_iter-router-iterator.result) c.in-Some.router c.args.moments.now c.len-number.result
    c.loop-router.invariant.network c.in-Some.ensures.steps.0 each (c.len-number.ensures ∙ c.loop-router.stations.ok.0)

pub file-requires : goal.file-requires
file-requires g c = subst (λ (n : ℕ). vec_len c.reserve.new.self + n ≤ vec_capacity c.reserve.new.self) (ap length c.as_slice.ensures) c.in_ok-reserve.ensures.ok

pub push_reserved-requires : goal.push_reserved-requires
push_reserved-requires g c = next_room _ _ (into_iter_items c.loop-router.router-iterator) (into_iter_items c.next.new.self) c.in-Some.router c.in-Some.ensures.steps.0 c.loop-router.invariant.room

-- every router has started
module _ (g : _) (c : goal.After-new g) where
  are : network_of c.loop-router.stations.items ≡ c.network.inside.routers.items
  are =
      all_listed c.loop-router.stations.items (into_iter_items c.loop-router.router-iterator) c.network.inside.routers.items
      (c.loop-router.invariant.network ∙ c.into_iter-router-iterator.ensures.into_iter_gives.0) (sym c.loop-router.router-iterator.rest.ok.0 ∙ c.in-None.ensures.steps.0)

  started : IsCold c.network.inside.routers.items c.args.moments.now (world_of c.loop-router.stations.items c.loop-router.sent.items [])
  started =
      all_cold c.loop-router.stations.items c.network.inside.routers.items c.args.moments.now c.loop-router.sent.items c.loop-router.stations.len c.network.invariant.1 are (c.requires ∙ sym (ap length c.network.view_is)) c.loop-router.stations.ok.0
      c.loop-router.invariant.cold

  has_run : HasRun (network_of c.loop-router.stations.items) (world_of c.loop-router.stations.items c.loop-router.sent.items c.new.result.items)
  has_run =
      record {
        lawful = subst IsNetwork (sym are) c.network.invariant.0;
        moments = c.args.moments.now;
        events = [];
        cold = world_of c.loop-router.stations.items c.loop-router.sent.items c.new.result.items;
        is_cold = subst (λ (cs : List (ℕ × Change)). IsCold (network_of c.loop-router.stations.items) c.args.moments.now (world_of c.loop-router.stations.items c.loop-router.sent.items cs)) (sym c.new.ensures.items)
            (subst (λ (net : Network). IsCold net c.args.moments.now (world_of c.loop-router.stations.items c.loop-router.sent.items [])) (sym are) started);
        run = refl;
      }

pub returns-clause-keeps : goal.returns-clause-keeps
returns-clause-keeps g c = keeps _ (has_run g c)

pub invariant_of-result-2 : goal.invariant_of-result-2
invariant_of-result-2 g c = has_run g c

pub returns-clause-cold : goal.returns-clause-cold
returns-clause-cold g c =
    subst (λ (cs : List (ℕ × Change)). IsCold c.args.network c.args.moments.now (world_of c.loop-router.stations.items c.loop-router.sent.items cs)) (sym c.new.ensures.items)
    (subst (λ (net : Network). IsCold net c.args.moments.now (world_of c.loop-router.stations.items c.loop-router.sent.items [])) c.network.view_is (started g c))
