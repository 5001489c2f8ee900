-- Where daemons have healed, packets arrive by their own forwarding tables.
use Rattle.std.proofs.Common.{◌≡◌, ℕ, ◌+◌, ◌*◌, ◌<◌, ◌≤◌, List, length, Option, Some, None, option_map, option_and_then, slice_get, refl, ap, sym, subst, ◌∙◌}
use Rattle.std.proofs.lemmas.Option.{slice_get_within}
use Rattle.fib.specs.Forwarding.{Forwarding}
use Rattle.route_table.proofs.TableLaws.{Some-same, None-Some}
use Rattle.ripng_world.specs.Convergence.{IsNeverQuiet}
use Rattle.ripng_world.specs.Healing.{FitsTablesSince, network_now}
use Rattle.ripng_world.specs.Network.{Network, Node, IsNetwork}
use Rattle.ripng_world.specs.Packets.{PacketsArriveBy}
use Rattle.ripng_world.proofs.NetworkNow.{now_alike, now_lawful}
use Rattle.ripng_world.proofs.Packets.{IsGuide, delivers}
use Rattle.ripng_world.proofs.PacketsHealed.{guides}
use Rattle.ripng_world.proofs.ReachedWorlds.{reached_from_cold}
use Rattle.ripngd_engine.specs.Run.{Machine}
use Rattle.ripngd_theorems.specs.Daemons.{Happened, reconfigurations_by}
use Rattle.ripngd_theorems.specs.Links.{HaveRun, past_of_daemons}
use Rattle.ripngd_theorems.specs.Delivering.{AllGoOn, forwardings_by}
use Rattle.ripngd_theorems.specs.OnTime.{AreOnTime, Dated, GoOn}
use Rattle.ripngd_theorems.proofs.Healing.{daemon_follows, daemon_healed, daemon_up}
use Rattle.ripngd_theorems.proofs.Running.{IsSimulated, simulated_from_cold, there_is}

module _ (net : Network) (before : List Happened) (daemons : ℕ → Option Machine) (history : List Dated) (start end : ℕ) (daemons' : ℕ → Option Machine) (is_net : IsNetwork net)
    (noisy : IsNeverQuiet net) (ran : HaveRun net before daemons) (fits : FitsTablesSince (past_of_daemons net before)) (go : GoOn net before daemons history start end daemons')
    (on_time : AreOnTime net before daemons history start end) (late : start + 28 * 60_000 ≤ end) (all_go : AllGoOn net daemons') where
  lawful : IsNetwork (network_now (past_of_daemons net before))
  lawful =
      let s : IsSimulated net before daemons = simulated_from_cold net before daemons ran in
      subst (λ cs. IsNetwork (network_now (record { net = net; reconfigurations = cs }))) s.agrees.reconfigurations
      (now_lawful s.after.reconfigurations net (reached_from_cold net is_net s.moments s.events s.cold s.after s.is_cold s.run).lawful is_net)

  inside : (router : ℕ) (node : Node) → slice_get (network_now (past_of_daemons net before)) router ≡ Some node → router < length net
  inside router node is =
      subst (λ n. router < n) (now_alike (reconfigurations_by before) net).size (slice_get_within (network_now (past_of_daemons net before)) router node is)

  guide : (router : ℕ) (table : Forwarding) → forwardings_by net daemons' router ≡ Some table → IsGuide (network_now (past_of_daemons net before)) router table
  guide router table is = by_node (slice_get net router) refl is
    where
      by_daemon : router < length net → (o : Option Machine) → daemons' router ≡ o → option_map (λ (m : Machine). m.fib) o ≡ Some table → IsGuide (network_now (past_of_daemons net before)) router table
      by_daemon low None up e = absurd (None-Some table e)
      by_daemon low (Some m) up e =
          subst (IsGuide (network_now (past_of_daemons net before)) router)
          (sym (daemon_follows net before daemons history start end daemons' is_net noisy ran fits go on_time late router m low up (all_go router m low up)) ∙ Some-same m.fib table e)
          (guides (network_now (past_of_daemons net before)) router m.router.table
          (daemon_healed net before daemons history start end daemons' is_net noisy ran fits go on_time late router m low up))

      by_node : (o : Option Node) → slice_get net router ≡ o → option_and_then (λ (node : Node). option_map (λ (m : Machine). m.fib) (daemons' router)) o ≡ Some table
          → IsGuide (network_now (past_of_daemons net before)) router table
      by_node None at e = absurd (None-Some table e)
      by_node (Some node) at e = by_daemon (slice_get_within net router node at) (daemons' router) refl e

  everyone : (router : ℕ) (node : Node) → slice_get (network_now (past_of_daemons net before)) router ≡ Some node → (table : Forwarding) × (forwardings_by net daemons' router ≡ Some table)
  everyone router node is =
      let low = inside router node is in
      let m = daemon_up net before daemons history start end daemons' is_net noisy ran fits go on_time late router low in
      let there = there_is net router low in (
        m.0.fib,
        ap (option_and_then (λ (x : Node). option_map (λ (y : Machine). y.fib) (daemons' router))) there.1 ∙ ap (option_map (λ (y : Machine). y.fib)) m.1,
      )

  pub daemons_deliver : PacketsArriveBy (network_now (past_of_daemons net before)) (forwardings_by net daemons')
  daemons_deliver = delivers (network_now (past_of_daemons net before)) lawful (forwardings_by net daemons') guide everyone
