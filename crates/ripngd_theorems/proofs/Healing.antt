-- Networks of daemons heal: what they did on time is a paced history, which heals the model.
use Rattle.std.proofs.Common.{◌≡◌, ℕ, ◌+◌, ◌*◌, ◌<◌, ◌≤◌, Bool, true, false, cond, nat_lt, List, [], ◌++◌, length, Option, Some, None, option_and_then, refl, ap, sym, subst, ◌∙◌, append-nil, arith}
use Rattle.std.specs.FinMap as map_of
use Rattle.std.specs.List.{AllByRecursion}
use Rattle.std.proofs.lemmas.Bool.{lt-ltb, ltb-true}
use Rattle.prefix6.specs.Prefix.{Prefix6}
use Rattle.fib.specs.Forwarding.{Forward}
use Rattle.route_table.specs.Route.{RouteValue, infinity}
use Rattle.route_table.specs.Table.{Table}
use Rattle.route_table.proofs.TableLaws.{None-Some, Some-same, get-map_values}
use Rattle.router_core.specs.Changes.{forward, forwards, hop_of}
use Rattle.router_core.specs.Machine.{State}
use Rattle.ripng_world.specs.Convergence.{IsNeverQuiet}
use Rattle.ripng_world.specs.Healing.{AreHealed, FitsTablesSince, IsHealed, network_now}
use Rattle.ripng_world.specs.Network.{Network, IsNetwork, config_of}
use Rattle.ripng_world.specs.Walks.{IsLeast}
use Rattle.ripng_world.specs.World.{World, past_of}
use Rattle.ripng_phases.specs.Minutes.{untimed}
use Rattle.ripng_phases.specs.Phases.{reached}
use Rattle.ripng_phases.proofs.Settled.{takes_keep}
use Rattle.ripngd_engine.specs.Run.{Machine}
use Rattle.ripngd_theorems.specs.Daemons.{Happened, Lives, own_deeds, reconfigurations_by}
use Rattle.ripngd_theorems.specs.Links.{HaveRun, all_handed, past_of_daemons}
use Rattle.ripngd_theorems.specs.OnTime.{AreOnTime, Dated, ForwardsLeast, GoOn, HappenFrom, undated}
use Rattle.ripngd_theorems.proofs.Deeds.{IsStateOf}
use Rattle.ripngd_theorems.proofs.Following.{Follows, IfUp, life_follows}
use Rattle.ripngd_theorems.proofs.History.{moments, recent, set, ticks, up_then, updates}
use Rattle.ripngd_theorems.proofs.InOrder.{in_order}
use Rattle.ripngd_theorems.proofs.Paced.{IsPaced}
use Rattle.ripngd_theorems.proofs.PacedPhases.{heals_when_paced}
use Rattle.ripngd_theorems.proofs.Pairs.{ArePairs, IsPairing, Paired, all_timed, deeds_of, happen_on, history_of, point}
use Rattle.ripngd_theorems.proofs.Places.{pairs, takes}
use Rattle.ripngd_theorems.proofs.Running.{IsSimulated, agrees_end, simulated_from_cold, there_is}
use Rattle.ripngd_theorems.proofs.Starting.{all_set}
use Rattle.ripngd_theorems.proofs.Truth.{follows}

-- ---- a forwarding table of a healed table

module _ (net : Network) (router : ℕ) (table : Table) (healed : IsHealed net router table) where
  -- a route that forwards is not unreachable, and its metric is that of its entry
  forwarded : (r : RouteValue) (f : Forward) → forward r ≡ Some f → (r.metric < infinity) × (r.metric ≡ f.metric)
  forwarded r f is = by_test (nat_lt r.metric infinity) refl is
    where
      by_test : (b : Bool) → nat_lt r.metric infinity ≡ b → cond b (Some (record { hop = hop_of r.origin; metric = r.metric })) None ≡ Some f → (r.metric < infinity) × (r.metric ≡ f.metric)
      by_test true low is = (ltb-true r.metric infinity low, ap (λ (g : Forward). g.metric) (Some-same (record { hop = hop_of r.origin; metric = r.metric }) f is))
      by_test false high is = absurd (None-Some f is)

  pub forwards_least : ForwardsLeast net router (forwards table)
  forwards_least =
      record {
        least = λ p f at. by_route p f (map_of.get table p) refl (sym (get-map_values forward table p) ∙ at);
        found = λ p metric least low.
            let r = healed.found p metric least low in
            let below : r.0.metric < infinity = subst (λ n. n < infinity) (sym r.2) low in (
              record { hop = hop_of r.0.origin; metric = r.0.metric },
              get-map_values forward table p ∙ ap (option_and_then forward) r.1 ∙ ap (λ b. cond b (Some (record { hop = hop_of r.0.origin; metric = r.0.metric })) None) (lt-ltb r.0.metric infinity below),
              r.2,
            );
      }
    where
      by_route : (p : Prefix6) (f : Forward) (o : Option RouteValue) → map_of.get table p ≡ o → option_and_then forward o ≡ Some f → (f.metric < infinity) × IsLeast net router p f.metric
      by_route p f None none is = absurd (None-Some f is)
      by_route p f (Some r) here is =
          let x = forwarded r f is in
          (subst (λ n. n < infinity) x.1 x.0, subst (IsLeast net router p) x.1 (healed.least p r here x.0))

-- ---- daemons

module _ (net : Network) (before : List Happened) (daemons : ℕ → Option Machine) (history : List Dated) (start end : ℕ) (daemons' : ℕ → Option Machine) (is_net : IsNetwork net)
    (noisy : IsNeverQuiet net) (ran : HaveRun net before daemons) (fits : FitsTablesSince (past_of_daemons net before)) (go : GoOn net before daemons history start end daemons')
    (on_time : AreOnTime net before daemons history start end) (late : start + 28 * 60_000 ≤ end) where
  simulation : IsSimulated net before daemons
  simulation = simulated_from_cold net before daemons ran

  abbrev w : World
  w = simulation.after

  -- its deeds, with their steps
  abbrev pairing : IsPairing net simulation.cold.sent daemons' history daemons (all_handed before) (reconfigurations_by before) simulation.after
  pairing = pairs net before daemons history start end daemons' go simulation.cold.sent (reconfigurations_by before) simulation.after simulation.agrees

  abbrev all : List Paired
  all = pairing.pairs

  abbrev w' : World
  w' = reached simulation.after (untimed (history_of pairing.pairs))

  paced : IsPaced net simulation.after (history_of pairing.pairs) start end
      (reached simulation.after (untimed (history_of pairing.pairs)))
  paced =
      record {
        takes = takes net before daemons history start end daemons' go simulation.cold.sent (reconfigurations_by before) simulation.after simulation.agrees;
        in_time = happen_on all start start (same start) (subst (HappenFrom start) (sym pairing.dated_are) go.in_time);
        ended = all_timed (λ n. n < end) all (subst (AllByRecursion (λ (t : Dated). t.at < end)) (sym pairing.dated_are) go.ended);
        behind = λ router. (go.clocks router).behind;
        moments = moments net before daemons history start end daemons' go simulation.cold.sent (reconfigurations_by before) simulation.after simulation.agrees;
        set = set net before daemons history start end daemons' go simulation.cold.sent (reconfigurations_by before) simulation.after simulation.agrees (short start end late) (all_set net before daemons ran);
        ticks = ticks net before daemons history start end daemons' go simulation.cold.sent (reconfigurations_by before) simulation.after simulation.agrees;
        updates = updates net before daemons history start end daemons' go simulation.cold.sent (reconfigurations_by before) simulation.after simulation.agrees on_time;
        recent = recent net before daemons history start end daemons' go simulation.cold.sent (reconfigurations_by before) simulation.after simulation.agrees on_time;
        in_order = in_order net before daemons history start end daemons' go simulation.cold.sent (reconfigurations_by before) simulation.after simulation.agrees on_time;
      }
    where
      same : (n : ℕ) → n ≤ n
      same n = omega arith

      short : (s e : ℕ) → s + 28 * 60_000 ≤ e → s + 500 ≤ e
      short s e f = omega arith

  -- all that was in force since the first starts
  past_is : past_of net simulation.after ≡ past_of_daemons net before
  past_is = ap (λ cs. record { net = net; reconfigurations = cs }) simulation.agrees.reconfigurations

  past_then : past_of net w' ≡ past_of_daemons net before
  past_then = ap (λ cs. record { net = net; reconfigurations = cs }) (takes_keep net (untimed (history_of all)) simulation.after w' paced.takes ∙ simulation.agrees.reconfigurations)

  world_healed : AreHealed (network_now (past_of_daemons net before)) w'
  world_healed =
      subst (λ past. AreHealed (network_now past) w') past_then
      (heals_when_paced net simulation.moments simulation.events (history_of all) start end simulation.cold simulation.after w' is_net noisy simulation.is_cold simulation.run
      (subst FitsTablesSince (sym past_is) fits) paced late)

  -- each daemon is up
  pub daemon_up : (router : ℕ) → router < length net → (m : Machine) × (daemons' router ≡ Some m)
  daemon_up = up_then net before daemons history start end daemons' go simulation.cold.sent (reconfigurations_by before) simulation.after simulation.agrees (short start end late)
    where
      short : (s e : ℕ) → s + 28 * 60_000 ≤ e → s + 500 ≤ e
      short s e f = omega arith

  -- each daemon is as its router in the world
  pub daemon_healed : (router : ℕ) (m : Machine) → router < length net → daemons' router ≡ Some m → IsHealed (network_now (past_of_daemons net before)) router m.router.table
  daemon_healed router m low up =
      let x = point net simulation.cold.sent daemons' all [] daemons (all_handed before) (reconfigurations_by before) simulation.after
      (subst (ArePairs net simulation.cold.sent daemons' daemons (all_handed before) (reconfigurations_by before) simulation.after) (sym (append-nil all))
      pairing.are) in
      let agrees = agrees_end net simulation.cold.sent x.now daemons' (all_handed before ++ all_handed (deeds_of all)) x.changed w' x.are.0 x.are.1 in
      let node = there_is net router low in
      let h = agrees.states router node.0 node.1 in
      let same : h.state ≡ m.router = subst (λ o. IsStateOf o h.state) up h.agrees in
      subst (λ (s : State). IsHealed (network_now (past_of_daemons net before)) router s.table) same (world_healed router h.state h.state_is)

  -- and forwards by its table, unless it has ended
  pub daemon_follows : (router : ℕ) (m : Machine) → router < length net → daemons' router ≡ Some m → m.ended ≡ false → m.fib ≡ forwards m.router.table
  daemon_follows router m low up going = life going
    where
      first : (o : Option Machine) → daemons router ≡ o → IfUp o
      first None is = tt
      first (Some n) is = follows net before daemons ran router n low is

      life : Follows m
      life =
          let node = there_is net router low in
          life_follows (config_of node.0) (daemons router) (own_deeds router (undated history)) m (first (daemons router) refl)
          (subst (λ o. Lives (config_of node.0) (daemons router) (own_deeds router (undated history)) o) up (go.lives router node.0 node.1))

  pub daemon_forwards : (router : ℕ) (m : Machine) → router < length net → daemons' router ≡ Some m → m.ended ≡ false → ForwardsLeast (network_now (past_of_daemons net before)) router m.fib
  daemon_forwards router m low up going =
      subst (ForwardsLeast (network_now (past_of_daemons net before)) router) (sym (daemon_follows router m low up going)) (forwards_least (network_now (past_of_daemons net before)) router m.router.table (daemon_healed router m low up))
