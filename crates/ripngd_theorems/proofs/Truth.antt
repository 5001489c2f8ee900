-- What daemons hold and tell is true, since what they did is a run of their network.
use Rattle.std.proofs.Common.{◌≡◌, ℕ, ◌<◌, ◌≤◌, List, [], Option, Some, None, Bool, true, false, cond, nat_lt, length, option_and_then, refl, ap, sym, subst, ◌∙◌}
use Rattle.std.specs.Prelude.{Contains}
use Rattle.std.specs.FinMap as map_of
use Rattle.std.proofs.lemmas.Bool.{ltb-true}
use Rattle.prefix6.specs.Prefix.{Prefix6}
use Rattle.fib.specs.Forwarding.{Forward}
use Rattle.route_table.specs.Route.{RouteValue, infinity}
use Rattle.route_table.proofs.TableLaws.{None-Some, get-map_values}
use Rattle.router_core.specs.Changes.{forward, forwards, hop_of}
use Rattle.ripng_world.specs.declared.event.Sent.{Sent}
use Rattle.ripng_world.specs.Network.{Network, OwnsPrefixes, config_of}
use Rattle.ripng_world.specs.Past.{IsBackedSince, IsLeastSince}
use Rattle.ripng_world.specs.TruthSince.{IsSoundDatagramSince}
use Rattle.ripng_world.specs.Walks.{IsBacked, IsLeast}
use Rattle.ripng_world.specs.World.{past_of}
use Rattle.ripng_world.proofs.Each.{each_at_place}
use Rattle.ripng_world.proofs.Growing.{backed_first}
use Rattle.ripng_world.proofs.WorldRuns.{run_from_cold}
use Rattle.ripngd_engine.specs.Run.{Machine}
use Rattle.ripngd_theorems.specs.Daemons.{Happened, Lives, reconfigurations_by, own_deeds}
use Rattle.ripngd_theorems.specs.Links.{HaveRun, IsRunOf, all_handed, past_of_daemons}
use Rattle.ripngd_theorems.proofs.Following.{life_follows}
use Rattle.ripngd_theorems.proofs.Running.{run_of, there_is}

module _ (net : Network) (order : List Happened) (daemons : ℕ → Option Machine) where
  pub follows : HaveRun net order daemons → (router : ℕ) (m : Machine) → router < length net → daemons router ≡ Some m → m.ended ≡ false → m.fib ≡ forwards m.router.table
  follows ran router m low up =
      let node = there_is net router low in
      let life = ran.lives router node.0 node.1 in
      life_follows (config_of node.0) None (own_deeds router order) m tt (subst (λ o. Lives (config_of node.0) None (own_deeds router order) o) up life)

  module _ (owns : OwnsPrefixes net) (ran : HaveRun net order daemons) where
    run : IsRunOf net order daemons
    run = run_of net order daemons ran

    -- all that was in force since the first starts
    same : past_of net run.after ≡ past_of_daemons net order
    same = ap (λ cs. record { net = net; reconfigurations = cs }) run.reconfigurations

    pub route_backed : (router : ℕ) (m : Machine) (p : Prefix6) (r : RouteValue) → router < length net → daemons router ≡ Some m
        → map_of.get m.router.table p ≡ Some r → r.metric < infinity → IsBackedSince (past_of_daemons net order) router p r
    route_backed router m p r low up at below =
        subst (λ past. IsBackedSince past router p r) same
        ((((run_from_cold net owns run.moments run.events run.cold run.after run.is_cold run.run).states_good router m.router (run.states router m low up)).sound p r at).backed below)

    pub route_least : (router : ℕ) (m : Machine) (p : Prefix6) (r : RouteValue) (metric : ℕ) → router < length net → daemons router ≡ Some m
        → map_of.get m.router.table p ≡ Some r → r.metric < infinity → IsLeastSince (past_of_daemons net order) router p metric → metric ≤ r.metric
    route_least router m p r metric low up at below least = let b = route_backed router m p r low up at below in least.least r.metric r.tag b.0 b.1

    pub route_backed_fixed : reconfigurations_by order ≡ [] → (router : ℕ) (m : Machine) (p : Prefix6) (r : RouteValue) → router < length net → daemons router ≡ Some m
        → map_of.get m.router.table p ≡ Some r → r.metric < infinity → IsBacked net router p r
    route_backed_fixed unchanged router m p r low up at below = backed_first (past_of_daemons net order) unchanged router p r (route_backed router m p r low up at below)

    pub route_least_fixed : reconfigurations_by order ≡ [] → (router : ℕ) (m : Machine) (p : Prefix6) (r : RouteValue) (metric : ℕ) → router < length net → daemons router ≡ Some m
        → map_of.get m.router.table p ≡ Some r → r.metric < infinity → IsLeast net router p metric → metric ≤ r.metric
    route_least_fixed unchanged router m p r metric low up at below least =
        let b = route_backed_fixed unchanged router m p r low up at below in least.least r.metric r.tag b.0 b.1

    -- a route that forwards is not unreachable
    usable : (r : RouteValue) (f : Forward) → forward r ≡ Some f → r.metric < infinity
    usable r f is = by_test (nat_lt r.metric infinity) refl is
      where
        by_test : (b : Bool) → nat_lt r.metric infinity ≡ b → cond b (Some (record { hop = hop_of r.origin; metric = r.metric })) None ≡ Some f → r.metric < infinity
        by_test true low is = ltb-true r.metric infinity low
        by_test false high is = absurd (None-Some f is)

    pub entry_backed : (router : ℕ) (m : Machine) (p : Prefix6) (f : Forward) → router < length net → daemons router ≡ Some m → m.ended ≡ false
        → map_of.get m.fib p ≡ Some f → (r : RouteValue) × (map_of.get m.router.table p ≡ Some r) × (forward r ≡ Some f) × IsBackedSince (past_of_daemons net order) router p r
    entry_backed router m p f low up going at =
        by_route (map_of.get m.router.table p) refl
        (sym (get-map_values forward m.router.table p) ∙ sym (ap (λ t. map_of.get t p) (follows ran router m low up going)) ∙ at)
      where
        by_route : (o : Option RouteValue) → map_of.get m.router.table p ≡ o → option_and_then forward o ≡ Some f
            → (r : RouteValue) × (map_of.get m.router.table p ≡ Some r) × (forward r ≡ Some f) × IsBackedSince (past_of_daemons net order) router p r
        by_route None none is = absurd (None-Some f is)
        by_route (Some r) here is = (r, here, is, route_backed router m p r low up here (usable r f is))

    pub told_true : (d : Sent) → Contains (all_handed order) d → IsSoundDatagramSince (past_of_daemons net order) d.router d.bytes
    told_true d there =
        let at = run.sent d there in
        subst (λ past. IsSoundDatagramSince past d.router d.bytes) same
        (each_at_place (λ s. IsSoundDatagramSince (past_of net run.after) s.router s.bytes) run.after.sent
        (run_from_cold net owns run.moments run.events run.cold run.after run.is_cold run.run).sent_true at.0 d at.1)
