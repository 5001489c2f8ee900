-- Phases of a network are phases of it as it is now, and heal it.
use Rattle.std.proofs.Common.{◌≡◌, ℕ, ◌+◌, ◌≤◌, List, [], ◌∷◌, ◌++◌, length, Option, Some, None, option_map, unwrap_or, slice_get, refl, ap, sym, subst, ◌∙◌, IsFalse, arith, length-append}
use Rattle.route_table.specs.Route.{infinity}
use Rattle.route_table.proofs.TableLaws.{Some-same, None-Some}
use Rattle.router_core.specs.Announcing.{is_passive}
use Rattle.router_core.specs.declared.reconfiguring.Change.{Change}
use Rattle.ripng_world.specs.Convergence.{IsNeverQuiet}
use Rattle.ripng_world.specs.Healing.{AreHealed, FitsTablesSince, network_now}
use Rattle.ripng_world.specs.Network.{Network, Node, IsNetwork, config_of}
use Rattle.ripng_world.specs.Packets.{PacketsArrive}
use Rattle.ripng_world.specs.World.{World, Event, IsCold, WorldRun, past_of}
use Rattle.ripng_world.specs.declared.network.NetInterface.{NetInterface}
use Rattle.ripng_world.proofs.HealHearing.{AreFew}
use Rattle.ripng_world.proofs.Healed.{to_gateways}
use Rattle.ripng_world.proofs.NetworkNow.{AreAlike, now_alike, now_lawful, passive_alike, passive_of}
use Rattle.ripng_world.proofs.PacketsAfter.{arrive_in_run}
use Rattle.ripng_world.proofs.Reached.{IsKnown}
use Rattle.ripng_phases.specs.Phases.{Step, IsBegun, Before, BegunAfter, Begun, Phases, before_next, steps_of, events_of, reached}
use Rattle.ripng_phases.proofs.Alike.{phase_alike, takes_alike}
use Rattle.ripng_phases.proofs.Begun.{begun_of, begun_take, moment_in}
use Rattle.ripng_phases.proofs.Lower.{IsPositive}
use Rattle.ripng_phases.proofs.Orderly.{all_orderly}
use Rattle.ripng_phases.proofs.Runs.{run_on, takes_run}
use Rattle.ripng_phases.proofs.Settled.{IsSettled, settled_on, settled_from_cold, few_of, takes_keep}
use Rattle.ripng_phases.proofs.Always.{heals_always}
use Rattle.ripng_phases.proofs.Stages.{CalmBegun}
use Rattle.ripng_phases.proofs.Updating.{IsCalmPart}

noisy_alike : (net other : Network) → AreAlike net other → IsNeverQuiet net → IsNeverQuiet other
noisy_alike net other same noisy router iface node is = by_value (slice_get net router) refl (sym (ap (option_map passive_of) is) ∙ same.passive router)
  where
    by_value : (o : Option Node) → slice_get net router ≡ o → Some (passive_of node) ≡ option_map passive_of o → IsFalse (is_passive (config_of node) iface)
    by_value None at e = absurd (None-Some (passive_of node) (sym e))
    by_value (Some n) at e = passive_alike iface n node (sym (Some-same (passive_of node) (passive_of n) e)) (noisy router iface n at)

positive_of : (net : Network) → IsNetwork net → IsPositive net
positive_of net is_net router iface here is =
    subst (λ (o : Option NetInterface). 1 ≤ unwrap_or (option_map (λ i. i.interface.cost) o) infinity) (sym is) (is_net.usable.costs router iface here is).0

module _ (net : Network) (is_net : IsNetwork net) (noisy : IsNeverQuiet net) (reconfigurations : List (ℕ × Change)) (fits : AreFew (network_now (record { net = net; reconfigurations = reconfigurations })) (IsKnown (record { net = net; reconfigurations = reconfigurations }))) where
  abbrev now : Network
  now = network_now (record { net = net; reconfigurations = reconfigurations })

  calm_part : IsNetwork (network_now (record { net = net; reconfigurations = reconfigurations })) → (past : Before) (w : World) (steps : List Step) (w' : World) → IsSettled net is_net reconfigurations w → IsBegun net past w steps w'
      → IsCalmPart (network_now (record { net = net; reconfigurations = reconfigurations })) (IsKnown (record { net = net; reconfigurations = reconfigurations })) past w steps w'
  calm_part lawful past w steps w' settled is =
      record {
        usable = lawful.usable;
        noisy = noisy_alike net now (now_alike reconfigurations net) noisy;
        distinct = lawful.distinct;
        fits = fits;
        begun = record { takes = takes_alike net now (now_alike reconfigurations net) steps w w' is.takes; recent = is.recent; close = is.close };
        orderly = all_orderly net is_net reconfigurations steps w w' is.takes settled;
      }

  calm_begun : IsNetwork (network_now (record { net = net; reconfigurations = reconfigurations })) → (phases : List (List Step)) (since : List Step) (past : Before) (w end : World) → IsSettled net is_net reconfigurations w → BegunAfter net past w phases since end
      → CalmBegun (network_now (record { net = net; reconfigurations = reconfigurations })) (IsKnown (record { net = net; reconfigurations = reconfigurations })) past w phases since end
  calm_begun lawful [] since past w end settled is = calm_part lawful past w since end settled is
  calm_begun lawful (steps ∷ phases) since past w end settled is = (
    is.0,
    record { part = calm_part lawful past w steps is.0 settled (begun_of net past w steps is.0 is.1); phase = phase_alike net now (now_alike reconfigurations net) past w is.0 steps is.1 },
    calm_begun lawful phases since (before_next w steps) is.0 end (settled_on net is_net reconfigurations steps w is.0 is.1.takes settled) is.2,
  )

-- the run until now
pub run_through : (net : Network) (events : List Event) (phases : List (List Step)) (since : List Step) (cold w end : World) → WorldRun net cold events w → Begun net w phases since end
    → WorldRun net cold (events ++ events_of (steps_of phases ++ since)) end
run_through net events phases since cold w end run begun =
    run_on net events (events_of (steps_of phases ++ since)) cold w end run (takes_run net (steps_of phases ++ since) w end (begun_take net phases since _ w end begun))

-- after so many phases, whatever has happened since
pub heals_in_phases : (net : Network) (moments : List ℕ) (events : List Event) (phases : List (List Step)) (since : List Step) (cold w end : World)
    → IsNetwork net → IsNeverQuiet net → IsCold net moments cold → WorldRun net cold events w → FitsTablesSince (past_of net w)
    → Begun net w phases since end → 28 ≤ length phases → AreHealed (network_now (past_of net end)) end
heals_in_phases net moments events phases since cold w end is_net noisy is run fits begun many =
    subst (λ cs. AreHealed (network_now (record { net = net; reconfigurations = cs })) end) (sym (takes_keep net (steps_of phases ++ since) w end (begun_take net phases since _ w end begun)))
    (heals_always now (IsKnown (past_of net w)) (positive_of now lawful) phases since _ w end many
    (calm_begun net is_net noisy w.reconfigurations (few_of net is_net w settled.all fits) lawful phases since _ w end settled begun)
    (to_gateways net is_net moments (events ++ events_of (steps_of phases ++ since)) cold end is (run_through net events phases since cold w end run begun)))
  where
    now : Network
    now = network_now (past_of net w)

    settled : IsSettled net is_net w.reconfigurations w
    settled = settled_from_cold net is_net moments events cold w is run

    lawful : IsNetwork (network_now (past_of net w))
    lawful = now_lawful w.reconfigurations net settled.all.lawful is_net

-- and packets arrive
pub arrive_in_phases : (net : Network) (moments : List ℕ) (events : List Event) (phases : List (List Step)) (since : List Step) (cold w end : World)
    → IsNetwork net → IsNeverQuiet net → IsCold net moments cold → WorldRun net cold events w → FitsTablesSince (past_of net w)
    → Begun net w phases since end → 28 ≤ length phases → PacketsArrive (network_now (past_of net end)) end
arrive_in_phases net moments events phases since cold w end is_net noisy is run fits begun many =
    arrive_in_run net is_net moments (events ++ events_of (steps_of phases ++ since)) cold end is (run_through net events phases since cold w end run begun)
    (heals_in_phases net moments events phases since cold w end is_net noisy is run fits begun many)

-- at every moment of further phases
pub heals_then : (net : Network) (moments : List ℕ) (events : List Event) (phases later : List (List Step)) (before after : List Step) (cold w end : World)
    → IsNetwork net → IsNeverQuiet net → IsCold net moments cold → WorldRun net cold events w → FitsTablesSince (past_of net w)
    → Phases net w (phases ++ later) end → 28 ≤ length phases → steps_of later ≡ before ++ after
    → AreHealed (network_now (past_of net (reached w (steps_of phases ++ before)))) (reached w (steps_of phases ++ before))
heals_then net moments events phases later before after cold w end is_net noisy is run fits is_phases many parts =
    let x = moment_in net phases later _ w end is_phases before after parts in
    heals_in_phases net moments events (phases ++ x.more) x.since cold w (reached w (steps_of phases ++ before)) is_net noisy is run fits x.begun
    (enough (length phases) (length x.more) (length (phases ++ x.more)) (length-append phases x.more) many)
  where
    enough : (a b c : ℕ) → c ≡ a + b → 28 ≤ a → 28 ≤ c
    enough a b c e f = omega arith
