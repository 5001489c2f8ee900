-- Whatever happened before: after the rounds in which a network heals, packets arrive in it as it is now.
use Rattle.std.proofs.Common.{◌≡◌, ℕ, ◌≤◌, List, ◌++◌, length, All, Option, Some, None, option_map, slice_get, refl, ap, sym, subst, ◌∙◌}
use Rattle.route_table.proofs.TableLaws.{None-Some}
use Rattle.router_core.specs.Machine.{State}
use Rattle.ripng_world.specs.Asked.{Asked}
use Rattle.ripng_world.specs.Convergence.{IsNeverQuiet}
use Rattle.ripng_world.specs.Healing.{AreHealed, AreWithinGarbageTime, FitsTablesSince, network_now}
use Rattle.ripng_world.specs.Labs.{HasRun}
use Rattle.ripng_world.specs.Network.{Network, Node, IsNetwork}
use Rattle.ripng_world.specs.Packets.{AreThere, LetsArrive, PacketsArrive}
use Rattle.ripng_world.specs.Rounds.{Round, SynchronousRounds, events_of_rounds}
use Rattle.ripng_world.specs.World.{World, Event, WorldRun, IsCold, past_of}
use Rattle.ripng_world.proofs.AskedSynchronous.{as_many, made_synchronous}
use Rattle.ripng_world.proofs.Healed.{heals_after}
use Rattle.ripng_world.proofs.NetworkNow.{now_alike, now_lawful, passive_of}
use Rattle.ripng_world.proofs.PacketsHealed.{all_arrive}
use Rattle.ripng_world.proofs.ReachedRuns.{AreReached}
use Rattle.ripng_world.proofs.ReachedWorlds.{reached_from_cold}
use Rattle.ripng_world.proofs.RoundRuns.{rounds_run, run_on}

-- in any network that has run, where it has healed
pub arrive_in_run : (net : Network) → IsNetwork net → (moments : List ℕ) (events : List Event) (cold w : World) → IsCold net moments cold → WorldRun net cold events w
    → AreHealed (network_now (past_of net w)) w → PacketsArrive (network_now (past_of net w)) w
arrive_in_run net is_net moments events cold w is run healed = all_arrive (network_now (past_of net w)) w (now_lawful w.reconfigurations net reached.lawful is_net) there healed
  where
    reached : AreReached net w
    reached = reached_from_cold net is_net moments events cold w is run

    there : AreThere (network_now (past_of net w)) w
    there router node here = by_value (slice_get net router) refl (sym ((now_alike w.reconfigurations net).passive router) ∙ ap (option_map passive_of) here)
      where
        by_value : (o : Option Node) → slice_get net router ≡ o → option_map passive_of o ≡ Some (passive_of node) → (s : State) × (slice_get w.states router ≡ Some s)
        by_value None at e = absurd (None-Some (passive_of node) e)
        by_value (Some n) at e = reached.everyone router n at

pub arrive_after : (net : Network) (moments : List ℕ) (events : List Event) (rounds : List Round) (cold w end : World)
    → IsNetwork net → IsNeverQuiet net → IsCold net moments cold → WorldRun net cold events w → FitsTablesSince (past_of net w)
    → SynchronousRounds net w rounds end → AreWithinGarbageTime rounds → 26 ≤ length rounds → PacketsArrive (network_now (past_of net end)) end
arrive_after net moments events rounds cold w end is_net noisy is run fits then close many =
    arrive_in_run net is_net moments (events ++ events_of_rounds rounds) cold end is (run_on net events (events_of_rounds rounds) cold w end run (rounds_run net rounds w end then))
    (heals_after net moments events rounds cold w end is_net noisy is run fits then close many)

-- rounds of a lab, as they are asked for
pub arrive_asked : (net : Network) (asks : List Asked) (w w' : World) → HasRun net w → All (λ a. length a.ticks ≡ length net) asks → LetsArrive net w asks w'
arrive_asked net asks w w' ran all rounds noisy fits made close many =
    arrive_after net ran.moments ran.events rounds ran.cold w w' ran.lawful noisy ran.is_cold ran.run fits (made_synchronous net asks rounds w w' all made) close
    (subst (λ n. 26 ≤ n) (sym (as_many net asks rounds w w' made)) many)
