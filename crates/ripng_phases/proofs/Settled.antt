-- The worlds of phases: costs and owners stay, and all states are such as were ever reached.
use Rattle.std.proofs.Common.{◌≡◌, inl, inr, ℕ, List, [], ◌∷◌, ◌++◌, length, Some, slice_get, refl, ap, subst, ◌∙◌, append-nil, IsTrue}
use Rattle.prefix6.specs.Prefix.{Prefix6, IsPrefix, is_routable}
use Rattle.router_core.specs.Machine.{State}
use Rattle.router_core.specs.declared.answer.Answer.{Answer}
use Rattle.router_core.specs.declared.reconfiguring.Change.{Change}
use Rattle.ripng_world.specs.Healing.{FitsTablesSince, network_now}
use Rattle.ripng_world.specs.Network.{Network, IsNetwork}
use Rattle.ripng_world.specs.World.{World, Event, Deliver, Stranger, Tick, Restart, Shutdown, LinkDown, LinkUp, Reconfigure, Happens, WorldRun, IsCold, past_of}
use Rattle.ripng_world.proofs.Each.{each_at_place}
use Rattle.ripng_world.proofs.HealHearing.{AreFew}
use Rattle.ripng_world.proofs.NetworkNow.{IsLawfulChange, now_alike, taken_alike}
use Rattle.ripng_world.proofs.Reached.{IsKnown}
use Rattle.ripng_world.proofs.ReachedRuns.{AreReached, IsReachedState}
use Rattle.ripng_world.proofs.ReachedWorlds.{reached_on, reached_from_cold}
use Rattle.ripng_world.proofs.WorldRuns.{IsGood, ran, run_from_cold}
use Rattle.ripng_phases.specs.Phases.{Step, IsOrdinary, Takes, events_of, reached}
use Rattle.ripng_phases.proofs.Runs.{takes_run, takes_first}

-- no ordinary event changes a cost or an owner
event_keeps : (net : Network) (w w' : World) (e : Event) (answer : Answer) → IsOrdinary e → Happens net w e answer w' → w'.reconfigurations ≡ w.reconfigurations
event_keeps net w w' (Deliver datagram router iface now) answer plain d = d.moves.reconfigurations ∙ append-nil w.reconfigurations
event_keeps net w w' (Stranger router x) answer plain i = i.moves.reconfigurations ∙ append-nil w.reconfigurations
event_keeps net w w' (Tick router now word) answer plain m = m.reconfigurations ∙ append-nil w.reconfigurations
event_keeps net w w' (Restart router now) answer plain m = absurd plain
event_keeps net w w' (Shutdown router now) answer plain m = absurd plain
event_keeps net w w' (LinkDown router now on) answer plain m = absurd plain
event_keeps net w w' (LinkUp router now on) answer plain m = m.reconfigurations ∙ append-nil w.reconfigurations
event_keeps net w w' (Reconfigure router now c) answer plain m = absurd plain

pub takes_keep : (net : Network) (steps : List Step) (w w' : World) → Takes net w steps w' → w'.reconfigurations ≡ w.reconfigurations
takes_keep net [] w w' is = ap (λ (v : World). v.reconfigurations) is
takes_keep net (s ∷ steps) w w' is = takes_keep net steps s.after w' is.3 ∙ event_keeps net w s.after s.event s.answer is.0 is.1

module _ (net : Network) (is_net : IsNetwork net) (reconfigurations : List (ℕ × Change)) where
  pub record IsSettled (w : World) : Type 0 where
    pub good : IsGood net is_net.owns_prefixes w
    pub all : AreReached net w
    pub changed : w.reconfigurations ≡ reconfigurations

  pub state_at : (w : World) → IsSettled w → (router : ℕ) (s : State) → slice_get w.states router ≡ Some s → IsReachedState net reconfigurations router s
  state_at w is router s at = subst (λ cs. IsReachedState net cs router s) is.changed (is.all.states router s at)

  -- so is every world on the way
  pub settled_on : (steps : List Step) (w w' : World) → Takes net w steps w' → IsSettled w → IsSettled w'
  settled_on steps w w' takes is =
      let run = takes_run net steps w w' takes in
      record {
        good = ran net is_net.owns_prefixes (events_of steps) w w' run is.good;
        all = reached_on net is_net (events_of steps) w w' run is.good is.all;
        changed = takes_keep net steps w w' takes ∙ is.changed;
      }

  pub settled_at : (steps before after : List Step) (w w' : World) → Takes net w steps w' → IsSettled w → steps ≡ before ++ after → IsSettled (reached w before)
  settled_at steps before after w w' takes is parts =
      settled_on before w (reached w before) (takes_first net before after w w' (subst (λ (xs : List Step). Takes net w xs w') parts takes)) is

pub settled_from_cold : (net : Network) (is_net : IsNetwork net) (moments : List ℕ) (events : List Event) (cold w : World) → IsCold net moments cold → WorldRun net cold events w → IsSettled net is_net w.reconfigurations w
settled_from_cold net is_net moments events cold w is run =
    record { good = run_from_cold net is_net.owns_prefixes moments events cold w is run; all = reached_from_cold net is_net moments events cold w is run; changed = refl }

-- the prefixes that are or were owned are few, and no filter or limit keeps one out
pub few_of : (net : Network) (is_net : IsNetwork net) (w : World) → AreReached net w → FitsTablesSince (past_of net w) → AreFew (network_now (past_of net w)) (IsKnown (past_of net w))
few_of net is_net w all fits =
    record {
      owned = fits.0;
      few = fits.1;
      all = λ p k. fits.2 k.0 p k.1 k.2;
      prefixes = λ p k. (lawful p k).0;
      routable = λ p k. (lawful p k).1;
      taken = taken_alike net (network_now (past_of net w)) (now_alike w.reconfigurations net) (IsKnown (past_of net w)) (length fits.0) fits.3;
    }
  where
    lawful : (p : Prefix6) → IsKnown (past_of net w) p → IsPrefix p × IsTrue (is_routable p)
    lawful p k = elim k.2 [
      | inl owns ↦ (is_net.owns_prefixes k.0 p k.1 owns, is_net.usable.routable k.0 p k.1 owns)
      | inr done ↦ each_at_place (λ (t : ℕ × Change). IsLawfulChange t.1) w.reconfigurations all.lawful done.0 _ done.1
    ]
