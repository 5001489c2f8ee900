-- Networks of daemons run as networks do: their deeds, one after another, are a run of the world.
use Rattle.std.proofs.Common.{◌≡◌, inl, inr, ◌⊎◌, ℕ, zero, suc, ◌<◌, ◌==◌, Bool, true, false, cond, List, [], ◌∷◌, ◌++◌, length, Option, Some, None, slice_get, refl, ap, sym, subst, ◌∙◌, append-nil, append_assoc, arith}
use Rattle.std.specs.List.{AllByRecursion, cons_option}
use Rattle.std.proofs.lemmas.Bool.{eq-eqb, eqb-true}
use Rattle.route_table.proofs.TableLaws.{Some-same}
use Rattle.router_core.specs.Config.{Config}
use Rattle.router_core.specs.Machine.{State}
use Rattle.router_core.specs.declared.reconfiguring.Change.{Change}
use Rattle.ripng_world.specs.declared.event.Sent.{Sent}
use Rattle.ripng_world.specs.Network.{Network, Node, config_of}
use Rattle.ripng_world.specs.World.{World, Event, WorldRun, IsCold}
use Rattle.ripng_world.proofs.ColdStates.{cold_states}
use Rattle.ripng_world.proofs.Members.{At, at_right, at_from_contains}
use Rattle.ripng_phases.specs.Phases as phases
use Rattle.ripngd_engine.specs.Link.{Gave, Silent, RecvFailed, Handed}
use Rattle.ripngd_engine.specs.Run.{Machine}
use Rattle.ripngd_theorems.specs.Daemons.{Act, Start, Listen, Tick, Reconfigure, Shutdown, LinkDown, LinkUp, Ask, Refuse, Deed, Happened, Does, Lives, reconfiguration_by, reconfigurations_by, own_deeds}
use Rattle.ripngd_theorems.specs.Links.{handed_by, IsOfTheLink, IsOfAStranger, IsGiven, AreGiven, HaveRun, IsRunOf, LiveOn, all_handed}
use Rattle.ripngd_theorems.specs.OnTime.{IsNumbered}
use Rattle.ripngd_theorems.proofs.Addresses.{addresses_of}
use Rattle.ripngd_theorems.proofs.ColdWorlds.{cold_world}
use Rattle.ripngd_theorems.proofs.Deeds.{Agrees, HasState, IsStateOf, IsStepOf, change_done, done_on, with_daemon, world_after}

pub there_is : {X : Type 0} (xs : List X) (i : ℕ) → i < length xs → (x : X) × (slice_get xs i ≡ Some x)
there_is [] i low = absurd (omega (arith, low))
there_is (x ∷ xs) zero low = (x, refl)
there_is (x ∷ xs) (suc i) low = there_is xs i (omega (arith, low))

-- the first deed is its router's first
pub own_first : (h : Happened) (order : List Happened) → own_deeds h.router (h ∷ order) ≡ h.deed ∷ own_deeds h.router order
own_first h order = ap (λ b. cons_option (cond b (Some h.deed) None) (own_deeds h.router order)) (eq-eqb h.router h.router refl)

pub lives_later : (net : Network) (h : Happened) (order : List Happened) (daemons ends : ℕ → Option Machine) (node : Node) → slice_get net h.router ≡ Some node
    → LiveOn net (h ∷ order) daemons ends
    → (n : Machine) × Does (config_of node) (daemons h.router) h.deed.act h.deed.trace n × LiveOn net order (with_daemon daemons h.router n) ends
lives_later net h order daemons ends node is lives =
    let first : Lives (config_of node) (daemons h.router) (h.deed ∷ own_deeds h.router order) (ends h.router) =
    subst (λ ds. Lives (config_of node) (daemons h.router) ds (ends h.router)) (own_first h order) (lives h.router node is) in
    (first.0, first.1, λ router other other_is. by_test first.0 first.2 router other other_is (h.router == router) refl (lives router other other_is))
  where
    by_test : (n : Machine) → Lives (config_of node) (Some n) (own_deeds h.router order) (ends h.router)
        → (router : ℕ) (other : Node) → slice_get net router ≡ Some other → (b : Bool) → (h.router == router) ≡ b
        → Lives (config_of other) (daemons router) (cons_option (cond b (Some h.deed) None) (own_deeds router order)) (ends router)
        → Lives (config_of other) (cond b (Some n) (daemons router)) (own_deeds router order) (ends router)
    by_test n rest router other other_is false differ life = life
    by_test n rest router other other_is true same life =
        let e : h.router ≡ router = eqb-true h.router router same in
        let nodes : node ≡ other = Some-same node other (sym is ∙ ap (slice_get net) e ∙ other_is) in
        subst (λ r. Lives (config_of other) (Some n) (own_deeds r order) (ends r)) e (subst (λ x. Lives (config_of x) (Some n) (own_deeds h.router order) (ends h.router)) nodes rest)

run_append : (net : Network) (events later : List Event) (w mid end : World) → WorldRun net w events mid → WorldRun net mid later end → WorldRun net w (events ++ later) end
run_append net [] later w mid end first rest = subst (λ x. WorldRun net x later end) first rest
run_append net (e ∷ events) later w mid end first rest = (first.0, first.1, first.2, run_append net events later first.0 mid end first.3 rest)

-- the events of a step, or none
abbrev step_events : Option phases.Step → List Event
step_events None = []
step_events (Some s) = s.event ∷ []

step_run : (net : Network) (w : World) (count router : ℕ) (daemon : Option Machine) (deed : Deed) (number : Option ℕ) (n : Machine) (o : Option phases.Step)
    → IsStepOf net w count router daemon deed number n o → WorldRun net w (step_events o) (world_after w o)
step_run net w count router daemon deed number n None is = refl
step_run net w count router daemon deed number n (Some s) is = (s.after, s.answer, is.0, refl)

-- what a link gave has a number, or is a stranger's
numbered : (net : Network) (handed_over : List Sent) (router : ℕ) (config : Config) (act : Act) → IsGiven net handed_over router config act
    → (number : Option ℕ) × IsNumbered net handed_over router config act number
numbered net handed_over router config (Listen (Gave d)) given = by given
  where
    by : IsOfTheLink net handed_over router d ⊎ IsOfAStranger config d → (number : Option ℕ) × IsNumbered net handed_over router config (Listen (Gave d)) number
    by (inl o) = let at = at_from_contains handed_over o.sent o.before in (Some at.0, (o.sent, at.1, o.copy))
    by (inr s) = (None, s)
numbered net handed_over router config (Listen Silent) given = (None, tt)
numbered net handed_over router config (Listen RecvFailed) given = (None, tt)
numbered net handed_over router config (Listen (Handed o went)) given = (None, tt)
numbered net handed_over router config Start given = (None, tt)
numbered net handed_over router config Tick given = (None, tt)
numbered net handed_over router config (Reconfigure c) given = (None, tt)
numbered net handed_over router config Shutdown given = (None, tt)
numbered net handed_over router config (LinkDown on) given = (None, tt)
numbered net handed_over router config (LinkUp on) given = (None, tt)
numbered net handed_over router config (Ask on) given = (None, tt)
numbered net handed_over router config Refuse given = (None, tt)

-- so the world goes on with deeds
record GoesOn (net : Network) (first : List Sent) (w : World) (daemons : ℕ → Option Machine) (handed_over : List Sent) (done : List (ℕ × Change)) : Type 0 where
  pub events : List Event
  pub after : World
  pub run : WorldRun net w events after
  pub agrees : Agrees net first daemons handed_over done after

joined_option : {X : Type 0} (o : Option X) (xs : List X) → cons_option o [] ++ xs ≡ cons_option o xs
joined_option None xs = refl
joined_option (Some x) xs = refl

-- what was handed over and changed by the first of deeds and the others
pub agrees_on : (net : Network) (first : List Sent) (ends : ℕ → Option Machine) (handed_over : List Sent) (done : List (ℕ × Change)) (h : Happened) (order : List Happened) (w : World)
    → Agrees net first ends ((handed_over ++ handed_by h) ++ all_handed order) ((done ++ change_done h.router h.deed) ++ reconfigurations_by order) w
    → Agrees net first ends (handed_over ++ all_handed (h ∷ order)) (done ++ reconfigurations_by (h ∷ order)) w
agrees_on net first ends handed_over done h order w agrees =
    subst (λ cs. Agrees net first ends (handed_over ++ all_handed (h ∷ order)) cs w)
    (append_assoc done (change_done h.router h.deed) (reconfigurations_by order) ∙ ap (λ cs. done ++ cs) (joined_option (reconfiguration_by h) (reconfigurations_by order)))
    (subst (λ hs. Agrees net first ends hs ((done ++ change_done h.router h.deed) ++ reconfigurations_by order) w) (append_assoc handed_over (handed_by h) (all_handed order)) agrees)

-- after no deed
pub agrees_end : (net : Network) (first : List Sent) (daemons ends : ℕ → Option Machine) (handed_over : List Sent) (done : List (ℕ × Change)) (w : World)
    → Agrees net first daemons handed_over done w → LiveOn net [] daemons ends → Agrees net first ends (handed_over ++ []) (done ++ []) w
agrees_end net first daemons ends handed_over done w agrees lives =
    record {
      states = λ router node is. subst (λ o. HasState net w router node o) (sym (lives router node is)) (agrees.states router node is);
      sent = agrees.sent ∙ ap (λ hs. first ++ hs) (sym (append-nil handed_over));
      reconfigurations = agrees.reconfigurations ∙ sym (append-nil done);
    }

simulated : (net : Network) (first : List Sent) (order : List Happened) (daemons ends : ℕ → Option Machine) (handed_over : List Sent) (done : List (ℕ × Change)) (w : World)
    → Agrees net first daemons handed_over done w → AllByRecursion (λ h. h.router < length net) order → LiveOn net order daemons ends → AreGiven net handed_over order
    → GoesOn net first w ends (handed_over ++ all_handed order) (done ++ reconfigurations_by order)
simulated net first [] daemons ends handed_over done w agrees known lives given =
    record { events = []; after = w; run = refl; agrees = agrees_end net first daemons ends handed_over done w agrees lives }
simulated net first (h ∷ order) daemons ends handed_over done w agrees known lives given =
    let there = there_is net h.router known.0 in
    let later = lives_later net h order daemons ends there.0 there.1 lives in
    let number = numbered net handed_over h.router (config_of there.0) h.deed.act (given.0 there.0 there.1) in
    let one = done_on net first daemons handed_over done w agrees h.router there.0 there.1 (daemons h.router) refl h.deed.act number.0 h.deed.trace later.0 later.1 number.1 in
    let rest = simulated net first order (with_daemon daemons h.router later.0) ends (handed_over ++ handed_by h) (done ++ change_done h.router h.deed) (world_after w one.step) one.agrees known.1 later.2 given.1 in
    record {
      events = step_events one.step ++ rest.events;
      after = rest.after;
      run = run_append net (step_events one.step) rest.events w (world_after w one.step) rest.after
          (step_run net w (length first) h.router (daemons h.router) h.deed number.0 later.0 one.step one.is) rest.run;
      agrees = agrees_on net first ends handed_over done h order rest.after rest.agrees;
    }

-- no daemon is up in a cold world
cold_agrees : (net : Network) (moments : List ℕ) (w : World) → IsCold net moments w → Agrees net w.sent (λ router. None) [] [] w
cold_agrees net moments w cold =
    let states = cold_states 0 net moments w.states w.sent cold.starts in
    record {
      states = λ router node is. let here = states.1 router node is in let how = states.0 router here.0 here.1 in
          let same : here.0.config ≡ config_of node = ap (λ (s : State). s.config) how.3 ∙ ap config_of (Some-same how.0 node (sym how.2 ∙ is)) in
          record {
            state = here.0;
            state_is = here.1;
            addresses = ap addresses_of same;
            configured = same;
            agrees = tt;
          };
      sent = sym (append-nil w.sent);
      reconfigurations = cold.unchanged;
    }

-- a run of a network from a cold start, at whose end the world is as the daemons are
pub record IsSimulated (net : Network) (order : List Happened) (daemons : ℕ → Option Machine) : Type 0 where
  pub moments : List ℕ
  pub cold : World
  pub is_cold : IsCold net moments cold
  pub events : List Event
  pub after : World
  pub run : WorldRun net cold events after
  pub agrees : Agrees net cold.sent daemons (all_handed order) (reconfigurations_by order) after

pub simulated_from_cold : (net : Network) (order : List Happened) (daemons : ℕ → Option Machine) → HaveRun net order daemons → IsSimulated net order daemons
simulated_from_cold net order daemons ran =
    let cold = cold_world net ran.zoned in
    let on = simulated net cold.1.sent order (λ router. None) daemons [] [] cold.1 (cold_agrees net cold.0 cold.1 cold.2) ran.known ran.lives ran.given in
    record { moments = cold.0; cold = cold.1; is_cold = cold.2; events = on.events; after = on.after; run = on.run; agrees = on.agrees }

-- what daemons did is a run of their network
pub run_of : (net : Network) (order : List Happened) (daemons : ℕ → Option Machine) → HaveRun net order daemons → IsRunOf net order daemons
run_of net order daemons ran =
    let on = simulated_from_cold net order daemons ran in
    record {
      moments = on.moments;
      cold = on.cold;
      is_cold = on.is_cold;
      events = on.events;
      after = on.after;
      run = on.run;
      reconfigurations = on.agrees.reconfigurations;
      sent = λ d there. subst (λ ds. At ds d) (sym on.agrees.sent) (at_right on.cold.sent (all_handed order) d (at_from_contains (all_handed order) d there));
      states = λ router m low up. let node = there_is net router low in let here = on.agrees.states router node.0 node.1 in
          here.state_is ∙ ap Some (subst (λ o. IsStateOf o here.state) up here.agrees);
    }
