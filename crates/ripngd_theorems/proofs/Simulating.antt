-- What daemons did by a true clock, whatever it was, is a history of the model: each deed with its step, if it is one.
use Rattle.std.proofs.Common.{◌≡◌, ℕ, ◌-◌, ◌^◌, ◌<◌, ◌==◌, Bool, true, false, cond, List, [], ◌∷◌, ◌++◌, length, Option, Some, None, option_map, slice_get, refl, ap, sym, subst, ◌∙◌, arith}
use Rattle.std.specs.List.{AllByRecursion, cons_option}
use Rattle.std.proofs.lemmas.Bool.{eqb-true}
use Rattle.route_table.proofs.TableLaws.{Some-same, None-Some}
use Rattle.router_core.specs.Config.{Config}
use Rattle.router_core.specs.declared.answer.Answer.{Answer}
use Rattle.router_core.specs.declared.reconfiguring.Change.{Change}
use Rattle.ripng_world.specs.declared.event.Sent.{Sent}
use Rattle.ripng_world.specs.Network.{Network, Node, config_of}
use Rattle.ripng_world.specs.Rounds.{moment_of, router_of}
use Rattle.ripng_world.specs.World.{World, Event, reconfiguration_in, reconfigurations_in}
use Rattle.ripng_phases.specs.Ages.{IsLooking, Lead, StartsAnew}
use Rattle.ripng_phases.specs.Minutes.{untimed}
use Rattle.ripng_phases.specs.Phases.{Step, events_of, reached}
use Rattle.ripngd_engine.specs.Link.{Gave, Silent, RecvFailed, Handed}
use Rattle.ripngd_engine.specs.Run.{Machine, Trace, counted}
use Rattle.ripngd_theorems.specs.Ages.{IsLook, IsStart, KeepsTick, LivesTicking}
use Rattle.ripngd_theorems.specs.Daemons.{Act, Start, Listen, Tick, Reconfigure, Shutdown, LinkDown, LinkUp, Ask, Refuse, Deed, Happened, Does, Lives, own_deeds, reconfiguration_by, reconfigurations_by}
use Rattle.ripngd_theorems.specs.Links.{LiveOn, handed_by}
use Rattle.ripngd_theorems.specs.OnTime.{AreNumbered, Dated, undated}
use Rattle.ripngd_theorems.proofs.Deeds.{Agrees, IsEventOf, IsIdle, IsStepOf, change_done, done_on, with_daemon, world_after}
use Rattle.ripngd_theorems.proofs.Pairs.{ArePairs, IsPairing, Paired, dated_of, history_of, timed_when}
use Rattle.ripngd_theorems.proofs.Running.{own_first, there_is}

-- ---- what is known of each deed and its step

-- the step is the deed's event; and a deed without a step is no look, and no change
pub record IsFaithful (count : ℕ) (p : Paired) : Type 0 where
  pub event : (s : Step) → p.step ≡ Some s → IsEventOf count p.dated.happened.router p.dated.happened.deed.act p.dated.number p.dated.happened.deed.trace s.event s.answer
  pub idle : p.step ≡ None → (IsLook p.dated.happened.deed.act → ⊥) × (reconfiguration_by p.dated.happened ≡ None)

-- the event of a deed is of its router, and at its moment; it is a look exactly if the deed is; and it does the deed's change
pub record IsEventThen (router : ℕ) (act : Act) (trace : Trace) (e : Event) : Type 0 where
  pub router_is : router_of e ≡ router
  pub moment : trace.moments ≡ moment_of e ∷ []
  pub looks : IsLook act → IsLooking e
  pub starts : IsStart act → StartsAnew router e

pub event_then : (count router : ℕ) (act : Act) (number : Option ℕ) (trace : Trace) (e : Event) (answer : Answer) → IsEventOf count router act number trace e answer → IsEventThen router act trace e
event_then count router Start number trace e answer is =
    record {
      router_is = ap router_of is.1;
      moment = is.2 ∙ ap (λ n. n ∷ []) (sym (ap moment_of is.1));
      looks = λ look. subst IsLooking (sym is.1) tt;
      starts = λ start. subst (StartsAnew router) (sym is.1) refl;
    }
event_then count router (Listen (Gave d)) (Some number) trace e answer is =
    record { router_is = ap router_of is.1; moment = is.2.moments ∙ ap (λ n. n ∷ []) (sym (ap moment_of is.1)); looks = λ look. absurd look; starts = λ start. absurd start }
event_then count router (Listen (Gave d)) None trace e answer is =
    record { router_is = ap router_of is.1; moment = is.2.moments ∙ ap (λ n. n ∷ []) (sym (ap moment_of is.1)); looks = λ look. absurd look; starts = λ start. absurd start }
event_then count router (Listen Silent) number trace e answer is = absurd is
event_then count router (Listen RecvFailed) number trace e answer is = absurd is
event_then count router (Listen (Handed o went)) number trace e answer is = absurd is
event_then count router Tick number trace e answer is =
    record { router_is = ap router_of is.2; moment = is.3.moments ∙ ap (λ n. n ∷ []) (sym (ap moment_of is.2)); looks = λ look. subst IsLooking (sym is.2) tt; starts = λ start. absurd start }
event_then count router (Reconfigure c) number trace e answer is =
    record { router_is = ap router_of is.1; moment = is.2 ∙ ap (λ n. n ∷ []) (sym (ap moment_of is.1)); looks = λ look. absurd look; starts = λ start. absurd start }
event_then count router Shutdown number trace e answer is =
    record { router_is = ap router_of is.1; moment = is.2 ∙ ap (λ n. n ∷ []) (sym (ap moment_of is.1)); looks = λ look. absurd look; starts = λ start. absurd start }
event_then count router (LinkDown on) number trace e answer is =
    record { router_is = ap router_of is.1; moment = is.2 ∙ ap (λ n. n ∷ []) (sym (ap moment_of is.1)); looks = λ look. absurd look; starts = λ start. absurd start }
event_then count router (LinkUp on) number trace e answer is =
    record { router_is = ap router_of is.1; moment = is.2.moments ∙ ap (λ n. n ∷ []) (sym (ap moment_of is.1)); looks = λ look. absurd look; starts = λ start. absurd start }
event_then count router (Ask on) number trace e answer is =
    record { router_is = ap router_of is.1; moment = is.2.moments ∙ ap (λ n. n ∷ []) (sym (ap moment_of is.1)); looks = λ look. absurd look; starts = λ start. absurd start }
event_then count router Refuse number trace e answer is = absurd is

-- and the change that it does is the deed's
change_then : (count router : ℕ) (deed : Deed) (number : Option ℕ) (e : Event) (answer : Answer) → IsEventOf count router deed.act number deed.trace e answer
    → reconfiguration_in e ≡ reconfiguration_by (record { router = router; deed = deed })
change_then count router deed number e answer is = by deed.act number is
  where
    by : (act : Act) (number : Option ℕ) → IsEventOf count router act number deed.trace e answer → reconfiguration_in e ≡ reconfiguration_by (record { router = router; deed = record { act = act; trace = deed.trace } })
    by Start number is = ap reconfiguration_in is.1
    by (Listen (Gave d)) (Some number) is = ap reconfiguration_in is.1
    by (Listen (Gave d)) None is = ap reconfiguration_in is.1
    by (Listen Silent) number is = absurd is
    by (Listen RecvFailed) number is = absurd is
    by (Listen (Handed o went)) number is = absurd is
    by Tick number is = ap reconfiguration_in is.2
    by (Reconfigure c) number is = ap reconfiguration_in is.1
    by Shutdown number is = ap reconfiguration_in is.1
    by (LinkDown on) number is = ap reconfiguration_in is.1
    by (LinkUp on) number is = ap reconfiguration_in is.1
    by (Ask on) number is = ap reconfiguration_in is.1
    by Refuse number is = absurd is

-- what is idle is no look that is kept, and no change
idle_then : (daemon : Option Machine) (h : Happened) (n : Machine) → IsIdle daemon h.deed.act n → KeepsTick daemon h.deed.act n → (IsLook h.deed.act → ⊥) × (reconfiguration_by h ≡ None)
idle_then daemon h n idle keeps = by h.deed.act daemon idle keeps
  where
    lost : (m n : ℕ) → n ≡ counted m 1 → n ≡ m → m < 2 ^ 64 - 1 → ⊥
    lost m n e f g = omega arith

    by : (act : Act) (daemon : Option Machine) → IsIdle daemon act n → KeepsTick daemon act n → (IsLook act → ⊥) × (reconfiguration_by (record { router = h.router; deed = record { act = act; trace = h.deed.trace } }) ≡ None)
    by Start daemon idle keeps = absurd idle
    by (Listen call) daemon idle keeps = (λ look. look, refl)
    by Tick None idle keeps = absurd idle
    by Tick (Some m) idle keeps = absurd (lost m.lost_memory n.lost_memory idle keeps.0 keeps.1)
    by (Reconfigure c) daemon idle keeps = absurd idle
    by Shutdown daemon idle keeps = absurd idle
    by (LinkDown on) daemon idle keeps = absurd idle
    by (LinkUp on) daemon idle keeps = absurd idle
    by (Ask on) daemon idle keeps = (λ look. look, refl)
    by Refuse daemon idle keeps = (λ look. look, refl)

-- ---- all deeds

-- so daemons go on
abbrev pub LiveTicking : Network → List Happened → (ℕ → Option Machine) → (ℕ → Option Machine) → Type 0
LiveTicking net order daemons ends = (router : ℕ) (node : Node) → slice_get net router ≡ Some node → LivesTicking (config_of node) (daemons router) (own_deeds router order) (ends router)

pub lives_ticking : (config : Config) (before : Option Machine) (deeds : List Deed) (after : Option Machine) → LivesTicking config before deeds after → Lives config before deeds after
lives_ticking config before [] after lives = lives
lives_ticking config before (d ∷ deeds) after lives = (lives.0, lives.1, lives_ticking config (Some lives.0) deeds after lives.3)

pub live_ticking : (net : Network) (order : List Happened) (daemons ends : ℕ → Option Machine) → LiveTicking net order daemons ends → LiveOn net order daemons ends
live_ticking net order daemons ends lives router node is = lives_ticking (config_of node) (daemons router) (own_deeds router order) (ends router) (lives router node is)

ticking_later : (net : Network) (h : Happened) (order : List Happened) (daemons ends : ℕ → Option Machine) (node : Node) → slice_get net h.router ≡ Some node
    → LiveTicking net (h ∷ order) daemons ends
    → (n : Machine) × Does (config_of node) (daemons h.router) h.deed.act h.deed.trace n × KeepsTick (daemons h.router) h.deed.act n × LiveTicking net order (with_daemon daemons h.router n) ends
ticking_later net h order daemons ends node is lives =
    let first : LivesTicking (config_of node) (daemons h.router) (h.deed ∷ own_deeds h.router order) (ends h.router) =
    subst (λ ds. LivesTicking (config_of node) (daemons h.router) ds (ends h.router)) (own_first h order) (lives h.router node is) in
    (first.0, first.1, first.2, λ router other other_is. by_test first.0 first.3 router other other_is (h.router == router) refl (lives router other other_is))
  where
    by_test : (n : Machine) → LivesTicking (config_of node) (Some n) (own_deeds h.router order) (ends h.router)
        → (router : ℕ) (other : Node) → slice_get net router ≡ Some other → (b : Bool) → (h.router == router) ≡ b
        → LivesTicking (config_of other) (daemons router) (cons_option (cond b (Some h.deed) None) (own_deeds router order)) (ends router)
        → LivesTicking (config_of other) (cond b (Some n) (daemons router)) (own_deeds router order) (ends router)
    by_test n rest router other other_is false differ life = life
    by_test n rest router other other_is true same life =
        let e : h.router ≡ router = eqb-true h.router router same in
        let nodes : node ≡ other = Some-same node other (sym is ∙ ap (slice_get net) e ∙ other_is) in
        subst (λ r. LivesTicking (config_of other) (Some n) (own_deeds r order) (ends r)) e (subst (λ x. LivesTicking (config_of x) (Some n) (own_deeds h.router order) (ends h.router)) nodes rest)

module _ (net : Network) (first : List Sent) (ends : ℕ → Option Machine) where
  -- each with its step
  pub record IsFaithfulPairing (history : List Dated) (daemons : ℕ → Option Machine) (handed_over : List Sent) (done : List (ℕ × Change)) (w : World) : Type 0 where
    pub pairing : IsPairing net first ends history daemons handed_over done w
    pub faithful : AllByRecursion (IsFaithful (length first)) pairing.pairs

  faithful_here : (w : World) (daemons : ℕ → Option Machine) (t : Dated) (n : Machine) (o : Option Step) → IsStepOf net w (length first) t.happened.router (daemons t.happened.router) t.happened.deed t.number n o
      → KeepsTick (daemons t.happened.router) t.happened.deed.act n → IsFaithful (length first) (record { dated = t; step = o })
  faithful_here w daemons t n None is keeps =
      record { event = λ s e. absurd (None-Some s e); idle = λ e. idle_then (daemons t.happened.router) t.happened n is keeps }
  faithful_here w daemons t n (Some x) is keeps =
      record {
        event = λ s e. subst (λ (y : Step). IsEventOf (length first) t.happened.router t.happened.deed.act t.number t.happened.deed.trace y.event y.answer) (Some-same x s e) is.1;
        idle = λ e. absurd (None-Some x (sym e));
      }

  pub faithful_pairing : (history : List Dated) (daemons : ℕ → Option Machine) (handed_over : List Sent) (done : List (ℕ × Change)) (w : World) → Agrees net first daemons handed_over done w
      → AllByRecursion (λ t. t.happened.router < length net) history → LiveTicking net (undated history) daemons ends → AreNumbered net handed_over history
      → IsFaithfulPairing history daemons handed_over done w
  faithful_pairing [] daemons handed_over done w agrees known lives given =
      record { pairing = record { pairs = []; are = (agrees, live_ticking net [] daemons ends lives); dated_are = refl }; faithful = tt }
  faithful_pairing (t ∷ history) daemons handed_over done w agrees known lives given =
      let h = t.happened in
      let there = there_is net h.router known.0 in
      let later = ticking_later net h (undated history) daemons ends there.0 there.1 lives in
      let number = given.0 there.0 there.1 in
      let one = done_on net first daemons handed_over done w agrees h.router there.0 there.1 (daemons h.router) refl h.deed.act t.number h.deed.trace later.0 later.1 number in
      let rest = faithful_pairing history (with_daemon daemons h.router later.0) (handed_over ++ handed_by h) (done ++ change_done h.router h.deed) (world_after w one.step) one.agrees known.1 later.3 given.1 in
      record {
        pairing = record {
          pairs = record { dated = t; step = one.step } ∷ rest.pairing.pairs;
          are = (
            record {
              node = there.0;
              node_is = there.1;
              after = later.0;
              does = later.1;
              given = number;
              is = one.is;
              later = subst (λ ts. LiveOn net (undated ts) (with_daemon daemons h.router later.0) ends) (sym rest.pairing.dated_are)
                  (live_ticking net (undated history) (with_daemon daemons h.router later.0) ends later.3);
            },
            agrees,
            rest.pairing.are,
          );
          dated_are = ap (λ ts. t ∷ ts) rest.pairing.dated_are;
        };
        faithful = (faithful_here w daemons t later.0 one.step one.is later.2, rest.faithful);
      }

  -- its steps lead on
  pub lead_all : (ps : List Paired) (daemons : ℕ → Option Machine) (handed_over : List Sent) (done : List (ℕ × Change)) (w : World) → ArePairs net first ends daemons handed_over done w ps
      → Lead net w (untimed (history_of ps)) (reached w (untimed (history_of ps)))
  lead_all [] daemons handed_over done w are = refl
  lead_all (p ∷ ps) daemons handed_over done w are =
      by p.step are.0.is
      (lead_all ps (with_daemon daemons p.dated.happened.router are.0.after) (handed_over ++ handed_by p.dated.happened) (done ++ change_done p.dated.happened.router p.dated.happened.deed) (world_after w p.step) are.2)
    where
      by : (o : Option Step) → IsStepOf net w (length first) p.dated.happened.router (daemons p.dated.happened.router) p.dated.happened.deed p.dated.number are.0.after o
          → Lead net (world_after w o) (untimed (history_of ps)) (reached (world_after w o) (untimed (history_of ps)))
          → Lead net w (untimed (cons_option (option_map (timed_when p.dated.at) o) (history_of ps))) (reached w (untimed (cons_option (option_map (timed_when p.dated.at) o) (history_of ps))))
      by None is rest = rest
      by (Some s) is rest = (is.0, rest)

-- the changes that they do are those of the deeds
pub changes_of : (count : ℕ) (ps : List Paired) → AllByRecursion (IsFaithful count) ps → reconfigurations_in (events_of (untimed (history_of ps))) ≡ reconfigurations_by (undated (dated_of ps))
changes_of count [] all = refl
changes_of count (p ∷ ps) all = by p.step refl (changes_of count ps all.1)
  where
    by : (o : Option Step) → p.step ≡ o → reconfigurations_in (events_of (untimed (history_of ps))) ≡ reconfigurations_by (undated (dated_of ps))
        → reconfigurations_in (events_of (untimed (cons_option (option_map (timed_when p.dated.at) o) (history_of ps)))) ≡ cons_option (reconfiguration_by p.dated.happened) (reconfigurations_by (undated (dated_of ps)))
    by None is rest = rest ∙ ap (λ o. cons_option o (reconfigurations_by (undated (dated_of ps)))) (sym (all.0.idle is).1)
    by (Some s) is rest =
        ap (cons_option (reconfiguration_in s.event)) rest
        ∙ ap (λ o. cons_option o (reconfigurations_by (undated (dated_of ps)))) (change_then count p.dated.happened.router p.dated.happened.deed p.dated.number s.event s.answer (all.0.event s is))
