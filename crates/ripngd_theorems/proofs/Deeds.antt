-- Each deed of a daemon is a step of the world of its network, or none.
use Rattle.std.proofs.Common.{◌≡◌, inl, inr, ℕ, suc, ◌+◌, ◌<◌, ◌==◌, ◌&&◌, Bool, true, false, cond, List, [], ◌∷◌, ◌++◌, map, filter_map, length, Option, Some, None, is_none, slice_get, slice_set, refl, ap, sym, subst, ◌∙◌, append-nil, append_assoc, IsFalse}
use Rattle.std.specs.Prelude.{⊤}
use Rattle.std.specs.List.{cons_option}
use Rattle.std.proofs.lemmas.Bool.{eq-eqb, eqb-true}
use Rattle.ripng_wire.specs.Wire.{is_response}
use Rattle.router_core.specs.Machine.{State, Happening, Arrives, Ticks, Restarts, Reconfigures, ShutsDown, LinkGoesDown, LinkComesUp, Moves, Starts}
use Rattle.router_core.specs.declared.answer.Answer.{Answer}
use Rattle.router_core.specs.declared.answer.Outgoing.{Outgoing}
use Rattle.router_core.specs.declared.config.Interface.{Interface}
use Rattle.router_core.specs.declared.reconfiguring.Change.{Change}
use Rattle.route_table.proofs.TableLaws.{Some-same}
use Rattle.ripng_world.specs.declared.event.Sent.{Sent}
use Rattle.ripng_world.specs.Network.{Network, Node, config_of}
use Rattle.ripng_world.specs.World as world
use Rattle.ripng_world.specs.World.{World, Event, RouterMoves, Happens, arrival_of, is_to_group, sent_by}
use Rattle.ripng_world.proofs.WorldRuns.{zoned_address}
use Rattle.ripng_phases.specs.Phases as phases
use Rattle.ripngd_engine.specs.Changing.{LinkComesUpOnce}
use Rattle.ripngd_engine.specs.Link.{Call, Datagram, Gave, Silent, RecvFailed, Handed}
use Rattle.ripngd_engine.specs.Run as engine
use Rattle.ripngd_engine.specs.Run.{Machine, Trace, Sends, MovedOrLost, Moved, ComesUp, arrival, counted, followed_by, one_call, handed, datagrams_of}
use Rattle.ripngd_engine.specs.Observer.{LinkReport, Processed}
use Rattle.ripngd_engine.specs.declared.observer.Arrived.{Arrived}
use Rattle.ripngd_theorems.specs.Daemons.{Act, Start, Listen, Tick, Reconfigure, Shutdown, LinkDown, LinkUp, Ask, Refuse, Deed, Does, Goes, HearsCall, in_force, reconfiguration_by}
use Rattle.ripngd_theorems.specs.Links.{handed_in, handed_by, IsCopyOf, IsOfAStranger}
use Rattle.ripngd_theorems.specs.OnTime.{IsNumbered}
use Rattle.ripngd_theorems.proofs.Addresses.{addresses_of, fault_same, moves_addresses}
use Rattle.ripngd_theorems.proofs.ToWhom.{to_whom}
use Rattle.ripngd_theorems.proofs.Sends.{get_behind, handed_back, set_elsewhere, set_here}

-- ---- a world that is as the daemons are

-- a state is that of a daemon, if it is up
abbrev pub IsStateOf : Option Machine → State → Type 0
IsStateOf None s = ⊤
IsStateOf (Some m) s = s ≡ m.router

-- a router's state in a world
pub record HasState (net : Network) (w : World) (router : ℕ) (node : Node) (daemon : Option Machine) : Type 0 where
  pub state : State
  pub state_is : slice_get w.states router ≡ Some state
  pub addresses : addresses_of state.config ≡ addresses_of (config_of node)
  pub configured : state.config ≡ in_force (config_of node) daemon
  pub agrees : IsStateOf daemon state

-- each router that is up has its daemon's state, just this was sent first and then what was handed over, and just these changes were
-- done
pub record Agrees (net : Network) (first : List Sent) (daemons : ℕ → Option Machine) (handed_over : List Sent) (done : List (ℕ × Change)) (w : World) : Type 0 where
  pub states : (router : ℕ) (node : Node) → slice_get net router ≡ Some node → HasState net w router node (daemons router)
  pub sent : w.sent ≡ first ++ handed_over
  pub reconfigurations : w.reconfigurations ≡ done

-- one daemon is now this
abbrev pub with_daemon : (ℕ → Option Machine) → ℕ → Machine → ℕ → Option Machine
with_daemon daemons router n = λ other. cond (router == other) (Some n) (daemons other)

-- what one deed adds to the changes
abbrev pub change_done : ℕ → Deed → List (ℕ × Change)
change_done router deed = cons_option (reconfiguration_by (record { router = router; deed = deed })) []

-- ---- what a deed is in the world

-- what came was heard at that moment, and a watcher was told what became of it
pub record IsHeard (trace : Trace) (now : ℕ) (answer : Answer) : Type 0 where
  pub moments : trace.moments ≡ now ∷ []
  pub who : Arrived
  pub bytes : List ℕ
  pub rest : List LinkReport
  pub told : trace.told ≡ Processed who bytes answer.fault answer.notes ∷ rest

-- it did so at that moment, and noted nothing
pub record NotesNothing (trace : Trace) (now : ℕ) (answer : Answer) : Type 0 where
  pub moments : trace.moments ≡ now ∷ []
  pub notes : answer.notes ≡ []

-- the event of a deed, where so many datagrams were sent before the first was handed over
abbrev pub IsEventOf : ℕ → ℕ → Act → Option ℕ → Trace → Event → Answer → Type 0
IsEventOf count router Start number trace e answer = (now : ℕ) × (e ≡ world.Restart router now) × (trace.moments ≡ now ∷ [])
IsEventOf count router (Listen (Gave d)) (Some number) trace e answer = (now : ℕ) × (e ≡ world.Deliver (count + number) router d.iface now) × IsHeard trace now answer
IsEventOf count router (Listen (Gave d)) None trace e answer = (now : ℕ) × (e ≡ world.Stranger router (arrival now d)) × IsHeard trace now answer
IsEventOf count router Tick number trace e answer = (now : ℕ) × (word : ℕ) × (e ≡ world.Tick router now word) × NotesNothing trace now answer
IsEventOf count router (Reconfigure c) number trace e answer = (now : ℕ) × (e ≡ world.Reconfigure router now c) × (trace.moments ≡ now ∷ [])
IsEventOf count router Shutdown number trace e answer = (now : ℕ) × (e ≡ world.Shutdown router now) × (trace.moments ≡ now ∷ [])
IsEventOf count router (LinkDown on) number trace e answer = (now : ℕ) × (e ≡ world.LinkDown router now on) × (trace.moments ≡ now ∷ [])
IsEventOf count router (LinkUp on) number trace e answer = (now : ℕ) × (e ≡ world.LinkUp router now on) × NotesNothing trace now answer
IsEventOf count router (Ask on) number trace e answer = (now : ℕ) × (e ≡ world.LinkUp router now on) × NotesNothing trace now answer
IsEventOf count router act number trace e answer = ⊥

-- a daemon lost a step for memory
abbrev pub HasLost : Option Machine → Machine → Type 0
HasLost None n = ⊥
HasLost (Some m) n = n.lost_memory ≡ counted m.lost_memory 1

-- a deed that is no event: nothing came, a step was refused, or one was lost
abbrev pub IsIdle : Option Machine → Act → Machine → Type 0
IsIdle daemon Start n = ⊥
IsIdle daemon (Listen (Gave d)) n = HasLost daemon n
IsIdle daemon Tick n = HasLost daemon n
IsIdle daemon (Reconfigure c) n = ⊥
IsIdle daemon Shutdown n = ⊥
IsIdle daemon (LinkDown on) n = ⊥
IsIdle daemon (LinkUp on) n = ⊥
IsIdle daemon act n = ⊤

-- what a deed is in a world: a step, or none
abbrev pub IsStepOf : Network → World → ℕ → ℕ → Option Machine → Deed → Option ℕ → Machine → Option phases.Step → Type 0
IsStepOf net w count router daemon deed number n None = IsIdle daemon deed.act n
IsStepOf net w count router daemon deed number n (Some s) = Happens net w s.event s.answer s.after × IsEventOf count router deed.act number deed.trace s.event s.answer

-- the world after it
abbrev pub world_after : World → Option phases.Step → World
world_after w None = w
world_after w (Some s) = s.after

-- so the world goes on with a deed
pub record StepsOn (net : Network) (first : List Sent) (daemons : ℕ → Option Machine) (handed_over : List Sent) (done : List (ℕ × Change)) (w : World)
    (router : ℕ) (n : Machine) (deed : Deed) (number : Option ℕ) : Type 0 where
  pub step : Option phases.Step
  pub is : IsStepOf net w (length first) router (daemons router) deed number n step
  pub agrees : Agrees net first (with_daemon daemons router n) (handed_over ++ handed_by (record { router = router; deed = deed })) (done ++ change_done router deed) (world_after w step)

module _ (net : Network) (first : List Sent) (daemons : ℕ → Option Machine) (handed_over : List Sent) (done : List (ℕ × Change)) (w : World)
    (agrees : Agrees net first daemons handed_over done w) (router : ℕ) (node : Node) (node_is : slice_get net router ≡ Some node) where
  here : HasState net w router node (daemons router)
  here = agrees.states router node node_is

  -- with this deed the world goes on so
  abbrev Onward : Machine → Deed → Option ℕ → Type 0
  Onward n deed number = StepsOn net first daemons handed_over done w router n deed number

  -- a router moved, and all others stay
  module _ (happening : Happening) (answer : Answer) (n : Machine) (moves : Moves here.state happening answer n.router) where
    abbrev moved_world : World
    moved_world =
        record {
          states = slice_set w.states router n.router;
          sent = w.sent ++ map (sent_by router) answer.sends;
          reconfigurations = w.reconfigurations ++ world.reconfigurations_of router happening;
        }

    router_moves : RouterMoves w router happening answer moved_world
    router_moves =
        record {
          old = here.state;
          new = n.router;
          old_is = here.state_is;
          moves = moves;
          states = refl;
          sent = refl;
          reconfigurations = refl;
        }

    moved_agrees : Agrees net first (with_daemon daemons router n) (handed_over ++ map (sent_by router) answer.sends) (done ++ world.reconfigurations_of router happening) moved_world
    moved_agrees =
        record {
          states = λ other other_node other_is. by_test other other_node other_is (router == other) refl;
          sent = ap (λ ds. ds ++ map (sent_by router) answer.sends) agrees.sent ∙ append_assoc first handed_over (map (sent_by router) answer.sends);
          reconfigurations = ap (λ cs. cs ++ world.reconfigurations_of router happening) agrees.reconfigurations;
        }
      where
        by_test : (other : ℕ) (other_node : Node) → slice_get net other ≡ Some other_node → (b : Bool) → (router == other) ≡ b
            → HasState net moved_world other other_node (cond b (Some n) (daemons other))
        by_test other other_node other_is true same =
            let e : router ≡ other = eqb-true router other same in
            let it : HasState net moved_world router node (Some n) = record {
              state = n.router;
              state_is = set_here w.states router here.state n.router here.state_is;
              addresses = moves_addresses here.state happening answer n.router moves ∙ here.addresses;
              configured = refl;
              agrees = refl;
            } in
            let nodes : node ≡ other_node = Some-same node other_node (sym node_is ∙ ap (slice_get net) e ∙ other_is) in
            subst (λ r. HasState net moved_world r other_node (Some n)) e (subst (λ x. HasState net moved_world router x (Some n)) nodes it)
        by_test other other_node other_is false differ =
            let there = agrees.states other other_node other_is in
            record {
              state = there.state;
              state_is = set_elsewhere w.states router other n.router (λ e. clash (sym (eq-eqb router other e) ∙ differ)) ∙ there.state_is;
              addresses = there.addresses;
              configured = there.configured;
              agrees = there.agrees;
            }
          where
            clash : true ≡ false → ⊥
            clash e = cc

    -- by an event, if that is it
    moved_on : (deed : Deed) (number : Option ℕ) (e : Event) → world.reconfigurations_of router happening ≡ change_done router deed → Happens net w e answer moved_world
        → handed_by (record { router = router; deed = deed }) ≡ map (sent_by router) answer.sends → IsEventOf (length first) router deed.act number deed.trace e answer → Onward n deed number
    moved_on deed number e changed happens are event =
        record {
          step = Some (record { event = e; answer = answer; after = moved_world });
          is = (happens, event);
          agrees = subst (λ cs. Agrees net first (with_daemon daemons router n) (handed_over ++ handed_by (record { router = router; deed = deed })) (done ++ cs) moved_world) changed
              (subst (λ hs. Agrees net first (with_daemon daemons router n) (handed_over ++ hs) (done ++ world.reconfigurations_of router happening) moved_world) (sym are) moved_agrees);
        }

  -- nothing happened to the router
  stayed_on : (n : Machine) (deed : Deed) (number : Option ℕ) → here.state ≡ n.router → filter_map handed_in deed.trace.calls ≡ [] → change_done router deed ≡ []
      → IsIdle (daemons router) deed.act n → Onward n deed number
  stayed_on n deed number same silent unchanged idle =
      record {
        step = None;
        is = idle;
        agrees = record {
          states = λ other other_node other_is. by_test other other_node other_is (router == other) refl;
          sent = agrees.sent ∙ ap (λ hs. first ++ hs) (sym (append-nil handed_over) ∙ ap (λ os. handed_over ++ map (sent_by router) os) (sym silent));
          reconfigurations = agrees.reconfigurations ∙ sym (append-nil done) ∙ ap (λ cs. done ++ cs) (sym unchanged);
        };
      }
    where
      by_test : (other : ℕ) (other_node : Node) → slice_get net other ≡ Some other_node → (b : Bool) → (router == other) ≡ b
          → HasState net w other other_node (cond b (Some n) (daemons other))
      by_test other other_node other_is true is =
          let there = agrees.states other other_node other_is in
          let e : router ≡ other = eqb-true router other is in
          let now : there.state ≡ n.router = Some-same there.state here.state (sym there.state_is ∙ ap (slice_get w.states) (sym e) ∙ here.state_is) ∙ same in
          record {
            state = there.state;
            state_is = there.state_is;
            addresses = there.addresses;
            configured = ap (λ (s : State). s.config) now;
            agrees = now;
          }
      by_test other other_node other_is false differ = agrees.states other other_node other_is

  -- what a deed that carried out an answer handed over
  handed_of : (deed : Deed) (sends : Sends) (answer : Answer) → datagrams_of sends ≡ answer.sends → filter_map handed_in deed.trace.calls ≡ filter_map handed_in (handed sends)
      → handed_by (record { router = router; deed = deed }) ≡ map (sent_by router) answer.sends
  handed_of deed sends answer all same = ap (map (sent_by router)) (same ∙ handed_back sends ∙ all)

  -- what the calls of a trace handed over
  abbrev handed_in_trace : Trace → List Outgoing
  handed_in_trace t = filter_map handed_in t.calls

  -- ---- deeds

  came_up : (before : Option Machine) → daemons router ≡ before → (number : Option ℕ) (t : Trace) (n : Machine) → Does (config_of node) before Start t n
      → Onward n (record { act = Start; trace = t }) number
  came_up before is number t n did =
      let up : ComesUp (in_force (config_of node) before) did.0 t n = did.1 in
      let starts : Starts here.state.config up.now up.answer n.router =
      subst (λ c. Starts c up.now up.answer n.router) (sym (here.configured ∙ ap (in_force (config_of node)) is)) up.starts in
      moved_on (Restarts up.now) up.answer n starts (record { act = Start; trace = t }) number (world.Restart router up.now) refl
      (router_moves (Restarts up.now) up.answer n starts)
      (handed_of (record { act = Start; trace = t }) up.carries.sends up.answer up.carries.all_sends (ap handed_in_trace up.carries.trace))
      (up.now, refl, ap (λ (x : Trace). x.moments) up.carries.trace)

  -- a daemon that was up
  module _ (m : Machine) (up : daemons router ≡ Some m) where
    was : here.state ≡ m.router
    was = subst (λ o. IsStateOf o here.state) up here.agrees

    -- it lost a step
    lost_one : (n : Machine) → n.lost_memory ≡ counted m.lost_memory 1 → HasLost (daemons router) n
    lost_one n is = subst (λ o. HasLost o n) (sym up) is

    -- it made one step
    once_on : (act : Act) (h : Happening) (e : Event) (now : ℕ) (number : Option ℕ) (t : Trace) (n k : Machine) → here.state ≡ k.router → (moved : Moved k h now t n)
        → world.reconfigurations_of router h ≡ change_done router (record { act = act; trace = t })
        → ((w' : World) → RouterMoves w router h moved.answer w' → Happens net w e moved.answer w')
        → IsEventOf (length first) router act number t e moved.answer → Onward n (record { act = act; trace = t }) number
    once_on act h e now number t n k same moved changed happens event =
        let moves : Moves here.state h moved.answer n.router = subst (λ s. Moves s h moved.answer n.router) (sym same) moved.moves in
        moved_on h moved.answer n moves (record { act = act; trace = t }) number e changed (happens (moved_world h moved.answer n moves) (router_moves h moved.answer n moves))
        (handed_of (record { act = act; trace = t }) moved.carries.sends moved.answer moved.carries.all_sends (ap handed_in_trace moved.carries.trace)) event

    ticked_on : (number : Option ℕ) (t : Trace) (n : Machine) → Goes Tick m t n → Onward n (record { act = Tick; trace = t }) number
    ticked_on number t n did = by_step did.1.step
      where
        by_step : MovedOrLost (record m { stream = did.1.stream }) (Ticks did.1.now did.1.word) did.1.now t n → Onward n (record { act = Tick; trace = t }) number
        by_step (inl moved) =
            once_on Tick (Ticks did.1.now did.1.word) (world.Tick router did.1.now did.1.word) did.1.now number t n (record m { stream = did.1.stream }) was moved refl (λ w' r. r)
            (did.1.now, did.1.word, refl, record { moments = ap (λ (x : Trace). x.moments) moved.carries.trace; notes = moved.moves.answer_is.notes_are })
        by_step (inr lost) =
            stayed_on n (record { act = Tick; trace = t }) number (was ∙ sym (ap (λ (x : Machine). x.router) lost.machine)) (ap handed_in_trace lost.trace) refl
            (lost_one n (ap (λ (x : Machine). x.lost_memory) lost.machine))

    reconfigured_on : (c : Change) (number : Option ℕ) (t : Trace) (n : Machine) → Goes (Reconfigure c) m t n → Onward n (record { act = Reconfigure c; trace = t }) number
    reconfigured_on c number t n did =
        once_on (Reconfigure c) (Reconfigures did.1.0 c) (world.Reconfigure router did.1.0 c) did.1.0 number t n m was did.1.1 refl (λ w' r. r) (did.1.0, refl, ap (λ (x : Trace). x.moments) did.1.1.carries.trace)

    shut_down_on : (number : Option ℕ) (t : Trace) (n : Machine) → Goes Shutdown m t n → Onward n (record { act = Shutdown; trace = t }) number
    shut_down_on number t n did = once_on Shutdown (ShutsDown did.1.0) (world.Shutdown router did.1.0) did.1.0 number t n m was did.1.1 refl (λ w' r. r) (did.1.0, refl, ap (λ (x : Trace). x.moments) did.1.1.carries.trace)

    link_down_on : (on : ℕ) (number : Option ℕ) (t : Trace) (n : Machine) → Goes (LinkDown on) m t n → Onward n (record { act = LinkDown on; trace = t }) number
    link_down_on on number t n did =
        once_on (LinkDown on) (LinkGoesDown did.1.0 on) (world.LinkDown router did.1.0 on) did.1.0 number t n m was did.1.1 refl (λ w' r. r) (did.1.0, refl, ap (λ (x : Trace). x.moments) did.1.1.carries.trace)

    -- to ask notes nothing
    asked_silently : (on : ℕ) (t : Trace) (n : Machine) (asks : LinkComesUpOnce on m t n) → NotesNothing t asks.0 asks.1.answer
    asked_silently on t n asks = record { moments = ap (λ (x : Trace). x.moments) asks.1.carries.trace; notes = asks.1.moves.answer_is.notes_are }

    link_up_on : (on : ℕ) (number : Option ℕ) (t : Trace) (n : Machine) → Goes (LinkUp on) m t n → Onward n (record { act = LinkUp on; trace = t }) number
    link_up_on on number t n did =
        once_on (LinkUp on) (LinkComesUp did.1.0 on) (world.LinkUp router did.1.0 on) did.1.0 number t n m was did.1.1 refl (λ w' r. r) (did.1.0, refl, asked_silently on t n did.1)

    asked_on : (on : ℕ) (number : Option ℕ) (t : Trace) (n : Machine) → Goes (Ask on) m t n → Onward n (record { act = Ask on; trace = t }) number
    asked_on on number t n did = elim did.1 [
      | inl asks ↦
          once_on (Ask on) (LinkComesUp asks.0 on) (world.LinkUp router asks.0 on) asks.0 number t n m was asks.1 refl (λ w' r. r) (asks.0, refl, asked_silently on t n asks)
      | inr nothing ↦
          stayed_on n (record { act = Ask on; trace = t }) number (was ∙ sym (ap (λ (x : Machine). x.router) nothing.2)) (ap handed_in_trace nothing.1) refl tt
    ]

    refused_on : (number : Option ℕ) (t : Trace) (n : Machine) → Goes Refuse m t n → Onward n (record { act = Refuse; trace = t }) number
    refused_on number t n did =
        stayed_on n (record { act = Refuse; trace = t }) number (was ∙ sym (ap (λ (x : Machine). x.router) did.1.2)) (ap handed_in_trace did.1.1) refl tt

    -- what its link gave it was heard
    heard_then : (d : Datagram) (now : ℕ) (taken t : Trace) (n : Machine) (moved : Moved m (Arrives (arrival now d)) now taken n) → t ≡ followed_by (one_call (Gave d)) taken
        → IsHeard t now moved.answer
    heard_then d now taken t n moved is =
        record {
          moments = ap (λ (x : Trace). x.moments) is ∙ ap (λ (x : Trace). x.moments) moved.carries.trace;
          who = engine.arrived (arrival now d);
          bytes = (arrival now d).bytes;
          rest = engine.sent moved.carries.sends;
          told = ap (λ (x : Trace). x.told) is ∙ ap (λ (x : Trace). x.told) moved.carries.trace;
        }

    -- a datagram of the link is delivered
    module _ (d : Datagram) (now : ℕ) (answer : Answer) (n : Machine) (moves : Moves here.state (Arrives (arrival now d)) answer n.router) where
      delivered : (number : ℕ) (s : Sent) → slice_get handed_over number ≡ Some s → IsCopyOf net s router d
          → Happens net w (world.Deliver (length first + number) router d.iface now) answer (moved_world (Arrives (arrival now d)) answer n moves)
      unfolding router_moves here
      delivered number s is copy =
          record {
            sent = s;
            sent_is = ap (λ ds. slice_get ds (length first + number)) agrees.sent ∙ get_behind first handed_over number ∙ is;
            linked = copy.linked;
            moves = subst (λ x. RouterMoves w router (Arrives x) answer (moved_world (Arrives (arrival now d)) answer n moves)) (arrives s copy)
                (to_whom w (moved_world (Arrives (arrival now d)) answer n moves) router answer (arrival now d) (is_to_group s.to) copy.hops (router_moves (Arrives (arrival now d)) answer n moves));
          }
        where
          arrives : (s : Sent) (c : IsCopyOf net s router d) → record (arrival now d) { to_group = is_to_group s.to } ≡ arrival_of net s d.iface now
          arrives s c = simp (c.source, c.port, c.hops, c.bytes)

      -- and a stranger's is one
      intruded : IsOfAStranger (config_of node) d → Happens net w (world.Stranger router (arrival now d)) answer (moved_world (Arrives (arrival now d)) answer n moves)
      unfolding router_moves here
      intruded strange =
          record {
            moves = router_moves (Arrives (arrival now d)) answer n moves;
            known = subst (λ count. d.iface < count) (many (config_of node).interfaces ∙ ap length (sym here.addresses) ∙ sym (many here.state.config.interfaces)) strange.known;
            unheard = subst (λ o. IsFalse (heard_by (is_none o) d.bytes)) (fault_same (config_of node) here.state.config (arrival now d) (sym here.addresses)) (strange.unheard now);
          }
        where
          many : (xs : List Interface) → length xs ≡ length (map zoned_address xs)
          many [] = refl
          many (x ∷ xs) = ap suc (many xs)

          heard_by : Bool → List ℕ → Bool
          heard_by judged bytes = is_response bytes && judged

    given_on : (d : Datagram) (number : Option ℕ) (now : ℕ) (taken t : Trace) (n : Machine) → Moved m (Arrives (arrival now d)) now taken n → t ≡ followed_by (one_call (Gave d)) taken
        → IsNumbered net handed_over router (config_of node) (Listen (Gave d)) number → Onward n (record { act = Listen (Gave d); trace = t }) number
    given_on d number now taken t n moved is given = by_number number given
      where
        moves : Moves here.state (Arrives (arrival now d)) moved.answer n.router
        moves = subst (λ s. Moves s (Arrives (arrival now d)) moved.answer n.router) (sym was) moved.moves

        handed_here : handed_by (record { router = router; deed = record { act = Listen (Gave d); trace = t } }) ≡ map (sent_by router) moved.answer.sends
        handed_here =
            handed_of (record { act = Listen (Gave d); trace = t }) moved.carries.sends moved.answer moved.carries.all_sends (ap handed_in_trace is ∙ ap handed_in_trace moved.carries.trace)

        by_number : (o : Option ℕ) → IsNumbered net handed_over router (config_of node) (Listen (Gave d)) o → Onward n (record { act = Listen (Gave d); trace = t }) o
        by_number (Some k) g =
            moved_on (Arrives (arrival now d)) moved.answer n moves (record { act = Listen (Gave d); trace = t }) (Some k) (world.Deliver (length first + k) router d.iface now) refl
            (delivered d now moved.answer n moves k g.0 g.1 g.2) handed_here (now, refl, heard_then d now taken t n moved is)
        by_number None g =
            moved_on (Arrives (arrival now d)) moved.answer n moves (record { act = Listen (Gave d); trace = t }) None (world.Stranger router (arrival now d)) refl
            (intruded d now moved.answer n moves g) handed_here (now, refl, heard_then d now taken t n moved is)

    heard_on : (call : Call) (number : Option ℕ) (t : Trace) (n : Machine) → HearsCall call m t n → IsNumbered net handed_over router (config_of node) (Listen call) number
        → Onward n (record { act = Listen call; trace = t }) number
    heard_on RecvFailed number t n hears given =
        stayed_on n (record { act = Listen RecvFailed; trace = t }) number (was ∙ sym (ap (λ (x : Machine). x.router) hears.1)) (ap handed_in_trace hears.0) refl tt
    heard_on Silent number t n hears given =
        stayed_on n (record { act = Listen Silent; trace = t }) number (was ∙ sym (ap (λ (x : Machine). x.router) hears.1.1)) (ap handed_in_trace hears.2 ∙ ap handed_in_trace hears.1.0) refl tt
    heard_on (Handed o went) number t n hears given = absurd hears.1
    heard_on (Gave d) number t n hears given = by_step hears.1.1
      where
        by_step : MovedOrLost m (Arrives (arrival hears.1.0 d)) hears.1.0 hears.0 n → Onward n (record { act = Listen (Gave d); trace = t }) number
        by_step (inl moved) = given_on d number hears.1.0 hears.0 t n moved hears.2 given
        by_step (inr lost) =
            stayed_on n (record { act = Listen (Gave d); trace = t }) number (was ∙ sym (ap (λ (x : Machine). x.router) lost.machine)) (ap handed_in_trace hears.2 ∙ ap handed_in_trace lost.trace) refl
            (lost_one n (ap (λ (x : Machine). x.lost_memory) lost.machine))

    -- any deed
    gone_on : (act : Act) (number : Option ℕ) (t : Trace) (n : Machine) → Goes act m t n → IsNumbered net handed_over router (config_of node) act number
        → Onward n (record { act = act; trace = t }) number
    gone_on Start number t n did given = absurd did
    gone_on (Listen call) number t n did given = heard_on call number t n did.1 given
    gone_on Tick number t n did given = ticked_on number t n did
    gone_on (Reconfigure c) number t n did given = reconfigured_on c number t n did
    gone_on Shutdown number t n did given = shut_down_on number t n did
    gone_on (LinkDown on) number t n did given = link_down_on on number t n did
    gone_on (LinkUp on) number t n did given = link_up_on on number t n did
    gone_on (Ask on) number t n did given = asked_on on number t n did
    gone_on Refuse number t n did given = refused_on number t n did

  pub done_on : (before : Option Machine) → daemons router ≡ before → (act : Act) (number : Option ℕ) (t : Trace) (n : Machine) → Does (config_of node) before act t n
      → IsNumbered net handed_over router (config_of node) act number → StepsOn net first daemons handed_over done w router n (record { act = act; trace = t }) number
  done_on before is Start number t n did given = came_up before is number t n did
  done_on None is (Listen call) number t n did given = absurd did
  done_on None is Tick number t n did given = absurd did
  done_on None is (Reconfigure c) number t n did given = absurd did
  done_on None is Shutdown number t n did given = absurd did
  done_on None is (LinkDown on) number t n did given = absurd did
  done_on None is (LinkUp on) number t n did given = absurd did
  done_on None is (Ask on) number t n did given = absurd did
  done_on None is Refuse number t n did given = absurd did
  done_on (Some m) is (Listen call) number t n did given = gone_on m is (Listen call) number t n did given
  done_on (Some m) is Tick number t n did given = gone_on m is Tick number t n did given
  done_on (Some m) is (Reconfigure c) number t n did given = gone_on m is (Reconfigure c) number t n did given
  done_on (Some m) is Shutdown number t n did given = gone_on m is Shutdown number t n did given
  done_on (Some m) is (LinkDown on) number t n did given = gone_on m is (LinkDown on) number t n did given
  done_on (Some m) is (LinkUp on) number t n did given = gone_on m is (LinkUp on) number t n did given
  done_on (Some m) is (Ask on) number t n did given = gone_on m is (Ask on) number t n did given
  done_on (Some m) is Refuse number t n did given = gone_on m is Refuse number t n did given
