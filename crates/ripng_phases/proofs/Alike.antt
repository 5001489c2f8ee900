-- Phases of a network are phases of each with the same links and addresses, whatever its costs and owners.
use Rattle.std.proofs.Common.{◌≡◌, ℕ, ◌<◌, List, [], ◌∷◌, Option, Some, None, option_map, unwrap_or, refl, ap, sym, subst, ◌∙◌}
use Rattle.router_core.specs.Machine.{Arrives}
use Rattle.router_core.specs.declared.answer.Answer.{Answer}
use Rattle.ripng_world.specs.declared.network.NetInterface.{NetInterface}
use Rattle.ripng_world.specs.Network.{Network, interface_at}
use Rattle.ripng_world.specs.World.{World, Event, Deliver, Stranger, Tick, Restart, Shutdown, LinkDown, LinkUp, Reconfigure, RouterMoves, Happens, address_at, arrival_of}
use Rattle.ripng_world.proofs.NetworkNow.{AreAlike, alike_back, linked_alike, place_of}
use Rattle.ripng_phases.specs.Phases.{Step, Takes, IsHeardUpdate, Before, IsPhase, PhasesAfter, before_next}

module _ (net other : Network) (same : AreAlike net other) where
  pub address_alike : (router iface : ℕ) → address_at net router iface ≡ address_at other router iface
  address_alike router iface =
      sym (of_place (interface_at net router iface)) ∙ ap (λ o. unwrap_or (option_map (λ (t : ℕ × ℕ × ℕ × ℕ). t.1) o) 0) (sym (same.places router iface)) ∙ of_place (interface_at other router iface)
    where
      of_place : (o : Option NetInterface) → unwrap_or (option_map (λ (t : ℕ × ℕ × ℕ × ℕ). t.1) (option_map place_of o)) 0 ≡ unwrap_or (option_map (λ (i : NetInterface). i.interface.addr) o) 0
      of_place None = refl
      of_place (Some i) = refl

  pub happens_alike : (w w' : World) (e : Event) (answer : Answer) → Happens net w e answer w' → Happens other w e answer w'
  happens_alike w w' (Deliver datagram router iface now) answer d =
      record {
        sent = d.sent;
        sent_is = d.sent_is;
        linked = linked_alike net other same d.sent.router d.sent.iface router iface d.linked;
        moves = subst (λ a. RouterMoves w router (Arrives (record (arrival_of net d.sent iface now) { source = a })) answer w') (address_alike d.sent.router d.sent.iface) d.moves;
      }
  happens_alike w w' (Stranger router x) answer h = h
  happens_alike w w' (Tick router now word) answer h = h
  happens_alike w w' (Restart router now) answer h = h
  happens_alike w w' (Shutdown router now) answer h = h
  happens_alike w w' (LinkDown router now on) answer h = h
  happens_alike w w' (LinkUp router now on) answer h = h
  happens_alike w w' (Reconfigure router now c) answer h = h

  pub takes_alike : (steps : List Step) (w w' : World) → Takes net w steps w' → Takes other w steps w'
  takes_alike [] w w' is = is
  takes_alike (s ∷ steps) w w' is = (is.0, happens_alike w s.after s.event s.answer is.1, is.2, takes_alike steps s.after w' is.3)

  pub phase_alike : (past : Before) (w w' : World) (steps : List Step) → IsPhase net past w steps w' → IsPhase other past w steps w'
  phase_alike past w w' steps is =
      record {
        takes = takes_alike steps w w' is.takes;
        told = λ router here. told_alike router (is.told router (subst (λ n. router < n) same.size here));
        recent = is.recent;
        in_order = is.in_order;
        close = is.close;
      }
    where
      told_alike : (router : ℕ) → IsHeardUpdate net w steps router → IsHeardUpdate other w steps router
      told_alike router u =
          record {
            before = u.before;
            tick = u.tick;
            after = u.after;
            parts = u.parts;
            now = u.now;
            word = u.word;
            ticks = u.ticks;
            due = u.due;
            heard = λ datagram to iface d late is linked elsewhere.
                u.heard datagram to iface d late is (linked_alike other net (alike_back net other same) d.router d.iface to iface linked) elsewhere;
          }

  pub phases_alike : (phases : List (List Step)) (past : Before) (w w' : World) → PhasesAfter net past w phases w' → PhasesAfter other past w phases w'
  phases_alike [] past w w' is = is
  phases_alike (steps ∷ phases) past w w' is = (is.0, phase_alike past w is.0 steps is.1, phases_alike phases (before_next w steps) is.0 w' is.2)
