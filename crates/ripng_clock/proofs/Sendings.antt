-- What was sent stays, and what a step reaches.
use Rattle.std.proofs.Common.{◌≡◌, ℕ, zero, suc, ◌+◌, ◌<◌, ◌≤◌, List, [], ◌∷◌, ◌++◌, map, length, Some, slice_get, refl, ap, sym, subst, ◌∙◌, arith, append_assoc, append-nil, length-append}
use Rattle.router_core.specs.declared.answer.Answer.{Answer}
use Rattle.ripng_world.specs.Network.{Network}
use Rattle.ripng_world.specs.World.{World, Event, Deliver, Stranger, Tick, Restart, Shutdown, LinkDown, LinkUp, Reconfigure, Happens, sent_by}
use Rattle.ripng_world.specs.declared.event.Sent.{Sent}
use Rattle.ripng_phases.specs.Phases.{Step, Takes, reached}

abbrev pub Grows : World → World → Type 0
Grows w w' = (new : List Sent) × (w'.sent ≡ w.sent ++ new)

pub event_grows : (net : Network) (w w' : World) (e : Event) (answer : Answer) → Happens net w e answer w' → Grows w w'
event_grows net w w' (Deliver datagram router iface now) answer d = (map (sent_by router) answer.sends, d.moves.sent)
event_grows net w w' (Stranger router x) answer i = (map (sent_by router) answer.sends, i.moves.sent)
event_grows net w w' (Tick router now word) answer m = (map (sent_by router) answer.sends, m.sent)
event_grows net w w' (Restart router now) answer m = (map (sent_by router) answer.sends, m.sent)
event_grows net w w' (Shutdown router now) answer m = (map (sent_by router) answer.sends, m.sent)
event_grows net w w' (LinkDown router now on) answer m = (map (sent_by router) answer.sends, m.sent)
event_grows net w w' (LinkUp router now on) answer m = (map (sent_by router) answer.sends, m.sent)
event_grows net w w' (Reconfigure router now c) answer m = (map (sent_by router) answer.sends, m.sent)

pub takes_grows : (net : Network) (steps : List Step) (w w' : World) → Takes net w steps w' → Grows w w'
takes_grows net [] w w' is = ([], ap (λ (v : World). v.sent) is ∙ sym (append-nil w.sent))
takes_grows net (s ∷ steps) w w' is =
    let one = event_grows net w s.after s.event s.answer is.1 in
    let rest = takes_grows net steps s.after w' is.3 in
    (one.0 ++ rest.0, rest.1 ∙ ap (λ xs. xs ++ rest.0) one.1 ∙ append_assoc w.sent one.0 rest.0)

pub no_fewer : (w w' : World) → Grows w w' → length w.sent ≤ length w'.sent
no_fewer w w' grows = more (length w.sent) (length grows.0) (length w'.sent) (ap length grows.1 ∙ length-append w.sent grows.0)
  where
    more : (a b c : ℕ) → c ≡ a + b → a ≤ c
    more a b c e = omega arith

-- steps lead to the world that they reach
pub takes_reached : (net : Network) (steps : List Step) (w w' : World) → Takes net w steps w' → w' ≡ reached w steps
takes_reached net [] w w' is = is
takes_reached net (s ∷ steps) w w' is = takes_reached net steps s.after w' is.3

-- and those after some of them lead on from there
pub takes_rest : (net : Network) (steps later : List Step) (w w' : World) → Takes net w (steps ++ later) w' → Takes net (reached w steps) later w'
takes_rest net [] later w w' is = is
takes_rest net (s ∷ steps) later w w' is = takes_rest net steps later s.after w' is.3
