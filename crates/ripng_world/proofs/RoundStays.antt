-- A router of a network stays one, whatever happens.
use Rattle.std.proofs.Common.{◌≡◌, inl, inr, ℕ, List, [], ◌∷◌, Some, slice_get, ap, ◌∙◌}
use Rattle.router_core.specs.Machine.{State, Happening}
use Rattle.router_core.specs.declared.answer.Answer.{Answer}
use Rattle.ripng_world.specs.Network.{Network}
use Rattle.ripng_world.specs.World.{World, Event, Deliver, Stranger, Tick, Restart, Shutdown, LinkDown, LinkUp, Reconfigure, RouterMoves, Happens}
use Rattle.ripng_world.specs.Rounds.{AllTick, AllHeard}
use Rattle.ripng_world.proofs.RoundNeighbors.{state_after}

pub move_stays : (w w' : World) (router : ℕ) (what : Happening) (answer : Answer) → RouterMoves w router what answer w' → (r : ℕ) (s : State) → slice_get w.states r ≡ Some s → (t : State) × (slice_get w'.states r ≡ Some t)
move_stays w w' router what answer m r s is =
    elim (state_after w.states router m.old m.new m.old_is r s is) [
      | inl a ↦ (m.new, ap (λ (ss : List State). slice_get ss r) m.states ∙ a.2)
      | inr b ↦ (s, ap (λ (ss : List State). slice_get ss r) m.states ∙ b)
    ]

pub event_stays : (net : Network) (w w' : World) (e : Event) (answer : Answer) → Happens net w e answer w' → (r : ℕ) (s : State) → slice_get w.states r ≡ Some s → (t : State) × (slice_get w'.states r ≡ Some t)
event_stays net w w' (Deliver datagram router iface now) answer d r s is = move_stays w w' router _ answer d.moves r s is
event_stays net w w' (Stranger router x) answer i r s is = move_stays w w' router _ answer i.moves r s is
event_stays net w w' (Tick router now word) answer m r s is = move_stays w w' router _ answer m r s is
event_stays net w w' (Restart router now) answer m r s is = move_stays w w' router _ answer m r s is
event_stays net w w' (Shutdown router now) answer m r s is = move_stays w w' router _ answer m r s is
event_stays net w w' (LinkDown router now on) answer m r s is = move_stays w w' router _ answer m r s is
event_stays net w w' (LinkUp router now on) answer m r s is = move_stays w w' router _ answer m r s is
event_stays net w w' (Reconfigure router now c) answer m r s is = move_stays w w' router _ answer m r s is

pub ticks_stay : (net : Network) (events : List Event) (w w' : World) → AllTick net w events w' → (r : ℕ) (s : State) → slice_get w.states r ≡ Some s → (t : State) × (slice_get w'.states r ≡ Some t)
ticks_stay net [] w w' run r s is = (s, ap (λ (v : World). slice_get v.states r) run ∙ is)
ticks_stay net (e ∷ events) w w' run r s is =
    let one = event_stays net w run.0 e run.1 run.3 r s is in
    ticks_stay net events run.0 w' run.4 r one.0 one.1

pub hearings_stay : (net : Network) (events : List Event) (w w' : World) → AllHeard net w events w' → (r : ℕ) (s : State) → slice_get w.states r ≡ Some s → (t : State) × (slice_get w'.states r ≡ Some t)
hearings_stay net [] w w' run r s is = (s, ap (λ (v : World). slice_get v.states r) run ∙ is)
hearings_stay net (e ∷ events) w w' run r s is =
    let one = event_stays net w run.0 e run.1 run.2 r s is in
    hearings_stay net events run.0 w' run.4 r one.0 one.1
