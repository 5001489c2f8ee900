-- What a live route rests on stays: a datagram that was sent is kept.
use Rattle.std.proofs.Common.{◌≡◌, ℕ, List, Some, slice_get, ap, ◌∙◌}
use Rattle.prefix6.specs.Prefix.{Prefix6}
use Rattle.route_table.specs.Route.{RouteValue}
use Rattle.router_core.specs.Machine.{Happening}
use Rattle.router_core.specs.declared.answer.Answer.{Answer}
use Rattle.ripng_world.specs.Network.{Network}
use Rattle.ripng_world.specs.World.{World, Event, Deliver, Stranger, Tick, Restart, Shutdown, LinkDown, LinkUp, Reconfigure, RouterMoves, Happens}
use Rattle.ripng_world.specs.declared.event.Sent.{Sent}
use Rattle.ripng_world.proofs.Members.{get_left}
use Rattle.ripng_phases.proofs.Rows.{IsSame}
use Rattle.ripng_phases.proofs.Resting.{IsRestingOn}

-- what was sent stays
abbrev pub Keeps : World → World → Type 0
Keeps w w' = (i : ℕ) (d : Sent) → slice_get w.sent i ≡ Some d → slice_get w'.sent i ≡ Some d

move_keeps : (w w' : World) (router : ℕ) (what : Happening) (answer : Answer) → RouterMoves w router what answer w' → Keeps w w'
move_keeps w w' router what answer m i d is = ap (λ (ds : List Sent). slice_get ds i) m.sent ∙ get_left w.sent _ i d is

pub event_keeps_sent : (net : Network) (w w' : World) (e : Event) (answer : Answer) → Happens net w e answer w' → Keeps w w'
event_keeps_sent net w w' (Deliver datagram router iface now) answer d = move_keeps w w' router _ answer d.moves
event_keeps_sent net w w' (Stranger router x) answer i = move_keeps w w' router _ answer i.moves
event_keeps_sent net w w' (Tick router now word) answer m = move_keeps w w' router _ answer m
event_keeps_sent net w w' (Restart router now) answer m = move_keeps w w' router _ answer m
event_keeps_sent net w w' (Shutdown router now) answer m = move_keeps w w' router _ answer m
event_keeps_sent net w w' (LinkDown router now on) answer m = move_keeps w w' router _ answer m
event_keeps_sent net w w' (LinkUp router now on) answer m = move_keeps w w' router _ answer m
event_keeps_sent net w w' (Reconfigure router now c) answer m = move_keeps w w' router _ answer m

-- the same route rests on the same in a later world
unfoldable pub rests_later : (net : Network) (w w' : World) (first router : ℕ) (p : Prefix6) (q r : RouteValue) → Keeps w w' → IsSame q r → IsRestingOn net w first router p q → IsRestingOn net w' first router p r
rests_later net w w' first router p q r keeps same x =
    record {
      datagram = x.datagram;
      recent = x.recent;
      sent = x.sent;
      sent_is = keeps x.datagram x.sent x.sent_is;
      iface = x.iface;
      linked = x.linked;
      apart = x.apart;
      entries = x.entries;
      spelled = x.spelled;
      entry = x.entry;
      stands = x.stands;
      names = x.names;
      metric = same.metric ∙ x.metric;
      next_hop = x.next_hop;
      origin = same.origin ∙ x.origin;
    }
