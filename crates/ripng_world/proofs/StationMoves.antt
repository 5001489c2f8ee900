-- How the move of a router at its place moves the world, and what it means that nothing refuses an event.
use Rattle.std.proofs.Common.{◌≡◌, inl, inr, ℕ, zero, suc, ◌<◌, ◌++◌, not, Bool, true, false, cond, ◌==◌, ◌&&◌, nat_le, unwrap_or, List, [], ◌∷◌, map, length, get_or, Option, Some, None, is_none, option_map, option_and_then, slice_get, slice_set, refl, ap, sym, subst, ◌∙◌, arith}
use Rattle.std.specs.Prelude.{Result, Ok, Err, IfErr, IfOk, OnErr}
use Rattle.std.specs.Result.{IsErrAnd, result_err}
use Rattle.std.specs.Option.{option_map_or}
use Rattle.std.proofs.lemmas.List.{append-nil, length-map}
use Rattle.std.proofs.lemmas.Bool.{eqb-true}
use Rattle.std.proofs.lemmas.Bool.Decides.{nat_tests}
use Rattle.std.proofs.lemmas.Option.{slice_get-map, slice_get-get_or, slice_get_cases, slice_get_within, get_or_from_slice_get}
use Rattle.route_table.proofs.TableLaws.{Some-same}
use Rattle.ripng_wire.specs.Wire.{first_reason}
use Rattle.ripng_wire.proofs.FirstReason.{each_passes}
use Rattle.router_core.proofs.ReasonsOfEach.{first_reason-append, first_reason-found}
use Rattle.ripng_world.proofs.NetworkLaws.{first_reason-map}
use Rattle.prefix6.specs.Prefix.{is_routable}
use Rattle.std.specs.FinMap as map_of
use Rattle.route_table.specs.Table.{table_limit}
use Rattle.router_core.specs.Config.{has_prefix, is_usable_cost}
use Rattle.router_core.specs.Config.{owned_limit}
use Rattle.router_core.specs.Machine.{State, Happening, Arrives, Ticks, Restarts, Reconfigures, ShutsDown, LinkGoesDown, LinkComesUp, Moves}
use Rattle.router_core.specs.Received.{Received}
use Rattle.router_core.specs.declared.answer.Answer.{Answer}
use Rattle.ripng_world.specs.Network.{Network, Node, AreLinked, config_of, interface_at}
use Rattle.router_core.specs.Reconfiguring.{NamesInterface, reconfigure_fault, reconfigure_reasons}
use Rattle.router_core.specs.declared.reconfiguring.Change.{Change}
use Rattle.router_core.specs.declared.reconfiguring.Change.TheVariants.{Cost, Own, Disown}
use Rattle.router_core.specs.declared.reconfiguring.ReconfigureRefused.{ReconfigureRefused}
use Rattle.router_core.specs.declared.reconfiguring.ReconfigureRefused.TheVariants as refused
use Rattle.ripng_world.specs.Rounds.{router_of}
use Rattle.ripng_world.specs.World.{World, Event, RouterMoves, Happens, Deliver, Stranger, Tick, Restart, Shutdown, LinkDown, LinkUp, Reconfigure, reconfigurations_in, reconfigurations_of, is_heard, arrival_from, address_at, sent_by}
use Rattle.ripng_world.specs.Events.{event_of}
use Rattle.ripng_world.specs.declared.event.Event as coded
use Rattle.ripng_world.specs.declared.event.Event.TheVariants as variants
use Rattle.ripng_world.specs.Stations.{StationValue, IsFor, IsPlaced, network_of, world_of}
use Rattle.ripng_world.specs.Labs.{LabValue, Acts, IsOwnRefusal, IsPlacedIn, IsRefusal, StepEnds, asked_reasons, lab_of, event_fault, event_reasons, is_heard_at, missing_router_reasons, missing_interface_reasons, named_reasons, refusal_of, step_fault, is_one_link, link_at, link_of_datagram}
use Rattle.ripng_world.specs.Lying.{LiesGiving, lie_fault, lie_reasons}
use Rattle.ripng_world.specs.declared.event.LabError.{LabError}
use Rattle.ripng_world.specs.declared.network.NetInterface.{NetInterface}
use Rattle.ripng_world.specs.declared.event.Sent.{Sent}

-- ---- one station moves

pub map-slice_set : {X Y : Type 0} (f : X → Y) (xs : List X) (i : ℕ) (x : X) → map f (slice_set xs i x) ≡ slice_set (map f xs) i (f x)
map-slice_set f [] i x = refl
map-slice_set f (y ∷ ys) zero x = refl
map-slice_set f (y ∷ ys) (suc i) x = ap (λ zs. f y ∷ zs) (map-slice_set f ys i x)

slice_set_same : {X : Type 0} (xs : List X) (i : ℕ) (x : X) → slice_get xs i ≡ Some x → slice_set xs i x ≡ xs
slice_set_same [] i x is = refl
slice_set_same (y ∷ ys) zero x is = let e : x ≡ y = cc in ap (λ z. z ∷ ys) e
slice_set_same (y ∷ ys) (suc i) x is = ap (λ zs. y ∷ zs) (slice_set_same ys i x is)

module _ (stations : List StationValue) (router : ℕ) (old new : StationValue) (old_is : slice_get stations router ≡ Some old) (same : new.node ≡ old.node) where
  pub network_kept : network_of (slice_set stations router new) ≡ network_of stations
  network_kept =
      map-slice_set (λ s. s.node) stations router new
      ∙ ap (slice_set (network_of stations) router) same
      ∙ slice_set_same (network_of stations) router old.node (slice_get-map (λ (s : StationValue). s.node) stations router ∙ ap (option_map (λ (s : StationValue). s.node)) old_is)

-- ---- nothing refuses an event

pub some_of : {X : Type 0} (o : Option X) → is_none o ≡ false → (x : X) × (o ≡ Some x)
some_of None e = absurd (cc)
some_of (Some x) e = (x, refl)

mapped_of : {X Y : Type 0} (f : X → Y) (o : Option X) (y : Y) → option_map f o ≡ Some y → (x : X) × (o ≡ Some x) × (f x ≡ y)
mapped_of f None y e = absurd (cc)
mapped_of f (Some x) y e = (x, refl, cc)

pub then_of : {X Y : Type 0} (f : X → Option Y) (o : Option X) (y : Y) → option_and_then f o ≡ Some y → (x : X) × (o ≡ Some x) × (f x ≡ Some y)
then_of f None y e = absurd (cc)
then_of f (Some x) y e = (x, refl, e)

one_link : (o p : Option ℕ) → not (is_one_link o p) ≡ false → (l : ℕ) × (o ≡ Some l) × (p ≡ Some l)
one_link (Some a) (Some b) e = (a, refl, ap Some (sym (eqb-true a b (twice (a == b) e))))
  where
    twice : (b : Bool) → not b ≡ false → b ≡ true
    twice true e = refl
    twice false e = absurd (cc)
one_link None p e = absurd (cc)
one_link (Some a) None e = absurd (cc)

heard_if : (b : Bool) → not b ≡ false → b ≡ true
heard_if true e = refl
heard_if false e = absurd (cc)

-- a router that must be there
router_there : (net : Network) (router : ℕ) → first_reason (missing_router_reasons net router) ≡ None → (node : Node) × (slice_get net router ≡ Some node)
router_there net router none =
    let h = (each_passes (missing_router_reasons net router) none).0 in
    let few : router < length net = grind (arith, nat_tests, h) in
    elim (slice_get_cases net router).1 [
      | inl found ↦ (found.0, found.2)
      | inr past ↦ absurd (omega (arith, past.0, few))
    ]

-- and so must be an interface
interface_there : (net : Network) (router iface : ℕ) → is_none (interface_at net router iface) ≡ false → (node : Node) × (slice_get net router ≡ Some node) × (iface < length node.interfaces)
interface_there net router iface there =
    let i = some_of (interface_at net router iface) there in
    let node = then_of (λ (n : Node). slice_get n.interfaces iface) (slice_get net router) i.0 i.1 in
    (node.0, node.1, slice_get_within node.0.interfaces iface i.0 node.2)

module _ (lab : LabValue) where
  -- what the event names is there
  pub placed : (e : Event) → event_fault lab e ≡ None → IsPlacedIn lab e
  placed (Deliver datagram router iface now) none =
      let passes = each_passes (event_reasons lab (Deliver datagram router iface now)) none in
      let at = interface_there lab.network router iface passes.1.0 in
      let h = passes.1.1.0 in
      let few : datagram < length lab.world.sent = grind (arith, nat_tests, h) in
      (at.0, at.1, (few, at.2))
  placed (Stranger router x) none = interface_there lab.network router x.iface (each_passes (event_reasons lab (Stranger router x)) none).1.0
  placed (Tick router now word) none = let at = router_there lab.network router none in (at.0, at.1, tt)
  placed (Restart router now) none = let at = router_there lab.network router none in (at.0, at.1, tt)
  placed (Shutdown router now) none = let at = router_there lab.network router none in (at.0, at.1, tt)
  placed (LinkDown router now iface) none = let at = interface_there lab.network router iface (each_passes (missing_interface_reasons lab.network router iface) none).1.0 in (at.0, at.1, tt)
  placed (LinkUp router now iface) none = let at = interface_there lab.network router iface (each_passes (missing_interface_reasons lab.network router iface) none).1.0 in (at.0, at.1, tt)
  placed (Reconfigure router now c) none = named c none
    where
      named : (d : Change) → first_reason (named_reasons lab.network router d) ≡ None → (node : Node) × (slice_get lab.network router ≡ Some node) × NamesInterface (config_of node) d
      named (Cost iface cost) e =
          let at = interface_there lab.network router iface (each_passes (named_reasons lab.network router (Cost iface cost)) e).1.0 in
          (at.0, at.1, subst (λ (n : ℕ). iface < n) (sym (length-map at.0.interfaces (λ (i : NetInterface). i.interface))) at.2)
      named (Own p tag) e = let at = router_there lab.network router e in (at.0, at.1, tt)
      named (Disown p) e = let at = router_there lab.network router e in (at.0, at.1, tt)

  -- and a datagram comes to an interface of its link
  linked : (datagram router iface now : ℕ) (d : Sent) → event_fault lab (Deliver datagram router iface now) ≡ None → slice_get lab.world.sent datagram ≡ Some d → AreLinked lab.network d.router d.iface router iface
  linked datagram router iface now d none is =
      let net = lab.network in
      let passes = each_passes (event_reasons lab (Deliver datagram router iface now)) none in
      let link = one_link (link_of_datagram lab datagram) (link_at net router iface) passes.1.1.1.0 in
      let there = mapped_of (λ (i : NetInterface). i.link) (interface_at net router iface) link.0 link.2 in
      let own : link_at net d.router d.iface ≡ Some link.0 = sym (ap (option_and_then (λ (s : Sent). link_at net s.router s.iface)) is) ∙ link.1 in
      let here = mapped_of (λ (i : NetInterface). i.link) (interface_at net d.router d.iface) link.0 own in
      record { here = here.0; there = there.0; here_is = here.1; there_is = there.1; same_link = here.2 ∙ sym there.2 }

  -- an arrival comes to an interface of the state, where it does to one of the node
  known : (router : ℕ) (x : Received) (s : State) → is_none (interface_at lab.network router x.iface) ≡ false
      → ((node : Node) → slice_get lab.network router ≡ Some node → length s.config.interfaces ≡ length node.interfaces) → x.iface < length s.config.interfaces
  known router x s there lawful =
      let at = interface_there lab.network router x.iface there in
      subst (λ (n : ℕ). x.iface < n) (sym (lawful at.0 at.1)) at.2

-- ---- what an event is for its router

-- it is something, from whatever addresses
pub something : (address : Sent → ℕ) (node : Node) (sent : List Sent) (e : Event) → IsPlaced node sent e → (h : Happening) × IsFor address sent e h
something address node sent (Deliver datagram router iface now) at = elim (slice_get_cases sent datagram).1 [
  | inl found ↦ (Arrives (arrival_from (address found.0) found.0 iface now), (found.0, found.2, refl))
  | inr past ↦ absurd (omega (arith, past.0, at.0))
]
something address node sent (Stranger router x) at = (Arrives x, refl)
something address node sent (Tick router now word) at = (Ticks now word, refl)
something address node sent (Restart router now) at = (Restarts now, refl)
something address node sent (Shutdown router now) at = (ShutsDown now, refl)
something address node sent (LinkDown router now iface) at = (LinkGoesDown now iface, refl)
something address node sent (LinkUp router now iface) at = (LinkComesUp now iface, refl)
something address node sent (Reconfigure router now c) at = (Reconfigures now c, refl)

-- only the address of the datagram of a delivery matters
pub from_there : (address other : Sent → ℕ) (sent : List Sent) (e : Event) (h : Happening)
    → ((datagram router iface now : ℕ) (d : Sent) → e ≡ Deliver datagram router iface now → slice_get sent datagram ≡ Some d → address d ≡ other d) → IsFor address sent e h → IsFor other sent e h
from_there address other sent (Deliver datagram router iface now) h same is =
    (is.0, is.1, is.2 ∙ ap (λ (a : ℕ). Arrives (arrival_from a is.0 iface now)) (same datagram router iface now is.0 refl is.1))
from_there address other sent (Stranger router x) h same is = is
from_there address other sent (Tick router now word) h same is = is
from_there address other sent (Restart router now) h same is = is
from_there address other sent (Shutdown router now) h same is = is
from_there address other sent (LinkDown router now iface) h same is = is
from_there address other sent (LinkUp router now iface) h same is = is
from_there address other sent (Reconfigure router now c) h same is = is

-- the changes that it adds
pub changes_for : (address : Sent → ℕ) (sent : List Sent) (e : Event) (h : Happening) → IsFor address sent e h → reconfigurations_of (router_of e) h ≡ reconfigurations_in (e ∷ [])
changes_for address sent (Deliver datagram router iface now) h is = ap (reconfigurations_of router) is.2
changes_for address sent (Stranger router x) h is = ap (reconfigurations_of router) is
changes_for address sent (Tick router now word) h is = ap (reconfigurations_of router) is
changes_for address sent (Restart router now) h is = ap (reconfigurations_of router) is
changes_for address sent (Shutdown router now) h is = ap (reconfigurations_of router) is
changes_for address sent (LinkDown router now iface) h is = ap (reconfigurations_of router) is
changes_for address sent (LinkUp router now iface) h is = ap (reconfigurations_of router) is
changes_for address sent (Reconfigure router now c) h is = ap (reconfigurations_of router) is

-- a move by one name is a move by another
unfoldable moved_as : (w w' : World) (router : ℕ) (h h' : Happening) (answer : Answer) → RouterMoves w router h answer w' → h ≡ h' → RouterMoves w router h' answer w'
moved_as w w' router h h' answer m is =
    record {
      old = m.old;
      new = m.new;
      old_is = m.old_is;
      moves = subst (λ k. Moves m.old k answer m.new) is m.moves;
      states = m.states;
      sent = m.sent;
      reconfigurations = m.reconfigurations ∙ ap (λ k. w.reconfigurations ++ reconfigurations_of router k) is;
    }

-- ---- a station moves for an event

module _ (stations : List StationValue) (sent : List Sent) (reconfigurations : List (ℕ × Change)) (e : Event) (r : ℕ) (is : r ≡ router_of e) (placed : IsPlacedIn (lab_of stations sent reconfigurations) e) where
  -- it stands at its place
  pub station_at : (s : StationValue) → s ≡ get_or stations r s → slice_get stations r ≡ Some s
  station_at s at =
      let there = slice_get_within (network_of stations) (router_of e) placed.0 placed.1 in
      let within : r < length stations = omega (arith, there, is, length-map stations (λ (t : StationValue). t.node)) in
      slice_get-get_or stations r s within ∙ ap Some (sym at)

  module _ (old : StationValue) (here : slice_get stations r ≡ Some old) where
    pub state_at : slice_get (map (λ (s : StationValue). s.state) stations) (router_of e) ≡ Some old.state
    state_at =
        subst (λ (n : ℕ). slice_get (map (λ (s : StationValue). s.state) stations) n ≡ Some old.state) is
        (slice_get-map (λ (s : StationValue). s.state) stations r ∙ ap (option_map (λ (s : StationValue). s.state)) here)

    -- the event is placed there
    pub placed_at : (ds : List Sent) → ds ≡ sent → IsPlaced old.node ds e
    placed_at ds same =
        let own = subst (λ (k : ℕ). slice_get (network_of stations) k ≡ Some old.node) is
        (slice_get-map (λ (s : StationValue). s.node) stations r ∙ ap (option_map (λ (s : StationValue). s.node)) here) in
        subst (λ (n : Node). IsPlaced n ds e) (Some-same placed.0 old.node (sym placed.1 ∙ own)) (subst (λ (zs : List Sent). IsPlaced placed.0 zs e) (sym same) placed.2)

    -- where it stays as it is, so does the lab, and it is refused
    pub unmoved : {T E : Type 0} (result : Result T E) (lab : LabValue) (new : StationValue) (sent' : List Sent) (reconfigurations' : List (ℕ × Change)) → lab_of stations sent reconfigurations ≡ lab
        → new ≡ old → sent' ≡ sent → reconfigurations' ≡ reconfigurations → OnErr result (lab_of (slice_set stations r new) sent' reconfigurations' ≡ lab)
    unmoved (Ok x) lab new sent' reconfigurations' lab_is same sents changes = tt
    unmoved (Err why) lab new sent' reconfigurations' lab_is same sents changes =
        ap (λ (ss : List StationValue). lab_of ss sent' reconfigurations') (ap (slice_set stations r) same ∙ slice_set_same stations r old here)
        ∙ ap (λ (ds : List Sent). lab_of stations ds reconfigurations') sents
        ∙ ap (λ (cs : List (ℕ × Change)). lab_of stations sent cs) changes ∙ lab_is

    pub acts : (new : StationValue) (source : ℕ) (answer given : Answer) (sent' : List Sent) (reconfigurations' : List (ℕ × Change)) → new.node ≡ old.node → length old.state.config.interfaces ≡ length old.node.interfaces
        → ((datagram router iface now : ℕ) (d : Sent) → e ≡ Deliver datagram router iface now → slice_get sent datagram ≡ Some d → source ≡ address_at (network_of stations) d.router d.iface)
        → ((h : Happening) → IsFor (λ _. source) sent e h → Moves old.state h answer new.state)
        → sent' ≡ sent ++ map (sent_by r) answer.sends → reconfigurations' ≡ reconfigurations ++ reconfigurations_in (e ∷ []) → given ≡ record answer { sends = [] }
        → Acts (lab_of stations sent reconfigurations) e given (world_of (slice_set stations r new) sent' reconfigurations')
    acts new source answer given sent' reconfigurations' node lawful same moves added done given_is =
        let x = something (λ _. source) placed.0 sent e placed.2 in
        record {
          happening = x.0;
          is_for = from_there (λ _. source) (λ d. address_at (network_of stations) d.router d.iface) sent e x.0 same x.1;
          answer = answer;
          moves = record {
            old = old.state;
            new = new.state;
            old_is = state_at;
            moves = moves x.0 x.1;
            states = map-slice_set (λ (s : StationValue). s.state) stations r new ∙ ap (λ (n : ℕ). slice_set (map (λ (s : StationValue). s.state) stations) n new.state) is;
            sent = added ∙ ap (λ (n : ℕ). sent ++ map (sent_by n) answer.sends) is;
            reconfigurations = done ∙ ap (λ (cs : List (ℕ × Change)). reconfigurations ++ cs) (sym (changes_for (λ _. source) sent e x.0 x.1));
          };
          given_is = given_is;
          lawful = λ n at.
              let own = subst (λ (k : ℕ). slice_get (network_of stations) k ≡ Some old.node) is
              (slice_get-map (λ (s : StationValue). s.node) stations r ∙ ap (option_map (λ (s : StationValue). s.node)) here) in
              lawful ∙ ap (λ (m : Node). length m.interfaces) (Some-same old.node n (sym own ∙ at));
        }

-- the datagram that a delivery brings, and no other event does
pub same_source : (sent : List Sent) (stations : List StationValue) (e : Event) (number router iface now source : ℕ) (x : Sent) → e ≡ Deliver number router iface now → x ≡ get_or sent number x
    → source ≡ address_at (network_of stations) x.router x.iface
    → (datagram router' iface' now' : ℕ) (d : Sent) → e ≡ Deliver datagram router' iface' now' → slice_get sent datagram ≡ Some d → source ≡ address_at (network_of stations) d.router d.iface
same_source sent stations e number router iface now source x is at from datagram router' iface' now' d also there =
    let numbers : number ≡ datagram = number_of (sym is ∙ also) in
    let one : x ≡ d = at ∙ get_or_from_slice_get sent number d x (subst (λ (n : ℕ). slice_get sent n ≡ Some d) (sym numbers) there) in
    from ∙ ap (λ (y : Sent). address_at (network_of stations) y.router y.iface) one
  where
    number_of : Deliver number router iface now ≡ Deliver datagram router' iface' now' → number ≡ datagram
    number_of e = cc

pub no_source : (x : coded.Event) → ((datagram router iface : ℕ) (now : ℕ) → x ≡ variants.Deliver datagram router iface now → ⊥) → (datagram router iface now : ℕ) → event_of x ≡ Deliver datagram router iface now → ⊥
no_source (variants.Deliver d r i n) never datagram router iface now is = never d r i n refl
no_source (variants.Stranger r x) never datagram router iface now is = cc
no_source (variants.Tick r n w) never datagram router iface now is = cc
no_source (variants.Restart r n) never datagram router iface now is = cc
no_source (variants.Shutdown r n) never datagram router iface now is = cc
no_source (variants.LinkDown r n i) never datagram router iface now is = cc
no_source (variants.LinkUp r n i) never datagram router iface now is = cc
no_source (variants.Reconfigure r n c) never datagram router iface now is = cc

-- nor does another event change a configuration
pub no_change : (x : coded.Event) (cs : List (ℕ × Change)) → ((router now : ℕ) (c : Change) → x ≡ variants.Reconfigure router now c → ⊥) → cs ≡ cs ++ reconfigurations_in (event_of x ∷ [])
no_change (variants.Deliver d r i n) cs never = sym (append-nil cs)
no_change (variants.Stranger r x) cs never = sym (append-nil cs)
no_change (variants.Tick r n w) cs never = sym (append-nil cs)
no_change (variants.Restart r n) cs never = sym (append-nil cs)
no_change (variants.Shutdown r n) cs never = sym (append-nil cs)
no_change (variants.LinkDown r n i) cs never = sym (append-nil cs)
no_change (variants.LinkUp r n i) cs never = sym (append-nil cs)
no_change (variants.Reconfigure r n c) cs never = absurd (never r n c refl)

-- ---- the router has moved

module _ (lab : LabValue) (given : Answer) (w : World) where
  pub happened : (e : Event) → event_fault lab e ≡ None → (a : Acts lab e given w) → Happens lab.network lab.world e a.answer w
  unfolding moved_as
  happened (Deliver datagram router iface now) none a =
      record {
        sent = a.is_for.0;
        sent_is = a.is_for.1;
        linked = linked lab datagram router iface now a.is_for.0 none a.is_for.1;
        moves = moved_as lab.world w router a.happening _ a.answer a.moves a.is_for.2;
      }
  happened (Stranger router x) none a =
      let passes = each_passes (event_reasons lab (Stranger router x)) none in
      record {
        moves = moved_as lab.world w router a.happening _ a.answer a.moves a.is_for;
        known = known lab router x a.moves.old passes.1.0 a.lawful;
        unheard = sym (ap (λ (o : Option State). option_map_or (λ t. is_heard t x) o false) a.moves.old_is) ∙ passes.1.1.0;
      }
  happened (Tick router now word) none a = moved_as lab.world w router a.happening _ a.answer a.moves a.is_for
  happened (Restart router now) none a = moved_as lab.world w router a.happening _ a.answer a.moves a.is_for
  happened (Shutdown router now) none a = moved_as lab.world w router a.happening _ a.answer a.moves a.is_for
  happened (LinkDown router now iface) none a = moved_as lab.world w router a.happening _ a.answer a.moves a.is_for
  happened (LinkUp router now iface) none a = moved_as lab.world w router a.happening _ a.answer a.moves a.is_for
  happened (Reconfigure router now c) none a = moved_as lab.world w router a.happening _ a.answer a.moves a.is_for

  pub lied : (router : ℕ) (x : Received) → lie_fault lab router x ≡ None → Acts lab (Stranger router x) given w → LiesGiving lab router x given w
  unfolding moved_as
  lied router x none a =
      let passes = each_passes (lie_reasons lab router x) none in (
        a.answer,
        record {
          moves = moved_as lab.world w router a.happening _ a.answer a.moves a.is_for;
          known = known lab router x a.moves.old passes.1.0 a.lawful;
          heard = sym (ap (λ (o : Option State). option_map_or (λ t. is_heard t x) o false) a.moves.old_is) ∙ heard_if (is_heard_at lab.world router x) passes.1.1.0;
        },
        a.given_is,
      )

-- a liar's arrival is placed
pub lie_placed : (lab : LabValue) (router : ℕ) (x : Received) → lie_fault lab router x ≡ None → IsPlacedIn lab (Stranger router x)
lie_placed lab router x none = interface_there lab.network router x.iface (each_passes (lie_reasons lab router x) none).1.0

-- ---- changes of the configuration

-- the tests of the router itself
asked : (lab : LabValue) (router now : ℕ) (c : Change) (s : State) → slice_get lab.world.states router ≡ Some s → event_fault lab (Reconfigure router now c) ≡ None
    → step_fault lab (Reconfigure router now c) ≡ option_map LabError.ReconfigureRefused (reconfigure_fault s.config s.table c)
asked lab router now c s here none =
    first_reason-append (event_reasons lab (Reconfigure router now c)) (asked_reasons lab.world (Reconfigure router now c)) none
    ∙ ap (λ (o : Option State). first_reason (option_map_or (λ t. map (λ u. (u.0, LabError.ReconfigureRefused u.1)) (reconfigure_reasons t.config t.table c)) o [])) here
    ∙ first_reason-map LabError.ReconfigureRefused (reconfigure_reasons s.config s.table c)

-- none of them is for want of memory
refused_as : (s : State) (c : Change) (why : ReconfigureRefused) → reconfigure_fault s.config s.table c ≡ Some why → refusal_of why ≡ LabError.ReconfigureRefused why
refused_as s c refused.BadCost is = refl
refused_as s c refused.PrefixNotAllowed is = refl
refused_as s c refused.AlreadyOwned is = refl
refused_as s c refused.OwnedFull is = refl
refused_as s c refused.TableFull is = refl
refused_as s c refused.NotOwned is = refl
refused_as s c refused.OutOfMemory is = absurd (never c is)
  where
    -- by the tests of each kind
    never : (d : Change) → reconfigure_fault s.config s.table d ≡ Some refused.OutOfMemory → ⊥
    never (Cost iface cost) e = by_test (is_usable_cost cost) e
      where
        by_test : (a : Bool) → cond (not a) (Some refused.BadCost) None ≡ Some refused.OutOfMemory → ⊥
        by_test true e = cc
        by_test false e = cc
    never (Own p tag) e = by_tests (is_routable p) (has_prefix s.config.prefixes p) (nat_le owned_limit (length s.config.prefixes)) (is_none (map_of.get s.table p) && nat_le table_limit (map_of.len s.table)) e
      where
        by_tests : (a b c d : Bool) → cond (not a) (Some refused.PrefixNotAllowed) (cond b (Some refused.AlreadyOwned) (cond c (Some refused.OwnedFull) (cond d (Some refused.TableFull) None))) ≡ Some refused.OutOfMemory → ⊥
        by_tests false b c d e = cc
        by_tests true true c d e = cc
        by_tests true false true d e = cc
        by_tests true false false true e = cc
        by_tests true false false false e = cc
    never (Disown p) e = by_test (has_prefix s.config.prefixes p) e
      where
        by_test : (a : Bool) → cond (not a) (Some refused.NotOwned) None ≡ Some refused.OutOfMemory → ⊥
        by_test true e = cc
        by_test false e = cc

pub change_refused : (lab : LabValue) (router now : ℕ) (c : Change) (s : State) (why : ReconfigureRefused) → slice_get lab.world.states router ≡ Some s
    → event_fault lab (Reconfigure router now c) ≡ None → why ≡ unwrap_or (reconfigure_fault s.config s.table c) refused.OutOfMemory → IsRefusal lab (Reconfigure router now c) (refusal_of why)
change_refused lab router now c s why here none is = by_fault (reconfigure_fault s.config s.table c) refl is
  where
    by_fault : (o : Option ReconfigureRefused) → reconfigure_fault s.config s.table c ≡ o → why ≡ unwrap_or o refused.OutOfMemory → IsRefusal lab (Reconfigure router now c) (refusal_of why)
    by_fault None fault same = inr (none, ap refusal_of same)
    by_fault (Some f) fault same =
        inl (asked lab router now c s here none ∙ ap (option_map LabError.ReconfigureRefused) fault ∙ ap Some (sym (ap refusal_of same ∙ refused_as s c f fault)))

-- nor of an event that is refused before its router is asked
pub refused_first : (lab : LabValue) (e : Event) (why : LabError) → event_fault lab e ≡ Some why → IsRefusal lab e why
refused_first lab e why fault = inl (first_reason-found (event_reasons lab e) (asked_reasons lab.world e) why fault)

-- an event that happens fails no test
pub happened_passes : (lab : LabValue) (e : Event) (answer : Answer) (w' : World) → event_fault lab e ≡ None → Happens lab.network lab.world e answer w' → step_fault lab e ≡ None
happened_passes lab (Reconfigure router now c) answer w' none happens =
    asked lab router now c happens.old happens.old_is none ∙ ap (option_map LabError.ReconfigureRefused) happens.moves.allowed
happened_passes lab (Deliver datagram router iface now) answer w' none happens = first_reason-append (event_reasons lab (Deliver datagram router iface now)) [] none
happened_passes lab (Stranger router x) answer w' none happens = first_reason-append (event_reasons lab (Stranger router x)) [] none
happened_passes lab (Tick router now word) answer w' none happens = first_reason-append (event_reasons lab (Tick router now word)) [] none
happened_passes lab (Restart router now) answer w' none happens = first_reason-append (event_reasons lab (Restart router now)) [] none
happened_passes lab (Shutdown router now) answer w' none happens = first_reason-append (event_reasons lab (Shutdown router now)) [] none
happened_passes lab (LinkDown router now on) answer w' none happens = first_reason-append (event_reasons lab (LinkDown router now on)) [] none
happened_passes lab (LinkUp router now on) answer w' none happens = first_reason-append (event_reasons lab (LinkUp router now on)) [] none

-- why the router refuses it is why the event is refused
pub own_refused : (lab : LabValue) (e : Event) (why : LabError) → event_fault lab e ≡ None → IsOwnRefusal lab.world e why → IsRefusal lab e why
own_refused lab e why none (inl memory) = inr (none, memory)
own_refused lab (Reconfigure router now c) why none (inr own) = subst (IsRefusal lab (Reconfigure router now c)) (sym own.2) (change_refused lab router now c own.0 _ own.1 none refl)
own_refused lab (Deliver datagram router iface now) why none (inr own) = inr (none, own.2)
own_refused lab (Stranger router x) why none (inr own) = inr (none, own.2)
own_refused lab (Tick router now word) why none (inr own) = inr (none, own.2)
own_refused lab (Restart router now) why none (inr own) = inr (none, own.2)
own_refused lab (Shutdown router now) why none (inr own) = inr (none, own.2)
own_refused lab (LinkDown router now iface) why none (inr own) = inr (none, own.2)
own_refused lab (LinkUp router now iface) why none (inr own) = inr (none, own.2)

-- so the step ends, once nothing refuses the event before
pub step_ends : (lab lab' : LabValue) (e : Event) (r : Result Answer LabError) → event_fault lab e ≡ None → IfOk r (λ given. Acts lab e given lab'.world) → IfErr r (IsOwnRefusal lab.world e) → OnErr r (lab' ≡ lab)
    → StepEnds lab e (result_err r) lab'
step_ends lab lab' e (Ok given) none acts refused same =
    record {
      reconfigurations = acts.moves.reconfigurations ∙ ap (λ cs. lab.world.reconfigurations ++ cs) (changes_for _ lab.world.sent e acts.happening acts.is_for);
      passes = happened_passes lab e acts.answer lab'.world none (happened lab given lab'.world e none acts);
      refused = tt;
      unchanged = tt;
    }
step_ends lab lab' e (Err why) none acts refused same = record { reconfigurations = tt; passes = tt; refused = own_refused lab e why none refused; unchanged = same }

-- a step that is refused leaves all as it was
pub step_refused : (lab lab' : LabValue) (e : Event) (r : Result Answer LabError) (why : LabError) → IsErrAnd r (λ x. x ≡ why) → IsRefusal lab e why → lab' ≡ lab → StepEnds lab e (result_err r) lab'
step_refused lab lab' e (Ok answer) why is refused same = absurd is
step_refused lab lab' e (Err x) why is refused same = record { reconfigurations = tt; passes = tt; refused = subst (IsRefusal lab e) (sym is) refused; unchanged = same }

-- what an error is, more weakly said
pub err_is : {X E : Type 0} (r : Result X E) (P Q : E → Type 0) → ((e : E) → P e → Q e) → IsErrAnd r P → IfErr r Q
err_is (Ok x) P Q step h = absurd h
err_is (Err e) P Q step h = step e h
