-- What the events of a run make one interface of a router hear from an interface of another.
use Rattle.std.proofs.Common.{◌≡◌, ◌≢◌, ℕ, zero, suc, ◌==◌, Bool, true, false, cond, ◌&&◌, List, [], ◌∷◌, ◌++◌, Some, is_none, option_map, unwrap_or, slice_get, refl, ap, ap₂, sym, subst, ◌∙◌}
use Rattle.std.specs.List.{AllByRecursion}
use Rattle.std.proofs.lemmas.Bool.{eq-eqb, eqb-true}
use Rattle.prefix6.specs.Addr.{is_link_local}
use Rattle.ripng_wire.specs.declared.rte.Rte.{Rte}
use Rattle.ripng_wire.specs.declared.rte.Command.TheVariants.{Response}
use Rattle.ripng_wire.specs.Layout.{Spells}
use Rattle.route_table.proofs.TableLaws.{Some-same, None-Some}
use Rattle.router_core.specs.Config.{is_own_address}
use Rattle.router_core.specs.Machine.{State, Happening, Arrives, Ticks, Restarts, Reconfigures, ShutsDown, LinkGoesDown, LinkComesUp, Moves}
use Rattle.router_core.specs.Received.{Received}
use Rattle.router_core.specs.declared.answer.Answer.{Answer}
use Rattle.ripng_world.specs.Network.{Network, Node, AreLinked, HasDistinctAddresses, IsUsable, config_of, interface_at}
use Rattle.ripng_world.specs.World.{World, Event, Deliver, Stranger, Tick, Restart, Shutdown, LinkDown, LinkUp, Reconfigure, RouterMoves, Happens, WorldRun, address_at, arrival_of, is_heard}
use Rattle.ripng_world.specs.declared.network.NetInterface.{NetInterface}
use Rattle.ripng_world.specs.declared.event.Sent.{Sent}
use Rattle.ripng_world.proofs.Delivered.{sent_grow}
use Rattle.ripng_world.proofs.Each.{each_append, each_weaker}
use Rattle.ripng_world.proofs.Members.{At, at_left, at_right, get_left}
use Rattle.ripng_world.proofs.NetworkNow.{set_get}
use Rattle.ripng_world.proofs.RoundNeighbors.{not_mine, source_is}
use Rattle.ripng_world.proofs.Undamaged.{no_fault, spelled_response}
use Rattle.ripngd_theorems.specs.LastUpdate.{HearsFrom, heard_from}
use Rattle.ripngd_theorems.proofs.Addresses.{addresses_of, fault_same, moves_addresses}

-- a datagram of the network comes
abbrev is_delivery : Event → Bool
is_delivery (Deliver datagram r i now) = true
is_delivery _ = false

module _ (net : Network) (distinct : HasDistinctAddresses net) (usable : IsUsable net) (router iface other on : ℕ) (apart : other ≢ router) (linked : AreLinked net router iface other on)
    (node : Node) (node_is : slice_get net other ≡ Some node) (end : World) where
  abbrev from : ℕ
  from = address_at net router iface

  -- a Response that the one interface sent
  pub record IsOurs (d : Sent) : Type 0 where
    pub by_router : d.router ≡ router
    pub on_iface : d.iface ≡ iface
    pub entries : List Rte
    pub spelled : Spells Response entries d.bytes

  -- bytes of a delivery to the other from it
  pub record IsOf (events : List Event) (bytes : List ℕ) : Type 0 where
    pub datagram : ℕ
    pub now : ℕ
    pub delivered : At events (Deliver datagram other on now)
    pub sent : Sent
    pub sent_is : slice_get end.sent datagram ≡ Some sent
    pub by_router : sent.router ≡ router
    pub on_iface : sent.iface ≡ iface
    pub bytes_are : sent.bytes ≡ bytes

  -- the steps of the other router among the events, and what it hears
  pub record Seen (events : List Event) (s : State) : Type 0 where
    pub happenings : List Happening
    pub heard : List (List ℕ)
    pub after : State
    pub after_is : slice_get end.states other ≡ Some after
    pub hears : HearsFrom on from s happenings heard after
    pub only : AllByRecursion (IsOf events) heard
    pub all : (datagram now : ℕ) (d : Sent) → At events (Deliver datagram other on now) → slice_get end.sent datagram ≡ Some d → IsOurs d → At heard d.bytes

  abbrev HasAddresses : State → Type 0
  HasAddresses s = addresses_of s.config ≡ addresses_of (config_of node)

  of_later : (e : Event) (events : List Event) (bytes : List ℕ) → IsOf events bytes → IsOf (e ∷ events) bytes
  of_later e events bytes o =
      record {
        datagram = o.datagram;
        now = o.now;
        delivered = (suc o.delivered.0, o.delivered.1);
        sent = o.sent;
        sent_is = o.sent_is;
        by_router = o.by_router;
        on_iface = o.on_iface;
        bytes_are = o.bytes_are;
      }

  -- ---- one event, and the rest

  module _ (e : Event) (events : List Event) where
    -- of an event of other routers nothing is heard
    stays : (s : State) → ((datagram now : ℕ) → e ≡ Deliver datagram other on now → ⊥) → Seen events s → Seen (e ∷ events) s
    stays s none rest =
        record {
          happenings = rest.happenings;
          heard = rest.heard;
          after = rest.after;
          after_is = rest.after_is;
          hears = rest.hears;
          only = each_weaker (IsOf (e ∷ events)) (IsOf events) (of_later e events) rest.heard rest.only;
          all = λ datagram now d at is ours. by_place datagram now d at.0 at.1 is ours;
        }
      where
        by_place : (datagram now : ℕ) (d : Sent) (i : ℕ) → slice_get (e ∷ events) i ≡ Some (Deliver datagram other on now) → slice_get end.sent datagram ≡ Some d → IsOurs d → At rest.heard d.bytes
        by_place datagram now d zero at is ours = absurd (none datagram now (Some-same e (Deliver datagram other on now) at))
        by_place datagram now d (suc i) at is ours = rest.all datagram now d (i, at) is ours

    -- of one of its own it hears what it hears
    steps : (s new : State) (h : Happening) (answer : Answer) → Moves s h answer new → AllByRecursion (IsOf (e ∷ events)) (heard_from on from s h)
        → ((datagram now : ℕ) (d : Sent) → e ≡ Deliver datagram other on now → slice_get end.sent datagram ≡ Some d → IsOurs d → At (heard_from on from s h) d.bytes)
        → Seen events new → Seen (e ∷ events) s
    steps s new h answer moves only_one all_one rest =
        record {
          happenings = h ∷ rest.happenings;
          heard = heard_from on from s h ++ rest.heard;
          after = rest.after;
          after_is = rest.after_is;
          hears = (new, answer, rest.heard, moves, rest.hears, refl);
          only = each_append (IsOf (e ∷ events)) (heard_from on from s h) rest.heard only_one
              (each_weaker (IsOf (e ∷ events)) (IsOf events) (of_later e events) rest.heard rest.only);
          all = λ datagram now d at is ours. by_place datagram now d at.0 at.1 is ours;
        }
      where
        by_place : (datagram now : ℕ) (d : Sent) (i : ℕ) → slice_get (e ∷ events) i ≡ Some (Deliver datagram other on now) → slice_get end.sent datagram ≡ Some d → IsOurs d
            → At (heard_from on from s h ++ rest.heard) d.bytes
        by_place datagram now d zero at is ours =
            at_left (heard_from on from s h) rest.heard d.bytes (all_one datagram now d (Some-same e (Deliver datagram other on now) at) is ours)
        by_place datagram now d (suc i) at is ours = at_right (heard_from on from s h) rest.heard d.bytes (rest.all datagram now d (i, at) is ours)

    -- ---- a delivery to it

    module _ (s : State) (addresses : HasAddresses s) (datagram i now : ℕ) (e_is : e ≡ Deliver datagram other i now) (sent : Sent) (sent_is : slice_get end.sent datagram ≡ Some sent)
        (there : AreLinked net sent.router sent.iface other i) where
      abbrev x : Received
      x = arrival_of net sent i now

      -- one that comes to that interface from that address is of the one interface
      one_sender : (same : i ≡ on) → x.source ≡ from → (sent.router ≡ router) × (sent.iface ≡ iface)
      one_sender same source =
          distinct.on_links sent.router sent.iface router iface
          (record {
            here = there.here;
            there = linked.here;
            here_is = there.here_is;
            there_is = linked.here_is;
            same_link = there.same_link ∙ ap (λ (k : NetInterface). k.link) (Some-same there.there linked.there (sym there.there_is ∙ ap (interface_at net other) same ∙ linked.there_is)) ∙ sym linked.same_link;
          })
          (sym (source_is net sent other i there) ∙ source ∙ source_of_link)
        where
          source_of_link : from ≡ linked.here.interface.addr
          source_of_link = ap (λ o. unwrap_or (option_map (λ (k : NetInterface). k.interface.addr) o) 0) linked.here_is

      -- and is not refused
      not_refused : (ours : IsOurs sent) → is_heard s x ≡ true
      not_refused ours =
          ap₂ (λ b o. b && is_none o) (spelled_response ours.entries sent.bytes ours.spelled)
          (fault_same s.config (config_of node) x addresses
          ∙ no_fault (config_of node) x ours.entries ours.spelled refl local own refl)
        where
          local : is_link_local x.source ≡ true
          local = ap is_link_local (source_is net sent other i there) ∙ usable.local sent.router sent.iface there.here there.here_is

          own : is_own_address (config_of node) x.iface x.source ≡ false
          own = not_mine net distinct sent other i (record s { config = config_of node }) node node_is refl there (λ same. apart (same ∙ ours.by_router))

      only_one : (b : Bool) → (x.iface == on && x.source == from && is_heard s x) ≡ b → AllByRecursion (IsOf (e ∷ events)) (cond b (x.bytes ∷ []) [])
      only_one false test = tt
      only_one true test =
          let t = parts (x.iface == on) (x.source == from) (is_heard s x) test in
          let here = eqb-true i on t.0 in
          let one = one_sender here (eqb-true x.source from t.1) in (
            record {
              datagram = datagram;
              now = now;
              delivered = (0, ap Some (e_is ∙ ap (λ k. Deliver datagram other k now) here));
              sent = sent;
              sent_is = sent_is;
              by_router = one.0;
              on_iface = one.1;
              bytes_are = refl;
            },
            tt,
          )
        where
          parts : (a b c : Bool) → (a && b && c) ≡ true → (a ≡ true) × (b ≡ true) × (c ≡ true)
          parts true true true e = (refl, refl, refl)
          parts true true false e = absurd (cc)
          parts true false c e = absurd (cc)
          parts false b c e = absurd (cc)

      all_one : (datagram' now' : ℕ) (d : Sent) → e ≡ Deliver datagram' other on now' → slice_get end.sent datagram' ≡ Some d → IsOurs d → At (heard_from on from s (Arrives x)) d.bytes
      all_one datagram' now' d is at ours =
          let both = sym e_is ∙ is in
          let here : i ≡ on = iface_of datagram i now datagram' now' both in
          let same : sent ≡ d = Some-same sent d (sym sent_is ∙ ap (slice_get end.sent) (number_of datagram i now datagram' now' both) ∙ at) in
          let mine : IsOurs sent = subst IsOurs (sym same) ours in
          let source : x.source ≡ from = ap₂ (address_at net) mine.by_router mine.on_iface in
          subst (λ b. At (cond b (x.bytes ∷ []) []) d.bytes)
          (sym (ap₂ (λ a b. a && b && is_heard s x) (eq-eqb i on here) (eq-eqb x.source from source) ∙ not_refused mine))
          (0, ap (λ (y : Sent). Some y.bytes) same)
        where
          iface_of : (a b c a' c' : ℕ) → Deliver a other b c ≡ Deliver a' other on c' → b ≡ on
          iface_of a b c a' c' e = cc

          number_of : (a b c a' c' : ℕ) → Deliver a other b c ≡ Deliver a' other on c' → a ≡ a'
          number_of a b c a' c' e = cc

  -- ---- a router moves

  module _ (v mid : World) (r : ℕ) (h : Happening) (answer : Answer) (m : RouterMoves v r h answer mid) (s : State) (s_is : slice_get v.states other ≡ Some s) where
    states_are : slice_get mid.states other ≡ cond (r == other) (Some m.new) (slice_get v.states other)
    states_are = ap (λ (ss : List State). slice_get ss other) m.states ∙ set_get v.states r m.new m.old m.old_is other

    moved_here : (r == other) ≡ true → slice_get mid.states other ≡ Some m.new
    moved_here is = states_are ∙ ap (λ b. cond b (Some m.new) (slice_get v.states other)) is

    stays_there : (r == other) ≡ false → slice_get mid.states other ≡ Some s
    stays_there is = states_are ∙ ap (λ b. cond b (Some m.new) (slice_get v.states other)) is ∙ s_is

    old_here : (r == other) ≡ true → m.old ≡ s
    old_here is = Some-same m.old s (sym m.old_is ∙ ap (slice_get v.states) (eqb-true r other is) ∙ s_is)

    moves_here : (r == other) ≡ true → Moves s h answer m.new
    moves_here is = subst (λ (t : State). Moves t h answer m.new) (old_here is) m.moves

    addresses_here : (r == other) ≡ true → HasAddresses s → HasAddresses m.new
    addresses_here is addresses = moves_addresses s h answer m.new (moves_here is) ∙ addresses

  module _ (e : Event) (events : List Event) (v mid : World) (answer : Answer) (s : State) (s_is : slice_get v.states other ≡ Some s) (addresses : HasAddresses s)
      (rest : (t : State) → slice_get mid.states other ≡ Some t → HasAddresses t → Seen events t) where
    -- what is no delivery to it
    moved : (r : ℕ) (h : Happening) → RouterMoves v r h answer mid → ((datagram now : ℕ) → e ≡ Deliver datagram other on now → ⊥) → ((r == other) ≡ true → heard_from on from s h ≡ [])
        → Seen (e ∷ events) s
    moved r h m none silent = by_router (r == other) refl
      where
        by_router : (b : Bool) → (r == other) ≡ b → Seen (e ∷ events) s
        by_router true is =
            steps e events s m.new h answer (moves_here v mid r h answer m s s_is is) (subst (AllByRecursion (IsOf (e ∷ events))) (sym (silent is)) tt)
            (λ datagram now d same at ours. absurd (none datagram now same)) (rest m.new (moved_here v mid r h answer m s s_is is) (addresses_here v mid r h answer m s s_is is addresses))
        by_router false is = stays e events s none (rest s (stays_there v mid r h answer m s s_is is) addresses)

    -- a delivery to some router
    delivered : (datagram r i now : ℕ) → e ≡ Deliver datagram r i now → (sent : Sent) → slice_get end.sent datagram ≡ Some sent → AreLinked net sent.router sent.iface r i
        → RouterMoves v r (Arrives (arrival_of net sent i now)) answer mid → Seen (e ∷ events) s
    delivered datagram r i now e_is sent sent_is there m = by_router (r == other) refl
      where
        clash : false ≡ true → ⊥
        clash is = cc

        router_of : (a b c d a' c' : ℕ) → Deliver a b c d ≡ Deliver a' other on c' → b ≡ other
        router_of a b c d a' c' same = cc

        by_router : (b : Bool) → (r == other) ≡ b → Seen (e ∷ events) s
        by_router true is =
            let same = eqb-true r other is in
            let mine = e_is ∙ ap (λ k. Deliver datagram k i now) same in
            let here = subst (λ k. AreLinked net sent.router sent.iface k i) same there in
            steps e events s m.new (Arrives (arrival_of net sent i now)) answer (moves_here v mid r (Arrives (arrival_of net sent i now)) answer m s s_is is)
            (only_one e events s addresses datagram i now mine sent sent_is here
            ((arrival_of net sent i now).iface == on && (arrival_of net sent i now).source == from && is_heard s (arrival_of net sent i now)) refl)
            (all_one e events s addresses datagram i now mine sent sent_is here)
            (rest m.new (moved_here v mid r (Arrives (arrival_of net sent i now)) answer m s s_is is) (addresses_here v mid r (Arrives (arrival_of net sent i now)) answer m s s_is is addresses))
        by_router false is =
            stays e events s (λ datagram' now' same. clash (sym is ∙ eq-eqb r other (router_of datagram r i now datagram' now' (sym e_is ∙ same))))
            (rest s (stays_there v mid r (Arrives (arrival_of net sent i now)) answer m s s_is is) addresses)

  not_delivered : (e : Event) → is_delivery e ≡ false → (datagram now : ℕ) → e ≡ Deliver datagram other on now → ⊥
  not_delivered e none datagram now is = clash (sym none ∙ ap is_delivery is)
    where
      clash : false ≡ true → ⊥
      clash e = cc

  module _ (e : Event) (events : List Event) (v mid : World) (answer : Answer) (s : State) (s_is : slice_get v.states other ≡ Some s) (addresses : HasAddresses s)
      (rest : (t : State) → slice_get mid.states other ≡ Some t → HasAddresses t → Seen events t) where
    silent : (r : ℕ) (h : Happening) → RouterMoves v r h answer mid → is_delivery e ≡ false → heard_from on from s h ≡ [] → Seen (e ∷ events) s
    silent r h m none quiet = moved e events v mid answer s s_is addresses rest r h m (not_delivered e none) (λ is. quiet)

  one : (e : Event) (events : List Event) (v mid : World) (answer : Answer) → Happens net v e answer mid → ((k : ℕ) (d : Sent) → slice_get v.sent k ≡ Some d → slice_get end.sent k ≡ Some d)
      → (s : State) → slice_get v.states other ≡ Some s → HasAddresses s → ((t : State) → slice_get mid.states other ≡ Some t → HasAddresses t → Seen events t) → Seen (e ∷ events) s
  one (Deliver datagram r i now) events v mid answer d grows s s_is addresses rest =
      delivered (Deliver datagram r i now) events v mid answer s s_is addresses rest datagram r i now refl d.sent (grows datagram d.sent d.sent_is) d.linked d.moves
  one (Stranger r x) events v mid answer i grows s s_is addresses rest =
      moved (Stranger r x) events v mid answer s s_is addresses rest r (Arrives x) i.moves (not_delivered (Stranger r x) refl)
      (λ is. ap (λ b. cond (x.iface == on && x.source == from && b) (x.bytes ∷ []) [])
      (subst (λ (t : State). is_heard t x ≡ false) (old_here v mid r (Arrives x) answer i.moves s s_is is) i.unheard)
      ∙ ap (λ b. cond b (x.bytes ∷ []) []) (and_false (x.iface == on) (x.source == from)))
    where
      and_false : (a b : Bool) → (a && b && false) ≡ false
      and_false true true = refl
      and_false true false = refl
      and_false false b = refl
  one (Tick r now word) events v mid answer m grows s s_is addresses rest = silent (Tick r now word) events v mid answer s s_is addresses rest r (Ticks now word) m refl refl
  one (Restart r now) events v mid answer m grows s s_is addresses rest = silent (Restart r now) events v mid answer s s_is addresses rest r (Restarts now) m refl refl
  one (Shutdown r now) events v mid answer m grows s s_is addresses rest = silent (Shutdown r now) events v mid answer s s_is addresses rest r (ShutsDown now) m refl refl
  one (LinkDown r now i) events v mid answer m grows s s_is addresses rest = silent (LinkDown r now i) events v mid answer s s_is addresses rest r (LinkGoesDown now i) m refl refl
  one (LinkUp r now i) events v mid answer m grows s s_is addresses rest = silent (LinkUp r now i) events v mid answer s s_is addresses rest r (LinkComesUp now i) m refl refl
  one (Reconfigure r now c) events v mid answer m grows s s_is addresses rest = silent (Reconfigure r now c) events v mid answer s s_is addresses rest r (Reconfigures now c) m refl refl

  -- ---- all of them

  pub seen : (events : List Event) (v : World) → WorldRun net v events end → (s : State) → slice_get v.states other ≡ Some s → HasAddresses s → Seen events s
  seen [] v same s s_is addresses =
      record {
        happenings = [];
        heard = [];
        after = s;
        after_is = ap (λ (w : World). slice_get w.states other) same ∙ s_is;
        hears = (refl, refl);
        only = tt;
        all = λ datagram now d at is ours. absurd (None-Some (Deliver datagram other on now) at.1);
      }
  seen (e ∷ events) v run s s_is addresses =
      let grown : (more : List Sent) × (end.sent ≡ v.sent ++ more) = sent_grow net (e ∷ events) v end run in
      one e events v run.0 run.1 run.2 (λ k d is. ap (λ (ds : List Sent). slice_get ds k) grown.1 ∙ get_left v.sent grown.0 k d is) s s_is addresses (seen events run.0 run.3)
