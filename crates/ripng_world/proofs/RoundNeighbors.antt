-- The neighbor that a delivered datagram comes from, and the states when one router moves.
use Rattle.std.proofs.Common.{◌≡◌, ◌≢◌, ◌⊎◌, inl, inr, ℕ, zero, suc, Bool, true, false, ◌||◌, ◌&&◌, ◌==◌, List, [], ◌∷◌, map, Some, option_map, unwrap_or, slice_get, slice_set, refl, ap, ap₂, sym, subst, ◌∙◌}
use Rattle.std.specs.List.{list_any}
use Rattle.std.proofs.lemmas.Bool.{eq-eqb, eqb-true}
use Rattle.route_table.specs.declared.route.Origin.TheVariants.{Learned}
use Rattle.route_table.proofs.TableLaws.{Some-same, None-Some}
use Rattle.router_core.specs.Config.{cost_at, zone_at, is_own_address}
use Rattle.router_core.specs.Machine.{State, gateway_of}
use Rattle.ripng_world.specs.declared.network.NetInterface.{NetInterface}
use Rattle.ripng_world.specs.declared.event.Sent.{Sent}
use Rattle.ripng_world.specs.Network.{Network, Node, config_of, interface_at, AreLinked, AreZoned, HasDistinctAddresses}
use Rattle.ripng_world.specs.Truth.{IsNeighbor}
use Rattle.ripng_world.specs.Walks.{Hop, IsWalk, BeginsAs}
use Rattle.ripng_world.specs.World.{address_at, arrival_of}
use Rattle.ripng_world.proofs.WorldRuns.{in_node, cost_is, zone_is, any_at, back_on}

-- what becomes of the states when one of them moves
pub state_after : (xs : List State) (i : ℕ) (old new : State) → slice_get xs i ≡ Some old → (j : ℕ) (s : State) → slice_get xs j ≡ Some s
    → ((i ≡ j) × (s ≡ old) × (slice_get (slice_set xs i new) j ≡ Some new)) ⊎ (slice_get (slice_set xs i new) j ≡ Some s)
state_after [] i old new e j s f = absurd (None-Some old e)
state_after (x ∷ xs) zero old new e zero s f = inl (refl, Some-same s old (sym f ∙ e), refl)
state_after (x ∷ xs) zero old new e (suc j) s f = inr f
state_after (x ∷ xs) (suc i) old new e zero s f = inr f
state_after (x ∷ xs) (suc i) old new e (suc j) s f =
    elim (state_after xs i old new e j s f) [ inl a ↦ inl (ap suc a.0, a.1, a.2) | inr b ↦ inr b ]

pub set_here : (xs : List State) (i : ℕ) (old new : State) → slice_get xs i ≡ Some old → slice_get (slice_set xs i new) i ≡ Some new
set_here [] i old new e = absurd (None-Some old e)
set_here (x ∷ xs) zero old new e = refl
set_here (x ∷ xs) (suc i) old new e = set_here xs i old new e

pub state_before : (xs : List State) (i : ℕ) (new : State) (j : ℕ) (s : State) → slice_get (slice_set xs i new) j ≡ Some s → ((i ≡ j) × (new ≡ s)) ⊎ (slice_get xs j ≡ Some s)
state_before [] i new j s e = inr e
state_before (x ∷ xs) zero new zero s e = inl (refl, Some-same new s e)
state_before (x ∷ xs) zero new (suc j) s e = inr e
state_before (x ∷ xs) (suc i) new zero s e = inr e
state_before (x ∷ xs) (suc i) new (suc j) s e =
    elim (state_before xs i new j s e) [ inl a ↦ inl (ap suc a.0, a.1) | inr b ↦ inr b ]

-- ---- neighbors

pub source_is : (net : Network) (d : Sent) (router iface : ℕ) (linked : AreLinked net d.router d.iface router iface) → address_at net d.router d.iface ≡ linked.here.interface.addr
source_is net d router iface linked = ap (λ o. unwrap_or (option_map (λ (i : NetInterface). i.interface.addr) o) 0) linked.here_is

pub neighbor : (net : Network) (d : Sent) (router iface now moment : ℕ) (s : State) (node : Node) → slice_get net router ≡ Some node → s.config ≡ config_of node
    → AreLinked net d.router d.iface router iface → router ≢ d.router → IsNeighbor net router (gateway_of s now (arrival_of net d iface moment)) d.router d.iface
neighbor net d router iface now moment s node node_is config linked other =
    record {
      linked = record { here = linked.there; there = linked.here; here_is = linked.there_is; there_is = linked.here_is; same_link = sym linked.same_link };
      apart = other;
      from = ap (option_map (λ (i : NetInterface). i.interface.addr)) linked.here_is ∙ ap Some (sym (source_is net d router iface linked));
      cost = ap (λ c. cost_at c iface) config ∙ cost_is net router iface node node_is;
    }

pub is_another : (net : Network) → AreZoned net → (d : Sent) (router iface : ℕ) (s : State) (node : Node) → slice_get net router ≡ Some node → s.config ≡ config_of node
    → (linked : AreLinked net d.router d.iface router iface) → is_own_address s.config iface (address_at net d.router d.iface) ≡ false → router ≢ d.router
is_another net zoned d router iface s node node_is config linked not_mine same =
    let here : slice_get node.interfaces d.iface ≡ Some linked.here = sym (in_node net router d.iface node node_is) ∙ ap (λ r. interface_at net r d.iface) same ∙ linked.here_is in
    let zone : zone_at (config_of node) iface ≡ linked.here.interface.zone =
    zone_is net router iface node linked.there node_is linked.there_is ∙ sym (zoned d.router d.iface iface (back_on net d router iface same linked)) in
    let own : is_own_address (config_of node) iface (address_at net d.router d.iface) ≡ true =
    any_at (λ i. i.zone == zone_at (config_of node) iface && i.addr == address_at net d.router d.iface) (λ (i : NetInterface). i.interface) node.interfaces d.iface linked.here here
    (ap₂ (λ a b. a && b) (eq-eqb _ _ (sym zone)) (eq-eqb _ _ (sym (source_is net d router iface linked)))) in
    clash (sym (ap (λ c. is_own_address c iface (address_at net d.router d.iface)) config ∙ own) ∙ not_mine)
  where
    clash : true ≡ false → ⊥
    clash e = cc

-- an address of another router is not its own
pub any_from : {X Y : Type 0} (test : Y → Bool) (f : X → Y) (xs : List X) → list_any test (map f xs) ≡ true → (i : ℕ) × (x : X) × (slice_get xs i ≡ Some x) × (test (f x) ≡ true)
any_from test f [] e = absurd (cc)
any_from {X = X} test f (x ∷ xs) e = by_test (test (f x)) refl e (any_from test f xs)
  where
    by_test : (b : Bool) → test (f x) ≡ b → (b || list_any test (map f xs)) ≡ true → (list_any test (map f xs) ≡ true → (i : ℕ) × (y : X) × (slice_get xs i ≡ Some y) × (test (f y) ≡ true))
        → (i : ℕ) × (y : X) × (slice_get (x ∷ xs) i ≡ Some y) × (test (f y) ≡ true)
    by_test true is e later = (0, x, refl, is)
    by_test false is e later = let l = later e in (suc l.0, l.1, l.2, l.3)

both_true : (a b : Bool) → (a && b) ≡ true → (a ≡ true) × (b ≡ true)
both_true true b e = (refl, e)
both_true false b e = absurd (cc)

pub not_mine : (net : Network) → HasDistinctAddresses net → (d : Sent) (router iface : ℕ) (s : State) (node : Node) → slice_get net router ≡ Some node → s.config ≡ config_of node
    → (linked : AreLinked net d.router d.iface router iface) → router ≢ d.router → is_own_address s.config iface (address_at net d.router d.iface) ≡ false
not_mine net distinct d router iface s node node_is config linked other =
    ap (λ c. is_own_address c iface (address_at net d.router d.iface)) config ∙ by_answer (is_own_address (config_of node) iface (address_at net d.router d.iface)) refl
  where
    by_answer : (b : Bool) → is_own_address (config_of node) iface (address_at net d.router d.iface) ≡ b → is_own_address (config_of node) iface (address_at net d.router d.iface) ≡ false
    by_answer false e = e
    by_answer true e =
        let f = any_from (λ i. i.zone == zone_at (config_of node) iface && i.addr == address_at net d.router d.iface) (λ (i : NetInterface). i.interface) node.interfaces e in
        let both = both_true (f.1.interface.zone == zone_at (config_of node) iface) (f.1.interface.addr == address_at net d.router d.iface) f.3 in
        absurd (other (distinct.of_neighbors router f.0 iface d.router d.iface f.1 (in_node net router f.0 node node_is ∙ f.2)
        (record { here = linked.there; there = linked.here; here_is = linked.there_is; there_is = linked.here_is; same_link = sym linked.same_link })
        (eqb-true f.1.interface.zone (zone_at (config_of node) iface) both.0 ∙ zone_is net router iface node linked.there node_is linked.there_is)
        (eqb-true f.1.interface.addr (address_at net d.router d.iface) both.1 ∙ source_is net d router iface linked)))

-- at an interface, a gateway's address is that of one interface of one router
pub one_sender : (net : Network) → HasDistinctAddresses net → (router iface from sender sender_iface sender' sender_iface' : ℕ)
    → AreLinked net router iface sender sender_iface → AreLinked net router iface sender' sender_iface'
    → option_map (λ (i : NetInterface). i.interface.addr) (interface_at net sender sender_iface) ≡ Some from
    → option_map (λ (i : NetInterface). i.interface.addr) (interface_at net sender' sender_iface') ≡ Some from
    → (sender ≡ sender') × (sender_iface ≡ sender_iface')
one_sender net distinct router iface from sender sender_iface sender' sender_iface' x y a b =
    distinct.on_links sender sender_iface sender' sender_iface'
    (record {
      here = x.there;
      there = y.there;
      here_is = x.there_is;
      there_is = y.there_is;
      same_link = sym x.same_link ∙ ap (λ (i : NetInterface). i.link) (Some-same x.here y.here (sym x.here_is ∙ y.here_is)) ∙ y.same_link;
    })
    (address sender sender_iface x.there x.there_is a ∙ sym (address sender' sender_iface' y.there y.there_is b))
  where
    address : (s j : ℕ) (i : NetInterface) → interface_at net s j ≡ Some i → option_map (λ (i : NetInterface). i.interface.addr) (interface_at net s j) ≡ Some from → i.interface.addr ≡ from
    address s j i is e = Some-same i.interface.addr from (sym (ap (option_map (λ (i : NetInterface). i.interface.addr)) is) ∙ e)

-- so walks that begin as a learned route says have one first hop
pub one_first_hop : (net : Network) (router iface from next_hop : ℕ) (a b : Hop) (rest rest' : List Hop) → HasDistinctAddresses net
    → IsWalk net router (a ∷ rest) → BeginsAs net (Learned iface from next_hop) (a ∷ rest)
    → IsWalk net router (b ∷ rest') → BeginsAs net (Learned iface from next_hop) (b ∷ rest') → a ≡ b
one_first_hop net router iface from next_hop a b rest rest' distinct walk begins walk' begins' =
    let one = one_sender net distinct router iface from a.router a.router_iface b.router b.router_iface
    (subst (λ i. AreLinked net router i a.router a.router_iface) begins.0 walk.0.1)
    (subst (λ i. AreLinked net router i b.router b.router_iface) begins'.0 walk'.0.1)
    begins.1 begins'.1 in
    same a b (begins.0 ∙ sym begins'.0) one.0 one.1
  where
    same : (x y : Hop) → x.iface ≡ y.iface → x.router ≡ y.router → x.router_iface ≡ y.router_iface → x ≡ y
    same x y e f g =
        ap (λ i. record { iface = i; router = x.router; router_iface = x.router_iface }) e
        ∙ ap₂ (λ r j. record { iface = y.iface; router = r; router_iface = j }) f g
