-- A network that fails no test is one.
use Rattle.std.proofs.Common.{◌≡◌, ℕ, zero, suc, ◌+◌, ◌<◌, ◌≤◌, ◌==◌, ◌||◌, nat_lt, not, Bool, true, false, cond, List, [], ◌∷◌, ◌++◌, map, take, length, All, Some, None, slice_get, option_map, refl, ap, sym, subst, ◌∙◌, arith, IsFalse}
use Rattle.std.specs.List.{list_any}
use Rattle.std.proofs.lemmas.Bool.{eq-eqb, eqb-true}
use Rattle.std.proofs.lemmas.Bool.Decides.{nat_tests}
use Rattle.std.proofs.lemmas.Option.{slice_get-map, slice_get_within, get_or_from_slice_get}
use Rattle.prefix6.specs.Addr.{is_link_local}
use Rattle.prefix6.specs.Prefix.{Prefix6, IsPrefix, is_routable}
use Rattle.ripng_wire.specs.Wire.{first_reason}
use Rattle.ripng_wire.proofs.FirstReason.{EachPasses, each_passes}
use Rattle.route_table.proofs.TableLaws.{Some-same, None-Some}
use Rattle.router_core.specs.Config.{Config, config_with, IsConfig, config_reasons, reasons_of_each, interface_reasons, prefix_reasons}
use Rattle.router_core.specs.Filters.{is_accepted, limit_at}
use Rattle.router_core.specs.Lists.{lets_through}
use Rattle.router_core.specs.declared.filter.Filter.{Filter}
use Rattle.router_core.specs.declared.filter.Limit.{Limit}
use Rattle.router_core.specs.declared.config.ConfigRefused.TheVariants.{TooManyPrefixes}
use Rattle.router_core.specs.declared.config.Interface.{Interface}
use Rattle.router_core.specs.Config.{owned_limit}
use Rattle.router_core.proofs.ConfigLaws.{passes-append, passes_at, cost_low, cost_high, mtu_low, mtu_high}
use Rattle.router_core.proofs.ReasonsOfEach.{first_reason-append, first_reason-found}
use Rattle.ripng_world.specs.Convergence.{AreLetThrough, IsNeverQuiet}
use Rattle.ripng_world.specs.Network.{Network, Node, HasNoLists, HaveNoLists, AreZoned, IsNetwork, IsUsable, OwnsPrefixes, HasDistinctAddresses, config_of, interface_at}
use Rattle.ripng_world.specs.NetworkFaults.{addresses, address_reasons, names_zone, network_fault, network_reasons, router_reasons, router_limit}
use Rattle.ripng_world.specs.declared.network.NetInterface.{NetInterface}
use Rattle.ripng_world.specs.declared.network.NetRefused.{NetRefused}
use Rattle.ripng_world.specs.declared.network.NetRefused.TheVariants.{TooManyRouters, ZoneNamed}
use Rattle.ripng_world.proofs.Members.{At, at_flat, get_left, get_past}
use Rattle.ripng_world.proofs.StationMoves.{then_of}

-- ---- which test fails first

module _ (net : Network) (few : length net ≤ router_limit) where
  abbrev of_routers : List (Bool × NetRefused)
  of_routers = reasons_of_each router_reasons net ++ reasons_of_each address_reasons (addresses net)

  fits : nat_lt router_limit (length net) ≡ false
  fits = grind (arith, nat_tests, few)

  pub by_zone : list_any names_zone net ≡ true → network_fault net ≡ Some ZoneNamed
  by_zone named =
      ap (λ b. cond b (Some TooManyRouters) (cond (list_any names_zone net) (Some ZoneNamed) (first_reason of_routers))) fits
      ∙ ap (λ b. cond b (Some ZoneNamed) (first_reason of_routers)) named

  module _ (unnamed : list_any names_zone net ≡ false) where
    counted : network_fault net ≡ first_reason (reasons_of_each router_reasons net ++ reasons_of_each address_reasons (addresses net))
    counted =
        ap (λ b. cond b (Some TooManyRouters) (cond (list_any names_zone net) (Some ZoneNamed) (first_reason of_routers))) fits
        ∙ ap (λ b. cond b (Some ZoneNamed) (first_reason of_routers)) unnamed

    pub by_router : (why : NetRefused) → first_reason (reasons_of_each router_reasons net) ≡ Some why → network_fault net ≡ Some why
    by_router why fails = counted ∙ first_reason-found (reasons_of_each router_reasons net) (reasons_of_each address_reasons (addresses net)) why fails

    pub by_addresses : first_reason (reasons_of_each router_reasons net) ≡ None → network_fault net ≡ first_reason (reasons_of_each address_reasons (addresses net))
    by_addresses pass = counted ∙ first_reason-append (reasons_of_each router_reasons net) (reasons_of_each address_reasons (addresses net)) pass

-- ---- what each test says

not_false : (b : Bool) → not b ≡ false → b ≡ true
not_false true e = refl
not_false false e = absurd (cc)

module _ (c : Config) (lawful : IsConfig c) where
  lists_pass : EachPasses (reasons_of_each interface_reasons c.interfaces) × EachPasses ((nat_lt owned_limit (length c.prefixes), TooManyPrefixes) ∷ reasons_of_each prefix_reasons c.prefixes)
  lists_pass = passes-append (reasons_of_each interface_reasons c.interfaces) ((nat_lt owned_limit (length c.prefixes), TooManyPrefixes) ∷ reasons_of_each prefix_reasons c.prefixes)
      (each_passes (config_reasons c) lawful.passes).1.1

  interface_local : (i : ℕ) (x : Interface) → slice_get c.interfaces i ≡ Some x → is_link_local x.addr ≡ true
  interface_local i x is = not_false (is_link_local x.addr) (passes_at (λ t. interface_reasons (take t.0 c.interfaces) t.1) 0 c.interfaces i x is lists_pass.0).0

  prefix_routable : (i : ℕ) (t : Prefix6 × ℕ) → slice_get c.prefixes i ≡ Some t → is_routable t.0 ≡ true
  prefix_routable i t is = not_false (is_routable t.0) (passes_at (λ u. prefix_reasons (take u.0 c.prefixes) u.1) 0 c.prefixes i t is lists_pass.1.1).1.0

  prefix_is : (i : ℕ) (t : Prefix6 × ℕ) → slice_get c.prefixes i ≡ Some t → IsPrefix t.0
  prefix_is i t is = subst (λ (u : Prefix6 × ℕ). IsPrefix u.0) (get_or_from_slice_get c.prefixes i t t is) (lawful.prefixes i t (slice_get_within c.prefixes i t is))

-- ---- no address twice

abbrev NoRepeats : List ℕ → Type 0
NoRepeats xs = (p q a : ℕ) → slice_get xs p ≡ Some a → slice_get xs q ≡ Some a → p ≡ q

any_in : (test : ℕ → Bool) (xs : List ℕ) (q p a : ℕ) → slice_get xs p ≡ Some a → p < q → test a ≡ true → list_any test (take q xs) ≡ true
any_in test [] q p a is below passes = absurd (None-Some a is)
any_in test (x ∷ xs) zero p a is below passes = absurd (omega arith)
any_in test (x ∷ xs) (suc q) zero a is below passes = let same : a ≡ x = cc in ap (λ b. b || list_any test (take q xs)) (ap test (sym same) ∙ passes)
any_in test (x ∷ xs) (suc q) (suc p) a is below passes = ap (λ b. test x || b) (any_in test xs q p a is (omega arith) passes) ∙ or_true (test x)
  where
    or_true : (b : Bool) → (b || true) ≡ true
    or_true true = refl
    or_true false = refl

no_repeats : (xs : List ℕ) → EachPasses (reasons_of_each address_reasons xs) → NoRepeats xs
no_repeats xs passes p q a here there = grind (arith, not_before p q here there, not_before q p there here)
  where
    not_before : (m n : ℕ) → slice_get xs m ≡ Some a → slice_get xs n ≡ Some a → n ≤ m
    not_before m n first later =
        let new : list_any (λ b. b == a) (take (0 + n) xs) ≡ false = (passes_at (λ t. address_reasons (take t.0 xs) t.1) 0 xs n a later passes).0 in
        let order : (m < n → ⊥) → n ≤ m = λ never. grind (arith, never) in
        order (λ before.
        let old : list_any (λ b. b == a) (take n xs) ≡ true = any_in (λ b. b == a) xs n m a first before (eq-eqb a a refl) in
        let e : 0 + n ≡ n = omega arith in
        clash (sym old ∙ subst (λ (k : ℕ). list_any (λ b. b == a) (take k xs) ≡ false) e new))
      where
        clash : true ≡ false → ⊥
        clash e = cc

get_shifted : {X : Type 0} (xs ys : List X) (p : ℕ) → slice_get (xs ++ ys) (length xs + p) ≡ slice_get ys p
get_shifted [] ys p = let e : 0 + p ≡ p = omega arith in ap (slice_get ys) e
get_shifted (x ∷ xs) ys p = let e : suc (length xs) + p ≡ suc (length xs + p) = omega arith in ap (slice_get (x ∷ xs ++ ys)) e ∙ get_shifted xs ys p

address_at : (net : Network) (s j : ℕ) (b : NetInterface) → interface_at net s j ≡ Some b → At (addresses net) b.interface.addr
address_at net s j b is =
    let node = then_of (λ (n : Node). slice_get n.interfaces j) (slice_get net s) b is in
    at_flat (λ (n : Node). map (λ (i : NetInterface). i.interface.addr) n.interfaces) net node.0 b.interface.addr (s, node.1)
    (j, slice_get-map (λ (i : NetInterface). i.interface.addr) (node.0).interfaces j ∙ ap (option_map (λ (i : NetInterface). i.interface.addr)) node.2)

-- no address is that of two interfaces of the network
abbrev SharesNoAddress : Network → Type 0
SharesNoAddress net =
    (r i s j : ℕ) (a b : NetInterface) → interface_at net r i ≡ Some a → interface_at net s j ≡ Some b
    → a.interface.addr ≡ b.interface.addr → (r ≡ s) × (i ≡ j)

distinct : (net : Network) → NoRepeats (addresses net) → SharesNoAddress net
distinct [] once r i s j a b here there same = absurd (None-Some a here)
distinct (n ∷ ns) once zero i zero j a b here there same =
    let own = map (λ (t : NetInterface). t.interface.addr) n.interfaces in
    let at_i = slice_get-map (λ (t : NetInterface). t.interface.addr) n.interfaces i ∙ ap (option_map (λ (t : NetInterface). t.interface.addr)) here in
    let at_j = slice_get-map (λ (t : NetInterface). t.interface.addr) n.interfaces j ∙ ap (option_map (λ (t : NetInterface). t.interface.addr)) there ∙ ap Some (sym same) in
    (refl, once i j a.interface.addr (get_left own (addresses ns) i a.interface.addr at_i) (get_left own (addresses ns) j a.interface.addr at_j))
distinct (n ∷ ns) once zero i (suc s) j a b here there same =
    let own = map (λ (t : NetInterface). t.interface.addr) n.interfaces in
    let at_i = slice_get-map (λ (t : NetInterface). t.interface.addr) n.interfaces i ∙ ap (option_map (λ (t : NetInterface). t.interface.addr)) here in
    let far = get_past own (addresses ns) b.interface.addr (address_at ns s j b there) in
    let one = once i far.0 a.interface.addr (get_left own (addresses ns) i a.interface.addr at_i) (far.2 ∙ ap Some (sym same)) in
    absurd (omega (arith, one, far.1, slice_get_within own i a.interface.addr at_i))
distinct (n ∷ ns) once (suc r) i zero j a b here there same =
    let own = map (λ (t : NetInterface). t.interface.addr) n.interfaces in
    let at_j = slice_get-map (λ (t : NetInterface). t.interface.addr) n.interfaces j ∙ ap (option_map (λ (t : NetInterface). t.interface.addr)) there in
    let far = get_past own (addresses ns) a.interface.addr (address_at ns r i a here) in
    let one = once j far.0 b.interface.addr (get_left own (addresses ns) j b.interface.addr at_j) (far.2 ∙ ap Some same) in
    absurd (omega (arith, one, far.1, slice_get_within own j b.interface.addr at_j))
distinct (n ∷ ns) once (suc r) i (suc s) j a b here there same =
    let own = map (λ (t : NetInterface). t.interface.addr) n.interfaces in
    let rest_once : NoRepeats (addresses ns) = λ p q x at_p at_q.
    let one = once (length own + p) (length own + q) x (get_shifted own (addresses ns) p ∙ at_p) (get_shifted own (addresses ns) q ∙ at_q) in
    omega (arith, one) in
    let later = distinct ns rest_once r i s j a b here there same in
    (ap suc later.0, later.1)

-- ---- zones

neither : (a b : Bool) → (a || b) ≡ false → (a ≡ false) × (b ≡ false)
neither true b e = absurd (cc)
neither false b e = (refl, e)

none_at : {X : Type 0} (test : X → Bool) (xs : List X) (i : ℕ) (x : X) → list_any test xs ≡ false → slice_get xs i ≡ Some x → test x ≡ false
none_at test [] i x none is = absurd (None-Some x is)
none_at test (y ∷ ys) zero x none is = ap test (sym (Some-same y x is)) ∙ (neither (test y) (list_any test ys) none).0
none_at test (y ∷ ys) (suc i) x none is = none_at test ys i x (neither (test y) (list_any test ys) none).1 is

-- where all interfaces are in one zone, as where none is named, each link is in one to each router
pub zones_of_one : (net : Network) (zone : ℕ) → ((r i : ℕ) (a : NetInterface) → interface_at net r i ≡ Some a → a.interface.zone ≡ zone) → AreZoned net
zones_of_one net zone all r i j l = all r i l.here l.here_is ∙ sym (all r j l.there l.there_is)

-- ---- filters, limits and passive interfaces

-- where there are none, all routes are taken and announced, so that convergence and healing ask only for room
pub let_through_without_lists : (net : Network) → HaveNoLists net → (is_so : Prefix6 → Type 0) (number : ℕ) → AreLetThrough net is_so number
let_through_without_lists net none is_so number =
    record {
      accepted = λ router iface node p is so. ap (λ (fs : List Filter). is_accepted (config_with [] [] false fs []) iface p) (none router node is).0;
      announced = λ router iface node p is so. ap (λ (fs : List Filter). lets_through fs iface p) (none router node is).3;
      within = λ router iface limit node is at.
          absurd (None-Some limit (sym (ap (λ (ls : List Limit). limit_at (config_with [] [] false [] ls) iface) (none router node is).1) ∙ at));
    }

-- and no interface is passive but those of a quiet router
pub active_without_lists : (net : Network) → HaveNoLists net → ((router : ℕ) (node : Node) → slice_get net router ≡ Some node → IsFalse node.quiet) → IsNeverQuiet net
active_without_lists net none loud router iface node is =
    ap (λ (ns : List ℕ). node.quiet || list_any (λ n. n == iface) ns) (none router node is).2 ∙ ap (λ b. b || false) (loud router node is)

-- ---- all together: no address twice is more than a network needs

distinct_where_heard : (net : Network) → SharesNoAddress net → HasDistinctAddresses net
distinct_where_heard net shares =
    record {
      on_links = λ r i s j l same. shares r i s j l.here l.there l.here_is l.there_is same;
      of_neighbors = λ r i k s j own is l zone same. (shares r i s j own l.there is l.there_is same).0;
    }

module _ (net : Network) (none : network_fault net ≡ None) (lawful : All (λ node. IsConfig (config_of node) × HasNoLists node) net) where
  config_at : (router : ℕ) (node : Node) → slice_get net router ≡ Some node → IsConfig (config_of node) × HasNoLists node
  config_at router node is = subst (λ (n : Node). IsConfig (config_of n) × HasNoLists n) (get_or_from_slice_get net router node node is) (lawful router node (slice_get_within net router node is))

  -- an interface in the configuration of its router
  record IsConfigured (router iface : ℕ) (i : NetInterface) : Type 0 where
    pub node : Node
    pub is_config : IsConfig (config_of node)
    pub interface_is : slice_get (config_of node).interfaces iface ≡ Some i.interface

  configured : (router iface : ℕ) (i : NetInterface) → interface_at net router iface ≡ Some i → IsConfigured router iface i
  configured router iface i is =
      let node = then_of (λ (n : Node). slice_get n.interfaces iface) (slice_get net router) i is in
      record {
        node = node.0;
        is_config = (config_at router node.0 node.1).0;
        interface_is = slice_get-map (λ (t : NetInterface). t.interface) (node.0).interfaces iface ∙ ap (option_map (λ (t : NetInterface). t.interface)) node.2;
      }

  owned : OwnsPrefixes net
  owned router p tag o = prefix_is (config_of o.node) (config_at router o.node o.node_is).0 o.place (p, tag) o.listed

  usable : IsUsable net
  usable =
      record {
        costs = λ router iface i is. let c = configured router iface i is in
            (cost_low (config_of c.node) c.is_config iface i.interface c.interface_is, cost_high (config_of c.node) c.is_config iface i.interface c.interface_is);
        local = λ router iface i is. let c = configured router iface i is in interface_local (config_of c.node) c.is_config iface i.interface c.interface_is;
        mtus = λ router iface i is. let c = configured router iface i is in
            (mtu_low (config_of c.node) c.is_config iface i.interface c.interface_is, mtu_high (config_of c.node) c.is_config iface i.interface c.interface_is);
        routable = λ router p tag o. prefix_routable (config_of o.node) (config_at router o.node o.node_is).0 o.place (p, tag) o.listed;
      }

  pub is_network : IsNetwork net
  is_network =
      record {
        owns_prefixes = owned;
        distinct = distinct_where_heard net (distinct net (no_repeats (addresses net)
            (passes-append (reasons_of_each router_reasons net) (reasons_of_each address_reasons (addresses net)) (each_passes (network_reasons net) none).1.1).1));
        usable = usable;
      }

  -- no interface names a zone
  pub is_zoned : AreZoned net
  is_zoned = zones_of_one net 0 (λ router iface i is.
      let node = then_of (λ (n : Node). slice_get n.interfaces iface) (slice_get net router) i is in
      let none_of_node : names_zone node.0 ≡ false = none_at names_zone net router node.0 (each_passes (network_reasons net) none).1.0 node.1 in
      eqb-true i.interface.zone 0 (not_false (i.interface.zone == 0) (none_at (λ (t : NetInterface). not (t.interface.zone == 0)) (node.0).interfaces iface i none_of_node node.2)))

  pub without_lists : HaveNoLists net
  without_lists router node is = (config_at router node is).1
