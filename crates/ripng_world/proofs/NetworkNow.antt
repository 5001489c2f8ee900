-- The network as changes have left it: lawful where they are, and of the same routers, links and addresses.
use Rattle.std.proofs.Common.{◌≡◌, ◌⊎◌, inl, inr, ℕ, zero, suc, ◌<◌, ◌≤◌, ◌==◌, Bool, true, false, cond, not, List, [], ◌∷◌, ◌++◌, map, filter, length, Option, Some, None, option_map, option_and_then, unwrap_or, slice_get, slice_set, refl, ap, sym, subst, ◌∙◌, arith, IsTrue, ◌||◌, IsFalse}
use Rattle.std.specs.List.{AllByRecursion, list_any}
use Rattle.std.proofs.lemmas.Bool.{eq-eqb, eqb-true}
use Rattle.std.proofs.lemmas.Bool.Decides.{nat_tests}
use Rattle.std.proofs.lemmas.List.Sums.{fold-append}
use Rattle.prefix6.specs.Addr.{is_link_local}
use Rattle.prefix6.specs.Prefix.{Prefix6, IsPrefix, is_routable, same_prefix}
use Rattle.route_table.specs.Route.{infinity}
use Rattle.route_table.proofs.TableLaws.{Some-same, None-Some}
use Rattle.router_core.specs.Announcing.{is_passive}
use Rattle.router_core.specs.Config.{announcing, config_with}
use Rattle.router_core.specs.Filters.{is_accepted, limit_at}
use Rattle.router_core.specs.Lists.{lets_through}
use Rattle.router_core.specs.Reconfiguring.{with_cost, reconfigured_config}
use Rattle.router_core.specs.declared.config.Interface.{Interface}
use Rattle.router_core.specs.declared.filter.Filter.{Filter}
use Rattle.router_core.specs.declared.filter.Limit.{Limit}
use Rattle.router_core.specs.declared.reconfiguring.Change.{Change}
use Rattle.router_core.specs.declared.reconfiguring.Change.TheVariants.{Cost, Own, Disown}
use Rattle.ripng_world.specs.declared.network.NetInterface.{NetInterface}
use Rattle.ripng_world.specs.Convergence.{AreLetThrough}
use Rattle.ripng_world.specs.Healing.{with_link_cost, reconfigured_node, reconfigured_network, network_now}
use Rattle.ripng_world.specs.Network.{Network, Node, AreLinked, AreZoned, IsNetwork, Owns, config_of, interface_at}
use Rattle.ripng_world.proofs.Members.{At, split_at}
use Rattle.ripng_world.proofs.WorldRuns.{get_set, in_node}

-- ---- places

-- where an interface is: what no change touches
abbrev pub place_of : NetInterface → ℕ × ℕ × ℕ × ℕ
place_of i = (i.link, i.interface.addr, i.interface.mtu, i.interface.zone)

-- what keeps routes out of a router, or in it
abbrev lists_of : Node → List Filter × List Limit × List Filter
lists_of node = (node.filters, node.limits, node.announcements)

-- which interfaces are passive
abbrev pub passive_of : Node → Bool × List ℕ
passive_of node = (node.quiet, node.passive)

-- as many routers, each with the same interfaces but for their costs, of which the same are passive, and with the same filters and limits
pub record AreAlike (net other : Network) : Type 0 where
  pub size : length other ≡ length net
  pub places : (router iface : ℕ) → option_map place_of (interface_at other router iface) ≡ option_map place_of (interface_at net router iface)
  pub passive : (router : ℕ) → option_map passive_of (slice_get other router) ≡ option_map passive_of (slice_get net router)
  pub lists : (router : ℕ) → option_map lists_of (slice_get other router) ≡ option_map lists_of (slice_get net router)

pub alike_trans : (a b c : Network) → AreAlike a b → AreAlike b c → AreAlike a c
alike_trans a b c x y =
    record { size = y.size ∙ x.size; places = λ r i. y.places r i ∙ x.places r i; passive = λ r. y.passive r ∙ x.passive r; lists = λ r. y.lists r ∙ x.lists r }

pub alike_refl : (a : Network) → AreAlike a a
alike_refl a = record { size = refl; places = λ r i. refl; passive = λ r. refl; lists = λ r. refl }

pub alike_back : (a b : Network) → AreAlike a b → AreAlike b a
alike_back a b x = record { size = sym x.size; places = λ r i. sym (x.places r i); passive = λ r. sym (x.passive r); lists = λ r. sym (x.lists r) }

-- the interface of the other network
pub record IsPlaced (other : Network) (router iface : ℕ) (i : NetInterface) : Type 0 where
  pub there : NetInterface
  pub there_is : interface_at other router iface ≡ Some there
  pub link : there.link ≡ i.link
  pub addr : there.interface.addr ≡ i.interface.addr
  pub mtu : there.interface.mtu ≡ i.interface.mtu
  pub zone : there.interface.zone ≡ i.interface.zone

pub placed : (net other : Network) → AreAlike net other → (router iface : ℕ) (i : NetInterface) → interface_at net router iface ≡ Some i → IsPlaced other router iface i
placed net other same router iface i is = by_value (interface_at other router iface) refl (same.places router iface ∙ ap (option_map place_of) is)
  where
    by_value : (o : Option NetInterface) → interface_at other router iface ≡ o → option_map place_of o ≡ Some (place_of i) → IsPlaced other router iface i
    by_value None at e = absurd (None-Some (place_of i) e)
    by_value (Some j) at e =
        let f : place_of j ≡ place_of i = Some-same (place_of j) (place_of i) e in
        record {
          there = j;
          there_is = at;
          link = ap (λ (x : ℕ × ℕ × ℕ × ℕ). x.0) f;
          addr = ap (λ (x : ℕ × ℕ × ℕ × ℕ). x.1) f;
          mtu = ap (λ (x : ℕ × ℕ × ℕ × ℕ). x.2) f;
          zone = ap (λ (x : ℕ × ℕ × ℕ × ℕ). x.3) f;
        }

pub linked_alike : (net other : Network) → AreAlike net other → (a i b j : ℕ) → AreLinked net a i b j → AreLinked other a i b j
linked_alike net other same a i b j l =
    let x = placed net other same a i l.here l.here_is in
    let y = placed net other same b j l.there l.there_is in
    record { here = x.there; there = y.there; here_is = x.there_is; there_is = y.there_is; same_link = x.link ∙ l.same_link ∙ sym y.link }

pub zoned_alike : (net other : Network) → AreAlike net other → AreZoned net → AreZoned other
zoned_alike net other same zoned r i j l =
    let x = placed other net (alike_back net other same) r i l.here l.here_is in
    let y = placed other net (alike_back net other same) r j l.there l.there_is in
    sym x.zone
    ∙ zoned r i j (record { here = x.there; there = y.there; here_is = x.there_is; there_is = y.there_is; same_link = x.link ∙ l.same_link ∙ sym y.link })
    ∙ y.zone

pub passive_alike : (iface : ℕ) (old new : Node) → passive_of old ≡ passive_of new → IsFalse (is_passive (config_of old) iface) → IsFalse (is_passive (config_of new) iface)
passive_alike iface old new same none = sym (ap (λ (x : Bool × List ℕ). x.0 || list_any (λ n. n == iface) x.1) same) ∙ none

pub taken_alike : (net other : Network) → AreAlike net other → (is_so : Prefix6 → Type 0) (number : ℕ) → AreLetThrough net is_so number → AreLetThrough other is_so number
taken_alike net other same is_so number taken =
    record {
      accepted = λ router iface node p is so. let t = there router node is in
          subst (λ (fs : List Filter). is_accepted (config_with [] [] false fs []) iface p ≡ true) (ap (λ (x : List Filter × List Limit × List Filter). x.0) t.2) (taken.accepted router iface t.0 p t.1 so);
      announced = λ router iface node p is so. let t = there router node is in
          subst (λ (fs : List Filter). lets_through fs iface p ≡ true) (ap (λ (x : List Filter × List Limit × List Filter). x.2) t.2) (taken.announced router iface t.0 p t.1 so);
      within = λ router iface limit node is at. let t = there router node is in
          taken.within router iface limit t.0 t.1 (ap (λ (x : List Filter × List Limit × List Filter). limit_at (config_with [] [] false [] x.1) iface) t.2 ∙ at);
    }
  where
    there : (router : ℕ) (node : Node) → slice_get other router ≡ Some node → (old : Node) × (slice_get net router ≡ Some old) × (lists_of old ≡ lists_of node)
    there router node is = by_value (slice_get net router) refl (sym (same.lists router) ∙ ap (option_map lists_of) is)
      where
        by_value : (o : Option Node) → slice_get net router ≡ o → option_map lists_of o ≡ Some (lists_of node) → (old : Node) × (slice_get net router ≡ Some old) × (lists_of old ≡ lists_of node)
        by_value None at e = absurd (None-Some (lists_of node) e)
        by_value (Some old) at e = (old, at, Some-same (lists_of old) (lists_of node) e)

-- ---- one change

-- a change that a router may do
abbrev pub IsLawfulChange : Change → Type 0
IsLawfulChange (Cost iface cost) = (1 ≤ cost) × (cost < infinity)
IsLawfulChange (Own p tag) = IsPrefix p × IsTrue (is_routable p)
IsLawfulChange (Disown p) = Unit {0}

zero_suc : (j : ℕ) → (0 == suc j) ≡ false
zero_suc j = grind (arith, nat_tests)

suc_zero : (j : ℕ) → (suc j == 0) ≡ false
suc_zero j = grind (arith, nat_tests)

pub set_get : {X : Type 0} (xs : List X) (i : ℕ) (x old : X) → slice_get xs i ≡ Some old → (j : ℕ) → slice_get (slice_set xs i x) j ≡ cond (i == j) (Some x) (slice_get xs j)
set_get [] i x old is j = absurd (None-Some old is)
set_get (y ∷ ys) zero x old is zero = refl
set_get (y ∷ ys) zero x old is (suc j) = sym (ap (λ b. cond b (Some x) (slice_get ys j)) (zero_suc j))
set_get (y ∷ ys) (suc i) x old is zero = sym (ap (λ b. cond b (Some x) (Some y)) (suc_zero i))
set_get {X = X} (y ∷ ys) (suc i) x old is (suc j) = set_get ys i x old is j ∙ ap (λ b. cond b (Some x) (slice_get ys j)) (shifted i j)
  where
    same_answers : (a b : Bool) → (a ≡ true → b ≡ true) → (b ≡ true → a ≡ true) → a ≡ b
    same_answers true b f g = sym (f refl)
    same_answers false true f g = g refl
    same_answers false false f g = refl

    shifted : (i j : ℕ) → (i == j) ≡ (suc i == suc j)
    shifted i j = same_answers (i == j) (suc i == suc j) (λ e. eq-eqb (suc i) (suc j) (ap suc (eqb-true i j e))) (λ e. eq-eqb i j (down i j (eqb-true (suc i) (suc j) e)))
      where
        down : (i j : ℕ) → suc i ≡ suc j → i ≡ j
        down i j e = omega arith

set_length : {X : Type 0} (xs : List X) (i : ℕ) (x : X) → length (slice_set xs i x) ≡ length xs
set_length [] i x = refl
set_length (y ∷ ys) zero x = refl
set_length (y ∷ ys) (suc i) x = ap suc (set_length ys i x)

-- of one router
cost_places : (is : List NetInterface) (iface cost j : ℕ) → option_map place_of (slice_get (with_link_cost is iface cost) j) ≡ option_map place_of (slice_get is j)
cost_places is iface cost j = by_value (slice_get is iface) refl
  where
    by_value : (o : Option NetInterface) → slice_get is iface ≡ o
        → option_map place_of (slice_get (unwrap_or (option_map (λ i. slice_set is iface (record i { interface = record i.interface { cost = cost } })) o) is) j) ≡ option_map place_of (slice_get is j)
    by_value None at = refl
    by_value (Some i) at = ap (option_map place_of) (set_get is iface (record i { interface = record i.interface { cost = cost } }) i at j) ∙ by_place (iface == j) refl
      where
        by_place : (b : Bool) → (iface == j) ≡ b → option_map place_of (cond b (Some (record i { interface = record i.interface { cost = cost } })) (slice_get is j)) ≡ option_map place_of (slice_get is j)
        by_place true e = sym (ap (option_map place_of) (ap (slice_get is) (sym (eqb-true iface j e)) ∙ at))
        by_place false e = refl

node_places : (node : Node) (c : Change) (j : ℕ) → option_map place_of (slice_get (reconfigured_node node c).interfaces j) ≡ option_map place_of (slice_get node.interfaces j)
node_places node (Cost iface cost) j = cost_places node.interfaces iface cost j
node_places node (Own p tag) j = refl
node_places node (Disown p) j = refl

node_lists : (node : Node) (c : Change) → lists_of (reconfigured_node node c) ≡ lists_of node
node_lists node (Cost iface cost) = refl
node_lists node (Own p tag) = refl
node_lists node (Disown p) = refl

node_passive : (node : Node) (c : Change) → passive_of (reconfigured_node node c) ≡ passive_of node
node_passive node (Cost iface cost) = refl
node_passive node (Own p tag) = refl
node_passive node (Disown p) = refl

node_costs : (node : Node) (c : Change) → IsLawfulChange c → (j : ℕ) (i : NetInterface) → slice_get (reconfigured_node node c).interfaces j ≡ Some i
    → ((1 ≤ i.interface.cost) × (i.interface.cost < infinity)) ⊎ (slice_get node.interfaces j ≡ Some i)
node_costs node (Own p tag) lawful j i is = inr is
node_costs node (Disown p) lawful j i is = inr is
node_costs node (Cost iface cost) lawful j i is = by_value (slice_get node.interfaces iface) is
  where
    by_value : (o : Option NetInterface) → slice_get (unwrap_or (option_map (λ i. slice_set node.interfaces iface (record i { interface = record i.interface { cost = cost } })) o) node.interfaces) j ≡ Some i
        → ((1 ≤ i.interface.cost) × (i.interface.cost < infinity)) ⊎ (slice_get node.interfaces j ≡ Some i)
    by_value None e = inr e
    by_value (Some k) e =
        elim (get_set node.interfaces iface (record k { interface = record k.interface { cost = cost } }) j i e) [
          | inl both ↦ inl (subst (λ (x : NetInterface). (1 ≤ x.interface.cost) × (x.interface.cost < infinity)) both.1 lawful)
          | inr there ↦ inr there
        ]

-- what stands in a filtered list stood in the list
at_unfiltered : {X : Type 0} (test : X → Bool) (xs : List X) (x : X) → At (filter test xs) x → At xs x
at_unfiltered test [] x a = a
at_unfiltered test (y ∷ ys) x a = by_test (test y) a (λ b. at_unfiltered test ys x b)
  where
    by_test : (b : Bool) → At (cond b (y ∷ filter test ys) (filter test ys)) x → (At (filter test ys) x → At ys x) → At (y ∷ ys) x
    by_test true a later = by_place a.0 a.1
      where
        by_place : (i : ℕ) → slice_get (y ∷ filter test ys) i ≡ Some x → At (y ∷ ys) x
        by_place zero e = (0, e)
        by_place (suc i) e = let l = later (i, e) in (suc l.0, l.1)
    by_test false a later = let l = later a in (suc l.0, l.1)

pub node_prefixes : (node : Node) (c : Change) (t : Prefix6 × ℕ) → At (reconfigured_node node c).prefixes t → At node.prefixes t ⊎ (c ≡ Own t.0 t.1)
node_prefixes node (Cost iface cost) t a = inl a
node_prefixes node (Disown p) t a = inl (at_unfiltered (λ u. not (same_prefix u.0 p)) node.prefixes t a)
node_prefixes node (Own p tag) t a =
    elim (split_at node.prefixes ((p, tag) ∷ []) a.0 t a.1) [
      | inl b ↦ inl b
      | inr b ↦ inr (one b.0 b.1)
    ]
  where
    one : (i : ℕ) → slice_get ((p, tag) ∷ []) i ≡ Some t → Own p tag ≡ Own t.0 t.1
    one zero e = ap (λ (u : Prefix6 × ℕ). Own u.0 u.1) (Some-same (p, tag) t e)
    one (suc i) e = absurd (None-Some t e)

-- the configuration changes alike
pub changed_alike : (node : Node) (c : Change) → config_of (reconfigured_node node c) ≡ reconfigured_config (config_of node) c
changed_alike node (Own p tag) = refl
changed_alike node (Disown p) = refl
changed_alike node (Cost iface cost) = ap (λ (is : List Interface). announcing (config_with is node.prefixes node.quiet node.filters node.limits) node.passive node.announcements) (by_value (slice_get node.interfaces iface) refl)
  where
    bare : NetInterface → Interface
    bare i = i.interface

    get_bare : (is : List NetInterface) (j : ℕ) → slice_get (map (λ (i : NetInterface). i.interface) is) j ≡ option_map (λ (i : NetInterface). i.interface) (slice_get is j)
    get_bare [] j = refl
    get_bare (i ∷ is) zero = refl
    get_bare (i ∷ is) (suc j) = get_bare is j

    set_bare : (is : List NetInterface) (j : ℕ) (x : NetInterface) → map (λ (i : NetInterface). i.interface) (slice_set is j x) ≡ slice_set (map (λ (i : NetInterface). i.interface) is) j x.interface
    set_bare [] j x = refl
    set_bare (i ∷ is) zero x = refl
    set_bare (i ∷ is) (suc j) x = ap (λ rest. i.interface ∷ rest) (set_bare is j x)

    by_value : (o : Option NetInterface) → slice_get node.interfaces iface ≡ o
        → map (λ (i : NetInterface). i.interface) (with_link_cost node.interfaces iface cost) ≡ with_cost (map (λ (i : NetInterface). i.interface) node.interfaces) iface cost
    by_value None at =
        ap (λ o. map (λ (i : NetInterface). i.interface) (unwrap_or (option_map (λ i. slice_set node.interfaces iface (record i { interface = record i.interface { cost = cost } })) o) node.interfaces)) at
        ∙ sym (ap (λ o. unwrap_or (option_map (λ i. slice_set (map (λ (i : NetInterface). i.interface) node.interfaces) iface (record i { cost = cost })) o) (map (λ (i : NetInterface). i.interface) node.interfaces))
        (get_bare node.interfaces iface ∙ ap (option_map (λ (i : NetInterface). i.interface)) at))
    by_value (Some k) at =
        ap (λ o. map (λ (i : NetInterface). i.interface) (unwrap_or (option_map (λ i. slice_set node.interfaces iface (record i { interface = record i.interface { cost = cost } })) o) node.interfaces)) at
        ∙ set_bare node.interfaces iface (record k { interface = record k.interface { cost = cost } })
        ∙ sym (ap (λ o. unwrap_or (option_map (λ i. slice_set (map (λ (i : NetInterface). i.interface) node.interfaces) iface (record i { cost = cost })) o) (map (λ (i : NetInterface). i.interface) node.interfaces))
        (get_bare node.interfaces iface ∙ ap (option_map (λ (i : NetInterface). i.interface)) at))

-- ---- of a network

module _ (net : Network) (router : ℕ) (c : Change) where
  abbrev next : Network
  next = reconfigured_network net (router, c)

  -- each router of the network after it
  pub changed_at : (r : ℕ) → slice_get (reconfigured_network net (router, c)) r ≡ option_map (λ node. cond (router == r) (reconfigured_node node c) node) (slice_get net r)
  changed_at r = by_value (slice_get net router) refl
    where
      same : (o : Option Node) → o ≡ option_map (λ node. node) o
      same None = refl
      same (Some x) = refl

      by_value : (o : Option Node) → slice_get net router ≡ o
          → slice_get (unwrap_or (option_map (λ node. slice_set net router (reconfigured_node node c)) o) net) r ≡ option_map (λ node. cond (router == r) (reconfigured_node node c) node) (slice_get net r)
      by_value None at = by_place (router == r) refl
        where
          by_place : (b : Bool) → (router == r) ≡ b → slice_get net r ≡ option_map (λ node. cond b (reconfigured_node node c) node) (slice_get net r)
          by_place true e = gone (ap (slice_get net) (sym (eqb-true router r e)) ∙ at)
            where
              gone : slice_get net r ≡ None → slice_get net r ≡ option_map (λ node. reconfigured_node node c) (slice_get net r)
              gone f = f ∙ sym (ap (option_map (λ node. reconfigured_node node c)) f)
          by_place false e = same (slice_get net r)
      by_value (Some node) at = set_get net router (reconfigured_node node c) node at r ∙ by_place (router == r) refl
        where
          by_place : (b : Bool) → (router == r) ≡ b → cond b (Some (reconfigured_node node c)) (slice_get net r) ≡ option_map (λ x. cond b (reconfigured_node x c) x) (slice_get net r)
          by_place true e = sym (ap (option_map (λ x. reconfigured_node x c)) (ap (slice_get net) (sym (eqb-true router r e)) ∙ at))
          by_place false e = same (slice_get net r)

  pub change_alike : AreAlike net (reconfigured_network net (router, c))
  change_alike = record { size = by_value (slice_get net router); places = places; passive = passive; lists = lists }
    where
      by_value : (o : Option Node) → length (unwrap_or (option_map (λ node. slice_set net router (reconfigured_node node c)) o) net) ≡ length net
      by_value None = refl
      by_value (Some node) = set_length net router (reconfigured_node node c)

      places : (r iface : ℕ) → option_map place_of (interface_at (reconfigured_network net (router, c)) r iface) ≡ option_map place_of (interface_at net r iface)
      places r iface = ap (λ o. option_map place_of (option_and_then (λ (node : Node). slice_get node.interfaces iface) o)) (changed_at r) ∙ at (slice_get net r) (router == r)
        where
          at : (o : Option Node) (b : Bool) → option_map place_of (option_and_then (λ (node : Node). slice_get node.interfaces iface) (option_map (λ node. cond b (reconfigured_node node c) node) o))
              ≡ option_map place_of (option_and_then (λ (node : Node). slice_get node.interfaces iface) o)
          at None b = refl
          at (Some node) true = node_places node c iface
          at (Some node) false = refl

      passive : (r : ℕ) → option_map passive_of (slice_get (reconfigured_network net (router, c)) r) ≡ option_map passive_of (slice_get net r)
      passive r = ap (option_map passive_of) (changed_at r) ∙ at (slice_get net r) (router == r)
        where
          at : (o : Option Node) (b : Bool) → option_map passive_of (option_map (λ node. cond b (reconfigured_node node c) node) o) ≡ option_map passive_of o
          at None b = refl
          at (Some node) true = ap Some (node_passive node c)
          at (Some node) false = refl

      lists : (r : ℕ) → option_map lists_of (slice_get (reconfigured_network net (router, c)) r) ≡ option_map lists_of (slice_get net r)
      lists r = ap (option_map lists_of) (changed_at r) ∙ at (slice_get net r) (router == r)
        where
          at : (o : Option Node) (b : Bool) → option_map lists_of (option_map (λ node. cond b (reconfigured_node node c) node) o) ≡ option_map lists_of o
          at None b = refl
          at (Some node) true = ap Some (node_lists node c)
          at (Some node) false = refl

  -- a node of the network after it is one of before, or was changed
  came_from : (r : ℕ) (node : Node) → slice_get (reconfigured_network net (router, c)) r ≡ Some node → (old : Node) × (slice_get net r ≡ Some old) × ((node ≡ old) ⊎ (node ≡ reconfigured_node old c))
  came_from r node is = by_value (slice_get net r) refl (sym (changed_at r) ∙ is)
    where
      by_value : (o : Option Node) → slice_get net r ≡ o → option_map (λ x. cond (router == r) (reconfigured_node x c) x) o ≡ Some node → (old : Node) × (slice_get net r ≡ Some old) × ((node ≡ old) ⊎ (node ≡ reconfigured_node old c))
      by_value None at e = absurd (None-Some node e)
      by_value (Some old) at e = (old, at, by_place (router == r) (Some-same _ node e))
        where
          by_place : (b : Bool) → cond b (reconfigured_node old c) old ≡ node → (node ≡ old) ⊎ (node ≡ reconfigured_node old c)
          by_place true f = inr (sym f)
          by_place false f = inl (sym f)

  owned_from : (r : ℕ) (p : Prefix6) (tag : ℕ) → Owns (reconfigured_network net (router, c)) r p tag → Owns net r p tag ⊎ (c ≡ Own p tag)
  owned_from r p tag owns =
      let f = came_from r owns.node owns.node_is in
      elim f.2 [
        | inl same ↦ inl (record { node = f.0; node_is = f.1; place = owns.place; listed = ap (λ (n : Node). slice_get n.prefixes owns.place) (sym same) ∙ owns.listed })
        | inr changed ↦ elim (node_prefixes f.0 c (p, tag) (owns.place, ap (λ (n : Node). slice_get n.prefixes owns.place) (sym changed) ∙ owns.listed)) [
          | inl a ↦ inl (record { node = f.0; node_is = f.1; place = a.0; listed = a.1 })
          | inr e ↦ inr e
        ]
      ]

  pub change_lawful : IsLawfulChange c → IsNetwork net → IsNetwork (reconfigured_network net (router, c))
  change_lawful lawful is_net =
      record {
        owns_prefixes = λ r p tag owns. (owned r p tag (owned_from r p tag owns)).0;
        distinct = record {
          on_links = λ r i s j l same.
              let x = placed (reconfigured_network net (router, c)) net (alike_back net (reconfigured_network net (router, c)) change_alike) r i l.here l.here_is in
              let y = placed (reconfigured_network net (router, c)) net (alike_back net (reconfigured_network net (router, c)) change_alike) s j l.there l.there_is in
              is_net.distinct.on_links r i s j
              (record { here = x.there; there = y.there; here_is = x.there_is; there_is = y.there_is; same_link = x.link ∙ l.same_link ∙ sym y.link })
              (x.addr ∙ same ∙ sym y.addr);
          of_neighbors = λ r i k s j own at l zone same.
              let o = placed (reconfigured_network net (router, c)) net (alike_back net (reconfigured_network net (router, c)) change_alike) r i own at in
              let x = placed (reconfigured_network net (router, c)) net (alike_back net (reconfigured_network net (router, c)) change_alike) r k l.here l.here_is in
              let y = placed (reconfigured_network net (router, c)) net (alike_back net (reconfigured_network net (router, c)) change_alike) s j l.there l.there_is in
              is_net.distinct.of_neighbors r i k s j o.there o.there_is
              (record { here = x.there; there = y.there; here_is = x.there_is; there_is = y.there_is; same_link = x.link ∙ l.same_link ∙ sym y.link })
              (o.zone ∙ zone ∙ sym x.zone) (o.addr ∙ same ∙ sym y.addr);
        };
        usable = record {
          costs = λ r i a at. costs r i a at;
          local = λ r i a at.
              let x = placed (reconfigured_network net (router, c)) net (alike_back net (reconfigured_network net (router, c)) change_alike) r i a at in
              subst (λ n. IsTrue (is_link_local n)) x.addr (is_net.usable.local r i x.there x.there_is);
          mtus = λ r i a at.
              let x = placed (reconfigured_network net (router, c)) net (alike_back net (reconfigured_network net (router, c)) change_alike) r i a at in
              subst (λ n. (1280 ≤ n) × (n ≤ 65535)) x.mtu (is_net.usable.mtus r i x.there x.there_is);
          routable = λ r p tag owns. (owned r p tag (owned_from r p tag owns)).1;
        };
      }
    where
      owned : (r : ℕ) (p : Prefix6) (tag : ℕ) → Owns net r p tag ⊎ (c ≡ Own p tag) → IsPrefix p × IsTrue (is_routable p)
      owned r p tag (inl o) = (is_net.owns_prefixes r p tag o, is_net.usable.routable r p tag o)
      owned r p tag (inr e) = subst IsLawfulChange e lawful

      costs : (r i : ℕ) (a : NetInterface) → interface_at (reconfigured_network net (router, c)) r i ≡ Some a → (1 ≤ a.interface.cost) × (a.interface.cost < infinity)
      costs r i a at = by_value (slice_get (reconfigured_network net (router, c)) r) refl
        where
          by_value : (o : Option Node) → slice_get (reconfigured_network net (router, c)) r ≡ o → (1 ≤ a.interface.cost) × (a.interface.cost < infinity)
          by_value None is = absurd (None-Some a (sym (ap (option_and_then (λ (node : Node). slice_get node.interfaces i)) is) ∙ at))
          by_value (Some node) is =
              let f = came_from r node is in
              let here : slice_get node.interfaces i ≡ Some a = sym (ap (option_and_then (λ (node : Node). slice_get node.interfaces i)) is) ∙ at in
              elim f.2 [
                | inl same ↦ is_net.usable.costs r i a (in_node net r i f.0 f.1 ∙ ap (λ (n : Node). slice_get n.interfaces i) (sym same) ∙ here)
                | inr changed ↦ elim (node_costs f.0 c lawful i a (ap (λ (n : Node). slice_get n.interfaces i) (sym changed) ∙ here)) [
                  | inl x ↦ x
                  | inr x ↦ is_net.usable.costs r i a (in_node net r i f.0 f.1 ∙ x)
                ]
              ]

-- ---- all changes

abbrev pub AreLawful : List (ℕ × Change) → Type 0
AreLawful reconfigurations = AllByRecursion (λ (t : ℕ × Change). IsLawfulChange t.1) reconfigurations

pub now_alike : (reconfigurations : List (ℕ × Change)) (net : Network) → AreAlike net (network_now (record { net = net; reconfigurations = reconfigurations }))
now_alike [] net = alike_refl net
now_alike (c ∷ reconfigurations) net =
    alike_trans net (reconfigured_network net c) (network_now (record { net = reconfigured_network net c; reconfigurations = reconfigurations })) (change_alike net c.0 c.1) (now_alike reconfigurations (reconfigured_network net c))

pub now_lawful : (reconfigurations : List (ℕ × Change)) (net : Network) → AreLawful reconfigurations → IsNetwork net → IsNetwork (network_now (record { net = net; reconfigurations = reconfigurations }))
now_lawful [] net lawful is_net = is_net
now_lawful (c ∷ reconfigurations) net lawful is_net = now_lawful reconfigurations (reconfigured_network net c) lawful.1 (change_lawful net c.0 c.1 lawful.0 is_net)

pub now_zoned : (reconfigurations : List (ℕ × Change)) (net : Network) → AreZoned net → AreZoned (network_now (record { net = net; reconfigurations = reconfigurations }))
now_zoned reconfigurations net = zoned_alike net (network_now (record { net = net; reconfigurations = reconfigurations })) (now_alike reconfigurations net)

pub now_more : (net : Network) (reconfigurations : List (ℕ × Change)) (c : ℕ × Change) → network_now (record { net = net; reconfigurations = reconfigurations ++ c ∷ [] }) ≡ reconfigured_network (network_now (record { net = net; reconfigurations = reconfigurations })) c
now_more net reconfigurations c = fold-append reconfigured_network net reconfigurations (c ∷ [])
