-- Two gateways, each with fe80::1 at a link of its own, where its hosts are, and one link between them: a network, though no lab is made of
-- it, since two of its interfaces have one address.
use Rattle.std.proofs.Common.{◌≡◌, ℕ, zero, suc, ◌+◌, ◌<◌, ◌≤◌, ◌==◌, true, false, cond, [], ◌∷◌, Some, slice_get, refl, ap, ap₂, sym, subst, ◌∙◌, arith, IsTrue, IsFalse}
use Rattle.prefix6.specs.Addr.{is_link_local}
use Rattle.prefix6.specs.Prefix.{Prefix6}
use Rattle.route_table.specs.Route.{infinity}
use Rattle.route_table.proofs.TableLaws.{Some-same, None-Some}
use Rattle.ripng_world.specs.Convergence.{AreLetThrough, IsNeverQuiet}
use Rattle.ripng_world.specs.Network.{Network, Node, HasNoLists, HaveNoLists, Owns, HasDistinctAddresses, IsNetwork, interface_at}
use Rattle.ripng_world.specs.NetworkFaults.{network_fault}
use Rattle.ripng_world.specs.declared.network.NetInterface.{NetInterface}
use Rattle.ripng_world.specs.declared.network.NetRefused.TheVariants.{AddressSharedInNetwork}
use Rattle.ripng_world.proofs.LawfulNetworks.{active_without_lists, let_through_without_lists}

-- fe80::n
abbrev local : ℕ → ℕ
local n = 0xfe80_0000_0000_0000_0000_0000_0000_0000 + n

abbrev interface : ℕ → ℕ → NetInterface
interface n link = record { interface = record { addr = local n; cost = 1; mtu = 1500; zone = 0 }; link = link }

abbrev gateway : ℕ → ℕ → Node
gateway n link = record { interfaces = interface 1 link ∷ interface n 3 ∷ []; prefixes = []; quiet = false; filters = []; limits = []; passive = []; announcements = [] }

abbrev pub gateways : Network
gateways = gateway 17 1 ∷ gateway 18 2 ∷ []

-- a lab of them is refused
shares_an_address : network_fault gateways ≡ Some AddressSharedInNetwork
shares_an_address = refl

-- what holds of these four holds of each interface
each : (P : ℕ → ℕ → NetInterface → Type 0) → P 0 0 (interface 1 1) → P 0 1 (interface 17 3) → P 1 0 (interface 1 2) → P 1 1 (interface 18 3)
    → (r i : ℕ) (a : NetInterface) → interface_at gateways r i ≡ Some a → P r i a
each P x y z t zero zero a is = subst (P 0 0) (Some-same (interface 1 1) a is) x
each P x y z t zero (suc zero) a is = subst (P 0 1) (Some-same (interface 17 3) a is) y
each P x y z t zero (suc (suc i)) a is = absurd (None-Some a is)
each P x y z t (suc zero) zero a is = subst (P 1 0) (Some-same (interface 1 2) a is) z
each P x y z t (suc zero) (suc zero) a is = subst (P 1 1) (Some-same (interface 18 3) a is) t
each P x y z t (suc zero) (suc (suc i)) a is = absurd (None-Some a is)
each P x y z t (suc (suc r)) i a is = absurd (None-Some a is)

-- where the interface of a link with an address is
abbrev place_of : ℕ → ℕ → ℕ × ℕ
place_of link addr = cond (link == 1) (0, 0) (cond (link == 2) (1, 0) (cond (addr == local 17) (0, 1) (1, 1)))

placed : (r i : ℕ) (a : NetInterface) → interface_at gateways r i ≡ Some a → place_of a.link a.interface.addr ≡ (r, i)
placed = each (λ r i a. place_of a.link a.interface.addr ≡ (r, i)) refl refl refl refl

distinct : HasDistinctAddresses gateways
distinct =
    record {
      on_links = λ r i s j l same.
          let one : (r, i) ≡ (s, j) = sym (placed r i l.here l.here_is) ∙ ap₂ place_of l.same_link same ∙ placed s j l.there l.there_is in
          (ap (λ (t : ℕ × ℕ). t.0) one, ap (λ (t : ℕ × ℕ). t.1) one);
      of_neighbors = λ r i k s j own is l zone same.
          each (λ s j there. l.here.link ≡ there.link → own.interface.addr ≡ there.interface.addr → r ≡ s)
          (λ link addr. at_link_1 r k l.here l.here_is link) (λ link addr. with_17 r i own is addr)
          (λ link addr. at_link_2 r k l.here l.here_is link) (λ link addr. with_18 r i own is addr)
          s j l.there l.there_is l.same_link same;
    }
  where
    at_link_1 : (r i : ℕ) (a : NetInterface) → interface_at gateways r i ≡ Some a → a.link ≡ 1 → r ≡ 0
    at_link_1 = each (λ r i a. a.link ≡ 1 → r ≡ 0) (λ e. refl) (λ e. refl) (λ e. absurd (omega arith)) (λ e. absurd (omega arith))

    at_link_2 : (r i : ℕ) (a : NetInterface) → interface_at gateways r i ≡ Some a → a.link ≡ 2 → r ≡ 1
    at_link_2 = each (λ r i a. a.link ≡ 2 → r ≡ 1) (λ e. absurd (omega arith)) (λ e. absurd (omega arith)) (λ e. refl) (λ e. refl)

    with_17 : (r i : ℕ) (a : NetInterface) → interface_at gateways r i ≡ Some a → a.interface.addr ≡ local 17 → r ≡ 0
    with_17 = each (λ r i a. a.interface.addr ≡ local 17 → r ≡ 0) (λ e. refl) (λ e. refl) (λ e. absurd (omega arith)) (λ e. absurd (omega arith))

    with_18 : (r i : ℕ) (a : NetInterface) → interface_at gateways r i ≡ Some a → a.interface.addr ≡ local 18 → r ≡ 1
    with_18 = each (λ r i a. a.interface.addr ≡ local 18 → r ≡ 1) (λ e. absurd (omega arith)) (λ e. absurd (omega arith)) (λ e. refl) (λ e. refl)

no_owner : (r : ℕ) (p : Prefix6) (tag : ℕ) → Owns gateways r p tag → ⊥
no_owner r p tag owns = None-Some (p, tag) (ap (λ ps. slice_get ps owns.place) (sym (none r owns.node owns.node_is)) ∙ owns.listed)
  where
    none : (r : ℕ) (node : Node) → slice_get gateways r ≡ Some node → node.prefixes ≡ []
    none zero node is = ap (λ (n : Node). n.prefixes) (sym (Some-same (gateway 17 1) node is))
    none (suc zero) node is = ap (λ (n : Node). n.prefixes) (sym (Some-same (gateway 18 2) node is))
    none (suc (suc r)) node is = absurd (None-Some node is)

pub is_network : IsNetwork gateways
is_network =
    record {
      owns_prefixes = λ r p tag owns. absurd (no_owner r p tag owns);
      distinct = distinct;
      usable = record {
        costs = each (λ r i a. (1 ≤ a.interface.cost) × (a.interface.cost < infinity)) fine fine fine fine;
        local = each (λ r i a. IsTrue (is_link_local a.interface.addr)) refl refl refl refl;
        mtus = each (λ r i a. (1280 ≤ a.interface.mtu) × (a.interface.mtu ≤ 65535)) long long long long;
        routable = λ r p tag owns. absurd (no_owner r p tag owns);
      };
    }
  where
    fine : (1 ≤ 1) × (1 < 16)
    fine = (omega arith, omega arith)

    long : (1280 ≤ 1500) × (1500 ≤ 65535)
    long = (omega arith, omega arith)

-- they have no lists and no passive interface, so convergence and healing ask only that tables have room for what is owned
without_lists : HaveNoLists gateways
without_lists zero node is = subst HasNoLists (Some-same (gateway 17 1) node is) (refl, refl, refl, refl)
without_lists (suc zero) node is = subst HasNoLists (Some-same (gateway 18 2) node is) (refl, refl, refl, refl)
without_lists (suc (suc r)) node is = absurd (None-Some node is)

never_quiet : IsNeverQuiet gateways
never_quiet = active_without_lists gateways without_lists loud
  where
    loud : (r : ℕ) (node : Node) → slice_get gateways r ≡ Some node → IsFalse node.quiet
    loud zero node is = ap (λ (n : Node). n.quiet) (sym (Some-same (gateway 17 1) node is))
    loud (suc zero) node is = ap (λ (n : Node). n.quiet) (sym (Some-same (gateway 18 2) node is))
    loud (suc (suc r)) node is = absurd (None-Some node is)

let_through : (is_so : Prefix6 → Type 0) (number : ℕ) → AreLetThrough gateways is_so number
let_through = let_through_without_lists gateways without_lists

-- with one passive interface they are no such network
one_passive : IsNeverQuiet (record (gateway 17 1) { passive = 0 ∷ [] } ∷ gateway 18 2 ∷ []) → ⊥
one_passive noisy = clash (noisy 0 0 (record (gateway 17 1) { passive = 0 ∷ [] }) refl)
  where
    clash : true ≡ false → ⊥
    clash e = cc
