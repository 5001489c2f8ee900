-- What the definitions of packets say of two routers on one link: packets arrive at the owner, at the cost of the walk; and where
-- each hands on to the other, they never arrive.
use Rattle.std.proofs.Common.{◌≡◌, ◌≢◌, ℕ, zero, suc, ◌≤◌, Bool, true, false, cond, List, [], ◌∷◌, Option, Some, None, IsSomeAnd, is_some, option_map, refl, ap, sym, subst, ◌∙◌, arith}
use Rattle.std.specs.FinMap as map_of
use Rattle.std.specs.Ordering.{eq_by_cmp}
use Rattle.std.proofs.lemmas.Map.Views.{tells_apart}
use Rattle.prefix6.specs.Prefix.{Prefix6, IsPrefix, prefix_cmp}
use Rattle.prefix6.proofs.PrefixLaws.{exact_prefixes, prefixes_total}
use Rattle.prefix6.proofs.PrefixSets.{is_cleared}
use Rattle.fib.specs.Forwarding.{Forward, Forwarding, IsLongestMatch}
use Rattle.fib.specs.declared.change.Hop.{Hop as FibHop}
use Rattle.fib.specs.declared.change.Hop.TheVariants.{Direct, Via}
use Rattle.fib.proofs.LongestMatch.{one_longest}
use Rattle.route_table.proofs.TableLaws.{Some-same, None-Some}
use Rattle.ripng_world.specs.declared.network.NetInterface.{NetInterface}
use Rattle.ripng_world.specs.Network.{Network, interface_at}
use Rattle.ripng_world.specs.Packets.{Forwardings, ForwardsBy, ArriveBy}
use Rattle.ripng_world.specs.Walks.{Hop, cost}

-- all addresses
abbrev all : Prefix6
all = record { addr = 0; len = 0 }

abbrev facing : ℕ → NetInterface
facing addr = record { interface = record { addr = addr; cost = 1; mtu = 1500; zone = 0 }; link = 7 }

abbrev net : Network
net = record { interfaces = facing 1 ∷ []; prefixes = []; quiet = false; filters = []; limits = []; passive = []; announcements = [] } ∷ record { interfaces = facing 2 ∷ []; prefixes = (all, 0) ∷ []; quiet = false; filters = []; limits = []; passive = []; announcements = [] } ∷ []

abbrev entry : FibHop → Forward
entry hop = record { hop = hop; metric = 2 }

-- a table with one entry, for all addresses
abbrev only : FibHop → Forwarding
only hop = map_of.insert map_of.empty all (entry hop)

-- the first router hands on to the second, and this one does as the hop says
abbrev fibs : FibHop → Forwardings
fibs hop zero = Some (only (Via 0 2))
fibs hop (suc zero) = Some (only hop)
fibs hop (suc (suc n)) = None

get_only : (hop : FibHop) (q : Prefix6) → map_of.get (only hop) q ≡ cond (eq_by_cmp prefix_cmp q all) (Some (entry hop)) None
get_only hop q = map_of.get-insert prefixes_total map_of.empty all (entry hop) q ∙ ap (cond (eq_by_cmp prefix_cmp q all) (Some (entry hop))) (map_of.get-empty prefix_cmp q)

all_is : IsPrefix all
all_is = is_cleared 0 0 (omega arith) (omega arith)

longest : (hop : FibHop) → IsLongestMatch (only hop) 5 hop
longest hop =
    record {
      prefix = all;
      matches = record { is_prefix = all_is; present = ap is_some (get_only hop all); holds = (omega arith, refl) };
      longest = λ q m. by_tie q (eq_by_cmp prefix_cmp q all) refl (sym (ap is_some (get_only hop q)) ∙ m.present);
      its_hop = subst (λ (o : Option Forward). IsSomeAnd o (λ f. f.hop ≡ hop)) (sym (get_only hop all)) refl;
    }
  where
    clash : false ≡ true → ⊥
    clash e = cc

    by_tie : (q : Prefix6) (b : Bool) → eq_by_cmp prefix_cmp q all ≡ b → is_some (cond b (Some (entry hop)) None) ≡ true → q.len ≤ 0
    by_tie q true tie e = let same : q.len ≡ 0 = ap (λ (x : Prefix6). x.len) (tells_apart exact_prefixes q all tie) in omega arith
    by_tie q false tie e = absurd (clash e)

-- the hop from the first to the second, and back
abbrev across : Hop
across = record { iface = 0; router = 1; router_iface = 0 }

arrives : ArriveBy net (fibs Direct) 5 0 (across ∷ [])
arrives = (
  record {
    next_hop = 2;
    by = record { table = only (Via 0 2); table_is = refl; longest = longest (Via 0 2) };
    is_hop = (apart, record { here = facing 1; there = facing 2; here_is = refl; there_is = refl; same_link = refl });
    address = refl;
  },
  record { table = only Direct; table_is = refl; longest = longest Direct },
)
  where
    apart : ◌≢◌ {A = ℕ} 0 1
    apart = omega arith

costs : cost net 0 (across ∷ []) ≡ 2
costs = refl

-- ---- where each hands on to the other

one : (router : ℕ) (hop other : FibHop) → fibs (Via 0 1) router ≡ Some (only hop) → ForwardsBy (fibs (Via 0 1)) 5 router other → hop ≡ other
one router hop other is f =
    one_longest f.table 5 hop other (subst (λ (t : Forwarding). IsLongestMatch t 5 hop) (Some-same (only hop) f.table (sym is ∙ f.table_is)) (longest hop)) f.longest

not_direct : (iface next_hop : ℕ) → Via iface next_hop ≡ Direct → ⊥
not_direct iface next_hop e = cc

second : (i h j k : ℕ) → Via i h ≡ Via j k → h ≡ k
second i h j k e = cc

not_same : {a b : ℕ} → (a ≡ b → ⊥) → Some a ≡ Some b → ⊥
not_same {a = a} {b = b} f e = f (Some-same a b e)

-- whose address it is
at_two : (router iface : ℕ) → option_map (λ (i : NetInterface). i.interface.addr) (interface_at net router iface) ≡ Some 2 → router ≡ 1
at_two zero zero e = absurd (not_same (omega arith) e)
at_two zero (suc i) e = absurd (None-Some 2 e)
at_two (suc zero) i e = refl
at_two (suc (suc n)) i e = absurd (None-Some 2 e)

at_one : (router iface : ℕ) → option_map (λ (i : NetInterface). i.interface.addr) (interface_at net router iface) ≡ Some 1 → router ≡ 0
at_one zero i e = refl
at_one (suc zero) zero e = absurd (not_same (omega arith) e)
at_one (suc zero) (suc i) e = absurd (None-Some 1 e)
at_one (suc (suc n)) i e = absurd (None-Some 1 e)

never : (way : List Hop) → (ArriveBy net (fibs (Via 0 1)) 5 0 way → ⊥) × (ArriveBy net (fibs (Via 0 1)) 5 1 way → ⊥)
never [] = (λ a. not_direct 0 2 (one 0 (Via 0 2) Direct refl a), λ a. not_direct 0 1 (one 1 (Via 0 1) Direct refl a))
never (h ∷ way) = let rest = never way in (
  λ a. rest.1 (subst (λ r. ArriveBy net (fibs (Via 0 1)) 5 r way) (at_two h.router h.router_iface (a.0.address ∙ ap (λ (n : ℕ). Some n) (sym (second 0 2 h.iface a.0.next_hop (one 0 (Via 0 2) (Via h.iface a.0.next_hop) refl a.0.by))))) a.1),
  λ a. rest.0 (subst (λ r. ArriveBy net (fibs (Via 0 1)) 5 r way) (at_one h.router h.router_iface (a.0.address ∙ ap (λ (n : ℕ). Some n) (sym (second 0 1 h.iface a.0.next_hop (one 1 (Via 0 1) (Via h.iface a.0.next_hop) refl a.0.by))))) a.1),
)

pub goes_round : (way : List Hop) → ArriveBy net (fibs (Via 0 1)) 5 0 way → ⊥
goes_round way = (never way).0
