-- Packets that arrive by a longer prefix than they left with. Of three routers in a line, the second owns 2001:db8::/32 and the third
-- 2001:db8:1::/48, which is as far as 16 for the first: so this one holds the shorter prefix alone, and the second one the longer, too.
use Rattle.std.proofs.Common.{◌≡◌, ◌≢◌, ℕ, zero, suc, ◌+◌, ◌^◌, ◌<◌, ◌≤◌, Bool, true, false, cond, [], ◌∷◌, Option, Some, None, IsSomeAnd, is_some, refl, ap, sym, subst, ◌∙◌, arith}
use Rattle.std.specs.FinMap as map_of
use Rattle.std.specs.List.{IsDistinct}
use Rattle.std.specs.Ordering.{eq_by_cmp}
use Rattle.std.proofs.lemmas.Bool.{ltb-true}
use Rattle.std.proofs.lemmas.Map.Views.{tells_apart}
use Rattle.prefix6.specs.Prefix.{Prefix6, prefix_cmp}
use Rattle.prefix6.proofs.PrefixLaws.{exact_prefixes, prefixes_total}
use Rattle.prefix6.proofs.PrefixSets.{is_prefix_at}
use Rattle.fib.specs.Forwarding.{Forward, Forwarding, IsLongestMatch}
use Rattle.fib.specs.declared.change.Hop.{Hop as FibHop}
use Rattle.fib.specs.declared.change.Hop.TheVariants.{Direct, Via}
use Rattle.route_table.proofs.TableLaws.{Some-same}
use Rattle.ripng_world.specs.Network.{Network}
use Rattle.ripng_world.specs.Packets.{Forwardings, ForwardsBy, Arrive, ArriveBy}
use Rattle.ripng_world.specs.Walks.{Hop, cost}
use Rattle.ripng_world.specs.declared.network.NetInterface.{NetInterface}

-- 2001:db8::/32 and 2001:db8:1::/48, and an address of both
abbrev short : Prefix6
short = record { addr = 0x2001_0db8_0000_0000_0000_0000_0000_0000; len = 32 }

abbrev long : Prefix6
long = record { addr = 0x2001_0db8_0001_0000_0000_0000_0000_0000; len = 48 }

abbrev addr : ℕ
addr = 0x2001_0db8_0001_0000_0000_0000_0000_0005

-- fe80::n
abbrev local : ℕ → ℕ
local n = 0xfe80_0000_0000_0000_0000_0000_0000_0000 + n

abbrev interface : ℕ → ℕ → ℕ → NetInterface
interface n dear link = record { interface = record { addr = local n; cost = dear; mtu = 1500; zone = 0 }; link = link }

abbrev net : Network
net =
    record { interfaces = interface 1 14 1 ∷ []; prefixes = []; quiet = false; filters = []; limits = []; passive = []; announcements = [] }
    ∷ record { interfaces = interface 2 1 1 ∷ interface 3 1 2 ∷ []; prefixes = (short, 0) ∷ []; quiet = false; filters = []; limits = []; passive = []; announcements = [] }
    ∷ record { interfaces = interface 4 1 2 ∷ []; prefixes = (long, 0) ∷ []; quiet = false; filters = []; limits = []; passive = []; announcements = [] }
    ∷ []

abbrev across : Hop
across = record { iface = 0; router = 1; router_iface = 0 }

abbrev on : Hop
on = record { iface = 1; router = 2; router_iface = 0 }

too_far : cost net 0 (across ∷ on ∷ []) ≡ 16
too_far = refl

-- ---- the tables

abbrev entry : FibHop → ℕ → Forward
entry hop metric = record { hop = hop; metric = metric }

abbrev only_short : Forwarding
only_short = map_of.insert {R = prefix_cmp} map_of.empty short (entry (Via 0 (local 2)) 15)

abbrev both : Forward → Forward → Forwarding
both to_short to_long = map_of.insert (map_of.insert {R = prefix_cmp} map_of.empty short to_short) long to_long

abbrev fibs : Forwardings
fibs zero = Some only_short
fibs (suc zero) = Some (both (entry Direct 1) (entry (Via 1 (local 4)) 2))
fibs (suc (suc zero)) = Some (both (entry (Via 0 (local 3)) 2) (entry Direct 1))
fibs (suc (suc (suc n))) = None

get_short : (q : Prefix6) (f : Forward) → map_of.get (map_of.insert {R = prefix_cmp} map_of.empty short f) q ≡ cond (eq_by_cmp prefix_cmp q short) (Some f) None
get_short q f = map_of.get-insert prefixes_total map_of.empty short f q ∙ ap (cond (eq_by_cmp prefix_cmp q short) (Some f)) (map_of.get-empty prefix_cmp q)

get_both : (q : Prefix6) (f g : Forward) → map_of.get (both f g) q ≡ cond (eq_by_cmp prefix_cmp q long) (Some g) (cond (eq_by_cmp prefix_cmp q short) (Some f) None)
get_both q f g =
    map_of.get-insert prefixes_total (map_of.insert {R = prefix_cmp} map_of.empty short f) long g q
    ∙ ap (cond (eq_by_cmp prefix_cmp q long) (Some g)) (get_short q f)

-- ---- the matches

low : addr < 2 ^ 128
low = ltb-true addr (2 ^ 128) refl

clash : false ≡ true → ⊥
clash e = cc

-- what a table has at a prefix
tied : (q p : Prefix6) → eq_by_cmp prefix_cmp q p ≡ true → q.len ≡ p.len
tied q p tie = ap (λ (x : Prefix6). x.len) (tells_apart exact_prefixes q p tie)

short_match : IsLongestMatch only_short addr (Via 0 (local 2))
short_match =
    record {
      prefix = short;
      matches = record { is_prefix = is_prefix_at short.addr 32 short.addr (ltb-true short.addr (2 ^ 128) refl) (omega arith) refl; present = ap is_some (get_short short (entry (Via 0 (local 2)) 15)); holds = (low, refl) };
      longest = λ q m. by_tie q (eq_by_cmp prefix_cmp q short) refl (sym (ap is_some (get_short q (entry (Via 0 (local 2)) 15))) ∙ m.present);
      its_hop = subst (λ (o : Option Forward). IsSomeAnd o (λ f. f.hop ≡ Via 0 (local 2))) (sym (get_short short (entry (Via 0 (local 2)) 15))) refl;
    }
  where
    by_tie : (q : Prefix6) (b : Bool) → eq_by_cmp prefix_cmp q short ≡ b → is_some (cond b (Some (entry (Via 0 (local 2)) 15)) None) ≡ true → q.len ≤ 32
    by_tie q true tie e = let same = tied q short tie in omega arith
    by_tie q false tie e = absurd (clash e)

long_match : (f g : Forward) → IsLongestMatch (both f g) addr g.hop
long_match f g =
    record {
      prefix = long;
      matches = record { is_prefix = is_prefix_at long.addr 48 long.addr (ltb-true long.addr (2 ^ 128) refl) (omega arith) refl; present = ap is_some (get_both long f g); holds = (low, refl) };
      longest = λ q m. by_tie q (eq_by_cmp prefix_cmp q long) (eq_by_cmp prefix_cmp q short) refl refl (sym (ap is_some (get_both q f g)) ∙ m.present);
      its_hop = subst (λ (o : Option Forward). IsSomeAnd o (λ x. x.hop ≡ g.hop)) (sym (get_both long f g)) refl;
    }
  where
    by_tie : (q : Prefix6) (b c : Bool) → eq_by_cmp prefix_cmp q long ≡ b → eq_by_cmp prefix_cmp q short ≡ c → is_some (cond b (Some g) (cond c (Some f) None)) ≡ true → q.len ≤ 48
    by_tie q true c tie other e = let same = tied q long tie in omega arith
    by_tie q false true tie other e = let same = tied q short other in omega arith
    by_tie q false false tie other e = absurd (clash e)

-- ---- packets arrive

hands_on : ArriveBy net fibs addr 0 (across ∷ on ∷ [])
hands_on = (
  record {
    next_hop = local 2;
    by = record { table = only_short; table_is = refl; longest = short_match };
    is_hop = (apart 0 1 (omega arith), record { here = interface 1 14 1; there = interface 2 1 1; here_is = refl; there_is = refl; same_link = refl });
    address = refl;
  },
  (
    record {
      next_hop = local 4;
      by = record { table = both (entry Direct 1) (entry (Via 1 (local 4)) 2); table_is = refl; longest = long_match (entry Direct 1) (entry (Via 1 (local 4)) 2) };
      is_hop = (apart 1 2 (omega arith), record { here = interface 3 1 2; there = interface 4 1 2; here_is = refl; there_is = refl; same_link = refl });
      address = refl;
    },
    record { table = both (entry (Via 0 (local 3)) 2) (entry Direct 1); table_is = refl; longest = long_match (entry (Via 0 (local 3)) 2) (entry Direct 1) },
  ),
)
  where
    apart : (a b : ℕ) → a < b → a ≢ b
    apart a b h e = absurd (omega arith)

-- what the first router matches is the shorter prefix
matches_short : (hop : FibHop) (first : ForwardsBy fibs addr 0 hop) → first.longest.prefix.len ≡ 32
matches_short hop first =
    by_tie first.longest.prefix (eq_by_cmp prefix_cmp first.longest.prefix short) refl
    (sym (ap is_some (get_short first.longest.prefix (entry (Via 0 (local 2)) 15)))
    ∙ ap (λ (t : Forwarding). is_some (map_of.get t first.longest.prefix)) (Some-same only_short first.table first.table_is) ∙ first.longest.matches.present)
  where
    by_tie : (q : Prefix6) (b : Bool) → eq_by_cmp prefix_cmp q short ≡ b → is_some (cond b (Some (entry (Via 0 (local 2)) 15)) None) ≡ true → q.len ≡ 32
    by_tie q true tie e = tied q short tie
    by_tie q false tie e = absurd (clash e)

-- and they arrive at the owner of the longer one
pub arrive : Arrive net fibs addr 0
unfolding IsDistinct
arrive =
    record {
      way = across ∷ on ∷ [];
      arrive = hands_on;
      once = ((refl, (refl, tt)), ((refl, tt), (tt, tt)));
      few_hops = omega arith;
      prefix = long;
      tag = 0;
      owner = record { node = record { interfaces = interface 4 1 2 ∷ []; prefixes = (long, 0) ∷ []; quiet = false; filters = []; limits = []; passive = []; announcements = [] }; node_is = refl; place = 0; listed = refl };
      holds = (low, refl);
      no_shorter = λ hop first. let is = matches_short hop first in omega arith;
    }

pub longer : (hop : FibHop) (first : ForwardsBy fibs addr 0 hop) → first.longest.prefix.len < arrive.prefix.len
unfolding arrive
longer hop first = let is = matches_short hop first in omega arith
