-- Packets arrive where forwarding tables lead along least walks: at each hop the matched prefix gets longer, or it stays and its
-- metric falls.
use Rattle.std.proofs.Common.{◌≡◌, ◌⊎◌, inl, inr, ℕ, zero, suc, ◌+◌, ◌-◌, ◌*◌, ◌<◌, ◌≤◌, Bool, true, false, ◌||◌, nat_eq, List, [], ◌∷◌, map, length, Option, Some, None, IsSomeAnd, is_some, option_map, option_and_then, unwrap_or, slice_get, refl, ap, ap₂, sym, subst, ◌∙◌, arith, le_refl, le_trans}
use Rattle.std.specs.FinMap as map_of
use Rattle.std.specs.List.{AllByRecursion, IsDistinct, list_any, range_with_len}
use Rattle.std.proofs.lemmas.Bool.{eq-eqb, eqb-true}
use Rattle.std.proofs.lemmas.Cmp.{nat_eq_equiv}
use Rattle.std.proofs.lemmas.List.{length-map}
use Rattle.std.proofs.lemmas.List.FromFn.{length-range_with_len}
use Rattle.std.proofs.lemmas.Map.Keys.{any_passes_from_place}
use Rattle.std.proofs.lemmas.Map.Made.{length-le_from_is_member}
use Rattle.std.proofs.lemmas.Option.{slice_get_within}
use Rattle.prefix6.specs.Prefix.{Prefix6, IsPrefix, Holds}
use Rattle.fib.specs.Forwarding.{Forward, Forwarding, IsMatch, IsLongestMatch}
use Rattle.fib.specs.declared.change.Hop.{Hop as FibHop}
use Rattle.fib.specs.declared.change.Hop.TheVariants.{Direct, Via}
use Rattle.route_table.specs.Route.{infinity}
use Rattle.route_table.proofs.TableLaws.{Some-same, None-Some}
use Rattle.ripng_world.specs.declared.network.NetInterface.{NetInterface}
use Rattle.ripng_world.specs.Network.{Network, Node, AreLinked, HasDistinctAddresses, IsNetwork, IsUsable, Owns, interface_at}
use Rattle.ripng_world.specs.Packets.{Forwardings, ForwardsBy, HandsOn, ArriveBy, Arrive, PacketsArriveBy, NoneCostMore, routers_of}
use Rattle.ripng_world.specs.Walks.{Hop, IsHop, IsLeast, Reaches, cost, cost_of_interface, end_of}
use Rattle.ripng_world.proofs.Among.{to_below}
use Rattle.ripng_world.proofs.LongestMatches.{has_longest, one_of_length, one_prefix}
use Rattle.ripng_world.proofs.RoundNeighbors.{one_sender}

-- ---- what a healed forwarding table is

-- a walk begins as a hop says
abbrev pub BeginsBy : Network → FibHop → List Hop → Type 0
BeginsBy net Direct [] = Unit {0}
BeginsBy net (Via iface next_hop) (h ∷ walk) =
    (h.iface ≡ iface) × (option_map (λ (i : NetInterface). i.interface.addr) (interface_at net h.router h.router_iface) ≡ Some next_hop)
BeginsBy net Direct (h ∷ walk) = ⊥
BeginsBy net (Via iface next_hop) [] = ⊥

-- each entry has a walk of its metric that begins by its hop, and no walk costs less; each least cost below infinity has an entry
pub record IsGuide (net : Network) (router : ℕ) (table : Forwarding) : Type 0 where
  pub low : (p : Prefix6) (f : Forward) → map_of.get table p ≡ Some f → f.metric < infinity
  pub least : (p : Prefix6) (f : Forward) → map_of.get table p ≡ Some f → (metric tag : ℕ) (walk : List Hop) → Reaches net router p metric tag walk → f.metric ≤ metric
  pub begins : (p : Prefix6) (f : Forward) → map_of.get table p ≡ Some f → (tag : ℕ) × (walk : List Hop) × Reaches net router p f.metric tag walk × BeginsBy net f.hop walk
  pub found : (p : Prefix6) (metric : ℕ) → IsLeast net router p metric → metric < infinity → (f : Forward) × (map_of.get table p ≡ Some f) × (f.metric ≡ metric)

-- ---- costs

cost_positive : (net : Network) (at : ℕ) (walk : List Hop) → 1 ≤ cost net at walk
cost_positive net at [] = le_refl 1
cost_positive net at (h ∷ walk) = more (cost_of_interface net at h.iface) (cost net h.router walk) (cost_positive net h.router walk)
  where
    more : (c v : ℕ) → 1 ≤ v → 1 ≤ c + v
    more c v h = omega arith

interface_positive : (net : Network) → IsUsable net → (router iface : ℕ) (here : NetInterface) → interface_at net router iface ≡ Some here → 1 ≤ cost_of_interface net router iface
interface_positive net usable router iface here is =
    subst (λ (o : Option NetInterface). 1 ≤ unwrap_or (option_map (λ i. i.interface.cost) o) infinity) (sym is) (usable.costs router iface here is).0

-- a router with an interface is one of the network
pub node_of : (net : Network) (router iface : ℕ) (here : NetInterface) → interface_at net router iface ≡ Some here → (node : Node) × (slice_get net router ≡ Some node)
node_of net router iface here is = by_value (slice_get net router) refl
  where
    by_value : (o : Option Node) → slice_get net router ≡ o → (node : Node) × (slice_get net router ≡ Some node)
    by_value None at = absurd (None-Some here (sym (ap (option_and_then (λ (node : Node). slice_get node.interfaces iface)) at) ∙ is))
    by_value (Some node) at = (node, at)

node_from_walk : (net : Network) (router : ℕ) (p : Prefix6) (metric tag : ℕ) (walk : List Hop) → Reaches net router p metric tag walk → (node : Node) × (slice_get net router ≡ Some node)
node_from_walk net router p metric tag [] reach = (reach.owner.node, reach.owner.node_is)
node_from_walk net router p metric tag (h ∷ walk) reach = let l = reach.is_walk.0.1 in node_of net router h.iface l.here l.here_is

-- ---- distinct numbers below a bound are no more than that

pub few_below : (bound : ℕ) (xs : List ℕ) → AllByRecursion (λ x. x < bound) xs → IsDistinct nat_eq xs → length xs ≤ bound
few_below bound xs all distinct =
    subst (λ n. length xs ≤ n) (length-range_with_len 0 bound)
    (length-le_from_is_member nat_eq_equiv xs (range_with_len 0 bound) distinct (λ q is. let a = to_below bound q (low xs all q is) in any_passes_from_place (nat_eq q) (range_with_len 0 bound) a.0 q a.1 (eq-eqb q q refl)))
  where
    low : (xs : List ℕ) → AllByRecursion (λ x. x < bound) xs → (q : ℕ) → list_any (nat_eq q) xs ≡ true → q < bound
    low [] all q is = absurd (clash is)
      where
        clash : false ≡ true → ⊥
        clash e = cc
    low (x ∷ xs) all q is = by_test (nat_eq q x) refl is (low xs all.1 q)
      where
        by_test : (b : Bool) → nat_eq q x ≡ b → (b || list_any (nat_eq q) xs) ≡ true → (list_any (nat_eq q) xs ≡ true → q < bound) → q < bound
        by_test true e h later = subst (λ n. n < bound) (sym (eqb-true q x e)) all.0
        by_test false e h later = later h

-- ---- hop by hop

module _ (net : Network) (usable : IsUsable net) (fibs : Forwardings) (guides : (router : ℕ) (table : Forwarding) → fibs router ≡ Some table → IsGuide net router table)
    (everyone : (router : ℕ) (node : Node) → slice_get net router ≡ Some node → (table : Forwarding) × (fibs router ≡ Some table)) where
  -- where an entry hands on to, there is an entry of the same prefix, cheaper by the interface
  pub record IsNext (router iface next_hop : ℕ) (p : Prefix6) (metric : ℕ) : Type 0 where
    pub hop : Hop
    pub iface_is : hop.iface ≡ iface
    pub is_hop : IsHop net router hop
    pub address : option_map (λ (i : NetInterface). i.interface.addr) (interface_at net hop.router hop.router_iface) ≡ Some next_hop
    pub inside : hop.router < length net
    pub table : Forwarding
    pub table_is : fibs hop.router ≡ Some table
    pub entry : Forward
    pub entry_is : map_of.get table p ≡ Some entry
    pub sum : cost_of_interface net router iface + entry.metric ≡ metric
    pub positive : 1 ≤ cost_of_interface net router iface

  next_of : (router : ℕ) (table : Forwarding) → fibs router ≡ Some table → (p : Prefix6) (f : Forward) → map_of.get table p ≡ Some f → (iface next_hop : ℕ) → f.hop ≡ Via iface next_hop → IsNext router iface next_hop p f.metric
  next_of router table is p f at iface next_hop hop_is =
      let b = (guides router table is).begins p f at in
      by_walk b.0 b.1 b.2 (subst (λ h. BeginsBy net h b.1) hop_is b.3)
    where
      by_walk : (tag : ℕ) (walk : List Hop) → Reaches net router p f.metric tag walk → BeginsBy net (Via iface next_hop) walk → IsNext router iface next_hop p f.metric
      by_walk tag [] reach begins = absurd begins
      by_walk tag (h ∷ rest) reach begins =
          record {
            hop = h;
            iface_is = begins.0;
            is_hop = reach.is_walk.0;
            address = begins.1;
            inside = slice_get_within net h.router node.0 node.1;
            table = there.0;
            table_is = there.1;
            entry = found.0;
            entry_is = found.1;
            sum = ap₂ (λ (i v : ℕ). cost_of_interface net router i + v) (sym begins.0) found.2 ∙ reach.costs;
            positive = subst (λ (i : ℕ). 1 ≤ cost_of_interface net router i) begins.0 positive;
          }
        where
          linked : AreLinked net router h.iface h.router h.router_iface
          linked = reach.is_walk.0.1

          node : (node : Node) × (slice_get net h.router ≡ Some node)
          node = node_of net h.router h.router_iface linked.there linked.there_is

          there : (table : Forwarding) × (fibs h.router ≡ Some table)
          there = everyone h.router node.0 node.1

          positive : 1 ≤ cost_of_interface net router h.iface
          positive = interface_positive net usable router h.iface linked.here linked.here_is

          small : cost net h.router rest < infinity
          small = below (cost_of_interface net router h.iface) (cost net h.router rest) f.metric reach.costs ((guides router table is).low p f at)
            where
              below : (c v m : ℕ) → c + v ≡ m → m < 16 → v < 16
              below c v m e h = omega arith

          -- the rest of the walk is a least walk from there
          least : IsLeast net h.router p (cost net h.router rest)
          least =
              record {
                reached = (tag, rest, record { is_walk = reach.is_walk.1; costs = refl; owner = reach.owner });
                least = λ metric' tag' walk' reach'.
                    cut (cost_of_interface net router h.iface) (cost net h.router rest) metric' f.metric reach.costs
                    ((guides router table is).least p f at (cost_of_interface net router h.iface + metric') tag' (h ∷ walk')
                    (record { is_walk = (reach.is_walk.0, reach'.is_walk); costs = ap (λ n. cost_of_interface net router h.iface + n) reach'.costs; owner = reach'.owner }));
              }
            where
              cut : (c v m e : ℕ) → c + v ≡ e → e ≤ c + m → v ≤ m
              cut c v m e f g = omega arith

          found : (f : Forward) × (map_of.get there.0 p ≡ Some f) × (f.metric ≡ cost net h.router rest)
          found = (guides h.router there.0 there.1).found p (cost net h.router rest) least small

  -- ---- what falls at each hop

  module _ (addr : ℕ) where
    -- how much shorter than an address the match is, and then its metric
    pub record IsRanked (router rank : ℕ) (hop : FibHop) : Type 0 where
      pub table : Forwarding
      pub table_is : fibs router ≡ Some table
      pub longest : IsLongestMatch table addr hop
      pub entry : Forward
      pub entry_is : map_of.get table longest.prefix ≡ Some entry
      pub hop_is : entry.hop ≡ hop
      pub rank_is : rank ≡ (128 - longest.prefix.len) * 16 + entry.metric

    ranked : (router : ℕ) (hop : FibHop) → ForwardsBy fibs addr router hop → (rank : ℕ) × IsRanked router rank hop
    ranked router hop f = by_value (map_of.get f.table f.longest.prefix) refl f.longest.its_hop
      where
        by_value : (o : Option Forward) → map_of.get f.table f.longest.prefix ≡ o → IsSomeAnd o (λ x. x.hop ≡ hop) → (rank : ℕ) × IsRanked router rank hop
        by_value None is h = absurd h
        by_value (Some x) is h =
            ((128 - f.longest.prefix.len) * 16 + x.metric, record { table = f.table; table_is = f.table_is; longest = f.longest; entry = x; entry_is = is; hop_is = h; rank_is = refl })

    -- a router has one rank
    one_rank : (router m n : ℕ) (h k : FibHop) → IsRanked router m h → IsRanked router n k → m ≡ n
    one_rank router m n h k a b =
        let t : a.table ≡ b.table = Some-same a.table b.table (sym a.table_is ∙ b.table_is) in
        let p : a.longest.prefix ≡ b.longest.prefix = one_prefix addr a.table b.table t h k a.longest b.longest in
        let e : a.entry ≡ b.entry = Some-same a.entry b.entry (sym a.entry_is ∙ ap₂ (λ (x : Forwarding) (q : Prefix6). map_of.get x q) t p ∙ b.entry_is) in
        a.rank_is ∙ ap₂ (λ (q : Prefix6) (f : Forward). (128 - q.len) * 16 + f.metric) p e ∙ sym b.rank_is

    pub record IsStep (router rank len : ℕ) : Type 0 where
      pub hop : Hop
      pub hands : HandsOn net fibs addr router hop
      pub inside : hop.router < length net
      pub next_rank : ℕ
      pub next : FibHop
      pub is_ranked : IsRanked hop.router next_rank next
      pub lower : next_rank < rank
      pub longer : len ≤ is_ranked.longest.prefix.len

    falls : (n m a b e f : ℕ) → n ≡ (128 - a) * 16 + e → m ≡ (128 - b) * 16 + f → a ≤ b → b ≤ 128 → f < 16 → 1 ≤ e → (a ≡ b → f < e) → m < n
    falls n m a b e f n_is m_is le short low one same = by_length (split a b le)
      where
        split : (a b : ℕ) → a ≤ b → (a ≡ b) ⊎ (a < b)
        split a b h = grind arith

        by_length : (a ≡ b) ⊎ (a < b) → m < n
        by_length (inl h) = let less : f < e = same h in omega arith
        by_length (inr h) = omega arith

    step : (router rank iface next_hop : ℕ) (r : IsRanked router rank (Via iface next_hop)) → IsStep router rank r.longest.prefix.len
    step router rank iface next_hop r =
        record {
          hop = x.hop;
          hands = record {
            next_hop = next_hop;
            by = record { table = r.table; table_is = r.table_is; longest = subst (λ (i : ℕ). IsLongestMatch r.table addr (Via i next_hop)) (sym x.iface_is) r.longest };
            is_hop = x.is_hop;
            address = x.address;
          };
          inside = x.inside;
          next_rank = next.0;
          next = longest.0;
          is_ranked = next.1;
          lower = falls rank next.0 r.longest.prefix.len next.1.longest.prefix.len r.entry.metric next.1.entry.metric r.rank_is next.1.rank_is
              longer next.1.longest.matches.is_prefix.short
              ((guides x.hop.router next.1.table next.1.table_is).low next.1.longest.prefix next.1.entry next.1.entry_is)
              (one (cost_of_interface net router iface) x.entry.metric r.entry.metric x.positive x.sum) cheaper;
          longer = longer;
        }
      where
        x : IsNext router iface next_hop r.longest.prefix r.entry.metric
        x = next_of router r.table r.table_is r.longest.prefix r.entry r.entry_is iface next_hop r.hop_is

        one : (c v m : ℕ) → 1 ≤ c → c + v ≡ m → 1 ≤ m
        one c v m a e = omega arith

        less : (c v m : ℕ) → 1 ≤ c → c + v ≡ m → v < m
        less c v m a e = omega arith

        match : IsMatch x.table addr r.longest.prefix
        match = record { is_prefix = r.longest.matches.is_prefix; present = ap is_some x.entry_is; holds = r.longest.matches.holds }

        longest : (hop : FibHop) × IsLongestMatch x.table addr hop
        longest = has_longest x.table addr r.longest.prefix match

        next : (m : ℕ) × IsRanked x.hop.router m longest.0
        next = ranked x.hop.router longest.0 (record { table = x.table; table_is = x.table_is; longest = longest.1 })

        same_table : x.table ≡ next.1.table
        same_table = Some-same x.table next.1.table (sym x.table_is ∙ next.1.table_is)

        match_next : IsMatch next.1.table addr r.longest.prefix
        match_next = subst (λ (t : Forwarding). IsMatch t addr r.longest.prefix) same_table match

        longer : r.longest.prefix.len ≤ next.1.longest.prefix.len
        longer = next.1.longest.longest r.longest.prefix match_next

        cheaper : r.longest.prefix.len ≡ next.1.longest.prefix.len → next.1.entry.metric < r.entry.metric
        cheaper e =
            let same : r.longest.prefix ≡ next.1.longest.prefix = one_of_length addr x.table next.1.table r.longest.prefix next.1.longest.prefix match next.1.longest.matches e in
            let entry : x.entry ≡ next.1.entry = Some-same x.entry next.1.entry (sym x.entry_is ∙ ap₂ (λ (t : Forwarding) (q : Prefix6). map_of.get t q) same_table same ∙ next.1.entry_is) in
            subst (λ n. n < r.entry.metric) (ap (λ (f : Forward). f.metric) entry) (less (cost_of_interface net router iface) x.entry.metric r.entry.metric x.positive x.sum)

    -- ---- the whole way

    -- a hop to a router of the network with a lower rank
    pub record IsBelow (rank : ℕ) (h : Hop) : Type 0 where
      pub inside : h.router < length net
      pub its_rank : ℕ
      pub hop : FibHop
      pub is_ranked : IsRanked h.router its_rank hop
      pub lower : its_rank < rank

    all_below : (m n : ℕ) → m < n → (way : List Hop) → AllByRecursion (IsBelow m) way → AllByRecursion (IsBelow n) way
    all_below m n h [] all = tt
    all_below m n h (x ∷ way) all = (weaker all.0, all_below m n h way all.1)
      where
        under : (a b c : ℕ) → a < b → b < c → a < c
        under a b c e f = omega arith

        weaker : IsBelow m x → IsBelow n x
        weaker b = record { inside = b.inside; its_rank = b.its_rank; hop = b.hop; is_ranked = b.is_ranked; lower = under b.its_rank m n b.lower h }

    all_inside : (n : ℕ) (way : List Hop) → AllByRecursion (IsBelow n) way → AllByRecursion (λ r. r < length net) (map (λ (h : Hop). h.router) way)
    all_inside n [] all = tt
    all_inside n (x ∷ way) all = (all.0.inside, all_inside n way all.1)

    -- none of them is the router itself
    all_other : (router n : ℕ) (hop : FibHop) → IsRanked router n hop → (way : List Hop) → AllByRecursion (IsBelow n) way → AllByRecursion (λ y. nat_eq router y ≡ false) (map (λ (h : Hop). h.router) way)
    all_other router n hop r [] all = tt
    all_other router n hop r (x ∷ way) all = (by_test (nat_eq router x.router) refl, all_other router n hop r way all.1)
      where
        no : (a b : ℕ) → a ≡ b → a < b → ⊥
        no a b e f = omega arith

        by_test : (b : Bool) → nat_eq router x.router ≡ b → nat_eq router x.router ≡ false
        by_test true e =
            absurd (no all.0.its_rank n (one_rank router all.0.its_rank n all.0.hop hop (subst (λ y. IsRanked y all.0.its_rank all.0.hop) (sym (eqb-true router x.router e)) all.0.is_ranked) r) all.0.lower)
        by_test false e = e

    pub record IsWay (router rank : ℕ) : Type 0 where
      pub way : List Hop
      pub arrive : ArriveBy net fibs addr router way
      pub below : AllByRecursion (IsBelow rank) way
      pub once : IsDistinct nat_eq (routers_of router way)
      pub prefix : Prefix6
      pub tag : ℕ
      pub owner : Owns net (end_of router way) prefix tag
      pub holds : Holds prefix addr
      pub no_shorter : (hop : FibHop) (first : ForwardsBy fibs addr router hop) → first.longest.prefix.len ≤ prefix.len

    -- what a router matches is one prefix
    one_match : (router n : ℕ) (h k : FibHop) (r : IsRanked router n h) (f : ForwardsBy fibs addr router k) → f.longest.prefix.len ≤ r.longest.prefix.len
    one_match router n h k r f =
        let p : f.longest.prefix ≡ r.longest.prefix = one_prefix addr f.table r.table (Some-same f.table r.table (sym f.table_is ∙ r.table_is)) k h f.longest r.longest in
        as_le f.longest.prefix.len r.longest.prefix.len (ap (λ (q : Prefix6). q.len) p)
      where
        as_le : (a b : ℕ) → a ≡ b → a ≤ b
        as_le a b e = omega arith

    delivered : (router rank : ℕ) → IsRanked router rank Direct → IsWay router rank
    unfolding IsDistinct
    delivered router rank r =
        let b = (guides router r.table r.table_is).begins r.longest.prefix r.entry r.entry_is in
        record {
          way = [];
          arrive = record { table = r.table; table_is = r.table_is; longest = r.longest };
          below = tt;
          once = (tt, tt);
          prefix = r.longest.prefix;
          tag = b.0;
          owner = by_walk b.0 b.1 b.2 (subst (λ h. BeginsBy net h b.1) r.hop_is b.3);
          holds = r.longest.matches.holds;
          no_shorter = λ hop first. one_match router rank Direct hop r first;
        }
      where
        by_walk : (tag : ℕ) (walk : List Hop) → Reaches net router r.longest.prefix r.entry.metric tag walk → BeginsBy net Direct walk → Owns net router r.longest.prefix tag
        by_walk tag [] reach begins = reach.owner
        by_walk tag (h ∷ rest) reach begins = absurd begins

    handed : (router rank iface next_hop : ℕ) (r : IsRanked router rank (Via iface next_hop)) (s : IsStep router rank r.longest.prefix.len) → IsWay s.hop.router s.next_rank → IsWay router rank
    unfolding IsDistinct
    handed router rank iface next_hop r s w =
        let here : IsBelow rank s.hop = record { inside = s.inside; its_rank = s.next_rank; hop = s.next; is_ranked = s.is_ranked; lower = s.lower } in
        let all : AllByRecursion (IsBelow rank) (s.hop ∷ w.way) = (here, all_below s.next_rank rank s.lower w.way w.below) in
        record {
          way = s.hop ∷ w.way;
          arrive = (s.hands, w.arrive);
          below = all;
          once = (all_other router rank (Via iface next_hop) r (s.hop ∷ w.way) all, w.once);
          prefix = w.prefix;
          tag = w.tag;
          owner = w.owner;
          holds = w.holds;
          no_shorter = λ hop first.
              le_trans (one_match router rank (Via iface next_hop) hop r first)
              (le_trans s.longer (w.no_shorter s.next (record { table = s.is_ranked.table; table_is = s.is_ranked.table_is; longest = s.is_ranked.longest })));
        }

    way_from : (fuel router rank : ℕ) (hop : FibHop) → rank < fuel → IsRanked router rank hop → IsWay router rank
    way_from zero router rank hop less r = absurd (none rank less)
      where
        none : (n : ℕ) → n < 0 → ⊥
        none n h = omega arith
    way_from (suc fuel) router rank Direct less r = delivered router rank r
    way_from (suc fuel) router rank (Via iface next_hop) less r =
        let s = step router rank iface next_hop r in
        handed router rank iface next_hop r s (way_from fuel s.hop.router s.next_rank s.next (lower s.next_rank rank fuel s.lower less) s.is_ranked)
      where
        lower : (a b c : ℕ) → a < b → b < suc c → a < c
        lower a b c e f = omega arith

    arrives : (router : ℕ) (hop : FibHop) → ForwardsBy fibs addr router hop → Arrive net fibs addr router
    arrives router hop f =
        let r = ranked router hop f in
        let w = way_from (suc r.0) router r.0 hop (le_refl (suc r.0)) r.1 in
        let b = (guides router r.1.table r.1.table_is).begins r.1.longest.prefix r.1.entry r.1.entry_is in
        let node = node_from_walk net router r.1.longest.prefix r.1.entry.metric b.0 b.1 b.2 in
        record {
          way = w.way;
          arrive = w.arrive;
          once = w.once;
          few_hops = subst (λ n. n < length net) (length-map w.way (λ (h : Hop). h.router))
              (few_below (length net) (routers_of router w.way) (slice_get_within net router node.0 node.1, all_inside r.0 w.way w.below) w.once);
          prefix = w.prefix;
          tag = w.tag;
          owner = w.owner;
          holds = w.holds;
          no_shorter = w.no_shorter;
        }

    -- ---- wherever a walk leads

    -- no walk below infinity leads to a prefix that has no entry
    none_reached : (router : ℕ) (table : Forwarding) → fibs router ≡ Some table → (p : Prefix6) → map_of.get table p ≡ None → (bound metric tag : ℕ) (walk : List Hop) → Reaches net router p metric tag walk
        → metric < bound → metric < infinity → ⊥
    none_reached router table is p none zero metric tag walk reach less low = no metric less
      where
        no : (n : ℕ) → n < 0 → ⊥
        no n h = omega arith
    none_reached router table is p none (suc bound) metric tag walk reach less low =
        let least : IsLeast net router p metric =
        record {
          reached = (tag, walk, reach);
          least = λ metric' tag' walk' reach'. by_size metric' (split metric metric') (λ h. none_reached router table is p none bound metric' tag' walk' reach' (under metric' metric bound h less) (under metric' metric 16 h (more metric 16 low)));
        } in
        let f = (guides router table is).found p metric least low in
        None-Some f.0 (sym none ∙ f.1)
      where
        split : (a b : ℕ) → (a ≤ b) ⊎ (b < a)
        split a b = grind arith

        more : (a b : ℕ) → a < b → a < suc b
        more a b h = omega arith

        under : (a b c : ℕ) → a < b → b < suc c → a < c
        under a b c e f = omega arith

        by_size : (m : ℕ) → (metric ≤ m) ⊎ (m < metric) → (m < metric → ⊥) → metric ≤ m
        by_size m (inl h) never = h
        by_size m (inr h) never = absurd (never h)

    reaches : (router : ℕ) (p : Prefix6) (metric tag : ℕ) (walk : List Hop) → IsPrefix p → Reaches net router p metric tag walk → metric < infinity → Holds p addr → Arrive net fibs addr router
    reaches router p metric tag walk is_prefix reach low holds = by_value (map_of.get here.0 p) refl
      where
        node : (node : Node) × (slice_get net router ≡ Some node)
        node = node_from_walk net router p metric tag walk reach

        here : (table : Forwarding) × (fibs router ≡ Some table)
        here = everyone router node.0 node.1

        by_value : (o : Option Forward) → map_of.get here.0 p ≡ o → Arrive net fibs addr router
        by_value None is = absurd (none_reached router here.0 here.1 p is (suc metric) metric tag walk reach (le_refl (suc metric)) low)
        by_value (Some f) is =
            let l = has_longest here.0 addr p (record { is_prefix = is_prefix; present = ap is_some is; holds = holds }) in
            arrives router l.0 (record { table = here.0; table_is = here.1; longest = l.1 })

  -- ---- costs

  none_cost_more : HasDistinctAddresses net → NoneCostMore net fibs
  none_cost_more distinct addr router p table f [] is at hands = one b.2.costs
    where
      b : (tag : ℕ) × (walk : List Hop) × Reaches net router p f.metric tag walk × BeginsBy net f.hop walk
      b = (guides router table is).begins p f at

      one : {m : ℕ} → cost net router b.1 ≡ m → 1 ≤ m
      one e = subst (λ n. 1 ≤ n) e (cost_positive net router b.1)
  none_cost_more distinct addr router p table f (h ∷ way) is at hands =
      let x = next in
      let same = one_sender net distinct router h.iface hands.0.next_hop x.hop.router x.hop.router_iface h.router h.router_iface
      (subst (λ (i : ℕ). AreLinked net router i x.hop.router x.hop.router_iface) x.iface_is x.is_hop.1) hands.0.is_hop.1 x.address hands.0.address in
      more (cost_of_interface net router h.iface) (cost net h.router way) x.entry.metric f.metric x.sum
      (none_cost_more distinct addr h.router p x.table x.entry way (subst (λ r. fibs r ≡ Some x.table) same.0 x.table_is) x.entry_is hands.2)
    where
      more : (c v e m : ℕ) → c + e ≡ m → v ≤ e → c + v ≤ m
      more c v e m a b = omega arith

      by : ForwardsBy fibs addr router (Via h.iface hands.0.next_hop)
      by = hands.0.by

      same_table : hands.0.by.table ≡ table
      same_table = Some-same hands.0.by.table table (sym hands.0.by.table_is ∙ is)

      entry : map_of.get hands.0.by.table hands.0.by.longest.prefix ≡ Some f
      entry = ap₂ (λ (t : Forwarding) (q : Prefix6). map_of.get t q) same_table hands.1 ∙ at

      its_hop : f.hop ≡ Via h.iface hands.0.next_hop
      its_hop = subst (λ (o : Option Forward). IsSomeAnd o (λ x. x.hop ≡ Via h.iface hands.0.next_hop)) entry hands.0.by.longest.its_hop

      next : IsNext router h.iface hands.0.next_hop p f.metric
      next = next_of router table is p f at h.iface hands.0.next_hop its_hop

-- a lawful network in which each forwarding table guides delivers
pub delivers : (net : Network) → IsNetwork net → (fibs : Forwardings) → ((router : ℕ) (table : Forwarding) → fibs router ≡ Some table → IsGuide net router table)
    → ((router : ℕ) (node : Node) → slice_get net router ≡ Some node → (table : Forwarding) × (fibs router ≡ Some table)) → PacketsArriveBy net fibs
delivers net is_net fibs guides everyone =
    record {
      forwarded = λ addr router hop f. arrives net is_net.usable fibs guides everyone addr router hop f;
      reachable = λ addr router p metric tag walk reach low holds.
          reaches net is_net.usable fibs guides everyone addr router p metric tag walk (is_net.owns_prefixes (end_of router walk) p tag reach.owner) reach low holds;
      costs = none_cost_more net is_net.usable fibs guides everyone is_net.distinct;
    }
