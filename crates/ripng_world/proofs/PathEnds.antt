-- Ways of packets: each has one end, and each router has one way.
use Rattle.std.proofs.Common.{◌≡◌, ◌⊎◌, inl, inr, ℕ, zero, suc, ◌<◌, ◌≤◌, false, nat_eq, List, [], ◌∷◌, ◌++◌, length, Contains, Some, slice_get, refl, ap, ap₂, sym, subst, ◌∙◌}
use Rattle.std.specs.List.{AllByRecursion, IsDistinct}
use Rattle.std.proofs.lemmas.Bool.{eq-eqb, false≢true}
use Rattle.std.proofs.lemmas.Map.Keys.{IsDistinct-head, IsDistinct-tail, IsDistinct-cons}
use Rattle.std.proofs.lemmas.Option.{slice_get-get_or, slice_get_within}
use Rattle.fib.specs.declared.change.Hop.{Hop as FibHop}
use Rattle.fib.specs.declared.change.Hop.TheVariants.{Direct, Via}
use Rattle.route_table.proofs.TableLaws.{Some-same, None-Some}
use Rattle.ripng_world.specs.Network.{Network, HasDistinctAddresses}
use Rattle.ripng_world.specs.Packets.{Forwardings, ForwardsBy, HandsOn, ArriveBy, DeliversItself, PacketsArrive, forwardings_of, routers_of}
use Rattle.ripng_world.specs.Path.{AreHandedOn, ComesBack, ForwardsToNobody, HasNoMatch, IsPath, PathValue, handing_on}
use Rattle.ripng_world.specs.Walks.{Hop, end_of}
use Rattle.ripng_world.specs.World.{World}
use Rattle.ripng_world.specs.declared.path.PathEnd.{PathEnd}
use Rattle.ripng_world.specs.declared.path.PathEnd.TheVariants.{Delivered, NoRoute, NextHopIsNobodys, Loops}
use Rattle.ripng_world.proofs.Packets.{few_below, node_of}
use Rattle.ripng_world.proofs.PacketsHealed.{not_both, one_hop, one_next, same_iface, same_next_hop}

-- ---- lists of distinct numbers

all_mid : (P : ℕ → Type 0) (xs ys : List ℕ) (r : ℕ) → AllByRecursion P (xs ++ r ∷ ys) → P r
all_mid P [] ys r all = all.0
all_mid P (x ∷ xs) ys r all = all_mid P xs ys r all.1

all_front : (P : ℕ → Type 0) (xs ys : List ℕ) → AllByRecursion P (xs ++ ys) → AllByRecursion P xs
all_front P [] ys all = tt
all_front P (x ∷ xs) ys all = (all.0, all_front P xs ys all.1)

-- what stands earlier does not stand again
not_again : (xs ys : List ℕ) (i r : ℕ) → slice_get xs i ≡ Some r → IsDistinct nat_eq (xs ++ r ∷ ys) → ⊥
not_again [] ys i r is distinct = None-Some r is
not_again (x ∷ xs) ys zero r is distinct =
    false≢true (sym (all_mid (λ (y : ℕ). nat_eq x y ≡ false) xs ys r (IsDistinct-head nat_eq x (xs ++ r ∷ ys) distinct)) ∙ eq-eqb x r (Some-same x r is))
not_again (x ∷ xs) ys (suc i) r is distinct = not_again xs ys i r is (IsDistinct-tail nat_eq x (xs ++ r ∷ ys) distinct)

distinct_front : (xs ys : List ℕ) → IsDistinct nat_eq (xs ++ ys) → IsDistinct nat_eq xs
unfolding IsDistinct
distinct_front [] ys distinct = tt
distinct_front (x ∷ xs) ys distinct =
    IsDistinct-cons nat_eq x xs (all_front (λ (y : ℕ). nat_eq x y ≡ false) xs ys (IsDistinct-head nat_eq x (xs ++ ys) distinct)) (distinct_front xs ys (IsDistinct-tail nat_eq x (xs ++ ys) distinct))

place_of : (xs : List ℕ) (r : ℕ) → Contains xs r → (place : ℕ) × (slice_get xs place ≡ Some r)
place_of xs r c = (c.0, slice_get-get_or xs c.0 r c.1 ∙ ap (λ (n : ℕ). Some n) c.2)

-- ---- ways

pub handing_append : (router : ℕ) (way : List Hop) (h : Hop) (rest : List Hop) → handing_on router (way ++ h ∷ rest) ≡ handing_on router way ++ end_of router way ∷ handing_on h.router rest
handing_append router [] h rest = refl
handing_append router (k ∷ way) h rest = ap (λ (rs : List ℕ). router ∷ rs) (handing_append k.router way h rest)

pub end_more : (router : ℕ) (way : List Hop) (h : Hop) → end_of router (way ++ h ∷ []) ≡ h.router
end_more router [] h = refl
end_more router (k ∷ way) h = end_more k.router way h

routers_are : (router : ℕ) (way : List Hop) → routers_of router way ≡ handing_on router way ++ end_of router way ∷ []
routers_are router [] = refl
routers_are router (h ∷ way) = ap (λ (rs : List ℕ). router ∷ rs) (routers_are h.router way)

pub as_many : (router : ℕ) (way : List Hop) → length (handing_on router way) ≡ length way
as_many router [] = refl
as_many router (h ∷ way) = ap suc (as_many h.router way)

module _ (net : Network) (fibs : Forwardings) (addr : ℕ) where
  pub handed_more : (router : ℕ) (way : List Hop) (h : Hop) → AreHandedOn net fibs addr router way → HandsOn net fibs addr (end_of router way) h → AreHandedOn net fibs addr router (way ++ h ∷ [])
  handed_more router [] h all here = (here, tt)
  handed_more router (k ∷ way) h all here = (all.0, handed_more k.router way h all.1 here)

  handed_next : (router : ℕ) (way : List Hop) (h : Hop) (rest : List Hop) → AreHandedOn net fibs addr router (way ++ h ∷ rest) → HandsOn net fibs addr (end_of router way) h
  handed_next router [] h rest all = all.0
  handed_next router (k ∷ way) h rest all = handed_next k.router way h rest all.1

  arrive_by : (router : ℕ) (way : List Hop) → AreHandedOn net fibs addr router way → DeliversItself fibs addr (end_of router way) → ArriveBy net fibs addr router way
  arrive_by router [] all last = last
  arrive_by router (h ∷ way) all last = (all.0, arrive_by h.router way all.1 last)

  arrived_at : (router : ℕ) (way : List Hop) → ArriveBy net fibs addr router way → DeliversItself fibs addr (end_of router way)
  arrived_at router [] arrive = arrive
  arrived_at router (h ∷ way) arrive = arrived_at h.router way arrive.1

  handed_by : (router : ℕ) (way : List Hop) → ArriveBy net fibs addr router way → AreHandedOn net fibs addr router way
  handed_by router [] arrive = tt
  handed_by router (h ∷ way) arrive = (arrive.0, handed_by h.router way arrive.1)

  -- routers that hand on are those of the network
  inside : (router : ℕ) (way : List Hop) → AreHandedOn net fibs addr router way → AllByRecursion (λ r. r < length net) (handing_on router way)
  inside router [] all = tt
  inside router (h ∷ way) all = let l = all.0.is_hop.1 in let n = node_of net router h.iface l.here l.here_is in (slice_get_within net router n.0 n.1, inside h.router way all.1)

  pub few_hops : (router : ℕ) (way : List Hop) → AreHandedOn net fibs addr router way → IsDistinct nat_eq (handing_on router way) → length way ≤ length net
  few_hops router way all once = subst (λ n. n ≤ length net) (as_many router way) (few_below (length net) (handing_on router way) (inside router way all) once)

  -- what stands among the routers that hand on hands on
  handed_at : (router : ℕ) (way : List Hop) (from r : ℕ) → AreHandedOn net fibs addr router way → slice_get (handing_on router way) from ≡ Some r → (h : Hop) × HandsOn net fibs addr r h
  handed_at router [] from r all is = absurd (None-Some r is)
  handed_at router (h ∷ way) zero r all is = (h, subst (λ (n : ℕ). HandsOn net fibs addr n h) (Some-same router r is) all.0)
  handed_at router (h ∷ way) (suc from) r all is = handed_at h.router way from r all.1 is

  -- where a way comes back, its last router hands on
  comes_back : (router : ℕ) (way : List Hop) → AreHandedOn net fibs addr router way → (from : ℕ) → ComesBack router way from → (h : Hop) × HandsOn net fibs addr (end_of router way) h
  comes_back router way all from back =
      let p = place_of (handing_on router way) from back.1 in
      handed_at router way p.0 (end_of router way) all (p.1 ∙ ap (λ (r : ℕ). Some r) (sym back.0))

  -- ---- a router does one of four things

  hands_or_delivers : (router : ℕ) (h : Hop) → HandsOn net fibs addr router h → DeliversItself fibs addr router → ⊥
  hands_or_delivers router h hands delivers = not_both h.iface hands.next_hop (one_hop fibs addr router _ _ hands.by delivers)

  unmatched : (router : ℕ) (hop : FibHop) → HasNoMatch fibs addr router → ForwardsBy fibs addr router hop → ⊥
  unmatched router hop none f = none f.table f.longest.prefix f.table_is f.longest.matches

  hands_to_somebody : (router : ℕ) (h : Hop) → HandsOn net fibs addr router h → ForwardsToNobody net fibs addr router → ⊥
  hands_to_somebody router h hands nobody =
      let e : Via h.iface hands.next_hop ≡ Via nobody.iface nobody.next_hop = one_hop fibs addr router _ _ hands.by nobody.by in
      nobody.nobody h (record {
        leaves = same_iface h.iface hands.next_hop nobody.iface nobody.next_hop e;
        is_hop = hands.is_hop;
        address = hands.address ∙ ap (λ (n : ℕ). Some n) (same_next_hop h.iface hands.next_hop nobody.iface nobody.next_hop e);
      })

  -- ---- one end

  -- what is so where a way ends so
  abbrev pub IsEnd : ℕ → List Hop → PathEnd → Type 0
  IsEnd router way Delivered = DeliversItself fibs addr (end_of router way)
  IsEnd router way NoRoute = HasNoMatch fibs addr (end_of router way)
  IsEnd router way NextHopIsNobodys = ForwardsToNobody net fibs addr (end_of router way)
  IsEnd router way (Loops from) = ComesBack router way from

  module _ (router : ℕ) (way : List Hop) (all : AreHandedOn net fibs addr router way) (once : IsDistinct nat_eq (handing_on router way)) where
    delivered_unmatched : DeliversItself fibs addr (end_of router way) → HasNoMatch fibs addr (end_of router way) → ⊥
    delivered_unmatched x y = unmatched (end_of router way) Direct y x

    delivered_nobody : DeliversItself fibs addr (end_of router way) → ForwardsToNobody net fibs addr (end_of router way) → ⊥
    delivered_nobody x y = not_both y.iface y.next_hop (one_hop fibs addr (end_of router way) _ _ y.by x)

    delivered_back : (from : ℕ) → DeliversItself fibs addr (end_of router way) → ComesBack router way from → ⊥
    delivered_back from x y = let h = comes_back router way all from y in hands_or_delivers (end_of router way) h.0 h.1 x

    unmatched_nobody : HasNoMatch fibs addr (end_of router way) → ForwardsToNobody net fibs addr (end_of router way) → ⊥
    unmatched_nobody x y = unmatched (end_of router way) (Via y.iface y.next_hop) x y.by

    unmatched_back : (from : ℕ) → HasNoMatch fibs addr (end_of router way) → ComesBack router way from → ⊥
    unmatched_back from x y = let h = comes_back router way all from y in unmatched (end_of router way) (Via h.0.iface h.1.next_hop) x h.1.by

    nobody_back : (from : ℕ) → ForwardsToNobody net fibs addr (end_of router way) → ComesBack router way from → ⊥
    nobody_back from x y = let h = comes_back router way all from y in hands_to_somebody (end_of router way) h.0 h.1 x

    one_end : (a b : PathEnd) → IsEnd router way a → IsEnd router way b → a ≡ b
    one_end Delivered Delivered x y = refl
    one_end Delivered NoRoute x y = absurd (delivered_unmatched x y)
    one_end Delivered NextHopIsNobodys x y = absurd (delivered_nobody x y)
    one_end Delivered (Loops from) x y = absurd (delivered_back from x y)
    one_end NoRoute Delivered x y = absurd (delivered_unmatched y x)
    one_end NoRoute NoRoute x y = refl
    one_end NoRoute NextHopIsNobodys x y = absurd (unmatched_nobody x y)
    one_end NoRoute (Loops from) x y = absurd (unmatched_back from x y)
    one_end NextHopIsNobodys Delivered x y = absurd (delivered_nobody y x)
    one_end NextHopIsNobodys NoRoute x y = absurd (unmatched_nobody y x)
    one_end NextHopIsNobodys NextHopIsNobodys x y = refl
    one_end NextHopIsNobodys (Loops from) x y = absurd (nobody_back from x y)
    one_end (Loops from) Delivered x y = absurd (delivered_back from y x)
    one_end (Loops from) NoRoute x y = absurd (unmatched_back from y x)
    one_end (Loops from) NextHopIsNobodys x y = absurd (nobody_back from y x)
    one_end (Loops from) (Loops other) x y = ap (λ (n : ℕ). Loops n) (sym x.0 ∙ y.0)

    pub is_path : (end : PathEnd) → IsEnd router way end → IsPath net fibs addr router (record { hops = way; end = end })
    is_path end is =
        record {
          handed_on = all;
          once = once;
          delivered = (λ e. arrive_by router way all (subst (IsEnd router way) e is), λ arrive. one_end end Delivered is (arrived_at router way arrive));
          no_route = (λ e. subst (IsEnd router way) e is, λ none. one_end end NoRoute is none);
          nobodys = (λ e. subst (IsEnd router way) e is, λ nobody. one_end end NextHopIsNobodys is nobody);
          loops = λ from. (λ e. subst (IsEnd router way) e is, λ back. one_end end (Loops from) is back);
        }

  -- ---- one way

  -- the way goes no further
  no_further : (router : ℕ) (path : PathValue) → IsPath net fibs addr router path → (h : Hop) (rest : List Hop) → AreHandedOn net fibs addr router (path.hops ++ h ∷ rest)
      → IsDistinct nat_eq (handing_on router (path.hops ++ h ∷ rest)) → ⊥
  no_further router path is h rest all once = by_end path.end refl
    where
      hands : HandsOn net fibs addr (end_of router path.hops) h
      hands = handed_next router path.hops h rest all

      by_end : (end : PathEnd) → path.end ≡ end → ⊥
      by_end Delivered e = hands_or_delivers (end_of router path.hops) h hands (arrived_at router path.hops (is.delivered.0 e))
      by_end NoRoute e = unmatched (end_of router path.hops) (Via h.iface hands.next_hop) (is.no_route.0 e) hands.by
      by_end NextHopIsNobodys e = hands_to_somebody (end_of router path.hops) h hands (is.nobodys.0 e)
      by_end (Loops from) e =
          let back : ComesBack router path.hops from = (is.loops from).0 e in
          let p = place_of (handing_on router path.hops) from back.1 in
          not_again (handing_on router path.hops) (handing_on h.router rest) p.0 (end_of router path.hops) (p.1 ∙ ap (λ (r : ℕ). Some r) (sym back.0))
          (subst (IsDistinct nat_eq) (handing_append router path.hops h rest) once)

  module _ (distinct : HasDistinctAddresses net) where
    -- the second way goes on from the end of the first
    abbrev GoesOn : List Hop → List Hop → Type 0
    GoesOn a b = (h : Hop) × (rest : List Hop) × (b ≡ a ++ h ∷ rest)

    compared : (router : ℕ) (a b : List Hop) → AreHandedOn net fibs addr router a → AreHandedOn net fibs addr router b → (a ≡ b) ⊎ (GoesOn a b ⊎ GoesOn b a)
    compared router [] [] p q = inl refl
    compared router [] (y ∷ b) p q = inr (inl (y, b, refl))
    compared router (x ∷ a) [] p q = inr (inr (x, a, refl))
    compared router (x ∷ a) (y ∷ b) p q =
        let e : x ≡ y = one_next net distinct fibs addr router x y p.0 q.0 in
        elim (compared y.router a b (subst (λ (n : Hop). AreHandedOn net fibs addr n.router a) e p.1) q.1) [
          | inl same ↦ inl (ap₂ (λ (h : Hop) (way : List Hop). h ∷ way) e same)
          | inr more ↦ inr (elim more [
            | inl m ↦ inl (m.0, m.1, ap₂ (λ (h : Hop) (way : List Hop). h ∷ way) (sym e) m.2)
            | inr m ↦ inr (m.0, m.1, ap₂ (λ (h : Hop) (way : List Hop). h ∷ way) e m.2)
          ])
        ]

    module _ (router : ℕ) (path other : PathValue) (is : IsPath net fibs addr router path) (is' : IsPath net fibs addr router other) where
      same_hops : path.hops ≡ other.hops
      same_hops =
          elim (compared router path.hops other.hops is.handed_on is'.handed_on) [
            | inl same ↦ same
            | inr more ↦ elim more [
              | inl m ↦ absurd (no_further router path is m.0 m.1 (subst (AreHandedOn net fibs addr router) m.2 is'.handed_on) (subst (λ (way : List Hop). IsDistinct nat_eq (handing_on router way)) m.2 is'.once))
              | inr m ↦ absurd (no_further router other is' m.0 m.1 (subst (AreHandedOn net fibs addr router) m.2 is.handed_on) (subst (λ (way : List Hop). IsDistinct nat_eq (handing_on router way)) m.2 is.once))
            ]
          ]

      same_end : (end : PathEnd) → path.end ≡ end → path.end ≡ other.end
      same_end Delivered e = e ∙ sym (is'.delivered.1 (subst (ArriveBy net fibs addr router) same_hops (is.delivered.0 e)))
      same_end NoRoute e = e ∙ sym (is'.no_route.1 (subst (λ (way : List Hop). HasNoMatch fibs addr (end_of router way)) same_hops (is.no_route.0 e)))
      same_end NextHopIsNobodys e = e ∙ sym (is'.nobodys.1 (subst (λ (way : List Hop). ForwardsToNobody net fibs addr (end_of router way)) same_hops (is.nobodys.0 e)))
      same_end (Loops from) e = e ∙ sym ((is'.loops from).1 (subst (λ (way : List Hop). ComesBack router way from) same_hops ((is.loops from).0 e)))

      pub one_path : path ≡ other
      one_path = ap₂ (λ (way : List Hop) (end : PathEnd). record { hops = way; end = end }) same_hops (same_end path.end refl)

-- ---- where packets arrive

module _ (net : Network) (w : World) (addr router : ℕ) (hop : FibHop) (path : PathValue) (distinct : HasDistinctAddresses net) (arrive : PacketsArrive net w)
    (forwards : ForwardsBy (forwardings_of w) addr router hop) (is : IsPath net (forwardings_of w) addr router path) where
  same_as_arrived : path ≡ record { hops = (arrive.forwarded addr router hop forwards).way; end = Delivered }
  same_as_arrived =
      let x = arrive.forwarded addr router hop forwards in
      one_path net (forwardings_of w) addr distinct router path (record { hops = x.way; end = Delivered }) is
      (is_path net (forwardings_of w) addr router x.way (handed_by net (forwardings_of w) addr router x.way x.arrive)
      (distinct_front (handing_on router x.way) (end_of router x.way ∷ []) (subst (IsDistinct nat_eq) (routers_are router x.way) x.once))
      Delivered (arrived_at net (forwardings_of w) addr router x.way x.arrive))

  pub is_delivered : path.end ≡ Delivered
  is_delivered = ap (λ (p : PathValue). p.end) same_as_arrived

  pub passes_once : IsDistinct nat_eq (routers_of router path.hops)
  passes_once = subst (λ (p : PathValue). IsDistinct nat_eq (routers_of router p.hops)) (sym same_as_arrived) (arrive.forwarded addr router hop forwards).once
