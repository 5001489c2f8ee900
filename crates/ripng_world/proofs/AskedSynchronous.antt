-- Rounds that are made as they were asked for are synchronous rounds, and change no configuration.
use Rattle.std.proofs.Common.{◌≡◌, ◌≢◌, ◌⊎◌, inl, inr, ℕ, suc, ◌+◌, ◌<◌, ◌≤◌, ◌==◌, ◌%◌, Bool, true, false, not, ◌&&◌, ◌||◌, ◌-◌, List, [], ◌∷◌, ◌++◌, All, Contains, map, take, drop, filter, length, Option, Some, None, slice_get, option_map, refl, sym, subst, ◌∙◌, ap, ap₂, arith, le_trans, Result, Ok, Err, IfErr, OnOk}
use Rattle.std.specs.List.{IsDistinct, enumerate_from, range_with_len, cons_option}
use Rattle.std.specs.Prelude.{nat_eq}
use Rattle.std.proofs.lemmas.Bool.{false≢true}
use Rattle.std.proofs.lemmas.Bool.Decides.{nat_tests}
use Rattle.std.proofs.lemmas.List.{append-nil}
use Rattle.router_core.specs.declared.answer.Answer.{Answer}
use Rattle.router_core.specs.declared.reconfiguring.Change.{Change}
use Rattle.route_table.proofs.TableLaws.{Some-same, None-Some}
use Rattle.ripng_world.specs.Asked.{Asked}
use Rattle.ripng_world.specs.AskedRounds.{AreAllMade, AreMade, Converges, delivery, deliveries_of, is_other, is_picked, other_deliveries, pair_at, pairs_since, picked_deliveries, interfaces_of, round_of, ticks_of}
use Rattle.ripng_world.specs.Convergence.{IsNeverQuiet, FitsTables, AreConverged}
use Rattle.ripng_world.specs.Delivering.{HappensAt, StopAt, StopForMemory, StopForWatcher}
use Rattle.ripng_world.specs.Labs.{is_one_link, link_at}
use Rattle.ripng_world.specs.Network.{Network, IsNetwork, Node, AreLinked, interface_at}
use Rattle.ripng_world.specs.Rounds.{Round, AllTick, AllHeard, SynchronousRounds, IsSynchronousRound, IsDeliveryOf, AreWithinTimeout, router_of}
use Rattle.ripng_world.specs.Stopping.{HaveFailed, HaveStopped, StopsFor, StopsForWatcher}
use Rattle.ripng_world.specs.World.{World, Event, Deliver, Tick, WorldRun, IsCold, reconfiguration_in, reconfigurations_in}
use Rattle.ripng_world.specs.declared.network.NetInterface.{NetInterface}
use Rattle.ripng_world.specs.declared.lab.delivering.Pair.{Pair}
use Rattle.ripng_world.specs.declared.lab.making.RoundsRefused.{RoundsRefused}
use Rattle.ripng_world.specs.declared.lab.making.RoundsRefused.TheVariants.{NoRegularUpdate, OutOfMemory}
use Rattle.ripng_world.specs.declared.event.Sent.{Sent}
use Rattle.ripng_world.specs.declared.watch.Stopped.{Stopped}
use Rattle.ripng_world.specs.declared.watch.Stopped.TheVariants.{Refused, Failed}
use Rattle.ripng_world.proofs.Among.{contains_at, all_at, in_map, in_filter, to_filter, in_flat, in_filter_map, to_filter_map, at_take, get_drop, get_within, in_enumerated, to_enumerated, to_below, to_numbered, range_distinct}
use Rattle.ripng_world.proofs.Members.{At, at_map, at_left, at_right, at_flat, at_from_contains, split_at}
use Rattle.ripng_world.proofs.Converging.{converges}
use Rattle.ripng_world.proofs.RoundRuns.{ticks_run, heard_run, rounds_run}
use Rattle.ripng_world.proofs.Rounding.{short_walks}
use Rattle.ripng_world.proofs.WorldRuns.{done_from}
use Rattle.ripng_world.proofs.StationMoves.{then_of}

-- ---- tests

first_true : (p q : Bool) → (p && q) ≡ true → p ≡ true
first_true true q h = refl
first_true false q h = h

second_true : (p q : Bool) → (p && q) ≡ true → q ≡ true
second_true true q h = h
second_true false q h = absurd (false≢true h)

both_true : (p q : Bool) → p ≡ true → q ≡ true → (p && q) ≡ true
both_true p q a b = ap₂ (λ x y. x && y) a b

same_number : (a b : ℕ) → a ≡ b → (a == b) ≡ true
same_number a b e = grind (arith, nat_tests)

number_same : (a b : ℕ) → (a == b) ≡ true → a ≡ b
number_same a b e = grind (arith, nat_tests)

apart : (a b x y : ℕ) → not (a == x && b == y) ≡ true → (a ≢ x) ⊎ (b ≢ y)
apart a b x y h = by_first (a == x) refl
  where
    by_first : (t : Bool) → (a == x) ≡ t → (a ≢ x) ⊎ (b ≢ y)
    by_first true e = inr (λ s. false≢true (sym (ap₂ (λ p q. not (p && q)) e (same_number b y s)) ∙ h))
    by_first false e = inl (λ s. false≢true (sym e ∙ same_number a x s))

to_apart : (a b x y : ℕ) → (a ≢ x) ⊎ (b ≢ y) → not (a == x && b == y) ≡ true
to_apart a b x y h = by_both (a == x && b == y) refl
  where
    by_both : (t : Bool) → (a == x && b == y) ≡ t → not t ≡ true
    by_both false e = refl
    by_both true e =
        elim h [
          | inl n ↦ absurd (n (number_same a x (first_true (a == x) (b == y) e)))
          | inr n ↦ absurd (n (number_same b y (second_true (a == x) (b == y) e)))
        ]

-- ---- pairs

-- a datagram of these, and another interface of its link
pub record IsPair (net : Network) (first : ℕ) (sent : List Sent) (p : Pair) : Type 0 where
  pub d : Sent
  pub since : first ≤ p.datagram
  pub sent_is : slice_get sent p.datagram ≡ Some d
  pub other : is_other net d (p.router, p.iface) ≡ true

pub in_pairs : (net : Network) (first : ℕ) (sent : List Sent) (p : Pair) → At (pairs_since net first sent) p → IsPair net first sent p
in_pairs net first sent p a =
    let f = in_flat (λ d. map (pair_at d.0) (filter (is_other net d.1) (interfaces_of net))) (enumerate_from first (drop first sent)) p a in
    let n = in_enumerated first (drop first sent) f.0 f.1 in
    let m = in_map (pair_at f.0.0) (filter (is_other net f.0.1) (interfaces_of net)) p f.2 in
    let o = in_filter (is_other net f.0.1) (interfaces_of net) m.0 m.1 in
    let number : p.datagram ≡ first + n.0 = ap (λ (q : Pair). q.datagram) (sym m.2) ∙ n.1 in
    record {
      d = f.0.1;
      since = omega (arith, number);
      sent_is = ap (slice_get sent) number ∙ sym (get_drop first sent n.0) ∙ n.2;
      other = ap (λ (q : Pair). is_other net f.0.1 (q.router, q.iface)) (sym m.2) ∙ o.1;
    }

-- every interface is at its place
in_places : (net : Network) (router iface : ℕ) (i : NetInterface) → interface_at net router iface ≡ Some i → At (interfaces_of net) (router, iface)
in_places net router iface i is =
    let t = then_of (λ (node : Node). slice_get node.interfaces iface) (slice_get net router) i is in
    at_flat (λ n. map (λ k. (n.0, k)) (range_with_len 0 (length n.1.interfaces))) (enumerate_from 0 net) (router, t.0) (router, iface)
    (to_numbered net router t.0 t.1)
    (at_map (λ k. (router, k)) (range_with_len 0 (length t.0.interfaces)) iface (to_below (length t.0.interfaces) iface (get_within t.0.interfaces iface i t.2)))

link_is : (net : Network) (router iface : ℕ) (i : NetInterface) → interface_at net router iface ≡ Some i → link_at net router iface ≡ Some i.link
link_is net router iface i is = ap (option_map (λ (j : NetInterface). j.link)) is

pub to_pairs : (net : Network) (first : ℕ) (sent : List Sent) (datagram router iface : ℕ) (d : Sent) → first ≤ datagram → slice_get sent datagram ≡ Some d
    → AreLinked net d.router d.iface router iface → (router ≢ d.router) ⊎ (iface ≢ d.iface)
    → At (pairs_since net first sent) (pair_at datagram (router, iface))
to_pairs net first sent datagram router iface d since is linked elsewhere =
    let number : first + (datagram - first) ≡ datagram = omega arith in
    let one : is_one_link (link_at net d.router d.iface) (link_at net router iface) ≡ true =
    ap₂ is_one_link (link_is net d.router d.iface linked.here linked.here_is) (link_is net router iface linked.there linked.there_is) ∙ same_number linked.here.link linked.there.link linked.same_link in
    at_flat (λ t. map (pair_at t.0) (filter (is_other net t.1) (interfaces_of net))) (enumerate_from first (drop first sent)) (datagram, d) (pair_at datagram (router, iface))
    (subst (λ n. At (enumerate_from first (drop first sent)) (n, d)) number
    (to_enumerated first (drop first sent) (datagram - first) d (get_drop first sent (datagram - first) ∙ ap (slice_get sent) number ∙ is)))
    (at_map (pair_at datagram) (filter (is_other net d) (interfaces_of net)) (router, iface)
    (to_filter (is_other net d) (interfaces_of net) (router, iface) (in_places net router iface linked.there linked.there_is)
    (both_true _ _ one (to_apart router iface d.router d.iface elsewhere))))

-- ---- deliveries

in_picked : (pairs : List Pair) (picks : List (ℕ × ℕ)) (e : Event) → At (picked_deliveries pairs picks) e → (p : Pair) × (now : ℕ) × At pairs p × (delivery p now ≡ e)
in_picked pairs picks e a =
    let f = in_filter_map (λ p. option_map (λ pair. delivery pair p.1) (slice_get pairs (p.0 % length pairs))) picks e a in
    by_pair f.0.1 (f.0.0 % length pairs) (slice_get pairs (f.0.0 % length pairs)) refl f.2
  where
    by_pair : (now k : ℕ) (o : Option Pair) → slice_get pairs k ≡ o → option_map (λ pair. delivery pair now) o ≡ Some e → (p : Pair) × (n : ℕ) × At pairs p × (delivery p n ≡ e)
    by_pair now k None here is = absurd (None-Some e is)
    by_pair now k (Some p) here is = (p, now, (k, here), Some-same (delivery p now) e is)

in_others : (picked : ℕ → Bool) (pairs : List Pair) (rest : ℕ) (e : Event) → At (other_deliveries picked pairs rest) e → (p : Pair) × (now : ℕ) × At pairs p × (delivery p now ≡ e)
in_others picked pairs rest e a =
    let m = in_map (λ p. delivery p.1 rest) (filter (λ p. not (picked p.0)) (enumerate_from 0 pairs)) e a in
    let f = in_filter (λ p. not (picked p.0)) (enumerate_from 0 pairs) m.0 m.1 in
    let n = in_enumerated 0 pairs m.0 f.0 in
    (m.0.1, rest, (n.0, n.2), m.2)

pub in_deliveries : (pairs : List Pair) (picks : List (ℕ × ℕ)) (rest : ℕ) (e : Event) → At (deliveries_of pairs picks rest) e → (p : Pair) × (now : ℕ) × At pairs p × (delivery p now ≡ e)
in_deliveries pairs picks rest e a =
    elim (split_at (picked_deliveries pairs picks) (other_deliveries (is_picked (length pairs) picks) pairs rest) a.0 e a.1) [
      | inl b ↦ in_picked pairs picks e b
      | inr b ↦ in_others (is_picked (length pairs) picks) pairs rest e b
    ]

-- a place that is picked has a pick
has_pick : (n k : ℕ) (picks : List (ℕ × ℕ)) → is_picked n picks k ≡ true → (x : ℕ × ℕ) × At picks x × (x.0 % n ≡ k)
has_pick n k [] is = absurd (false≢true is)
has_pick n k (x ∷ picks) is = by_first (x.0 % n == k) refl (λ e. has_pick n k picks e)
  where
    by_first : (b : Bool) → (x.0 % n == k) ≡ b → (is_picked n picks k ≡ true → (y : ℕ × ℕ) × At picks y × (y.0 % n ≡ k)) → (y : ℕ × ℕ) × At (x ∷ picks) y × (y.0 % n ≡ k)
    by_first true e later = (x, (0, refl), number_same (x.0 % n) k e)
    by_first false e later = let l = later (sym (ap (λ b. b || is_picked n picks k) e) ∙ is) in (l.0, (suc l.1.0, l.1.1), l.2)

pub to_deliveries : (pairs : List Pair) (picks : List (ℕ × ℕ)) (rest : ℕ) (p : Pair) → At pairs p → (now : ℕ) × At (deliveries_of pairs picks rest) (delivery p now)
to_deliveries pairs picks rest p a = by_pick (is_picked (length pairs) picks a.0) refl
  where
    by_pick : (b : Bool) → is_picked (length pairs) picks a.0 ≡ b → (now : ℕ) × At (deliveries_of pairs picks rest) (delivery p now)
    by_pick true e =
        let x = has_pick (length pairs) a.0 picks e in (
          x.0.1,
          at_left (picked_deliveries pairs picks) (other_deliveries (is_picked (length pairs) picks) pairs rest) (delivery p x.0.1)
              (to_filter_map (λ q. option_map (λ pair. delivery pair q.1) (slice_get pairs (q.0 % length pairs))) picks x.0 (delivery p x.0.1) x.1
              (ap (λ k. option_map (λ pair. delivery pair x.0.1) (slice_get pairs k)) x.2 ∙ ap (option_map (λ pair. delivery pair x.0.1)) a.1)),
        )
    by_pick false e = (
      rest,
      at_right (picked_deliveries pairs picks) (other_deliveries (is_picked (length pairs) picks) pairs rest) (delivery p rest)
          (at_map (λ q. delivery q.1 rest) (filter (λ q. not (is_picked (length pairs) picks q.0)) (enumerate_from 0 pairs)) (a.0, p)
          (to_filter (λ q. not (is_picked (length pairs) picks q.0)) (enumerate_from 0 pairs) (a.0, p) (to_numbered pairs a.0 p a.1) (ap not e))),
    )

-- ---- ticks

routers_from : (n : ℕ) (ticks : List (ℕ × ℕ)) → map router_of (map (λ t. Tick t.0 t.1.0 t.1.1) (enumerate_from n ticks)) ≡ range_with_len n (length ticks)
routers_from n [] = refl
routers_from n (t ∷ ticks) = ap (λ ns. n ∷ ns) (routers_from (n + 1) ticks)

routers : (ticks : List (ℕ × ℕ)) → map router_of (ticks_of ticks) ≡ range_with_len 0 (length ticks)
routers ticks = routers_from 0 ticks

-- ---- synchronous rounds

place_of : Event → ℕ × ℕ × ℕ
place_of (Deliver datagram router iface now) = (datagram, router, iface)
place_of _ = (0, 0, 0)

synchronous_one : (net : Network) (w after_ticks mid : World) (asked : Asked) → length asked.ticks ≡ length net → AllTick net w (round_of net asked w after_ticks).ticks after_ticks
    → AllHeard net after_ticks (round_of net asked w after_ticks).deliveries mid → IsSynchronousRound net w (round_of net asked w after_ticks) mid
unfolding place_of
synchronous_one net w after_ticks mid asked all ticked heard =
    let pairs = pairs_since net (length w.sent) after_ticks.sent in
    record {
      after_ticks = after_ticks;
      each_ticks = λ router lt. subst (λ ns. Contains ns router) (sym (routers asked.ticks))
          (contains_at (range_with_len 0 (length asked.ticks)) router (to_below (length asked.ticks) router (subst (λ n. router < n) (sym all) lt)));
      once = subst (IsDistinct nat_eq) (sym (routers asked.ticks)) (range_distinct 0 (length asked.ticks));
      all_tick = ticked;
      only_these = all_at (IsDeliveryOf (length w.sent) (length after_ticks.sent)) (deliveries_of pairs asked.picks asked.rest)
          (λ e a.
          let d = in_deliveries pairs asked.picks asked.rest e a in
          let p = in_pairs net (length w.sent) after_ticks.sent d.0 d.2 in
          subst (IsDeliveryOf (length w.sent) (length after_ticks.sent)) d.3 (p.since, get_within after_ticks.sent d.0.datagram p.d p.sent_is));
      each_delivered = λ datagram router iface d since is linked elsewhere.
          let t = to_deliveries pairs asked.picks asked.rest (pair_at datagram (router, iface)) (to_pairs net (length w.sent) after_ticks.sent datagram router iface d since is linked elsewhere) in
          (t.0, contains_at (deliveries_of pairs asked.picks asked.rest) (Deliver datagram router iface t.0) t.1);
      elsewhere = λ datagram router iface now d here is.
          let e = in_deliveries pairs asked.picks asked.rest (Deliver datagram router iface now) (at_from_contains (deliveries_of pairs asked.picks asked.rest) (Deliver datagram router iface now) here) in
          let p = in_pairs net (length w.sent) after_ticks.sent e.0 e.2 in
          let q : (e.0.datagram, e.0.router, e.0.iface) ≡ (datagram, router, iface) = ap place_of e.3 in
          let same : p.d ≡ d = Some-same p.d d (sym p.sent_is ∙ ap (λ z. slice_get after_ticks.sent z.0) q ∙ is) in
          apart router iface d.router d.iface
          (second_true (is_one_link (link_at net d.router d.iface) (link_at net router iface)) (not (router == d.router && iface == d.iface))
          (ap₂ (λ (z : ℕ × ℕ × ℕ) (s : Sent). is_other net s (z.1, z.2)) (sym q) (sym same) ∙ p.other));
      all_heard = heard;
    }

pub made_synchronous : (net : Network) (asks : List Asked) (rs : List Round) (w w' : World) → All (λ a. length a.ticks ≡ length net) asks → AreMade net w asks rs w' → SynchronousRounds net w rs w'
made_synchronous net [] [] w w' all made = made
made_synchronous net (a ∷ asks) (r ∷ rs) w w' all made = (
  made.1,
  subst (λ q. IsSynchronousRound net w q made.1) (sym made.2)
      (synchronous_one net w made.0 made.1 a (all 0 a (omega arith)) (subst (λ q. AllTick net w q.ticks made.0) made.2 made.3) (subst (λ q. AllHeard net made.0 q.deliveries made.1) made.2 made.4)),
  made_synchronous net asks rs made.1 w' (λ k d h. all (suc k) d (omega (arith, h))) made.5,
)
made_synchronous net _ _ w w' all made = absurd made

pub as_many : (net : Network) (asks : List Asked) (rs : List Round) (w w' : World) → AreMade net w asks rs w' → length rs ≡ length asks
as_many net [] [] w w' made = refl
as_many net (a ∷ asks) (r ∷ rs) w w' made = let h = as_many net asks rs made.1 w' made.5 in omega (arith, h)
as_many net _ _ w w' made = absurd made

-- ---- no configuration changes

still : (es : List Event) → ((e : Event) → At es e → reconfiguration_in e ≡ None) → reconfigurations_in es ≡ []
still [] each = refl
still (e ∷ es) each = ap₂ cons_option (each e (0, refl)) (still es (λ d a. each d (suc a.0, a.1)))

ran_still : (net : Network) (es : List Event) (w w' : World) → ((e : Event) → At es e → reconfiguration_in e ≡ None) → WorldRun net w es w' → w'.reconfigurations ≡ w.reconfigurations
ran_still net es w w' each run = done_from net es w w' run ∙ ap (λ (cs : List (ℕ × Change)). w.reconfigurations ++ cs) (still es each) ∙ append-nil w.reconfigurations

tick_still : (ticks : List (ℕ × ℕ)) (e : Event) → At (ticks_of ticks) e → reconfiguration_in e ≡ None
tick_still ticks e a = let m = in_map (λ (t : ℕ × (ℕ × ℕ)). Tick t.0 t.1.0 t.1.1) (enumerate_from 0 ticks) e a in ap reconfiguration_in (sym m.2)

delivery_still : (pairs : List Pair) (picks : List (ℕ × ℕ)) (rest : ℕ) (e : Event) → At (deliveries_of pairs picks rest) e → reconfiguration_in e ≡ None
delivery_still pairs picks rest e a = let d = in_deliveries pairs picks rest e a in ap reconfiguration_in (sym d.3)

ticked_still : (net : Network) (ticks : List (ℕ × ℕ)) (w w' : World) → AllTick net w (ticks_of ticks) w' → w'.reconfigurations ≡ w.reconfigurations
ticked_still net ticks w w' is = ran_still net (ticks_of ticks) w w' (tick_still ticks) (ticks_run net (ticks_of ticks) w w' is)

some_ticked_still : (net : Network) (n : ℕ) (ticks : List (ℕ × ℕ)) (w w' : World) → AllTick net w (take n (ticks_of ticks)) w' → w'.reconfigurations ≡ w.reconfigurations
some_ticked_still net n ticks w w' is =
    ran_still net (take n (ticks_of ticks)) w w' (λ e a. tick_still ticks e (at_take n (ticks_of ticks) e a)) (ticks_run net (take n (ticks_of ticks)) w w' is)

pub made_still : (net : Network) (asks : List Asked) (rs : List Round) (w w' : World) → AreMade net w asks rs w' → w'.reconfigurations ≡ w.reconfigurations
made_still net [] [] w w' made = ap (λ (v : World). v.reconfigurations) made
made_still net (a ∷ asks) (r ∷ rs) w w' made =
    let es = (round_of net a w made.0).deliveries in
    made_still net asks rs made.1 w' made.5
    ∙ ran_still net es made.0 made.1 (delivery_still (pairs_since net (length w.sent) made.0.sent) a.picks a.rest)
    (heard_run net es made.0 made.1 (subst (λ (q : Round). AllHeard net made.0 q.deliveries made.1) made.2 made.4))
    ∙ ticked_still net a.ticks w made.0 (subst (λ (q : Round). AllTick net w q.ticks made.0) made.2 made.3)
made_still net _ _ w w' made = absurd made

-- where events stop that change no configuration
module _ (net : Network) (es : List Event) (each : (e : Event) → At es e → reconfiguration_in e ≡ None) where
  heard_still : (n : ℕ) (w w' : World) → AllHeard net w (take n es) w' → w'.reconfigurations ≡ w.reconfigurations
  heard_still n w w' heard = ran_still net (take n es) w w' (λ e a. each e (at_take n es e a)) (heard_run net (take n es) w w' heard)

  next_still : (n : ℕ) (answer : Answer) (w w' : World) → HappensAt net w es n answer w' → w'.reconfigurations ≡ w.reconfigurations
  next_still n answer w w' next =
      done_from net (next.event ∷ []) w w' (w', answer, next.happens, refl)
      ∙ ap (λ (c : Option (ℕ × Change)). w.reconfigurations ++ cons_option c []) (each next.event (n, next.event_is))
      ∙ append-nil w.reconfigurations

  memory_still : (w w' : World) → StopForMemory net w es w' → w'.reconfigurations ≡ w.reconfigurations
  memory_still w w' s =
      elim s.last [
        | inl same ↦ ap (λ (v : World). v.reconfigurations) same ∙ heard_still s.done w s.before s.heard
        | inr next ↦ next_still s.done next.0 s.before w' next.1 ∙ heard_still s.done w s.before s.heard
      ]

  watcher_still : (w w' : World) → StopForWatcher net w es w' → w'.reconfigurations ≡ w.reconfigurations
  watcher_still w w' s = next_still s.done s.answer s.before w' s.last ∙ heard_still s.done w s.before s.heard

stops_still : (net : Network) (a : Asked) (why : RoundsRefused) (w w' : World) → StopsFor net w a why w' → w'.reconfigurations ≡ w.reconfigurations
stops_still net a (NoRegularUpdate round router) w w' stops = some_ticked_still net router a.ticks w w' stops.before
stops_still net a (OutOfMemory round) w w' stops =
    elim stops [
      | inl t ↦ some_ticked_still net t.done a.ticks w w' t.before
      | inr d ↦ memory_still net (round_of net a w d.0).deliveries (delivery_still (pairs_since net (length w.sent) d.0.sent) a.picks a.rest) d.0 w' d.2 ∙ ticked_still net a.ticks w d.0 d.1
    ]

fails_still : (net : Network) (a : Asked) (w w' : World) → StopsForWatcher net w a w' → w'.reconfigurations ≡ w.reconfigurations
fails_still net a w w' stops =
    elim stops [
      | inl t ↦ some_ticked_still net (t.before + 1) a.ticks w w' t.done
      | inr d ↦ watcher_still net (round_of net a w d.0).deliveries (delivery_still (pairs_since net (length w.sent) d.0.sent) a.picks a.rest) d.0 w' d.2 ∙ ticked_still net a.ticks w d.0 d.1
    ]

pub stopped_still : (net : Network) (asks : List Asked) (why : RoundsRefused) (w w' : World) → HaveStopped net w asks why w' → w'.reconfigurations ≡ w.reconfigurations
stopped_still net asks why w w' s = stops_still net s.stopped why s.begin w' s.stops ∙ made_still net _ s.rounds w s.begin s.made

pub failed_still : (net : Network) (asks : List Asked) (w w' : World) → HaveFailed net w asks w' → w'.reconfigurations ≡ w.reconfigurations
failed_still net asks w w' s = fails_still net s.1.stopped s.1.begin w' s.1.stops ∙ made_still net _ s.1.rounds w s.1.begin s.1.made

-- ---- all that was asked for

pub all_made : (net : Network) (asks : List Asked) (w w' : World) → All (λ a. length a.ticks ≡ length net) asks → (m : (rs : List Round) × AreMade net w asks rs w') → AreAllMade net w asks w'
all_made net asks w w' all m =
    record {
      rounds = m.0;
      made = m.1;
      as_many = as_many net asks m.0 w w' m.1;
      synchronous = made_synchronous net asks m.0 w w' all m.1;
      run = rounds_run net m.0 w w' (made_synchronous net asks m.0 w w' all m.1);
    }

pub converging : (net : Network) (asks : List Asked) (w w' : World) → IsNetwork net → All (λ a. length a.ticks ≡ length net) asks → Converges net w asks w'
converging net asks w w' is_net all =
    record {
      exact = exact;
      settled = λ moments rounds is noisy fits made close many router state p metric here least low.
          (exact moments rounds is noisy fits made close router state here).found p metric
          (record {
            reached = (
              least.reached.0,
              least.reached.1,
              le_trans (short_walks net is_net.usable router least.reached.1 least.reached.2.is_walk (subst (λ n. n < 16) (sym least.reached.2.costs) low)) many,
              least.reached.2,
            );
            least = λ m t walk short reaches. least.least m t walk reaches;
            usable = low;
          });
    }
  where
    exact : (moments : List ℕ) (rounds : List Round) → IsCold net moments w → IsNeverQuiet net → FitsTables net → AreMade net w asks rounds w' → AreWithinTimeout rounds → AreConverged net (length asks) w'
    exact moments rounds is noisy fits made close =
        subst (λ k. AreConverged net k w') (as_many net asks rounds w w' made)
        (converges net is_net.usable is_net.owns_prefixes noisy is_net.distinct is.zoned fits moments rounds w w' is (made_synchronous net asks rounds w w' all made) close)

pub on_ok : {X E : Type 0} (r : Result X E) (P Q : Type 0) → (P → Q) → OnOk r P → OnOk r Q
on_ok (Ok x) P Q f h = f h
on_ok (Err e) P Q f h = tt

pub to_ok : {X E : Type 0} (r : Result X E) (Q : Type 0) → Q → OnOk r Q
to_ok (Ok x) Q h = h
to_ok (Err e) Q h = tt

-- deliveries change no configuration, all or in part
pub since_still : {X R F : Type 0} (net : Network) (pairs : List Pair) (now : ℕ) (w w' : World) (r : Result X (Stopped R F)) → OnOk r (WorldRun net w (map (λ p. delivery p now) pairs) w')
    → IfErr r (λ why. StopAt net w (map (λ p. delivery p now) pairs) why w') → w'.reconfigurations ≡ w.reconfigurations
since_still net pairs now w w' r run stops = by_end r run stops
  where
    each : (e : Event) → At (map (λ p. delivery p now) pairs) e → reconfiguration_in e ≡ None
    each e a = let m = in_map (λ (p : Pair). delivery p now) pairs e a in ap reconfiguration_in (sym m.2)

    by_end : {X R F : Type 0} (r : Result X (Stopped R F)) → OnOk r (WorldRun net w (map (λ p. delivery p now) pairs) w') → IfErr r (λ why. StopAt net w (map (λ p. delivery p now) pairs) why w')
        → w'.reconfigurations ≡ w.reconfigurations
    by_end (Ok x) run stops = ran_still net (map (λ p. delivery p now) pairs) w w' each run
    by_end (Err (Refused why)) run stops = memory_still net (map (λ p. delivery p now) pairs) each w w' stops
    by_end (Err (Failed fault)) run stops = watcher_still net (map (λ p. delivery p now) pairs) each w w' stops
