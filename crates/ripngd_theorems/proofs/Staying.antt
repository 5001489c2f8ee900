-- Daemons that go on until a moment went on until each before it, and so did their links.
use Rattle.std.proofs.Common.{◌≡◌, ◌≢◌, ◌⊎◌, inl, inr, ℕ, ◌+◌, ◌-◌, ◌^◌, ◌<◌, ◌≤◌, List, [], ◌∷◌, ◌++◌, length, Contains, Option, Some, slice_get, ap, sym, subst, ◌∙◌, append_assoc, arith, le_trans}
use Rattle.std.specs.List.{AllByRecursion}
use Rattle.route_table.proofs.TableLaws.{Some-same}
use Rattle.ripng_world.specs.declared.event.Sent.{Sent}
use Rattle.ripng_world.specs.Network.{Network, AreLinked, config_of}
use Rattle.ripng_world.proofs.Each.{each_at_place}
use Rattle.ripng_world.proofs.Members.{At, at_from_contains, at_left, split_at}
use Rattle.ripng_phases.proofs.Along.{contains_from}
use Rattle.ripngd_engine.specs.Link.{Datagram}
use Rattle.ripngd_engine.specs.Run.{Machine}
use Rattle.ripngd_theorems.specs.Daemons.{Happened, Lives, own_deeds}
use Rattle.ripngd_theorems.specs.Links.{LiveOn, handed_by, all_handed}
use Rattle.ripngd_theorems.specs.OnTime.{AreNumbered, AreOnTime, Comes, Dated, GoOn, GivesCopy, HappenFrom, IsPlain, IsRegular, IsTickIn, undated}
use Rattle.ripngd_theorems.proofs.Lossless.{lives_from, lives_to, plain_own}
use Rattle.ripngd_theorems.proofs.Pairs.{undated_on}
use Rattle.ripngd_theorems.proofs.Places.{all_left, all_right, happen_first, plain_deeds}
use Rattle.ripngd_theorems.proofs.Running.{there_is}

numbered_first : (net : Network) (handed : List Sent) (xs ys : List Dated) → AreNumbered net handed (xs ++ ys) → AreNumbered net handed xs
numbered_first net handed [] ys are = tt
numbered_first net handed (x ∷ xs) ys are = (are.0, numbered_first net (handed ++ handed_by x.happened) xs ys are.1)

not_before : (start from : ℕ) (xs : List Dated) → start ≤ from → HappenFrom from xs → AllByRecursion (λ t. start ≤ t.at) xs
not_before start from [] le is = tt
not_before start from (x ∷ xs) le is = (le_trans le is.0, not_before start x.at xs (le_trans le is.0) is.1)

-- of two parts a deed that happens before the later one is in the first
soon : (until : ℕ) (xs ys : List Dated) (t : Dated) → AllByRecursion (λ d. until ≤ d.at) ys → t.at < until → Contains (xs ++ ys) t → Contains xs t
soon until xs ys t far early c = let a = at_from_contains (xs ++ ys) t c in by (split_at xs ys a.0 t a.1)
  where
    no : (a b : ℕ) → b ≤ a → a < b → ⊥
    no a b e f = omega arith

    by : At xs t ⊎ At ys t → Contains xs t
    by (inl a) = contains_from xs t a
    by (inr a) = absurd (no t.at until (each_at_place (λ (d : Dated). until ≤ d.at) ys far a.0 t a.1) early)

module _ (net : Network) (before : List Happened) (daemons : ℕ → Option Machine) (early late : List Dated) (start until end : ℕ) (daemons' between : ℕ → Option Machine)
    (go : GoOn net before daemons (early ++ late) start end daemons') (on_time : AreOnTime net before daemons (early ++ late) start end)
    (within : until ≤ end) (by_then : AllByRecursion (λ t. t.at < until) early) (from_then : HappenFrom until late)
    (first : LiveOn net (undated early) daemons between) (rest : LiveOn net (undated late) between daemons') where
  far : AllByRecursion (λ (d : Dated). until ≤ d.at) late
  far = not_before until until late (same until) from_then
    where
      same : (n : ℕ) → n ≤ n
      same n = omega arith

  on_late : (t : Dated) → Contains early t → Contains (early ++ late) t
  on_late t c = contains_from (early ++ late) t (at_left early late t (at_from_contains early t c))

  ticks : (router from : ℕ) → router < length net → start ≤ from → from + 500 ≤ until → IsTickIn early router from (from + 500)
  ticks router from low begun room =
      let t = go.ticks router from low begun (le_trans room within) in
      record {
        tick = t.tick;
        stands = soon until early late t.tick far (less t.tick.at (from + 500) until t.in_time room) t.stands;
        router_is = t.router_is;
        ticks = t.ticks;
        not_before = t.not_before;
        in_time = t.in_time;
      }
    where
      less : (a b c : ℕ) → a < b → b ≤ c → a < c
      less a b c e f = omega arith

  lossless : (router : ℕ) (m n : Machine) → router < length net → daemons router ≡ Some m → between router ≡ Some n → (n.lost_memory ≡ m.lost_memory) × (m.lost_memory < 2 ^ 64 - 1)
  lossless router m n low was is =
      let node = there_is net router low in
      let one = lives_from (config_of node.0) (own_deeds router (undated early)) (daemons router) n
      (plain_own router (undated early) (plain_deeds early (all_left (λ t. IsPlain t.happened.deed.act) early late go.plain)))
      (subst (λ o. Lives (config_of node.0) (daemons router) (own_deeds router (undated early)) o) is (first router node.0 node.1)) in
      let two = lives_to (config_of node.0) (own_deeds router (undated late)) n (daemons' router)
      (plain_own router (undated late) (plain_deeds late (all_right (λ t. IsPlain t.happened.deed.act) early late go.plain)))
      (subst (λ o. Lives (config_of node.0) o (own_deeds router (undated late)) (daemons' router)) is (rest router node.0 node.1)) in
      let counts = go.lossless router m two.end low was two.is_up in
      let same = Some-same one.was m (sym one.was_up ∙ was) in
      (middle m.lost_memory n.lost_memory two.end.lost_memory (subst (λ (x : Machine). x.lost_memory ≤ n.lost_memory) same one.fewer) two.more counts.0, counts.1)
    where
      middle : (a b c : ℕ) → a ≤ b → b ≤ c → c ≡ a → b ≡ a
      middle a b c e f g = omega arith

  pub goes_until : GoOn net before daemons early start until between
  goes_until =
      record {
        known = all_left (λ t. t.happened.router < length net) early late go.known;
        lives = first;
        given = numbered_first net (all_handed before) early late go.given;
        in_time = happen_first start early late go.in_time;
        ended = by_then;
        plain = all_left (λ t. IsPlain t.happened.deed.act) early late go.plain;
        ticks = ticks;
        clocks = λ router. record {
          behind = (go.clocks router).behind;
          moments = λ t now c. (go.clocks router).moments t now (on_late t c);
          before = (go.clocks router).before;
        };
        lossless = lossless;
        roomy = λ t x bytes why notes c. go.roomy t x bytes why notes (on_late t c);
      }

  updates : (a : List Dated) (t : Dated) (b : List Dated) → early ≡ a ++ t ∷ b → IsRegular net daemons (undated a) t.happened → t.at + 13_000 ≤ until
      → (place other iface : ℕ) (d : Sent) → slice_get (handed_by t.happened) place ≡ Some d → AreLinked net d.router d.iface other iface → (other ≢ d.router) ⊎ (iface ≢ d.iface)
      → Comes b (t.at + 13_000) (length (all_handed (before ++ undated a)) + place) other iface
  updates a t b parts regular room place other iface d is linked elsewhere =
      let c = on_time.updates a t (b ++ late) (ap (λ xs. xs ++ late) parts ∙ append_assoc a (t ∷ b) late) regular (le_trans room within) place other iface d is linked elsewhere in
      record {
        given = c.given;
        stands = soon until b late c.given far (less c.given.at (t.at + 13_000) until c.in_time room) c.stands;
        datagram = c.datagram;
        gives = c.gives;
        iface_is = c.iface_is;
        in_time = c.in_time;
      }
    where
      less : (a b c : ℕ) → a < b → b ≤ c → a < c
      less a b c e f = omega arith

  in_order : (a b c : List Dated) (s t : Dated) → early ≡ a ++ s ∷ (b ++ t ∷ c) → (router : ℕ) (d e : Datagram) (new old : ℕ) → GivesCopy s router d new → GivesCopy t router e old
      → d.iface ≡ e.iface → d.source ≡ e.source → (before_it after_it : List Happened) → undated early ≡ before_it ++ after_it
      → old < length (all_handed (before ++ before_it)) → new < length (all_handed (before ++ before_it))
  in_order a b c s t parts router d e new old one two iface source before_it after_it deeds =
      on_time.in_order a b (c ++ late) s t
      (ap (λ xs. xs ++ late) parts ∙ append_assoc a (s ∷ (b ++ t ∷ c)) late ∙ ap (λ xs. a ++ s ∷ xs) (append_assoc b (t ∷ c) late)) router d e new old one two iface source before_it (after_it ++ undated late)
      (undated_on early late ∙ ap (λ hs. hs ++ undated late) deeds ∙ append_assoc before_it after_it (undated late))

  pub on_time_until : AreOnTime net before daemons early start until
  on_time_until =
      record {
        updates = updates;
        recent = λ old new t b parts begun all number is.
            on_time.recent old new t (b ++ late) (ap (λ xs. xs ++ late) parts ∙ append_assoc (old ++ new) (t ∷ b) late) begun all number is;
        in_order = in_order;
      }
