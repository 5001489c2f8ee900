-- What daemons did by a true clock is a paced history of the model.
use Rattle.std.proofs.Common.{◌≡◌, ◌≢◌, ◌⊎◌, ℕ, zero, suc, ◌+◌, ◌-◌, max, ◌<◌, ◌≤◌, List, [], ◌∷◌, ◌++◌, length, Contains, Option, Some, slice_get, refl, ap, sym, subst, ◌∙◌, append_assoc, arith, length-append, le_refl}
use Rattle.std.specs.List.{AllByRecursion}
use Rattle.route_table.proofs.TableLaws.{Some-same, None-Some}
use Rattle.router_core.specs.Machine.{State}
use Rattle.router_core.specs.declared.reconfiguring.Change.{Change}
use Rattle.ripng_world.specs.declared.event.Sent.{Sent}
use Rattle.ripng_world.specs.Network.{Network, AreLinked}
use Rattle.ripng_world.specs.Rounds.{IsDueTick, moment_of, router_of}
use Rattle.ripng_world.specs.World as world
use Rattle.ripng_world.specs.World.{World, Happens}
use Rattle.ripng_world.proofs.Members.{At, at_from_contains}
use Rattle.ripng_phases.specs.Minutes.{Timed, IsPromptDelivery, untimed}
use Rattle.ripng_phases.specs.Phases.{reached}
use Rattle.ripng_phases.proofs.Along.{contains_from}
use Rattle.ripngd_engine.specs.Run.{Machine}
use Rattle.ripngd_theorems.specs.Daemons.{Happened}
use Rattle.ripngd_theorems.specs.Links.{handed_by, all_handed}
use Rattle.ripngd_theorems.specs.OnTime.{AreOnTime, Comes, Dated, GoOn, GivesCopy, HappenFrom, IsRegular, undated}
use Rattle.ripngd_theorems.proofs.Deeds.{Agrees, IsEventOf, IsStateOf, IsStepOf, world_after}
use Rattle.ripngd_theorems.proofs.Events.{IsOwnTick, gift_of, plain_event, tick_of}
use Rattle.ripngd_theorems.proofs.Paced.{ComeInTime, IsSetBy, IsTickAt}
use Rattle.ripngd_theorems.proofs.Pairs.{Paired, all_handed_on, dated_of, dated_on, deeds_of, history_of, old_deeds, split_filter, timed, timed_when}
use Rattle.ripngd_theorems.proofs.Places.{IsPlace, after_all, count_by_then, dated_split, delivered_here, happen_first, in_history, located, pairs, place_at, plain_here, tick_here, timed_is, timed_split, up_here}
use Rattle.ripngd_theorems.proofs.Running.{there_is}
use Rattle.ripngd_theorems.proofs.Sends.{get_behind}

-- what stands behind a first part
behind_part : (xs ys : List Sent) (i : ℕ) (x : Sent) → length xs ≤ i → slice_get (xs ++ ys) i ≡ Some x → (k : ℕ) × (i ≡ length xs + k) × (slice_get ys k ≡ Some x)
behind_part xs ys i x far is = (i - length xs, same (length xs) i far, sym (get_behind xs ys (i - length xs)) ∙ ap (slice_get (xs ++ ys)) (sym (same (length xs) i far)) ∙ is)
  where
    same : (n i : ℕ) → n ≤ i → i ≡ n + (i - n)
    same n i e = omega arith

-- an item of a list, and what is before and behind it
cut_here : (xs : List Timed) (t : Timed) → At xs t → (b : List Timed) × (a : List Timed) × (xs ≡ b ++ t ∷ a)
cut_here xs t a = by_place xs a.0 a.1
  where
    by_place : (ys : List Timed) (i : ℕ) → slice_get ys i ≡ Some t → (b : List Timed) × (a : List Timed) × (ys ≡ b ++ t ∷ a)
    by_place [] i is = absurd (None-Some t is)
    by_place (y ∷ ys) zero is = ([], ys, ap (λ z. z ∷ ys) (Some-same y t is))
    by_place (y ∷ ys) (suc i) is = let r = by_place ys i is in (y ∷ r.0, r.1, ap (λ l. y ∷ l) r.2)

module _ (net : Network) (before : List Happened) (daemons : ℕ → Option Machine) (history : List Dated) (start end : ℕ) (daemons' : ℕ → Option Machine)
    (go : GoOn net before daemons history start end daemons') (first : List Sent) (done : List (ℕ × Change)) (w : World) (agrees : Agrees net first daemons (all_handed before) done w) where
  abbrev all : List Paired
  all = (pairs net before daemons history start end daemons' go first done w agrees).pairs

  -- ---- a step of the history, and its deed

  -- where a step stands
  pub record IsStepThere (b : List Timed) (t : Timed) (a : List Timed) : Type 0 where
    pub xs : List Paired
    pub p : Paired
    pub ys : List Paired
    pub parts : all ≡ xs ++ p ∷ ys
    pub before_is : history_of xs ≡ b
    pub step_is : p.step ≡ Some t.step
    pub at_is : p.dated.at ≡ t.at
    pub after_is : history_of ys ≡ a
    pub place : IsPlace net before daemons history start end daemons' go first done w agrees xs p ys
    pub happens : Happens net (reached w (untimed (history_of xs))) t.step.event t.step.answer t.step.after
    pub event : IsEventOf (length first) p.dated.happened.router p.dated.happened.deed.act p.dated.number p.dated.happened.deed.trace t.step.event t.step.answer

  step_there : (b : List Timed) (t : Timed) (a : List Timed) → history_of all ≡ b ++ t ∷ a → IsStepThere b t a
  step_there b t a is =
      let q = split_filter Paired Timed timed all b t a is in
      let ti = timed_is q.here t q.here_is in
      let k = place_at net before daemons history start end daemons' go first done w agrees q.before q.here q.after q.parts in
      let step = subst (λ o. IsStepOf net (reached w (untimed (history_of q.before))) (length first) q.here.dated.happened.router (k.now q.here.dated.happened.router) q.here.dated.happened.deed q.here.dated.number k.pair.after o) ti.0 k.pair.is in
      record {
        xs = q.before;
        p = q.here;
        ys = q.after;
        parts = q.parts;
        before_is = q.before_is;
        step_is = ti.0;
        at_is = ti.1;
        after_is = q.after_is;
        place = k;
        happens = step.0;
        event = step.1;
      }

  -- ---- clocks

  pub moments : (t : Timed) → Contains (history_of all) t
      → ((go.clocks (router_of t.step.event)).behind + moment_of t.step.event ≤ t.at) × (t.at < (go.clocks (router_of t.step.event)).behind + moment_of t.step.event + 500)
  moments t c =
      let s = cut_here (history_of all) t (at_from_contains (history_of all) t c) in
      by (step_there s.0 t s.1 s.2)
    where
      by : {b a : List Timed} → IsStepThere b t a
          → ((go.clocks (router_of t.step.event)).behind + moment_of t.step.event ≤ t.at) × (t.at < (go.clocks (router_of t.step.event)).behind + moment_of t.step.event + 500)
      by k =
          let h = k.p.dated.happened in
          let plain = plain_here net before daemons history start end daemons' go first done w agrees k.xs k.p k.ys k.parts in
          let e = plain_event (length first) h.router h.deed.act k.p.dated.number h.deed.trace t.step.event t.step.answer plain k.event in
          let here = in_history net before daemons history start end daemons' go first done w agrees k.xs k.p k.ys k.parts in
          let moment = contains_from h.deed.trace.moments (moment_of t.step.event) (subst (λ ns. At ns (moment_of t.step.event)) (sym e.moments) (0, refl)) in
          let kept = (go.clocks h.router).moments k.p.dated (moment_of t.step.event) here refl moment in
          subst (λ n. ((go.clocks (router_of t.step.event)).behind + moment_of t.step.event ≤ n) × (n < (go.clocks (router_of t.step.event)).behind + moment_of t.step.event + 500)) k.at_is
          (subst (λ r. ((go.clocks r).behind + moment_of t.step.event ≤ k.p.dated.at) × (k.p.dated.at < (go.clocks r).behind + moment_of t.step.event + 500)) (sym e.router_is) kept)

  -- ---- daemons tick

  pub ticks : (router from : ℕ) → router < length net → start ≤ from → from + 500 ≤ end
      → IsTickAt (history_of all) router from (from + 500)
  ticks router from low begun room =
      let t = go.ticks router from low begun room in
      let l = located all t.tick (subst (λ ts. Contains ts t.tick) (sym (pairs net before daemons history start end daemons' go first done w agrees).dated_are) t.stands) in
      let k = tick_here net before daemons history start end daemons' go first done w agrees l.before l.here l.after l.parts (ap (λ (d : Dated). d.happened.deed.act) l.dated_is ∙ t.ticks) in
      record {
        before = history_of l.before;
        tick = timed_when l.here.dated.at k.step;
        after = history_of l.after;
        parts = timed_split all l.before l.here l.after l.parts k.step k.step_is;
        now = k.now;
        word = k.word;
        ticks = k.event ∙ ap (λ r. world.Tick r k.now k.word) (ap (λ (d : Dated). d.happened.router) l.dated_is ∙ t.router_is);
        not_before = subst (λ (d : Dated). from ≤ d.at) (sym l.dated_is) t.not_before;
        in_time = subst (λ (d : Dated). d.at < from + 500) (sym l.dated_is) t.in_time;
      }

  -- so each daemon was up at first
  pub set : start + 500 ≤ end → ((router : ℕ) (m : Machine) → router < length net → daemons router ≡ Some m → m.router.regular ≤ m.router.last + 45_000)
      → (router : ℕ) → router < length net → IsSetBy w (go.clocks router).behind start router
  set room wound router low =
      let t = go.ticks router start low (le_refl start) room in
      let l = located all t.tick (subst (λ ts. Contains ts t.tick) (sym (pairs net before daemons history start end daemons' go first done w agrees).dated_are) t.stands) in
      let k = place_at net before daemons history start end daemons' go first done w agrees l.before l.here l.after l.parts in
      let up = up_here net before daemons history start end daemons' go first done w agrees l.before l.here l.after l.parts k in
      let first_is : daemons router ≡ Some up.at_first = ap daemons (sym (ap (λ (d : Dated). d.happened.router) l.dated_is ∙ t.router_is)) ∙ up.first_is in
      let node = there_is net router low in
      let h = agrees.states router node.0 node.1 in
      let same : h.state ≡ up.at_first.router = subst (λ o. IsStateOf o h.state) first_is h.agrees in
      record {
        state = h.state;
        state_is = h.state_is;
        wound = subst (λ (s : State). ((go.clocks router).behind + s.last ≤ start) × (s.regular ≤ s.last + 45_000)) (sym same)
            ((go.clocks router).before up.at_first first_is, wound router up.at_first low first_is);
      }

  -- and at the end
  pub up_then : start + 500 ≤ end → (router : ℕ) → router < length net → (m : Machine) × (daemons' router ≡ Some m)
  up_then room router low =
      let t = go.ticks router start low (le_refl start) room in
      let l = located all t.tick (subst (λ ts. Contains ts t.tick) (sym (pairs net before daemons history start end daemons' go first done w agrees).dated_are) t.stands) in
      let k = place_at net before daemons history start end daemons' go first done w agrees l.before l.here l.after l.parts in
      let up = after_all net before daemons history start end daemons' go first done w agrees l.before l.here l.after l.parts k in
      (up.end, ap daemons' (sym (ap (λ (d : Dated). d.happened.router) l.dated_is ∙ t.router_is)) ∙ up.is_up)

  -- ---- links

  module _ (on_time : AreOnTime net before daemons history start end) where
    -- datagrams of a regular update come
    module _ (b : List Timed) (t : Timed) (a : List Timed) (k : IsStepThere b t a) (router now word : ℕ) (ticked : t.step.event ≡ world.Tick router now word)
        (due : IsDueTick (reached w (untimed b)) (world.Tick router now word)) (room : t.at + 13_000 ≤ end) where
      own : IsOwnTick k.p.dated.happened.router k.p.dated.happened.deed.act k.p.dated.happened.deed.trace router now
      own =
          let h = k.p.dated.happened in
          tick_of (length first) h.router h.deed.act k.p.dated.number h.deed.trace t.step.event t.step.answer router now word
          (plain_here net before daemons history start end daemons' go first done w agrees k.xs k.p k.ys k.parts) k.event ticked

      regular : IsRegular net daemons (undated (dated_of k.xs)) k.p.dated.happened
      regular =
          let r = k.p.dated.happened.router in
          let up = up_here net before daemons history start end daemons' go first done w agrees k.xs k.p k.ys k.parts k.place in
          let h = k.place.agrees_then.states r k.place.pair.node k.place.pair.node_is in
          let same : h.state ≡ up.daemon.router = subst (λ o. IsStateOf o h.state) up.daemon_is h.agrees in
          let there : slice_get (reached w (untimed (history_of k.xs))).states r ≡ Some due.0 =
          ap (λ bs. slice_get (reached w (untimed bs)).states r) k.before_is ∙ ap (slice_get (reached w (untimed b)).states) own.router_is ∙ due.1 in
          let state : due.0 ≡ up.daemon.router = Some-same due.0 h.state (sym there ∙ h.state_is) ∙ same in
          record {
            node = k.place.pair.node;
            node_is = k.place.pair.node_is;
            daemon = up.daemon;
            lived = up.lived;
            ticks = own.ticks;
            now = now;
            moment = own.moment;
            due = subst (λ (s : State). s.regular ≤ max s.last now) state due.2;
          }

      abbrev handed_then : List Sent
      handed_then = all_handed before ++ all_handed (deeds_of k.xs)

      sent_now : t.step.after.sent ≡ (first ++ (all_handed before ++ all_handed (deeds_of k.xs))) ++ handed_by k.p.dated.happened
      sent_now =
          subst (λ o. (world_after (reached w (untimed (history_of k.xs))) o).sent ≡ first ++ ((all_handed before ++ all_handed (deeds_of k.xs)) ++ handed_by k.p.dated.happened)) k.step_is k.place.sent_after
          ∙ sym (append_assoc first (all_handed before ++ all_handed (deeds_of k.xs)) (handed_by k.p.dated.happened))

      -- one of them
      module _ (datagram other iface : ℕ) (d : Sent) (late : length (reached w (untimed b)).sent ≤ datagram) (sent_is : slice_get t.step.after.sent datagram ≡ Some d)
          (linked : AreLinked net d.router d.iface other iface) (elsewhere : (other ≢ d.router) ⊎ (iface ≢ d.iface)) where
        slot : (place : ℕ) × (datagram ≡ length (first ++ (all_handed before ++ all_handed (deeds_of k.xs))) + place) × (slice_get (handed_by k.p.dated.happened) place ≡ Some d)
        slot =
            behind_part (first ++ (all_handed before ++ all_handed (deeds_of k.xs))) (handed_by k.p.dated.happened) datagram d
            (subst (λ n. n ≤ datagram) (ap (λ bs. length (reached w (untimed bs)).sent) (sym k.before_is) ∙ ap length k.place.agrees_then.sent) late)
            (ap (λ ds. slice_get ds datagram) (sym sent_now) ∙ sent_is)

        comes : Comes (dated_of k.ys) (k.p.dated.at + 13_000) (length (all_handed (before ++ undated (dated_of k.xs))) + slot.0) other iface
        comes =
            on_time.updates (dated_of k.xs) k.p.dated (dated_of k.ys) (dated_split net before daemons history start end daemons' go first done w agrees k.xs k.p k.ys k.parts) regular
            (subst (λ n. n + 13_000 ≤ end) (sym k.at_is) room) slot.0 other iface d slot.2 linked elsewhere

        number_is : length first + (length (all_handed (before ++ undated (dated_of k.xs))) + slot.0) ≡ datagram
        number_is =
            count (length first) (length (all_handed (before ++ undated (dated_of k.xs)))) slot.0 (length (first ++ (all_handed before ++ all_handed (deeds_of k.xs)))) datagram
            (length-append first (all_handed before ++ all_handed (deeds_of k.xs)) ∙ ap (λ ds. length first + length ds) (sym (all_handed_on before (deeds_of k.xs)))) slot.1
          where
            count : (a b c n i : ℕ) → n ≡ a + b → i ≡ n + c → a + (b + c) ≡ i
            count a b c n i e f = omega arith

        delivery : IsPromptDelivery a (t.at + 13_000) datagram other iface
        delivery =
            let l = located k.ys comes.given comes.stands in
            let parts : all ≡ (k.xs ++ k.p ∷ l.before) ++ l.here ∷ l.after =
            k.parts ∙ ap (λ zs. k.xs ++ k.p ∷ zs) l.parts ∙ sym (append_assoc k.xs (k.p ∷ l.before) (l.here ∷ l.after)) in
            let gives = subst (λ (z : Dated). GivesCopy z other comes.datagram (length (all_handed (before ++ undated (dated_of k.xs))) + slot.0)) (sym l.dated_is) comes.gives in
            let g = delivered_here net before daemons history start end daemons' go first done w agrees (k.xs ++ k.p ∷ l.before) l.here l.after parts comes.datagram
            (length (all_handed (before ++ undated (dated_of k.xs))) + slot.0) gives.1 gives.2 in
            record {
              before = history_of l.before;
              delivery = timed_when l.here.dated.at g.step;
              after = history_of l.after;
              parts = sym k.after_is ∙ timed_split k.ys l.before l.here l.after l.parts g.step g.step_is;
              moment = g.now;
              event = g.event ∙ same_delivery (length first + (length (all_handed (before ++ undated (dated_of k.xs))) + slot.0)) datagram l.here.dated.happened.router other comes.datagram.iface iface g.now
                  number_is gives.0 comes.iface_is;
              prompt = subst (λ n. l.here.dated.at < n + 13_000) k.at_is (subst (λ (z : Dated). z.at < k.p.dated.at + 13_000) (sym l.dated_is) comes.in_time);
            }
          where
            same_delivery : (i j r s f g n : ℕ) → i ≡ j → r ≡ s → f ≡ g → world.Deliver i r f n ≡ world.Deliver j s g n
            same_delivery i j r s f g n e h l = cc

    pub updates : (b : List Timed) (t : Timed) (a : List Timed) → history_of all ≡ b ++ t ∷ a
        → (router now word : ℕ) → t.step.event ≡ world.Tick router now word → IsDueTick (reached w (untimed b)) (world.Tick router now word) → t.at + 13_000 ≤ end
        → ComeInTime net (reached w (untimed b)) t a
    updates b t a parts router now word ticked due room =
        λ datagram other iface d late sent_is linked elsewhere. delivery b t a (step_there b t a parts) router now word ticked due room datagram other iface d late sent_is linked elsewhere

    -- nothing old comes
    pub recent : (old new : List Timed) (t : Timed) (a : List Timed) → history_of all ≡ (old ++ new) ++ t ∷ a
        → start + 13_000 ≤ t.at → AllByRecursion (λ s. s.at + 13_000 ≤ t.at) old
        → (datagram router iface now : ℕ) → t.step.event ≡ world.Deliver datagram router iface now → length (reached w (untimed old)).sent ≤ datagram
    recent old new t a parts far long_ago datagram router iface now event = by (step_there (old ++ new) t a parts)
      where
        enough : (n c l p d : ℕ) → n ≡ c + l → d ≡ c + p → l ≤ p → n ≤ d
        enough n c l p d e f g = omega arith

        by : IsStepThere (old ++ new) t a → length (reached w (untimed old)).sent ≤ datagram
        by k =
            let h = k.p.dated.happened in
            let g = gift_of (length first) h.router h.deed.act k.p.dated.number h.deed.trace t.step.event t.step.answer datagram router iface now k.event event in
            let split = dated_split net before daemons history start end daemons' go first done w agrees k.xs k.p k.ys k.parts in
            let o = old_deeds 13_000 t.at start k.xs old new k.before_is (happen_first start (dated_of k.xs) (k.p.dated ∷ dated_of k.ys) (subst (HappenFrom start) split go.in_time)) long_ago in
            let le = on_time.recent (dated_of o.before) (dated_of o.after) k.p.dated (dated_of k.ys)
            (split ∙ ap (λ ts. ts ++ k.p.dated ∷ dated_of k.ys) (ap dated_of o.parts ∙ dated_on o.before o.after))
            (subst (λ n. start + 13_000 ≤ n) (sym k.at_is) far)
            (subst (λ n. AllByRecursion (λ (s : Dated). s.at + 13_000 ≤ n) (dated_of o.before)) (sym k.at_is) o.old_are) g.place g.number_is in
            let whole : all ≡ o.before ++ (o.after ++ k.p ∷ k.ys) =
            k.parts ∙ ap (λ zs. zs ++ k.p ∷ k.ys) o.parts ∙ append_assoc o.before o.after (k.p ∷ k.ys) in
            let count = ap (λ bs. length (reached w (untimed bs)).sent) (sym o.before_is) ∙ count_by_then net before daemons history start end daemons' go first done w agrees o.before (o.after ++ k.p ∷ k.ys) whole in
            enough (length (reached w (untimed old)).sent) (length first) (length (all_handed (before ++ deeds_of o.before))) g.place datagram count g.datagram_is le
