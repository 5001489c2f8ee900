-- A history by one true clock is cut into stretches of one length. If each has time for a regular update of every router, they are phases.
use Rattle.std.proofs.Common.{◌≡◌, ◌≢◌, ◌⊎◌, inl, inr, ℕ, zero, suc, ◌+◌, ◌-◌, ◌<◌, ◌≤◌, List, [], ◌∷◌, ◌++◌, length, Contains, Some, slice_get, refl, ap, sym, subst, ◌∙◌, arith, append_assoc, append-nil, le_refl}
use Rattle.std.specs.List.{AllByRecursion}
use Rattle.router_core.specs.Timers.{garbage_time}
use Rattle.ripng_world.specs.Network.{Network, AreLinked}
use Rattle.ripng_world.specs.Rounds.{IsDueTick, router_of, moment_of}
use Rattle.ripng_world.specs.World.{World, Deliver, Tick}
use Rattle.ripng_world.specs.declared.event.Sent.{Sent}
use Rattle.ripng_world.proofs.Members.{At, at_right}
use Rattle.ripng_phases.specs.Minutes.{Timed, AreFrom, IsPromptDelivery, untimed}
use Rattle.ripng_phases.specs.Phases.{Step, Takes, IsCount, IsHeardUpdate, IsMomentIn, IsOvertaken, IsPhase, IsBegun, Before, BegunAfter, before_next, events_of, reached}
use Rattle.ripng_phases.proofs.Along.{contains_from, happens_here}
use Rattle.ripng_phases.proofs.Cutting.{AreBefore, AreNotBefore, IsCut, untimed_on, from_all, cut_at, all_here, in_early, in_late, timed_at}
use Rattle.ripng_phases.proofs.Runs.{takes_first, takes_rest, takes_reached, reached_on}
use Rattle.ripng_phases.proofs.Updating.{Grows, takes_grows, still_sent}

-- a regular update of the router between these moments, of which each datagram comes to every other interface of its link after less
-- than the delay
pub record IsUpdateBetween (net : Network) (w : World) (history : List Timed) (router from until delay : ℕ) : Type 0 where
  pub before : List Timed
  pub tick : Timed
  pub after : List Timed
  pub parts : history ≡ before ++ tick ∷ after
  pub not_before : from ≤ tick.at
  pub in_time : tick.at < until
  pub now : ℕ
  pub word : ℕ
  pub ticks : tick.step.event ≡ Tick router now word
  pub due : IsDueTick (reached w (untimed before)) (Tick router now word)
  pub heard : (datagram other iface : ℕ) (d : Sent)
      → length (reached w (untimed before)).sent ≤ datagram → slice_get tick.step.after.sent datagram ≡ Some d → AreLinked net d.router d.iface other iface
      → (other ≢ d.router) ⊎ (iface ≢ d.iface)
      → IsPromptDelivery after (tick.at + delay) datagram other iface

-- what a history needs: in each stretch of the length `long` every router begins a regular update within `gap`, links take less than
-- `delay`, and two moments of a router less than two stretches apart are less than a garbage time apart by its clock
pub record IsRegular (net : Network) (w : World) (all : List Timed) (start end : ℕ) (w' : World) (long gap delay : ℕ) : Type 0 where
  pub takes : Takes net w (untimed all) w'
  pub in_time : AreFrom start all
  pub ended : AreBefore end all
  pub updates : (router s : ℕ) → router < length net → start ≤ s → s + long ≤ end → IsUpdateBetween net w all router s (s + gap) delay
  pub recent : (old new : List Timed) (t : Timed) (after : List Timed) → all ≡ (old ++ new) ++ t ∷ after → start + delay ≤ t.at → AllByRecursion (λ s. s.at + delay ≤ t.at) old
      → (datagram router iface now : ℕ) → t.step.event ≡ Deliver datagram router iface now → length (reached w (untimed old)).sent ≤ datagram
  pub in_order : IsOvertaken (IsCount w (untimed all)) w (untimed all) → ⊥
  pub near : (low high router x y : ℕ) → high < low + (long + long) → (a b : Timed) → Contains all a → Contains all b → router_of a.step.event ≡ router → router_of b.step.event ≡ router
      → moment_of a.step.event ≡ x → moment_of b.step.event ≡ y → low ≤ a.at → a.at ≤ high → low ≤ b.at → b.at ≤ high → (x < y + garbage_time) × (y < x + garbage_time)

-- n whole stretches, and what has happened since
pub record IsInPhases (net : Network) (w w' : World) (done : List Timed) (past : Before) (n : ℕ) : Type 0 where
  pub phases : List (List Step)
  pub since : List Step
  pub many : length phases ≡ n
  pub are : BegunAfter net past (reached w (untimed done)) phases since w'

-- the length of n stretches
abbrev pub spans : ℕ → ℕ → ℕ
spans long zero = 0
spans long (suc n) = long + spans long n

regroup : (u b l y z : List Step) → u ++ (((b ++ l) ++ y) ++ z) ≡ ((u ++ b) ++ l) ++ (y ++ z)
regroup u b l y z = ap (λ q. u ++ q) (append_assoc (b ++ l) y z) ∙ sym (append_assoc u (b ++ l) (y ++ z)) ∙ ap (λ q. q ++ (y ++ z)) (sym (append_assoc u b l))

module _ (net : Network) (w : World) (all : List Timed) (start end : ℕ) (w' : World) (long gap delay : ℕ) (some : 0 < long) (fits : gap + delay ≤ long)
    (regular : IsRegular net w all start end w' long gap delay) where
  -- a moment of a router, and when it is
  pub record IsMomentAt (from until router x : ℕ) : Type 0 where
    pub timed : Timed
    pub stands : Contains all timed
    pub router_is : router_of timed.step.event ≡ router
    pub moment_is : moment_of timed.step.event ≡ x
    pub after : from ≤ timed.at
    pub before : timed.at < until

  -- what came before a stretch
  pub record IsPastOf (past : Before) (s : ℕ) : Type 0 where
    pub first_ok : (before : List Timed) (t : Timed) (after : List Timed) → all ≡ before ++ t ∷ after → s ≤ t.at → (datagram router iface now : ℕ) → t.step.event ≡ Deliver datagram router iface now → past.first ≤ datagram
    pub counts_ok : (c : ℕ) → past.counts c → IsCount w (untimed all) c
    pub moments_ok : (router x : ℕ) → past.moments router x → (from : ℕ) × (s ≤ from + long) × IsMomentAt from s router x

  -- ---- one stretch

  module _ (done rest : List Timed) (s : ℕ) (whole : all ≡ done ++ rest) (done_before : AreBefore s done) (rest_from : AreFrom s rest) (begun : start ≤ s) where
    cut : IsCut s (s + long) rest
    cut = cut_at s (s + long) rest rest_from

    abbrev early : List Timed
    early = cut.early

    abbrev late : List Timed
    late = cut.late

    abbrev v : World
    v = reached w (untimed done)

    parts : all ≡ done ++ (cut.early ++ cut.late)
    parts = whole ∙ ap (λ xs. done ++ xs) cut.parts

    steps_parts : untimed all ≡ untimed done ++ (untimed cut.early ++ untimed cut.late)
    steps_parts = ap untimed parts ∙ untimed_on done (early ++ late) ∙ ap (λ xs. untimed done ++ xs) (untimed_on early late)

    takes_on : Takes net (reached w (untimed done)) (untimed cut.early ++ untimed cut.late) w'
    takes_on = takes_rest net (untimed done) (untimed early ++ untimed late) w w' (subst (λ xs. Takes net w xs w') steps_parts regular.takes)

    late_far : AreNotBefore (s + long) cut.late
    late_far = from_all (s + long) (s + long) late (le_refl (s + long)) cut.from

    grows_on : Grows (reached (reached w (untimed done)) (untimed cut.early)) (reached w (untimed all))
    grows_on =
        subst (Grows (reached v (untimed early))) (takes_reached net (untimed all) w w' regular.takes)
        (takes_grows net (untimed late) (reached v (untimed early)) w' (takes_rest net (untimed early) (untimed late) v w' takes_on))

    count_on : (c : ℕ) → IsCount (reached w (untimed done)) (untimed cut.early) c → IsCount w (untimed all) c
    count_on c x =
        record {
          before = untimed done ++ x.before;
          after = x.after ++ untimed late;
          parts = steps_parts ∙ ap (λ xs. untimed done ++ (xs ++ untimed late)) x.parts ∙ ap (λ xs. untimed done ++ xs) (append_assoc x.before x.after (untimed late)) ∙ sym (append_assoc (untimed done) x.before (x.after ++ untimed late));
          count_is = x.count_is ∙ ap (λ (q : World). length q.sent) (sym (reached_on (untimed done) x.before w));
        }

    -- one that stands in the stretch
    place : (before : List Timed) (t : Timed) (after : List Timed) → cut.early ≡ before ++ t ∷ after → all ≡ (done ++ before) ++ t ∷ (after ++ cut.late)
    place before t after is =
        parts ∙ ap (λ xs. done ++ (xs ++ late)) is ∙ ap (λ xs. done ++ xs) (append_assoc before (t ∷ after) late) ∙ sym (append_assoc done before (t ∷ (after ++ late)))

    moment_here : (router x : ℕ) → IsMomentIn (untimed cut.early) router x → IsMomentAt s (s + long) router x
    moment_here router x m =
        let t = timed_at early m.event m.happens in
        let all_is = place t.2.0 t.0 t.2.1 t.2.2 in
        record {
          timed = t.0;
          stands = contains_from all t.0 (stands (done ++ t.2.0) t.0 (t.2.1 ++ late) all_is);
          router_is = ap router_of t.1 ∙ m.router_is;
          moment_is = ap moment_of t.1 ∙ m.moment_is;
          after = all_here (λ q. s ≤ q.at) t.2.0 t.0 t.2.1 early t.2.2 cut.not_before;
          before = all_here (λ q. q.at < s + long) t.2.0 t.0 t.2.1 early t.2.2 cut.before;
        }
      where
        stands : (a : List Timed) (t : Timed) (b : List Timed) → all ≡ a ++ t ∷ b → At all t
        stands a t b is = subst (λ xs. At xs t) (sym is) (at_right a (t ∷ b) t (0, refl))

    told : s + long ≤ end → (router : ℕ) → router < length net → IsHeardUpdate net (reached w (untimed done)) (untimed cut.early) router
    told ends router here = by (regular.updates router s here begun ends)
      where
        soon : (t s : ℕ) → t < s + gap → t < s + long
        soon t s e = omega (arith, fits)

        sooner : (d t s : ℕ) → d < t + delay → t < s + gap → d < s + long
        sooner d t s e f = omega (arith, fits)

        by : IsUpdateBetween net w all router s (s + gap) delay → IsHeardUpdate net (reached w (untimed done)) (untimed cut.early) router
        by p =
            let a = in_late done (early ++ late) p.before p.tick p.after (sym parts ∙ p.parts) s p.not_before done_before in
            let b = in_early early late a.0 p.tick p.after a.2 (s + long) (soon p.tick.at s p.in_time) late_far in
            let world : reached w (untimed p.before) ≡ reached v (untimed a.0) = ap (λ xs. reached w (untimed xs)) a.1 ∙ ap (reached w) (untimed_on done a.0) ∙ reached_on (untimed done) (untimed a.0) w in
            record {
              before = untimed a.0;
              tick = p.tick.step;
              after = untimed b.0;
              parts = ap untimed b.1 ∙ untimed_on a.0 (p.tick ∷ b.0);
              now = p.now;
              word = p.word;
              ticks = p.ticks;
              due = subst (λ (q : World). IsDueTick q (Tick router p.now p.word)) world p.due;
              heard = λ datagram other iface d number is linked elsewhere.
                  let k : IsPromptDelivery p.after (p.tick.at + delay) datagram other iface =
                  p.heard datagram other iface d (subst (λ (q : World). length q.sent ≤ datagram) (sym world) number) is linked elsewhere in
                  let c = in_early b.0 late k.before k.delivery k.after (sym b.2 ∙ k.parts) (s + long) (sooner k.delivery.at p.tick.at s k.prompt p.in_time) late_far in (
                    k.moment,
                    subst (Contains (events_of (untimed b.0))) k.event (happens_here (untimed b.0) (untimed k.before) k.delivery.step (untimed c.0) (ap untimed c.1 ∙ untimed_on k.before (k.delivery ∷ c.0))),
                  );
            }

    module _ (past : Before) (ok : IsPastOf past s) where
      stretch_begun : IsBegun net past (reached w (untimed done)) (untimed cut.early) (reached (reached w (untimed done)) (untimed cut.early))
      stretch_begun =
          record {
            takes = takes_first net (untimed early) (untimed late) v w' takes_on;
            recent = λ datagram router iface now c.
                let t = timed_at early (Deliver datagram router iface now) c in
                ok.first_ok (done ++ t.2.0) t.0 (t.2.1 ++ late) (place t.2.0 t.0 t.2.1 t.2.2) (all_here (λ q. s ≤ q.at) t.2.0 t.0 t.2.1 early t.2.2 cut.not_before) datagram router iface now t.1;
            close = λ router x y m k. elim m [ inl x_past ↦ of_past router x y (ok.moments_ok router x x_past) (moment_here router y k) | inr x_now ↦ of_now router x y (moment_here router x x_now) (moment_here router y k) ];
          }
        where
          below : (t u : ℕ) → t < u → t ≤ u - 1
          below t u e = omega arith

          of_now : (router x y : ℕ) → IsMomentAt s (s + long) router x → IsMomentAt s (s + long) router y → (x < y + garbage_time) × (y < x + garbage_time)
          of_now router x y a b =
              regular.near s (s + long) router x y (short s) a.timed b.timed a.stands b.stands a.router_is b.router_is a.moment_is b.moment_is a.after (as_le a.timed.at (s + long) a.before) b.after (as_le b.timed.at (s + long) b.before)
            where
              short : (s : ℕ) → s + long < s + (long + long)
              short s = omega (arith, some)

              as_le : (a b : ℕ) → a < b → a ≤ b
              as_le a b e = omega arith

          of_past : (router x y : ℕ) → ((from : ℕ) × (s ≤ from + long) × IsMomentAt from s router x) → IsMomentAt s (s + long) router y → (x < y + garbage_time) × (y < x + garbage_time)
          of_past router x y a b =
              regular.near a.0 (s + long - 1) router x y (short a.0 s a.1) a.2.timed b.timed a.2.stands b.stands a.2.router_is b.router_is a.2.moment_is b.moment_is
              a.2.after (sooner a.2.timed.at s a.2.before) (later a.0 s b.timed.at a.2.timed.at a.2.after a.2.before b.after) (below b.timed.at (s + long) b.before)
            where
              short : (f s : ℕ) → s ≤ f + long → s + long - 1 < f + (long + long)
              short f s e = omega (arith, some)

              sooner : (t s : ℕ) → t < s → t ≤ s + long - 1
              sooner t s e = omega arith

              later : (f s t q : ℕ) → f ≤ q → q < s → s ≤ t → f ≤ t
              later f s t q e g h = omega arith

      stretch : s + long ≤ end → IsPhase net past (reached w (untimed done)) (untimed cut.early) (reached (reached w (untimed done)) (untimed cut.early))
      stretch ends =
          record {
            takes = stretch_begun.takes;
            told = told ends;
            recent = stretch_begun.recent;
            in_order = λ o. regular.in_order (record {
              before = untimed done ++ o.before;
              later = o.later;
              between = o.between;
              earlier = o.earlier;
              after = o.after ++ untimed late;
              parts = steps_parts ∙ ap (λ xs. untimed done ++ (xs ++ untimed late)) o.parts ∙ regroup (untimed done) o.before (o.later ∷ o.between) (o.earlier ∷ o.after) (untimed late);
              new = o.new;
              old = o.old;
              router = o.router;
              iface = o.iface;
              now = o.now;
              moment = o.moment;
              first = o.first;
              second = o.second;
              new_sent = o.new_sent;
              old_sent = o.old_sent;
              new_is = still_sent (reached v (untimed early)) (reached w (untimed all)) grows_on o.new o.new_sent o.new_is;
              old_is = still_sent (reached v (untimed early)) (reached w (untimed all)) grows_on o.old o.old_sent o.old_is;
              same_router = o.same_router;
              same_iface = o.same_iface;
              count = o.count;
              counted = elim o.counted [ inl x ↦ ok.counts_ok o.count x | inr x ↦ count_on o.count x ];
              old_before = o.old_before;
              new_after = o.new_after;
            });
            close = stretch_begun.close;
          }

      -- and what the next stretch has before it
      past_next : IsPastOf (before_next (reached w (untimed done)) (untimed cut.early)) (s + long)
      past_next =
          record {
            first_ok = λ before t after is far datagram router iface now event.
                let a = in_late done rest before t after (sym whole ∙ is) s (down s t.at far) done_before in
                regular.recent done a.0 t after (is ∙ ap (λ xs. xs ++ t ∷ after) a.1) (begun_long start s t.at begun far) (long_ago t.at far done done_before) datagram router iface now event;
            counts_ok = count_on;
            moments_ok = λ router x m. (s, le_refl (s + long), moment_here router x m);
          }
        where
          begun_long : (a s t : ℕ) → a ≤ s → s + long ≤ t → a + delay ≤ t
          begun_long a s t e f = omega (arith, fits)

          down : (s t : ℕ) → s + long ≤ t → s ≤ t
          down s t e = omega arith

          far_enough : (q s t : ℕ) → q < s → s + long ≤ t → q + delay ≤ t
          far_enough q s t e f = omega (arith, fits)

          long_ago : (t : ℕ) → s + long ≤ t → (xs : List Timed) → AreBefore s xs → AllByRecursion (λ q. q.at + delay ≤ t) xs
          long_ago t far [] b = tt
          long_ago t far (x ∷ xs) b = (far_enough x.at s t b.0 far, long_ago t far xs b.1)

  -- ---- all stretches

  nothing_left : (rest done : List Timed) → all ≡ done ++ rest → (from : ℕ) → end ≤ from → AreFrom from rest → rest ≡ []
  nothing_left [] done whole from far is = refl
  nothing_left (t ∷ rest) done whole from far is = absurd (no t.at end from far is.0 (all_here (λ q. q.at < end) done t rest all whole regular.ended))
    where
      no : (a b c : ℕ) → b ≤ c → c ≤ a → a < b → ⊥
      no a b c e f g = omega arith

  both_before : (a b : ℕ) → a ≤ b → (xs ys : List Timed) → AreBefore a xs → AreBefore b ys → AreBefore b (xs ++ ys)
  both_before a b le [] ys p q = q
  both_before a b le (x ∷ xs) ys p q = (up x.at a b p.0 le, both_before a b le xs ys p.1 q)
    where
      up : (x a b : ℕ) → x < a → a ≤ b → x < b
      up x a b e f = omega arith

  -- less than a stretch is left
  short_rest : (done rest : List Timed) (s : ℕ) (whole : all ≡ done ++ rest) (done_before : AreBefore s done) (rest_from : AreFrom s rest) (begun : start ≤ s) → end ≤ s + long → (past : Before) → IsPastOf past s → IsInPhases net w w' done past 0
  short_rest done rest s whole done_before rest_from begun short past ok =
      let c = cut done rest s whole done_before rest_from begun in
      let joined : all ≡ (done ++ c.early) ++ c.late = parts done rest s whole done_before rest_from begun ∙ sym (append_assoc done c.early c.late) in
      let none : c.late ≡ [] = nothing_left c.late (done ++ c.early) joined (s + long) short c.from in
      let end_is : w' ≡ reached (reached w (untimed done)) (untimed c.early) =
      takes_reached net (untimed all) w w' regular.takes ∙ ap (λ xs. reached w (untimed xs)) (joined ∙ ap (λ xs. (done ++ c.early) ++ xs) none ∙ append-nil (done ++ c.early))
      ∙ ap (reached w) (untimed_on done c.early) ∙ reached_on (untimed done) (untimed c.early) w in
      record {
        phases = [];
        since = untimed c.early;
        many = refl;
        are = subst (IsBegun net past (reached w (untimed done)) (untimed c.early)) (sym end_is) (stretch_begun done rest s whole done_before rest_from begun past ok);
      }

  in_phases : (n over : ℕ) (done rest : List Timed) (s : ℕ) (whole : all ≡ done ++ rest) (done_before : AreBefore s done) (rest_from : AreFrom s rest) (begun : start ≤ s) → s + spans long n + over ≡ end → over ≤ long
      → (past : Before) → IsPastOf past s → IsInPhases net w w' done past n
  in_phases zero over done rest s whole done_before rest_from begun ends little past ok = short_rest done rest s whole done_before rest_from begun (short s over end ends little) past ok
    where
      short : (s o e : ℕ) → s + spans long 0 + o ≡ e → o ≤ long → e ≤ s + long
      short s o e f g = omega arith
  in_phases (suc n) over done rest s whole done_before rest_from begun ends little past ok =
      let c = cut done rest s whole done_before rest_from begun in
      let next = in_phases n over (done ++ c.early) c.late (s + long) (parts done rest s whole done_before rest_from begun ∙ sym (append_assoc done c.early c.late)) (both_before s (s + long) (more s) done c.early done_before c.before) c.from
      (up start s begun) (shift s n over end ends) little (before_next (reached w (untimed done)) (untimed c.early)) (past_next done rest s whole done_before rest_from begun past ok) in
      record {
        phases = untimed c.early ∷ next.phases;
        since = next.since;
        many = ap suc next.many;
        are = (
          reached (reached w (untimed done)) (untimed c.early),
          stretch done rest s whole done_before rest_from begun past ok (room s n over end ends),
          subst (λ q. BegunAfter net (before_next (reached w (untimed done)) (untimed c.early)) q next.phases next.since w') (ap (reached w) (untimed_on done c.early) ∙ reached_on (untimed done) (untimed c.early) w) next.are,
        );
      }
    where
      more : (s : ℕ) → s ≤ s + long
      more s = omega arith

      up : (a b : ℕ) → a ≤ b → a ≤ b + long
      up a b e = omega arith

      room : (s n o e : ℕ) → s + spans long (suc n) + o ≡ e → s + long ≤ e
      room s n o e f = omega arith

      shift : (s n o e : ℕ) → s + spans long (suc n) + o ≡ e → s + long + spans long n + o ≡ e
      shift s n o e f = omega arith

  -- the history is stretches and what has happened since, whatever came before
  pub stretched : (n over : ℕ) → start + spans long n + over ≡ end → over ≤ long → IsInPhases net w w' [] (record { first = 0; counts = λ _. ⊥; moments = λ _ _. ⊥ }) n
  stretched n over ends little =
      in_phases n over [] all start refl tt regular.in_time (le_refl start) ends little (record { first = 0; counts = λ _. ⊥; moments = λ _ _. ⊥ })
      (record { first_ok = λ before t after is far datagram router iface now event. least datagram; counts_ok = λ c x. absurd x; moments_ok = λ router x m. absurd m })
    where
      least : (n : ℕ) → 0 ≤ n
      least n = omega arith
