-- A phase that is under way goes on: time passes, a router ticks, a datagram is handed on.
use Rattle.std.proofs.Common.{◌≡◌, ◌≢◌, ◌⊎◌, inl, inr, ℕ, ◌+◌, ◌<◌, ◌≤◌, IsTrue, List, [], ◌∷◌, ◌++◌, filter, length, Contains, Some, slice_get, max, refl, ap, sym, subst, ◌∙◌, arith, append-nil, append_assoc, le_refl, le_trans, map, Bool}
use Rattle.std.specs.List.{AllByRecursion}
use Rattle.std.proofs.lemmas.Option.{slice_get_within}
use Rattle.router_core.specs.Machine.{State}
use Rattle.ripng_world.specs.AskedRounds.{interfaces_of, is_other, pair_at, pairs_since}
use Rattle.ripng_world.specs.Labs.{LabValue}
use Rattle.ripng_world.specs.Network.{Network, AreLinked}
use Rattle.ripng_world.specs.Rounds.{IsDueTick}
use Rattle.ripng_world.specs.Watching.{Told, WatchedRun, heard}
use Rattle.ripng_world.specs.World.{World, Event, Deliver, Stranger, Tick, Restart, Shutdown, LinkDown, LinkUp, Reconfigure}
use Rattle.ripng_world.specs.declared.lab.delivering.Pair.{Pair}
use Rattle.ripng_world.specs.declared.event.Sent.{Sent}
use Rattle.ripng_world.proofs.Among.{contains_at, in_map}
use Rattle.ripng_world.proofs.AskedSynchronous.{to_pairs}
use Rattle.ripng_world.proofs.Members.{At}
use Rattle.ripng_phases.specs.Making.{TellsSteps, IsRising, IsInMinute, IsHandedOn, IsUpdateTold, IsUnderway, IsKept, IsAdded, IsDeliveryAt, IsHanded}
use Rattle.ripng_phases.specs.Phases.{Step, Takes, events_of, reached}
use Rattle.ripng_phases.specs.declared.acting.Course.{Course}
use Rattle.ripng_phases.specs.declared.acting.Update.{Update}
use Rattle.ripng_phases.proofs.Begun.{events_on}
use Rattle.ripng_phases.proofs.Runs.{takes_rest, takes_reached}
use Rattle.ripng_phases.proofs.Tells.{tells_on, tells_take, tells_one, contains_left, contains_right, all_on, all_of, rising_on, rising_one}
use Rattle.ripng_phases.proofs.Updating.{takes_grows, still_sent, no_fewer}

-- each other interface of the link receives it
pub is_receiver : (net : Network) (d : Sent) (router iface : ℕ) → AreLinked net d.router d.iface router iface → (router ≢ d.router) ⊎ (iface ≢ d.iface) → Contains (filter (is_other net d) (interfaces_of net)) (router, iface)
is_receiver net d router iface linked elsewhere =
    let at : At (pairs_since net 0 (d ∷ [])) (pair_at 0 (router, iface)) = to_pairs net 0 (d ∷ []) 0 router iface d (omega arith) refl linked elsewhere in
    let one : pairs_since net 0 (d ∷ []) ≡ map (pair_at 0) (filter (is_other net d) (interfaces_of net)) = append-nil (map (pair_at 0) (filter (is_other net d) (interfaces_of net))) in
    let m = in_map (pair_at 0) (filter (is_other net d) (interfaces_of net)) (pair_at 0 (router, iface)) (subst (λ (ps : List Pair). At ps (pair_at 0 (router, iface))) one at) in
    subst (λ (r : ℕ × ℕ). Contains (filter (is_other net d) (interfaces_of net)) r) (ap (λ (p : Pair). (p.router, p.iface)) m.2) (contains_at (filter (is_other net d) (interfaces_of net)) m.0 m.1)

-- what was told goes on, as more is handed on
pub told_on : (net : Network) (w : World) (steps more : List Step) (router : ℕ) (u : Update) (next next' : ℕ) (told : IsUpdateTold net w steps router u next)
    → ((datagram : ℕ) (d : Sent) → next ≤ datagram → datagram < next' → u.first ≤ datagram → slice_get told.tick.after.sent datagram ≡ Some d → IsHandedOn net (events_of more) datagram d)
    → IsUpdateTold net w (steps ++ more) router u next'
told_on net w steps more router u next next' told later =
    record {
      before = told.before;
      tick = told.tick;
      after = told.after ++ more;
      parts = ap (λ (xs : List Step). xs ++ more) told.parts ∙ append_assoc told.before (told.tick ∷ told.after) more;
      now = told.now;
      word = told.word;
      ticks = told.ticks;
      due = told.due;
      first_is = told.first_is;
      end_is = told.end_is;
      handed_on = handed;
    }
  where
    split : (a b : ℕ) → (a < b) ⊎ (b ≤ a)
    split a b = grind arith

    add : (e : Event) → Contains (events_of told.after) e ⊎ Contains (events_of more) e → Contains (events_of (told.after ++ more)) e
    add e (inl c) = subst (λ (es : List Event). Contains es e) (sym (events_on told.after more)) (contains_left (events_of told.after) (events_of more) e c)
    add e (inr c) = subst (λ (es : List Event). Contains es e) (sym (events_on told.after more)) (contains_right (events_of told.after) (events_of more) e c)

    handed : (datagram : ℕ) (d : Sent) → u.first ≤ datagram → datagram < next' → slice_get told.tick.after.sent datagram ≡ Some d → IsHandedOn net (events_of (told.after ++ more)) datagram d
    handed datagram d first before is to iface linked elsewhere =
        elim (split datagram next) [
          | inl old ↦ let h = told.handed_on datagram d first old is to iface linked elsewhere in (h.0, add (Deliver datagram to iface h.0) (inl h.1))
          | inr new ↦ let h = later datagram d new before first is to iface linked elsewhere in (h.0, add (Deliver datagram to iface h.0) (inr h.1))
        ]

-- nothing more is handed on
pub told_still : (net : Network) (w : World) (steps more : List Step) (router : ℕ) (u : Update) (next : ℕ) → IsUpdateTold net w steps router u next → IsUpdateTold net w (steps ++ more) router u next
told_still net w steps more router u next told =
    told_on net w steps more router u next next told (λ datagram d late early first is. absurd (no datagram next late early))
  where
    no : (a b : ℕ) → b ≤ a → a < b → ⊥
    no a b e f = omega arith

-- deliveries at one moment of a minute
pub minute_of : (begin datagram moment : ℕ) → begin ≤ moment → moment < begin + 60_000 → (events : List Event) → AllByRecursion (IsDeliveryAt datagram moment) events → AllByRecursion (IsInMinute begin) events
minute_of begin datagram moment not_before in_time events all = all_of (IsDeliveryAt datagram moment) (IsInMinute begin) (λ e d. by e d) events all
  where
    by : (e : Event) → IsDeliveryAt datagram moment e → IsInMinute begin e
    by (Deliver d r i n) k = (subst (λ (m : ℕ). begin ≤ m) (sym k.1) not_before, subst (λ (m : ℕ). m < begin + 60_000) (sym k.1) in_time)
    by (Stranger r x) k = absurd k
    by (Tick r n w) k = absurd k
    by (Restart r n) k = absurd k
    by (Shutdown r n) k = absurd k
    by (LinkDown r n on) k = absurd k
    by (LinkUp r n on) k = absurd k
    by (Reconfigure r n c) k = absurd k

module _ {V : Type 0} (t : V → Told → V → Type 0) (s : LabValue × V) (first begin : ℕ) where
  -- time passes
  pub waits : (course course' : Course) (a : LabValue × V) → IsUnderway t s first begin course a → course' ≡ record course { moment = course'.moment } → course.moment ≤ course'.moment
      → (course.moment < course.end → course'.moment < course.end) → IsUnderway t s first begin course' a
  waits course course' a is same later inside =
      let in_time : course'.moment < begin + 60_000 = subst (λ (n : ℕ). course'.moment < n) is.ends (inside (subst (λ (n : ℕ). course.moment < n) (sym is.ends) is.in_time)) in
      subst (λ (c : Course). IsUnderway t s first begin c a) (sym same)
      (record {
        network = is.network;
        steps = is.steps;
        tells = is.tells;
        in_minute = is.in_minute;
        in_order = is.in_order;
        ends = is.ends;
        not_before = le_trans is.not_before later;
        in_time = in_time;
        updates = is.updates;
        begun = is.begun;
        sent = is.sent;
        next_in = is.next_in;
      })

  module _ (course : Course) (a b : LabValue × V) (is : IsUnderway t s first begin course a) (same : b.0.network ≡ a.0.network) (more : List Step)
      (tells : TellsSteps t a.0.network (a.0.world, a.1) more (b.0.world, b.1)) where
    here_tells : TellsSteps t s.0.network (a.0.world, a.1) more (b.0.world, b.1)
    here_tells = subst (λ (net : Network). TellsSteps t net (a.0.world, a.1) more (b.0.world, b.1)) is.network tells

    pub all_tells : TellsSteps t s.0.network (s.0.world, s.1) (is.steps ++ more) (b.0.world, b.1)
    all_tells = tells_on t s.0.network is.steps more (s.0.world, s.1) (a.0.world, a.1) (b.0.world, b.1) is.tells here_tells

    pub all_minute : AllByRecursion (IsInMinute begin) (events_of more) → AllByRecursion (IsInMinute begin) (events_of (is.steps ++ more))
    all_minute minute = subst (AllByRecursion (IsInMinute begin)) (sym (events_on is.steps more)) (all_on (IsInMinute begin) (events_of is.steps) (events_of more) is.in_minute minute)

    pub all_order : (next : ℕ) → IsRising course.next (events_of more) next → IsRising first (events_of (is.steps ++ more)) next
    all_order next rising = subst (λ (es : List Event). IsRising first es next) (sym (events_on is.steps more)) (rising_on first (events_of is.steps) course.next (events_of more) next is.in_order rising)

    pub more_sent : length a.0.world.sent ≤ length b.0.world.sent
    more_sent = no_fewer a.0.world b.0.world (takes_grows s.0.network more a.0.world b.0.world (tells_take t s.0.network more (a.0.world, a.1) (b.0.world, b.1) here_tells))

  -- a router ticks
  module _ (course : Course) (a b : LabValue × V) (is : IsUnderway t s first begin course a) (router word : ℕ) (same : b.0.network ≡ a.0.network)
      (run : WatchedRun t heard a.0.network (a.0.world, a.1) (Tick router course.moment word ∷ []) (b.0.world, b.1)) where
    one : (x : Step) × (x.event ≡ Tick router course.moment word) × TellsSteps t a.0.network (a.0.world, a.1) (x ∷ []) (b.0.world, b.1)
    one = tells_one t a.0.network (Tick router course.moment word) tt (a.0.world, a.1) (b.0.world, b.1) run

    minute : AllByRecursion (IsInMinute begin) (events_of (one.0 ∷ []))
    minute = subst (λ (e : Event). AllByRecursion (IsInMinute begin) (e ∷ [])) (sym one.1) ((is.not_before, is.in_time), tt)

    rising : IsRising course.next (events_of (one.0 ∷ [])) course.next
    rising = subst (λ (e : Event). IsRising course.next (e ∷ []) course.next) (sym one.1) (le_refl course.next)

    grown : length a.0.world.sent ≤ length b.0.world.sent
    grown = more_sent course a b is same (one.0 ∷ []) one.2

    pub nudged : IsUnderway t s first begin course b
    nudged =
        record {
          network = same ∙ is.network;
          steps = is.steps ++ one.0 ∷ [];
          tells = all_tells course a b is same (one.0 ∷ []) one.2;
          in_minute = all_minute course a b is same (one.0 ∷ []) one.2 minute;
          in_order = all_order course a b is same (one.0 ∷ []) one.2 course.next rising;
          ends = is.ends;
          not_before = is.not_before;
          in_time = is.in_time;
          updates = λ r u at. (told_still s.0.network s.0.world is.steps (one.0 ∷ []) r u course.next (is.updates r u at).0, (is.updates r u at).1);
          begun = is.begun;
          sent = le_trans is.sent grown;
          next_in = le_trans is.next_in grown;
        }

    -- while its regular update is due
    module _ (due : (state : State) × (slice_get a.0.world.states router ≡ Some state) × (state.regular ≤ max state.last course.moment)) (update : Update)
        (first_is : update.first ≡ length a.0.world.sent) (end_is : update.end ≡ length b.0.world.sent) where
      reached_is : a.0.world ≡ reached s.0.world is.steps
      reached_is = takes_reached s.0.network is.steps s.0.world a.0.world (tells_take t s.0.network is.steps (s.0.world, s.1) (a.0.world, a.1) is.tells)

      after_is : b.0.world ≡ one.0.after
      after_is = ap (λ (x : World × V). x.0) one.2.5

      new_told : IsUpdateTold s.0.network s.0.world (is.steps ++ one.0 ∷ []) router update course.next
      new_told =
          record {
            before = is.steps;
            tick = one.0;
            after = [];
            parts = refl;
            now = course.moment;
            word = word;
            ticks = one.1;
            due = subst (λ (w : World). IsDueTick w (Tick router course.moment word)) reached_is due;
            first_is = first_is ∙ ap (λ (w : World). length w.sent) reached_is;
            end_is = end_is ∙ ap (λ (w : World). length w.sent) after_is;
            handed_on = λ datagram d since before at. absurd (no datagram update.first course.next (length a.0.world.sent) since before first_is is.next_in);
          }
        where
          no : (datagram from next sent : ℕ) → from ≤ datagram → datagram < next → from ≡ sent → next ≤ sent → ⊥
          no datagram from next sent p q e r = omega arith

      pub announced : (course' : Course) → course' ≡ record course { told = course'.told; until = update.end } → IsAdded course.told.items router update course'.told.items → IsUnderway t s first begin course' b
      announced course' same_course added =
          subst (λ (c : Course). IsUnderway t s first begin c b) (sym same_course)
          (record {
            network = same ∙ is.network;
            steps = is.steps ++ one.0 ∷ [];
            tells = all_tells course a b is same (one.0 ∷ []) one.2;
            in_minute = all_minute course a b is same (one.0 ∷ []) one.2 minute;
            in_order = all_order course a b is same (one.0 ∷ []) one.2 course.next rising;
            ends = is.ends;
            not_before = is.not_before;
            in_time = is.in_time;
            updates = λ r u at. by r u (added.others r u at);
            begun = until_end s.0.world is.begun;
            sent = le_from end_is;
            next_in = le_trans is.next_in grown;
          })
        where
          le_from : {x y : ℕ} → x ≡ y → x ≤ y
          le_from {x} {y} e = omega arith

          within : (x until sent sent' end : ℕ) → x ≤ until → until ≤ sent → sent ≤ sent' → end ≡ sent' → x ≤ end
          within x until sent sent' end p q r e = omega arith

          until_end : (w : World) → length w.sent ≤ course.until → length w.sent ≤ update.end
          until_end w le = within (length w.sent) course.until (length a.0.world.sent) (length b.0.world.sent) update.end le is.sent grown end_is

          by : (r : ℕ) (u : Update) → ((r ≡ router) × (u ≡ update)) ⊎ (slice_get course.told.items r ≡ Some (Some u))
              → IsUpdateTold s.0.network s.0.world (is.steps ++ one.0 ∷ []) r u course.next × (u.end ≤ update.end)
          by r u (inr old) = (
            told_still s.0.network s.0.world is.steps (one.0 ∷ []) r u course.next (is.updates r u old).0,
            within u.end course.until (length a.0.world.sent) (length b.0.world.sent) update.end (is.updates r u old).1 is.sent grown end_is,
          )
          by r u (inl new) = (
            subst (λ (n : ℕ). IsUpdateTold s.0.network s.0.world (is.steps ++ one.0 ∷ []) n u course.next) (sym new.0)
                (subst (λ (v : Update). IsUpdateTold s.0.network s.0.world (is.steps ++ one.0 ∷ []) router v course.next) (sym new.1) new_told),
            le_from (ap (λ (v : Update). v.end) new.1),
          )

  -- the next datagram is handed on
  module _ (course : Course) (a b : LabValue × V) (is : IsUnderway t s first begin course a) (same : b.0.network ≡ a.0.network) (keeps : Bool) (receivers : List (ℕ × ℕ))
      (h : IsHanded t a.0.network (a.0.world, a.1) course.next course.moment keeps receivers (b.0.world, b.1)) where
    handed_minute : AllByRecursion (IsInMinute begin) (events_of h.steps)
    handed_minute = minute_of begin course.next course.moment is.not_before is.in_time (events_of h.steps) h.only_this

    handed_rising : IsRising course.next (events_of h.steps) (course.next + 1)
    handed_rising = rising_one course.next course.moment (events_of h.steps) h.only_this

    pub handed : (course' : Course) → (IsKept course.told.items course.next → IsTrue keeps)
        → ((d : Sent) → slice_get a.0.world.sent course.next ≡ Some d → receivers ≡ filter (is_other a.0.network d) (interfaces_of a.0.network))
        → course.next < length a.0.world.sent → course' ≡ record course { next = course.next + 1 } → IsUnderway t s first begin course' b
    handed course' kept received here same_course =
        subst (λ (c : Course). IsUnderway t s first begin c b) (sym same_course)
        (record {
          network = same ∙ is.network;
          steps = is.steps ++ h.steps;
          tells = all_tells course a b is same h.steps h.tells;
          in_minute = all_minute course a b is same h.steps h.tells handed_minute;
          in_order = all_order course a b is same h.steps h.tells (course.next + 1) handed_rising;
          ends = is.ends;
          not_before = is.not_before;
          in_time = is.in_time;
          updates = λ r u at. (told_on s.0.network s.0.world is.steps h.steps r u course.next (course.next + 1) (is.updates r u at).0 (all_handed r u at (is.updates r u at).0), (is.updates r u at).1);
          begun = is.begun;
          sent = le_trans is.sent grown;
          next_in = le_trans (one_more here) grown;
        })
      where
        grown : length a.0.world.sent ≤ length b.0.world.sent
        grown = more_sent course a b is same h.steps h.tells

        one_more : {x y : ℕ} → x < y → x + 1 ≤ y
        one_more {x} {y} e = omega arith

        is_next : (datagram next : ℕ) → next ≤ datagram → datagram < next + 1 → datagram ≡ next
        is_next datagram next p q = omega arith

        before_end : (datagram next sent end : ℕ) → datagram ≡ next → datagram < sent → end ≡ sent → next < end
        before_end datagram next sent end e p q = omega arith

        all_handed : (r : ℕ) (u : Update) → slice_get course.told.items r ≡ Some (Some u) → (told : IsUpdateTold s.0.network s.0.world is.steps r u course.next)
            → (datagram : ℕ) (d : Sent) → course.next ≤ datagram → datagram < course.next + 1 → u.first ≤ datagram → slice_get told.tick.after.sent datagram ≡ Some d
            → IsHandedOn s.0.network (events_of h.steps) datagram d
        all_handed r u at told datagram d late early since sent_is to iface linked elsewhere =
            let number : datagram ≡ course.next = is_next datagram course.next late early in
            let is_kept : IsKept course.told.items course.next =
            record {
              router = r;
              update = u;
              update_is = at;
              since = subst (λ (n : ℕ). u.first ≤ n) number since;
              before = before_end datagram course.next (length told.tick.after.sent) u.end number (slice_get_within told.tick.after.sent datagram d sent_is) told.end_is;
            } in
            let all : Takes s.0.network s.0.world (told.before ++ told.tick ∷ told.after) a.0.world =
            subst (λ (xs : List Step). Takes s.0.network s.0.world xs a.0.world) told.parts (tells_take t s.0.network is.steps (s.0.world, s.1) (a.0.world, a.1) is.tells) in
            let rest = takes_rest s.0.network told.before (told.tick ∷ told.after) s.0.world a.0.world all in
            let now_sent : slice_get a.0.world.sent course.next ≡ Some d =
            still_sent told.tick.after a.0.world (takes_grows s.0.network told.after told.tick.after a.0.world rest.3) course.next d (subst (λ (n : ℕ). slice_get told.tick.after.sent n ≡ Some d) number sent_is) in
            let here_linked : AreLinked a.0.network d.router d.iface to iface = subst (λ (net : Network). AreLinked net d.router d.iface to iface) (sym is.network) linked in
            let listed : Contains receivers (to, iface) = subst (λ (rs : List (ℕ × ℕ)). Contains rs (to, iface)) (sym (received d now_sent)) (is_receiver a.0.network d to iface here_linked elsewhere) in (
              course.moment,
              subst (λ (n : ℕ). Contains (events_of h.steps) (Deliver n to iface course.moment)) (sym number) (h.each (kept is_kept) (to, iface) listed),
            )
