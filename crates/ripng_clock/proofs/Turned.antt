-- Turn after turn what is on time stays on time, where nothing is lost.
use Rattle.std.proofs.Common.{◌≡◌, ◌⊎◌, inl, inr, ℕ, zero, suc, ◌+◌, ◌<◌, ◌≤◌, max, Bool, true, false, cond, IsTrue, ◌&&◌, List, [], ◌∷◌, ◌++◌, Contains, map, filter, flat_map, length, Option, Some, None, slice_get, slice_set, refl, ap, sym, subst, ◌∙◌, arith, append_assoc, append-nil, le_refl, le_trans}
use Rattle.std.specs.List.{AllByRecursion}
use Rattle.std.specs.Option.{option_map, unwrap_or}
use Rattle.std.specs.BTreeMap.{get}
use Rattle.std.specs.Ordering.{nat_cmp}
use Rattle.router_core.specs.Machine.{State}
use Rattle.router_core.specs.Waking.{wakes_at}
use Rattle.router_core.specs.declared.answer.Destination.{Destination}
use Rattle.router_core.specs.declared.answer.Destination.TheVariants.{Group, Peer}
use Rattle.ripng_world.specs.AskedRounds.{interfaces_of, is_other}
use Rattle.ripng_world.specs.Labs.{LabValue, link_at}
use Rattle.ripng_world.specs.Network.{Network}
use Rattle.ripng_world.specs.Rounds.{moment_of, router_of}
use Rattle.ripng_world.specs.Watching.{Told}
use Rattle.ripng_world.specs.World.{World, Event, Deliver, Stranger, Tick, Restart, Shutdown, LinkDown, LinkUp, Reconfigure, Happens}
use Rattle.ripng_world.specs.declared.event.Sent.{Sent}
use Rattle.ripng_phases.specs.Making.{TellsSteps}
use Rattle.ripng_phases.specs.Phases.{Step, Takes, events_of, reached}
use Rattle.std.proofs.lemmas.Option.{slice_get_within}
use Rattle.ripng_phases.proofs.Begun.{events_on}
use Rattle.ripng_phases.proofs.Handing.{split_last}
use Rattle.ripng_phases.proofs.Runs.{takes_on}
use Rattle.ripng_phases.proofs.Tells.{tells_take}
use Rattle.ripng_clock.specs.Agenda.{Has, IsFirst, IsRemoved, IsUpTo}
use Rattle.ripng_clock.specs.Carrying.{Asked, AllTakePart, carriage_of, carriage_on, is_carried, prompt, receivers_of}
use Rattle.ripng_clock.specs.Ending.{AreAlarms, HaveSetOut, IsDue, IsNext, alarm_of}
use Rattle.ripng_clock.specs.Passing.{AreInOrder, IsOwn, IsOwnAt}
use Rattle.ripng_clock.specs.Turning.{AreSteps, AreTurns, IsBroughtBy, IsDone, IsStep, IsTurn, Place, comes_to}
use Rattle.ripng_clock.specs.declared.carrying.Carriage.{Carriage}
use Rattle.ripng_clock.specs.declared.due.Due.{Due}
use Rattle.ripng_clock.specs.declared.due.Due.TheVariants.{Comes, Ticks}
use Rattle.ripng_clock.specs.declared.timetable.Timetable.{Timetable}
use Rattle.ripng_clock.proofs.Finishing.{group_receivers, if_group, not_before, wakes_by}
use Rattle.ripng_clock.proofs.OnTime.{AreAhead, AreBroughtTo, AreDelivered, AreFresh, AreInTurn, AreKnown, AreNear, AreNotLate, AreRecent, AreSorted, Come, FromOne, IsBrought, IsSent, ahead_left, ahead_next, brought_on, come_left, come_next, delivered_next, fresh_left, fresh_next, in_turn_next, known_left, known_next, near_later, near_left, near_next, not_late_left, not_late_next, recent_next, sorted_left, sorted_next}
use Rattle.ripng_clock.proofs.Passing.{order_on, order_waits}
use Rattle.ripng_clock.proofs.Regularly.{AreOnTime, AreRegular, AreUpTo, came_on_time, came_regularly, came_up_to, ticked_on_time, ticked_regularly, ticked_up_to}
use Rattle.ripng_clock.proofs.Sendings.{Grows, event_grows, no_fewer, takes_reached}
use Rattle.ripng_clock.proofs.Splitting.{one_of}
use Rattle.ripng_clock.proofs.Times.{set_length}

-- how long a datagram is under way
abbrev pub delay_of : Timetable → LabValue → Sent → ℕ
delay_of timetable lab d = (carriage_of timetable lab d).delay_ms

pub same_carriage : (t u : Timetable) (a b : LabValue) (d : Sent) → t.links ≡ u.links → a.network ≡ b.network → carriage_of t a d ≡ carriage_of u b d
same_carriage t u a b d links nets =
    ap (λ m. unwrap_or (option_map (λ link. unwrap_or (get nat_cmp m link) prompt) (link_at a.network d.router d.iface)) prompt) links
    ∙ ap (λ net. unwrap_or (option_map (λ link. unwrap_or (get nat_cmp u.links link) prompt) (link_at net d.router d.iface)) prompt) nets

module _ {V : Type 0} (takes : V → Told → V → Type 0) (asked : Asked) (start : Place V) (begin : ℕ) where
  abbrev pub net : Network
  net = start.lab.network

  abbrev pub w0 : World
  w0 = start.lab.world

  abbrev pub delay : Sent → ℕ
  delay d = delay_of start.timetable start.lab d

  abbrev pub under_way : Place V → ℕ → ℕ → Type 0
  under_way p t n = Has p.timetable.under_way t n

  -- all is on time where a run stands, after these steps
  pub record IsOnTime (p : Place V) (steps : List Step) : Type 0 where
    pub network : p.lab.network ≡ net
    pub links : p.timetable.links ≡ start.timetable.links
    pub taken : Takes net w0 steps p.lab.world
    pub order : AreInOrder begin (events_of steps) p.moment
    pub begun : begin ≤ p.moment
    pub next_is : p.next ≡ length p.lab.world.sent
    pub many : length p.lab.world.states ≡ length net
    pub known : AreKnown net w0 begin delay p.lab.world (under_way p)
    pub near : AreNear net w0 begin delay p.lab.world p.moment (under_way p)
    pub sorted : AreSorted net w0 begin delay p.lab.world (under_way p)
    pub not_late : AreNotLate net w0 begin delay p.moment (under_way p)
    pub delivered : AreDelivered net w0 begin delay p.lab.world steps
    pub ahead : AreAhead net w0 begin delay p.lab.world steps (under_way p)
    pub in_turn : AreInTurn net w0 begin delay p.lab.world steps
    pub fresh : AreFresh net w0 begin delay steps (under_way p)
    pub recent : AreRecent net w0 begin delay steps
    pub come : Come net w0 begin delay (group_receivers net) steps (under_way p)
    pub up_to : AreUpTo p.lab.world p.moment
    pub on_time : AreOnTime begin p.lab.world p.moment
    pub regular : AreRegular begin w0 steps p.lab.world

  -- what comes in a step is the first of what is under way, and due
  abbrev pub IsHead : Place V → Step → Type 0
  IsHead p x = (n r i m : ℕ) → x.event ≡ Deliver n r i m → (t : ℕ) × Has p.timetable.under_way t n × ((t' n' : ℕ) → Has p.timetable.under_way t' n' → IsUpTo t n t' n') × (t ≤ p.moment)

  module _ (short : (d : Sent) → delay d < 15_000) (all : (d : Sent) (n : ℕ) (lab : LabValue) → lab.network ≡ net → n < length lab.world.sent → slice_get lab.world.sent n ≡ Some d → IsTrue (is_carried asked lab n d)) where
    -- ---- a step

    module _ (p : Place V) (steps : List Step) (is : IsOnTime p steps) (x : Step) (p' : Place V) (does : IsStep takes asked p x p') (head : IsHead p x) where
      happens : Happens net p.lab.world x.event x.answer x.after
      happens = subst (λ n. Happens n p.lab.world x.event x.answer x.after) is.network does.tells.2

      after_is : x.after ≡ p'.lab.world
      after_is = sym (ap (λ v. v.0) does.tells.5)

      grows : Grows p.lab.world p'.lab.world
      grows = subst (Grows p.lab.world) after_is (event_grows net p.lab.world x.after x.event x.answer happens)

      same_net : p'.lab.network ≡ net
      same_net = does.network ∙ is.network

      kept : (t n : ℕ) → under_way p t n → under_way p' t n
      kept t n has = does.set_out.kept t n has

      delay_is : (d : Sent) → (carriage_of p.timetable p'.lab d).delay_ms ≡ delay d
      delay_is d = ap (λ (c : Carriage). c.delay_ms) (same_carriage p.timetable start.timetable p'.lab start.lab d is.links same_net)

      next_now : p'.next ≡ length p'.lab.world.sent
      next_now = let a = is.next_is in let b = does.next_is in let c = no_fewer p.lab.world p'.lab.world grows in omega (arith, a, b, c)

      set : (n : ℕ) (d : Sent) → length p.lab.world.sent ≤ n → IsSent p'.lab.world n d → under_way p' (p.moment + delay d) n
      set n d late sent =
          subst (λ k. Has p'.timetable.under_way (p.moment + k) n) (delay_is d)
          (does.set_out.set n d (subst (λ k. k ≤ n) (sym is.next_is) late) (subst (λ k. n < k) (sym next_now) (within n d sent)) sent (all d n p'.lab same_net (within n d sent) sent))
        where
          within : (n : ℕ) (d : Sent) → slice_get p'.lab.world.sent n ≡ Some d → n < length p'.lab.world.sent
          within n d at = slice_get_within p'.lab.world.sent n d at

      only : (t n : ℕ) → under_way p' t n → under_way p t n ⊎ ((length p.lab.world.sent ≤ n) × (n < length p'.lab.world.sent) × ((d : Sent) → IsSent p'.lab.world n d → t ≡ p.moment + delay d))
      only t n has = elim (does.set_out.only t n has) [
        | inl old ↦ inl old
        | inr new ↦ inr (subst (λ k. k ≤ n) is.next_is new.0, subst (λ k. n < k) next_now new.1, λ d at. new.2 d at ∙ ap (λ k. p.moment + k) (delay_is d))
      ]

      alike : (d d' : Sent) → FromOne d d' → delay d ≡ delay d'
      alike d d' one =
          ap (λ router. (unwrap_or (option_map (carriage_on start.timetable) (link_at net router d.iface)) prompt).delay_ms) one.0
          ∙ ap (λ iface. (unwrap_or (option_map (carriage_on start.timetable) (link_at net d'.router iface)) prompt).delay_ms) one.1

      near' : AreNear net w0 begin delay p'.lab.world p.moment (under_way p')
      near' = near_next net w0 begin delay steps p.lab.world is.taken (under_way p) p.moment x p'.lab.world grows after_is does.own.1 (under_way p') kept set only short alike is.known is.near

      taken' : Takes net w0 (steps ++ x ∷ []) p'.lab.world
      taken' = takes_on net steps (x ∷ []) w0 p.lab.world p'.lab.world is.taken
          (subst (λ n. Takes n p.lab.world (x ∷ []) p'.lab.world) is.network (tells_take takes p.lab.network (x ∷ []) (p.lab.world, p.watch) (p'.lab.world, p'.watch) does.tells))

      as_many : (e : Event) → Happens net p.lab.world e x.answer x.after → IsOwn asked e → length p'.lab.world.states ≡ length p.lab.world.states
      as_many (Tick router now word) m own = ap (λ w. length w.states) (sym after_is) ∙ ap length m.states ∙ set_length p.lab.world.states router m.new
      as_many (Deliver datagram router iface now) d own = ap (λ w. length w.states) (sym after_is) ∙ ap length d.moves.states ∙ set_length p.lab.world.states router d.moves.new
      as_many (Stranger router y) m own = absurd own
      as_many (Restart router now) m own = absurd own
      as_many (Shutdown router now) m own = absurd own
      as_many (LinkDown router now iface) m own = absurd own
      as_many (LinkUp router now iface) m own = absurd own
      as_many (Reconfigure router now change) m own = absurd own

      regular' : (e : Event) → x.event ≡ e → IsOwn asked e → moment_of e ≡ p.moment → AreUpTo p'.lab.world p.moment × AreOnTime begin p'.lab.world p.moment × AreRegular begin w0 (steps ++ x ∷ []) p'.lab.world
      regular' (Tick router now word) event own at =
          let here = sym (takes_reached net steps w0 p.lab.world is.taken) in
          let m : Happens net p.lab.world (Tick router p.moment word) x.answer p'.lab.world =
          subst (λ w. Happens net p.lab.world (Tick router p.moment word) x.answer w) after_is (subst (λ e. Happens net p.lab.world e x.answer x.after) (event ∙ ap (λ k. Tick router k word) at) happens) in
          let tick = event ∙ ap (λ k. Tick router k word) at in (
            ticked_up_to begin w0 p.lab.world p'.lab.world steps here p.moment is.up_to router word x tick net x.answer m,
            ticked_on_time begin w0 p.lab.world p'.lab.world steps here p.moment is.up_to router word x tick net x.answer m is.on_time,
            ticked_regularly begin w0 p.lab.world p'.lab.world steps here p.moment is.up_to router word x tick net x.answer m is.on_time is.regular,
          )
      regular' (Deliver datagram router iface now) event own at =
          let here = sym (takes_reached net steps w0 p.lab.world is.taken) in
          let d : Happens net p.lab.world (Deliver datagram router iface p.moment) x.answer p'.lab.world =
          subst (λ w. Happens net p.lab.world (Deliver datagram router iface p.moment) x.answer w) after_is
          (subst (λ e. Happens net p.lab.world e x.answer x.after) (event ∙ ap (λ k. Deliver datagram router iface k) at) happens) in (
            came_up_to begin w0 p.lab.world p'.lab.world steps here p.moment is.up_to datagram router iface x net x.answer d,
            came_on_time begin w0 p.lab.world p'.lab.world steps here p.moment is.up_to datagram router iface x net x.answer d is.on_time,
            came_regularly begin w0 p.lab.world p'.lab.world steps here p.moment is.up_to datagram router iface x net x.answer d is.regular,
          )
      regular' (Stranger router y) event own at = absurd own
      regular' (Restart router now) event own at = absurd own
      regular' (Shutdown router now) event own at = absurd own
      regular' (LinkDown router now iface) event own at = absurd own
      regular' (LinkUp router now iface) event own at = absurd own
      regular' (Reconfigure router now change) event own at = absurd own

      after_step : IsOnTime (record p' { moment = p.moment }) (steps ++ x ∷ [])
      after_step =
          let r = regular' x.event refl does.own.0 does.own.1 in
          record {
            network = same_net;
            links = does.set_out.links ∙ is.links;
            taken = taken';
            order = subst (λ es. AreInOrder begin es p.moment) (sym (events_on steps (x ∷ []))) (order_on begin (events_of steps) p.moment x.event is.order does.own.1);
            begun = is.begun;
            next_is = next_now;
            many = as_many x.event happens does.own.0 ∙ is.many;
            known = known_next net w0 begin delay steps p.lab.world is.taken (under_way p) p.moment x p'.lab.world grows after_is does.own.1 (under_way p') kept set only short alike is.known;
            near = near';
            sorted = sorted_next net w0 begin delay steps p.lab.world is.taken (under_way p) p.moment x p'.lab.world grows after_is does.own.1 (under_way p') kept set only short alike is.known is.near is.sorted;
            not_late = not_late_next net w0 begin delay steps p.lab.world is.taken (under_way p) p.moment x p'.lab.world grows after_is does.own.1 (under_way p') kept set only short alike is.known is.not_late;
            delivered = delivered_next net w0 begin delay steps p.lab.world is.taken (under_way p) p.moment x p'.lab.world grows after_is does.own.1 (under_way p') kept set only short alike is.known is.delivered is.sorted head;
            ahead = ahead_next net w0 begin delay steps p.lab.world is.taken (under_way p) p.moment x p'.lab.world grows after_is does.own.1 (under_way p') kept set only short alike is.known is.delivered is.sorted head is.ahead;
            in_turn = in_turn_next net w0 begin delay steps p.lab.world is.taken (under_way p) p.moment x p'.lab.world grows after_is does.own.1 (under_way p') kept set only short alike is.known is.delivered is.sorted head is.ahead is.in_turn;
            fresh = fresh_next net w0 begin delay steps p.lab.world is.taken (under_way p) p.moment x p'.lab.world grows after_is does.own.1 (under_way p') kept set only short alike is.known near' is.fresh;
            recent = recent_next net w0 begin delay steps p.lab.world is.taken (under_way p) p.moment x p'.lab.world grows after_is does.own.1 (under_way p') kept set only short alike is.known is.delivered is.sorted head is.not_late is.fresh is.recent;
            come = come_next net w0 begin delay steps p.lab.world is.taken (under_way p) p.moment x p'.lab.world grows after_is does.own.1 (under_way p') kept set only short alike is.known (group_receivers net) is.come;
            up_to = r.0;
            on_time = r.1;
            regular = r.2;
          }

      pub on_step : IsOnTime p' (steps ++ x ∷ [])
      on_step = subst (λ k. IsOnTime (record p' { moment = k }) (steps ++ x ∷ [])) (sym does.moment_is) after_step

      -- and it brings its datagram to its interface
      pub brought_next : (rs : List (ℕ × ℕ)) (n : ℕ) (at : ℕ × ℕ) → x.event ≡ comes_to n p.moment at → n < length p.lab.world.sent
          → AreBroughtTo net w0 begin delay (λ d. rs) steps n p.moment → AreBroughtTo net w0 begin delay (λ d. rs ++ at ∷ []) (steps ++ x ∷ []) n p.moment
      brought_next rs n at event was brought before y after parts d late sent r i c = by (one_of steps x before y after parts)
        where
          by : ((after ≡ []) × (y ≡ x) × (before ≡ steps)) ⊎ ((rest : List Step) × (after ≡ rest ++ x ∷ []) × (steps ≡ before ++ y ∷ rest)) → IsBrought after n r i p.moment
          by (inl last) =
              let a = subst (λ w. length w.sent ≤ n) (ap (reached w0) last.2 ∙ sym (takes_reached net steps w0 p.lab.world is.taken)) late in
              absurd (omega (arith, a, was))
          by (inr there) =
              subst (λ xs. IsBrought xs n r i p.moment) (sym there.1)
              (elim (split_last rs at (r, i) c) [
                | inl old ↦ brought_on there.0 n r i p.moment x (brought before y there.0 there.2 d late sent r i old)
                | inr new ↦ record { before = there.0; step = x; after = []; parts = refl; event = event ∙ ap (comes_to n p.moment) new }
              ])

    -- ---- time passes, and a datagram has come to all

    module _ (p : Place V) (steps : List Step) (is : IsOnTime p steps) (later : ℕ) (not_before : p.moment ≤ later)
        (datagrams : (t n : ℕ) → under_way p t n → later ≤ max p.moment t) (regulars : (router : ℕ) (s : State) → slice_get p.lab.world.states router ≡ Some s → later ≤ max p.moment s.regular) where
      pub on_waiting : IsOnTime (record p { moment = later }) steps
      on_waiting =
          record {
            network = is.network;
            links = is.links;
            taken = is.taken;
            order = order_waits begin (events_of steps) p.moment later not_before is.order;
            begun = le_trans is.begun not_before;
            next_is = is.next_is;
            many = is.many;
            known = is.known;
            near = near_later net w0 begin delay p.lab.world p.moment later (under_way p) not_before is.near;
            sorted = is.sorted;
            not_late = λ t n has. let a = datagrams t n has in let b = is.not_late t n has in omega (arith, a, b);
            delivered = is.delivered;
            ahead = is.ahead;
            in_turn = is.in_turn;
            fresh = is.fresh;
            recent = is.recent;
            come = is.come;
            up_to = λ router s at. le_trans (is.up_to router s at) not_before;
            on_time = λ router s at. let a = regulars router s at in let b = is.on_time router s at in omega (arith, a, b);
            regular = is.regular;
          }

    module _ (p : Place V) (steps : List Step) (is : IsOnTime p steps) (timetable : Timetable) (time number : ℕ) (removed : IsRemoved p.timetable.under_way time number timetable.under_way)
        (links : timetable.links ≡ p.timetable.links) (has : Has p.timetable.under_way time number) (due : time ≤ p.moment)
        (brought : AreBroughtTo net w0 begin delay (group_receivers net) steps number p.moment) where
      left : (t n : ℕ) → Has timetable.under_way t n → Has p.timetable.under_way t n
      left t n h = removed.only t n h

      under_way' : ℕ → ℕ → Type 0
      under_way' t n = Has timetable.under_way t n

      pub on_removed : IsOnTime (record p { timetable = timetable }) steps
      on_removed =
          record {
            network = is.network;
            links = links ∙ is.links;
            taken = is.taken;
            order = is.order;
            begun = is.begun;
            next_is = is.next_is;
            many = is.many;
            known = known_left net w0 begin delay (under_way p) (λ t n. Has timetable.under_way t n) left p.lab.world is.known;
            near = near_left net w0 begin delay (under_way p) (λ t n. Has timetable.under_way t n) left p.lab.world p.moment is.near;
            sorted = sorted_left net w0 begin delay (under_way p) (λ t n. Has timetable.under_way t n) left p.lab.world is.sorted;
            not_late = not_late_left net w0 begin delay (under_way p) (λ t n. Has timetable.under_way t n) left p.moment is.not_late;
            delivered = is.delivered;
            ahead = ahead_left net w0 begin delay (under_way p) (λ t n. Has timetable.under_way t n) left p.lab.world steps is.ahead;
            in_turn = is.in_turn;
            fresh = fresh_left net w0 begin delay (under_way p) (λ t n. Has timetable.under_way t n) left steps is.fresh;
            recent = is.recent;
            come = come_left net w0 begin delay (under_way p) (λ t n. Has timetable.under_way t n) left (group_receivers net) steps time number p.moment removed.kept (is.not_late time number has) due
                (λ before x after parts. not_before begin steps p.moment is.order before x after parts) brought is.come;
            up_to = is.up_to;
            on_time = is.on_time;
            regular = is.regular;
          }
