-- Synchronous rounds that are close are phases.
use Rattle.std.proofs.Common.{◌≡◌, ◌≢◌, ◌⊎◌, inl, inr, ℕ, zero, suc, ◌+◌, ◌<◌, ◌≤◌, true, false, nat_eq, List, [], ◌∷◌, ◌++◌, map, length, All, Contains, Some, slice_get, refl, ap, sym, subst, ◌∙◌, arith, append_assoc, le_trans}
use Rattle.std.specs.List.{AllByRecursion, IsDistinct}
use Rattle.std.proofs.lemmas.Bool.{eq-eqb}
use Rattle.std.proofs.lemmas.List.Elements.{recursion_from_All, All-from_recursion}
use Rattle.std.proofs.lemmas.Map.Keys.{IsDistinct-head, IsDistinct-tail}
use Rattle.std.proofs.lemmas.Option.{slice_get_within}
use Rattle.route_table.proofs.TableLaws.{Some-same, None-Some}
use Rattle.router_core.specs.Machine.{Happening, Ticks}
use Rattle.router_core.specs.Timers.{garbage_time}
use Rattle.router_core.specs.declared.answer.Answer.{Answer}
use Rattle.router_core.specs.declared.answer.Note.{Note}
use Rattle.router_core.specs.declared.answer.NoteKind.TheVariants.{NoMemory}
use Rattle.router_core.specs.declared.answer.Outgoing.{Outgoing}
use Rattle.ripng_world.specs.Network.{Network}
use Rattle.ripng_world.specs.Rounds.{Round, IsDueTick, IsDeliveryOf, IsMomentOf, IsSynchronousRound, AllTick, AllHeard, SynchronousRounds, router_of}
use Rattle.ripng_world.specs.World.{World, Event, Deliver, Stranger, Tick, Restart, Shutdown, LinkDown, LinkUp, Reconfigure, RouterMoves, Happens, sent_by}
use Rattle.ripng_world.specs.declared.event.Sent.{Sent}
use Rattle.ripng_world.proofs.Each.{each_at_place}
use Rattle.ripng_world.proofs.Members.{At, at_right, at_from_contains, get_right, split_at}
use Rattle.ripng_phases.specs.Phases.{Step, Takes, IsCount, IsHeardUpdate, IsMomentIn, IsPhase, Before, PhasesAfter, AreCloseAfter, AreClose, ArePhases, before_next, events_in, events_of, reached, steps_of}
use Rattle.ripng_phases.proofs.Along.{contains_from, happens_here}
use Rattle.ripng_phases.proofs.Begun.{AreParts, cut, events_on}
use Rattle.ripng_phases.proofs.Lasting.{sent_before}
use Rattle.ripng_phases.proofs.Runs.{takes_on, takes_first, takes_rest, takes_reached}
use Rattle.ripng_phases.proofs.Updating.{Grows, takes_grows, still_sent, no_fewer}

-- ---- the steps of a round

-- each step is a tick of a due update
abbrev AllDue : World → List Step → Type 0
AllDue w [] = Unit {0}
AllDue w (s ∷ steps) = IsDueTick w s.event × AllDue s.after steps

record AreSteps (net : Network) (w : World) (events : List Event) (w' : World) : Type 0 where
  pub steps : List Step
  pub takes : Takes net w steps w'
  pub same : events_of steps ≡ events

tick_steps : (net : Network) (events : List Event) (w w' : World) → AllTick net w events w' → (x : AreSteps net w events w') × AllDue w x.steps
tick_steps net [] w w' is = (record { steps = []; takes = is; same = refl }, tt)
tick_steps net (Tick router now word ∷ events) w w' run =
    let rest = tick_steps net events run.0 w' run.4 in (
      record {
        steps = record { event = Tick router now word; answer = run.1; after = run.0 } ∷ rest.0.steps;
        takes = (tt, run.3, quiet run.3, rest.0.takes);
        same = ap (λ xs. Tick router now word ∷ xs) rest.0.same;
      },
      (run.2, rest.1),
    )
  where
    quiet : RouterMoves w router (Ticks now word) run.1 run.0 → All (λ n. n.kind ≢ NoMemory) run.1.notes
    quiet m = subst (All (λ (n : Note). n.kind ≢ NoMemory)) (sym m.moves.answer_is.notes_are) (All-from_recursion (λ (n : Note). n.kind ≢ NoMemory) [] tt)
tick_steps net (Deliver datagram router iface now ∷ events) w w' run = absurd run.2
tick_steps net (Stranger router x ∷ events) w w' run = absurd run.2
tick_steps net (Restart router now ∷ events) w w' run = absurd run.2
tick_steps net (Shutdown router now ∷ events) w w' run = absurd run.2
tick_steps net (LinkDown router now on ∷ events) w w' run = absurd run.2
tick_steps net (LinkUp router now on ∷ events) w w' run = absurd run.2
tick_steps net (Reconfigure router now c ∷ events) w w' run = absurd run.2

heard_steps : (net : Network) (first end : ℕ) (events : List Event) → AllByRecursion (IsDeliveryOf first end) events → (w w' : World) → AllHeard net w events w' → AreSteps net w events w'
heard_steps net first end [] these w w' is = record { steps = []; takes = is; same = refl }
heard_steps net first end (Deliver datagram router iface now ∷ events) these w w' run =
    let rest = heard_steps net first end events these.1 run.0 w' run.4 in
    record {
      steps = record { event = Deliver datagram router iface now; answer = run.1; after = run.0 } ∷ rest.steps;
      takes = (tt, run.2, run.3, rest.takes);
      same = ap (λ xs. Deliver datagram router iface now ∷ xs) rest.same;
    }
heard_steps net first end (Stranger router x ∷ events) these w w' run = absurd these.0
heard_steps net first end (Tick router now word ∷ events) these w w' run = absurd these.0
heard_steps net first end (Restart router now ∷ events) these w w' run = absurd these.0
heard_steps net first end (Shutdown router now ∷ events) these w w' run = absurd these.0
heard_steps net first end (LinkDown router now on ∷ events) these w w' run = absurd these.0
heard_steps net first end (LinkUp router now on ∷ events) these w w' run = absurd these.0
heard_steps net first end (Reconfigure router now c ∷ events) these w w' run = absurd these.0

-- no tick is a delivery
no_delivery : (w : World) (steps : List Step) → AllDue w steps → (i datagram router iface now : ℕ) → slice_get (events_of steps) i ≡ Some (Deliver datagram router iface now) → ⊥
no_delivery w [] due i datagram router iface now is = None-Some (Deliver datagram router iface now) is
no_delivery w (s ∷ steps) due zero datagram router iface now is = subst (IsDueTick w) (Some-same s.event (Deliver datagram router iface now) is) due.0
no_delivery w (s ∷ steps) due (suc i) datagram router iface now is = no_delivery s.after steps due.1 i datagram router iface now is

-- the tick of a router
record IsTickAt (w : World) (steps : List Step) (router : ℕ) : Type 0 where
  pub before : List Step
  pub tick : Step
  pub after : List Step
  pub parts : steps ≡ before ++ tick ∷ after
  pub now : ℕ
  pub word : ℕ
  pub ticks : tick.event ≡ Tick router now word
  pub due : IsDueTick (reached w before) (Tick router now word)

tick_at : (w : World) (steps : List Step) → AllDue w steps → (router i : ℕ) → slice_get (map router_of (events_of steps)) i ≡ Some router → IsTickAt w steps router
tick_at w [] due router i is = absurd (None-Some router is)
tick_at w (s ∷ steps) due router zero is = by s.event refl (Some-same (router_of s.event) router is) due.0
  where
    by : (e : Event) → s.event ≡ e → router_of s.event ≡ router → IsDueTick w s.event → IsTickAt w (s ∷ steps) router
    by (Tick mover now word) e mine d =
        let same : s.event ≡ Tick router now word = e ∙ ap (λ r. Tick r now word) (ap router_of (sym e) ∙ mine) in
        record { before = []; tick = s; after = steps; parts = refl; now = now; word = word; ticks = same; due = subst (IsDueTick w) same d }
    by (Deliver datagram mover iface now) e mine d = absurd (subst (IsDueTick w) e d)
    by (Stranger mover x) e mine d = absurd (subst (IsDueTick w) e d)
    by (Restart mover now) e mine d = absurd (subst (IsDueTick w) e d)
    by (Shutdown mover now) e mine d = absurd (subst (IsDueTick w) e d)
    by (LinkDown mover now on) e mine d = absurd (subst (IsDueTick w) e d)
    by (LinkUp mover now on) e mine d = absurd (subst (IsDueTick w) e d)
    by (Reconfigure mover now c) e mine d = absurd (subst (IsDueTick w) e d)
tick_at w (s ∷ steps) due router (suc i) is =
    let t = tick_at s.after steps due.1 router i is in
    record { before = s ∷ t.before; tick = t.tick; after = t.after; parts = ap (λ xs. s ∷ xs) t.parts; now = t.now; word = t.word; ticks = t.ticks; due = t.due }

-- ---- who sent what

move_sent : (w w' : World) (router : ℕ) (what : Happening) (answer : Answer) → RouterMoves w router what answer w' → (i : ℕ) (d : Sent) → length w.sent ≤ i → slice_get w'.sent i ≡ Some d → d.router ≡ router
move_sent w w' router what answer m i d late is =
    let a = get_right w.sent (map (sent_by router) answer.sends) i d late (ap (λ (ds : List Sent). slice_get ds i) (sym m.sent) ∙ is) in
    by answer.sends a.0 a.1
  where
    by : (os : List Outgoing) (j : ℕ) → slice_get (map (sent_by router) os) j ≡ Some d → d.router ≡ router
    by [] j e = absurd (None-Some d e)
    by (o ∷ os) zero e = ap (λ (x : Sent). x.router) (sym (Some-same (sent_by router o) d e))
    by (o ∷ os) (suc j) e = by os j e

event_sent : (net : Network) (w w' : World) (e : Event) (answer : Answer) → Happens net w e answer w' → (i : ℕ) (d : Sent) → length w.sent ≤ i → slice_get w'.sent i ≡ Some d → d.router ≡ router_of e
event_sent net w w' (Deliver datagram router iface now) answer h i d late is = move_sent w w' router _ answer h.moves i d late is
event_sent net w w' (Stranger router x) answer h i d late is = move_sent w w' router _ answer h.moves i d late is
event_sent net w w' (Tick router now word) answer h i d late is = move_sent w w' router _ answer h i d late is
event_sent net w w' (Restart router now) answer h i d late is = move_sent w w' router _ answer h i d late is
event_sent net w w' (Shutdown router now) answer h i d late is = move_sent w w' router _ answer h i d late is
event_sent net w w' (LinkDown router now on) answer h i d late is = move_sent w w' router _ answer h i d late is
event_sent net w w' (LinkUp router now on) answer h i d late is = move_sent w w' router _ answer h i d late is
event_sent net w w' (Reconfigure router now c) answer h i d late is = move_sent w w' router _ answer h i d late is

split : (a b : ℕ) → (b ≤ a) ⊎ (a < b)
split a b = grind arith

-- what is sent in steps is sent by the router of one of them
sent_in : (net : Network) (steps : List Step) (w w' : World) → Takes net w steps w' → (i : ℕ) (d : Sent) → length w.sent ≤ i → slice_get w'.sent i ≡ Some d → At (map router_of (events_of steps)) d.router
sent_in net [] w w' is i d late at = absurd (no i (length w.sent) late (slice_get_within w.sent i d (ap (λ (v : World). slice_get v.sent i) (sym is) ∙ at)))
  where
    no : (a b : ℕ) → b ≤ a → a < b → ⊥
    no a b e f = omega arith
sent_in net (s ∷ steps) w w' is i d late at = by (split i (length s.after.sent)) (λ l. sent_in net steps s.after w' is.3 i d l at)
  where
    old : i < length s.after.sent → slice_get s.after.sent i ≡ Some d
    old early = let g = takes_grows net steps s.after w' is.3 in sent_before s.after w' g.0 g.1 i d early at

    by : (length s.after.sent ≤ i) ⊎ (i < length s.after.sent) → (length s.after.sent ≤ i → At (map router_of (events_of steps)) d.router) → At (router_of s.event ∷ map router_of (events_of steps)) d.router
    by (inl more) rest = let r = rest more in (suc r.0, r.1)
    by (inr early) rest = (0, ap Some (sym (event_sent net w s.after s.event s.answer is.1 i d late (old early))))

-- distinct numbers stand in one part alone
only_once : (xs ys : List ℕ) → IsDistinct nat_eq (xs ++ ys) → (r : ℕ) → At xs r → At ys r → ⊥
only_once [] ys distinct r a b = None-Some r a.1
only_once (x ∷ xs) ys distinct r a b = by a.0 a.1 (λ j e. only_once xs ys (IsDistinct-tail nat_eq x (xs ++ ys) distinct) r (j, e) b)
  where
    by : (i : ℕ) → slice_get (x ∷ xs) i ≡ Some r → ((j : ℕ) → slice_get xs j ≡ Some r → ⊥) → ⊥
    by (suc i) e later = later i e
    by zero e later =
        let at = at_right xs ys r b in
        clash (sym (eq-eqb x r (Some-same x r e)) ∙ each_at_place (λ y. nat_eq x y ≡ false) (xs ++ ys) (IsDistinct-head nat_eq x (xs ++ ys) distinct) at.0 r at.1)
      where
        clash : true ≡ false → ⊥
        clash e = cc

-- ---- one round

-- what is before a round
record IsPastOf (past : Before) (before : ℕ → ℕ → Type 0) (w : World) : Type 0 where
  pub first_ok : past.first ≤ length w.sent
  pub counts_ok : (c : ℕ) → past.counts c → c ≤ length w.sent
  pub moments_ok : (router x : ℕ) → past.moments router x → before router x

module _ (net : Network) (w w' : World) (round : Round) (is : IsSynchronousRound net w round w') where
  ticks : (x : AreSteps net w round.ticks is.after_ticks) × AllDue w x.steps
  ticks = tick_steps net round.ticks w is.after_ticks is.all_tick

  these : AllByRecursion (IsDeliveryOf (length w.sent) (length is.after_ticks.sent)) round.deliveries
  these = recursion_from_All (IsDeliveryOf (length w.sent) (length is.after_ticks.sent)) round.deliveries is.only_these

  heard : AreSteps net is.after_ticks round.deliveries w'
  heard = heard_steps net (length w.sent) (length is.after_ticks.sent) round.deliveries these is.after_ticks w' is.all_heard

  abbrev steps : List Step
  steps = ticks.0.steps ++ heard.steps

  all_takes : Takes net w (ticks.0.steps ++ heard.steps) w'
  all_takes = takes_on net ticks.0.steps heard.steps w is.after_ticks w' ticks.0.takes heard.takes

  all_events : events_of (ticks.0.steps ++ heard.steps) ≡ round.ticks ++ round.deliveries
  all_events = events_on ticks.0.steps heard.steps ∙ ap (λ xs. xs ++ events_of heard.steps) ticks.0.same ∙ ap (λ xs. round.ticks ++ xs) heard.same

  abbrev IsOfRound : ℕ → Type 0
  IsOfRound datagram = (length w.sent ≤ datagram) × (datagram < length is.after_ticks.sent)

  delivered : (datagram router iface now : ℕ) → Contains (events_of (ticks.0.steps ++ heard.steps)) (Deliver datagram router iface now) → IsOfRound datagram
  delivered datagram router iface now c =
      let a = at_from_contains (events_of ticks.0.steps ++ events_of heard.steps) (Deliver datagram router iface now) (subst (λ xs. Contains xs (Deliver datagram router iface now)) (events_on ticks.0.steps heard.steps) c) in
      elim (split_at (events_of ticks.0.steps) (events_of heard.steps) a.0 (Deliver datagram router iface now) a.1) [
        | inl x ↦ absurd (no_delivery w ticks.0.steps ticks.1 x.0 datagram router iface now x.1)
        | inr x ↦ each_at_place (IsDeliveryOf (length w.sent) (length is.after_ticks.sent)) round.deliveries these x.0 (Deliver datagram router iface now) (ap (λ (es : List Event). slice_get es x.0) (sym heard.same) ∙ x.1)
      ]

  here_in : (a : List Step) (s : Step) (b : List Step) → ticks.0.steps ++ heard.steps ≡ a ++ s ∷ b → (e : Event) → s.event ≡ e → Contains (events_of (ticks.0.steps ++ heard.steps)) e
  here_in a s b parts e same = subst (Contains (events_of (ticks.0.steps ++ heard.steps))) same (happens_here (ticks.0.steps ++ heard.steps) a s b parts)

  told : (router : ℕ) → router < length net → IsHeardUpdate net w (ticks.0.steps ++ heard.steps) router
  told router inside =
      let a = at_from_contains (map router_of round.ticks) router (is.each_ticks router inside) in
      by (tick_at w ticks.0.steps ticks.1 router a.0 (ap (λ (es : List Event). slice_get (map router_of es) a.0) ticks.0.same ∙ a.1))
    where
      by : IsTickAt w ticks.0.steps router → IsHeardUpdate net w (ticks.0.steps ++ heard.steps) router
      by t =
          let takes = subst (λ xs. Takes net w xs is.after_ticks) t.parts ticks.0.takes in
          let first = takes_grows net t.before w (reached w t.before) (takes_first net t.before (t.tick ∷ t.after) w is.after_ticks takes) in
          let rest = takes_grows net t.after t.tick.after is.after_ticks (takes_rest net t.before (t.tick ∷ t.after) w is.after_ticks takes).3 in
          record {
            before = t.before;
            tick = t.tick;
            after = t.after ++ heard.steps;
            parts = ap (λ xs. xs ++ heard.steps) t.parts ∙ append_assoc t.before (t.tick ∷ t.after) heard.steps;
            now = t.now;
            word = t.word;
            ticks = t.ticks;
            due = t.due;
            heard = λ datagram other iface d late there linked elsewhere.
                let k = is.each_delivered datagram other iface d (le_trans (no_fewer w (reached w t.before) first) late) (still_sent t.tick.after is.after_ticks rest datagram d there) linked elsewhere in
                let at = at_from_contains round.deliveries (Deliver datagram other iface k.0) k.1 in
                let there = at_right (events_of t.after) (events_of heard.steps) (Deliver datagram other iface k.0) (at.0, ap (λ (es : List Event). slice_get es at.0) heard.same ∙ at.1) in
                (k.0, subst (λ xs. Contains xs (Deliver datagram other iface k.0)) (sym (events_on t.after heard.steps)) (contains_from (events_of t.after ++ events_of heard.steps) (Deliver datagram other iface k.0) there));
          }

  -- what one router sends in a round it sends at one moment
  one_moment : (count old new : ℕ) (x y : Sent) → IsCount w (ticks.0.steps ++ heard.steps) count → IsOfRound old → IsOfRound new → slice_get w'.sent old ≡ Some x → slice_get w'.sent new ≡ Some y → y.router ≡ x.router → old < count → count ≤ new → ⊥
  one_moment count old new x y c old_in new_in x_is y_is same before after = by (cut ticks.0.steps heard.steps c.before c.after c.parts)
    where
      grown : Grows is.after_ticks w'
      grown = takes_grows net heard.steps is.after_ticks w' heard.takes

      in_ticks : (i : ℕ) (d : Sent) → i < length is.after_ticks.sent → slice_get w'.sent i ≡ Some d → slice_get is.after_ticks.sent i ≡ Some d
      in_ticks i d early at = sent_before is.after_ticks w' grown.0 grown.1 i d early at

      too_late : (n c l : ℕ) → c ≤ n → n < l → l ≤ c → ⊥
      too_late n c l e f g = omega arith

      by : AreParts ticks.0.steps heard.steps c.before c.after → ⊥
      by (inr z) =
          too_late new count (length is.after_ticks.sent) after new_in.1
          (subst (λ n. length is.after_ticks.sent ≤ n) (sym c.count_is) (no_fewer is.after_ticks (reached w c.before) later))
        where
          later : Grows is.after_ticks (reached w c.before)
          later =
              let takes = takes_first net c.before c.after w w' (subst (λ xs. Takes net w xs w') c.parts all_takes) in
              let rest = takes_rest net ticks.0.steps z.0 w (reached w c.before) (subst (λ xs. Takes net w xs (reached w c.before)) z.1 takes) in
              subst (λ v. Grows v (reached w c.before)) (sym (takes_reached net ticks.0.steps w is.after_ticks ticks.0.takes)) (takes_grows net z.0 (reached w ticks.0.steps) (reached w c.before) rest)
      by (inl z) =
          let takes = subst (λ xs. Takes net w xs is.after_ticks) z.1 ticks.0.takes in
          let first = takes_first net c.before z.0 w is.after_ticks takes in
          let rest = takes_rest net c.before z.0 w is.after_ticks takes in
          let grows = takes_grows net z.0 (reached w c.before) is.after_ticks rest in
          let old_at : slice_get (reached w c.before).sent old ≡ Some x = sent_before (reached w c.before) is.after_ticks grows.0 grows.1 old x (subst (λ n. old < n) c.count_is before) (in_ticks old x old_in.1 x_is) in
          let a = sent_in net c.before w (reached w c.before) first old x old_in.0 old_at in
          let b = sent_in net z.0 (reached w c.before) is.after_ticks rest new y (subst (λ n. n ≤ new) c.count_is after) (in_ticks new y new_in.1 y_is) in
          only_once (map router_of (events_of c.before)) (map router_of (events_of z.0)) (subst (IsDistinct nat_eq) (routers z.0 z.1) is.once) x.router a (subst (At (map router_of (events_of z.0))) same b)
        where
          map_on : (xs ys : List Event) → map router_of (xs ++ ys) ≡ map router_of xs ++ map router_of ys
          map_on [] ys = refl
          map_on (e ∷ xs) ys = ap (λ rs. router_of e ∷ rs) (map_on xs ys)

          routers : (rest : List Step) → ticks.0.steps ≡ c.before ++ rest → map router_of round.ticks ≡ map router_of (events_of c.before) ++ map router_of (events_of rest)
          routers rest e = ap (map router_of) (sym ticks.0.same ∙ ap events_of e ∙ events_on c.before rest) ∙ map_on (events_of c.before) (events_of rest)

  moment_of_round : (router x : ℕ) → IsMomentIn (ticks.0.steps ++ heard.steps) router x → IsMomentOf round router x
  moment_of_round router x m = record { event = m.event; happens = subst (λ es. Contains es m.event) all_events m.happens; router_is = m.router_is; moment_is = m.moment_is }

  module _ (past : Before) (before : ℕ → ℕ → Type 0) (ok : IsPastOf past before w)
      (close : (router x y : ℕ) → before router x ⊎ IsMomentOf round router x → IsMomentOf round router y → (x < y + garbage_time) × (y < x + garbage_time)) where
    round_phase : IsPhase net past w (ticks.0.steps ++ heard.steps) w'
    round_phase =
        record {
          takes = all_takes;
          told = told;
          recent = λ datagram router iface now c. le_trans ok.first_ok (delivered datagram router iface now c).0;
          in_order = λ o.
              let new_in = delivered o.new o.router o.iface o.now (here_in o.before o.later (o.between ++ o.earlier ∷ o.after) (o.parts ∙ append_assoc o.before (o.later ∷ o.between) (o.earlier ∷ o.after)) (Deliver o.new o.router o.iface o.now) o.first) in
              let old_in = delivered o.old o.router o.iface o.moment (here_in (o.before ++ o.later ∷ o.between) o.earlier o.after o.parts (Deliver o.old o.router o.iface o.moment) o.second) in
              let end : reached w (ticks.0.steps ++ heard.steps) ≡ w' = sym (takes_reached net (ticks.0.steps ++ heard.steps) w w' all_takes) in
              elim o.counted [
                | inl x ↦ absurd (no_room o.old o.count (length w.sent) o.old_before (ok.counts_ok o.count x) old_in.0)
                | inr x ↦ one_moment o.count o.old o.new o.old_sent o.new_sent x old_in new_in (ap (λ (v : World). slice_get v.sent o.old) (sym end) ∙ o.old_is) (ap (λ (v : World). slice_get v.sent o.new) (sym end) ∙ o.new_is) o.same_router o.old_before o.new_after
              ];
          close = λ router x y m k. close router x y (elim m [ inl a ↦ inl (ok.moments_ok router x a) | inr a ↦ inr (moment_of_round router x a) ]) (moment_of_round router y k);
        }
      where
        no_room : (o c l : ℕ) → o < c → c ≤ l → l ≤ o → ⊥
        no_room o c l e f g = omega arith

    past_next : IsPastOf (before_next w (ticks.0.steps ++ heard.steps)) (IsMomentOf round) w'
    past_next =
        record {
          first_ok = no_fewer w w' (takes_grows net (ticks.0.steps ++ heard.steps) w w' all_takes);
          counts_ok = λ c x.
              let rest = takes_rest net x.before x.after w w' (subst (λ xs. Takes net w xs w') x.parts all_takes) in
              subst (λ n. n ≤ length w'.sent) (sym x.count_is) (no_fewer (reached w x.before) w' (takes_grows net x.after (reached w x.before) w' rest));
          moments_ok = moment_of_round;
        }

-- ---- all rounds

record AreRoundPhases (net : Network) (past : Before) (w : World) (rounds : List Round) (w' : World) : Type 0 where
  pub phases : List (List Step)
  pub are : PhasesAfter net past w phases w'
  pub as_many : length phases ≡ length rounds
  pub same_events : events_of (steps_of phases) ≡ events_in rounds

rounds_on : (net : Network) (rounds : List Round) (past : Before) (before : ℕ → ℕ → Type 0) (w w' : World) → IsPastOf past before w → AreCloseAfter before rounds → SynchronousRounds net w rounds w' → AreRoundPhases net past w rounds w'
rounds_on net [] past before w w' ok close is = record { phases = []; are = is; as_many = refl; same_events = refl }
rounds_on net (round ∷ rounds) past before w w' ok close is =
    let steps = (ticks net w is.0 round is.1).0.steps ++ (heard net w is.0 round is.1).steps in
    let rest = rounds_on net rounds (before_next w steps) (IsMomentOf round) is.0 w' (past_next net w is.0 round is.1 past before ok close.0) close.1 is.2 in
    record {
      phases = steps ∷ rest.phases;
      are = (is.0, round_phase net w is.0 round is.1 past before ok close.0, rest.are);
      as_many = ap suc rest.as_many;
      same_events = events_on steps (steps_of rest.phases) ∙ ap (λ es. es ++ events_of (steps_of rest.phases)) (all_events net w is.0 round is.1) ∙ ap (λ es. (round.ticks ++ round.deliveries) ++ es) rest.same_events;
    }

pub rounds_are_phases : (net : Network) (rounds : List Round) (w w' : World) → SynchronousRounds net w rounds w' → AreClose rounds → ArePhases net w rounds w'
rounds_are_phases net rounds w w' is close =
    let x = rounds_on net rounds (record { first = 0; counts = λ _. ⊥; moments = λ _ _. ⊥ }) (λ _ _. ⊥) w w'
    (record { first_ok = least (length w.sent); counts_ok = λ c a. absurd a; moments_ok = λ router y a. absurd a }) close is in
    record { phases = x.phases; are = x.are; as_many = x.as_many; same_events = x.same_events }
  where
    least : (n : ℕ) → 0 ≤ n
    least n = omega arith
