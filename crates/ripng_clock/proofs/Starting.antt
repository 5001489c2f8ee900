-- How a run where nothing is lost begins, and that it is a timely history.
use Rattle.std.proofs.Common.{◌≡◌, ◌⊎◌, inl, inr, ℕ, zero, suc, ◌+◌, ◌*◌, ◌<◌, ◌≤◌, max, Bool, true, false, cond, IsTrue, ◌&&◌, not, List, [], ◌∷◌, ◌++◌, Contains, map, length, Option, Some, None, slice_get, refl, ap, sym, subst, ◌∙◌, arith, le_refl, le_trans, length-append}
use Rattle.std.specs.List.{list_any}
use Rattle.std.specs.Option.{option_map, unwrap_or}
use Rattle.std.proofs.lemmas.Option.{slice_get_within}
use Rattle.router_core.specs.Machine.{State, Starts}
use Rattle.router_core.specs.Waking.{wakes_at}
use Rattle.router_core.specs.declared.answer.Answer.{Answer}
use Rattle.ripng_world.specs.Convergence.{IsNeverQuiet}
use Rattle.ripng_world.specs.Healing.{AreHealed, FitsTablesSince, network_now}
use Rattle.ripng_world.specs.Labs.{HasRun, LabValue, link_at}
use Rattle.ripng_world.specs.Network.{Network, Node}
use Rattle.ripng_world.specs.Watching.{Told}
use Rattle.ripng_world.specs.World.{World, Event, Deliver, Stranger, Tick, Restart, Shutdown, LinkDown, LinkUp, Reconfigure, Happens, RouterMoves, StartsFrom, WorldRun, IsCold, past_of}
use Rattle.ripng_world.specs.declared.event.Sent.{Sent}
use Rattle.ripng_phases.specs.Making.{IsLatest}
use Rattle.ripng_phases.specs.Minutes.{IsTimely, Timed}
use Rattle.ripng_phases.specs.Phases.{Step, events_of}
use Rattle.ripng_phases.proofs.Timely.{heals_in_minutes}
use Rattle.ripng_clock.specs.Agenda.{Has}
use Rattle.ripng_clock.specs.Carrying.{Asked, AllTakePart, carriage_of, carriage_on, is_carried, is_none_of, prompt, takes_part}
use Rattle.ripng_clock.specs.Ending.{AreAlarms, AreLater, HaveSetOut, IsNothingDue}
use Rattle.ripng_clock.specs.Passing.{IsBegin}
use Rattle.ripng_clock.specs.Timing.{HealsFrom, IsCalm, IsDueSoon, IsOrderly, IsTimelyFrom}
use Rattle.ripng_clock.specs.Turning.{AreTurns, Place}
use Rattle.ripng_clock.specs.declared.carrying.Carriage.{Carriage}
use Rattle.ripng_clock.specs.declared.timetable.Timetable.{Timetable}
use Rattle.ripng_clock.proofs.Alarming.{nothing_due}
use Rattle.ripng_clock.proofs.Finishing.{is_timely, timed}
use Rattle.ripng_clock.proofs.OnTime.{FromOne, past}
use Rattle.ripng_clock.proofs.Passing.{order_waits}
use Rattle.ripng_clock.proofs.Times.{set_length}
use Rattle.ripng_clock.proofs.Turned.{IsOnTime, delay, net, same_carriage, w0}
use Rattle.ripng_clock.proofs.TurnByTurn.{IsWell, turns_well}

-- ---- a network has a state for each router

starts_many : (n : ℕ) (nodes : List Node) (moments : List ℕ) (states : List State) (sent : List Sent) → StartsFrom n nodes moments states sent → length states ≡ length nodes
starts_many n [] [] [] sent is = refl
starts_many n [] [] (s ∷ states) sent is = absurd is
starts_many n [] (m ∷ moments) states sent is = absurd is
starts_many n (node ∷ nodes) [] states sent is = absurd is
starts_many n (node ∷ nodes) (m ∷ moments) [] sent is = absurd is
starts_many n (node ∷ nodes) (m ∷ moments) (s ∷ states) sent is = ap suc (starts_many (suc n) nodes moments states is.1 is.3)

event_many : (net : Network) (w w' : World) (e : Event) (answer : Answer) → Happens net w e answer w' → length w'.states ≡ length w.states
event_many n w w' (Deliver datagram router iface now) answer d = ap length d.moves.states ∙ set_length w.states router d.moves.new
event_many n w w' (Stranger router x) answer i = ap length i.moves.states ∙ set_length w.states router i.moves.new
event_many n w w' (Tick router now word) answer m = ap length m.states ∙ set_length w.states router m.new
event_many n w w' (Restart router now) answer m = ap length m.states ∙ set_length w.states router m.new
event_many n w w' (Shutdown router now) answer m = ap length m.states ∙ set_length w.states router m.new
event_many n w w' (LinkDown router now on) answer m = ap length m.states ∙ set_length w.states router m.new
event_many n w w' (LinkUp router now on) answer m = ap length m.states ∙ set_length w.states router m.new
event_many n w w' (Reconfigure router now c) answer m = ap length m.states ∙ set_length w.states router m.new

run_many : (net : Network) (w : World) (events : List Event) (w' : World) → WorldRun net w events w' → length w'.states ≡ length w.states
run_many n w [] w' is = ap (λ v. length v.states) is
run_many net w (e ∷ events) w' is = run_many net is.0 events w' is.3 ∙ event_many net w is.0 e is.1 is.2

pub states_many : (net : Network) (w : World) → HasRun net w → length w.states ≡ length net
states_many net w has_run = run_many net has_run.cold has_run.events w has_run.run ∙ starts_many 0 net has_run.moments has_run.cold.states has_run.cold.sent has_run.is_cold.starts

there : (xs : List State) (n : ℕ) → n < length xs → (s : State) × (slice_get xs n ≡ Some s)
there [] n lt = absurd (omega (arith, lt))
there (x ∷ xs) zero lt = (x, refl)
there (x ∷ xs) (suc n) lt = there xs n (grind (arith, lt))

-- ---- a run where nothing is lost

module _ {V : Type 0} (takes : V → Told → V → Type 0) (asked : Asked) (timetable : Timetable) (lab : LabValue) (watch : V) (begin next : ℕ) (alarms : List (Option ℕ)) (out : Timetable)
    (calm : IsCalm asked timetable) (orderly : IsOrderly asked timetable lab begin) (due_soon : IsDueSoon lab begin) (begin_is : IsBegin lab timetable begin)
    (set_out : HaveSetOut asked lab begin timetable asked.first next out) (next_is : next ≡ max asked.first (length lab.world.sent)) (are : AreAlarms asked lab alarms) where
  abbrev pub start : Place V
  start = record { lab = lab; watch = watch; timetable = out; moment = begin; next = next; alarms = alarms }

  many : length lab.world.states ≡ length lab.network
  many = states_many lab.network lab.world due_soon.has_run

  -- the delay by the timetable as it was
  delay_is : (d : Sent) → (carriage_of out lab d).delay_ms ≡ (carriage_of timetable lab d).delay_ms
  delay_is d = ap (λ (c : Carriage). c.delay_ms) (same_carriage out timetable lab lab d set_out.links refl)

  on_link : (P : Carriage → Type 0) → P prompt → ((link : ℕ) → P (carriage_on timetable link)) → (o : Option ℕ) → P (unwrap_or (option_map (carriage_on timetable) o) prompt)
  on_link P none each None = none
  on_link P none each (Some link) = each link

  short : (d : Sent) → (carriage_of out lab d).delay_ms < 15_000
  short d =
      let a : (carriage_of timetable lab d).delay_ms < 13_000 = on_link (λ c. c.delay_ms < 13_000) (omega arith) calm.short (link_at lab.network d.router d.iface) in
      let b = delay_is d in
      omega (arith, a, b)

  whole : (d : Sent) → (carriage_of out lab d).loss ≡ 0
  whole d = ap (λ (c : Carriage). c.loss) (same_carriage out timetable lab lab d set_out.links refl) ∙ on_link (λ c. c.loss ≡ 0) refl calm.whole (link_at lab.network d.router d.iface)

  part : (router : ℕ) → IsTrue (takes_part asked router)
  part router = ap (λ xs. is_none_of xs router) calm.all.0

  all : (d : Sent) (n : ℕ) (l : LabValue) → l.network ≡ lab.network → n < length l.world.sent → slice_get l.world.sent n ≡ Some d → IsTrue (is_carried asked l n d)
  all d n l same within at =
      ap (λ xs. (is_none_of xs n && takes_part asked d.router) && unwrap_or (option_map (is_none_of asked.cut) (link_at l.network d.router d.iface)) true) calm.all.2
      ∙ ap (λ b. (true && b) && unwrap_or (option_map (is_none_of asked.cut) (link_at l.network d.router d.iface)) true) (part d.router)
      ∙ ap (λ xs. unwrap_or (option_map (is_none_of xs) (link_at l.network d.router d.iface)) true) calm.all.1
      ∙ by (link_at l.network d.router d.iface)
    where
      by : (o : Option ℕ) → unwrap_or (option_map (is_none_of []) o) true ≡ true
      by None = refl
      by (Some link) = refl

  no_steps : {P : Type 0} (before : List Step) (x : Step) (after : List Step) → [] ≡ before ++ x ∷ after → P
  no_steps [] x after e = cc
  no_steps (b ∷ before) x after e = cc

  -- what is under way at the beginning
  IsOld : ℕ → ℕ → Type 0
  IsOld t n = Has timetable.under_way t n

  cases : (t n : ℕ) → Has out.under_way t n → Has timetable.under_way t n ⊎ ((asked.first ≤ n) × (n < next) × ((d : Sent) → slice_get lab.world.sent n ≡ Some d → t ≡ begin + (carriage_of out lab d).delay_ms))
  cases t n has = elim (set_out.only t n has) [
    | inl old ↦ inl old
    | inr new ↦ inr (new.0, new.1, λ d at. new.2 d at ∙ ap (λ k. begin + k) (sym (delay_is d)))
  ]

  next_now : next ≡ length lab.world.sent
  next_now = let a = orderly.first in omega (arith, a, next_is)

  known : (t n : ℕ) → Has out.under_way t n → n < length lab.world.sent
  known t n has = elim (cases t n has) [
    | inl old ↦ let a = orderly.older t n old in let b = orderly.first in omega (arith, a, b)
    | inr new ↦ subst (λ k. n < k) next_now new.1
  ]

  near : (t n : ℕ) (d : Sent) → Has out.under_way t n → slice_get lab.world.sent n ≡ Some d → t ≤ begin + (carriage_of out lab d).delay_ms
  near t n d has at = elim (cases t n has) [
    | inl old ↦ let a = orderly.soon t n d old at in let b = delay_is d in omega (arith, a, b)
    | inr new ↦ let a = new.2 d at in omega (arith, a)
  ]

  alike : (d d' : Sent) → FromOne d d' → (carriage_of out lab d).delay_ms ≡ (carriage_of out lab d').delay_ms
  alike d d' one =
      ap (λ router. (unwrap_or (option_map (carriage_on out) (link_at lab.network router d.iface)) prompt).delay_ms) one.0
      ∙ ap (λ iface. (unwrap_or (option_map (carriage_on out) (link_at lab.network d'.router iface)) prompt).delay_ms) one.1

  sorted : (t n t' n' : ℕ) (d d' : Sent) → Has out.under_way t n → Has out.under_way t' n' → slice_get lab.world.sent n ≡ Some d → slice_get lab.world.sent n' ≡ Some d' → FromOne d d' → n < n' → t ≤ t'
  sorted t n t' n' d d' has has' at at' one lt = by (cases t n has) (cases t' n' has')
    where
      by : Has timetable.under_way t n ⊎ ((asked.first ≤ n) × (n < next) × ((d : Sent) → slice_get lab.world.sent n ≡ Some d → t ≡ begin + (carriage_of out lab d).delay_ms))
          → Has timetable.under_way t' n' ⊎ ((asked.first ≤ n') × (n' < next) × ((d : Sent) → slice_get lab.world.sent n' ≡ Some d → t' ≡ begin + (carriage_of out lab d).delay_ms)) → t ≤ t'
      by (inl old) (inl old') = orderly.in_order t n t' n' d d' old old' at at' one lt
      by (inl old) (inr new') = let a = near t n d has at in let b = new'.2 d' at' in let c = alike d d' one in omega (arith, a, b, c)
      by (inr new) (inl old') = let a = orderly.older t' n' old' in let b = new.0 in absurd (omega (arith, a, b, lt))
      by (inr new) (inr new') = let a = new.2 d at in let b = new'.2 d' at' in let c = alike d d' one in omega (arith, a, b, c)

  fresh_none : (t n : ℕ) → Has out.under_way t n → begin + 15_000 ≤ t → ⊥
  fresh_none t n has late = by (slice_get lab.world.sent n) refl
    where
      by : (o : Option Sent) → slice_get lab.world.sent n ≡ o → ⊥
      by None at = past lab.world.sent n (known t n has) at
      by (Some d) at = let a = near t n d has at in let b = short d in omega (arith, a, b, late)

  begun : IsOnTime takes asked start begin start []
  begun =
      record {
        network = refl;
        links = refl;
        taken = refl;
        order = le_refl begin;
        begun = le_refl begin;
        next_is = next_now;
        many = many;
        known = known;
        near = near;
        sorted = sorted;
        not_late = λ t n has. omega arith;
        delivered = λ before x after parts n r i m event. no_steps before x after parts;
        ahead = λ before x after parts n r i m event t old d d' has at at' one. no_steps before x after parts;
        in_turn = λ before x after b y between parts parts' n r i m n' r' i' m' d d' event event' at at' one. no_steps before x after parts;
        fresh = λ t n has late. absurd (fresh_none t n has late);
        recent = λ before x after parts late n r i m event. no_steps before x after parts;
        come = λ before x after parts n d late at. no_steps before x after parts;
        up_to = λ router s at.
            let a = begin_is.latest_is.none_later router s (subst (λ k. router < k) many (slice_get_within lab.world.states router s at)) at in
            let b = begin_is.begin_is in
            omega (arith, a, b);
        on_time = λ router s at. omega arith;
        regular = λ router from s later at. inr (let a = due_soon.regular router s at in omega (arith, a, later));
      }

  module _ (turns : List (List Step)) (q : Place V) (are_turns : AreTurns takes asked start turns q) (in_time : q.moment ≤ asked.until) (later : AreLater q.alarms q.timetable.under_way asked.until) where
    at_end : (steps : List Step) × IsWell takes asked start begin short all part whole q steps
    at_end = turns_well takes asked start begin short all part whole turns start [] q (record { on_time = begun; alarms = are }) are_turns

    none_due : IsNothingDue asked q.lab q.timetable.under_way
    none_due = nothing_due asked q.lab q.alarms q.timetable.under_way at_end.1.alarms later

    -- it is a timely history
    pub timely : (history : List Timed) × IsTimely lab.network lab.world history begin (asked.until + 1) q.lab.world
    timely =
        let is = at_end.1.on_time in (
          timed at_end.0,
          is_timely lab.network lab.world begin (λ d. (carriage_of out lab d).delay_ms) asked.until at_end.0 q.lab.world is.taken (order_waits begin (events_of at_end.0) q.moment asked.until in_time is.order)
              is.in_turn is.recent (λ t n. Has q.timetable.under_way t n) is.come is.regular short
              (λ router lt. there q.lab.world.states router (subst (λ k. router < k) (sym is.many) lt))
              none_due.datagrams (λ router s lt at. none_due.routers router s (subst (λ (n : Network). router < length n) (sym is.network) lt) at (part router)),
        )

    -- so it heals
    pub heals : IsNeverQuiet lab.network → FitsTablesSince (past_of lab.network lab.world) → begin + 28 * 60_000 ≤ asked.until + 1 → AreHealed (network_now (past_of lab.network q.lab.world)) q.lab.world
    heals noisy fits late =
        let r = due_soon.has_run in
        heals_in_minutes lab.network r.moments r.events timely.0 begin (asked.until + 1) r.cold lab.world q.lab.world r.lawful noisy r.is_cold r.run fits timely.1 late
