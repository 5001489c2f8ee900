-- A run goes on, step by step and turn by turn.
use Rattle.std.proofs.Common.{◌≡◌, ◌⊎◌, inl, inr, ℕ, ◌+◌, ◌<◌, ◌≤◌, max, Bool, true, false, ◌&&◌, IsTrue, List, [], ◌∷◌, ◌++◌, map, filter, take, get_or, length, Option, Some, None, slice_get, slice_set, IfErr, Result, refl, ap, sym, subst, ◌∙◌, arith, append-nil, le_refl, le_trans}
use Rattle.std.specs.Prelude.{⊤}
use Rattle.std.specs.List.{AllByRecursion}
use Rattle.std.proofs.lemmas.List.{take_all, take_more}
use Rattle.std.proofs.lemmas.Option.{slice_get-get_or, slice_get_within}
use Rattle.route_table.proofs.TableLaws.{Some-same}
use Rattle.ripng_world.specs.AskedRounds.{interfaces_of, is_other}
use Rattle.ripng_world.specs.Labs.{LabValue}
use Rattle.ripng_world.specs.Network.{Network}
use Rattle.ripng_world.specs.Rounds.{moment_of, router_of}
use Rattle.ripng_world.specs.Watching.{IfRefused, Told, WatchedRun, heard}
use Rattle.ripng_world.specs.World.{World, Event, Deliver, Tick}
use Rattle.ripng_world.specs.declared.event.Sent.{Sent}
use Rattle.ripng_world.specs.declared.watch.Stopped.{Stopped}
use Rattle.ripng_world.proofs.Each.{each_at_place, each_passing}
use Rattle.ripng_phases.specs.Making.{TellsSteps}
use Rattle.ripng_phases.specs.Phases.{Step, events_of}
use Rattle.ripng_phases.proofs.Begun.{events_on}
use Rattle.ripng_phases.proofs.Tells.{all_on, tells_on, tells_one, tells_watched}
use Rattle.ripng_clock.specs.Agenda.{IsRemoved}
use Rattle.ripng_clock.specs.Carrying.{Asked, carriage_of, is_carried, is_for, receivers_of, takes_part}
use Rattle.ripng_clock.specs.Ending.{AreAlarms, HaveSetOut, IsDue, IsNext, alarm_of}
use Rattle.ripng_clock.specs.Passing.{AreInOrder, HasPassed, IsCutShort, IsLast, IsOwn, IsOwnAt}
use Rattle.ripng_clock.specs.Turning.{AreSteps, AreTurns, IsBroughtBy, IsDone, IsStep, IsTurn, Place, comes_to, place}
use Rattle.ripng_clock.specs.declared.agenda.Agenda.{Agenda}
use Rattle.ripng_clock.specs.declared.due.Course.{Course}
use Rattle.ripng_clock.specs.declared.due.Due.{Due}
use Rattle.ripng_clock.specs.declared.due.Due.TheVariants.{Comes, Ticks}
use Rattle.ripng_clock.specs.declared.refused.RunRefused.{RunRefused}
use Rattle.ripng_clock.specs.declared.refused.RunRefused.TheVariants.{OutOfMemory}
use Rattle.ripng_clock.specs.declared.timetable.Timetable.{Timetable}
use Rattle.ripng_clock.proofs.Alarming.{alarms_next, ticking}
use Rattle.ripng_clock.proofs.Passing.{cut_at, cut_here, last_of_kind, order_on, ordinary, passed_one, waits}

module _ {V : Type 0} (t : V → Told → V → Type 0) (asked : Asked) where
  -- an event is a step
  pub step_made : (p q : Place V) (e : Event) → IsOwnAt asked p.moment e → q.lab.network ≡ p.lab.network → router_of e < length p.lab.network
      → WatchedRun t heard p.lab.network (p.lab.world, p.watch) (e ∷ []) (q.lab.world, q.watch)
      → (lab : LabValue) → lab ≡ q.lab → HaveSetOut asked lab p.moment p.timetable p.next q.next q.timetable → q.next ≡ max p.next (length lab.world.sent) → q.moment ≡ p.moment
      → (router : ℕ) → router ≡ router_of e → q.alarms ≡ slice_set p.alarms router (alarm_of asked lab.world router)
      → (x : Step) × (x.event ≡ e) × IsStep t asked p x q
  step_made p q e own same there run lab lab_is out next_is moment_is router router_is alarms_are =
      let x : (x : Step) × (x.event ≡ e) × TellsSteps t p.lab.network (p.lab.world, p.watch) (x ∷ []) (q.lab.world, q.watch) =
      tells_one t p.lab.network e (ordinary asked e own.0) (p.lab.world, p.watch) (q.lab.world, q.watch) run in (
        x.0,
        x.1,
        record {
          network = same;
          tells = x.2;
          own = subst (IsOwnAt asked p.moment) (sym x.1) own;
          there = subst (λ f. router_of f < length p.lab.network) (sym x.1) there;
          set_out = subst (λ l. HaveSetOut asked l p.moment p.timetable p.next q.next q.timetable) lab_is out;
          next_is = next_is ∙ ap (λ l. max p.next (length l.world.sent)) lab_is;
          moment_is = moment_is;
          alarms_are = alarms_are ∙ ap (λ l. slice_set p.alarms router (alarm_of asked l.world router)) lab_is
              ∙ ap (λ r. slice_set p.alarms r (alarm_of asked q.lab.world r)) (router_is ∙ ap router_of (sym x.1));
        },
      )

  -- ---- steps

  pub steps_on : (steps : List Step) (p mid q : Place V) (x : Step) → AreSteps t asked p steps mid → IsStep t asked mid x q → AreSteps t asked p (steps ++ x ∷ []) q
  steps_on [] p mid q x are is = (q, subst (λ k. IsStep t asked k x q) are is, refl)
  steps_on (y ∷ steps) p mid q x are is = (are.0, are.1, steps_on steps are.0 mid q x are.2 is)

  pub steps_network : (steps : List Step) (p q : Place V) → AreSteps t asked p steps q → q.lab.network ≡ p.lab.network
  steps_network [] p q are = ap (λ k. k.lab.network) are
  steps_network (x ∷ steps) p q are = steps_network steps are.0 q are.2 ∙ are.1.network

  pub steps_moment : (steps : List Step) (p q : Place V) → AreSteps t asked p steps q → q.moment ≡ p.moment
  steps_moment [] p q are = ap (λ k. k.moment) are
  steps_moment (x ∷ steps) p q are = steps_moment steps are.0 q are.2 ∙ are.1.moment_is

  pub steps_links : (steps : List Step) (p q : Place V) → AreSteps t asked p steps q → q.timetable.links ≡ p.timetable.links
  steps_links [] p q are = ap (λ k. k.timetable.links) are
  steps_links (x ∷ steps) p q are = steps_links steps are.0 q are.2 ∙ are.1.set_out.links

  step_alarms : (p q : Place V) (x : Step) → IsStep t asked p x q → AreAlarms asked p.lab p.alarms → AreAlarms asked q.lab q.alarms
  step_alarms p q x is are =
      alarms_next asked p.lab q.lab p.alarms are x.event is.own.0 is.network is.there t p.watch q.watch
      (tells_watched t p.lab.network (x ∷ []) (p.lab.world, p.watch) (q.lab.world, q.watch) is.tells) q.alarms is.alarms_are

  pub steps_alarms : (steps : List Step) (p q : Place V) → AreSteps t asked p steps q → AreAlarms asked p.lab p.alarms → AreAlarms asked q.lab q.alarms
  steps_alarms [] p q are is = subst (λ k. AreAlarms asked k.lab k.alarms) (sym are) is
  steps_alarms (x ∷ steps) p q are is = steps_alarms steps are.0 q are.2 (step_alarms p are.0 x are.1 is)

  module _ (s : LabValue × V) (begin : ℕ) where
    abbrev pub HasPassedTo : Place V → Type 0
    HasPassedTo p = HasPassed t asked s begin p.moment (p.lab, p.watch)

    pub steps_passed : (steps : List Step) (p q : Place V) → AreSteps t asked p steps q → HasPassedTo p → HasPassedTo q
    steps_passed [] p q are is = subst (λ k. HasPassedTo k) (sym are) is
    steps_passed (x ∷ steps) p q are is =
        steps_passed steps are.0 q are.2
        (subst (λ k. HasPassed t asked s begin k (are.0.lab, are.0.watch)) (sym are.1.moment_is)
        (passed_one t asked s begin p.moment (p.lab, p.watch) is x.event are.1.own (are.0.lab, are.0.watch) are.1.network
        (tells_watched t p.lab.network (x ∷ []) (p.lab.world, p.watch) (are.0.lab.world, are.0.watch) are.1.tells)))

  -- ---- turns

  done_alarms : (due : Due) (p q : Place V) (steps : List Step) → IsDone t asked due p steps q → AreAlarms asked p.lab p.alarms → AreAlarms asked q.lab q.alarms
  done_alarms (Ticks router) p q steps done is = steps_alarms steps p q done.0 is
  done_alarms (Comes time number) p q steps done is = subst (λ k. AreAlarms asked k.lab k.alarms) (sym done.5) (steps_alarms steps p done.0 done.1 is)

  done_moment : (due : Due) (p q : Place V) (steps : List Step) → IsDone t asked due p steps q → q.moment ≡ p.moment
  done_moment (Ticks router) p q steps done = steps_moment steps p q done.0
  done_moment (Comes time number) p q steps done = ap (λ k. k.moment) done.5 ∙ steps_moment steps p done.0 done.1

  done_network : (due : Due) (p q : Place V) (steps : List Step) → IsDone t asked due p steps q → q.lab.network ≡ p.lab.network
  done_network (Ticks router) p q steps done = steps_network steps p q done.0
  done_network (Comes time number) p q steps done = ap (λ k. k.lab.network) done.5 ∙ steps_network steps p done.0 done.1

  done_links : (due : Due) (p q : Place V) (steps : List Step) → IsDone t asked due p steps q → q.timetable.links ≡ p.timetable.links
  done_links (Ticks router) p q steps done = steps_links steps p q done.0
  done_links (Comes time number) p q steps done = done.4 ∙ steps_links steps p done.0 done.1

  -- a tick
  pub tick_done : (p q : Place V) (router word : ℕ) → ((x : Step) × (x.event ≡ Tick router p.moment word) × IsStep t asked p x q) → (steps : List Step) × IsDone t asked (Ticks router) p steps q
  tick_done p q router word made = (made.0 ∷ [], ((q, made.2, refl), (word, ap (λ e. e ∷ []) made.1)))

  done_passed : (s : LabValue × V) (begin : ℕ) (due : Due) (p q : Place V) (steps : List Step) → IsDone t asked due p steps q → HasPassedTo s begin p → HasPassedTo s begin q
  done_passed s begin (Ticks router) p q steps done is = steps_passed s begin steps p q done.0 is
  done_passed s begin (Comes time number) p q steps done is = subst (λ k. HasPassedTo s begin k) (sym done.5) (steps_passed s begin steps p done.0 done.1 is)

  pub turns_on : (turns : List (List Step)) (p mid q : Place V) (steps : List Step) → AreTurns t asked p turns mid → IsTurn t asked mid steps q → AreTurns t asked p (turns ++ steps ∷ []) q
  turns_on [] p mid q steps are is = (q, subst (λ k. IsTurn t asked k steps q) are is, refl)
  turns_on (first ∷ turns) p mid q steps are is = (are.0, are.1, turns_on turns are.0 mid q steps are.2 is)

  pub turns_alarms : (turns : List (List Step)) (p q : Place V) → AreTurns t asked p turns q → AreAlarms asked p.lab p.alarms → AreAlarms asked q.lab q.alarms
  turns_alarms [] p q are is = subst (λ k. AreAlarms asked k.lab k.alarms) (sym are) is
  turns_alarms (steps ∷ turns) p q are is = turns_alarms turns are.0 q are.2 (done_alarms are.1.due (record p { moment = are.1.moment }) are.0 steps are.1.done is)

  pub turns_network : (turns : List (List Step)) (p q : Place V) → AreTurns t asked p turns q → q.lab.network ≡ p.lab.network
  turns_network [] p q are = ap (λ k. k.lab.network) are
  turns_network (steps ∷ turns) p q are = turns_network turns are.0 q are.2 ∙ done_network are.1.due (record p { moment = are.1.moment }) are.0 steps are.1.done

  pub turns_in_time : (turns : List (List Step)) (p q : Place V) → AreTurns t asked p turns q → p.moment ≤ asked.until → q.moment ≤ asked.until
  turns_in_time [] p q are le = subst (λ k. k.moment ≤ asked.until) (sym are) le
  turns_in_time (steps ∷ turns) p q are le =
      turns_in_time turns are.0 q are.2 (subst (λ k. k ≤ asked.until) (sym (done_moment are.1.due (record p { moment = are.1.moment }) are.0 steps are.1.done)) are.1.is_next.in_time)

  pub turns_links : (turns : List (List Step)) (p q : Place V) → AreTurns t asked p turns q → q.timetable.links ≡ p.timetable.links
  turns_links [] p q are = ap (λ k. k.timetable.links) are
  turns_links (steps ∷ turns) p q are = turns_links turns are.0 q are.2 ∙ done_links are.1.due (record p { moment = are.1.moment }) are.0 steps are.1.done

  pub turns_passed : (s : LabValue × V) (begin : ℕ) (turns : List (List Step)) (p q : Place V) → AreTurns t asked p turns q → HasPassedTo s begin p → HasPassedTo s begin q
  turns_passed s begin [] p q are is = subst (λ k. HasPassedTo s begin k) (sym are) is
  turns_passed s begin (steps ∷ turns) p q are is =
      turns_passed s begin turns are.0 q are.2
      (done_passed s begin are.1.due (record p { moment = are.1.moment }) are.0 steps are.1.done
      (waits t asked s begin p.moment (p.lab, p.watch) is are.1.moment are.1.is_next.not_before))

-- ---- a run stops at an event

pub stops_at : {V F : Type 0} (t f : V → Told → V → Type 0) (asked : Asked) (e : Event) (now : ℕ) → IsOwnAt asked now e → (why : Stopped RunRefused F) (a b : LabValue × V) → b.0.network ≡ a.0.network
    → IfRefused why (λ refusal. refusal ≡ OutOfMemory) → IsLast t f (λ x. x ≡ e) a.0.network (a.0.world, a.1) why (b.0.world, b.1)
    → (s : LabValue × V) (begin : ℕ) → HasPassed t asked s begin now a → IsCutShort t f asked s begin why b
stops_at t f asked e now own why a b same memory last s begin is =
    cut_at t asked s begin now a is f why b same memory
    (last_of_kind t f (λ x. x ≡ e) (IsOwnAt asked now) a.0.network (a.0.world, a.1) why (b.0.world, b.1) (λ x is_it. subst (IsOwnAt asked now) (sym is_it) own) last)

-- ---- what has come of a datagram so far

-- to the first few of its receivers, or to some of them
pub record IsBroughtTo (datagram moment : ℕ) (loss : ℕ) (receivers : List (ℕ × ℕ)) (events : List Event) : Type 0 where
  pub only_this : AllByRecursion (λ e. (at : ℕ × ℕ) × (e ≡ comes_to datagram moment at)) events
  pub to_all : loss ≡ 0 → events ≡ map (comes_to datagram moment) receivers

module _ (datagram moment loss : ℕ) (receivers : List (ℕ × ℕ)) (i : ℕ) (here : i < length receivers) where
  abbrev pub one : ℕ × ℕ
  one = get_or receivers i (0, 0)

  map_on : (xs : List (ℕ × ℕ)) (x : ℕ × ℕ) → map (comes_to datagram moment) (xs ++ x ∷ []) ≡ map (comes_to datagram moment) xs ++ comes_to datagram moment x ∷ []
  map_on [] x = refl
  map_on (y ∷ xs) x = ap (λ es. comes_to datagram moment y ∷ es) (map_on xs x)

  pub brought_more : (events : List Event) → IsBroughtTo datagram moment loss (take i receivers) events → IsBroughtTo datagram moment loss (take (i + 1) receivers) (events ++ comes_to datagram moment one ∷ [])
  brought_more events is =
      record {
        only_this = all_on (λ e. (at : ℕ × ℕ) × (e ≡ comes_to datagram moment at)) events (comes_to datagram moment one ∷ []) is.only_this ((one, refl), tt);
        to_all = λ none. ap (λ es. es ++ comes_to datagram moment one ∷ []) (is.to_all none) ∙ sym (map_on (take i receivers) one) ∙ ap (map (comes_to datagram moment)) (sym (take_more receivers i (0, 0) here));
      }

  pub brought_less : (loss ≡ 0 → ⊥) → (events : List Event) → IsBroughtTo datagram moment loss (take i receivers) events → IsBroughtTo datagram moment loss (take (i + 1) receivers) events
  brought_less lossy events is = record { only_this = is.only_this; to_all = λ none. absurd (lossy none) }

pub brought_none : (datagram moment loss : ℕ) → IsBroughtTo datagram moment loss [] []
brought_none datagram moment loss = record { only_this = tt; to_all = λ none. refl }

-- ---- a datagram comes to one receiver after another

same_place : {V : Type 0} (a b : LabValue) (v u : V) (t s : Timetable) (c d : Course) → a ≡ b → v ≡ u → t ≡ s → c ≡ d → place a v t c ≡ place b u s d
same_place a b v u t s c d e f g h = ap (λ x. place x v t c) e ∙ ap (λ x. place b x t c) f ∙ ap (λ x. place b u x c) g ∙ ap (λ x. place b u s x) h

-- what was done from a place on
pub record IsBringing {V : Type 0} (t : V → Told → V → Type 0) (asked : Asked) (p : Place V) (datagram moment loss : ℕ) (receivers : List (ℕ × ℕ)) (q : Place V) : Type 0 where
  pub steps : List Step
  pub are : AreSteps t asked p steps q
  pub brought : IsBroughtTo datagram moment loss receivers (events_of steps)

module _ {V : Type 0} (t : V → Told → V → Type 0) (asked : Asked) (p : Place V) (datagram moment loss : ℕ) where
  pub bringing_none : IsBringing t asked p datagram moment loss [] p
  bringing_none = record { steps = []; are = refl; brought = brought_none datagram moment loss }

  module _ (receivers : List (ℕ × ℕ)) (i : ℕ) (here : i < length receivers) (mid : Place V) (is : IsBringing t asked p datagram moment loss (take i receivers) mid) where
    -- it came to one more
    pub bringing_more : (q : Place V) → ((x : Step) × (x.event ≡ comes_to datagram moment (get_or receivers i (0, 0))) × IsStep t asked mid x q) → IsBringing t asked p datagram moment loss (take (i + 1) receivers) q
    bringing_more q made =
        record {
          steps = is.steps ++ made.0 ∷ [];
          are = steps_on t asked is.steps p mid q made.0 is.are made.2;
          brought = subst (IsBroughtTo datagram moment loss (take (i + 1) receivers)) (ap (λ e. events_of is.steps ++ e ∷ []) (sym made.1) ∙ sym (events_on is.steps (made.0 ∷ [])))
              (brought_more datagram moment loss receivers i here (events_of is.steps) is.brought);
        }

    -- or was lost there
    pub bringing_less : (loss ≡ 0 → ⊥) → IsBringing t asked p datagram moment loss (take (i + 1) receivers) mid
    bringing_less lossy = record { steps = is.steps; are = is.are; brought = brought_less datagram moment loss receivers i here lossy (events_of is.steps) is.brought }

  pub bringing_at : (receivers : List (ℕ × ℕ)) (a b : LabValue) (v u : V) (x y : Timetable) (c d : Course) → a ≡ b → v ≡ u → x ≡ y → c ≡ d → IsBringing t asked p datagram moment loss receivers (place b u y d)
      → IsBringing t asked p datagram moment loss receivers (place a v x c)
  bringing_at receivers a b v u x y c d e f g h is = subst (IsBringing t asked p datagram moment loss receivers) (sym (same_place a b v u x y c d e f g h)) is

  -- it came to all
  pub bringing_all : (receivers : List (ℕ × ℕ)) (i : ℕ) → length receivers ≤ i → (q : Place V) → IsBringing t asked p datagram moment loss (take i receivers) q → (lab : LabValue) → lab ≡ p.lab → (d : Sent)
      → slice_get lab.world.sent datagram ≡ Some d → receivers ≡ receivers_of asked lab d → loss ≡ (carriage_of p.timetable lab d).loss
      → (steps : List Step) × AreSteps t asked p steps q × IsBroughtBy asked p.timetable p.lab datagram moment (events_of steps)
  bringing_all receivers i late q is lab same d at are loss_is = (
    is.steps,
    is.are,
    record {
      only_this = is.brought.only_this;
      to_all = λ e here out whole.
          let one : d ≡ e = Some-same d e (sym at ∙ ap (λ l. slice_get l.world.sent datagram) same ∙ here) in
          is.brought.to_all (loss_is ∙ ap (λ l. (carriage_of p.timetable l d).loss) same ∙ ap (λ k. (carriage_of p.timetable p.lab k).loss) one ∙ whole)
          ∙ ap (map (comes_to datagram moment)) (take_all i receivers late ∙ are ∙ ap (λ l. receivers_of asked l d) same ∙ ap (receivers_of asked p.lab) one);
    },
  )

-- it is under way no longer
pub come_done : {V : Type 0} (t : V → Told → V → Type 0) (asked : Asked) (p mid q : Place V) (time datagram : ℕ) → ((steps : List Step) × AreSteps t asked p steps mid × IsBroughtBy asked p.timetable p.lab datagram p.moment (events_of steps))
    → IsRemoved mid.timetable.under_way time datagram q.timetable.under_way → q.timetable.links ≡ mid.timetable.links → q ≡ record mid { timetable = q.timetable }
    → (steps : List Step) × IsDone t asked (Comes time datagram) p steps q
come_done t asked p mid q time datagram came removed links same = (came.0, (mid, came.1, came.2, removed, links, same))

-- or it does not get on its way
pub not_carried : {V : Type 0} (t : V → Told → V → Type 0) (asked : Asked) (p : Place V) (datagram moment : ℕ) (lab : LabValue) → lab ≡ p.lab
    → ((d : Sent) → slice_get lab.world.sent datagram ≡ Some d → is_carried asked lab datagram d ≡ false) → (steps : List Step) × AreSteps t asked p steps p × IsBroughtBy asked p.timetable p.lab datagram moment (events_of steps)
not_carried t asked p datagram moment lab same never = (
  [],
  refl,
  record {
    only_this = tt;
    to_all = λ d at out whole. absurd (clash (sym out ∙ ap (λ l. is_carried asked l datagram d) (sym same) ∙ never d (ap (λ l. slice_get l.world.sent datagram) same ∙ at)));
  },
)
  where
    clash : true ≡ false → ⊥
    clash e = cc

-- a receiver takes part
pub receiver_part : (asked : Asked) (lab : LabValue) (d : Sent) (rs : List (ℕ × ℕ)) → rs ≡ receivers_of asked lab d → (i : ℕ) → i < length rs → IsTrue (takes_part asked (get_or rs i (0, 0)).0)
receiver_part asked lab d rs are i here =
    each_at_place (λ (at : ℕ × ℕ). IsTrue (takes_part asked at.0)) rs
    (subst (AllByRecursion (λ (at : ℕ × ℕ). IsTrue (takes_part asked at.0))) (sym are)
    (each_passing (λ (at : ℕ × ℕ). IsTrue (takes_part asked at.0)) (λ at. ⊤) (λ at. takes_part asked at.0 && is_for lab.world d.to at.0 at.1) (λ at _ passes. left (takes_part asked at.0) (is_for lab.world d.to at.0 at.1) passes)
    (filter (is_other lab.network d) (interfaces_of lab.network)) (any (filter (is_other lab.network d) (interfaces_of lab.network))))) i (get_or rs i (0, 0)) (slice_get-get_or rs i (0, 0) here)
  where
    left : (a b : Bool) → (a && b) ≡ true → a ≡ true
    left true b e = refl
    left false b e = e

    any : (xs : List (ℕ × ℕ)) → AllByRecursion (λ (at : ℕ × ℕ). ⊤) xs
    any [] = tt
    any (x ∷ xs) = (tt, any xs)

-- the router that ticks takes part
pub due_part : (asked : Asked) (lab : LabValue) (alarms : List (Option ℕ)) (under_way : Agenda) (now moment : ℕ) (due : Due) → AreAlarms asked lab alarms → IsDue alarms under_way now moment due
    → (router : ℕ) → due ≡ Ticks router → IsTrue (takes_part asked router)
due_part asked lab alarms under_way now moment due are is router same =
    let k : (time : ℕ) × (slice_get alarms router ≡ Some (Some time)) × (moment ≡ max now time) = subst (IsDue alarms under_way now moment) same is in
    ticking asked lab.world router k.0 (Some-same (alarm_of asked lab.world router) (Some k.0) (sym (are.set router (subst (λ n. router < n) are.as_many (slice_get_within alarms router (Some k.0) k.1))) ∙ k.1))
