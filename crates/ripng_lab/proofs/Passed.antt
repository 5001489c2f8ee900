-- Time that passes: what is told of it, and where it stops.
use Rattle.std.specs.Prelude.{⊤}
use Rattle.std.proofs.Common.{◌≡◌, ℕ, List, [], ◌∷◌, ◌++◌, Bool, Option, Some, Result, Ok, Err, OnOk, ap, map, refl, subst, sym}
use Rattle.ripng_clock.specs.Carrying.{Asked}
use Rattle.ripng_clock.specs.Passing.{IsOwn, IsRun, IsRunInPart}
use Rattle.ripng_clock.specs.declared.refused.RunRefused.{RunRefused}
use Rattle.ripng_clock.specs.declared.timetable.Timetable.{Timetable}
use Rattle.ripng_phases.specs.Making.{TellsSteps}
use Rattle.ripng_phases.specs.Phases.{Step, events_of}
use Rattle.ripng_world.specs.Labs.{LabValue}
use Rattle.ripng_world.specs.Network.{Network}
use Rattle.ripng_world.specs.Watching.{Told, wanting}
use Rattle.ripng_world.specs.World.{World, Event, Deliver, Stranger, Tick, Restart, Shutdown, LinkDown, LinkUp, Reconfigure}
use Rattle.ripng_world.specs.declared.watch.Stopped.{Stopped}
use Rattle.ripng_world.specs.declared.watch.Stopped.TheVariants.{Refused as IsRefused, Failed as HasFailed}
use Rattle.ripng_lab.specs.Asides.{Aside}
use Rattle.ripng_lab.specs.Below.{AllByRecursion, Error}
use Rattle.ripng_lab.specs.Doing.{HasDone, InTurn, IsEvent, IsNote, IsTickOrDelivery, PassesUntil}
use Rattle.ripng_lab.specs.Passing.{IsStopOfRun}
use Rattle.ripng_lab.specs.ScriptWatching.{Telling, Does, Notes, TellsAll, IsToldOfLab, IsToldUntil, IsToldUnless, HasTold, is_failure}
use Rattle.ripng_lab.specs.declared.stop.Stop.{Stop}
use Rattle.ripng_lab.proofs.ScriptWatching.{all_on, has_told, run_told, steps_told, told_on, until_on, until_one}

-- the tellings of steps
abbrev pub tellings_of : List Step → List Telling
tellings_of steps = map (λ x. Does x.event x.answer) steps

in_turn : (steps : List Step) → InTurn IsEvent (events_of steps) (tellings_of steps)
in_turn [] = refl
in_turn (x ∷ steps) = (Does x.event x.answer ∷ [], tellings_of steps, (x.answer, refl), in_turn steps, refl)

-- an event of a run is a tick or a delivery
of_kind : (asked : Asked) (e : Event) → IsOwn asked e → IsTickOrDelivery e
of_kind asked (Tick router now word) is = tt
of_kind asked (Deliver datagram router iface now) is = tt
of_kind asked (Stranger router x) is = is
of_kind asked (Restart router now) is = is
of_kind asked (Reconfigure router now c) is = is
of_kind asked (Shutdown router now) is = is
of_kind asked (LinkDown router now iface) is = is
of_kind asked (LinkUp router now iface) is = is

of_kinds : (asked : Asked) (es : List Event) → AllByRecursion (IsOwn asked) es → AllByRecursion IsTickOrDelivery es
of_kinds asked [] all = tt
of_kinds asked (e ∷ es) all = (of_kind asked e all.0, of_kinds asked es all.1)

module _ {V : Type 0} (st : V → LabValue → ℕ → V → Type 0) (t f : V → Told → V → Type 0) (n : V → Aside → V → Type 0) where
  steps_all : (net : Network) (steps : List Step) (w w' : World) (v v' : V) → TellsSteps t net (w, v) steps (w', v')
      → TellsAll st t n (Some (record { network = net; world = w }), v) (tellings_of steps) (Some (record { network = net; world = w' }), v')
  steps_all net [] w w' v v' is = ap (λ (s : World × V). (Some (record { network = net; world = s.0 }), s.1)) is
  steps_all net (x ∷ steps) w w' v v' is = (
    (Some (record { network = net; world = x.after }), is.0),
    (record { network = net; world = w }, refl, record { network = net; world = x.after }, refl, refl, is.2, is.4),
    steps_all net steps x.after w' is.0 v' is.5,
  )

  run_all : (lab lab' : LabValue) (v v' : V) (asked : Asked) (timetable : Timetable) (ran : IsRun t asked timetable (lab, v) (lab', v'))
      → TellsAll st t n (Some lab, v) (tellings_of ran.passed.steps) (Some lab', v')
  run_all lab lab' v v' asked timetable ran =
      subst (λ (net : Network). TellsAll st t n (Some lab, v) (tellings_of ran.passed.steps) (Some (record { network = net; world = lab'.world }), v')) (sym ran.passed.network)
      (steps_all lab.network ran.passed.steps lab.world lab'.world v v' ran.passed.tells)

  pub ran_told : (lab lab' : LabValue) (v v' : V) (asked : Asked) (timetable : Timetable) → IsRun t asked timetable (lab, v) (lab', v') → IsToldOfLab st t n (Some lab, v) (Some lab', v')
  ran_told lab lab' v v' asked timetable ran = (tellings_of ran.passed.steps, run_all lab lab' v v' asked timetable ran)

  -- and then that is noted
  pub ran_done : {X E : Type 0} (r : Result X E) (lab lab' : LabValue) (v mid v' : V) (asked : Asked) (timetable : Timetable) → IsRun t asked timetable (lab, v) (lab', mid)
      → OnOk r (HasDone IsNote st t n (Some lab', mid) (Some lab', v')) → OnOk r (HasDone (PassesUntil asked.until) st t n (Some lab, v) (Some lab', v'))
  ran_done (Ok x) lab lab' v mid v' asked timetable ran done = (
    tellings_of ran.passed.steps ++ done.0,
    (
      ran.begin,
      events_of ran.passed.steps,
      of_kinds asked (events_of ran.passed.steps) ran.passed.own,
      ran.passed.in_order,
      tellings_of ran.passed.steps,
      in_turn ran.passed.steps,
      ap (λ (us : List Telling). tellings_of ran.passed.steps ++ us) done.1,
    ),
    all_on st t f n (tellings_of ran.passed.steps) done.0 (Some lab, v) (Some lab', mid) (Some lab', v') (run_all lab lab' v mid asked timetable ran) done.2,
  )
  ran_done (Err e) lab lab' v mid v' asked timetable ran done = tt

  -- time stops: all that was done is told
  none : (lab lab' : LabValue) (v v' : V) (asked : Asked) (timetable : Timetable) (why : RunRefused) → IsRunInPart {F = Error} t f asked timetable (lab, v) (IsRefused why) (lab', v')
      → IsToldOfLab st t n (Some lab, v) (Some lab', v')
  none lab lab' v v' asked timetable why p =
      subst (λ (net : Network). IsToldOfLab st t n (Some lab, v) (Some (record { network = net; world = lab'.world }), v')) (sym p.cut.network)
      (told_on st t f n (Some lab, v) (Some (record { network = lab.network; world = p.cut.before.0 }), p.cut.before.1) (Some (record { network = lab.network; world = lab'.world }), v')
      (steps_told st t f n lab.network p.cut.steps lab.world p.cut.before.0 v p.cut.before.1 p.cut.tells)
      (run_told st t f n lab.network p.cut.ends.last p.cut.before.0 lab'.world p.cut.before.1 v' wanting p.cut.ends.ends.1))

  -- up to where the observer failed
  one : (lab lab' : LabValue) (v v' : V) (asked : Asked) (timetable : Timetable) (error : Error) → IsRunInPart t f asked timetable (lab, v) (HasFailed error) (lab', v')
      → IsToldUntil st t f n (Some lab, v) (Some lab', v')
  one lab lab' v v' asked timetable error p =
      subst (λ (net : Network). IsToldUntil st t f n (Some lab, v) (Some (record { network = net; world = lab'.world }), v')) (sym p.cut.network)
      (until_on st t f n (Some lab, v) (Some (record { network = lab.network; world = p.cut.before.0 }), p.cut.before.1) (Some (record { network = lab.network; world = lab'.world }), v')
      (steps_told st t f n lab.network p.cut.steps lab.world p.cut.before.0 v p.cut.before.1 p.cut.tells)
      (until_one st t f n lab.network p.cut.ends.last p.cut.before.0 lab'.world p.cut.before.1 v'
      (record { done = []; last = p.cut.ends.last; events_are = refl; as_many = p.cut.ends.ends.0; before = p.cut.before; run = refl; failed = p.cut.ends.ends.1 })))

  pub run_stopped : (lab lab' : LabValue) (v v' : V) (asked : Asked) (timetable : Timetable) (why : Stopped RunRefused Error) (stop : Stop) → IsStopOfRun why stop
      → IsRunInPart t f asked timetable (lab, v) why (lab', v') → HasTold {X = ⊤} (Err stop) st t f n (Some lab, v) (Some lab', v')
  run_stopped lab lab' v v' asked timetable (IsRefused refused) stop is made =
      has_told st t f n (Err stop) (Some lab, v) (Some lab', v') (none lab lab' v v' asked timetable refused made)
  run_stopped lab lab' v v' asked timetable (HasFailed error) stop is made =
      subst (λ (b : Bool). IsToldUnless b st t f n (Some lab, v) (Some lab', v')) (sym is) (one lab lab' v v' asked timetable error made)
