-- What a watcher is told, one thing after another.
use Rattle.std.specs.Prelude.{⊤}
use Rattle.std.proofs.Common.{◌≡◌, ◌⊎◌, inl, inr, ℕ, List, [], ◌∷◌, ◌++◌, arith, length, Bool, true, false, Option, Some, None, Result, Ok, Err, IsErrAnd, OnErr, OnOk, refl, ap, sym, subst}
use Rattle.router_core.specs.declared.answer.Answer.{Answer}
use Rattle.ripng_world.specs.Asked.{Asked}
use Rattle.ripng_world.specs.Labs.{LabValue, HappensGiving}
use Rattle.router_core.specs.Received.{Received}
use Rattle.ripng_world.specs.Lying.{LiesGiving}
use Rattle.ripng_world.specs.Network.{Network}
use Rattle.ripng_world.specs.Rounds.{events_of_rounds}
use Rattle.ripng_world.specs.Watching.{Told, WatchedRun, WatchedUntil, WatchedInPart, AreMadeTold, RoundsToldInPart, any, telling, wanting}
use Rattle.ripng_world.specs.World.{World, Event, Stranger, Happens}
use Rattle.ripng_world.specs.declared.watch.Stopped.{Stopped}
use Rattle.ripng_world.specs.declared.watch.Stopped.TheVariants.{Refused as IsRefused, Failed as HasFailed}
use Rattle.ripng_world.proofs.Watched.{given_told}
use Rattle.ripng_phases.specs.Making.{AreMadeInPart, AreMadePhases, TellsSteps}
use Rattle.ripng_phases.specs.Phases.{Step, steps_of}
use Rattle.ripng_phases.specs.declared.refused.PhaseRefused.{PhaseRefused}
use Rattle.ripng_phases.specs.declared.refused.PhaseRefused.TheVariants.{NoUpdateInTime, PastLastMoment, OutOfMemory}
use Rattle.ripng_lab.specs.Phasing.{IsStopAt, StopsInPhase}
use Rattle.ripng_lab.specs.Asides.{Aside, NextLine, Prints, CountsPhases, ShowsCounts, Lie, Broken}
use Rattle.ripng_lab.specs.Below.{Numbers}
use Rattle.ripng_lab.specs.ScriptWatching.{Telling, Starts, Does, Turns, Notes, Counts, Shows, Deceives, StartsAt, TellsAll, IsToldOfLab, FailsAtEvent, IsToldUntil, IsToldUnless, HasTold, is_failure, has_failed}
use Rattle.ripng_lab.specs.declared.stop.Stop.{Stop}
use Rattle.ripng_lab.specs.declared.stop.Stop.TheVariants.{Refused, Unmet, Failed}
use Rattle.std.specs.declared.io.Error.{Error}

module _ {V : Type 0} (st : V → LabValue → ℕ → V → Type 0) (t f : V → Told → V → Type 0) (n : V → Aside → V → Type 0) where
  pub all_on : (ts us : List Telling) (s mid s' : Option LabValue × V) → TellsAll st t n s ts mid → TellsAll st t n mid us s' → TellsAll st t n s (ts ++ us) s'
  all_on [] us s mid s' first rest = subst (λ (v : Option LabValue × V). TellsAll st t n v us s') first rest
  all_on (x ∷ ts) us s mid s' first rest = (first.0, first.1, all_on ts us first.0 mid s' first.2 rest)

  -- nothing is told
  pub untold : (s : Option LabValue × V) → IsToldOfLab st t n s s
  untold s = ([], refl)

  -- one telling after another
  pub told_on : (s mid s' : Option LabValue × V) → IsToldOfLab st t n s mid → IsToldOfLab st t n mid s' → IsToldOfLab st t n s s'
  told_on s mid s' first rest = (first.0 ++ rest.0, all_on first.0 rest.0 s mid s' first.1 rest.1)

  pub until_on : (s mid s' : Option LabValue × V) → IsToldOfLab st t n s mid → IsToldUntil st t f n mid s' → IsToldUntil st t f n s s'
  until_on s mid s' first rest = (rest.0, told_on s mid rest.0 first rest.1, rest.2)

  -- what told all has told all until then
  pub told_until : (s s' : Option LabValue × V) → IsToldOfLab st t n s s' → IsToldUntil st t f n s s'
  told_until s s' told = (s', told, inl (refl, inl refl))

  -- memory or the watcher failed, and nothing happened
  pub failed_still : (lab : Option LabValue) (v v' : V) → (v' ≡ v) ⊎ n v Broken v' → IsToldUntil st t f n (lab, v) (lab, v')
  failed_still lab v v' why = ((lab, v), untold (lab, v), inl (refl, why))

  pub unless : (b : Bool) (s s' : Option LabValue × V) → IsToldOfLab st t n s s' → IsToldUnless b st t f n s s'
  unless false s s' told = told
  unless true s s' told = told_until s s' told

  pub unless_on : (b : Bool) (s mid s' : Option LabValue × V) → IsToldOfLab st t n s mid → IsToldUnless b st t f n mid s' → IsToldUnless b st t f n s s'
  unless_on false s mid s' first rest = told_on s mid s' first rest
  unless_on true s mid s' first rest = until_on s mid s' first rest

  -- whatever the outcome is
  pub has_told : (r : Result ⊤ Stop) (s s' : Option LabValue × V) → IsToldOfLab st t n s s' → HasTold r st t f n s s'
  has_told r s s' told = unless (has_failed r) s s' told

  pub has_told_on : (r : Result ⊤ Stop) (s mid s' : Option LabValue × V) → IsToldOfLab st t n s mid → HasTold r st t f n mid s' → HasTold r st t f n s s'
  has_told_on r s mid s' first rest = unless_on (has_failed r) s mid s' first rest

  -- another outcome that fails where the first does
  pub has_told_as : (r : Result ⊤ Stop) (q : Result ⊤ Stop) (s s' : Option LabValue × V) → has_failed q ≡ has_failed r → HasTold r st t f n s s' → HasTold q st t f n s s'
  has_told_as r q s s' same told = subst (λ (b : Bool). IsToldUnless b st t f n s s') (sym same) told

  -- a line ends a script: it has told all, unless it failed
  pub line_ends : (b : Bool) (k : Stop) (s mid s' : Option LabValue × V) → is_failure k ≡ b → IsToldOfLab st t n s mid → HasTold {X = ⊤} (Err k) st t f n mid s' → IsToldUnless b st t f n s s'
  line_ends b k s mid s' is first told = subst (λ (a : Bool). IsToldUnless a st t f n s s') is (unless_on (is_failure k) s mid s' first told)

  -- the watcher fails after all that was told
  pub on_fault : {X : Type 0} (r : Result X Error) (s : Option LabValue × V) (lab : Option LabValue) (v v' : V) → IsToldOfLab st t n s (lab, v) → n v Broken v'
      → OnErr r ((end : Option LabValue) × IsToldUntil st t f n s (end, v'))
  on_fault (Ok x) s lab v v' told broken = tt
  on_fault (Err e) s lab v v' told broken = (lab, until_on s (lab, v) (lab, v') told (failed_still lab v v' (inr broken)))

  -- an error that is handed on
  pub handed : (r : Result ⊤ Stop) (from : Stop) (s s' : Option LabValue × V) → IsErrAnd r (λ e. e ≡ from) → HasTold {X = ⊤} (Err from) st t f n s s' → HasTold r st t f n s s'
  handed (Ok x) from s s' is told = absurd is
  handed (Err e) from s s' is told = subst (λ (b : Bool). IsToldUnless b st t f n s s') (sym (ap is_failure is)) told

  pub handed_on : (r : Result ⊤ Stop) (from : Stop) (s mid s' : Option LabValue × V) → IsErrAnd r (λ e. e ≡ from) → IsToldOfLab st t n s mid → HasTold {X = ⊤} (Err from) st t f n mid s'
      → HasTold r st t f n s s'
  handed_on r from s mid s' is first told = handed r from s s' is (has_told_on (Err from) s mid s' first told)

  -- the watcher fails where nothing happens
  pub fault_told : (r : Result ⊤ Stop) (error : Error) (lab : Option LabValue) (v v' : V) → IsErrAnd r (λ e. e ≡ Failed error) → n v Broken v' → HasTold r st t f n (lab, v) (lab, v')
  fault_told (Ok x) error lab v v' is broken = absurd is
  fault_told (Err e) error lab v v' is broken = subst (λ (b : Bool). IsToldUnless b st t f n (lab, v) (lab, v')) (sym (ap is_failure is)) (failed_still lab v v' (inr broken))

  -- the watcher fails, after all that is told until then
  pub failed_until : (r : Result ⊤ Stop) (error : Error) (s s' : Option LabValue × V) → IsErrAnd r (λ e. e ≡ Failed error) → IsToldUntil st t f n s s' → HasTold r st t f n s s'
  failed_until (Ok x) error s s' is until = absurd is
  failed_until (Err e) error s s' is until = subst (λ (b : Bool). IsToldUnless b st t f n s s') (sym (ap is_failure is)) until

  -- a lab did not start: the watcher was told nothing, or failed at that
  pub not_begun : (r : Result ⊤ Stop) (from : Stop) (lab : Option LabValue) (v v' : V) → IsErrAnd r (λ e. e ≡ from) → (v' ≡ v) ⊎ ((is_failure from ≡ true) × n v Broken v')
      → HasTold r st t f n (lab, v) (lab, v')
  not_begun r from lab v v' is why = handed r from (lab, v) (lab, v') is (by why)
    where
      by : (v' ≡ v) ⊎ ((is_failure from ≡ true) × n v Broken v') → HasTold {X = ⊤} (Err from) st t f n (lab, v) (lab, v')
      by (inl same) = subst (λ (u : V). HasTold {X = ⊤} (Err from) st t f n (lab, v) (lab, u)) (sym same) (has_told (Err from) (lab, v) (lab, v) (untold (lab, v)))
      by (inr broken) = subst (λ (b : Bool). IsToldUnless b st t f n (lab, v) (lab, v')) (sym broken.0) (failed_still lab v v' (inr broken.1))

  -- from another name of the lab
  pub told_from : (r : Result ⊤ Stop) (from lab : Option LabValue) (v : V) (s' : Option LabValue × V) → from ≡ lab → HasTold r st t f n (lab, v) s' → HasTold r st t f n (from, v) s'
  told_from r from lab v s' same told = subst (λ (l : Option LabValue). HasTold r st t f n (l, v) s') (sym same) told

  pub told_to : (r : Result ⊤ Stop) (s : Option LabValue × V) (to lab : Option LabValue) (v : V) → to ≡ lab → HasTold r st t f n s (lab, v) → HasTold r st t f n s (to, v)
  told_to r s to lab v same told = subst (λ (l : Option LabValue). HasTold r st t f n s (l, v)) (sym same) told

  -- nothing happened, and the lab has another name
  pub untold_as : (r : Result ⊤ Stop) (lab lab' : Option LabValue) (v : V) → lab' ≡ lab → HasTold r st t f n (lab, v) (lab', v)
  untold_as r lab lab' v same = told_to r (lab, v) lab' lab v same (has_told r (lab, v) (lab, v) (untold (lab, v)))

  -- ---- one telling

  pub noted : (lab : Option LabValue) (v v' : V) → n v Prints v' → IsToldOfLab st t n (lab, v) (lab, v')
  noted lab v v' note = (Notes ∷ [], ((lab, v'), (refl, note), refl))

  pub noted_on : (s : Option LabValue × V) (lab : Option LabValue) (v v' : V) → IsToldOfLab st t n s (lab, v) → n v Prints v' → IsToldOfLab st t n s (lab, v')
  noted_on s lab v v' told note = told_on s (lab, v) (lab, v') told (noted lab v v' note)

  -- the same, or nothing
  pub ended_on : (s : Option LabValue × V) (lab : Option LabValue) (v v' : V) → IsToldOfLab st t n s (lab, v) → (v' ≡ v) ⊎ n v Prints v' → IsToldOfLab st t n s (lab, v')
  ended_on s lab v v' told (inl same) = subst (λ (w : V). IsToldOfLab st t n s (lab, w)) (sym same) told
  ended_on s lab v v' told (inr note) = noted_on s lab v v' told note

  pub counted_on : (s : Option LabValue × V) (lab : Option LabValue) (v v' : V) (phases : ℕ) (last : Option ℕ) → IsToldOfLab st t n s (lab, v) → n v (CountsPhases phases last) v'
      → IsToldOfLab st t n s (lab, v')
  counted_on s lab v v' phases last told note = told_on s (lab, v) (lab, v') told (Counts phases last ∷ [], ((lab, v'), (refl, note), refl))

  pub shown : (lab : Option LabValue) (v v' : V) (numbers : Numbers) → n v (ShowsCounts numbers) v' → IsToldOfLab st t n (lab, v) (lab, v')
  shown lab v v' numbers note = (Shows numbers ∷ [], ((lab, v'), (refl, note), refl))

  pub turned_on : (s : Option LabValue × V) (lab : Option LabValue) (v v' : V) (number : ℕ) → IsToldOfLab st t n s (lab, v) → n v (NextLine number) v' → IsToldOfLab st t n s (lab, v')
  turned_on s lab v v' number told note = told_on s (lab, v) (lab, v') told (Turns number ∷ [], ((lab, v'), (refl, note), refl))

  pub started : (lab : LabValue) (now : ℕ) (v v' : V) → StartsAt lab now → st v lab now v' → IsToldOfLab st t n (None, v) (Some lab, v')
  started lab now v v' starts told = (Starts now ∷ [], ((Some lab, v'), (refl, lab, refl, starts, told), refl))

  -- ---- what a lab does

  pub run_told : (net : Network) (es : List Event) (w w' : World) (v v' : V) (fits : World → Event → Answer → Type 0) → WatchedRun t fits net (w, v) es (w', v')
      → IsToldOfLab st t n (Some (record { network = net; world = w }), v) (Some (record { network = net; world = w' }), v')
  run_told net [] w w' v v' fits is = ([], ap (λ (s : World × V). (Some (record { network = net; world = s.0 }), s.1)) is)
  run_told net (e ∷ es) w w' v v' fits is =
      let mid = is.0 in
      let rest = run_told net es mid.0 w' mid.1 v' fits is.5 in (
        Does e is.1 ∷ rest.0,
        (
          (Some (record { network = net; world = mid.0 }), mid.1),
          (record { network = net; world = w }, refl, record { network = net; world = mid.0 }, refl, refl, is.3, is.4),
          rest.1,
        ),
      )

  -- of a lab that keeps its network
  pub lab_told : (lab lab' : LabValue) (es : List Event) (v v' : V) (fits : World → Event → Answer → Type 0) → lab'.network ≡ lab.network
      → WatchedRun t fits lab.network (lab.world, v) es (lab'.world, v') → IsToldOfLab st t n (Some lab, v) (Some lab', v')
  lab_told lab lab' es v v' fits same run =
      subst (λ (net : Network). IsToldOfLab st t n (Some lab, v) (Some (record { network = net; world = lab'.world }), v')) (sym same) (run_told lab.network es lab.world lab'.world v v' fits run)

  -- so many tellings fail: none, or one
  pub until_none : (net : Network) (es : List Event) (w w' : World) (v v' : V) → WatchedUntil t f 0 net (w, v) es (w', v')
      → IsToldOfLab st t n (Some (record { network = net; world = w }), v) (Some (record { network = net; world = w' }), v')
  until_none net es w w' v v' u = by_last u.last u.as_many u.failed
    where
      by_last : (last : List Event) → length last ≡ 0 → WatchedRun f any net u.before last (w', v')
          → IsToldOfLab st t n (Some (record { network = net; world = w }), v) (Some (record { network = net; world = w' }), v')
      by_last [] none same = run_told net u.done w w' v v' any (subst (λ (s : World × V). WatchedRun t any net (w, v) u.done s) (sym same) u.run)
      by_last (e ∷ last) none failed = absurd (omega (arith, none))

  pub until_one : (net : Network) (es : List Event) (w w' : World) (v v' : V) → WatchedUntil t f 1 net (w, v) es (w', v')
      → IsToldUntil st t f n (Some (record { network = net; world = w }), v) (Some (record { network = net; world = w' }), v')
  until_one net es w w' v v' u = (
    (Some (record { network = net; world = u.before.0 }), u.before.1),
    run_told net u.done w u.before.0 v u.before.1 any u.run,
    inr (inl (by_last u.last u.as_many u.failed)),
  )
    where
      by_last : (last : List Event) → length last ≡ 1 → WatchedRun f any net u.before last (w', v')
          → FailsAtEvent f (Some (record { network = net; world = u.before.0 }), u.before.1) (Some (record { network = net; world = w' }), v')
      by_last [] none failed = absurd (omega (arith, none))
      by_last (e ∷ []) one failed =
          let ends = failed.5 in (
            record { network = net; world = u.before.0 },
            refl,
            record { network = net; world = w' },
            refl,
            refl,
            e,
            failed.1,
            subst (λ (s : World × V). Happens net u.before.0 e failed.1 s.0) (sym ends) failed.3,
            subst (λ (s : World × V). f u.before.1 (telling net u.before.0 e failed.1 s.0) s.1) (sym ends) failed.4,
          )
      by_last (e ∷ d ∷ last) more failed = absurd (omega (arith, more))

  -- one step
  pub step_told : (lab lab' : LabValue) (e : Event) (given : Answer) (first : ℕ) (v v' : V) (happens : HappensGiving lab e given lab'.world) → lab'.network ≡ lab.network
      → first ≡ length lab.world.sent → t v (record { lab = lab'; event = e; answer = given; first = first }) v' → IsToldOfLab st t n (Some lab, v) (Some lab', v')
  step_told lab lab' e given first v v' happens same first_is told = (
    Does e happens.0 ∷ [],
    (
      (Some lab', v'),
      (lab, refl, lab', refl, same, happens.1, given_told t lab lab' e given first v v' happens same first_is told),
      refl,
    ),
  )

  -- a lie, and one of which the telling fails
  pub lied : (lab lab' : LabValue) (router : ℕ) (x : Received) (given : Answer) (first : ℕ) (v v' : V) (lies : LiesGiving lab router x given lab'.world) → lab'.network ≡ lab.network
      → first ≡ length lab.world.sent → n v (Lie (record { lab = lab'; event = Stranger router x; answer = given; first = first })) v' → IsToldOfLab st t n (Some lab, v) (Some lab', v')
  lied lab lab' router x given first v v' lies same first_is told = (
    Deceives router x lies.0 ∷ [],
    (
      (Some lab', v'),
      (
        lab,
        refl,
        lab',
        refl,
        same,
        lies.1,
        subst (λ (k : ℕ). n v (Lie (record { lab = record { network = lab.network; world = lab'.world }; event = Stranger router x; answer = record lies.0 { sends = [] }; first = k })) v') first_is
            (subst (λ (a : Answer). n v (Lie (record { lab = record { network = lab.network; world = lab'.world }; event = Stranger router x; answer = a; first = first })) v') lies.2
            (subst (λ (net : Network). n v (Lie (record { lab = record { network = net; world = lab'.world }; event = Stranger router x; answer = given; first = first })) v') same told)),
      ),
      refl,
    ),
  )

  pub lie_failed : (lab lab' : LabValue) (router : ℕ) (x : Received) (given : Answer) (v v' : V) → LiesGiving lab router x given lab'.world → lab'.network ≡ lab.network → n v Broken v'
      → IsToldUntil st t f n (Some lab, v) (Some lab', v')
  lie_failed lab lab' router x given v v' lies same broken =
      ((Some lab, v), untold (Some lab, v), inr (inr (lab, refl, lab', refl, same, router, x, lies.0, lies.1, broken)))

  -- some of a run
  pub part_none : (lab lab' : LabValue) (es : List Event) (v v' : V) (k : ℕ) → k ≡ 0 → lab'.network ≡ lab.network → WatchedInPart t f k lab.network (lab.world, v) es (lab'.world, v')
      → IsToldOfLab st t n (Some lab, v) (Some lab', v')
  part_none lab lab' es v v' k few same stops =
      let p = subst (λ (m : ℕ). WatchedInPart t f m lab.network (lab.world, v) es (lab'.world, v')) few stops in
      subst (λ (net : Network). IsToldOfLab st t n (Some lab, v) (Some (record { network = net; world = lab'.world }), v')) (sym same)
      (until_none lab.network p.part lab.world lab'.world v v' p.run)

  pub part_one : (lab lab' : LabValue) (es : List Event) (v v' : V) (k : ℕ) → k ≡ 1 → lab'.network ≡ lab.network → WatchedInPart t f k lab.network (lab.world, v) es (lab'.world, v')
      → IsToldUntil st t f n (Some lab, v) (Some lab', v')
  part_one lab lab' es v v' k few same stops =
      let p = subst (λ (m : ℕ). WatchedInPart t f m lab.network (lab.world, v) es (lab'.world, v')) few stops in
      subst (λ (net : Network). IsToldUntil st t f n (Some lab, v) (Some (record { network = net; world = lab'.world }), v')) (sym same)
      (until_one lab.network p.part lab.world lab'.world v v' p.run)

  -- rounds
  pub rounds_told : (lab lab' : LabValue) (asked : List Asked) (v v' : V) → lab'.network ≡ lab.network → AreMadeTold t lab.network (lab.world, v) asked (lab'.world, v')
      → IsToldOfLab st t n (Some lab, v) (Some lab', v')
  rounds_told lab lab' asked v v' same made = lab_told lab lab' (events_of_rounds made.0) v v' any same made.2

  pub rounds_none : (lab lab' : LabValue) (asked : List Asked) (v v' : V) (k : ℕ) → k ≡ 0 → lab'.network ≡ lab.network → RoundsToldInPart t f k lab.network (lab.world, v) asked (lab'.world, v')
      → IsToldOfLab st t n (Some lab, v) (Some lab', v')
  rounds_none lab lab' asked v v' k few same stops =
      let p = subst (λ (m : ℕ). RoundsToldInPart t f m lab.network (lab.world, v) asked (lab'.world, v')) few stops in
      subst (λ (net : Network). IsToldOfLab st t n (Some lab, v) (Some (record { network = net; world = lab'.world }), v')) (sym same)
      (told_on (Some lab, v) (Some (record { network = lab.network; world = p.begin.0 }), p.begin.1) (Some (record { network = lab.network; world = lab'.world }), v')
      (run_told lab.network (events_of_rounds p.told.0) lab.world p.begin.0 v p.begin.1 any p.told.2)
      (until_none lab.network p.in_part.events p.begin.0 lab'.world p.begin.1 v' p.in_part.run))

  pub rounds_one : (lab lab' : LabValue) (asked : List Asked) (v v' : V) (k : ℕ) → k ≡ 1 → lab'.network ≡ lab.network → RoundsToldInPart t f k lab.network (lab.world, v) asked (lab'.world, v')
      → IsToldUntil st t f n (Some lab, v) (Some lab', v')
  rounds_one lab lab' asked v v' k few same stops =
      let p = subst (λ (m : ℕ). RoundsToldInPart t f m lab.network (lab.world, v) asked (lab'.world, v')) few stops in
      subst (λ (net : Network). IsToldUntil st t f n (Some lab, v) (Some (record { network = net; world = lab'.world }), v')) (sym same)
      (until_on (Some lab, v) (Some (record { network = lab.network; world = p.begin.0 }), p.begin.1) (Some (record { network = lab.network; world = lab'.world }), v')
      (run_told lab.network (events_of_rounds p.told.0) lab.world p.begin.0 v p.begin.1 any p.told.2)
      (until_one lab.network p.in_part.events p.begin.0 lab'.world p.begin.1 v' p.in_part.run))

  -- steps of phases
  pub steps_told : (net : Network) (steps : List Step) (w w' : World) (v v' : V) → TellsSteps t net (w, v) steps (w', v')
      → IsToldOfLab st t n (Some (record { network = net; world = w }), v) (Some (record { network = net; world = w' }), v')
  steps_told net [] w w' v v' is = ([], ap (λ (s : World × V). (Some (record { network = net; world = s.0 }), s.1)) is)
  steps_told net (x ∷ steps) w w' v v' is =
      let rest = steps_told net steps x.after w' is.0 v' is.5 in (
        Does x.event x.answer ∷ rest.0,
        (
          (Some (record { network = net; world = x.after }), is.0),
          (record { network = net; world = w }, refl, record { network = net; world = x.after }, refl, refl, is.2, is.4),
          rest.1,
        ),
      )

  pub phases_told : (lab lab' : LabValue) (v v' : V) (count : ℕ) (last : Option ℕ) → lab'.network ≡ lab.network → AreMadePhases t lab.network (lab.world, v) count last (lab'.world, v')
      → IsToldOfLab st t n (Some lab, v) (Some lab', v')
  phases_told lab lab' v v' count last same made =
      subst (λ (net : Network). IsToldOfLab st t n (Some lab, v) (Some (record { network = net; world = lab'.world }), v')) (sym same)
      (steps_told lab.network (steps_of made.phases) lab.world lab'.world v v' made.told)

  -- phases are refused: all that was done is told
  pub phases_none : (lab lab' : LabValue) (v v' : V) (count : ℕ) (why : PhaseRefused) → lab'.network ≡ lab.network
      → AreMadeInPart {F = Error} t f lab.network (lab.world, v) count (IsRefused why) (lab'.world, v') → IsToldOfLab st t n (Some lab, v) (Some lab', v')
  phases_none lab lab' v v' count why same p =
      subst (λ (net : Network). IsToldOfLab st t n (Some lab, v) (Some (record { network = net; world = lab'.world }), v')) (sym same)
      (told_on (Some lab, v) (Some (record { network = lab.network; world = p.before.0 }), p.before.1) (Some (record { network = lab.network; world = lab'.world }), v')
      (steps_told lab.network (steps_of p.phases ++ p.since) lab.world p.before.0 v p.before.1 p.told)
      (run_told lab.network p.ends.0 p.before.0 lab'.world p.before.1 v' wanting p.ends.1.1))

  -- the watcher failed in a phase, at its last event
  pub phases_one : (lab lab' : LabValue) (v v' : V) (count : ℕ) (error : Error) → lab'.network ≡ lab.network
      → AreMadeInPart t f lab.network (lab.world, v) count (HasFailed error) (lab'.world, v') → IsToldUntil st t f n (Some lab, v) (Some lab', v')
  phases_one lab lab' v v' count error same p =
      subst (λ (net : Network). IsToldUntil st t f n (Some lab, v) (Some (record { network = net; world = lab'.world }), v')) (sym same)
      (until_on (Some lab, v) (Some (record { network = lab.network; world = p.before.0 }), p.before.1) (Some (record { network = lab.network; world = lab'.world }), v')
      (steps_told lab.network (steps_of p.phases ++ p.since) lab.world p.before.0 v p.before.1 p.told)
      (until_one lab.network p.ends.0 p.before.0 lab'.world p.before.1 v' (record { done = []; last = p.ends.0; events_are = refl; as_many = p.ends.1.0; before = p.before; run = refl; failed = p.ends.1.1 })))

  -- phases stop: all that was done is told, up to where the watcher failed
  pub phases_stopped : (lab lab' : LabValue) (v v' : V) (count : ℕ) (why : Stopped PhaseRefused Error) (stop : Stop) → lab'.network ≡ lab.network → IsStopAt count why stop
      → AreMadeInPart t f lab.network (lab.world, v) count why (lab'.world, v') → HasTold {X = ⊤} (Err stop) st t f n (Some lab, v) (Some lab', v')
  phases_stopped lab lab' v v' count (IsRefused refused) stop same is made =
      has_told (Err stop) (Some lab, v) (Some lab', v') (phases_none lab lab' v v' count refused same made)
  phases_stopped lab lab' v v' count (HasFailed error) stop same is made =
      subst (λ (b : Bool). IsToldUnless b st t f n (Some lab, v) (Some lab', v')) (sym is) (phases_one lab lab' v v' count error same made)

-- what holds whatever the result is
pub given_ok : {X E P : Type 0} (r : Result X E) → P → OnOk r P
given_ok (Ok x) p = p
given_ok (Err e) p = tt

pub given_err : {X E P : Type 0} (r : Result X E) → P → OnErr r P
given_err (Ok x) p = tt
given_err (Err e) p = p

-- what follows from what holds of it
pub ok_then : {X E P Q : Type 0} (r : Result X E) → (P → Q) → OnOk r P → OnOk r Q
ok_then (Ok x) f p = f p
ok_then (Err e) f p = tt

pub err_then : {X E P Q : Type 0} (r : Result X E) → (P → Q) → OnErr r P → OnErr r Q
err_then (Ok x) f p = tt
err_then (Err e) f p = f p

-- what holds of a result that is there
pub on_ok : {X E P : Type 0} (r : Result X E) (x : X) → r ≡ Ok x → OnOk r P → P
on_ok {X} {E} {P} r x is given = subst (λ (q : Result X E). OnOk q P) is given

clash : false ≡ true → ⊥
clash e = cc

failed : {V : Type 0} (t f : V → Told → V → Type 0) (s s' : LabValue × V) (stop : Stop) → is_failure stop ≡ true → StopsInPhase t f s stop s'
failed t f s s' (Refused why) is = absurd (clash is)
failed t f s s' (Unmet unmet) is = absurd (clash is)
failed t f s s' (Failed error) is = tt

-- what a line says where phases stop
pub stops_in : {V : Type 0} (t f : V → Told → V → Type 0) (s s' : LabValue × V) (phase : ℕ) (why : Stopped PhaseRefused Error) (stop : Stop) → IsStopAt phase why stop
    → AreMadeInPart t f s.0.network (s.0.world, s.1) phase why (s'.0.world, s'.1) → StopsInPhase t f s stop s'
stops_in t f s s' phase (IsRefused (NoUpdateInTime router)) stop is made = subst (λ (k : Stop). StopsInPhase t f s k s') (sym is) made
stops_in t f s s' phase (IsRefused PastLastMoment) stop is made = subst (λ (k : Stop). StopsInPhase t f s k s') (sym is) made
stops_in t f s s' phase (IsRefused OutOfMemory) stop is made = failed t f s s' stop is
stops_in t f s s' phase (HasFailed error) stop is made = failed t f s s' stop is
