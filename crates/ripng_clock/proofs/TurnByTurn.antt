-- A run where nothing is lost is on time at each turn.
use Rattle.std.proofs.Common.{◌≡◌, ◌⊎◌, inl, inr, ℕ, zero, suc, ◌+◌, ◌<◌, ◌≤◌, max, Bool, true, false, cond, IsTrue, ◌&&◌, not, List, [], ◌∷◌, ◌++◌, Contains, map, filter, flat_map, length, Option, Some, None, slice_get, slice_set, refl, ap, sym, subst, ◌∙◌, arith, append_assoc, append-nil, le_refl, le_trans}
use Rattle.std.specs.List.{AllByRecursion, list_any}
use Rattle.std.specs.Option.{option_map, unwrap_or}
use Rattle.std.proofs.lemmas.Option.{slice_get_within}
use Rattle.route_table.proofs.TableLaws.{Some-same}
use Rattle.router_core.specs.Machine.{State}
use Rattle.router_core.specs.Waking.{wakes_at}
use Rattle.router_core.specs.declared.answer.Destination.{Destination}
use Rattle.router_core.specs.declared.answer.Destination.TheVariants.{Group, Peer}
use Rattle.ripng_world.specs.AskedRounds.{interfaces_of, is_other}
use Rattle.ripng_world.specs.Labs.{LabValue, link_at}
use Rattle.ripng_world.specs.Network.{Network}
use Rattle.ripng_world.specs.Rounds.{moment_of, router_of}
use Rattle.ripng_world.specs.Watching.{Told}
use Rattle.ripng_world.specs.World.{World, Event, Deliver, Tick}
use Rattle.ripng_world.specs.declared.event.Sent.{Sent}
use Rattle.ripng_world.proofs.Members.{at_filter, at_from_contains}
use Rattle.ripng_phases.specs.Phases.{Step, Takes, events_of, reached}
use Rattle.ripng_phases.proofs.Along.{contains_from}
use Rattle.ripng_phases.proofs.Runs.{takes_rest}
use Rattle.ripng_phases.proofs.Tells.{tells_take, tells_watched}
use Rattle.ripng_clock.specs.Agenda.{Has, IsFirst, IsRemoved, IsUpTo}
use Rattle.ripng_clock.specs.Carrying.{Asked, AllTakePart, carriage_of, is_carried, is_for, receivers_of, takes_part}
use Rattle.ripng_clock.specs.Ending.{AreAlarms, IsDue, IsNext, alarm_of}
use Rattle.ripng_clock.specs.Turning.{AreSteps, AreTurns, IsBroughtBy, IsDone, IsStep, IsTurn, Place, comes_to}
use Rattle.ripng_clock.specs.declared.carrying.Carriage.{Carriage}
use Rattle.ripng_clock.specs.declared.due.Due.{Due}
use Rattle.ripng_clock.specs.declared.due.Due.TheVariants.{Comes, Ticks}
use Rattle.ripng_clock.proofs.Alarming.{alarms_next}
use Rattle.ripng_clock.proofs.Finishing.{group_receivers, if_group, wakes_by}
use Rattle.ripng_clock.proofs.OnTime.{AreBroughtTo, IsSent}
use Rattle.ripng_clock.proofs.Sendings.{no_fewer, takes_grows}
use Rattle.ripng_clock.proofs.Turned.{IsHead, IsOnTime, delay, net, on_removed, on_step, on_waiting, brought_next, same_carriage, w0}

still : (xs ys : List Sent) (n : ℕ) (d : Sent) → slice_get xs n ≡ Some d → slice_get (xs ++ ys) n ≡ Some d
still [] ys n d e = cc
still (x ∷ xs) ys zero d e = e
still (x ∷ xs) ys (suc n) d e = still xs ys n d e

there : (xs : List Sent) (n : ℕ) → n < length xs → (d : Sent) × (slice_get xs n ≡ Some d)
there [] n lt = absurd (omega (arith, lt))
there (x ∷ xs) zero lt = (x, refl)
there (x ∷ xs) (suc n) lt = there xs n (grind (arith, lt))

module _ {V : Type 0} (takes : V → Told → V → Type 0) (asked : Asked) (start : Place V) (begin : ℕ)
    (short : (d : Sent) → delay takes asked start begin d < 15_000)
    (all : (d : Sent) (n : ℕ) (lab : LabValue) → lab.network ≡ net takes asked start begin → n < length lab.world.sent → slice_get lab.world.sent n ≡ Some d → IsTrue (is_carried asked lab n d))
    (part : (router : ℕ) → IsTrue (takes_part asked router)) (whole : (d : Sent) → (carriage_of start.timetable start.lab d).loss ≡ 0) where
  -- where a run stands, all on time, with the times of all routers
  pub record IsWell (p : Place V) (steps : List Step) : Type 0 where
    pub on_time : IsOnTime takes asked start begin p steps
    pub alarms : AreAlarms asked p.lab p.alarms

  -- ---- one step

  step_well : (p : Place V) (steps : List Step) → IsWell p steps → (x : Step) (p' : Place V) → IsStep takes asked p x p' → IsHead takes asked start begin p x → IsWell p' (steps ++ x ∷ [])
  step_well p steps is x p' does head =
      record {
        on_time = on_step takes asked start begin short all p steps is.on_time x p' does head;
        alarms = alarms_next asked p.lab p'.lab p.alarms is.alarms x.event does.own.0 does.network does.there takes p.watch p'.watch
            (tells_watched takes p.lab.network (x ∷ []) (p.lab.world, p.watch) (p'.lab.world, p'.watch) does.tells) p'.alarms does.alarms_are;
      }

  -- ---- a datagram comes to one interface after another

  pub record IsComing (time number moment : ℕ) (rs : List (ℕ × ℕ)) (p : Place V) (steps : List Step) : Type 0 where
    pub well : IsWell p steps
    pub moment_is : p.moment ≡ moment
    pub first : IsFirst p.timetable.under_way time number
    pub brought : AreBroughtTo (net takes asked start begin) (w0 takes asked start begin) begin (delay takes asked start begin) (λ d. rs) steps number moment

  module _ (time number moment : ℕ) (due : time ≤ moment) where
    head_of : (rs : List (ℕ × ℕ)) (p : Place V) (steps : List Step) → IsComing time number moment rs p steps → (x : Step) (at : ℕ × ℕ) → x.event ≡ comes_to number moment at → IsHead takes asked start begin p x
    head_of rs p steps is x at event = λ n r i m e.
        let same : number ≡ n = number_of number at.0 at.1 moment n r i m (sym event ∙ e) in (
          time,
          subst (λ k. Has p.timetable.under_way time k) same is.first.0,
          subst (λ k. (t' n' : ℕ) → Has p.timetable.under_way t' n' → IsUpTo time k t' n') same is.first.1,
          subst (λ k. time ≤ k) (sym is.moment_is) due,
        )
      where
        number_of : (a r i m b r' i' m' : ℕ) → Deliver a r i m ≡ Deliver b r' i' m' → a ≡ b
        number_of a r i m b r' i' m' e = cc

    coming_next : (rs : List (ℕ × ℕ)) (p : Place V) (steps : List Step) → IsComing time number moment rs p steps → (x : Step) (at : ℕ × ℕ) → x.event ≡ comes_to number moment at
        → (q : Place V) → IsStep takes asked p x q → IsComing time number moment (rs ++ at ∷ []) q (steps ++ x ∷ [])
    coming_next rs p steps is x at event q does =
        let head = head_of rs p steps is x at event in
        let known = is.well.on_time.known time number is.first.0 in
        record {
          well = step_well p steps is.well x q does head;
          moment_is = does.moment_is ∙ is.moment_is;
          first = (does.set_out.kept time number is.first.0, λ t n has. by t n (does.set_out.only t n has));
          brought = subst (λ k. AreBroughtTo (net takes asked start begin) (w0 takes asked start begin) begin (delay takes asked start begin) (λ d. rs ++ at ∷ []) (steps ++ x ∷ []) number k) is.moment_is
              (brought_next takes asked start begin short all p steps is.well.on_time x q does head rs number at (event ∙ ap (λ k. comes_to number k at) (sym is.moment_is)) known
              (subst (λ k. AreBroughtTo (net takes asked start begin) (w0 takes asked start begin) begin (delay takes asked start begin) (λ d. rs) steps number k) (sym is.moment_is) is.brought));
        }
      where
        up_to : (a t m k number l n : ℕ) → a ≤ m → t ≡ m + k → number < l → l ≤ n → (a < t) ⊎ ((a ≡ t) × (number ≤ n))
        up_to a t m k number l n e f g h = compare (split a t)
          where
            split : (a b : ℕ) → (a < b) ⊎ (b ≤ a)
            split a b = grind arith

            compare : (a < t) ⊎ (t ≤ a) → (a < t) ⊎ ((a ≡ t) × (number ≤ n))
            compare (inl lt) = inl lt
            compare (inr le) = inr (omega (arith, e, f, le), omega (arith, g, h))

        by : (t n : ℕ) → Has p.timetable.under_way t n ⊎ ((p.next ≤ n) × (n < q.next) × ((d : Sent) → slice_get q.lab.world.sent n ≡ Some d → t ≡ p.moment + (carriage_of p.timetable q.lab d).delay_ms)) → IsUpTo time number t n
        by t n (inl old) = is.first.1 t n old
        by t n (inr new) =
            let after = step_well p steps is.well x q does (head_of rs p steps is x at event) in
            let d = there q.lab.world.sent n (subst (λ k. n < k) after.on_time.next_is new.1) in
            up_to time t p.moment (carriage_of p.timetable q.lab d.0).delay_ms number p.next n (subst (λ k. time ≤ k) (sym is.moment_is) due) (new.2 d.0 d.1)
            (subst (λ k. number < k) (sym is.well.on_time.next_is) (is.well.on_time.known time number is.first.0)) new.0

    coming_all : (todo : List Step) (ats rs : List (ℕ × ℕ)) (p : Place V) (steps : List Step) (q : Place V) → AreSteps takes asked p todo q → events_of todo ≡ map (comes_to number moment) ats
        → IsComing time number moment rs p steps → IsComing time number moment (rs ++ ats) q (steps ++ todo)
    coming_all [] [] rs p steps q are events is =
        subst (λ xs. IsComing time number moment (rs ++ []) q xs) (sym (append-nil steps))
        (subst (λ xs. IsComing time number moment xs q steps) (sym (append-nil rs)) (subst (λ k. IsComing time number moment rs k steps) (sym are) is))
    coming_all [] (at ∷ ats) rs p steps q are events is = absurd (no (comes_to number moment at) (map (comes_to number moment) ats) events)
      where
        no : (e : Event) (es : List Event) → [] ≡ e ∷ es → ⊥
        no e es is = cc
    coming_all (x ∷ todo) [] rs p steps q are events is = absurd (no x.event (events_of todo) events)
      where
        no : (e : Event) (es : List Event) → e ∷ es ≡ [] → ⊥
        no e es is = cc
    coming_all (x ∷ todo) (at ∷ ats) rs p steps q are events is =
        subst (λ xs. IsComing time number moment xs q (steps ++ x ∷ todo)) (append_assoc rs (at ∷ []) ats)
        (subst (λ xs. IsComing time number moment ((rs ++ at ∷ []) ++ ats) q xs) (append_assoc steps (x ∷ []) todo)
        (coming_all todo ats (rs ++ at ∷ []) are.0 (steps ++ x ∷ []) q are.2 (rest x.event (comes_to number moment at) (events_of todo) (map (comes_to number moment) ats) events)
        (coming_next rs p steps is x at (first x.event (comes_to number moment at) (events_of todo) (map (comes_to number moment) ats) events) are.0 are.1)))
      where
        first : (e f : Event) (es fs : List Event) → e ∷ es ≡ f ∷ fs → e ≡ f
        first e f es fs is = cc

        rest : (e f : Event) (es fs : List Event) → e ∷ es ≡ f ∷ fs → es ≡ fs
        rest e f es fs is = cc

  -- ---- time passes

  waits_well : (p : Place V) (steps : List Step) → IsWell p steps → (later : ℕ) (due : Due) → IsNext p.alarms p.timetable.under_way p.moment asked.until later due → IsWell (record p { moment = later }) steps
  waits_well p steps is later due next =
      record {
        on_time = on_waiting takes asked start begin short all p steps is.on_time later next.not_before next.datagrams regulars;
        alarms = is.alarms;
      }
    where
      regulars : (router : ℕ) (s : State) → slice_get p.lab.world.states router ≡ Some s → later ≤ max p.moment s.regular
      regulars router s at =
          let within : router < length p.lab.network = subst (λ k. router < k) (is.on_time.many ∙ sym (ap length is.on_time.network)) (slice_get_within p.lab.world.states router s at) in
          let alarm : slice_get p.alarms router ≡ Some (Some (wakes_at s)) =
          is.alarms.set router within ∙ ap (λ b. Some (cond b (option_map wakes_at (slice_get p.lab.world.states router)) None)) (part router) ∙ ap (λ o. Some (option_map wakes_at o)) at in
          let a = next.routers router (wakes_at s) alarm in
          let b = wakes_by s in
          omega (arith, a, b)

  -- ---- where a datagram to the group comes

  group_in : (lab : LabValue) → lab.network ≡ net takes asked start begin → (d : Sent) (at : ℕ × ℕ) → Contains (group_receivers (net takes asked start begin) d) at → Contains (receivers_of asked lab d) at
  group_in lab same d at c = by d.to c
    where
      none : (P : Type 0) → Contains {X = ℕ × ℕ} [] at → P
      none P c = absurd (omega (arith, c.1))

      by : (to : Destination) → Contains (if_group to (filter (is_other (net takes asked start begin) d) (interfaces_of (net takes asked start begin)))) at
          → Contains (filter (λ a. takes_part asked a.0 && is_for lab.world to a.0 a.1) (filter (is_other lab.network d) (interfaces_of lab.network))) at
      by Group c =
          contains_from (filter (λ (a : ℕ × ℕ). takes_part asked a.0 && is_for lab.world Group a.0 a.1) (filter (is_other lab.network d) (interfaces_of lab.network))) at
          (at_filter (λ (a : ℕ × ℕ). takes_part asked a.0 && is_for lab.world Group a.0 a.1) (filter (is_other lab.network d) (interfaces_of lab.network)) at
          (at_from_contains (filter (is_other lab.network d) (interfaces_of lab.network)) at (subst (λ n. Contains (filter (is_other n d) (interfaces_of n)) at) (sym same) c))
          (λ y. ap (λ b. b && true) (part y.0)))
      by (Peer addr port) c = none _ c

  as_group : (q : Place V) (steps : List Step) → IsWell q steps → (lab : LabValue) → lab.network ≡ net takes asked start begin → (number moment : ℕ) (d : Sent) → slice_get q.lab.world.sent number ≡ Some d
      → AreBroughtTo (net takes asked start begin) (w0 takes asked start begin) begin (delay takes asked start begin) (λ e. receivers_of asked lab d) steps number moment
      → AreBroughtTo (net takes asked start begin) (w0 takes asked start begin) begin (delay takes asked start begin) (group_receivers (net takes asked start begin)) steps number moment
  as_group q steps is lab same number moment d here brought before x after parts e late sent r i c =
      let rest = takes_rest (net takes asked start begin) before (x ∷ after) (w0 takes asked start begin) q.lab.world (subst (λ xs. Takes (net takes asked start begin) (w0 takes asked start begin) xs q.lab.world) parts is.on_time.taken) in
      let grows = takes_grows (net takes asked start begin) after x.after q.lab.world rest.3 in
      let one : e ≡ d = Some-same e d (sym (ap (λ xs. slice_get xs number) grows.1 ∙ still x.after.sent grows.0 number e sent) ∙ here) in
      brought before x after parts e late sent r i (group_in lab same d (r, i) (subst (λ k. Contains (group_receivers (net takes asked start begin) k) (r, i)) one c))

  -- ---- a turn

  done_well : (due : Due) (p : Place V) (steps more : List Step) (q : Place V) → IsWell p steps → (now : ℕ) → now ≤ p.moment → IsDue p.alarms p.timetable.under_way now p.moment due → IsDone takes asked due p more q → IsWell q (steps ++ more)
  done_well (Ticks router) p steps [] q is now le is_due done = absurd (no (Tick router p.moment done.1.0) [] done.1.1)
    where
      no : (e : Event) (es : List Event) → [] ≡ e ∷ es → ⊥
      no e es is = cc
  done_well (Ticks router) p steps (x ∷ []) q is now le is_due done =
      let event : x.event ≡ Tick router p.moment done.1.0 = first x.event (Tick router p.moment done.1.0) done.1.1 in
      subst (λ k. IsWell k (steps ++ x ∷ [])) (sym done.0.2) (step_well p steps is x done.0.0 done.0.1 (λ n r i m e. absurd (no router p.moment done.1.0 n r i m (sym event ∙ e))))
    where
      first : (e f : Event) → e ∷ [] ≡ f ∷ [] → e ≡ f
      first e f is = cc

      no : (r m w n r' i m' : ℕ) → Tick r m w ≡ Deliver n r' i m' → ⊥
      no r m w n r' i m' e = cc
  done_well (Ticks router) p steps (x ∷ y ∷ more) q is now le is_due done = absurd (no x.event y.event (Tick router p.moment done.1.0) (events_of more) done.1.1)
    where
      no : (e f g : Event) (es : List Event) → e ∷ f ∷ es ≡ g ∷ [] → ⊥
      no e f g es is = cc
  done_well (Comes time number) p steps more q is now le is_due done =
      let known = is.on_time.known time number is_due.0.0 in
      let d = there p.lab.world.sent number known in
      let due : time ≤ p.moment = (let a = is_due.1 in omega (arith, a)) in
      let lossless : (carriage_of p.timetable p.lab d.0).loss ≡ 0 = ap (λ (c : Carriage). c.loss) (same_carriage p.timetable start.timetable p.lab start.lab d.0 is.on_time.links is.on_time.network) ∙ whole d.0 in
      let events = done.2.to_all d.0 d.1 (all d.0 number p.lab is.on_time.network known d.1) lossless in
      let begun : IsComing time number p.moment [] p steps = record { well = is; moment_is = refl; first = is_due.0; brought = λ before x after parts e late sent r i c. absurd (none r i c) } in
      let came = coming_all time number p.moment due more (receivers_of asked p.lab d.0) [] p steps done.0 done.1 events begun in
      let here : slice_get done.0.lab.world.sent number ≡ Some d.0 = later p.lab.world.sent done.0.lab.world.sent number d.0 d.1 (grown more p done.0 done.1) in
      subst (λ k. IsWell k (steps ++ more)) (sym done.5)
      (record {
        on_time = on_removed takes asked start begin short all done.0 (steps ++ more) came.well.on_time q.timetable time number done.3 done.4 came.first.0 (subst (λ k. time ≤ k) (sym came.moment_is) due)
            (subst (λ k. AreBroughtTo (net takes asked start begin) (w0 takes asked start begin) begin (delay takes asked start begin) (group_receivers (net takes asked start begin)) (steps ++ more) number k) (sym came.moment_is)
            (as_group done.0 (steps ++ more) came.well p.lab is.on_time.network number p.moment d.0 here came.brought));
        alarms = came.well.alarms;
      })
    where
      none : (r i : ℕ) → Contains {X = ℕ × ℕ} [] (r, i) → ⊥
      none r i c = omega (arith, c.1)

      later : (xs ys : List Sent) (n : ℕ) (d : Sent) → slice_get xs n ≡ Some d → (new : List Sent) × (ys ≡ xs ++ new) → slice_get ys n ≡ Some d
      later xs ys n d at grows = ap (λ zs. slice_get zs n) grows.1 ∙ still xs grows.0 n d at

      grown : (todo : List Step) (a b : Place V) → AreSteps takes asked a todo b → (new : List Sent) × (b.lab.world.sent ≡ a.lab.world.sent ++ new)
      grown [] a b are = ([], ap (λ k. k.lab.world.sent) are ∙ sym (append-nil a.lab.world.sent))
      grown (x ∷ todo) a b are =
          let one = takes_grows a.lab.network (x ∷ []) a.lab.world are.0.lab.world (tells_take takes a.lab.network (x ∷ []) (a.lab.world, a.watch) (are.0.lab.world, are.0.watch) are.1.tells) in
          let rest = grown todo are.0 b are.2 in
          (one.0 ++ rest.0, rest.1 ∙ ap (λ xs. xs ++ rest.0) one.1 ∙ append_assoc a.lab.world.sent one.0 rest.0)

  turn_well : (p : Place V) (steps more : List Step) (q : Place V) → IsWell p steps → IsTurn takes asked p more q → IsWell q (steps ++ more)
  turn_well p steps more q is turn =
      done_well turn.due (record p { moment = turn.moment }) steps more q (waits_well p steps is turn.moment turn.due turn.is_next) p.moment turn.is_next.not_before turn.is_next.is_due turn.done

  pub turns_well : (turns : List (List Step)) (p : Place V) (steps : List Step) (q : Place V) → IsWell p steps → AreTurns takes asked p turns q → (all : List Step) × IsWell q all
  turns_well [] p steps q is are = (steps, subst (λ k. IsWell k steps) (sym are) is)
  turns_well (more ∷ turns) p steps q is are = turns_well turns are.0 (steps ++ more) q (turn_well p steps more are.0 is are.1) are.2
