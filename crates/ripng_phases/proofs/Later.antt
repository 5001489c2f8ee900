-- Each phase takes each router 15 seconds at least: its regular updates are so far apart.
use Rattle.std.proofs.Common.{◌≡◌, inl, inr, ℕ, ◌+◌, ◌*◌, ◌%◌, max, ◌<◌, ◌≤◌, Bool, true, false, cond, MatchBool, MatchOption, List, [], ◌∷◌, length, Option, Some, None, slice_get, refl, ap, sym, subst, ◌∙◌, arith, le_refl}
use Rattle.std.proofs.lemmas.Bool.Decides.{nat_tests}
use Rattle.route_table.proofs.TableLaws.{Some-same}
use Rattle.router_core.specs.Ageing.{aged_table, unmarked}
use Rattle.router_core.specs.Faults.{fault}
use Rattle.router_core.specs.Machine.{State, Happening, Arrives, Ticks, LinkComesUp, Hears, Replies, Refuses, is_regular_due, is_triggered_due, ticked}
use Rattle.router_core.specs.Received.{Received}
use Rattle.router_core.specs.declared.answer.Answer.{Answer}
use Rattle.router_core.specs.declared.arrival.Fault.{Fault}
use Rattle.ripng_wire.specs.Wire.{is_response}
use Rattle.ripng_world.specs.Network.{Network}
use Rattle.ripng_world.specs.World.{World, Event, Deliver, Stranger, Tick, Restart, Shutdown, LinkDown, LinkUp, Reconfigure, RouterMoves, Happens, arrival_of}
use Rattle.ripng_world.proofs.RoundNeighbors.{state_after, set_here}
use Rattle.ripng_phases.specs.Phases.{Step, IsOrdinary, Takes, IsPhase, Before, PhasesAfter, before_next, reached}
use Rattle.ripng_phases.proofs.Runs.{takes_first, takes_rest}
use Rattle.router_core.specs.Timers.{next_hold, next_regular}

pub arrived_later : (old new : State) (now : ℕ) (x : Received) (answer : Answer) (o : Option Fault) (b : Bool)
    → MatchOption o (MatchBool b (Hears old now x answer new) (Replies old now x answer new)) (λ why. Refuses old now why answer new) → old.regular ≡ new.regular
arrived_later old new now x answer (Some why) b refuses = sym (ap (λ (s : State). s.regular) refuses.state)
arrived_later old new now x answer None false replies = sym (ap (λ (s : State). s.regular) replies.state)
arrived_later old new now x answer None true hears = sym (ap (λ (s : State). s.regular) hears.state)

-- a due regular update puts the next off
pub due_later : (old : State) (now word : ℕ) → old.regular ≤ now → (old.regular + 15_000 ≤ (ticked old now word).regular) × (old.regular ≤ (ticked old now word).last)
due_later old now word due = by (is_regular_due old now) refl
  where
    by : (b : Bool) → is_regular_due old now ≡ b
        → let new = cond b (record old { table = unmarked (aged_table now old.table); last = now; regular = next_regular now word })
        (cond (is_triggered_due old now) (record old { table = unmarked (aged_table now old.table); last = now; hold = next_hold now word }) (record old { table = aged_table now old.table; last = now })) in
        (old.regular + 15_000 ≤ new.regular) × (old.regular ≤ new.last)
    by true is = (omega arith, due)
    by false is = absurd (grind (arith, nat_tests, is, due))

-- no tick brings it nearer
pub ticked_later : (old : State) (now word : ℕ) → (old.regular ≤ (ticked old now word).regular) × (now ≡ (ticked old now word).last)
ticked_later old now word = by (is_regular_due old now) (is_triggered_due old now) refl
  where
    by : (b c : Bool) → is_regular_due old now ≡ b
        → let new = cond b (record old { table = unmarked (aged_table now old.table); last = now; regular = next_regular now word })
        (cond c (record old { table = unmarked (aged_table now old.table); last = now; hold = next_hold now word }) (record old { table = aged_table now old.table; last = now })) in
        (old.regular ≤ new.regular) × (now ≡ new.last)
    by true c is = (let due : old.regular ≤ now = grind (arith, nat_tests, is) in omega arith, refl)
    by false true is = (le_refl old.regular, refl)
    by false false is = (le_refl old.regular, refl)

-- a router's state in a later world, whose next regular update is due no sooner, by so much
abbrev pub IsLater : ℕ → State → World → ℕ → Type 0
IsLater more s w router = (s' : State) × (slice_get w.states router ≡ Some s') × (s.regular + more ≤ s'.regular)

-- a router moves
pub moved_later : (w w' : World) (mover : ℕ) (happening : Happening) (answer : Answer) (m : RouterMoves w mover happening answer w') → m.old.regular ≤ m.new.regular
    → (router : ℕ) (s : State) → slice_get w.states router ≡ Some s → IsLater 0 s w' router
moved_later w w' mover happening answer m later router s is =
    elim (state_after w.states mover m.old m.new m.old_is router s is) [
      | inl a ↦ (m.new, ap (λ (xs : List State). slice_get xs router) m.states ∙ a.2, (let at = later in let same = ap (λ (t : State). t.regular) a.1 in omega arith))
      | inr b ↦ (s, ap (λ (xs : List State). slice_get xs router) m.states ∙ b, omega arith)
    ]

pub step_later : (net : Network) (w w' : World) (e : Event) (answer : Answer) → IsOrdinary e → Happens net w e answer w'
    → (router : ℕ) (s : State) → slice_get w.states router ≡ Some s → IsLater 0 s w' router
step_later net w w' (Deliver datagram to iface now) answer plain d router s is =
    let x = arrival_of net d.sent iface now in
    moved_later w w' to (Arrives x) answer d.moves
    (subst (λ n. d.moves.old.regular ≤ n) (arrived_later d.moves.old d.moves.new (max d.moves.old.last now) x answer (fault d.moves.old.config x) (is_response d.sent.bytes) d.moves.moves) (le_refl d.moves.old.regular))
    router s is
step_later net w w' (Stranger to x) answer plain d router s is =
    moved_later w w' to (Arrives x) answer d.moves
    (subst (λ n. d.moves.old.regular ≤ n) (arrived_later d.moves.old d.moves.new (max d.moves.old.last x.now) x answer (fault d.moves.old.config x) (is_response x.bytes) d.moves.moves) (le_refl d.moves.old.regular))
    router s is
step_later net w w' (Tick to now word) answer plain m router s is =
    moved_later w w' to (Ticks now word) answer m
    (subst (λ (t : State). m.old.regular ≤ t.regular) (sym m.moves.state) (ticked_later m.old (max m.old.last now) word).0)
    router s is
step_later net w w' (Restart to now) answer plain m router s is = absurd plain
step_later net w w' (Shutdown to now) answer plain m router s is = absurd plain
step_later net w w' (LinkDown to now on) answer plain m router s is = absurd plain
step_later net w w' (LinkUp to now on) answer plain m router s is =
    moved_later w w' to (LinkComesUp now on) answer m
    (subst (λ n. m.old.regular ≤ n) (sym (ap (λ (t : State). t.regular) m.moves.state)) (le_refl m.old.regular))
    router s is
step_later net w w' (Reconfigure to now c) answer plain m router s is = absurd plain

pub takes_later : (net : Network) (steps : List Step) (w w' : World) → Takes net w steps w'
    → (router : ℕ) (s : State) → slice_get w.states router ≡ Some s → IsLater 0 s w' router
takes_later net [] w w' is router s at = (s, ap (λ (v : World). slice_get v.states router) is ∙ at, omega arith)
takes_later net (step ∷ steps) w w' is router s at =
    let one = step_later net w step.after step.event step.answer is.0 is.1 router s at in
    let rest = takes_later net steps step.after w' is.3 router one.0 one.1 in
    (rest.0, rest.1, (let a = one.2 in let b = rest.2 in omega arith))

-- the router's own regular update
pub told_later : (net : Network) (w w' : World) (router now word : ℕ) (answer : Answer) (s : State) → RouterMoves w router (Ticks now word) answer w'
    → slice_get w.states router ≡ Some s → s.regular ≤ max s.last now → IsLater 15_000 s w' router
told_later net w w' router now word answer s m is due =
    let same = Some-same s m.old (sym is ∙ m.old_is) in (
      m.new,
      ap (λ (xs : List State). slice_get xs router) m.states ∙ set_here w.states router m.old m.new m.old_is,
      subst (λ (t : State). s.regular + 15_000 ≤ t.regular) (sym m.moves.state)
          (subst (λ (t : State). s.regular + 15_000 ≤ (ticked t (max t.last now) word).regular) same (due_later s (max s.last now) word due).0),
    )

-- a phase
pub phase_later : (net : Network) (past : Before) (steps : List Step) (w w' : World) → IsPhase net past w steps w'
    → (router : ℕ) (s : State) → router < length net → slice_get w.states router ≡ Some s → IsLater 15_000 s w' router
phase_later net past steps w w' is router s here at =
    let u = is.told router here in
    let takes = subst (λ (xs : List Step). Takes net w xs w') u.parts is.takes in
    let first = takes_later net u.before w (reached w u.before) (takes_first net u.before (u.tick ∷ u.after) w w' takes) router s at in
    let rest = takes_rest net u.before (u.tick ∷ u.after) w w' takes in
    let ticks = subst (λ (e : Event). Happens net (reached w u.before) e u.tick.answer u.tick.after) u.ticks rest.1 in
    let same = Some-same u.due.0 first.0 (sym u.due.1 ∙ first.1) in
    let due = subst (λ (t : State). t.regular ≤ max t.last u.now) same u.due.2 in
    let told = told_later net (reached w u.before) u.tick.after router u.now u.word u.tick.answer first.0 ticks first.1 due in
    let end = takes_later net u.after u.tick.after w' rest.3 router told.0 told.1 in
    (end.0, end.1, (let a = first.2 in let b = told.2 in let c = end.2 in omega arith))

-- phases
pub phases_later : (net : Network) (phases : List (List Step)) (past : Before) (w w' : World) → PhasesAfter net past w phases w'
    → (router : ℕ) (s : State) → router < length net → slice_get w.states router ≡ Some s → IsLater (15_000 * length phases) s w' router
phases_later net [] past w w' is router s here at = (s, ap (λ (v : World). slice_get v.states router) is ∙ at, omega arith)
phases_later net (steps ∷ phases) past w w' is router s here at =
    let one = phase_later net past steps w is.0 is.1 router s here at in
    let rest = phases_later net phases (before_next w steps) is.0 w' is.2 router one.0 here one.1 in
    (rest.0, rest.1, (let a = one.2 in let b = rest.2 in omega arith))
