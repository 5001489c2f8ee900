-- A run where nothing is lost is a timely history.
use Rattle.std.proofs.Common.{◌≡◌, ◌≢◌, ◌⊎◌, inl, inr, ℕ, zero, suc, ◌+◌, ◌-◌, ◌<◌, ◌≤◌, max, min, List, [], ◌∷◌, ◌++◌, All, Contains, map, filter, length, Option, Some, None, slice_get, refl, ap, sym, subst, ◌∙◌, arith, append_assoc, le_refl, le_trans}
use Rattle.std.specs.List.{AllByRecursion}
use Rattle.std.proofs.lemmas.List.Elements.{All-from_recursion, recursion_from_All}
use Rattle.router_core.specs.Machine.{State}
use Rattle.router_core.specs.Waking.{or_earlier, triggered_at, wakes_at}
use Rattle.router_core.specs.declared.answer.Destination.{Destination}
use Rattle.router_core.specs.declared.answer.Destination.TheVariants.{Group, Peer}
use Rattle.ripng_world.specs.AskedRounds.{interfaces_of, is_other}
use Rattle.ripng_world.specs.Network.{Network, AreLinked}
use Rattle.ripng_world.specs.Rounds.{IsDueTick, moment_of, router_of}
use Rattle.ripng_world.specs.World.{World, Event, Deliver, Tick, Happens}
use Rattle.ripng_world.specs.declared.event.Sent.{Sent}
use Rattle.ripng_world.proofs.Each.{each_at_place}
use Rattle.ripng_world.proofs.Members.{at_from_contains}
use Rattle.ripng_phases.specs.Minutes.{AreFrom, IsPromptDelivery, IsPromptUpdate, IsTimely, Timed, untimed}
use Rattle.ripng_phases.specs.Phases.{IsCount, IsOvertaken, Step, Takes, events_of, reached}
use Rattle.ripng_phases.proofs.Cutting.{untimed_on}
use Rattle.ripng_phases.proofs.Going.{is_receiver}
use Rattle.ripng_phases.proofs.Runs.{takes_first, takes_reached, takes_rest}
use Rattle.ripng_clock.specs.Passing.{AreInOrder}
use Rattle.ripng_clock.proofs.Grouped.{to_group}
use Rattle.ripng_clock.proofs.OnTime.{AreInTurn, AreRecent, Come, IsBrought, AreOld}
use Rattle.ripng_clock.proofs.Regularly.{AreRegular, IsDueIn}

-- each step at its own moment
abbrev pub at_its_moment : Step → Timed
at_its_moment x = record { at = moment_of x.event; step = x }

abbrev pub timed : List Step → List Timed
timed steps = map at_its_moment steps

untimed_timed : (steps : List Step) → untimed (timed steps) ≡ steps
untimed_timed [] = refl
untimed_timed (x ∷ steps) = ap (λ xs. x ∷ xs) (untimed_timed steps)

timed_on : (a b : List Step) → timed (a ++ b) ≡ timed a ++ timed b
timed_on [] b = refl
timed_on (x ∷ a) b = ap (λ xs. at_its_moment x ∷ xs) (timed_on a b)

all_timed : (steps : List Step) → AllByRecursion (λ (t : Timed). t.at ≡ moment_of t.step.event) (timed steps)
all_timed [] = tt
all_timed (x ∷ steps) = (refl, all_timed steps)

from_order : (low : ℕ) (steps : List Step) (high : ℕ) → AreInOrder low (events_of steps) high → AreFrom low (timed steps)
from_order low [] high is = tt
from_order low (x ∷ steps) high is = (is.0, from_order (moment_of x.event) steps high is.1)

high_of : (low : ℕ) (steps : List Step) (high : ℕ) → AreInOrder low (events_of steps) high → low ≤ high
high_of low [] high is = is
high_of low (x ∷ steps) high is = le_trans is.0 (high_of (moment_of x.event) steps high is.1)

ended_at : (low : ℕ) (steps : List Step) (high : ℕ) → AreInOrder low (events_of steps) high → AllByRecursion (λ (t : Timed). t.at < high + 1) (timed steps)
ended_at low [] high is = tt
ended_at low (x ∷ steps) high is = ((let a = high_of (moment_of x.event) steps high is.1 in omega (arith, a)), ended_at (moment_of x.event) steps high is.1)

-- the moments before one of the steps are not after it, and all are from the first on
pub not_before : (low : ℕ) (steps : List Step) (high : ℕ) → AreInOrder low (events_of steps) high → (before : List Step) (x : Step) (after : List Step) → steps ≡ before ++ x ∷ after → low ≤ moment_of x.event
not_before low [] high is [] x after parts = cc
not_before low [] high is (b ∷ before) x after parts = cc
not_before low (y ∷ steps) high is [] x after parts = subst (λ (z : Step). low ≤ moment_of z.event) (first y x steps after parts) is.0
  where
    first : (y x : Step) (ys xs : List Step) → y ∷ ys ≡ x ∷ xs → y ≡ x
    first y x ys xs e = cc
not_before low (y ∷ steps) high is (b ∷ before) x after parts = le_trans is.0 (not_before (moment_of y.event) steps high is.1 before x after (rest y b steps (before ++ x ∷ after) parts))
  where
    rest : (y b : Step) (ys xs : List Step) → y ∷ ys ≡ b ∷ xs → ys ≡ xs
    rest y b ys xs e = cc

-- a router wakes no later than for its regular update
pub wakes_by : (s : State) → wakes_at s ≤ s.regular
wakes_by s = le_trans (earlier (or_earlier s.regular (triggered_at s)) _) (earlier s.regular (triggered_at s))
  where
    earlier : (a : ℕ) (o : Option ℕ) → or_earlier a o ≤ a
    earlier a None = le_refl a
    earlier a (Some b) = omega arith

-- where a datagram to the group comes
abbrev pub if_group : Destination → List (ℕ × ℕ) → List (ℕ × ℕ)
if_group Group receivers = receivers
if_group (Peer addr port) receivers = []

abbrev pub group_receivers : Network → Sent → List (ℕ × ℕ)
group_receivers net d = if_group d.to (filter (is_other net d) (interfaces_of net))

module _ (net : Network) (w0 : World) (begin : ℕ) (delay : Sent → ℕ) (until : ℕ) (steps : List Step) (w : World) (takes : Takes net w0 steps w) (order : AreInOrder begin (events_of steps) until)
    (in_turn : AreInTurn net w0 begin delay w steps) (recent : AreRecent net w0 begin delay steps) (has : ℕ → ℕ → Type 0) (come : Come net w0 begin delay (group_receivers net) steps has)
    (regular : AreRegular begin w0 steps w) (short : (d : Sent) → delay d < 15_000) (there : (router : ℕ) → router < length net → (s : State) × (slice_get w.states router ≡ Some s))
    (none_under_way : (t n : ℕ) → has t n → until < t) (none_wakes : (router : ℕ) (s : State) → router < length net → slice_get w.states router ≡ Some s → until < wakes_at s) where
  contains_parts : (before : List Step) (x : Step) (after : List Step) → steps ≡ before ++ x ∷ after → timed steps ≡ timed before ++ at_its_moment x ∷ timed after
  contains_parts before x after parts = ap timed parts ∙ timed_on before (x ∷ after)

  prompt_update : (router from : ℕ) → from + 60_000 ≤ until + 1 → IsDueIn w0 steps router from → IsPromptUpdate net w0 (timed steps) router from (from + 45_000)
  prompt_update router from late is =
      record {
        before = timed is.before;
        tick = at_its_moment is.step;
        after = timed is.after;
        parts = contains_parts is.before is.step is.after is.parts;
        not_before = subst (λ m. from ≤ m) (sym moment) is.not_before;
        in_time = subst (λ m. m < from + 45_000) (sym moment) is.in_time;
        now = is.now;
        word = is.word;
        ticks = is.event;
        due = subst (λ xs. IsDueTick (reached w0 xs) (Tick router is.now is.word)) (sym (untimed_timed is.before)) is.due;
        heard = λ datagram other iface d old sent linked elsewhere.
            heard datagram other iface d (subst (λ xs. length (reached w0 xs).sent ≤ datagram) (untimed_timed is.before) old) sent linked elsewhere;
      }
    where
      moment : moment_of is.step.event ≡ is.now
      moment = ap moment_of is.event

      rest : Takes net (reached w0 is.before) (is.step ∷ is.after) w
      rest = takes_rest net is.before (is.step ∷ is.after) w0 w (subst (λ xs. Takes net w0 xs w) is.parts takes)

      grouped : (n : ℕ) (d : Sent) → length (reached w0 is.before).sent ≤ n → slice_get is.step.after.sent n ≡ Some d → d.to ≡ Group
      grouped n d late sent = to_group net (reached w0 is.before) is.step.after router is.now is.word is.step.answer (subst (λ (e : Event). Happens net (reached w0 is.before) e is.step.answer is.step.after) is.event rest.1) n d late sent

      heard : (datagram other iface : ℕ) (d : Sent) → length (reached w0 is.before).sent ≤ datagram → slice_get is.step.after.sent datagram ≡ Some d → AreLinked net d.router d.iface other iface
          → (other ≢ d.router) ⊎ (iface ≢ d.iface) → IsPromptDelivery (timed is.after) (moment_of is.step.event + 15_000) datagram other iface
      heard datagram other iface d old sent linked elsewhere =
          elim (come is.before is.step is.after is.parts datagram d old sent) [
            | inl waits ↦
                let a = none_under_way (moment_of is.step.event + delay d) datagram waits in
                let b = short d in
                let c = is.in_time in
                absurd (omega (arith, a, b, c, moment, late))
            | inr brought ↦ delivered (brought other iface receives)
          ]
        where
          receives : Contains (group_receivers net d) (other, iface)
          receives = subst (λ to. Contains (if_group to (filter (is_other net d) (interfaces_of net))) (other, iface)) (sym (grouped datagram d old sent)) (is_receiver net d other iface linked elsewhere)

          delivered : IsBrought is.after datagram other iface (moment_of is.step.event + delay d) → IsPromptDelivery (timed is.after) (moment_of is.step.event + 15_000) datagram other iface
          delivered k =
              record {
                before = timed k.before;
                delivery = at_its_moment k.step;
                after = timed k.after;
                parts = ap timed k.parts ∙ timed_on k.before (k.step ∷ k.after);
                moment = moment_of is.step.event + delay d;
                event = k.event;
                prompt = (let a = ap moment_of k.event in let b = short d in omega (arith, a, b));
              }

  world_is : reached w0 (untimed (timed steps)) ≡ w
  world_is = ap (reached w0) (untimed_timed steps) ∙ sym (takes_reached net steps w0 w takes)

  all_at : (before : List Timed) (t : Timed) (after : List Timed) → timed steps ≡ before ++ t ∷ after → AllByRecursion (λ (t : Timed). t.at ≡ moment_of t.step.event) (before ++ t ∷ after)
  all_at before t after parts = subst (AllByRecursion (λ (t : Timed). t.at ≡ moment_of t.step.event)) parts (all_timed steps)

  middle : (P : Timed → Type 0) (before : List Timed) (t : Timed) (after : List Timed) → AllByRecursion P (before ++ t ∷ after) → P t
  middle P [] t after all = all.0
  middle P (b ∷ before) t after all = middle P before t after all.1

  early : (P : Timed → Type 0) (before after : List Timed) → AllByRecursion P (before ++ after) → AllByRecursion P before
  early P [] after all = tt
  early P (b ∷ before) after all = (all.0, early P before after all.1)

  old_ones : (moment : ℕ) (old : List Timed) → AllByRecursion (λ (t : Timed). t.at ≡ moment_of t.step.event) old → AllByRecursion (λ (t : Timed). t.at + 15_000 ≤ moment) old → AreOld net w0 begin delay moment (untimed old)
  old_ones moment [] at all = tt
  old_ones moment (t ∷ old) at all = ((let a = at.0 in let b = all.0 in omega (arith, a, b)), old_ones moment old at.1 all.1)

  recently : (before : List Timed) (t : Timed) (after : List Timed) → timed steps ≡ before ++ t ∷ after → begin + 15_000 ≤ t.at
      → (datagram router iface now : ℕ) → t.step.event ≡ Deliver datagram router iface now
      → (old new : List Timed) → before ≡ old ++ new → All (λ s. s.at + 15_000 ≤ t.at) old → length (reached w0 (untimed old)).sent ≤ datagram
  recently before t after parts late datagram router iface now event old new parts' all =
      recent (untimed before) t.step (untimed after) (sym (untimed_timed steps) ∙ ap untimed parts ∙ untimed_on before (t ∷ after)) (subst (λ m. begin + 15_000 ≤ m) when late)
      datagram router iface now event (untimed old) (untimed new) (ap untimed parts' ∙ untimed_on old new)
      (old_ones (moment_of t.step.event) old (early (λ (t : Timed). t.at ≡ moment_of t.step.event) old (new ++ t ∷ after) (subst (AllByRecursion (λ (t : Timed). t.at ≡ moment_of t.step.event))
      (ap (λ xs. xs ++ t ∷ after) parts' ∙ append_assoc old new (t ∷ after)) (all_at before t after parts)))
      (subst (λ m. AllByRecursion (λ (s : Timed). s.at + 15_000 ≤ m) old) when (recursion_from_All (λ (s : Timed). s.at + 15_000 ≤ t.at) old all)))
    where
      when : t.at ≡ moment_of t.step.event
      when = middle (λ (t : Timed). t.at ≡ moment_of t.step.event) before t after (all_at before t after parts)

  not_overtaken : IsOvertaken (IsCount w0 (untimed (timed steps))) w0 (untimed (timed steps)) → ⊥
  not_overtaken o =
      no (in_turn (o.before ++ o.later ∷ o.between) o.earlier o.after o.before o.later o.between (sym (untimed_timed steps) ∙ o.parts) refl
      o.new o.router o.iface o.now o.old o.router o.iface o.moment o.new_sent o.old_sent o.first o.second
      (subst (λ v. slice_get v.sent o.new ≡ Some o.new_sent) world_is o.new_is) (subst (λ v. slice_get v.sent o.old ≡ Some o.old_sent) world_is o.old_is) (o.same_router, o.same_iface))
    where
      no : o.new ≤ o.old → ⊥
      no le = let a = o.old_before in let b = o.new_after in omega (arith, a, b, le)

  moment_at : (t : Timed) → Contains (timed steps) t → t.at ≡ moment_of t.step.event
  moment_at t c = let a = at_from_contains (timed steps) t c in each_at_place (λ (t : Timed). t.at ≡ moment_of t.step.event) (timed steps) (all_timed steps) a.0 t a.1

  pub is_timely : IsTimely net w0 (timed steps) begin (until + 1) w
  is_timely =
      record {
        takes = subst (λ xs. Takes net w0 xs w) (sym (untimed_timed steps)) takes;
        in_time = from_order begin steps until order;
        ended = All-from_recursion (λ (t : Timed). t.at < until + 1) (timed steps) (ended_at begin steps until order);
        updates = λ router from here begun late.
            let s = there router here in
            elim (regular router from s.0 begun s.1) [
              | inl due ↦ prompt_update router from late due
              | inr soon ↦ let a = none_wakes router s.0 here s.1 in let b = wakes_by s.0 in absurd (omega (arith, a, b, soon, late))
            ];
        recent = recently;
        in_order = not_overtaken;
        clocks = λ s t s_in t_in same le.
            let a = moment_at s s_in in
            let b = moment_at t t_in in
            (omega (arith, a, b, le), omega (arith, a, b, le));
      }
