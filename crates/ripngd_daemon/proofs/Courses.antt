-- What was done, from one turn to the next, and what is minded of lost routes.
use Rattle.std.proofs.Common.{◌≡◌, ◌∙◌, ◌+◌, ◌<◌, ◌≤◌, ℕ, suc, false, List, [], ◌∷◌, ◌++◌, Option, None, Some, refl, sym, ap, subst, inl, inr, arith}
use Rattle.std.specs.Prelude.{◌⊎◌}
use Rattle.ripngd_control.specs.Clients.{Heeds}
use Rattle.ripngd_control.specs.Commands.{control_text}
use Rattle.ripngd_control.specs.declared.command.Command.TheVariants.{LinkDown}
use Rattle.ripngd_engine.specs.Seen.{Ran, Seen}
use Rattle.ripngd_daemon.specs.Questions.{AsksIfDue, AsksOn, AsksOnFirst, LosesRoute, Minds, MindsOnly}
use Rattle.ripngd_daemon.specs.Run.{AreDone, AsksRightly, CutsRoute, HasDone, HasLostSince, IsOver, IsSecondAfter, Passes, Steps, Begun, Turned, Told, Asked, TurnsAndHeeds}
use Rattle.ripngd_daemon.specs.declared.asking.Asking.{Asking}

-- a run of no turn
has_done_nothing : (seconds : Option ℕ) (lines : List (List ℕ)) (a : Seen) → lines ≡ [] → HasDone seconds 0 lines a a
has_done_nothing seconds lines a none = record { steps = Begun; turns = refl; told = sym none; are_done = refl; asks = tt }

-- what clients told behind it
heeds_more : (seconds : Option ℕ) (count : ℕ) (before after : List (List ℕ)) (a m b : Seen) → HasDone seconds count before a m
    → m.machine.ended ≡ false → Heeds before m after b → HasDone seconds count after a b
heeds_more seconds count before after a m b has going (inl same) =
    let P : Seen → Type 0 = λ x. HasDone seconds count before a x in
    let Q : List (List ℕ) → Type 0 = λ lines. HasDone seconds count lines a b in
    subst Q (sym same.0) (subst P (sym same.1) has)
heeds_more seconds count before after a m b has going (inr told) = record {
  steps = Told has.steps told.0;
  turns = has.turns;
  told = ap (λ lines. lines ++ told.0 ∷ []) has.told ∙ sym told.1;
  are_done = (m, has.are_done, going, told.2);
  asks = has.asks;
}

-- a turn more
pub ran_more : (seconds : Option ℕ) (count : ℕ) (lines : List (List ℕ)) (a m b : Seen) → HasDone seconds count lines a m
    → ¬ (IsOver seconds m.machine.router.last) → Ran 1 m b → HasDone seconds (count + 1) lines a b
ran_more seconds count lines a m b has in_time ran = record {
  steps = Turned has.steps;
  turns = ap (λ n. n + 1) has.turns;
  told = has.told;
  are_done = (m, has.are_done, (in_time, ran));
  asks = has.asks;
}

-- a question on one link more
pub asks_more : (iface : ℕ) (a m b : Seen) → AsksOnFirst iface a m → m.machine.ended ≡ false → AsksOn iface m b → AsksOnFirst (iface + 1) a b
asks_more iface a m b before going asks =
    let more : AsksOnFirst (suc iface) a b = (m, before, going, asks) in
    let next : suc iface ≡ iface + 1 = omega arith in
    subst (λ count. AsksOnFirst count a b) next more

-- what was done so far, and what is minded of it: it asks next only if a route was lost since it asked last, and not within a second
pub record HasMinded (seconds : Option ℕ) (count : ℕ) (lines : List (List ℕ)) (asking : Asking) (a b : Seen) : Type 0 where
  pub has_done : HasDone seconds count lines a b
  pub lost : (due : ℕ) → asking.due ≡ Some due → HasLostSince seconds has_done.steps a b has_done.are_done
  pub second : IsSecondAfter asking.free_at seconds has_done.steps a b has_done.are_done

-- no route was lost yet
pub minded_nothing : (seconds : Option ℕ) (lines : List (List ℕ)) (asking : Asking) (a : Seen) → lines ≡ [] → asking.due ≡ None → HasMinded seconds 0 lines asking a a
unfolding has_done_nothing
minded_nothing seconds lines asking a none idle = record {
  has_done = has_done_nothing seconds lines a none;
  lost = λ due is. (let e : None ≡ Some due = sym idle ∙ is in absurd (cc e));
  second = tt;
}

-- a second after something is a second after what was before
second_later : (n k : ℕ) (seconds : Option ℕ) (steps : Steps) (a b : Seen) (done : AreDone seconds steps a b) → n ≤ k → IsSecondAfter n seconds steps a b done
    → IsSecondAfter k seconds steps a b done
second_later n k seconds Begun a b done le is = tt
second_later n k seconds (Turned before) a b done le is = second_later n k seconds before a done.0 done.1 le is
second_later n k seconds (Told before line) a b done le is = second_later n k seconds before a done.0 done.1 le is
second_later n k seconds (Asked before) a b done le is = omega (arith, le, is)

-- whatever is minded is a loss
only : (Loss : Type 0) (old new : Asking) → Minds Loss old new → MindsOnly Loss old new
only Loss old new (inl none) = inl none.1
only Loss old new (inr loss) = inr (loss.0, loss.2)

-- what is minded stays what it was, or is a loss
minded : (Earlier Loss : Type 0) (old new : Asking) → MindsOnly Loss old new → ((due : ℕ) → old.due ≡ Some due → Earlier) → (due : ℕ) → new.due ≡ Some due → Loss ⊎ Earlier
minded Earlier Loss old new (inl same) lost due is = inr (lost due (ap (λ x. x.due) (sym same) ∙ is))
minded Earlier Loss old new (inr loss) lost due is = inl loss.0

free_same : (Loss : Type 0) (old new : Asking) → MindsOnly Loss old new → old.free_at ≡ new.free_at
free_same Loss old new (inl same) = ap (λ x. x.free_at) (sym same)
free_same Loss old new (inr loss) = sym loss.1

-- a turn more
turned : (seconds : Option ℕ) (count : ℕ) (lines : List (List ℕ)) (old new : Asking) (a m b : Seen) → HasMinded seconds count lines old a m
    → ¬ (IsOver seconds m.machine.router.last) → Ran 1 m b → Minds (LosesRoute m b) old new → HasMinded seconds (count + 1) lines new a b
unfolding ran_more
turned seconds count lines old new a m b has in_time ran minds = record {
  has_done = ran_more seconds count lines a m b has.has_done in_time ran;
  lost = minded (HasLostSince seconds has.has_done.steps a m has.has_done.are_done) (LosesRoute m b) old new (only (LosesRoute m b) old new minds) has.lost;
  second = subst (λ at. IsSecondAfter at seconds has.has_done.steps a m has.has_done.are_done) (free_same (LosesRoute m b) old new (only (LosesRoute m b) old new minds)) has.second;
}

-- nothing is lost while nothing is done
lost_nothing : (m : Seen) → LosesRoute m m → ⊥
lost_nothing m (inl low) = omega (arith, low)
lost_nothing m (inr low) = omega (arith, low)

-- the last of two equal lists
last_same : (before : List (List ℕ)) (line other : List ℕ) → before ++ line ∷ [] ≡ before ++ other ∷ [] → line ≡ other
last_same [] line other e = cc e
last_same (first ∷ before) line other e = last_same before line other (cc e)

-- a loss by a link that a client cut
pub cut_minded : (before after : List (List ℕ)) (a b : Seen) (old new : Asking) → ((iface : ℕ) × (after ≡ before ++ control_text (LinkDown iface) ∷ []))
    → Minds (LosesRoute a b) old new → MindsOnly (CutsRoute before a after b) old new
cut_minded before after a b old new cut (inl none) = inl none.1
cut_minded before after a b old new cut (inr loss) = inr ((loss.0, cut.0, cut.1), loss.2)

-- what clients told then
heeded : (seconds : Option ℕ) (count : ℕ) (before after : List (List ℕ)) (old new : Asking) (a m b : Seen) → HasMinded seconds count before old a m
    → m.machine.ended ≡ false → Heeds before m after b → MindsOnly (CutsRoute before m after b) old new → HasMinded seconds count after new a b
unfolding heeds_more
heeded seconds count before after old new a m b has going (inl same) (inl kept) =
    subst (λ x. HasMinded seconds count after x a b) (sym kept)
    (subst (λ x. HasMinded seconds count after old a x) (sym same.1) (subst (λ lines. HasMinded seconds count lines old a m) (sym same.0) has))
heeded seconds count before after old new a m b has going (inl same) (inr cut) =
    absurd (lost_nothing m (subst (λ x. LosesRoute m x) same.1 cut.0.0))
heeded seconds count before after old new a m b has going (inr told) minds = record {
  has_done = heeds_more seconds count before after a m b has.has_done going (inr told);
  lost = minded (HasLostSince seconds has.has_done.steps a m has.has_done.are_done) (LosesRoute m b × (iface : ℕ) × (told.0 ≡ control_text (LinkDown iface))) old new
      (cuts minds) has.lost;
  second = subst (λ at. IsSecondAfter at seconds has.has_done.steps a m has.has_done.are_done) (free_same (CutsRoute before m after b) old new minds) has.second;
}
  where
    cuts : MindsOnly (CutsRoute before m after b) old new → MindsOnly (LosesRoute m b × (iface : ℕ) × (told.0 ≡ control_text (LinkDown iface))) old new
    cuts (inl same) = inl same
    cuts (inr cut) = inr ((cut.0.0, cut.0.1, last_same before told.0 (control_text (LinkDown cut.0.1)) (sym told.1 ∙ cut.0.2)), cut.1)

-- a question, if one was due
asked : (seconds : Option ℕ) (count : ℕ) (lines : List (List ℕ)) (old new : Asking) (a m b : Seen) → HasMinded seconds count lines old a m
    → AsksIfDue old m new b → HasMinded seconds count lines new a b
asked seconds count lines old new a m b has (inl same) =
    subst (λ x. HasMinded seconds count lines x a b) (sym same.0) (subst (λ x. HasMinded seconds count lines old a x) (sym same.1) has)
asked seconds count lines old new a m b has (inr (due, asks, idle, second)) = record {
  has_done = record {
    steps = Asked has.has_done.steps;
    turns = has.has_done.turns;
    told = has.has_done.told;
    are_done = (m, has.has_done.are_done, asks);
    asks = (
      has.lost due.0 due.1,
      second_later old.free_at m.machine.router.last seconds has.has_done.steps a m has.has_done.are_done due.3 has.second,
      has.has_done.asks,
    );
  };
  lost = λ at is. (let e : None ≡ Some at = sym idle ∙ is in absurd (cc e));
  second = second;
}

-- all of that
pub passed : (seconds : Option ℕ) (count : ℕ) (before after : List (List ℕ)) (old new : Asking) (a m b : Seen) → HasMinded seconds count before old a m
    → ¬ (IsOver seconds m.machine.router.last) → Passes old before m new after b → HasMinded seconds (count + 1) after new a b
passed seconds count before after old new a m b has in_time (k, middle, (t, between, ran, going, minds, heeds, cuts), then) =
    by then
  where
    so_far : HasMinded seconds (count + 1) after middle a k
    so_far =
        heeded seconds (count + 1) before after between middle a t k
        (turned seconds count before old between a m t has in_time ran minds) going heeds cuts

    by : ((new ≡ middle) × (b ≡ k)) ⊎ ((k.machine.ended ≡ false) × AsksIfDue middle k new b) → HasMinded seconds (count + 1) after new a b
    by (inl same) =
        subst (λ x. HasMinded seconds (count + 1) after x a b) (sym same.0) (subst (λ x. HasMinded seconds (count + 1) after middle a x) (sym same.1) so_far)
    by (inr asks) = asked seconds (count + 1) after middle new a k b so_far asks.1
