use Rattle.std.proofs.Common.{◌≡◌, ◌∙◌, ◌∷◌, [], rules, ℕ, Option, Some, None, Err, true, false, is_some, refl, subst, sym}
use Rattle.std.specs.Prelude.{zero, suc, replicate}
use Rattle.std.specs.List.{AllByRecursion}
use Rattle.ripng_world.specs.Labs.{LabValue}
use Rattle.ripng_world.specs.Network.{Network}
use Rattle.ripng_world.specs.World.{IsCold}
use Rattle.ripng_lab.specs.declared.course.Course.{Course}
use Rattle.ripng_lab.specs.Doing.{HasDone}
use Rattle.ripng_lab.specs.ScriptWatching.{IsToldOfLab, Starts, lab_in}
use Rattle.ripng_lab.proofs.Doing.{start_done}
use Rattle.ripng_lab.proofs.ScriptWatching.{fault_told, has_told, started, untold}
use Rattle.ripng_lab.proofs.script.Session.start.Goals as goal

apart : true ≡ false → ⊥
apart e = cc

none_yet : (course : Option Course) → is_some course ≡ false → lab_in course ≡ None
none_yet None is = refl
none_yet (Some course) is = absurd (apart is)

all_same : (x n : ℕ) → AllByRecursion (λ m. m ≡ x) (replicate n x)
all_same x zero = tt
all_same x (suc n) = (refl, all_same x n)

pub returns-then-is_some-clause-told : goal.returns-then-is_some-clause-told
returns-then-is_some-clause-told g c =
    has_told g.V.Watch.starts g.V.Observer.takes g.V.Observer.fails g.V.Watch.notes (Err c.from.result) (lab_in c.args.self.now.course, c.args.watch.now) (lab_in c.args.self.now.course, c.args.watch.now) (untold g.V.Watch.starts g.V.Observer.takes g.V.Observer.fails g.V.Watch.notes (lab_in c.args.self.now.course, c.args.watch.now))

pub returns-in_err-moments-clause-told : goal.returns-in_err-moments-clause-told
returns-in_err-moments-clause-told g c =
    has_told g.V.Watch.starts g.V.Observer.takes g.V.Observer.fails g.V.Watch.notes c.from_residual.result (lab_in c.args.self.now.course, c.args.watch.now) (lab_in c.args.self.now.course, c.args.watch.now) (untold g.V.Watch.starts g.V.Observer.takes g.V.Observer.fails g.V.Watch.notes (lab_in c.args.self.now.course, c.args.watch.now))

pub returns-in_err-network-clause-told : goal.returns-in_err-network-clause-told
returns-in_err-network-clause-told g c =
    has_told g.V.Watch.starts g.V.Observer.takes g.V.Observer.fails g.V.Watch.notes c.from_residual-in_err-network.result (lab_in c.args.self.now.course, c.args.watch.now) (lab_in c.args.self.now.course, c.args.watch.now) (untold g.V.Watch.starts g.V.Observer.takes g.V.Observer.fails g.V.Watch.notes (lab_in c.args.self.now.course, c.args.watch.now))

pub returns-in_err-lab-clause-told : goal.returns-in_err-lab-clause-told
returns-in_err-lab-clause-told g c =
    has_told g.V.Watch.starts g.V.Observer.takes g.V.Observer.fails g.V.Watch.notes c.from_residual-in_err-lab.result (lab_in c.args.self.now.course, c.args.watch.now) (lab_in c.args.self.now.course, c.args.watch.now) (untold g.V.Watch.starts g.V.Observer.takes g.V.Observer.fails g.V.Watch.notes (lab_in c.args.self.now.course, c.args.watch.now))

pub returns-in_err-started-clause-told : goal.returns-in_err-started-clause-told
returns-in_err-started-clause-told g c =
    fault_told g.V.Watch.starts g.V.Observer.takes g.V.Observer.fails g.V.Watch.notes c.from_residual-in_err-started.result c.in_err-started.field-0.0 (lab_in c.args.self.now.course) c.args.watch.now c.started.new.self c.from_residual-in_err-started.ensures.1 c.in_err-started.ensures.broken

pub returns-clause-told : goal.returns-clause-told
returns-clause-told g c =
    let all : AllByRecursion (λ m. m ≡ c.args.now) c.as_slice.result.now = subst (AllByRecursion (λ m. m ≡ c.args.now)) (sym (c.as_slice.ensures.value ∙ c.in_ok-moments.ensures.items_if_clones_equal (λ y k. search rules))) (all_same c.args.now _) in
    let cold : IsCold c.in_ok-lab.lab.network c.as_slice.result.now c.in_ok-lab.lab.world = subst (λ (net : Network). IsCold net c.as_slice.result.now c.in_ok-lab.lab.world) (sym c.in_ok-lab.ensures.network) c.in_ok-lab.ensures.cold in
    let told = subst (λ (l : LabValue). g.V.Watch.starts c.args.watch.now l c.args.now c.started.new.self) c.running.ensures c.in_ok-started.ensures.starts in
    subst (λ (l : LabValue). IsToldOfLab g.V.Watch.starts g.V.Observer.takes g.V.Watch.notes (lab_in c.args.self.now.course, c.args.watch.now) (Some l, c.started.new.self)) (sym c.new-2.ensures)
    (subst (λ (l : Option LabValue). IsToldOfLab g.V.Watch.starts g.V.Observer.takes g.V.Watch.notes (l, c.args.watch.now) (Some c.in_ok-lab.lab, c.started.new.self)) (sym (none_yet c.args.self.now.course (sym c.is_some.ensures ∙ c.if-is_some.false)))
    (started g.V.Watch.starts g.V.Observer.takes g.V.Observer.fails g.V.Watch.notes c.in_ok-lab.lab c.args.now c.args.watch.now c.started.new.self (c.as_slice.result.now, all, cold) told))

pub returns-clause-done : goal.returns-clause-done
returns-clause-done g c =
    let all : AllByRecursion (λ m. m ≡ c.args.now) c.as_slice.result.now = subst (AllByRecursion (λ m. m ≡ c.args.now)) (sym (c.as_slice.ensures.value ∙ c.in_ok-moments.ensures.items_if_clones_equal (λ y k. search rules))) (all_same c.args.now _) in
    let cold : IsCold c.in_ok-lab.lab.network c.as_slice.result.now c.in_ok-lab.lab.world = subst (λ (net : Network). IsCold net c.as_slice.result.now c.in_ok-lab.lab.world) (sym c.in_ok-lab.ensures.network) c.in_ok-lab.ensures.cold in
    let told = subst (λ (l : LabValue). g.V.Watch.starts c.args.watch.now l c.args.now c.started.new.self) c.running.ensures c.in_ok-started.ensures.starts in
    subst (λ (l : LabValue). HasDone (λ ts. ts ≡ Starts c.args.now ∷ []) g.V.Watch.starts g.V.Observer.takes g.V.Watch.notes (lab_in c.args.self.now.course, c.args.watch.now) (Some l, c.started.new.self)) (sym c.new-2.ensures)
    (subst (λ (l : Option LabValue). HasDone (λ ts. ts ≡ Starts c.args.now ∷ []) g.V.Watch.starts g.V.Observer.takes g.V.Watch.notes (l, c.args.watch.now) (Some c.in_ok-lab.lab, c.started.new.self)) (sym (none_yet c.args.self.now.course (sym c.is_some.ensures ∙ c.if-is_some.false)))
    (start_done g.V.Watch.starts g.V.Observer.takes g.V.Observer.fails g.V.Watch.notes c.in_ok-lab.lab c.args.now c.args.watch.now c.started.new.self (c.as_slice.result.now, all, cold) told))
