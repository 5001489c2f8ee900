use Rattle.std.proofs.Common.{◌≡◌, ◌↔◌, ◌⊎◌, IsTrue, ℕ, ◌<◌, ◌≤◌, ◌+◌, ◌^◌, List, Option, None, Some, length, slice_get, refl, sym, subst, ◌∙◌, ap, arith, rules}
use Rattle.std.proofs.lemmas.Slice.Eq.{slice_eq-Decides}
use Rattle.ripng_world.specs.Network.{Network}
use Rattle.ripng_world.specs.declared.watch.Stopped.TheVariants.{Refused}
use Rattle.ripng_phases.specs.Changing.{shown_in}
use Rattle.ripng_phases.specs.Making.{IsCutShort, IsUnderway}
use Rattle.ripng_phases.specs.declared.acting.Course.{Course}
use Rattle.ripng_phases.specs.declared.acting.Update.{Update}
use Rattle.ripng_phases.specs.declared.refused.PhaseRefused.{PhaseRefused}
use Rattle.ripng_phases.specs.declared.refused.PhaseRefused.TheVariants.{OutOfMemory, PastLastMoment}
use Rattle.ripng_phases.proofs.Outcomes.{begins, cut_behind, cut_handed, ended, is_over, not_begun, not_new, some_new, untold}
use Rattle.ripng_phases.proofs.making.make_phase.Goals as goal

past : (begin : ℕ) → (begin ≤ 2 ^ 60 → ⊥) → 2 ^ 60 < begin
past begin never = grind (arith, never)

-- memory is refused, or there is no such moment
pub returns-in_default-clause-stopped : goal.returns-in_default-clause-stopped
returns-in_default-clause-stopped g c = not_begun g.V.Observer.takes g.V.Observer.fails (c.args.lab.now, c.args.watch.now) c.args.first c.args.begin OutOfMemory tt

pub returns-in_err-moment-clause-stopped : goal.returns-in_err-moment-clause-stopped
returns-in_err-moment-clause-stopped g c =
    let x = ended c.new.result PastLastMoment c.in_err-moment.field-0.0 c.in_err-moment.ensures.value in
    let late = past c.args.begin (not_new _ _ c.new.result c.new.ensures x.0) in
    cut_handed g.V.Observer.takes g.V.Observer.fails c.from_residual.result (Refused c.in_err-moment.field-0.0) (c.args.lab.now, c.args.watch.now) c.args.first c.args.begin (c.args.lab.now, c.args.watch.now) c.from_residual.ensures.1
    (subst (λ (why : PhaseRefused). IsCutShort g.V.Observer.takes g.V.Observer.fails (c.args.lab.now, c.args.watch.now) c.args.first c.args.begin (Refused why) (c.args.lab.now, c.args.watch.now)) (sym x.1)
    (not_begun g.V.Observer.takes g.V.Observer.fails (c.args.lab.now, c.args.watch.now) c.args.first c.args.begin PastLastMoment late))

pub returns-in_default-vec-clause-stopped : goal.returns-in_default-vec-clause-stopped
returns-in_default-vec-clause-stopped g c = not_begun g.V.Observer.takes g.V.Observer.fails (c.args.lab.now, c.args.watch.now) c.args.first c.args.begin OutOfMemory tt

only_none : (P : Option Update → Type 0) → ((u : Update) → P (Some u) → ⊥) → (o : Option Update) → P o → o ≡ None
only_none P never None same = refl
only_none P never (Some u) same = absurd (never u same)

-- the phase begins
pub tell_rest-requires : goal.tell_rest-requires
tell_rest-requires g c =
    c.in_ok-make_turns.ensures.routers ∙ sym c.in-Ok-vec.told.ok.0 ∙ c.in-Ok-vec.ensures.len ∙ c.routers.ensures ∙ sym (ap length c.in_ok-make_turns.ensures.network)

pub returns-in_err-make_turns-clause-stopped : goal.returns-in_err-make_turns-clause-stopped
returns-in_err-make_turns-clause-stopped g c =
    let moment_is = (some_new _ _ c.new.result c.in_ok-moment.moment c.new.ensures c.in_ok-moment.ensures.ok_part).1 in
    let none : (router : ℕ) (u : Update) → slice_get c.in-Ok-vec.told.items router ≡ Some (Some u) → ⊥ =
    λ router u at. untold c.routers.result router u (subst (λ (us : List (Option Update)). slice_get us router ≡ Some (Some u)) (c.in-Ok-vec.ensures.items_if_clones_equal (only_none _ (λ x same. same))) at) in
    let course : Course = record { moment = c.in_ok-moment.moment; end = c.args.begin + 60_000; next = c.args.first; until = length c.sent.result.now; told = c.in-Ok-vec.told } in
    let begun : IsUnderway g.V.Observer.takes (c.args.lab.now, c.args.watch.now) c.args.first c.args.begin course (c.args.lab.now, c.args.watch.now) =
    begins g.V.Observer.takes c.args.lab.now c.args.watch.now c.args.begin c.args.first course
    (record {
      moment_is = moment_is;
      ends = refl;
      next_is = refl;
      until_is = ap length c.sent.ensures.value;
      routers = sym c.in-Ok-vec.told.ok.0 ∙ c.in-Ok-vec.ensures.len ∙ c.routers.ensures;
      untold = none;
    }) c.requires in
    cut_handed g.V.Observer.takes g.V.Observer.fails c.from_residual-in_err-make_turns.result c.in_err-make_turns.field-0.0 (c.args.lab.now, c.args.watch.now) c.args.first c.args.begin (c.make_turns.new.lab, c.make_turns.new.watch) c.from_residual-in_err-make_turns.ensures.1
    (c.in_err-make_turns.ensures.goes (c.args.lab.now, c.args.watch.now) c.args.first c.args.begin begun)

pub returns-in_err-tell_rest-clause-stopped : goal.returns-in_err-tell_rest-clause-stopped
returns-in_err-tell_rest-clause-stopped g c =
    let moment_is = (some_new _ _ c.new.result c.in_ok-moment.moment c.new.ensures c.in_ok-moment.ensures.ok_part).1 in
    let none : (router : ℕ) (u : Update) → slice_get c.in-Ok-vec.told.items router ≡ Some (Some u) → ⊥ =
    λ router u at. untold c.routers.result router u (subst (λ (us : List (Option Update)). slice_get us router ≡ Some (Some u)) (c.in-Ok-vec.ensures.items_if_clones_equal (only_none _ (λ x same. same))) at) in
    let course : Course = record { moment = c.in_ok-moment.moment; end = c.args.begin + 60_000; next = c.args.first; until = length c.sent.result.now; told = c.in-Ok-vec.told } in
    let begun : IsUnderway g.V.Observer.takes (c.args.lab.now, c.args.watch.now) c.args.first c.args.begin course (c.args.lab.now, c.args.watch.now) =
    begins g.V.Observer.takes c.args.lab.now c.args.watch.now c.args.begin c.args.first course
    (record {
      moment_is = moment_is;
      ends = refl;
      next_is = refl;
      until_is = ap length c.sent.ensures.value;
      routers = sym c.in-Ok-vec.told.ok.0 ∙ c.in-Ok-vec.ensures.len ∙ c.routers.ensures;
      untold = none;
    }) c.requires in
    let turned = c.in_ok-make_turns.ensures.goes (c.args.lab.now, c.args.watch.now) c.args.first c.args.begin begun in
    cut_handed g.V.Observer.takes g.V.Observer.fails c.from_residual-in_err-tell_rest.result c.in_err-tell_rest.field-0.0 (c.args.lab.now, c.args.watch.now) c.args.first c.args.begin (c.tell_rest.new.lab, c.tell_rest.new.watch) c.from_residual-in_err-tell_rest.ensures.1
    (c.in_err-tell_rest.ensures.goes (c.args.lab.now, c.args.watch.now) c.args.first c.args.begin turned)

pub returns-in_err-hand_until-clause-stopped : goal.returns-in_err-hand_until-clause-stopped
returns-in_err-hand_until-clause-stopped g c =
    let moment_is = (some_new _ _ c.new.result c.in_ok-moment.moment c.new.ensures c.in_ok-moment.ensures.ok_part).1 in
    let none : (router : ℕ) (u : Update) → slice_get c.in-Ok-vec.told.items router ≡ Some (Some u) → ⊥ =
    λ router u at. untold c.routers.result router u (subst (λ (us : List (Option Update)). slice_get us router ≡ Some (Some u)) (c.in-Ok-vec.ensures.items_if_clones_equal (only_none _ (λ x same. same))) at) in
    let course : Course = record { moment = c.in_ok-moment.moment; end = c.args.begin + 60_000; next = c.args.first; until = length c.sent.result.now; told = c.in-Ok-vec.told } in
    let begun : IsUnderway g.V.Observer.takes (c.args.lab.now, c.args.watch.now) c.args.first c.args.begin course (c.args.lab.now, c.args.watch.now) =
    begins g.V.Observer.takes c.args.lab.now c.args.watch.now c.args.begin c.args.first course
    (record {
      moment_is = moment_is;
      ends = refl;
      next_is = refl;
      until_is = ap length c.sent.ensures.value;
      routers = sym c.in-Ok-vec.told.ok.0 ∙ c.in-Ok-vec.ensures.len ∙ c.routers.ensures;
      untold = none;
    }) c.requires in
    let turned = c.in_ok-make_turns.ensures.goes (c.args.lab.now, c.args.watch.now) c.args.first c.args.begin begun in
    let told = c.in_ok-tell_rest.ensures.goes (c.args.lab.now, c.args.watch.now) c.args.first c.args.begin turned in
    cut_handed g.V.Observer.takes g.V.Observer.fails c.from_residual-in_err-hand_until.result c.in_err-hand_until.field-0.0 (c.args.lab.now, c.args.watch.now) c.args.first c.args.begin (c.hand_until.new.lab, c.hand_until.new.watch) c.from_residual-in_err-hand_until.ensures.1
    (c.in_err-hand_until.ensures.goes (c.args.lab.now, c.args.watch.now) c.args.first c.args.begin told)

-- it is made
pub returns-clause-made : goal.returns-clause-made
returns-clause-made g c =
    let moment_is = (some_new _ _ c.new.result c.in_ok-moment.moment c.new.ensures c.in_ok-moment.ensures.ok_part).1 in
    let none : (router : ℕ) (u : Update) → slice_get c.in-Ok-vec.told.items router ≡ Some (Some u) → ⊥ =
    λ router u at. untold c.routers.result router u (subst (λ (us : List (Option Update)). slice_get us router ≡ Some (Some u)) (c.in-Ok-vec.ensures.items_if_clones_equal (only_none _ (λ x same. same))) at) in
    let course : Course = record { moment = c.in_ok-moment.moment; end = c.args.begin + 60_000; next = c.args.first; until = length c.sent.result.now; told = c.in-Ok-vec.told } in
    let begun : IsUnderway g.V.Observer.takes (c.args.lab.now, c.args.watch.now) c.args.first c.args.begin course (c.args.lab.now, c.args.watch.now) =
    begins g.V.Observer.takes c.args.lab.now c.args.watch.now c.args.begin c.args.first course
    (record {
      moment_is = moment_is;
      ends = refl;
      next_is = refl;
      until_is = ap length c.sent.ensures.value;
      routers = sym c.in-Ok-vec.told.ok.0 ∙ c.in-Ok-vec.ensures.len ∙ c.routers.ensures;
      untold = none;
    }) c.requires in
    let turned = c.in_ok-make_turns.ensures.goes (c.args.lab.now, c.args.watch.now) c.args.first c.args.begin begun in
    let told = c.in_ok-tell_rest.ensures.goes (c.args.lab.now, c.args.watch.now) c.args.first c.args.begin turned in
    let handed = c.in_ok-hand_until.ensures.goes (c.args.lab.now, c.args.watch.now) c.args.first c.args.begin told in
    is_over g.V.Observer.takes (c.args.lab.now, c.args.watch.now) c.args.first c.args.begin c.hand_until.new.course (c.hand_until.new.lab, c.hand_until.new.watch) handed
    (λ router here.
    let x = c.in_ok-tell_rest.ensures.told router (subst (λ (net : Network). router < length net) (sym c.in_ok-make_turns.ensures.network) here) in
    (x.0, subst (λ (us : List (Option Update)). slice_get us router ≡ Some (Some x.0)) (sym c.in_ok-hand_until.ensures.told) x.1))
    (subst (λ (n : ℕ). (n ≤ c.hand_until.new.course.next) ⊎ (length c.hand_until.new.lab.world.sent ≤ c.hand_until.new.course.next)) (sym c.in_ok-hand_until.ensures.until) c.in_ok-hand_until.ensures.over)

pub returns-in_default-shown_routes-clause-stopped : goal.returns-in_default-shown_routes-clause-stopped
returns-in_default-shown_routes-clause-stopped g c =
    let moment_is = (some_new _ _ c.new.result c.in_ok-moment.moment c.new.ensures c.in_ok-moment.ensures.ok_part).1 in
    let none : (router : ℕ) (u : Update) → slice_get c.in-Ok-vec.told.items router ≡ Some (Some u) → ⊥ =
    λ router u at. untold c.routers.result router u (subst (λ (us : List (Option Update)). slice_get us router ≡ Some (Some u)) (c.in-Ok-vec.ensures.items_if_clones_equal (only_none _ (λ x same. same))) at) in
    let course : Course = record { moment = c.in_ok-moment.moment; end = c.args.begin + 60_000; next = c.args.first; until = length c.sent.result.now; told = c.in-Ok-vec.told } in
    let begun : IsUnderway g.V.Observer.takes (c.args.lab.now, c.args.watch.now) c.args.first c.args.begin course (c.args.lab.now, c.args.watch.now) =
    begins g.V.Observer.takes c.args.lab.now c.args.watch.now c.args.begin c.args.first course
    (record {
      moment_is = moment_is;
      ends = refl;
      next_is = refl;
      until_is = ap length c.sent.ensures.value;
      routers = sym c.in-Ok-vec.told.ok.0 ∙ c.in-Ok-vec.ensures.len ∙ c.routers.ensures;
      untold = none;
    }) c.requires in
    let turned = c.in_ok-make_turns.ensures.goes (c.args.lab.now, c.args.watch.now) c.args.first c.args.begin begun in
    let told = c.in_ok-tell_rest.ensures.goes (c.args.lab.now, c.args.watch.now) c.args.first c.args.begin turned in
    let handed = c.in_ok-hand_until.ensures.goes (c.args.lab.now, c.args.watch.now) c.args.first c.args.begin told in
    cut_behind g.V.Observer.takes g.V.Observer.fails (c.args.lab.now, c.args.watch.now) c.args.first c.args.begin c.hand_until.new.course.next (c.hand_until.new.lab, c.hand_until.new.watch)
    (is_over g.V.Observer.takes (c.args.lab.now, c.args.watch.now) c.args.first c.args.begin c.hand_until.new.course (c.hand_until.new.lab, c.hand_until.new.watch) handed
    (λ router here.
    let x = c.in_ok-tell_rest.ensures.told router (subst (λ (net : Network). router < length net) (sym c.in_ok-make_turns.ensures.network) here) in
    (x.0, subst (λ (us : List (Option Update)). slice_get us router ≡ Some (Some x.0)) (sym c.in_ok-hand_until.ensures.told) x.1))
    (subst (λ (n : ℕ). (n ≤ c.hand_until.new.course.next) ⊎ (length c.hand_until.new.lab.world.sent ≤ c.hand_until.new.course.next)) (sym c.in_ok-hand_until.ensures.until) c.in_ok-hand_until.ensures.over))

pub returns-clause-compared : goal.returns-clause-compared
returns-clause-compared g c =
    let net = c.args.lab.now.network in
    let kept : c.hand_until.new.lab.network ≡ net = c.in_ok-hand_until.ensures.network ∙ c.in_ok-tell_rest.ensures.network ∙ c.in_ok-make_turns.ensures.network in
    let after_is : c.as_slice.result.now ≡ shown_in net c.hand_until.new.lab.world = c.as_slice.ensures.value ∙ c.in-Ok-shown_routes.ensures ∙ ap (λ (n : Network). shown_in n c.hand_until.new.lab.world) kept in
    let before_is : c.as_slice-2.result.now ≡ shown_in net c.args.lab.now.world = c.as_slice-2.ensures.value ∙ c.in-Ok.ensures in
    let same : IsTrue c.eq.result ↔ (c.as_slice.result.now ≡ c.as_slice-2.result.now) = slice_eq-Decides (λ a b. (search rules, search rules)) c.as_slice.result.now c.as_slice-2.result.now c.eq.result c.eq.ensures in
    (λ t. sym after_is ∙ same.0 t ∙ before_is, λ e. same.1 (after_is ∙ e ∙ sym before_is))
