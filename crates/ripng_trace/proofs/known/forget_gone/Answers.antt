use Rattle.std.proofs.Common.{◌≡◌, ◌∙◌, ◌≤◌, ◌+◌, ◌∷◌, List, None, Option, Some, ap, false, drop, is_some, length, not, refl, subst, sym}
use Rattle.std.specs.FinMap as map_of
use Rattle.std.specs.FinMap.{find}
use Rattle.std.proofs.lemmas.Bool.{false≢true}
use Rattle.std.proofs.lemmas.List.{drop_more, drop_all}
use Rattle.prefix6.specs.Prefix.{Prefix6, prefix_cmp}
use Rattle.route_table.specs.Route.{RouteValue}
use Rattle.route_table.proofs.TableSteps.{get-with_value_here}
use Rattle.ripng_trace.specs.Records.{taken_out}
use Rattle.ripng_trace.proofs.Telling.{gone_on, removed_elsewhere, told_gone}
use Rattle.ripng_trace.proofs.known.forget_gone.Goals.{then-is_none+then-is_some+in_ok-push, else-is_none, else-is_none-via-then-is_none+else-is_some, else-is_none-via-else-is_none}
use Rattle.ripng_trace.proofs.known.forget_gone.Goals as goal

none_of : {X : Type 0} (o : Option X) → is_some o ≡ false → o ≡ None
none_of None none = refl
none_of (Some x) none = absurd (false≢true (sym none))

pub loop-entry-init : goal.loop-entry-init
loop-entry-init c = record {
  listed = sym (ap (taken_out c.args.known.now) c.new-gone.ensures.items);
  gone = λ p none left. map_of.get-entries _ p ∙ left;
}

pub loop-entry-preserved : goal.loop-entry-preserved
loop-entry-preserved c =
    let known = c.args.known.now in
    let i = c.loop-entry.entry-index in
    let e = c.entry-item.result in
    let is : c.deref-entry-items.result.now ≡ map_of.entries known = c.deref-entry-items.ensures.value ∙ c.in_ok-entries.ensures in
    let next : drop i (map_of.entries known) ≡ e ∷ drop (i + 1) (map_of.entries known) =
    subst (λ (es : List (Prefix6 × RouteValue)). drop i es ≡ e ∷ drop (i + 1) es) is
    (drop_more c.deref-entry-items.result.now i e c.loop-entry-test.true ∙ ap (λ x. x ∷ drop (i + 1) c.deref-entry-items.result.now) (sym c.entry-item.is)) in
    let on = gone_on c.args.table.now c.loop-entry.known c.if-is_none.known e.0 e.1 (drop (i + 1) (map_of.entries known))
    (λ p none left. c.loop-entry.invariant.gone p none (ap (find prefix_cmp p) next ∙ left)) in
    elim c.if-is_none.branch [
      | then-is_none+then-is_some+in_ok-push w ↦
          let removed = w.known-is ∙ w.remove.ensures in
          record {
            listed = told_gone known _ _ c.loop-entry.gone.items c.if-is_none.gone.items e.0 removed (ap (λ v. v.items) w.gone-is ∙ w.in_ok-push.ensures.items) c.loop-entry.invariant.listed;
            gone = on (λ none. ap (λ t. map_of.get t e.0) removed ∙ get-with_value_here _ e.0 None) (λ p none. ap (λ t. map_of.get t p) removed ∙ removed_elsewhere _ e.0 p none);
          }
      | else-is_none w ↦
          let same = w.known-is in
          record {
            listed = same ∙ c.loop-entry.invariant.listed ∙ sym (ap (λ v. taken_out known v.items) w.gone-is);
            gone = on (λ none. ap (λ t. map_of.get t e.0) same ∙ elim w.else-is_none.branch [
              | else-is_none-via-then-is_none+else-is_some v ↦ sym v.get-then-is_none.ensures ∙ none_of _ (sym v.is_some.ensures ∙ v.if-is_some.false)
              | else-is_none-via-else-is_none v ↦ absurd (false≢true (ap is_some (sym none) ∙ ap is_some (sym c.get.ensures) ∙ c.is_none.ensures ∙ ap not v.if-is_none.false))
            ]) (λ p none. ap (λ t. map_of.get t p) same ∙ none);
          }
    ]

pub returns-clause-listed : goal.returns-clause-listed
returns-clause-listed c = c.loop-entry.invariant.listed

pub returns-clause-gone : goal.returns-clause-gone
returns-clause-gone c =
    let known = c.args.known.now in
    let is : c.deref-entry-items.result.now ≡ map_of.entries known = c.deref-entry-items.ensures.value ∙ c.in_ok-entries.ensures in
    let none_left = drop_all c.loop-entry.entry-index (map_of.entries known) (subst (λ (es : List (Prefix6 × RouteValue)). length es ≤ c.loop-entry.entry-index) is c.loop-entry-test.false) in
    λ p none. c.loop-entry.invariant.gone p none (ap (find prefix_cmp p) none_left)
