use Rattle.std.proofs.Common.{◌≡◌, ◌∙◌, ◌≤◌, ◌+◌, ◌∷◌, Err, List, Ok, OnOk, Result, Some, ap, drop, length, refl, rules, subst, sym, true}
use Rattle.std.specs.FinMap as map_of
use Rattle.std.specs.Result.{is_ok}
use Rattle.std.proofs.lemmas.Bool.{false≢true}
use Rattle.std.proofs.lemmas.List.{drop_more, drop_all}
use Rattle.prefix6.specs.Prefix.{Prefix6}
use Rattle.route_table.specs.Route.{RouteValue}
use Rattle.route_table.proofs.TableSteps.{with_value-same}
use Rattle.ripng_trace.specs.Records.{with_routes}
use Rattle.ripng_trace.proofs.Telling.{told_news}
use Rattle.ripng_trace.proofs.known.learn_routes.Goals.{in-Some-2, in-None+in_ok-map_err-in-None}
use Rattle.ripng_trace.proofs.known.learn_routes.Goals as goal

of_ok : {X E P : Type 0} (r : Result X E) → is_ok r ≡ true → OnOk r P → P
of_ok (Ok x) ok h = h
of_ok (Err e) ok h = absurd (false≢true ok)

pub loop-entry-init : goal.loop-entry-init
loop-entry-init c = record {
  listed = sym (ap (with_routes c.args.known.now) c.new-news.ensures.items);
  all = refl;
}

pub loop-entry-preserved-in-Some : goal.loop-entry-preserved-in-Some
loop-entry-preserved-in-Some c =
    let entries = map_of.entries c.args.table.now in
    let i = c.loop-entry.entry-index in
    let e = c.entry-item.result in
    let is : c.deref-entry-items.result.now ≡ entries = c.deref-entry-items.ensures.value ∙ c.in_ok-entries.ensures in
    let next : drop i entries ≡ e ∷ drop (i + 1) entries =
    subst (λ (es : List (Prefix6 × RouteValue)). drop i es ≡ e ∷ drop (i + 1) es) is
    (drop_more c.deref-entry-items.result.now i e c.loop-entry-test.true ∙ ap (λ x. x ∷ drop (i + 1) c.deref-entry-items.result.now) (sym c.entry-item.is)) in
    record {
      listed = c.loop-entry.invariant.listed;
      all = ap (λ t. with_routes t (drop (i + 1) entries)) (sym (with_value-same _ e.0 (Some e.1) (sym c.get.ensures ∙ c.in-Some.is ∙ ap (λ r. Some r) (search rules))))
          ∙ ap (with_routes c.loop-entry.known) (sym next) ∙ c.loop-entry.invariant.all;
    }

pub loop-entry-preserved : goal.loop-entry-preserved
loop-entry-preserved c =
    let entries = map_of.entries c.args.table.now in
    let i = c.loop-entry.entry-index in
    let e = c.entry-item.result in
    let is : c.deref-entry-items.result.now ≡ entries = c.deref-entry-items.ensures.value ∙ c.in_ok-entries.ensures in
    let next : drop i entries ≡ e ∷ drop (i + 1) entries =
    subst (λ (es : List (Prefix6 × RouteValue)). drop i es ≡ e ∷ drop (i + 1) es) is
    (drop_more c.deref-entry-items.result.now i e c.loop-entry-test.true ∙ ap (λ x. x ∷ drop (i + 1) c.deref-entry-items.result.now) (sym c.entry-item.is)) in
    let held : c.match-get.known ≡ map_of.insert c.loop-entry.known e.0 e.1 =
    elim c.match-get.branch [
      | in-Some-2 w ↦ w.known-is ∙ w.replace.ensures
      | in-None+in_ok-map_err-in-None w ↦
          w.known-is ∙ of_ok w.add.result (sym w.map_err.ensures.variant ∙ ap is_ok w.in_ok-map_err-in-None.was) w.add.ensures.ok
    ] in
    record {
      listed = told_news c.args.known.now _ _ c.loop-entry.news.items c.push.new.self.items e.0 e.1 held c.in_ok-push.ensures.items c.loop-entry.invariant.listed;
      all = ap (λ t. with_routes t (drop (i + 1) entries)) held ∙ ap (with_routes c.loop-entry.known) (sym next) ∙ c.loop-entry.invariant.all;
    }

pub returns-clause-listed : goal.returns-clause-listed
returns-clause-listed c = c.loop-entry.invariant.listed

pub returns-clause-all : goal.returns-clause-all
returns-clause-all c =
    let entries = map_of.entries c.args.table.now in
    let is : c.deref-entry-items.result.now ≡ entries = c.deref-entry-items.ensures.value ∙ c.in_ok-entries.ensures in
    let none_left = drop_all c.loop-entry.entry-index entries (subst (λ (es : List (Prefix6 × RouteValue)). length es ≤ c.loop-entry.entry-index) is c.loop-entry-test.false) in
    sym (ap (with_routes c.loop-entry.known) none_left) ∙ c.loop-entry.invariant.all
