use Rattle.std.proofs.Common.{◌≡◌, ◌∙◌, ◌+◌, ◌∷◌, ◌++◌, [], List, Some, ap, arith, length-append, option_map, sym, subst, take}
use Rattle.std.proofs.lemmas.List.{take_all, take_more}
use Rattle.std.proofs.lemmas.Result.{err_from_is_err_and}
use Rattle.toml.specs.Data.{as_array, get_member}
use Rattle.toml.specs.View.{array_view, items_view, table_view, view}
use Rattle.toml.specs.declared.value.Value.{Value}
use Rattle.ripngd_config.specs.Faults.{KeyHas, KindHas}
use Rattle.ripngd_config.specs.Keys.{array}
use Rattle.ripngd_config.specs.Values.{AreItems}
use Rattle.ripngd_config.proofs.Arrays.{member_has, array_read, items_more}
use Rattle.ripngd_config.proofs.Refusals.{key_refuses}
use Rattle.ripngd_config.proofs.section.items_at.Goals as goal

pub returns-in_err-from_item-clause-fault : goal.returns-in_err-from_item-clause-fault
returns-in_err-from_item-clause-fault g c =
    let vs = c.as_slice-items.result.now in
    let v = c.index-items-index.result in
    let ms = table_view c.args.section.table.now in
    let got : get_member c.args.key.now ms ≡ Some (view c.in-Some.value.now) = sym c.get.ensures ∙ ap (option_map (λ v. view v.now)) c.in-Some.is in
    let is : as_array (view c.in-Some.value.now) ≡ Some (items_view vs) =
    sym c.as_array.ensures ∙ ap (option_map (λ v. array_view v.now)) c.in-Some-as_array.is ∙ ap (λ ws. Some (items_view ws)) (sym c.as_slice-items.ensures.value) in
    let p = err_from_is_err_and c.from_residual-in_err-from_item.result c.from_residual-in_err-from_item.ensures.1 in
    rw (p.1, p.2) (key_refuses (KindHas g.T.FromItem.kind (view v)) (KeyHas c.args.key.now _ (array g.T.FromItem.kind) ms)
    (λ f h. member_has g.T.FromItem.kind c.args.key.now ms (view c.in-Some.value.now) vs c.loop-index.index-counter v f got is c.loop-index-test.true c.index-items-index.is h) _ c.in_err-from_item.ensures.fault)

pub loop-index-preserved : goal.loop-index-preserved
loop-index-preserved g c =
    let R = g.T.FromItem.is_item in
    let i = c.loop-index.index-counter in
    let vs = c.as_slice-items.result.now in
    let v = c.index-items-index.result in
    let x = c.in_ok-from_item.field-0 in
    let front : take (i + 1) vs ≡ take i vs ++ v ∷ [] = take_more vs i v c.loop-index-test.true ∙ ap (λ (w : Value). take i vs ++ w ∷ []) (sym c.index-items-index.is) in
    let more = items_more R (take i vs) c.loop-index.found.items v x c.loop-index.invariant.read c.in_ok-from_item.ensures.read in
    record {
      room = omega (arith, c.push_reserved.ensures.capacity, c.loop-index.invariant.room);
      count = rw c.push_reserved.ensures.items (length-append c.loop-index.found.items (x ∷ []) ∙ ap (λ n. n + 1) c.loop-index.invariant.count);
      read = rw c.push_reserved.ensures.items (subst (λ (ws : List Value). AreItems R (items_view ws) (c.loop-index.found.items ++ x ∷ [])) (sym front) more);
    }

pub returns-clause-read : goal.returns-clause-read
returns-clause-read g c =
    let R = g.T.FromItem.is_item in
    let vs = c.as_slice-items.result.now in
    let ms = table_view c.args.section.table.now in
    let got : get_member c.args.key.now ms ≡ Some (view c.in-Some.value.now) = sym c.get.ensures ∙ ap (option_map (λ v. view v.now)) c.in-Some.is in
    let is : as_array (view c.in-Some.value.now) ≡ Some (items_view vs) =
    sym c.as_array.ensures ∙ ap (option_map (λ v. array_view v.now)) c.in-Some-as_array.is ∙ ap (λ ws. Some (items_view ws)) (sym c.as_slice-items.ensures.value) in
    let read = subst (λ (ws : List Value). AreItems R (items_view ws) c.loop-index.found.items) (take_all c.loop-index.index-counter vs c.loop-index-test.false) c.loop-index.invariant.read in
    array_read R c.args.key.now ms (view c.in-Some.value.now) (items_view vs) c.loop-index.found.items got is read
