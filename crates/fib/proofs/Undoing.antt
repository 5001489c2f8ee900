-- What undoes installs, one at a time.
use Rattle.std.proofs.Common.{◌≡◌, ℕ, Bool, true, false, cond, List, [], ◌∷◌, ◌++◌, Option, Some, None, option_map, is_some, refl, sym, ap, subst, ◌∙◌, arith}
use Rattle.std.specs.Prelude.{IsSome}
use Rattle.std.specs.Ordering.{eq_by_cmp}
use Rattle.std.specs.FinMap as map
use Rattle.std.proofs.lemmas.Bool.Decides.{nat_tests}
use Rattle.std.proofs.lemmas.Map.Views.{tells_apart}
use Rattle.prefix6.specs.Prefix.{Prefix6, prefix_cmp}
use Rattle.prefix6.proofs.PrefixLaws.{prefixes_total, exact_prefixes}
use Rattle.fib.specs.declared.change.Hop.{Hop}
use Rattle.fib.specs.Blocks.{forward_in}
use Rattle.fib.specs.Forwarding.{Forward, Forwarding}
use Rattle.fib.specs.Undo.{Undo, undo_of, restored, undone, CanRestore, CanUndo}
use Rattle.fib.proofs.ReplayLaws.{same_forwarding}

-- ---- one more
pub undone-push : (us : List Undo) (u : Undo) (t : Forwarding) → undone (us ++ u ∷ []) t ≡ undone us (restored u t)
undone-push [] u t = refl
undone-push (x ∷ us) u t = ap (restored x) (undone-push us u t)

pub can_push : (us : List Undo) (u : Undo) (t : Forwarding) → CanRestore u t → CanUndo us (restored u t) → CanUndo (us ++ u ∷ []) t
can_push [] u t can rest = (can, tt)
can_push (x ∷ us) u t can rest = (subst (CanRestore x) (sym (undone-push us u t)) rest.0, can_push us u t can rest.1)

pub can_pop : (us : List Undo) (u : Undo) (t : Forwarding) → CanUndo (us ++ u ∷ []) t → CanRestore u t × CanUndo us (restored u t)
can_pop [] u t can = (can.0, tt)
can_pop (x ∷ us) u t can =
    let rest = can_pop us u t can.1 in
    (rest.0, (subst (CanRestore x) (undone-push us u t) can.0, rest.1))

-- ---- what an install notes undoes it
itself : (p : Prefix6) → eq_by_cmp prefix_cmp p p ≡ true
itself p = grind (arith, nat_tests)

again : (b : Bool) (x y z : Option Forward) → cond b x (cond b y z) ≡ cond b x z
again true x y z = refl
again false x y z = refl

-- where a prefix gets what it had, each prefix has what it had
module _ (t : Forwarding) (p : Prefix6) (f : Forward) where
  had : (o : Option Forward) → map.get t p ≡ o → (q : Prefix6) (b : Bool) → eq_by_cmp prefix_cmp q p ≡ b → cond b o (map.get t q) ≡ map.get t q
  had o is q true tie = sym is ∙ ap (map.get t) (sym (tells_apart exact_prefixes q p tie))
  had o is q false tie = refl

  pub taken_back : (o : Option Forward) → map.get t p ≡ o → restored (undo_of p o) (map.insert t p f) ≡ t
  taken_back None is = same_forwarding _ t (λ q.
      map.get-remove prefixes_total (map.insert t p f) p q
      ∙ ap (cond (eq_by_cmp prefix_cmp q p) None) (map.get-insert prefixes_total t p f q)
      ∙ again (eq_by_cmp prefix_cmp q p) _ _ _
      ∙ had None is q _ refl)
  taken_back (Some g) is = same_forwarding _ t (λ q.
      map.get-insert prefixes_total (map.insert t p f) p g q
      ∙ ap (cond (eq_by_cmp prefix_cmp q p) (Some g)) (map.get-insert prefixes_total t p f q)
      ∙ again (eq_by_cmp prefix_cmp q p) _ _ _
      ∙ had (Some g) is q _ refl)

  there : IsSome (map.get (map.insert t p f) p)
  there = ap is_some (map.get-insert prefixes_total t p f p ∙ ap (λ b. cond b (Some f) (map.get t p)) (itself p))

  pub can_take_back : (o : Option Forward) → CanRestore (undo_of p o) (map.insert t p f)
  can_take_back None = tt
  can_take_back (Some g) = there

-- what was had is noted as it is
pub noted_as : (p : Prefix6) (was : Option (Hop × ℕ)) (o : Option Forward) → option_map forward_in was ≡ o → undo_of p o ≡ (p, was)
noted_as p None o is = ap (undo_of p) (sym is)
noted_as p (Some f) o is = ap (undo_of p) (sym is)
