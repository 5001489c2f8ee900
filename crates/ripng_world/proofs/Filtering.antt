-- A list that was filtered as far as a place, and the element that is tested there.
use Rattle.std.proofs.Common.{◌≡◌, ℕ, ◌+◌, ◌<◌, ◌++◌, Bool, true, false, cond, List, [], ◌∷◌, map, take, filter, length, get_or, ap, sym, ◌∙◌, append_assoc}
use Rattle.std.proofs.lemmas.List.{append-nil, map-append}
use Rattle.std.proofs.lemmas.List.Elements.{filter_more}

module _ {X : Type 0} (p : X → Bool) (xs : List X) (i : ℕ) (d : X) (here : i < length xs) where
  pub one_kept : true ≡ p (get_or xs i d) → filter p (take i xs) ++ get_or xs i d ∷ [] ≡ filter p (take (i + 1) xs)
  one_kept passes = ap (λ (b : Bool). filter p (take i xs) ++ cond b (get_or xs i d ∷ []) []) passes ∙ sym (filter_more p xs i d here)

  pub none_kept : false ≡ p (get_or xs i d) → filter p (take i xs) ≡ filter p (take (i + 1) xs)
  none_kept fails = sym (append-nil (filter p (take i xs))) ∙ ap (λ (b : Bool). filter p (take i xs) ++ cond b (get_or xs i d ∷ []) []) fails ∙ sym (filter_more p xs i d here)

pub one_mapped : {X Y : Type 0} (f : X → Y) (before : List Y) (kept : List X) (x : X) → (before ++ map f kept) ++ f x ∷ [] ≡ before ++ map f (kept ++ x ∷ [])
one_mapped f before kept x = append_assoc before (map f kept) (f x ∷ []) ∙ ap (λ ys. before ++ ys) (sym (map-append f kept (x ∷ [])))
