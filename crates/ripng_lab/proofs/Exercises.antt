-- Two lists that agree item by item, up to a place and as a whole.
use Rattle.std.proofs.Common.{◌≡◌, ◌∙◌, ◌<◌, ◌≤◌, ◌+◌, ◌++◌, ℕ, zero, suc, Bool, true, false, not, List, [], ◌∷◌, Some, None, length, get_or, take, ap, sym, refl, subst, arith}
use Rattle.std.specs.List.{AllZip, slice_get}
use Rattle.std.specs.Bool.{MatchBool}
use Rattle.ripng_lab.specs.Exercises.{Departs, HasRole, IsUnlike, LacksRole, LeavesEvents, counted}
use Rattle.ripng_lab.specs.declared.exercise.Role.TheVariants.{Event}
use Rattle.ripng_lab.specs.declared.exercise.Statement.{Statement}
use Rattle.ripng_lab.specs.declared.exercise.Unlike.{Unlike}
use Rattle.ripng_lab.specs.declared.exercise.Unlike.TheVariants.{OtherLine, MissingLine, AddedLine, NoStart, NoEvent}
use Rattle.std.proofs.lemmas.List.{take_all, take_more}
use Rattle.std.proofs.lemmas.Option.{get_or_from_slice_get, slice_get_within}

-- one more item of each
pushed : {X : Type 0} (R : X → X → Type 0) (xs ys : List X) (x y : X) → AllZip R xs ys → R x y → AllZip R (xs ++ x ∷ []) (ys ++ y ∷ [])
pushed R [] [] x y before here = (here, tt)
pushed R [] (v ∷ ys) x y before here = absurd before
pushed R (w ∷ xs) [] x y before here = absurd before
pushed R (w ∷ xs) (v ∷ ys) x y before here = (before.0, pushed R xs ys x y before.1 here)

-- one item more
pub taken : {X : Type 0} (xs : List X) (i : ℕ) (x : X) → i < length xs → x ≡ get_or xs i x → take (i + 1) xs ≡ take i xs ++ x ∷ []
taken {X} xs i x lt is = take_more xs i x lt ∙ ap (λ (z : X). take i xs ++ z ∷ []) (sym is)

-- they agree up to a place, and there
pub agree_more : {X : Type 0} (R : X → X → Type 0) (xs ys : List X) (i : ℕ) (x y : X) → i < length xs → x ≡ get_or xs i x → slice_get ys i ≡ Some y
    → AllZip R (take i xs) (take i ys) → R x y → AllZip R (take (i + 1) xs) (take (i + 1) ys)
agree_more {X} R xs ys i x y lt is there before here =
    let first : take (i + 1) xs ≡ take i xs ++ x ∷ [] = taken xs i x lt is in
    let second : take (i + 1) ys ≡ take i ys ++ y ∷ [] = taken ys i y (slice_get_within ys i y there) (sym (get_or_from_slice_get ys i y y there)) in
    subst (λ (zs : List X). AllZip R (take (i + 1) xs) zs) (sym second)
    (subst (λ (zs : List X). AllZip R zs (take i ys ++ y ∷ [])) (sym first) (pushed R (take i xs) (take i ys) x y before here))

-- a list has no item past its end alone
pub past_end : {X : Type 0} (xs : List X) (i : ℕ) → slice_get xs i ≡ None → length xs ≤ i
past_end [] i none = omega arith
past_end (x ∷ xs) zero none = absurd (cc none)
past_end (x ∷ xs) (suc i) none = let rest = past_end xs i none in omega (arith, rest)

-- they agree up to a place that neither goes on from
pub agree_all : {X : Type 0} (R : X → X → Type 0) (xs ys : List X) (i : ℕ) → length xs ≤ i → length ys ≤ i → AllZip R (take i xs) (take i ys) → AllZip R xs ys
agree_all {X} R xs ys i first second before =
    subst (λ (zs : List X). AllZip R xs zs) (take_all i ys second) (subst (λ (zs : List X). AllZip R zs (take i ys)) (take_all i xs first) before)

-- they agree as far as the second goes, which ends here
pub agree_to_second : {X : Type 0} (R : X → X → Type 0) (xs ys : List X) (i : ℕ) → i ≡ length ys → AllZip R (take i xs) (take i ys) → AllZip R (take (length ys) xs) ys
agree_to_second {X} R xs ys i ends before =
    subst (λ (zs : List X). AllZip R (take (length ys) xs) zs) (take_all (length ys) ys (omega arith))
    (subst (λ (n : ℕ). AllZip R (take n xs) (take n ys)) ends before)

-- they agree as far as the first goes, which ends here
pub agree_to_first : {X : Type 0} (R : X → X → Type 0) (xs ys : List X) (i : ℕ) → i ≡ length xs → AllZip R (take i xs) (take i ys) → AllZip R xs (take (length xs) ys)
agree_to_first {X} R xs ys i ends before =
    subst (λ (zs : List X). AllZip R zs (take (length xs) ys)) (take_all (length xs) xs (omega arith))
    (subst (λ (n : ℕ). AllZip R (take n xs) (take n ys)) ends before)

-- lines that depart are no solution
pub departs_unlike : (exercise solution : List Statement) (free : Bool) (why : Unlike) → LeavesEvents exercise free → Departs (counted free exercise) (counted free solution) why
    → IsUnlike exercise solution why
departs_unlike exercise solution free (OtherLine k l) leaves departs = (free, leaves, departs)
departs_unlike exercise solution free (MissingLine k) leaves departs = (free, leaves, departs)
departs_unlike exercise solution free (AddedLine l) leaves departs = (free, leaves, departs)
departs_unlike exercise solution free NoStart leaves departs = absurd departs
departs_unlike exercise solution free NoEvent leaves departs = absurd departs

-- which events are open, as it is tested
pub leaves_by : (exercise : List Statement) (acts : Bool) → (acts ≡ true → HasRole exercise Event) → (acts ≡ false → LacksRole exercise Event) → LeavesEvents exercise (not acts)
leaves_by exercise true found absent = found refl
leaves_by exercise false found absent = absent refl

-- what a test tells where it passes
pub when_true : {A : Type 0} (B : Type 0) (b : Bool) → MatchBool b A B → b ≡ true → A
when_true B true tells is = tells
when_true B false tells is = absurd (cc is)
