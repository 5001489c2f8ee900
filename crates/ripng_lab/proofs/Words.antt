-- Words of lines and of forms.
use Rattle.std.proofs.Common.{◌≡◌, ◌<◌, [], zero, suc, map, ◌≤◌, ◌∙◌, ◌++◌, ◌∷◌, ◌⊎◌, inl, inr, ℕ, true, List, Option, None, Some, ap, arith, get_or, le_of_eq, length, option_map, refl, slice_get, subst, sym, take, take_all, unwrap_or, Bor}
use Rattle.std.specs.Char.{is_ascii_whitespace}
use Rattle.std.specs.List.{slice_index}
use Rattle.std.specs.Str.{IsTrimAsciiEnd, IsTrimAsciiStart}
use Rattle.std.proofs.lemmas.Bool.{cases_lt}
use Rattle.std.proofs.lemmas.List.{get_or_append_left, get_or-append-add, take-append-le}
use Rattle.std.proofs.lemmas.Option.{slice_get-get_or}
use Rattle.std.proofs.lemmas.Str.Pattern.{IsSplitOnceResult, split_once_first}
use Rattle.ripng_lab.specs.Scripts.{HasWords, first_word}

-- what stands before the first space, or all
pub first_is : (text : List ℕ) (r : Option (Bor (List ℕ) × Bor (List ℕ))) (d : Bor (List ℕ) × Bor (List ℕ)) → d.0.now ≡ text → IsSplitOnceResult 32 text r
    → (unwrap_or r d).0.now ≡ first_word text
first_is text None d same cases = same ∙ sym (take_all _ text (le_of_eq (sym (split_once_first 32 text None cases (omega arith)))))
first_is text (Some x) d same cases = (split_once_first 32 text (Some x) cases (omega arith)).1

-- what is read of the element at a place
pub read_at : {X Y : Type 0} (h : X → Y) (xs : List X) (k : ℕ) (x : X) (y : Y) → k < length xs → x ≡ get_or xs k x → h x ≡ y → option_map h (slice_get xs k) ≡ Some y
read_at h xs k x y below is same = ap (option_map h) (slice_get-get_or xs k x below ∙ ap Some (sym is)) ∙ ap Some same

-- the same where each element is read as another
read_map : {X Y : Type 0} (h : X → Y) (xs : List X) (k : ℕ) → option_map h (slice_get xs k) ≡ slice_get (map h xs) k
read_map h [] k = refl
read_map h (x ∷ xs) zero = refl
read_map h (x ∷ xs) (suc k) = read_map h xs k

pub read_mapped : {X Y Z : Type 0} (r : Z → X) (h : X → Y) (xs : List X) (zs : List Z) (k : ℕ) (z : Z) (y : Y) → map r zs ≡ xs → k < length zs → z ≡ get_or zs k z → h (r z) ≡ y
    → option_map h (slice_get xs k) ≡ Some y
read_mapped {X} r h xs zs k z y same below is ends =
    ap (λ (l : List X). option_map h (slice_get l k)) (sym same) ∙ ap (option_map h) (sym (read_map r zs k) ∙ read_at r zs k z (r z) below is refl) ∙ ap Some ends

-- a text that is cut before white space, which is all that is left of it, or goes on with a space behind that
pub cut_at_end : (line text words : List ℕ) → IsTrimAsciiStart line text → IsTrimAsciiEnd text words → HasWords line words
cut_at_end line text words begins ends = (text, begins, ends.0, ends.1, λ below. inl (ends.4 ends.0 (omega arith) below))

pub cut_before : (line text words before after : List ℕ) → IsTrimAsciiStart line text → text ≡ before ++ (32 ∷ after) → IsTrimAsciiEnd before words → HasWords line words
cut_before line text words before after begins is ends =
    let n = ends.0 in (
      text,
      begins,
      n,
      ends.1 ∙ sym (take-append-le n before (32 ∷ after) ends.3) ∙ ap (take n) (sym is),
      λ below. inl (subst (λ (t : List ℕ). is_ascii_whitespace (slice_index t n) ≡ true) (sym is) (white n ends.3 ends.4 (cases_lt n (length before)))),
    )
  where
    white : (n : ℕ) → n ≤ length before → ((i : ℕ) → n ≤ i → i < length before → is_ascii_whitespace (slice_index before i) ≡ true) → (n < length before) ⊎ (length before ≤ n)
        → is_ascii_whitespace (slice_index (before ++ (32 ∷ after)) n) ≡ true
    white n within ends (inl below) = ap is_ascii_whitespace (get_or_append_left before (32 ∷ after) 0 n below) ∙ ends n (omega arith) below
    white n within ends (inr past) =
        ap is_ascii_whitespace (ap (λ (k : ℕ). get_or (before ++ (32 ∷ after)) k 0) (omega (arith, within, past)) ∙ get_or-append-add before (32 ∷ after) 0 0)
