-- A text has one last run.
use Rattle.std.proofs.Common.{◌≡◌, ◌≢◌, ℕ, List, [], ◌∷◌, ◌++◌, All, refl, sym, ap, ◌∙◌, subst, inl, inr, append_assoc}
use Rattle.std.proofs.lemmas.List.Elements.{All-head, All-tail, All-append}
use Rattle.ripngd_engine.specs.Log.{HasNoLineFeed}
use Rattle.ripngd_daemon.specs.LastRun.{EndsInStart, HasPassed, IsLastRun, lines_text, start_text}
use Rattle.ripngd_daemon.proofs.OneReading.{one_split, has_it}

pub lines_text-append : (xs ys : List (List ℕ)) → lines_text (xs ++ ys) ≡ lines_text xs ++ lines_text ys
lines_text-append [] ys = refl
lines_text-append (x ∷ xs) ys =
    ap (λ t. (x ++ 10 ∷ []) ++ t) (lines_text-append xs ys) ∙ sym (append_assoc (x ++ 10 ∷ []) (lines_text xs) (lines_text ys))

-- the first line of a text, and what comes after it
front : (x : List ℕ) (xs : List (List ℕ)) (rest : List ℕ) → lines_text (x ∷ xs) ++ rest ≡ x ++ (10 ∷ (lines_text xs ++ rest))
front x xs rest = simp append_assoc refl

-- a text is cut into lines in one way
same_lines : (xs ys : List (List ℕ)) (r s : List ℕ) → All HasNoLineFeed xs → All HasNoLineFeed ys → HasNoLineFeed r → HasNoLineFeed s
    → lines_text xs ++ r ≡ lines_text ys ++ s → (xs ≡ ys) × (r ≡ s)
same_lines [] [] r s h k free other e = (refl, e)
same_lines [] (y ∷ ys) r s h k free other e = absurd (has_it 10 y (lines_text ys ++ s) (subst HasNoLineFeed (e ∙ front y ys s) free))
same_lines (x ∷ xs) [] r s h k free other e = absurd (has_it 10 x (lines_text xs ++ r) (subst HasNoLineFeed (sym e ∙ front x xs r) other))
same_lines (x ∷ xs) (y ∷ ys) r s h k free other e =
    let parts = one_split 10 x (lines_text xs ++ r) y (lines_text ys ++ s) (All-head HasNoLineFeed x xs h) (All-head HasNoLineFeed y ys k) (sym (front x xs r) ∙ e ∙ front y ys s) in
    let head : x ≡ y = parts.0 in
    let later = same_lines xs ys r s (All-tail HasNoLineFeed x xs h) (All-tail HasNoLineFeed y ys k) free other parts.1 in
    let tail : xs ≡ ys = later.0 in
    (cc, later.1)

-- none of them is a start
abbrev NoStart : List (List ℕ) → Type 0
NoStart lines = All (λ line. line ≢ start_text) lines

holds_start : (earlier more : List (List ℕ)) → ¬ (NoStart (earlier ++ start_text ∷ more))
holds_start [] more h = All-head (λ line. line ≢ start_text) start_text more h refl
holds_start (x ∷ xs) more h = holds_start xs more (All-tail (λ line. line ≢ start_text) x (xs ++ start_text ∷ more) h)

no_start_in : (y : List ℕ) (ys more lines : List (List ℕ)) → EndsInStart (y ∷ ys) → NoStart lines → ¬ (lines ≡ (y ∷ ys) ++ more)
no_start_in y ys more lines (inl none) h e = cc none
no_start_in y ys more lines (inr ends) h e =
    let whole : lines ≡ ends.0 ++ (start_text ∷ more) = e ∙ ap (λ l. l ++ more) ends.1 ∙ append_assoc ends.0 (start_text ∷ []) more in
    holds_start ends.0 more (subst NoStart whole h)

tail_of : (x : List ℕ) (xs earlier : List (List ℕ)) → x ∷ xs ≡ earlier ++ start_text ∷ [] → EndsInStart xs
tail_of x xs [] e = let none : xs ≡ [] = cc in inl none
tail_of x xs (y ∷ ys) e = let same : xs ≡ ys ++ start_text ∷ [] = cc in inr (ys, same)

tail_ends : (x : List ℕ) (xs : List (List ℕ)) → EndsInStart (x ∷ xs) → EndsInStart xs
tail_ends x xs (inl none) = absurd (cc none)
tail_ends x xs (inr ends) = tail_of x xs ends.0 ends.1

-- the last start is at one place
same_start : (xs ys ms ns : List (List ℕ)) → EndsInStart xs → EndsInStart ys → NoStart ms → NoStart ns → xs ++ ms ≡ ys ++ ns → (xs ≡ ys) × (ms ≡ ns)
same_start [] [] ms ns b c h k e = (refl, e)
same_start [] (y ∷ ys) ms ns b c h k e = absurd (no_start_in y ys ns ms c h e)
same_start (x ∷ xs) [] ms ns b c h k e = absurd (no_start_in x xs ms ns b k (sym e))
same_start (x ∷ xs) (y ∷ ys) ms ns b c h k e =
    let head : x ≡ y = cc in
    let rest : xs ++ ms ≡ ys ++ ns = cc in
    let later = same_start xs ys ms ns (tail_ends x xs b) (tail_ends y ys c) h k rest in
    let tail : xs ≡ ys = later.0 in
    (cc, later.1)

text_is : (text run rest : List ℕ) (skipped passed : ℕ) (h : HasPassed text run rest skipped passed) → text ≡ lines_text (h.before ++ h.lines) ++ rest
text_is text run rest skipped passed h =
    h.spelled ∙ ap (λ t. lines_text h.before ++ t) h.run_is ∙ sym (append_assoc (lines_text h.before) (lines_text h.lines) rest)
    ∙ ap (λ t. t ++ rest) (sym (lines_text-append h.before h.lines))

pub one_run : (text run other : List ℕ) (n m : ℕ) → IsLastRun text run n → IsLastRun text other m → run ≡ other
one_run text run other n m h k =
    let p = h.has_passed in
    let q = k.has_passed in
    let e = sym (text_is text run h.rest n h.passed p) ∙ text_is text other k.rest m k.passed q in
    let all = same_lines (p.before ++ p.lines) (q.before ++ q.lines) h.rest k.rest
    (All-append HasNoLineFeed p.before p.lines p.are_lines p.in_run) (All-append HasNoLineFeed q.before q.lines q.are_lines q.in_run) h.unended k.unended e in
    let parts = same_start p.before q.before p.lines q.lines p.begun q.begun p.none_later q.none_later all.0 in
    p.run_is ∙ ap (λ l. lines_text l ++ h.rest) parts.1 ∙ ap (λ r. lines_text q.lines ++ r) all.1 ∙ sym q.run_is
