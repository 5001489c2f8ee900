-- What a line more makes of what was passed.
use Rattle.std.proofs.Common.{◌≡◌, ◌≢◌, ℕ, ◌+◌, List, [], ◌∷◌, ◌++◌, refl, sym, ap, ◌∙◌, inl, inr, arith, append_assoc}
use Rattle.std.proofs.lemmas.Grind.{common_steps}
use Rattle.std.proofs.lemmas.List.Elements.{All-nil, All-cons, All-append}
use Rattle.ripngd_engine.specs.Log.{HasNoLineFeed}
use Rattle.ripngd_daemon.specs.LastRun.{HasPassed, lines_text, start_text}
use Rattle.ripngd_daemon.proofs.OneRun.{lines_text-append}

-- nothing was passed
pub passed_none : (text : List ℕ) → HasPassed text text text 0 0
passed_none text = record {
  before = [];
  lines = [];
  spelled = refl;
  run_is = refl;
  are_lines = All-nil HasNoLineFeed;
  in_run = All-nil HasNoLineFeed;
  begun = inl refl;
  none_later = All-nil (λ line. line ≢ start_text);
  skipped_is = refl;
  passed_is = refl;
}

one_more : (lines : List (List ℕ)) (line rest after : List ℕ) → rest ≡ line ++ (10 ∷ after) → lines_text lines ++ rest ≡ lines_text (lines ++ line ∷ []) ++ after
one_more lines line rest after e =
    ap (λ t. lines_text lines ++ t) e
    ∙ (let split : lines_text (lines ++ line ∷ []) ++ after ≡ lines_text lines ++ (line ++ (10 ∷ after)) = ap (λ t. t ++ after) (lines_text-append lines (line ∷ [])) ∙ simp append_assoc refl in sym split)

-- a line that is no start
pub passed_line : (text run rest line after : List ℕ) (n m : ℕ) → HasPassed text run rest n m → HasNoLineFeed line → rest ≡ line ++ (10 ∷ after)
    → line ≢ start_text → HasPassed text run after n (m + 1)
passed_line text run rest line after n m h is_line e other = record {
  before = h.before;
  lines = h.lines ++ line ∷ [];
  spelled = h.spelled;
  run_is = h.run_is ∙ one_more h.lines line rest after e;
  are_lines = h.are_lines;
  in_run = All-append HasNoLineFeed h.lines (line ∷ []) h.in_run (All-cons HasNoLineFeed line [] is_line (All-nil HasNoLineFeed));
  begun = h.begun;
  none_later = All-append (λ l. l ≢ start_text) h.lines (line ∷ []) h.none_later (All-cons (λ l. l ≢ start_text) line [] other (All-nil (λ l. l ≢ start_text)));
  skipped_is = h.skipped_is;
  passed_is = let was = h.passed_is in grind (arith, common_steps);
}

-- a line that is a start: a run begins behind it
pub passed_start : (text run rest line after : List ℕ) (n m : ℕ) → HasPassed text run rest n m → HasNoLineFeed line → rest ≡ line ++ (10 ∷ after)
    → line ≡ start_text → HasPassed text after after (m + 1) (m + 1)
passed_start text run rest line after n m h is_line e is = record {
  before = (h.before ++ h.lines) ++ line ∷ [];
  lines = [];
  spelled =
      h.spelled ∙ ap (λ t. lines_text h.before ++ t) h.run_is ∙ sym (append_assoc (lines_text h.before) (lines_text h.lines) rest)
      ∙ ap (λ t. t ++ rest) (sym (lines_text-append h.before h.lines)) ∙ one_more (h.before ++ h.lines) line rest after e;
  run_is = refl;
  are_lines = All-append HasNoLineFeed (h.before ++ h.lines) (line ∷ []) (All-append HasNoLineFeed h.before h.lines h.are_lines h.in_run)
      (All-cons HasNoLineFeed line [] is_line (All-nil HasNoLineFeed));
  in_run = All-nil HasNoLineFeed;
  begun = inr (h.before ++ h.lines, ap (λ l. (h.before ++ h.lines) ++ l ∷ []) is);
  none_later = All-nil (λ l. l ≢ start_text);
  skipped_is = let was = h.passed_is in grind (arith, common_steps);
  passed_is = let was = h.passed_is in grind (arith, common_steps);
}
