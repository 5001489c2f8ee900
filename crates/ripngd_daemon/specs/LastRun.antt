-- The runs of a log: a router that appends to a log begins with a line `start`, and only the text after the last one counts.
use Rattle.std.specs.Prelude.{◌≡◌, ◌≢◌, ◌⊎◌, ◌+◌, ℕ, List, [], ◌∷◌, ◌++◌, codes, flat_map, length, All}
use Rattle.ripngd_daemon.specs.Below.{HasNoLineFeed}

-- the line at which a run begins
abbrev pub start_text : List ℕ
start_text = codes "start"

-- each line with its line feed
abbrev pub lines_text : List (List ℕ) → List ℕ
lines_text lines = flat_map (λ line. line ++ 10 ∷ []) lines

-- there is no line, or the last one is `start`
abbrev pub EndsInStart : List (List ℕ) → Type 0
EndsInStart lines = (lines ≡ []) ⊎ ((earlier : List (List ℕ)) × (lines ≡ earlier ++ start_text ∷ []))

-- `skipped` lines of a text are before this run; the run has lines, none of them `start`, and then the rest
pub record HasPassed (text run rest : List ℕ) (skipped passed : ℕ) : Type 0 where
  pub before : List (List ℕ)
  pub lines : List (List ℕ)
  pub spelled : text ≡ lines_text before ++ run
  pub run_is : run ≡ lines_text lines ++ rest
  pub are_lines : All HasNoLineFeed before
  pub in_run : All HasNoLineFeed lines
  pub begun : EndsInStart before
  pub none_later : All (λ line. line ≢ start_text) lines
  pub skipped_is : skipped ≡ length before
  pub passed_is : passed ≡ length before + length lines

-- the last run of a text, after `skipped` lines: it has no line `start`
pub record IsLastRun (text run : List ℕ) (skipped : ℕ) : Type 0 where
  pub rest : List ℕ
  pub passed : ℕ
  pub has_passed : HasPassed text run rest skipped passed
  pub unended : HasNoLineFeed rest
