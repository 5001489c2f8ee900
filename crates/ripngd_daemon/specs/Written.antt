-- What was written in the log of a run.
use Rattle.std.specs.Prelude.{ℕ, Bool, true, false, List, [], ◌∷◌, ◌++◌, Option, None, Some}
use Rattle.ripngd_daemon.specs.LastRun.{start_text}

-- the end of a line that may have been cut off, and a line `start`
abbrev pub start_lines : List ℕ
start_lines = 10 ∷ (start_text ++ 10 ∷ [])

-- what a run writes before its changes, in a log that it goes on in if there is one
abbrev pub begins_with : {A : Type 0} → Option A → Bool → List ℕ
begins_with None append = []
begins_with (Some name) true = start_lines
begins_with (Some name) false = []
