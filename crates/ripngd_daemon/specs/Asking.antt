-- What `ctl` sends to a router that runs, and prints of its answer.
use Rattle.std.specs.Prelude.{◌≡◌, ℕ, Bool, true, false, List, [], ◌∷◌, ◌++◌, Option, codes}
use Rattle.ripngd_daemon.specs.Below.{Appends, control_text, Command}

-- the line of a command
abbrev pub command_line : Command → List ℕ
command_line c = control_text c ++ 10 ∷ []

-- what is printed of an answer: all except a last line `ok`, or all of it if its last line is `refused ..`
abbrev pub IsPrintedAnswer : List ℕ → Bool → List ℕ → Type 0
IsPrintedAnswer answer true text = answer ≡ text ++ codes "ok\n"
IsPrintedAnswer answer false text = (text ≡ answer) × (before : List ℕ) × (why : List ℕ) × (answer ≡ before ++ (codes "refused " ++ why))

-- the writer gained that
abbrev pub IsAnswerWritten : List ℕ → Bool → Option (List ℕ) → Option (List ℕ) → Type 0
IsAnswerWritten answer accepted old new = (text : List ℕ) × IsPrintedAnswer answer accepted text × Appends old new text
