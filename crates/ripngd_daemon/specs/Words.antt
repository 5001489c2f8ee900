-- The words of a line, and the lines.
use Rattle.std.specs.Prelude.{◌≡◌, ◌≢◌, ℕ, Bool, true, false, List, [], ◌∷◌, ◌++◌, All}
use Rattle.ripngd_daemon.specs.Below.{RouteChange, change_text}
use Rattle.ripngd_daemon.specs.Reading.{IsWritableChange}

-- no byte is a space (32)
abbrev pub IsInWord : List ℕ → Type 0
IsInWord text = All (λ b. b ≢ 32) text

-- the first and the second part are the word and the rest of a line that begins with a word and a space
abbrev pub CutsWord : List ℕ → List ℕ → List ℕ → Type 0
CutsWord line first second = (word rest : List ℕ) → IsInWord word → line ≡ word ++ (32 ∷ rest) → (first ≡ word) × (second ≡ rest)

-- the line is not that of a change
abbrev pub IsOfNone : List ℕ → Type 0
IsOfNone line = (c : RouteChange) → IsWritableChange c → change_text c ≢ line

-- the line has a change, which comes after the earlier ones; or it has none
abbrev pub PushesLine : List ℕ → Bool → List RouteChange → List RouteChange → Type 0
PushesLine line true old new = (c : RouteChange) × IsWritableChange c × (change_text c ≡ line) × (new ≡ old ++ c ∷ [])
PushesLine line false old new = IsOfNone line × (new ≡ old)
