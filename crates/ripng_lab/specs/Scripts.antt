-- The lines of a script, as bytes, and what they make happen, one after another.
use Rattle.std.specs.Prelude.{◌≡◌, ◌⊎◌, ◌<◌, ◌==◌, ◌+◌, nat_eq, ℕ, Bool, true, false, List, [], ◌∷◌, ◌++◌, codes, length, map, take, Option, Some, None, is_some, option_map, slice_get, slice_index}
use Rattle.std.specs.List.{before_first, enumerate_from, slice_split, starts_with}
use Rattle.std.specs.Char.{is_ascii_whitespace}
use Rattle.std.specs.Str.{IsTrimAsciiStart}
use Rattle.ripng_lab.specs.Asides.{Aside, Prints}
use Rattle.ripng_lab.specs.Asking.{AskAfter}
use Rattle.ripng_lab.specs.Doing.{Means}
use Rattle.ripng_lab.specs.ScriptWatching.{Telling, Notes, Turns}
use Rattle.ripng_lab.specs.declared.forms.TheConstants.{FORMS}
use Rattle.ripng_lab.specs.declared.forms.Verb.{Verb}
use Rattle.ripng_lab.specs.declared.forms.Verb.TheVariants as verb
use Rattle.ripng_lab.specs.declared.line.Line.{Line}
use Rattle.ripng_lab.specs.declared.script.Session.{Session}
use Rattle.ripng_lab.specs.declared.stop.RefusalName.{RefusalName}

-- the lines of a script: its bytes, cut at each line feed (10)
abbrev pub lines_of : List ℕ → List (List ℕ)
lines_of script = slice_split (λ b. b == 10) script

-- the first word of a text: what stands before its first space (32)
abbrev pub first_word : List ℕ → List ℕ
first_word text = before_first (λ b. b == 32) text

-- a line that says nothing: it is empty but for white space, or begins, behind it, with the sign of a remark (#, 35)
abbrev pub IsBlank : List ℕ → Type 0
IsBlank line = (text : List ℕ) × IsTrimAsciiStart line text × ((text ≡ []) ⊎ (slice_get text 0 ≡ Some 35))

-- a text's words end at its end, or where white space is; of `say` and of a remark nothing is said
abbrev pub IsCutAt : List ℕ → ℕ → Type 0
IsCutAt text n =
    n < length text → (is_ascii_whitespace (slice_index text n) ≡ true) ⊎ ((starts_with nat_eq text (codes "say ") ≡ true) ⊎ (slice_get text 0 ≡ Some 35))

-- a line's words: its text, without white space in front, up to there
abbrev pub HasWords : List ℕ → List ℕ → Type 0
HasWords line words = (text : List ℕ) × IsTrimAsciiStart line text × (n : ℕ) × (words ≡ take n text) × IsCutAt text n

-- the forms of lines: the words of each, and what a line of it does
abbrev pub forms : List (List ℕ × Verb)
forms = map (λ form. (form.0.now, form.1)) FORMS

-- the verb is that of a form that begins with the first word of these
abbrev pub IsVerbOf : Verb → List ℕ → Type 0
IsVerbOf does words = (place : ℕ) × (option_map {U = List ℕ × Verb} (λ form. (first_word form.0, form.1)) (slice_get forms place) ≡ Some (first_word words, does))

-- the refusal that is awaited after a line
abbrev pub awaited_by : Verb → Option RefusalName → Option RefusalName → Option RefusalName
awaited_by verb.Await refusal before = refusal
awaited_by _ refusal before = before

-- whether routers ask by themselves after a line
abbrev pub asks_by : Verb → Bool → Bool
asks_by (verb.Asking asks) before = asks
asks_by _ before = before

-- a line of these words is done: it has a form that begins with the first of them, and what it means happens
abbrev pub IsObeyed : List ℕ → Option RefusalName → Bool → List Telling → Option RefusalName → Bool → Type 0
IsObeyed words awaited asked ts awaits asks =
    (line : Line) × IsVerbOf line.verb words × Means line ts × (awaits ≡ awaited_by line.verb line.refusal awaited) × (asks ≡ asks_by line.verb asked)

-- what a script keeps from one line to the next: whether a refusal is awaited, and whether routers ask by themselves
pub record Mode : Type 0 where
  pub awaits : Bool
  pub asks : Bool

abbrev pub mode_of : Session → Mode
mode_of s = record { awaits = is_some s.awaited; asks = is_some s.askers }

-- the same of a line as its bytes are
abbrev pub IsDone : Bool → List ℕ → List Telling → Mode → Type 0
IsDone asked line ts mode = (words : List ℕ) × HasWords line words × (after : Option RefusalName) × IsObeyed words None asked ts after mode.asks × (mode.awaits ≡ is_some after)

-- a line with words is followed: they do what they mean; or its refusal was awaited, and it is refused, after some of what it means
abbrev pub IsFollowed : Mode → List ℕ → List Telling → Mode → Type 0
IsFollowed mode line ts mode' =
    ((mode.awaits ≡ false) × IsDone mode.asks line ts mode') ⊎ ((mode.awaits ≡ true) × (mode' ≡ record mode { awaits = false }))

-- a line makes these things happen, and leaves the script in a mode: it says nothing, and nothing happens; or it is followed, and then
-- routers ask, if they do so by themselves
abbrev pub Says : Mode → List ℕ → List Telling → Mode → Type 0
Says mode line ts mode' =
    (IsBlank line × (ts ≡ []) × (mode' ≡ mode))
    ⊎ ((own : List Telling) × (rest : List Telling) × IsFollowed mode line own mode' × AskAfter mode'.asks rest × (ts ≡ own ++ rest))

-- so do these lines, each with its place among all, one after another: first each is announced, with its number, from 1
abbrev pub AreSaid : Mode → List (ℕ × List ℕ) → List Telling → Mode → Type 0
AreSaid mode [] ts end = (ts ≡ []) × (end ≡ mode)
AreSaid mode (line ∷ lines) ts end =
    (mid : Mode) × (own : List Telling) × (rest : List Telling) × Says mode line.1 own mid × AreSaid mid lines rest end × (ts ≡ Turns (line.0 + 1) ∷ own ++ rest)

-- at its begin no refusal is awaited, and no router asks by itself
abbrev pub at_begin : Mode
at_begin = record { awaits = false; asks = false }

-- the lines of a script, each with its place, from 0
abbrev pub numbered : List ℕ → List (ℕ × List ℕ)
numbered script = enumerate_from 0 (lines_of script)

-- every line of a script is done, no refusal is still awaited, and these things have happened, in the order of its lines
abbrev pub IsDoneWhole : List ℕ → List Telling → Type 0
IsDoneWhole script ts = (end : Mode) × AreSaid at_begin (numbered script) ts end × (end.awaits ≡ false)

-- a script ends at a line that is refused, or expects what is not so: all lines before it are done, and then, after some of what that
-- line means, it is noted why
abbrev pub IsEnded : List ℕ → List Telling → Type 0
IsEnded script ts =
    (place : ℕ) × (place < length (lines_of script)) × (before own : List Telling) × (mode : Mode) × AreSaid at_begin (take place (numbered script)) before mode
    × (ts ≡ before ++ Turns (place + 1) ∷ own ++ Notes ∷ [])

-- every line is done, and a refusal is still awaited, which is noted
abbrev pub IsLeftAwaiting : List ℕ → List Telling → Type 0
IsLeftAwaiting script ts = (before : List Telling) × (end : Mode) × AreSaid at_begin (numbered script) before end × (end.awaits ≡ true) × (ts ≡ before ++ Notes ∷ [])

-- what a script makes happen, and whether every line was done, the last one too
abbrev pub IsOfScript : List ℕ → Bool → List Telling → Type 0
IsOfScript script true ts = IsDoneWhole script ts
IsOfScript script false ts = IsEnded script ts ⊎ IsLeftAwaiting script ts

-- a script with no more lines: its observer is notified of nothing, if no refusal is awaited, or else of why it is not done
abbrev pub EndsScript : {V : Type 0} → Bool → Bool → (V → Aside → V → Type 0) → V → V → Type 0
EndsScript true awaits notes v v' = (awaits ≡ false) × (v' ≡ v)
EndsScript false awaits notes v v' = (awaits ≡ true) × notes v Prints v'
