-- What is written of a record.
use Rattle.std.specs.Prelude.{◌≡◌, ◌⊎◌, ℕ, List, [], ◌∷◌, ◌++◌, Option, None, take}
use Rattle.ripng_trace.specs.Below.{Appends, Json, Form}
use Rattle.ripng_trace.specs.Json.{text_of}
use Rattle.ripng_trace.specs.declared.to_json.Form.TheVariants as form

-- what a writer has of records in this form, where that is known: of English nothing is claimed
abbrev pub written_as : Form → Option (List ℕ) → Option (List ℕ)
written_as form.Json contents = contents
written_as form.English contents = None

-- a record with this JSON is written, as one line: the text of it, and a line feed (10)
pub record WritesRecord (json : Json) (old new : Option (List ℕ)) : Type 0 where
  pub appends : Appends old new (text_of json ++ 10 ∷ [])

-- a beginning of one line's text is written, without its line feed
abbrev pub WritesBeginning : Option (List ℕ) → Option (List ℕ) → Type 0
WritesBeginning old new = (json : Json) × (count : ℕ) × Appends old new (take count (text_of json))

-- nothing is written, or less than a line
abbrev pub WritesLess : Option (List ℕ) → Option (List ℕ) → Type 0
WritesLess old new = (new ≡ old) ⊎ WritesBeginning old new
