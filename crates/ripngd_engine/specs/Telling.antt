-- The past of a link, a clock or a log, as far as contracts see it.
use Rattle.std.specs.Prelude.{◌≡◌, ◌++◌, List, ⊤, Option, None, Some}

-- the past is now what it was before, and then these. One that is not seen, or no longer, claims nothing
abbrev pub Gains : {X : Type 0} → Option (List X) → Option (List X) → List X → Type 0
Gains None after more = after ≡ None
Gains (Some before) None more = ⊤
Gains (Some before) (Some after) more = after ≡ before ++ more
