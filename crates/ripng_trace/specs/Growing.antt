-- A text of JSON that grows.
use Rattle.std.specs.Prelude.{◌≡◌, List, ◌++◌, false}
use Rattle.ripng_trace.specs.Below.{Token, JsonText}

-- these tokens are written behind the others, unless memory was refused, now or before
pub record Grows (old new : JsonText) (tokens : List Token) : Type 0 where
  pub before : new.writer.before ≡ old.writer.before
  pub written : new.refused ≡ false → (old.refused ≡ false) × (new.writer.tokens ≡ old.writer.tokens ++ tokens)
