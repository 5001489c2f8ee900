-- A round, as a caller asks for it.
use Rattle.std.specs.Prelude.{ℕ, List}

-- what a caller asks of one round
pub record Asked : Type 0 where
  pub ticks : List (ℕ × ℕ)  -- of each router, its moment and its word
  pub picks : List (ℕ × ℕ)  -- the word of each pick, and its moment
  pub rest : ℕ  -- the moment of all other deliveries
