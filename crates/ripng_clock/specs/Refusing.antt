-- The refusals of runs.
use Rattle.std.specs.Prelude.{ℕ, List, codes}
use Rattle.ripng_clock.specs.Below.{RunRefused, BeforeBegin, TooManyEvents, OutOfMemory}

-- the name of a refusal, and its number
abbrev pub refused_name : RunRefused → List ℕ × ℕ
refused_name (BeforeBegin begin) = (codes "BeforeBegin", 46)
refused_name TooManyEvents = (codes "TooManyEvents", 47)
refused_name OutOfMemory = (codes "OutOfMemory", 48)
