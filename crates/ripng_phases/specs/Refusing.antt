-- The refusals of phases.
use Rattle.std.specs.Prelude.{ℕ, List, codes}
use Rattle.ripng_phases.specs.Below.{PhaseRefused, NoUpdateInTime, PastLastMoment, OutOfMemory}

-- the name of a refusal, and its number
abbrev pub refused_name : PhaseRefused → List ℕ × ℕ
refused_name (NoUpdateInTime router) = (codes "NoUpdateInTime", 43)
refused_name PastLastMoment = (codes "PastLastMoment", 44)
refused_name OutOfMemory = (codes "OutOfMemory", 45)
