-- Lies: forged Responses, which a router accepts from its link and no router of the network has sent.
use Rattle.std.specs.Prelude.{◌≡◌, ℕ, ◌<◌, ◌⊎◌, ◌++◌, not, Bool, IsTrue, List, [], ◌∷◌, length, Option, Some, None}
use Rattle.ripng_world.specs.Below.{first_reason, Arrives, Received, Answer, LabError, NotALiar, OutOfMemory}
use Rattle.ripng_world.specs.Labs.{LabValue, is_heard_at, missing_interface_reasons}
use Rattle.ripng_world.specs.World.{World, RouterMoves, is_heard}

-- a forged Response comes, and the router moves as for any arrival. Networks of which anything is promised have no such event
pub record Lies (w : World) (router : ℕ) (x : Received) (answer : Answer) (w' : World) : Type 0 where
  pub moves : RouterMoves w router (Arrives x) answer w'
  pub known : x.iface < length moves.old.config.interfaces
  pub heard : IsTrue (is_heard moves.old x)

-- the same, and the answer that is given lacks its sends, which are now among all that were sent
abbrev pub LiesGiving : LabValue → ℕ → Received → Answer → World → Type 0
LiesGiving lab router x given w = (answer : Answer) × Lies lab.world router x answer w × (given ≡ record answer { sends = [] })

-- the reasons to refuse a lie, in their order: what the router would not accept as a Response may come from any outside host
abbrev pub lie_reasons : LabValue → ℕ → Received → List (Bool × LabError)
lie_reasons lab router x = missing_interface_reasons lab.network router x.iface ++ (not (is_heard_at lab.world router x), NotALiar) ∷ []

-- the first that applies
abbrev pub lie_fault : LabValue → ℕ → Received → Option LabError
lie_fault lab router x = first_reason (lie_reasons lab router x)

-- it is refused by that reason, or out of memory
abbrev pub IsLieRefusal : LabValue → ℕ → Received → LabError → Type 0
IsLieRefusal lab router x why = (lie_fault lab router x ≡ Some why) ⊎ ((lie_fault lab router x ≡ None) × (why ≡ OutOfMemory))
