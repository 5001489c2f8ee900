-- The clients of a running router: who may connect, what is received from one and sent to it, and what they make of the router.
use Rattle.std.specs.Prelude.{◌≡◌, ◌≤◌, ◌/◌, ◌%◌, ◌⊎◌, ℕ, List, [], ◌∷◌, ◌++◌, Option, None, Some, length, take, drop}
use Rattle.ripngd_control.specs.Below.{Appends, Consumes, HasNoLineFeed, Seen, Command, Reply}
use Rattle.ripngd_control.specs.Answers.{Obeys}
use Rattle.ripngd_control.specs.Commands.{control_text}

-- whoever may write a socket's file may connect. Of its mode: neither its group nor others may
pub record IsPrivate (mode : ℕ) : Type 0 where
  pub group : (mode / 16) % 2 ≡ 0
  pub others : (mode / 2) % 2 ≡ 0

-- ---- one client
-- these bytes begin with this line and a line feed, and the line has no line feed
pub record BeginsWith (line bytes : List ℕ) : Type 0 where
  pub rest : List ℕ
  pub spelled : bytes ≡ line ++ (10 ∷ rest)
  pub in_line : HasNoLineFeed line

-- what was received grew by just what a stream gave, if that is known
pub record GrowsByReceived (before : Option (List ℕ)) (old : List ℕ) (after : Option (List ℕ)) (new : List ℕ) : Type 0 where
  pub more : List ℕ
  pub given : Consumes before after more
  pub grown : new ≡ old ++ more

-- a stream took the first `count` of these bytes, and the others are left
pub record ShrinksBySent (before : Option (List ℕ)) (old : List ℕ) (count : ℕ) (after : Option (List ℕ)) (new : List ℕ) : Type 0 where
  pub within : count ≤ length old
  pub taken : Appends before after (take count old)
  pub left : new ≡ drop count old

-- ---- all clients
-- what contracts see of them: the lines that were taken in and named a command, in order
pub record ClientsState : Type 0 where
  pub lines : List (List ℕ)

-- the line at the head of what was received was taken in, if it is that of a command
abbrev pub TakesIn : Option Command → List ℕ → List (List ℕ) → List (List ℕ) → Type 0
TakesIn None bytes old new = new ≡ old
TakesIn (Some c) bytes old new = BeginsWith (control_text c) bytes × (new ≡ old ++ control_text c ∷ [])

-- a router does what the line of a client commands
abbrev pub ObeysLine : List ℕ → Seen → Seen → Type 0
ObeysLine line a b = (c : Command) × (reply : Reply) × (line ≡ control_text c) × Obeys c a reply b

-- no line was taken in and the router is as it was, or one was, and was obeyed
abbrev pub Heeds : List (List ℕ) → Seen → List (List ℕ) → Seen → Type 0
Heeds old a new b = ((new ≡ old) × (b ≡ a)) ⊎ ((line : List ℕ) × (new ≡ old ++ line ∷ []) × ObeysLine line a b)
