-- What a log says, and where it says nothing.
use Rattle.std.specs.Prelude.{◌≡◌, ◌≢◌, ℕ, ◌+◌, ◌^◌, ◌<◌, List, ◌∷◌, ◌++◌, length, codes, All}
use Rattle.ripngd_daemon.specs.Below.{IsPrefix, Hop, Direct, Via, RouteChange, Install, Withdraw, Forwarding, Replays, HasNoLineFeed, change_text, log_of, LogFault, BadLine, OutOfMemory}
use Rattle.std.specs.FinMap as map
use Rattle.ripngd_daemon.specs.LastRun.{IsLastRun}

-- a number of an interface of 64 bits, and an address of 128
abbrev pub IsWritableHop : Hop → Type 0
IsWritableHop Direct = Unit {0}
IsWritableHop (Via iface next_hop) = (iface < 2 ^ 64) × (next_hop < 2 ^ 128)

-- a prefix whose bits past its length are zero, a hop, and a metric of one byte
abbrev pub IsWritableChange : RouteChange → Type 0
IsWritableChange (Install p hop metric) = IsPrefix p × IsWritableHop hop × (metric < 2 ^ 8)
IsWritableChange (Withdraw p) = IsPrefix p

-- a line for each change, and the rest, which is of a line that has no end yet
pub record IsRunOf (text : List ℕ) (changes : List RouteChange) : Type 0 where
  pub rest : List ℕ
  pub lawful : All IsWritableChange changes
  pub spelled : text ≡ log_of changes ++ rest
  pub unended : HasNoLineFeed rest

-- these are the changes of the last run
abbrev pub IsLogOf : List ℕ → List RouteChange → Type 0
IsLogOf text changes = (run : List ℕ) × (skipped : ℕ) × IsLastRun text run skipped × IsRunOf run changes

-- the table that the changes make, one after another, from an empty one
pub record MakesTable (text : List ℕ) (table : Forwarding) : Type 0 where
  pub changes : List RouteChange
  pub is_log : IsLogOf text changes
  pub replayed : Replays map.empty changes table

-- the line of a number is the first of a run that is not the line of a change
pub record IsFirstBadOfRun (text : List ℕ) (line : ℕ) : Type 0 where
  pub before : List RouteChange
  pub bad : List ℕ
  pub after : List ℕ
  pub lawful : All IsWritableChange before
  pub spelled : text ≡ log_of before ++ bad ++ (10 ∷ after)
  pub is_line : HasNoLineFeed bad
  pub numbered : line ≡ length before + 1
  pub no_change : (c : RouteChange) → IsWritableChange c → change_text c ≢ bad

-- what a refusal says of a run that begins after `skipped` lines; out of memory says nothing
abbrev pub RefusesRun : List ℕ → ℕ → LogFault → Type 0
RefusesRun run skipped (BadLine line) = (in_run : ℕ) × IsFirstBadOfRun run in_run × (line ≡ skipped + in_run)
RefusesRun run skipped OutOfMemory = Unit {0}

-- the line of a number is the first of the last run that is not the line of a change
abbrev pub IsFirstBadLine : List ℕ → ℕ → Type 0
IsFirstBadLine text line = (run : List ℕ) × (skipped : ℕ) × IsLastRun text run skipped × RefusesRun run skipped (BadLine line)

-- what a refusal says of the text; out of memory says nothing
abbrev pub RefusesLog : List ℕ → LogFault → Type 0
RefusesLog text (BadLine line) = IsFirstBadLine text line
RefusesLog text OutOfMemory = Unit {0}

-- a refusal as it is printed: its number and its name
abbrev pub log_fault_text : LogFault → List ℕ
log_fault_text (BadLine line) = codes "1 BadLine"
log_fault_text OutOfMemory = codes "2 OutOfMemory"
