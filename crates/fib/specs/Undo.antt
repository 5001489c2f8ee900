-- What undoes installs, and which withdrawals stay.
use Rattle.std.specs.Prelude.{◌&&◌, ℕ, Bool, true, false, List, [], ◌∷◌, Option, Some, None, option_map, IsSome}
use Rattle.std.specs.List.{list_any}
use Rattle.std.specs.FinMap as map
use Rattle.prefix6.specs.Prefix.{Prefix6, same_prefix}
use Rattle.fib.specs.declared.change.Hop.{Hop}
use Rattle.fib.specs.declared.change.RouteChange.{RouteChange}
use Rattle.fib.specs.declared.change.RouteChange.TheVariants.{Install, Withdraw}
use Rattle.fib.specs.Blocks.{forward_in}
use Rattle.fib.specs.Forwarding.{Forward, Forwarding, is_install, prefix_of, last_change}

-- a prefix, and the hop and the metric that it had
abbrev pub Undo : Type 0
Undo = Prefix6 × Option (Hop × ℕ)

abbrev pub undo_of : Prefix6 → Option Forward → Undo
undo_of p was = (p, option_map (λ f. (f.hop, f.metric)) was)

-- the table where a prefix has this
abbrev pub given : Prefix6 → Option (Hop × ℕ) → Forwarding → Forwarding
given p None table = map.remove table p
given p (Some f) table = map.insert table p (forward_in f)

-- the table with what a prefix had
abbrev pub restored : Undo → Forwarding → Forwarding
restored u table = given u.0 u.1 table

-- the table with all undone, the last first
abbrev pub undone : List Undo → Forwarding → Forwarding
undone [] table = table
undone (u ∷ us) table = restored u (undone us table)

-- a prefix that gets an entry back has one, so that no memory is wanted
abbrev pub HasRoomFor : Option (Hop × ℕ) → Option Forward → Type 0
HasRoomFor None now = Unit {0}
HasRoomFor (Some f) now = IsSome now

abbrev pub CanRestore : Undo → Forwarding → Type 0
CanRestore u table = HasRoomFor u.1 (map.get table u.0)

-- and so at each step of undoing all
abbrev pub CanUndo : List Undo → Forwarding → Type 0
CanUndo [] table = Unit {0}
CanUndo (u ∷ us) table = CanRestore u (undone us table) × CanUndo us table

-- whether one of the changes leaves an entry at the prefix
abbrev pub has_install : List RouteChange → Prefix6 → Bool
has_install cs p = list_any (λ c. is_install c && same_prefix (prefix_of c) p) cs

-- whether the last change of a prefix takes its entry
abbrev pub takes_entry : Option RouteChange → Bool
takes_entry None = false
takes_entry (Some (Install p hop metric)) = false
takes_entry (Some (Withdraw p)) = true

abbrev pub is_gone : List RouteChange → Prefix6 → Bool
is_gone cs p = takes_entry (last_change cs p)
