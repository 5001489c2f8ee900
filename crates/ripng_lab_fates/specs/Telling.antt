-- What is written of a script that runs.
use Rattle.std.specs.Prelude.{◌≡◌, ⊤, ℕ, Bool, true, List, [], ◌∷◌, ◌++◌, codes, decimal, slice_set, Option, None, MatchBool, MatchOption}
use Rattle.std.specs.Io.KnownBytes.{Appends}
use Rattle.router_core.specs.declared.answer.Answer.{Answer}
use Rattle.ripng_world.specs.Labs.{LabValue}
use Rattle.ripng_world.specs.Packets.{forwardings_of}
use Rattle.ripng_world.specs.Rounds.{router_of}
use Rattle.ripng_world.specs.World.{Event}
use Rattle.ripng_lab.specs.Asides.{Aside, Broken, Lie, NextLine}
use Rattle.ripng_lab.specs.Scripts.{IsOfScript}
use Rattle.ripng_lab.specs.ScriptWatching.{Telling, TellsAll}
use Rattle.ripng_lab_fates.specs.Outages.{change_at}
use Rattle.ripng_lab_fates.specs.Text.{line_text}
use Rattle.ripng_lab_fates.specs.Ways.{AreSteps, IsStep, may_turn}
use Rattle.ripng_lab_fates.specs.declared.outages.Change.{Change}
use Rattle.ripng_lab_fates.specs.declared.teller.Teller.{Teller}
use Rattle.ripng_lab_fates.specs.declared.ways.Step.{Step}

-- a step of the observer: these outages were made, routers do this with packets, and so much more is written
pub record Goes (old new : Teller) (made : List Change) (steps : List Step) (more : List ℕ) : Type 0 where
  pub addr_is : new.addr ≡ old.addr
  pub changes_are : new.changes ≡ old.changes
  pub whole_is : new.is_whole ≡ old.is_whole
  pub made_are : new.made.items ≡ made
  pub steps_are : new.steps.items ≡ steps
  pub text_is : new.text.items ≡ old.text.items ++ more

-- a line of what becomes of packets now
abbrev pub Says : Teller → Teller → Type 0
Says old new = Goes old new old.made.items old.steps.items (line_text old.steps.items old.made.items)

-- an empty line: all is as the line before says
abbrev pub Stays : Teller → Teller → Type 0
Stays old new = Goes old new old.made.items old.steps.items (10 ∷ [])

-- all routers have started: a line of what becomes of packets by their tables
abbrev pub Begins : Teller → LabValue → Teller → Type 0
Begins old lab new = (steps : List Step) × AreSteps lab old.addr steps × Goes old new old.made.items steps (line_text steps old.made.items)

-- a router does something else with packets, and all others what they did: a line of what becomes of packets
abbrev pub TurnsTo : Teller → ℕ → Step → Teller → Type 0
TurnsTo old router step new =
    Goes old new old.made.items (slice_set old.steps.items router step) (line_text (slice_set old.steps.items router step) old.made.items)

-- it does so by its table
abbrev pub Turns : Teller → LabValue → ℕ → Teller → Type 0
Turns old lab router new = (step : Step) × IsStep lab.network (forwardings_of lab.world) old.addr router step × TurnsTo old router step new

-- an event is done: if it restarts its router, or changes its table at a prefix that holds the address, a line of what becomes of packets,
-- or else an empty one
abbrev pub Follows : Teller → LabValue → Event → Answer → Teller → Type 0
Follows old lab e answer new = MatchBool (may_turn old.addr e answer) (Turns old lab (router_of e) new) (Stays old new)

-- a line of the script is next: if it begins or ends an outage, a line of what becomes of packets from then on, with its number
abbrev pub Changes : Teller → ℕ → Change → Teller → Type 0
Changes old number c new =
    Goes old new (old.made.items ++ c ∷ []) old.steps.items (codes "@" ++ (decimal number ++ line_text old.steps.items (old.made.items ++ c ∷ [])))

abbrev pub IsTurned : Teller → ℕ → Teller → Type 0
IsTurned old number new = MatchOption (change_at old.changes.items number) (new ≡ old) (λ c. Changes old number c new)

-- the same, unless memory ran out for that
pub record IsTurnedWhole (old : Teller) (number : ℕ) (new : Teller) : Type 0 where
  pub still : new.is_whole ≡ true → old.is_whole ≡ true
  pub turned : new.is_whole ≡ true → IsTurned old number new

-- a forged Response is an event; a notice has an empty line
abbrev pub IsNoted : Teller → Aside → Teller → Type 0
IsNoted old (NextLine number) new = IsTurnedWhole old number new
IsNoted old (Lie what) new = Follows old what.lab what.event what.answer new
IsNoted old Broken new = ⊤
IsNoted old _ new = Stays old new

-- nothing has happened yet
pub record IsFresh (addr : ℕ) (t : Teller) : Type 0 where
  pub addr_is : t.addr ≡ addr
  pub made_none : t.made.items ≡ []
  pub no_steps : t.steps.items ≡ []
  pub empty : t.text.items ≡ []

-- the lines of a script that runs so are written, with every line done or not
pub record AreFates (script : List ℕ) (addr : ℕ) (done : Bool) (old new : Option (List ℕ)) : Type 0 where
  pub tellings : List Telling
  pub of_script : IsOfScript script done tellings
  pub lab : Option LabValue
  pub begin : Teller
  pub end : Teller
  pub fresh : IsFresh addr begin
  pub told : TellsAll (λ t l now t'. Begins t l t') (λ t what t'. Follows t what.lab what.event what.answer t') IsNoted (None, begin) tellings (lab, end)
  pub whole : end.is_whole ≡ true
  pub written : Appends old new end.text.items
