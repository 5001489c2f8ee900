-- What is counted of a script that runs, and what is written of it.
use Rattle.std.specs.Prelude.{◌≡◌, ⊤, ℕ, Bool, true, false, if◌then◌else◌, length, List, [], ◌++◌, Option, None}
use Rattle.std.specs.Io.KnownBytes.{Appends}
use Rattle.ripng_world.specs.Labs.{LabValue}
use Rattle.ripng_world.specs.Rounds.{router_of}
use Rattle.ripng_world.specs.Watching.{Told}
use Rattle.ripng_lab.specs.Asides.{Aside, Broken, Lie}
use Rattle.ripng_lab.specs.Counting.{CountedAside, HasCounted, HasStartedCounting, counted, last_at, no_counts}
use Rattle.ripng_lab.specs.Scripts.{IsOfScript}
use Rattle.ripng_lab.specs.ScriptWatching.{Telling, TellsAll}
use Rattle.ripng_lab.specs.declared.counting.Counts.{Counts}
use Rattle.ripng_lab_numbers.specs.Numbers.{cells_at_start, counted_at, interval_of}
use Rattle.ripng_lab_numbers.specs.Text.{table_text}
use Rattle.ripng_lab_numbers.specs.declared.layout.Layout.{Layout}
use Rattle.ripng_lab_numbers.specs.declared.table.Table.{Table}
use Rattle.ripng_lab_numbers.specs.declared.tally.Tally.{Tally}

-- ---- all together

-- all routers have started, and their timers are known, unless memory runs out for them
abbrev pub BeginsTally : Tally → LabValue → Tally → Type 0
BeginsTally old lab new = HasStartedCounting old.counter lab new.counter

-- what happened is counted
abbrev pub IsTallied : Tally → Told → Tally → Type 0
IsTallied old what new = HasCounted old.counter what new.counter

-- so is a forged Response, and nothing else
abbrev pub IsTalliedAside : Tally → Aside → Tally → Type 0
IsTalliedAside old aside new = CountedAside old.counter aside new.counter

-- these are the numbers of a script that runs so, with every line done or not
pub record AreCounts (script : List ℕ) (done : Bool) (counts : Counts) : Type 0 where
  pub tellings : List Telling
  pub of_script : IsOfScript script done tellings
  pub lab : Option LabValue
  pub begin : Tally
  pub end : Tally
  pub fresh : begin.counter.counts ≡ no_counts
  pub told : TellsAll (λ old lab now new. BeginsTally old lab new) IsTallied IsTalliedAside (None, begin) tellings (lab, end)
  pub counts_are : counts ≡ end.counter.counts

-- ---- by intervals

-- how cells are laid out where all routers start at a moment
abbrev pub layout_at : Table → LabValue → ℕ → Layout
layout_at t lab now =
    record {
      seconds = t.cells.layout.seconds;
      first = interval_of t.cells.layout.seconds now;
      width = if t.by_router then length lab.network else 1;
    }

-- the Requests of the start are counted
pub record BeginsTable (old : Table) (lab : LabValue) (now : ℕ) (new : Table) : Type 0 where
  pub by_router : new.by_router ≡ old.by_router
  pub layout : new.cells.layout ≡ layout_at old lab now
  pub counts : new.cells.counts.items ≡ cells_at_start new.cells.layout now lab.world
  pub tally : BeginsTally old.tally lab new.tally

-- what happened is counted in the interval with the moment of its router's step, just as all is counted together
pub record IsNumbered (old : Table) (what : Told) (new : Table) : Type 0 where
  pub by_router : new.by_router ≡ old.by_router
  pub layout : new.cells.layout ≡ old.cells.layout
  pub counts : new.cells.counts.items
      ≡ counted_at old.cells.layout (last_at what.lab (router_of what.event)) (router_of what.event) (counted old.tally.counter.timings.items what) old.cells.counts.items
  pub tally : IsTallied old.tally what new.tally

-- nothing happened that is counted
pub record IsNumberedNot (old : Table) (new : Table) : Type 0 where
  pub by_router : new.by_router ≡ old.by_router
  pub cells : new.cells ≡ old.cells
  pub counter : new.tally.counter ≡ old.tally.counter

-- the same of what is no event
abbrev pub IsNumberedAside : Table → Aside → Table → Type 0
IsNumberedAside old (Lie what) new = IsNumbered old what new
IsNumberedAside old Broken new = ⊤
IsNumberedAside old _ new = IsNumberedNot old new

-- nothing is counted yet, and this is asked
pub record IsFresh (seconds : ℕ) (by_router : Bool) (t : Table) : Type 0 where
  pub by_router_is : t.by_router ≡ by_router
  pub seconds_is : t.cells.layout.seconds ≡ seconds
  pub none : t.cells.counts.items ≡ []

-- these are the numbers of a script that runs so, with every line done or not
pub record AreCounted (script : List ℕ) (seconds : ℕ) (by_router done : Bool) (end : Table) : Type 0 where
  pub tellings : List Telling
  pub of_script : IsOfScript script done tellings
  pub lab : Option LabValue
  pub begin : Table
  pub fresh : IsFresh seconds by_router begin
  pub told : TellsAll BeginsTable IsNumbered IsNumberedAside (None, begin) tellings (lab, end)

-- these lines are written; where the script ends before its last line, something more
abbrev pub WritesLines : Bool → Option (List ℕ) → Option (List ℕ) → List ℕ → Type 0
WritesLines true old new lines = Appends old new lines
WritesLines false old new lines = (rest : List ℕ) × Appends old new (lines ++ rest)

-- the lines of the numbers of a script that runs so are written
pub record AreNumbers (script : List ℕ) (seconds : ℕ) (by_router done : Bool) (old new : Option (List ℕ)) : Type 0 where
  pub end : Table
  pub counted : AreCounted script seconds by_router done end
  pub names : List (List ℕ)
  pub written : WritesLines done old new (table_text by_router names end.cells.layout end.cells.counts.items)
