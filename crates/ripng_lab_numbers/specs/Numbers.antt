-- Numbers by interval of time and by router, in a list of cells.
use Rattle.std.specs.Prelude.{ℕ, false, ◌+◌, ◌*◌, ◌-◌, ◌/◌, ◌%◌, ◌==◌, if◌then◌else◌, List, [], ◌++◌, fold, length, replicate, slice_set, slice_index_or}
use Rattle.ripng_world.specs.declared.event.Sent.{Sent}
use Rattle.ripng_world.specs.World.{World}
use Rattle.ripng_lab.specs.declared.counting.Counts.{Counts}
use Rattle.ripng_lab.specs.Counting.{counted_datagram, no_counts}
use Rattle.ripng_lab_numbers.specs.declared.layout.Layout.{Layout}

-- how often k goes into n; never, if it is 0
abbrev pub quotient : ℕ → ℕ → ℕ
quotient n k = if k == 0 then 0 else n / k

-- what is left then
abbrev pub remainder : ℕ → ℕ → ℕ
remainder n k = if k == 0 then n else n % k

-- the number of the interval of so many seconds with a moment, which is in milliseconds
abbrev pub interval_of : ℕ → ℕ → ℕ
interval_of seconds moment = quotient (moment / 1000) seconds

-- the column of a router in its interval: 0, if there is one for all routers
abbrev pub column_of : Layout → ℕ → ℕ
column_of l router = if l.width == 1 then 0 else router

-- how many cells there are up to the end of the interval with a moment
abbrev pub cells_until : Layout → ℕ → ℕ
cells_until l moment = (interval_of l.seconds moment - l.first + 1) * l.width

-- the number of a router's cell in the interval with a moment
abbrev pub cell_of : Layout → ℕ → ℕ → ℕ
cell_of l moment router = cells_until l moment - l.width + column_of l router

-- so many cells, the new ones with nothing counted
abbrev pub filled : ℕ → List Counts → List Counts
filled n cells = cells ++ replicate (n - length cells) no_counts

-- a router has something counted in the interval with a moment, and all others are as before
abbrev pub counted_at : Layout → ℕ → ℕ → (Counts → Counts) → List Counts → List Counts
counted_at l moment router count cells =
    slice_set (filled (cells_until l moment) cells) (cell_of l moment router)
    (count (slice_index_or (filled (cells_until l moment) cells) (cell_of l moment router) no_counts))

-- a router sends a datagram of itself
abbrev pub with_sent : Layout → ℕ → List Counts → Sent → List Counts
with_sent l moment cells d = counted_at l moment d.router (counted_datagram false d.bytes) cells

-- all routers have started: each of their Requests is counted
abbrev pub cells_at_start : Layout → ℕ → World → List Counts
cells_at_start l now w = fold (with_sent l now) [] w.sent
