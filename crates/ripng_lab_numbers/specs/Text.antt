-- The lines of numbers (the format is this project's choice): comma separated values, as of RFC 4180, with line feeds.
use Rattle.std.specs.Prelude.{ℕ, ◌+◌, ◌*◌, Bool, true, false, if◌then◌else◌, List, [], ◌∷◌, ◌++◌, codes, decimal, flat_map, length, ◌==◌, option_map, slice_get, unwrap_or}
use Rattle.std.specs.List.{enumerate_from}
use Rattle.ripng_lab.specs.declared.counting.Counts.{Counts}
use Rattle.ripng_lab_numbers.specs.Numbers.{quotient, remainder}
use Rattle.ripng_lab_numbers.specs.declared.layout.Layout.{Layout}

-- the names of the numbers
abbrev pub columns : List ℕ
columns = codes "datagrams,entries,bytes,regular,triggered,requests,replies,changes"

-- the numbers
abbrev pub numbers_text : Counts → List ℕ
numbers_text c = decimal c.datagrams ++ (codes "," ++ (decimal c.entries ++ (codes "," ++ (decimal c.bytes ++ (codes "," ++ (decimal c.regular
    ++ (codes "," ++ (decimal c.triggered ++ (codes "," ++ (decimal c.requests ++ (codes "," ++ (decimal c.replies ++ (codes "," ++ decimal c.changes)))))))))))))

-- the first line
abbrev pub header_text : Bool → List ℕ
header_text true = codes "time,router,datagrams,entries,bytes,regular,triggered,requests,replies,changes\n"
header_text false = codes "time,datagrams,entries,bytes,regular,triggered,requests,replies,changes\n"

-- a router by its name; by its number, if it has none
abbrev pub called : List ℕ → ℕ → List ℕ
called name router = if length name == 0 then decimal router else name

-- `ROUTER,`, if each router has its lines
abbrev pub router_text : Bool → List ℕ → ℕ → List ℕ
router_text true name router = called name router ++ codes ","
router_text false name router = []

-- the name of a router; none, where there are fewer names
abbrev pub name_of : List (List ℕ) → ℕ → List ℕ
name_of names router = unwrap_or (slice_get names router) []

-- the line of a cell: the second with which its interval begins, its router, and its numbers
abbrev pub row_text : Bool → List (List ℕ) → Layout → ℕ × Counts → List ℕ
row_text by_router names l cell =
    decimal ((l.first + quotient cell.0 l.width) * l.seconds) ++ (codes "," ++ (router_text by_router (name_of names (remainder cell.0 l.width)) (remainder cell.0 l.width) ++ (numbers_text cell.1 ++ 10 ∷ [])))

-- all of them, by intervals, and by routers in each
abbrev pub rows_text : Bool → List (List ℕ) → Layout → List Counts → List ℕ
rows_text by_router names l cells = flat_map (row_text by_router names l) (enumerate_from 0 cells)

-- the lines of numbers of a script
abbrev pub table_text : Bool → List (List ℕ) → Layout → List Counts → List ℕ
table_text by_router names l cells = header_text by_router ++ rows_text by_router names l cells

-- ---- of seeds

-- the first line
abbrev pub seeds_header : List ℕ
seeds_header = codes "seed,status,datagrams,entries,bytes,regular,triggered,requests,replies,changes,last\n"

-- the moment of the last change in milliseconds; nothing, if there was none
abbrev pub last_text : Counts → List ℕ
last_text c = unwrap_or (option_map (λ change. decimal change.at) c.last) []

-- 0, if every line of the script was done; otherwise 1
abbrev pub status_of : Bool → ℕ
status_of true = 0
status_of false = 1

-- the line of a seed
abbrev pub seed_text : ℕ → Bool → Counts → List ℕ
seed_text seed done c =
    decimal seed ++ (codes "," ++ (decimal (status_of done) ++ (codes "," ++ (numbers_text c ++ (codes "," ++ (last_text c ++ 10 ∷ []))))))
