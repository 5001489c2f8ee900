-- What `table` writes of a log, and `run` of its forwarding table (the format is this project's choice).
use Rattle.std.specs.Prelude.{◌≡◌, ℕ, Bool, true, false, List, ◌++◌, codes, decimal}
use Rattle.ripngd_daemon.specs.Below.{listed, Forwarding, entry_lines, BadLine, newline}
use Rattle.ripngd_daemon.specs.Reading.{IsFirstBadLine, MakesTable, log_fault_text}

-- a line for each entry, `PREFIX metric M HOP`, in the order of address, then length
abbrev pub table_text : Forwarding → List ℕ
table_text table = entry_lines (listed table)

-- `line L refused NR NAME`, of a bad line
abbrev pub bad_line_text : ℕ → List ℕ
bad_line_text line = codes "line " ++ (decimal line ++ (codes " refused " ++ (log_fault_text (BadLine line) ++ newline)))

-- the text for a log, and whether it is valid: the table that its changes make, or its first bad line
abbrev pub IsTabled : List ℕ → Bool → List ℕ → Type 0
IsTabled log true text = (table : Forwarding) × MakesTable log table × (text ≡ table_text table)
IsTabled log false text = (line : ℕ) × IsFirstBadLine log line × (text ≡ bad_line_text line)
