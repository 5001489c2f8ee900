-- The one form in which an address is written: RFC 5952, 4.1 to 4.3, and never the dotted form of 5.
use Rattle.std.specs.Prelude.{◌≡◌, ℕ, ◌+◌, ◌≤◌, ◌⊎◌, List, ◌++◌, length, take, drop, replicate, slice_index, codes, decimal, nat_lt, if◌then◌else◌}
use Rattle.std.specs.Net.Text.{groups_text, longest_zero_run}
use Rattle.std.specs.Int.{IsInRange}
use Rattle.std.specs.List.{All}
use Rattle.prefix6.specs.Addr.{groups_of}
use Rattle.prefix6.specs.Prefix.{Prefix6}
use Rattle.prefix6.specs.Text.{IsGroup}

-- `::` in place of the groups of a run
abbrev pub shortened : List ℕ → ℕ × ℕ → List ℕ
shortened groups run = groups_text (take run.0 groups) ++ codes "::"
    ++ groups_text (drop (run.0 + run.1) groups)

-- the groups between colons, with the longest run of zero groups written `::` where it has two or more
unfoldable pub written : List ℕ → List ℕ
written groups =
    let run = longest_zero_run groups in
    if nat_lt 1 run.1 then shortened groups run else groups_text groups

-- the text of an address
unfoldable pub written_addr : ℕ → List ℕ
written_addr a = written (groups_of a)

-- the text of a prefix
abbrev pub written_prefix : Prefix6 → List ℕ
written_prefix p = written_addr p.addr ++ codes "/" ++ decimal p.len

-- zero groups stand at each of len places from start on
pub record IsZeroRun (groups : List ℕ) (start len : ℕ) : Type 0 where
  pub within : start + len ≤ length groups
  pub zeros : take len (drop start groups) ≡ replicate len 0

-- `::` stands for two zero groups or more, for as many as it can, and for the first of equal runs
pub record IsShortest (groups text : List ℕ) : Type 0 where
  pub start : ℕ
  pub len : ℕ
  pub run : IsZeroRun groups start len
  pub two : 2 ≤ len
  pub longest : (s l : ℕ) → IsZeroRun groups s l → l ≤ len
  pub first : (s : ℕ) → IsZeroRun groups s len → start ≤ s
  pub spelled : text ≡ shortened groups (start, len)

-- what RFC 5952, 4.2 asks of the text
abbrev pub IsCanonical : List ℕ → List ℕ → Type 0
IsCanonical groups text = IsShortest groups text
    ⊎ (((s l : ℕ) → IsZeroRun groups s l → l ≤ 1) × (text ≡ groups_text groups))

-- a decimal digit (48 to 57), or one of `a` to `f` (97 to 102)
abbrev pub IsLowerCase : ℕ → Type 0
IsLowerCase c = IsInRange 48 57 c ⊎ IsInRange 97 102 c

-- what RFC 5952, 4.1 and 4.3 ask of a group: its digits in lower case, with no leading zero
pub record IsPlainGroup (text : List ℕ) (group : ℕ) : Type 0 where
  pub reads : IsGroup text group
  pub lower_case : All IsLowerCase text
  pub no_leading_zero : slice_index text 0 ≡ 48 → length text ≡ 1
