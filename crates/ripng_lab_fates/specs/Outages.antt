-- Outages: links that are cut and routers that are silent, by the lines of a script.
use Rattle.std.specs.Prelude.{ℕ, ◌==◌, Bool, false, if◌then◌else◌, List, fold, Option, Some, None}
use Rattle.ripng_lab_fates.specs.declared.outages.Change.{Change}
use Rattle.ripng_lab_fates.specs.declared.outages.Thing.{Thing}
use Rattle.ripng_lab_fates.specs.declared.outages.Thing.TheVariants.{Link, Router}

-- whether two things are the same
abbrev pub same_thing : Thing → Thing → Bool
same_thing (Link link) (Link other) = link == other
same_thing (Router router) (Router other) = router == other
same_thing _ _ = false

-- whether a thing is out after one more change
abbrev pub out_after : Thing → Bool → Change → Bool
out_after thing out c = if same_thing c.thing thing then c.is_out else out

-- whether it is out after these changes: the last one of it counts
abbrev pub is_out : List Change → Thing → Bool
is_out changes thing = fold (out_after thing) false changes

-- whether a link is cut, if there is one
abbrev pub is_cut : List Change → Option ℕ → Bool
is_cut changes None = false
is_cut changes (Some link) = is_out changes (Link link)

-- the last of some changes that the line of that number makes
abbrev pub found_after : ℕ → Option Change → Change → Option Change
found_after line found c = if c.line == line then Some c else found

-- the change that it makes, if it makes one
abbrev pub change_at : List Change → ℕ → Option Change
change_at changes line = fold (found_after line) None changes
