-- What the observer of a script is notified of beside the events of the network.
use Rattle.std.specs.Prelude.{ℕ, Option}
use Rattle.ripng_lab.specs.Below.{Told, event_of, Notice, Numbers}
use Rattle.ripng_lab.specs.declared.printer.Notice.TheVariants.{Phases, Lied, Counts}

-- the number of the script's next line; what a line prints, or why it ends the script; how many phases a line has made, and which of
-- them, numbered from 0, last changed some table, if one did; and what was counted since the start. And a forged Response, as the arrival
-- of an outside host's datagram, for it is no event of a lab. `Broken` stands for a notification that fails, of this or of a start
pub data Aside : Type 0 where
  NextLine : (number : ℕ) → Aside
  Prints : Aside
  CountsPhases : (phases : ℕ) → (last : Option ℕ) → Aside
  ShowsCounts : Numbers → Aside
  Lie : Told → Aside
  Broken : Aside

-- where a line did something beside events: how many phases it made, what was counted, a forged Response, or of nothing that happens in
-- the lab
abbrev pub aside_of : Notice → Aside
aside_of (Phases made) = CountsPhases made.phases made.last
aside_of (Counts numbers) = ShowsCounts numbers
aside_of (Lied lab event answer first sender) = Lie (record { lab = lab.now; event = event_of event.now; answer = answer.now; first = first })
aside_of _ = Prints
