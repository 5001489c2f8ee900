use Rattle.std.proofs.Common.{[], refl}
use Rattle.std.specs.Fmt.{HasWritten}
use Rattle.std.proofs.lemmas.Grind.{put_three}
use Rattle.ripngd_control.specs.Printed.{last_text}
use Rattle.ripngd_control.proofs.Answered.{tally_joined}
use Rattle.ripngd_control.proofs.neighbors.TallyDisplay.fmt.Goals.{in-Some+in_ok-write-2, in_default}
use Rattle.ripngd_control.proofs.neighbors.TallyDisplay.fmt.Goals as goal

pub returns-clause-writes : goal.returns-clause-writes
returns-clause-writes g c = λ plain ok.
    let first = c.in_ok-write.ensures.writes plain refl in
    let second : HasWritten g.W.Write.write_str_gives c.write.new.self (last_text c.args.self.now.last) c.match-self.f =
    elim c.match-self.branch [
      | in-Some+in_ok-write-2 w ↦ rw (w.f-is, w.in-Some.is) (w.in_ok-write-2.ensures.writes first.plain refl)
      | in_default w ↦ rw (w.f-is, w.in_default.is) record { wrote = record { parts = []; calls = refl; whole = refl }; plain = first.plain }
    ] in
    put_three _ _ _ _ _ _ _ _ _ first second (c.write-2.ensures.writes second.plain ok) (tally_joined c.args.self.now)
