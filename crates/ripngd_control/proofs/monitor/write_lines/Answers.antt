use Rattle.std.proofs.Common.{◌++◌, ◌∷◌, [], List, Some, subst, sym, ℕ}
use Rattle.std.specs.Prelude.{codes}
use Rattle.std.specs.Io.KnownBytes.{Appends}
use Rattle.std.proofs.KnownBytes.{Appends-nil, Appends-trans}
use Rattle.std.proofs.lemmas.List.{append_assoc, take_all}
use Rattle.ripngd_control.specs.Printed.{arrival_text, refusal_lines, refusal_text}
use Rattle.ripngd_control.specs.declared.refusals.Refusal.TheVariants.{Arrival}
use Rattle.ripngd_control.proofs.monitor.write_lines.Goals.{in-Some+in_ok-writeln, in_default}
use Rattle.ripngd_control.proofs.monitor.write_lines.Goals as goal

pub returns : goal.returns
returns g c =
    let first : Appends (g.W.Write.contents c.args.out.now) (g.W.Write.contents c.match-fault.out) (refusal_lines c.args.arrived c.args.fault) =
    elim c.match-fault.branch [
      | in-Some+in_ok-writeln w ↦
          let line : Appends (g.W.Write.contents c.args.out.now) (g.W.Write.contents w.writeln.new.self) (refusal_lines c.args.arrived (Some w.in-Some.fault)) =
          subst (λ (text : List ℕ). Appends (g.W.Write.contents c.args.out.now) (g.W.Write.contents w.writeln.new.self) text)
          (sym (append_assoc (arrival_text c.args.arrived) (codes " " ++ refusal_text (Arrival w.in-Some.fault)) (10 ∷ []))) w.in_ok-writeln.ensures.bytes in
          rw (w.out-is, w.in-Some.is) line
      | in_default w ↦ rw (w.out-is, w.in_default.is) (Appends-nil _)
    ] in
    let notes = rw (take_all c.loop-note.note-index c.args.notes.now c.loop-note-test.false) at c.loop-note.invariant in
    Appends-trans _ _ _ _ _ first notes
