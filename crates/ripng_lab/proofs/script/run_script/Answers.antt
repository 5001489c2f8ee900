use Rattle.std.proofs.Common.{◌<◌, ℕ, Bool, List, Option, None, arith, false, true, ap, ap₂, inr, length, rules, is_some, refl, subst, sym, take}
use Rattle.ripng_world.specs.Labs.{LabValue}
use Rattle.ripng_lab.specs.ScriptWatching.{IsToldUntil, is_failure, lab_in}
use Rattle.ripng_lab.specs.Doing.{HasDone}
use Rattle.ripng_lab.specs.Scripts.{AreSaid, at_begin, mode_of, numbered}
use Rattle.ripng_lab.proofs.Saying.{as_many, begun, end_done, if_whole, line_on, next_line, told_done, whole}
use Rattle.ripng_lab.proofs.ScriptWatching.{ended_on, err_then, failed_still, given_err, line_ends, noted_on, ok_then, on_fault, told_until, turned_on, until_on, untold}
use Rattle.ripng_lab.proofs.script.run_script.Goals as goal

pub returns-in_err-lines-clause-told_until : goal.returns-in_err-lines-clause-told_until
returns-in_err-lines-clause-told_until g c =
    given_err {P = (end : Option LabValue) × IsToldUntil g.V.Watch.starts g.V.Observer.takes g.V.Observer.fails g.V.Watch.notes (None, c.args.watch.now) (end, c.args.watch.now)} c.from_residual.result
    (None, told_until g.V.Watch.starts g.V.Observer.takes g.V.Observer.fails g.V.Watch.notes (None, c.args.watch.now) (None, c.args.watch.now) (untold g.V.Watch.starts g.V.Observer.takes g.V.Observer.fails g.V.Watch.notes (None, c.args.watch.now)))

pub returns-in_err-noticed-in-Err-Refused-clause-told_until :
    goal.returns-in_err-noticed-in-Err-Refused-clause-told_until
returns-in_err-noticed-in-Err-Refused-clause-told_until g c =
    on_fault g.V.Watch.starts g.V.Observer.takes g.V.Observer.fails g.V.Watch.notes c.from_residual-in_err-noticed-in-Err-Refused.result (None, c.args.watch.now) (lab_in c.run_line.new.session.course) c.run_line.new.watch c.noticed.new.self
    (line_ends g.V.Watch.starts g.V.Observer.takes g.V.Observer.fails g.V.Watch.notes false c.in-Err-Refused.field-0 (None, c.args.watch.now) (lab_in c.loop-place.session.course, c.at_line.new.self) (lab_in c.run_line.new.session.course, c.run_line.new.watch) (ap is_failure c.in-Err-Refused.field-0-is)
    (turned_on g.V.Watch.starts g.V.Observer.takes g.V.Observer.fails g.V.Watch.notes (None, c.args.watch.now) (lab_in c.loop-place.session.course) c.loop-place.watch c.at_line.new.self _ (told_done g.V.Watch.starts g.V.Observer.takes g.V.Observer.fails g.V.Watch.notes _ (None, c.args.watch.now) (lab_in c.loop-place.session.course, c.loop-place.watch) c.loop-place.invariant) c.at_line.ensures)
    c.in-Err-Refused.ensures.told)
    c.in_err-noticed-in-Err-Refused.ensures.broken

pub returns-in-Err-Refused-clause-told : goal.returns-in-Err-Refused-clause-told
returns-in-Err-Refused-clause-told g c = (
  lab_in c.run_line.new.session.course,
  noted_on g.V.Watch.starts g.V.Observer.takes g.V.Observer.fails g.V.Watch.notes (None, c.args.watch.now) (lab_in c.run_line.new.session.course) c.run_line.new.watch c.noticed.new.self
      (line_ends g.V.Watch.starts g.V.Observer.takes g.V.Observer.fails g.V.Watch.notes false c.in-Err-Refused.field-0 (None, c.args.watch.now) (lab_in c.loop-place.session.course, c.at_line.new.self) (lab_in c.run_line.new.session.course, c.run_line.new.watch) (ap is_failure c.in-Err-Refused.field-0-is)
      (turned_on g.V.Watch.starts g.V.Observer.takes g.V.Observer.fails g.V.Watch.notes (None, c.args.watch.now) (lab_in c.loop-place.session.course) c.loop-place.watch c.at_line.new.self _ (told_done g.V.Watch.starts g.V.Observer.takes g.V.Observer.fails g.V.Watch.notes _ (None, c.args.watch.now) (lab_in c.loop-place.session.course, c.loop-place.watch) c.loop-place.invariant) c.at_line.ensures)
      c.in-Err-Refused.ensures.told)
      c.in_ok-noticed-in-Err-Refused.ensures.notes,
)

pub returns-in_err-noticed-in-Err-Unmet-clause-told_until :
    goal.returns-in_err-noticed-in-Err-Unmet-clause-told_until
returns-in_err-noticed-in-Err-Unmet-clause-told_until g c =
    on_fault g.V.Watch.starts g.V.Observer.takes g.V.Observer.fails g.V.Watch.notes c.from_residual-in_err-noticed-in-Err-Unmet.result (None, c.args.watch.now) (lab_in c.run_line.new.session.course) c.run_line.new.watch c.noticed-in-Err-Unmet.new.self
    (line_ends g.V.Watch.starts g.V.Observer.takes g.V.Observer.fails g.V.Watch.notes false c.in-Err-Unmet.field-0 (None, c.args.watch.now) (lab_in c.loop-place.session.course, c.at_line.new.self) (lab_in c.run_line.new.session.course, c.run_line.new.watch) (ap is_failure c.in-Err-Unmet.field-0-is)
    (turned_on g.V.Watch.starts g.V.Observer.takes g.V.Observer.fails g.V.Watch.notes (None, c.args.watch.now) (lab_in c.loop-place.session.course) c.loop-place.watch c.at_line.new.self _ (told_done g.V.Watch.starts g.V.Observer.takes g.V.Observer.fails g.V.Watch.notes _ (None, c.args.watch.now) (lab_in c.loop-place.session.course, c.loop-place.watch) c.loop-place.invariant) c.at_line.ensures)
    c.in-Err-Unmet.ensures.told)
    c.in_err-noticed-in-Err-Unmet.ensures.broken

pub returns-in-Err-Unmet-clause-told : goal.returns-in-Err-Unmet-clause-told
returns-in-Err-Unmet-clause-told g c = (
  lab_in c.run_line.new.session.course,
  noted_on g.V.Watch.starts g.V.Observer.takes g.V.Observer.fails g.V.Watch.notes (None, c.args.watch.now) (lab_in c.run_line.new.session.course) c.run_line.new.watch c.noticed-in-Err-Unmet.new.self
      (line_ends g.V.Watch.starts g.V.Observer.takes g.V.Observer.fails g.V.Watch.notes false c.in-Err-Unmet.field-0 (None, c.args.watch.now) (lab_in c.loop-place.session.course, c.at_line.new.self) (lab_in c.run_line.new.session.course, c.run_line.new.watch) (ap is_failure c.in-Err-Unmet.field-0-is)
      (turned_on g.V.Watch.starts g.V.Observer.takes g.V.Observer.fails g.V.Watch.notes (None, c.args.watch.now) (lab_in c.loop-place.session.course) c.loop-place.watch c.at_line.new.self _ (told_done g.V.Watch.starts g.V.Observer.takes g.V.Observer.fails g.V.Watch.notes _ (None, c.args.watch.now) (lab_in c.loop-place.session.course, c.loop-place.watch) c.loop-place.invariant) c.at_line.ensures)
      c.in-Err-Unmet.ensures.told)
      c.in_ok-noticed-in-Err-Unmet.ensures.notes,
)

pub returns-in-Err-Failed-clause-told_until : goal.returns-in-Err-Failed-clause-told_until
returns-in-Err-Failed-clause-told_until g c = (
  lab_in c.run_line.new.session.course,
  (line_ends g.V.Watch.starts g.V.Observer.takes g.V.Observer.fails g.V.Watch.notes true c.in-Err-Failed.field-0 (None, c.args.watch.now) (lab_in c.loop-place.session.course, c.at_line.new.self) (lab_in c.run_line.new.session.course, c.run_line.new.watch) (ap is_failure c.in-Err-Failed.field-0-is)
      (turned_on g.V.Watch.starts g.V.Observer.takes g.V.Observer.fails g.V.Watch.notes (None, c.args.watch.now) (lab_in c.loop-place.session.course) c.loop-place.watch c.at_line.new.self _ (told_done g.V.Watch.starts g.V.Observer.takes g.V.Observer.fails g.V.Watch.notes _ (None, c.args.watch.now) (lab_in c.loop-place.session.course, c.loop-place.watch) c.loop-place.invariant) c.at_line.ensures)
      c.in-Err-Failed.ensures.told),
)

pub loop-place-init : goal.loop-place-init
loop-place-init g c =
    begun g.V.Watch.starts g.V.Observer.takes g.V.Observer.fails g.V.Watch.notes (mode_of c.new-session.result) (lab_in c.new-session.result.course) c.args.watch.now c.new-session.ensures.unstarted
    (ap₂ (λ (a b : Bool). record { awaits = a; asks = b }) (ap is_some c.new-session.ensures.unawaited) c.new-session.ensures.unasked)

pub loop-place-preserved : goal.loop-place-preserved
loop-place-preserved g c =
    let place = c.loop-place.place in
    let line = c.index.result.now in
    let below : place < length c.in_ok-lines.lines.items = search rules in
    let more = next_line c.args.script.now c.in_ok-lines.lines.items c.in_ok-lines.ensures place line below c.index.ensures in
    subst (λ (ls : List (ℕ × List ℕ)). HasDone (λ ts. AreSaid at_begin ls ts (mode_of c.run_line.new.session)) g.V.Watch.starts g.V.Observer.takes g.V.Watch.notes (None, c.args.watch.now) (lab_in c.run_line.new.session.course, c.run_line.new.watch)) (sym more)
    (line_on g.V.Watch.starts g.V.Observer.takes g.V.Observer.fails g.V.Watch.notes (take place (numbered c.args.script.now)) (place, line.now) _ (mode_of c.loop-place.session) (mode_of c.run_line.new.session) (None, c.args.watch.now) (lab_in c.run_line.new.session.course, c.run_line.new.watch)
    (lab_in c.loop-place.session.course) c.loop-place.watch c.at_line.new.self (omega (arith, c.saturating_add-number.ensures, below, c.in_ok-lines.lines.ok.0)) c.loop-place.invariant c.at_line.ensures c.in-Ok.ensures.done)

pub returns-clause-said : goal.returns-clause-said
returns-clause-said g c =
    if_whole g.V.Watch.starts g.V.Observer.takes g.V.Observer.fails g.V.Watch.notes c.end.result c.args.script.now (take c.loop-place.place (numbered c.args.script.now)) (mode_of c.loop-place.session) (None, c.args.watch.now) (lab_in c.loop-place.session.course) c.loop-place.watch c.end.new.watch
    (whole c.args.script.now c.in_ok-lines.lines.items c.in_ok-lines.ensures c.loop-place.place (omega arith)) c.loop-place.invariant c.end.ensures.ended

pub returns-in-Err-Refused-clause-said : goal.returns-in-Err-Refused-clause-said
returns-in-Err-Refused-clause-said g c =
    let below : c.loop-place.place < length c.in_ok-lines.lines.items = search rules in (
      lab_in c.run_line.new.session.course,
      end_done g.V.Watch.starts g.V.Observer.takes g.V.Observer.fails g.V.Watch.notes c.args.script.now (take c.loop-place.place (numbered c.args.script.now)) c.loop-place.place _ (mode_of c.loop-place.session) c.in-Err-Refused.field-0 (None, c.args.watch.now) (lab_in c.loop-place.session.course) (lab_in c.run_line.new.session.course)
          c.loop-place.watch c.at_line.new.self c.run_line.new.watch c.noticed.new.self (ap is_failure c.in-Err-Refused.field-0-is) (omega (arith, below, as_many c.args.script.now c.in_ok-lines.lines.items c.in_ok-lines.ensures)) refl
          (omega (arith, c.saturating_add-number.ensures, below, c.in_ok-lines.lines.ok.0)) c.loop-place.invariant c.at_line.ensures c.in-Err-Refused.ensures.told c.in_ok-noticed-in-Err-Refused.ensures.notes,
    )

pub returns-in-Err-Unmet-clause-said : goal.returns-in-Err-Unmet-clause-said
returns-in-Err-Unmet-clause-said g c =
    let below : c.loop-place.place < length c.in_ok-lines.lines.items = search rules in (
      lab_in c.run_line.new.session.course,
      end_done g.V.Watch.starts g.V.Observer.takes g.V.Observer.fails g.V.Watch.notes c.args.script.now (take c.loop-place.place (numbered c.args.script.now)) c.loop-place.place _ (mode_of c.loop-place.session) c.in-Err-Unmet.field-0 (None, c.args.watch.now) (lab_in c.loop-place.session.course) (lab_in c.run_line.new.session.course)
          c.loop-place.watch c.at_line.new.self c.run_line.new.watch c.noticed-in-Err-Unmet.new.self (ap is_failure c.in-Err-Unmet.field-0-is) (omega (arith, below, as_many c.args.script.now c.in_ok-lines.lines.items c.in_ok-lines.ensures)) refl
          (omega (arith, c.saturating_add-number.ensures, below, c.in_ok-lines.lines.ok.0)) c.loop-place.invariant c.at_line.ensures c.in-Err-Unmet.ensures.told c.in_ok-noticed-in-Err-Unmet.ensures.notes,
    )

pub returns-clause-told : goal.returns-clause-told
returns-clause-told g c =
    ok_then c.end.result (λ noted. (
      lab_in c.loop-place.session.course,
      ended_on g.V.Watch.starts g.V.Observer.takes g.V.Observer.fails g.V.Watch.notes (None, c.args.watch.now) (lab_in c.loop-place.session.course) c.loop-place.watch c.end.new.watch (told_done g.V.Watch.starts g.V.Observer.takes g.V.Observer.fails g.V.Watch.notes _ (None, c.args.watch.now) (lab_in c.loop-place.session.course, c.loop-place.watch) c.loop-place.invariant) noted,
    )) c.end.ensures.noted

pub returns-clause-told_until : goal.returns-clause-told_until
returns-clause-told_until g c =
    err_then c.end.result (λ broken. (
      lab_in c.loop-place.session.course,
      until_on g.V.Watch.starts g.V.Observer.takes g.V.Observer.fails g.V.Watch.notes (None, c.args.watch.now) (lab_in c.loop-place.session.course, c.loop-place.watch) (lab_in c.loop-place.session.course, c.end.new.watch) (told_done g.V.Watch.starts g.V.Observer.takes g.V.Observer.fails g.V.Watch.notes _ (None, c.args.watch.now) (lab_in c.loop-place.session.course, c.loop-place.watch) c.loop-place.invariant)
          (failed_still g.V.Watch.starts g.V.Observer.takes g.V.Observer.fails g.V.Watch.notes (lab_in c.loop-place.session.course) c.loop-place.watch c.end.new.watch (inr broken)),
    )) c.end.ensures.broken
