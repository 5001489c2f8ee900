use Rattle.std.proofs.Common.{refl, arith}
use Rattle.std.proofs.KnownBytes.{Appends-nil}
use Rattle.ripngd_control.proofs.Following.{EntriesShown-more, all_shown, shows_entries}
use Rattle.ripngd_control.proofs.pieces.write_table.Goals as goal

pub loop-done-init : goal.loop-done-init
loop-done-init g c = record { left_is = refl; last_is = refl; lines = Appends-nil _ }

pub loop-done-preserved : goal.loop-done-preserved
loop-done-preserved g c = EntriesShown-more _ _ _ _ _ _ _ _ _ c.loop-done.invariant c.in-Some.ensures.steps c.in_ok-writeln.ensures.bytes

pub returns-in_default : goal.returns-in_default
returns-in_default g c =
    let past = c.loop-done.auto._done-end in
    shows_entries _ _ _ _ _ 256 _ _ c.entries_after-entries.ensures (all_shown _ _ _ 256 _ _ _ c.loop-done.invariant c.in_default.ensures.steps.0 (omega (arith, past))) refl

pub returns : goal.returns
returns g c =
    let past = c.loop-done-test.false in
    let within = c.loop-done.auto._done-end in
    shows_entries _ _ _ _ _ _ _ _ c.entries_after-entries.ensures c.loop-done.invariant (omega (arith, past, within))
