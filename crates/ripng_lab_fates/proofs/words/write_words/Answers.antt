use Rattle.std.proofs.Common.{None}
use Rattle.std.proofs.KnownBytes.{Appends-trans}
use Rattle.router_core.proofs.Sending.{take_all_numbered}
use Rattle.ripng_lab_fates.specs.Text.{word_of}
use Rattle.ripng_lab_fates.specs.declared.ways.Step.TheVariants.{On}
use Rattle.ripng_lab_fates.proofs.Rows.{lines_more}
use Rattle.ripng_lab_fates.proofs.words.write_words.Goals as goal

pub loop-router-preserved : goal.loop-router-preserved
loop-router-preserved g c =
    rw (lines_more (word_of c.args.steps.now c.args.changes.now) c.args.steps.now c.loop-router.router (On 0 None) c.loop-router-test.true)
    (Appends-trans _ _ _ _ _ c.loop-router.invariant c.in_ok-write_word.ensures)

pub returns : goal.returns
returns g c = rw (take_all_numbered c.args.steps.now c.loop-router.router c.loop-router-test.false) at c.loop-router.invariant
