use Rattle.std.proofs.Common.{rules}
use Rattle.std.proofs.lemmas.Fn.{filter_same}
use Rattle.ripng_lab.specs.Exercises.{counts}
use Rattle.ripng_lab.proofs.exercise.keep_counted.Goals as goal

pub returns : goal.returns
returns c = filter_same _ (counts c.args.leaves_events) _ (λ x b f' k. search rules) _ _ c.retain.ensures.filtered
