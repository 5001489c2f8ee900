use Rattle.std.proofs.Common.{◌≡◌, map, true, All}
use Rattle.std.specs.Prelude.{string_bytes}
use Rattle.ripngd_config.specs.Keys.{is_listed}
use Rattle.ripngd_config.proofs.section.Section.only.Given as goal

abbrev pub invariant-loop-key : goal.invariant-loop-key
invariant-loop-key l =
    (goal.iterator-loop-key).can_next l.key-iterator ×
    (goal.iterator-loop-key).is_finite l.key-iterator
    × All (λ key. is_listed (map (λ k. k.now) l.known) (string_bytes key.now) ≡ true) l.yielded
