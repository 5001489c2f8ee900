use Rattle.std.proofs.Common.{◌≡◌, ℕ, ◌<◌, nat_lt, slice_index_or, cond}
use Rattle.ripngd_engine.specs.Run.{counted}
use Rattle.ripngd_control.proofs.refusals.Refusals.add.Given as goal

-- the numbers so far were added, and the others are as before
abbrev pub invariant-loop-number : goal.invariant-loop-number
invariant-loop-number l = (number : ℕ) → number < 27 → slice_index_or l.self.by_number number 0
    ≡ cond (nat_lt number l.number) (counted (slice_index_or l.initial.self.by_number number 0) (slice_index_or l.more.by_number number 0)) (slice_index_or l.initial.self.by_number number 0)
