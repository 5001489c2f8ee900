use Rattle.std.proofs.Common.{◌≡◌, ◌∙◌, ap, arith, refl, sym, Ok}
use Rattle.ripngd.specs.contracts.status.Status.{the_type}
use Rattle.ripngd.specs.declared.status.Status.{Status}
use Rattle.ripngd.specs.declared.status.Status.TheVariants.{Done, Refused, Usage, Failed}
use denote.Enum.Declared.{tag_of}
use Rattle.ripngd.proofs.status.program.Goals.{in-Ok, in-Err}
use Rattle.ripngd.proofs.status.program.Goals as goal

-- the status 0 is that of what is done
is_done : (s : Status) → tag_of the_type s ≡ 0 → s ≡ Done
is_done Done zero = refl
is_done Refused zero = let bad : 1 ≡ 0 = zero in absurd (omega arith)
is_done Usage zero = let bad : 2 ≡ 0 = zero in absurd (omega arith)
is_done Failed zero = let bad : 3 ≡ 0 = zero in absurd (omega arith)

-- and 1 that of what is refused
is_refused : (s : Status) → tag_of the_type s ≡ 1 → s ≡ Refused
is_refused Done one = let bad : 0 ≡ 1 = one in absurd (omega arith)
is_refused Refused one = refl
is_refused Usage one = let bad : 2 ≡ 1 = one in absurd (omega arith)
is_refused Failed one = let bad : 3 ≡ 1 = one in absurd (omega arith)

-- and 2 that of words that have a fault
is_usage : (s : Status) → tag_of the_type s ≡ 2 → s ≡ Usage
is_usage Done two = let bad : 0 ≡ 2 = two in absurd (omega arith)
is_usage Refused two = let bad : 1 ≡ 2 = two in absurd (omega arith)
is_usage Usage two = refl
is_usage Failed two = let bad : 3 ≡ 2 = two in absurd (omega arith)

pub returns-clause-done : goal.returns-clause-done
returns-clause-done g c = elim c.match-outcome.branch [
  | in-Ok w ↦ λ zero. rw w.out-is (c.outcome.ensures.done (w.in-Ok.is ∙ ap Ok (sym w.status-is ∙ is_done c.match-outcome.status zero)))
  | in-Err w ↦ λ zero. absurd (let failed = w.status-is ∙ w.report-status.ensures in let done = is_done c.match-outcome.status zero in cc)
]

pub returns-clause-refused : goal.returns-clause-refused
returns-clause-refused g c = elim c.match-outcome.branch [
  | in-Ok w ↦ λ one. rw w.out-is (c.outcome.ensures.refused (w.in-Ok.is ∙ ap Ok (sym w.status-is ∙ is_refused c.match-outcome.status one)))
  | in-Err w ↦ λ one. absurd (let failed = w.status-is ∙ w.report-status.ensures in let refused = is_refused c.match-outcome.status one in cc)
]

pub returns-clause-usage : goal.returns-clause-usage
returns-clause-usage g c = elim c.match-outcome.branch [
  | in-Ok w ↦ λ two. c.outcome.ensures.usage (w.in-Ok.is ∙ ap Ok (sym w.status-is ∙ is_usage c.match-outcome.status two))
  | in-Err w ↦ λ two. absurd (let failed = w.status-is ∙ w.report-status.ensures in let usage = is_usage c.match-outcome.status two in cc)
]
