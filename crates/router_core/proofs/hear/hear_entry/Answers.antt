use Rattle.std.proofs.Common.{◌≡◌, Bool, true, false, ◌∷◌, [], Some, None, Result, Ok, Err}
use Rattle.std.specs.Prelude.{OnErr, if◌then◌else◌}
use Rattle.ripng_wire.specs.Wire.{first_reason}
use Rattle.router_core.specs.declared.answer.NoteKind.TheVariants.{NotAccepted, LimitReached}
use Rattle.router_core.proofs.hear.hear_entry.Goals as goal

-- where neither a filter nor the limit refuses an offer, the limit does not
by_limit : (barred full : Bool) → first_reason ((barred, NotAccepted) ∷ (full, LimitReached) ∷ []) ≡ None → (if full then Some LimitReached else None) ≡ None
by_limit true full is = absurd (cc)
by_limit false full is = is

on_err : {X E A B : Type 0} (r : Result X E) → (A → B) → OnErr r A → OnErr r B
on_err (Ok x) f a = tt
on_err (Err e) f a = f a

pub returns-clause-new : goal.returns-clause-new
returns-clause-new g c = on_err c.meet_within.result (λ new flawless taken. new (by_limit _ _ taken)) (rw (c.in_ok-prefix.ensures.prefix, c.requires) at c.meet_within.ensures.new)
