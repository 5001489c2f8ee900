use Rattle.std.proofs.Common.{◌≡◌, ℕ, Option, Some, None, slice_set, sym, ◌∙◌, ap}
use Rattle.ripng_clock.proofs.Times.{on_ok, set_twice}
use Rattle.ripng_clock.proofs.alarms.Alarms.set.Goals as goal

pub returns-in-Some : goal.returns-in-Some
returns-in-Some c =
    on_ok c.put.result
    (λ is. is ∙ ap (λ ts. slice_set ts c.args.router (Some c.in-Some.time)) c.clear.ensures ∙ set_twice c.args.self.now c.args.router None (Some c.in-Some.time)
    ∙ ap (λ t. slice_set c.args.self.now c.args.router t) (sym c.in-Some.is)) c.put.ensures.put
