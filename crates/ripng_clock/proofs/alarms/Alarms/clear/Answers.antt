use Rattle.std.proofs.Common.{◌≡◌, ◌<◌, List, Option, Some, None, ℕ, length, slice_get, slice_set, subst, sym, ◌∙◌, ap}
use Rattle.std.proofs.lemmas.Option.{slice_get-get_or}
use Rattle.ripng_clock.specs.Agenda.{AreTimes}
use Rattle.ripng_clock.proofs.Times.{cleared, free}
use Rattle.ripng_clock.proofs.alarms.Alarms.clear.Goals as goal
use Rattle.ripng_clock.proofs.alarms.Alarms.clear.Goals.{in-Some, in_default}

pub invariant_of-self : goal.invariant_of-self
invariant_of-self c =
    let within : c.args.router < length c.self.inside.times.items = subst (λ (ts : List (Option ℕ)). c.args.router < length ts) (sym c.self.view_is) c.requires in
    let here : slice_get c.self.inside.times.items c.args.router ≡ Some c.index.result.now =
    slice_get-get_or c.self.inside.times.items c.args.router c.index.result.now within ∙ ap Some (sym c.index.ensures) in
    elim c.match-index.branch [
      | in-Some w ↦ subst (λ inside. AreTimes (slice_set inside.times.items c.args.router None) inside.order) (sym w.self-inside-is)
          (cleared c.self.inside.times.items c.args.router c.self.inside.order w.remove.new.self c.self.invariant w.in-Some.old (here ∙ ap Some w.in-Some.is) w.remove.ensures)
      | in_default w ↦ subst (λ inside. AreTimes (slice_set inside.times.items c.args.router None) inside.order) (sym w.self-inside-is)
          (free c.self.inside.times.items c.args.router c.self.inside.order c.self.inside.order c.self.invariant (here ∙ ap Some w.in_default.is))
    ]
