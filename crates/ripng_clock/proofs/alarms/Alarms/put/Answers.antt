use Rattle.std.proofs.Common.{◌≡◌, ◌<◌, List, Option, Some, None, ℕ, length, slice_get, subst, sym}
use Rattle.ripng_clock.proofs.Times.{put, same_order}
use Rattle.ripng_clock.proofs.alarms.Alarms.put.Goals as goal

pub invariant_of-self : goal.invariant_of-self
invariant_of-self c = same_order c.self.inside.times.items c.self.inside.order c.add.new.self c.in_err-add.ensures.unchanged c.self.invariant

pub invariant_of-self-2 : goal.invariant_of-self-2
invariant_of-self-2 c =
    put c.self.inside.times.items c.args.router c.self.inside.order c.add.new.self c.self.invariant c.args.time
    (subst (λ (ts : List (Option ℕ)). c.args.router < length ts) (sym c.self.view_is) c.requires.there)
    (subst (λ (ts : List (Option ℕ)). slice_get ts c.args.router ≡ Some None) (sym c.self.view_is) c.requires.free)
    c.in_ok-add.ensures.added
