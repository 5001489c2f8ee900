use Rattle.std.proofs.Common.{◌≡◌, ◌≤◌, ◌-◌, length, max}
use Rattle.ripng_clock.specs.Ending.{HaveSetOut}
use Rattle.ripng_clock.proofs.due.Course.set_out.Given as goal

abbrev pub invariant-loop-self : goal.invariant-loop-self
invariant-loop-self g l = record {
  moment : l.self.moment ≡ l.fn.self.moment;
  alarms : l.self.alarms ≡ l.fn.self.alarms;
  from : l.fn.self.next ≤ l.self.next;
  within : l.self.next ≤ max l.fn.self.next (length l.fn.running.world.sent);
  out : HaveSetOut l.fn.span l.fn.running l.fn.self.moment l.fn.timetable l.fn.self.next l.self.next l.timetable;
}

abbrev pub decreases-loop-self : goal.decreases-loop-self
decreases-loop-self g l = length l.fn.running.world.sent - l.self.next
