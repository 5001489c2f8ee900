use Rattle.std.proofs.Common.{◌≡◌, ◌+◌, ◌<◌, ◌≤◌, ℕ, List, length, max, ap, refl, sym, subst, ◌∙◌, arith}
use Rattle.ripng_world.specs.declared.event.Sent.{Sent}
use Rattle.ripng_clock.specs.Ending.{HaveSetOut}
use Rattle.ripng_clock.specs.declared.carrying.Carriage.{Carriage}
use Rattle.ripng_clock.specs.declared.timetable.Timetable.{Timetable}
use Rattle.ripng_clock.proofs.SettingOut.{out_added, out_skipped}
use Rattle.ripng_clock.proofs.due.Course.set_out.Goals as goal
use Rattle.ripng_clock.proofs.due.Course.set_out.Goals.{in-Some+in_ok-add, in_default}

pub loop-self-preserved : goal.loop-self-preserved
loop-self-preserved g c =
    let asked = c.args.span.now in
    let lab = c.args.running.now in
    let start = c.args.self.now in
    let next = c.loop-self.self.next in
    let before : next < length lab.world.sent = subst (λ (ds : List Sent). next < length ds) c.sent.ensures c.loop-self-test.true in
    record {
      moment = c.loop-self.invariant.moment;
      alarms = c.loop-self.invariant.alarms;
      from = (let a = c.loop-self.invariant.from in omega (arith, a));
      within = omega (arith, before);
      out = elim c.match-carried.branch [
        | in-Some+in_ok-add w ↦
            subst (λ (v : Timetable). HaveSetOut asked lab start.moment c.args.timetable.now start.next (next + 1) v) (sym w.timetable-is)
            (out_added asked lab start.moment c.args.timetable.now start.next next c.loop-self.timetable c.loop-self.invariant.out c.loop-self.invariant.from w.in-Some.sent.now w.in-Some.ensures.there w.ms.result
            (w.ms.ensures.value ∙ w.later.ensures.sum ∙ ap (λ k. k + w.carriage_of-delay_ms.result.delay_ms) c.loop-self.invariant.moment ∙ ap (λ (k : Carriage). start.moment + k.delay_ms) w.carriage_of-delay_ms.ensures)
            (record { links = c.loop-self.timetable.links; under_way = w.add.new.self; over = c.loop-self.timetable.over }) refl refl w.in_ok-add.ensures.added)
        | in_default w ↦
            subst (λ (v : Timetable). HaveSetOut asked lab start.moment c.args.timetable.now start.next (next + 1) v) (sym w.timetable-is)
            (out_skipped asked lab start.moment c.args.timetable.now start.next next c.loop-self.timetable c.loop-self.invariant.out (c.carried.ensures.none w.in_default.is))
      ];
    }
