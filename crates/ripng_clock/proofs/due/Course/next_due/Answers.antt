use Rattle.std.proofs.Common.{◌≡◌, ◌<◌, ◌≤◌, ℕ, Some, refl, sym, subst}
use Rattle.ripng_clock.specs.Ending.{AreLater, IsDue, IsNext, NoDatagramSooner, NoTickSooner}
use Rattle.ripng_clock.proofs.Alarming.{all_later, no_datagram_by, no_tick_by, one_is}
use Rattle.ripng_clock.proofs.due.Course.next_due.Goals as goal

pub returns-in_err-time-clause-none : goal.returns-in_err-time-clause-none
returns-in_err-time-clause-none c = λ none.
    let both = c.earlier.ensures.none c.in_err-time.was in
    let later : AreLater c.args.self.now.alarms c.args.timetable.now.under_way c.args.until =
    record { routers = λ router t is. absurd (c.first_tick.ensures.none both.1 router t is); datagrams = λ t n has. absurd (c.first_datagram.ensures.none both.0 t n has) } in
    later

pub returns-in_err-moment-clause-none : goal.returns-in_err-moment-clause-none
returns-in_err-moment-clause-none c = λ none.
    let alarms = c.args.self.now.alarms in
    let under_way = c.args.timetable.now.under_way in
    let now = c.args.self.now.moment in
    let f = c.first_datagram.result in
    let s = c.first_tick.result in
    let r = c.earlier.result in
    all_later alarms under_way now c.args.until f s r c.in_ok-time.time
    (no_datagram_by alarms under_way now c.args.until f s r c.first_datagram.ensures.first c.first_datagram.ensures.none c.earlier.ensures.not_after_first c.in_ok-time.time c.in_ok-time.due c.in_ok-time.was)
    (no_tick_by alarms under_way now c.args.until f s r c.first_tick.ensures.first c.first_tick.ensures.none c.earlier.ensures.not_after_second c.in_ok-time.time c.in_ok-time.due c.in_ok-time.was)
    (c.moment_by.ensures.none c.in_err-moment.was) c.requires

pub returns-clause-next : goal.returns-clause-next
returns-clause-next c =
    let alarms = c.args.self.now.alarms in
    let under_way = c.args.timetable.now.under_way in
    let now = c.args.self.now.moment in
    let f = c.first_datagram.result in
    let s = c.first_tick.result in
    let r = c.earlier.result in
    let time = c.in_ok-time.time in
    let due = c.in_ok-time.due in
    let next : IsNext alarms under_way now c.args.until time due =
    record {
      not_before = one_is alarms under_way now c.args.until f s r (λ n. now ≤ n.0) c.earlier.ensures.one c.first_datagram.ensures.later c.first_tick.ensures.later (time, due) c.in_ok-time.was;
      in_time = c.in_ok-moment.ensures.some.1;
      routers = no_tick_by alarms under_way now c.args.until f s r c.first_tick.ensures.first c.first_tick.ensures.none c.earlier.ensures.not_after_second time due c.in_ok-time.was;
      datagrams = no_datagram_by alarms under_way now c.args.until f s r c.first_datagram.ensures.first c.first_datagram.ensures.none c.earlier.ensures.not_after_first time due c.in_ok-time.was;
      is_due = one_is alarms under_way now c.args.until f s r (λ n. IsDue alarms under_way now n.0 n.1) c.earlier.ensures.one c.first_datagram.ensures.due (c.first_tick.ensures.due under_way) (time, due) c.in_ok-time.was;
    } in
    subst (λ moment. IsNext alarms under_way now c.args.until moment due) (sym c.in_ok-moment.ensures.some.0) next
