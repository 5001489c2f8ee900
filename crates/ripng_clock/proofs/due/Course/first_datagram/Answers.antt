use Rattle.std.proofs.Common.{◌≡◌, max, ap, sym, subst, ◌∙◌}
use Rattle.ripng_clock.specs.Ending.{NoDatagramSooner}
use Rattle.ripng_clock.proofs.Alarming.{no_datagram_sooner}
use Rattle.ripng_clock.proofs.due.Course.first_datagram.Goals as goal

pub returns-in-Some-clause-first : goal.returns-in-Some-clause-first
returns-in-Some-clause-first c =
    subst (NoDatagramSooner c.args.timetable.now.under_way c.args.self.now.moment) (sym (c.max.ensures ∙ ap (max c.in-Some.time) c.ms.ensures.value))
    (no_datagram_sooner c.args.timetable.now.under_way c.args.self.now.moment c.in-Some.time c.in-Some.datagram c.in-Some.ensures.first)

pub returns-in-None-clause-none : goal.returns-in-None-clause-none
returns-in-None-clause-none c = λ none time datagram has. c.first.ensures.none c.in-None.is time datagram has
