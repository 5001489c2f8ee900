use Rattle.std.proofs.Common.{refl}
use Rattle.ripng_trace.proofs.Reading.{on_err, on_ok}
use Rattle.ripng_trace.proofs.tracer.TracerWatch.started.Goals as goal

pub returns-clause-starts : goal.returns-clause-starts
returns-clause-starts g c =
    on_ok c.write_record.result c.write_record.ensures.whole (λ writes. ((c.in_ok-record.record, c.in_ok-record.ensures, writes), (refl, refl)))

pub returns-clause-broken : goal.returns-clause-broken
returns-clause-broken g c = on_err c.write_record.result c.write_record.ensures.broken (λ less. (less, (refl, refl)))
