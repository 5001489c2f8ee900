use Rattle.std.proofs.Common.{[], None, inl, refl, rules}
use Rattle.ripng_trace.specs.Lines.{written_as}
use Rattle.ripng_trace.proofs.Reading.{on_any, on_err, on_ok, with_answer}
use Rattle.ripng_trace.proofs.Tracing.{done_same, traced, traced_to, traced_until, until_same}
use Rattle.ripng_trace.proofs.tracer.observed.Goals as goal

pub returns-in_err-names-clause-traced_until : goal.returns-in_err-names-clause-traced_until
returns-in_err-names-clause-traced_until g c = on_any c.from_residual.result (None, (None, _, ([], refl, refl), inl refl, inl refl))

pub returns-clause-traced : goal.returns-clause-traced
returns-clause-traced g c =
    on_ok c.watched-outcome.result (with_answer _ c.watched-outcome.result c.watched-outcome.ensures.said)
    (λ h.
    let same = done_same g.W.Write.contents _ c.watched-outcome.new.watch h.2.0 h.2.1 in
    let here = traced g.W.Write.contents _ c.watched-outcome.new.watch h.2.0 c.args.out.now c.watched-outcome.new.watch.out.now c.new.ensures.items refl refl c.args.script.now h.0 refl h.2.1 in
    (h.0, h.1, h.2.0, traced_to g.W.Write.contents c.args.script.now h.0 (written_as c.args.form (g.W.Write.contents c.args.out.now)) h.2.0 c.args.form c.watched-outcome.new.watch.out.now _ (search (rules, same)) here))

pub returns-clause-traced_until : goal.returns-clause-traced_until
returns-clause-traced_until g c =
    on_err c.watched-outcome.result c.watched-outcome.ensures.told_until
    (λ h.
    let same = until_same g.W.Write.contents _ c.watched-outcome.new.watch h.0 h.1 in
    (h.0, traced_until g.W.Write.contents _ c.watched-outcome.new.watch h.0 c.args.out.now _ c.new.ensures.items refl (search (rules, same)) h.1))
