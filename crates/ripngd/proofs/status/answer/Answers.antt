use Rattle.ripngd.proofs.Kept.{job_kept}
use Rattle.ripngd.proofs.status.answer.Goals as goal

pub returns-then-accepted-clause-done : goal.returns-then-accepted-clause-done
returns-then-accepted-clause-done g c =
    let kept = job_kept (g.F.FileSource.holds c.args.files.now) c.accepts.new.history c.args.job c.in_ok-accepted.accepted _ _ _
    c.in_ok-accepted.ensures.answered c.flush.ensures.bytes in
    λ is. rw c.if-accepted.true at kept

pub returns-else-accepted-clause-refused : goal.returns-else-accepted-clause-refused
returns-else-accepted-clause-refused g c =
    let kept = job_kept (g.F.FileSource.holds c.args.files.now) c.accepts.new.history c.args.job c.in_ok-accepted.accepted _ _ _
    c.in_ok-accepted.ensures.answered c.flush.ensures.bytes in
    λ is. rw c.if-accepted.false at kept

pub returns-then-accepted-clause-refused : goal.returns-then-accepted-clause-refused
returns-then-accepted-clause-refused g c = λ is. absurd (cc is)

pub returns-else-accepted-clause-done : goal.returns-else-accepted-clause-done
returns-else-accepted-clause-done g c = λ is. absurd (cc is)
