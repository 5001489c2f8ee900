use Rattle.ripngd_control.proofs.answering.write_sums.Goals as goal

pub returns : goal.returns
returns g c =
    rw (c.ms-now.ensures.value, c.last.ensures, c.len-routes.ensures, c.counts-counts.ensures, c.neighbors-neighbors.ensures)
    at c.write.ensures.bytes
