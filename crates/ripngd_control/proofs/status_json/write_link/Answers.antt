use Rattle.ripngd_control.proofs.Jsons.{Grows-then}
use Rattle.ripngd_control.proofs.status_json.write_link.Goals as goal

pub returns : goal.returns
returns c =
    rw (← c.from.ensures, ← c.from-2.ensures)
    (Grows-then c.token.ensures (Grows-then c.count.ensures (Grows-then c.printed.ensures (Grows-then c.count-2.ensures (Grows-then c.count-3.ensures
    (Grows-then c.count-4.ensures (Grows-then c.count-5.ensures (Grows-then c.count-6.ensures (Grows-then c.token-2.ensures
    (Grows-then c.write_neighbors.ensures c.write_tally.ensures))))))))))
