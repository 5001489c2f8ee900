use Rattle.ripngd_control.proofs.Jsons.{Grows-then}
use Rattle.ripngd_control.proofs.status_json.write_router.Goals as goal

pub returns : goal.returns
returns c =
    Grows-then c.token.ensures (Grows-then c.count.ensures (Grows-then c.count-2.ensures (Grows-then c.count-3.ensures (Grows-then c.count-4.ensures
    (Grows-then c.count-5.ensures (Grows-then c.count-6.ensures (Grows-then c.count-7.ensures (Grows-then c.count-8.ensures (Grows-then c.count-9.ensures
    (Grows-then c.flag.ensures (Grows-then c.count-10.ensures (Grows-then c.token-2.ensures (Grows-then c.write_refused.ensures c.token-3.ensures)))))))))))))
