use Rattle.ripngd_control.proofs.Jsons.{Grows-then}
use Rattle.ripngd_control.proofs.status_json.write_neighbor.Goals as goal

pub returns : goal.returns
returns c = Grows-then c.token.ensures (Grows-then c.printed.ensures c.write_tally.ensures)
