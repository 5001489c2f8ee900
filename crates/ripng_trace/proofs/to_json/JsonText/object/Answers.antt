use Rattle.ripng_trace.proofs.Growing.{Grows-then}
use Rattle.ripng_trace.proofs.to_json.JsonText.object.Goals as goal

pub returns : goal.returns
returns g c = Grows-then c.token.ensures c.write_members.ensures
