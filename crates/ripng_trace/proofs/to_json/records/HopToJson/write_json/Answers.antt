use Rattle.ripng_trace.specs.Json.{json_of_hop}
use Rattle.ripng_trace.proofs.to_json.records.HopToJson.write_json.Goals as goal

pub returns-in-Via : goal.returns-in-Via
unfolding json_of_hop
returns-in-Via c = rw c.in-Via.is c.object.ensures
