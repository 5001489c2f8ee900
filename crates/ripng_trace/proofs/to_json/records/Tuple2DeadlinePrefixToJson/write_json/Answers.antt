use Rattle.ripng_trace.specs.Json.{json_of_due}
use Rattle.ripng_trace.proofs.to_json.records.Tuple2DeadlinePrefixToJson.write_json.Goals as goal

pub returns : goal.returns
unfolding json_of_due
returns c = rw (← c.ms.ensures.value) c.object.ensures
