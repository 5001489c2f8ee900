use Rattle.ripng_trace.specs.Json.{json_of_aside}
use Rattle.ripng_trace.proofs.to_json.records.AsideRecordToJson.write_json.Goals as goal

pub returns-in-Tallies : goal.returns-in-Tallies
unfolding json_of_aside
returns-in-Tallies c = rw (c.in-Tallies.is, ← c.last_at.ensures) c.write_counts.ensures
