use Rattle.ripng_trace.specs.Json.{json_of_offer}
use Rattle.ripng_trace.proofs.to_json.records.OfferRecordToJson.write_json.Goals as goal

pub returns : goal.returns
unfolding json_of_offer
returns c = rw (← c.name.ensures) c.object.ensures
