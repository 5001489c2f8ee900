use Rattle.ripng_trace.specs.Json.{json_of_happened, json_of_stranger}
use Rattle.ripng_trace.proofs.to_json.records.HappenedToJson.write_json.Goals as goal

pub returns-in-Deliver : goal.returns-in-Deliver
unfolding json_of_happened
returns-in-Deliver c = rw c.in-Deliver.is c.object.ensures

pub returns-in-LinkDown : goal.returns-in-LinkDown
unfolding json_of_happened
returns-in-LinkDown c = rw c.in-LinkDown.is c.object-in-LinkDown.ensures

pub returns-in-LinkUp : goal.returns-in-LinkUp
unfolding json_of_happened
returns-in-LinkUp c = rw c.in-LinkUp.is c.object-in-LinkUp.ensures

pub returns-in-Stranger-2 : goal.returns-in-Stranger-2
unfolding json_of_happened json_of_stranger
returns-in-Stranger-2 c = rw (c.in-Stranger-2.is, c.if-self.false, ← c.arrival-in-Stranger-2.view_is) c.object-in-Stranger-2.ensures
