use Rattle.std.proofs.Common.{◌∷◌, [], ◌++◌, ◌∙◌, List, ap}
use Rattle.ripng_trace.proofs.Growing.{whole_text}
use Rattle.ripng_trace.proofs.Lines.{broken_as, broken_unclaimed, record_broken, record_written, whole_as, whole_unclaimed}
use Rattle.ripng_trace.proofs.to_json.write_record.Goals as goal

pub returns-in_ok-push-in-Json-clause-whole : goal.returns-in_ok-push-in-Json-clause-whole
returns-in_ok-push-in-Json-clause-whole g c =
    let json = g.T.ToJson.json c.args.value.now in
    let text = whole_text _ c.write_json.new.text json _ (c.new-writer.ensures.before ∙ c.new.ensures.items) c.new-writer.ensures.tokens c.write_json.ensures (c.if-text.false, c.into_inner-line.ensures.items) in
    let line = c.deref.ensures.value ∙ c.in_ok-push-in-Json.ensures.items ∙ ap (λ (text : List _). text ++ 10 ∷ []) text in
    whole_as c.write_bytes.result json c.args.form _ _ c.in-Json.is (record_written c.write_bytes.result json c.deref.result.now _ _ line c.write_bytes.ensures.whole)

pub returns-in_ok-push-in-Json-clause-broken : goal.returns-in_ok-push-in-Json-clause-broken
returns-in_ok-push-in-Json-clause-broken g c =
    let json = g.T.ToJson.json c.args.value.now in
    let text = whole_text _ c.write_json.new.text json _ (c.new-writer.ensures.before ∙ c.new.ensures.items) c.new-writer.ensures.tokens c.write_json.ensures (c.if-text.false, c.into_inner-line.ensures.items) in
    let line = c.deref.ensures.value ∙ c.in_ok-push-in-Json.ensures.items ∙ ap (λ (text : List _). text ++ 10 ∷ []) text in
    broken_as c.write_bytes.result json c.args.form _ _ c.in-Json.is (record_broken c.write_bytes.result json c.deref.result.now _ _ line c.write_bytes.ensures.broken)

pub returns-in-English-clause-whole : goal.returns-in-English-clause-whole
returns-in-English-clause-whole g c = whole_unclaimed c.write.result (g.T.ToJson.json c.args.value.now) c.args.form _ _ c.in-English.is

pub returns-in-English-clause-broken : goal.returns-in-English-clause-broken
returns-in-English-clause-broken g c = broken_unclaimed c.write.result (g.T.ToJson.json c.args.value.now) c.args.form _ _ c.in-English.is
