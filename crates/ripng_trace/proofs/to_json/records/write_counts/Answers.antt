use Rattle.ripng_trace.proofs.Growing.{Grows-then}
use Rattle.ripng_trace.specs.Json.{json_of_counts}
use Rattle.ripng_trace.proofs.to_json.records.write_counts.Goals as goal

pub returns : goal.returns
unfolding json_of_counts
returns c =
    Grows-then c.token.ensures (Grows-then c.member.ensures (Grows-then c.member-2.ensures (Grows-then c.member-3.ensures (Grows-then c.member-4.ensures (Grows-then c.member-5.ensures (Grows-then c.member-6.ensures (Grows-then c.member-7.ensures (Grows-then c.member-8.ensures (Grows-then c.member-9.ensures (Grows-then c.member-10.ensures (Grows-then c.member-11.ensures c.token-2.ensures)))))))))))
