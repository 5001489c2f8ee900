-- The past of which this entry is the last.
use Rattle.std.specs.Prelude.{[], ◌∷◌, ◌++◌, map}
use Rattle.ripngd_engine.specs.Link.{Handed, recv_call}
use Rattle.ripngd_engine.specs.Past.{Past, no_past}
use Rattle.ripngd_engine.specs.declared.transcript.Entry.{Entry}
use Rattle.ripngd_engine.specs.declared.transcript.Entry.TheVariants as entries

-- nothing, a link that was bound, or what happened before and then this
abbrev pub past_with : Entry → Past
past_with entries.Nothing = no_past
past_with (entries.Bound places peers) = record no_past { places = places.now; peers = map (λ v. v.items) peers.now }
past_with (entries.Answered before answer buffer) = record before.now.past { calls = before.now.past.calls ++ recv_call answer.now buffer.now ∷ [] }
past_with (entries.Taken before outgoing went) = record before.now.past { calls = before.now.past.calls ++ Handed outgoing.now went ∷ [] }
past_with (entries.Obeyed before line) = record before.now.past { lines = before.now.past.lines ++ line.now ∷ [] }
past_with (entries.Wrote before bytes) = record before.now.past { bytes = before.now.past.bytes ++ bytes.now }
