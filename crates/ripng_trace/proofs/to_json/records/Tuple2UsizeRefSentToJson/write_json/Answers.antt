use Rattle.std.proofs.Common.{ℕ, List, [], ◌∷◌, codes, subst}
use Rattle.json.specs.Tree.{json_tokens}
use Rattle.ripng_trace.specs.Growing.{Grows}
use Rattle.ripng_trace.specs.Json.{hex_of, json_of_peer, json_of_sent, number_of, object_of}
use Rattle.ripng_trace.proofs.to_json.records.Tuple2UsizeRefSentToJson.write_json.Goals as goal

pub returns : goal.returns
unfolding json_of_sent
returns c =
    let r = c.args.self.now in
    subst (λ (bytes : List ℕ). Grows c.args.text.now c.object.new.self (json_tokens (object_of
    ((codes "datagram", number_of r.0)
    ∷ (codes "router", number_of r.1.now.router)
    ∷ (codes "iface", number_of r.1.now.iface)
    ∷ (codes "peer", json_of_peer r.1.now.to)
    ∷ (codes "bytes", hex_of bytes)
    ∷ [])))) c.as_slice.ensures c.object.ensures
