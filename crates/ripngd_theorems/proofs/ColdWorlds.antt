-- Every network of which each link is in one zone to each router has a cold world: each router started at moment 0.
use Rattle.std.proofs.Common.{ℕ, suc, true, false, cond, List, [], ◌∷◌, ◌++◌, map, flat_map, None, refl, arith}
use Rattle.std.specs.List.{enumerate_from}
use Rattle.std.proofs.lemmas.List.Elements.{All-cons, All-nil}
use Rattle.ripng_wire.specs.declared.rte.Command.TheVariants.{Request}
use Rattle.ripng_wire.specs.Layout.{Fits, Spells, command_byte, entry_bytes, version}
use Rattle.router_core.specs.Announcing.{is_passive}
use Rattle.router_core.specs.Config.{Config}
use Rattle.router_core.specs.Changes.{changes_of_start}
use Rattle.router_core.specs.Machine.{State, Starts, started, owned_table}
use Rattle.router_core.specs.Output.{Message, AreSpelled, asked_on, request_on, start_messages, whole_table_request}
use Rattle.router_core.specs.declared.answer.Answer.{Answer}
use Rattle.router_core.specs.declared.answer.Destination.TheVariants.{Group}
use Rattle.router_core.specs.declared.answer.Outgoing.{Outgoing}
use Rattle.router_core.specs.declared.config.Interface.{Interface}
use Rattle.ripng_world.specs.declared.event.Sent.{Sent}
use Rattle.ripng_world.specs.Network.{Network, Node, AreZoned, config_of}
use Rattle.ripng_world.specs.World.{World, StartsFrom, IsCold, sent_by}

-- ---- what a router asks for when it comes up

request_bytes : List ℕ
request_bytes = command_byte Request ∷ version ∷ 0 ∷ 0 ∷ flat_map entry_bytes (whole_table_request ∷ [])

request_fits : Fits whole_table_request
request_fits = record { addr = omega arith; tag = omega arith; len = omega arith; metric = omega arith }

request_spelled : Spells Request (whole_table_request ∷ []) request_bytes
unfolding request_bytes
request_spelled = record { bytes_are = refl; few = omega arith; fit = All-cons Fits whole_table_request [] request_fits (All-nil Fits) }

abbrev datagram_on : ℕ → Outgoing
datagram_on iface = record { iface = iface; to = Group; bytes = request_bytes }

asked_sends : (config : Config) (iface : ℕ) (ms : List Message) → (sends : List Outgoing) × AreSpelled ms sends → (sends : List Outgoing) × AreSpelled (asked_on config iface ++ ms) sends
asked_sends config iface ms rest =
    elim (is_passive config iface) as (λ b. (sends : List Outgoing) × AreSpelled (cond b [] (request_on iface ∷ []) ++ ms) sends) [
      | true ↦ rest
      | false ↦ (datagram_on iface ∷ rest.0, (record { iface = refl; to = refl; bytes = request_spelled }, rest.1))
    ]

requests : (config : Config) (ts : List (ℕ × Interface)) → (sends : List Outgoing) × AreSpelled (flat_map (λ t. asked_on config t.0) ts) sends
requests config [] = ([], tt)
requests config (t ∷ ts) = asked_sends config t.0 (flat_map (λ u. asked_on config u.0) ts) (requests config ts)

start_sends : (config : Config) → (sends : List Outgoing) × AreSpelled (start_messages config) sends
start_sends config = requests config (enumerate_from 0 config.interfaces)

first_start : (config : Config) → (answer : Answer) × Starts config 0 answer (started config 0)
first_start config =
    let sends = start_sends config in (
      record { fault = None; sends = sends.0; changes = changes_of_start (owned_table config); notes = [] },
      record { state = refl; answer_is = record { fault = refl; sends = sends.1; changes_are = refl; notes_are = refl } },
    )

-- ---- all routers

cold_from : (n : ℕ) (nodes : List Node) → (moments : List ℕ) × (states : List State) × (sent : List Sent) × StartsFrom n nodes moments states sent
cold_from n [] = ([], [], [], refl)
cold_from n (node ∷ nodes) =
    let rest = cold_from (suc n) nodes in
    let first = first_start (config_of node) in
    (0 ∷ rest.0, started (config_of node) 0 ∷ rest.1, map (sent_by n) first.0.sends ++ rest.2, (first.0, rest.2, first.1, rest.3, refl))

pub cold_world : (net : Network) → AreZoned net → (moments : List ℕ) × (w : World) × IsCold net moments w
cold_world net zoned =
    let cold = cold_from 0 net in
    (cold.0, record { states = cold.1; sent = cold.2; reconfigurations = [] }, record { zoned = zoned; starts = cold.3; unchanged = refl })
