-- Which Requests are given to the router: those whose answers need not wait long.
use Rattle.std.specs.Prelude.{ℕ, ◌≡◌, ◌+◌, ◌-◌, ◌^◌, ◌++◌, ◌==◌, ◌&&◌, ◌||◌, ◌⊎◌, not, nat_le, nat_lt, min, Bool, true, false, if◌then◌else◌, List, [], ◌∷◌, Option, None, Some, drop, length, take, slice_index}
use Rattle.std.specs.List.{filter, list_any}
use Rattle.ripng_wire.specs.declared.rte.Command.{Command}
use Rattle.ripng_wire.specs.declared.rte.Command.TheVariants.{Request, Response}
use Rattle.router_core.specs.declared.answer.Outgoing.{Outgoing}
use Rattle.ripngd_engine.specs.declared.link.Received.{Received}
use Rattle.ripngd_udp.specs.declared.receive_queue.Datagram.{Datagram}
use Rattle.ripngd_udp.specs.ReceiveQueue.{Gives}
use Rattle.ripngd_udp.specs.SendQueue.{answers_in, owes}

-- the number of a command (RFC 2080, section 2.1)
abbrev pub number_of : Command → ℕ
number_of Request = 1
number_of Response = 2

-- the bytes are those of a datagram with that command: it is the first of them
abbrev pub is_command : List ℕ → Command → Bool
is_command bytes command = slice_index bytes 0 == number_of command

-- how many answers may wait where one more Request is taken: of a neighbor that has sent Responses, and of anybody else
abbrev pub most_answers : Bool → ℕ
most_answers is_known = if is_known then 1200 else 600

-- a Request of that address is answered: no answer to it waits, and not too many to others
abbrev pub is_answered : List Outgoing → Bool → ℕ → Bool
is_answered waiting is_known addr = not (owes waiting addr) && nat_lt (answers_in waiting) (most_answers is_known)

-- one of these is the address
abbrev pub is_among : List ℕ → ℕ → Bool
is_among known addr = list_any (λ other. other == addr) known

-- a datagram of that address is given to the router, where these wait to be sent, and these have sent Responses: any but a Request that
-- is not answered
abbrev pub is_taken : List Outgoing → List ℕ → ℕ → List ℕ → Bool
is_taken waiting known addr bytes = not (is_command bytes Request) || is_answered waiting (is_among known addr) addr

-- the first datagram that came is described so, and whether it is given to the router
abbrev pub Judges : List Outgoing → List ℕ → ℕ → List Datagram → List Datagram → List ℕ → Received → Bool → Type 0
Judges waiting known iface came left buffer r taken =
    Gives iface came left buffer r × (is_taken waiting known r.source (take r.len buffer) ≡ taken)

-- none came; or the first was a Request that is not answered: it is lost, and counted
abbrev pub GivesNone : List Outgoing → List ℕ → ℕ → List Datagram → List Datagram → List ℕ → ℕ → ℕ → Type 0
GivesNone waiting known iface came left buffer lost lost_after =
    ((came ≡ []) × (left ≡ []) × (lost_after ≡ lost))
    ⊎ ((r : Received) × Judges waiting known iface came left buffer r false × (lost_after ≡ min (lost + 1) (2 ^ 64 - 1)))

-- these without an address
abbrev pub others_than : List ℕ → ℕ → List ℕ
others_than known addr = filter (λ other. not (other == addr)) known

-- these, without the first where they are 64
abbrev pub with_room : List ℕ → List ℕ
with_room known = if nat_le 64 (length known) then drop 1 known else known

-- of those that have sent Responses the last 64, each once, where this address is the last
abbrev pub with_last : List ℕ → ℕ → List ℕ
with_last known addr = with_room (others_than known addr) ++ addr ∷ []
