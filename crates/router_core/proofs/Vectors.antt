-- The definitions of one step, computed on worked examples. Router A has interface 0, fe80::1, with an MTU of 1280, and
-- interface 1, fe80::1:1, with one of 1500, each of cost 1; it owns nothing. What follows from each example was worked
-- out by hand from the rules of RFC 2080 and of docs/PROTOCOL.md.
use Rattle.std.specs.Prelude.{◌≡◌, ℕ, ◌+◌, ◌*◌, ◌^◌, Bool, true, false, List, [], ◌∷◌, map, length, fold, refl, Some, None}
use Rattle.prefix6.specs.Prefix.{Prefix6}
use Rattle.ripng_wire.specs.declared.rte.Rte.{Rte}
use Rattle.ripng_wire.specs.declared.error.WireError.TheVariants.{Short, Ragged, BadCommand, BadVersion, NotZero}
use Rattle.ripng_wire.specs.Layout.{entry_bytes, entries_for_mtu}
use Rattle.fib.specs.declared.change.Hop.TheVariants.{Direct, Via}
use Rattle.fib.specs.declared.change.RouteChange.TheVariants.{Install, Withdraw}
use Rattle.route_table.specs.Route.{RouteValue}
use Rattle.route_table.specs.declared.route.Origin.TheVariants.{Learned}
use Rattle.route_table.specs.declared.route.Clock.TheVariants.{Live, Dying}
use Rattle.router_core.specs.Config.{Config}
use Rattle.router_core.specs.Received.{Received}
use Rattle.router_core.specs.Faults.{fault}
use Rattle.router_core.specs.Offers.{Offer, offers, flaw, prefix_named}
use Rattle.router_core.specs.Adoption.{Gateway, adopted}
use Rattle.router_core.specs.Ageing.{aged}
use Rattle.router_core.specs.Changes.{change}
use Rattle.router_core.specs.Owning.{owned_route}
use Rattle.router_core.specs.Timers.{next_regular, next_hold}
use Rattle.router_core.specs.Output.{pieces, numbers_below, filled, told_entry, whole_table_request, asks_for_all, start_messages}
use Rattle.router_core.specs.declared.arrival.Fault.TheVariants.{Wire, NotRipngPort, NotLinkLocal, OwnAddress, HopLimit, EmptyRequest, BadSource}
use Rattle.router_core.specs.declared.answer.Destination.TheVariants.{Group}
use Rattle.ripng_wire.specs.declared.rte.Command.TheVariants.{Request}
use Rattle.router_core.specs.declared.answer.NoteKind.TheVariants.{BadLength, BadPrefix, BadMetric}

-- fe80::n
abbrev pub local : ℕ → ℕ
local n = 0xfe80_0000_0000_0000_0000_0000_0000_0000 + n

abbrev pub router_a : Config
router_a =
    record {
      interfaces = record { addr = local 1; cost = 1; mtu = 1280; zone = 0 } ∷ record { addr = local 0x1_0001; cost = 1; mtu = 1500; zone = 0 } ∷ [];
      prefixes = [];
      quiet = false;
      filters = [];
      limits = [];
      passive = [];
      announcements = [];
    }

-- 2001:db8::/32, and an entry that names it with bits past the length
abbrev pub doc : Prefix6
doc = record { addr = 0x2001_0db8_0000_0000_0000_0000_0000_0000; len = 32 }

abbrev pub doc_entry : ℕ → Rte
doc_entry metric = record { addr = 0x2001_0db8_ffff_0000_0000_0000_0000_0000; tag = 0; len = 32; metric = metric }

-- from fe80::n on interface 0
abbrev pub from : ℕ → ℕ → Gateway
from n now = record { iface = 0; cost = 1; from = local n; moment = now }

-- by fe80::n
abbrev pub offer : ℕ → ℕ → Offer
offer n metric = record { metric = metric; tag = 0; next_hop = local n; place = 0 }

-- from and via fe80::n on interface 0, live
abbrev pub held : ℕ → ℕ → ℕ → Bool → RouteValue
held metric n until marked =
    record { metric = metric; tag = 0; origin = Learned 0 (local n) (local n); clock = Live until; changed = marked }

abbrev pub learned : ℕ → ℕ → Bool → RouteValue
learned n until marked = held 2 n until marked

-- learned from fe80::2, and lost
abbrev pub gone : ℕ → RouteValue
gone until = record { metric = 16; tag = 0; origin = Learned 0 (local 2) (local 2); clock = Dying until; changed = true }

-- ---- adoption (RFC 2080, 2.4.2): no route

first_heard : adopted (from 2 0) None (offer 2 1) ≡ Some (learned 2 180_000 true)
first_heard = refl

farthest_usable : adopted (from 2 0) None (offer 2 14) ≡ Some (held 15 2 180_000 true)
farthest_usable = refl

too_far : adopted (from 2 0) None (offer 2 15) ≡ None
too_far = refl

unreachable : adopted (from 2 0) None (offer 2 16) ≡ None
unreachable = refl

-- by a dear interface 14 + 3 is infinity
too_dear : adopted (record (from 2 0) { cost = 3 }) None (offer 2 14) ≡ None
too_dear = refl

-- ---- an own route

own_stays : adopted (from 2 0) (Some (owned_route 7)) (offer 2 1) ≡ Some (owned_route 7)
own_stays = refl

own_stays_at_infinity : adopted (from 2 0) (Some (owned_route 7)) (offer 2 16) ≡ Some (owned_route 7)
own_stays_at_infinity = refl

-- ---- a live route and its own gateway

withdrawn_by_gateway : adopted (from 2 1_000) (Some (learned 2 180_000 true)) (offer 2 16) ≡ Some (gone 121_000)
withdrawn_by_gateway = refl

withdrawn_by_distance : adopted (from 2 1_000) (Some (learned 2 180_000 false)) (offer 2 15) ≡ Some (gone 121_000)
withdrawn_by_distance = refl

rises : adopted (from 2 1_000) (Some (learned 2 180_000 false)) (offer 2 5) ≡ Some (held 6 2 181_000 true)
rises = refl

falls : adopted (from 2 1_000) (Some (held 6 2 180_000 false)) (offer 2 1) ≡ Some (learned 2 181_000 true)
falls = refl

repeated_unmarked : adopted (from 2 1_000) (Some (learned 2 180_000 false)) (offer 2 1) ≡ Some (learned 2 181_000 false)
repeated_unmarked = refl

repeated_marked : adopted (from 2 1_000) (Some (learned 2 180_000 true)) (offer 2 1) ≡ Some (learned 2 181_000 true)
repeated_marked = refl

other_tag : adopted (from 2 1_000) (Some (learned 2 180_000 false)) (record (offer 2 1) { tag = 7 })
    ≡ Some (record (learned 2 181_000 true) { tag = 7 })
other_tag = refl

other_next_hop : adopted (from 2 1_000) (Some (learned 2 180_000 false)) (offer 9 1)
    ≡ Some (record (learned 2 181_000 true) { origin = Learned 0 (local 2) (local 9) })
other_next_hop = refl

-- ---- a live route and another gateway

lower_at_once : adopted (from 3 1) (Some (held 3 2 180_000 false)) (offer 3 1) ≡ Some (learned 3 180_001 true)
lower_at_once = refl

higher_never : adopted (from 3 179_999) (Some (learned 2 180_000 false)) (offer 3 2) ≡ Some (learned 2 180_000 false)
higher_never = refl

infinity_of_another : adopted (from 3 179_999) (Some (learned 2 180_000 false)) (offer 3 16) ≡ Some (learned 2 180_000 false)
infinity_of_another = refl

equal_too_early : adopted (from 3 60_000) (Some (learned 2 180_000 true)) (offer 3 1) ≡ Some (learned 2 180_000 true)
equal_too_early = refl

equal_just_too_early : adopted (from 3 89_999) (Some (learned 2 180_000 true)) (offer 3 1) ≡ Some (learned 2 180_000 true)
equal_just_too_early = refl

equal_half_way : adopted (from 3 90_000) (Some (learned 2 180_000 true)) (offer 3 1) ≡ Some (learned 3 270_000 true)
equal_half_way = refl

-- one address on two interfaces is two gateways
other_interface : adopted (record (from 2 1) { iface = 1 }) (Some (learned 2 180_000 false)) (offer 2 5) ≡ Some (learned 2 180_000 false)
other_interface = refl

-- ---- a dying route

still_gone : adopted (from 2 50_000) (Some (gone 121_000)) (offer 2 16) ≡ Some (gone 121_000)
still_gone = refl

back_by_another : adopted (from 3 50_001) (Some (gone 121_000)) (offer 3 1) ≡ Some (learned 3 230_001 true)
back_by_another = refl

back_by_itself : adopted (from 2 50_001) (Some (gone 121_000)) (offer 2 1) ≡ Some (learned 2 230_001 true)
back_by_itself = refl

-- ---- several offers for one prefix in one datagram: metrics 5, 3 and 16

one_after_another : fold (adopted (from 2 0)) None (offer 2 5 ∷ offer 2 3 ∷ offer 2 16 ∷ []) ≡ Some (gone 120_000)
one_after_another = refl

-- ---- ageing (RFC 2080, 2.3)

live : aged 179_999 (learned 2 180_000 true) ≡ Some (learned 2 180_000 true)
live = refl

expired : aged 180_000 (learned 2 180_000 false) ≡ Some (gone 300_000)
expired = refl

dying : aged 299_999 (gone 300_000) ≡ Some (gone 300_000)
dying = refl

deleted : aged 300_000 (gone 300_000) ≡ None
deleted = refl

own_never_ages : aged (2 ^ 60) (owned_route 0) ≡ Some (owned_route 0)
own_never_ages = refl

-- ---- changes: where the forwarding entry differs

installed : change doc None (Some (learned 2 180_000 true)) ≡ Some (Install doc (Via 0 (local 2)) 2)
installed = refl

own_installed : change doc None (Some (owned_route 7)) ≡ Some (Install doc Direct 1)
own_installed = refl

withdrawn : change doc (Some (learned 2 180_000 true)) (Some (gone 121_000)) ≡ Some (Withdraw doc)
withdrawn = refl

no_second_withdrawal : change doc (Some (gone 121_000)) None ≡ None
no_second_withdrawal = refl

refreshed_unchanged : change doc (Some (learned 2 180_000 false)) (Some (learned 2 181_000 false)) ≡ None
refreshed_unchanged = refl

other_gateway_other_hop : change doc (Some (learned 2 180_000 false)) (Some (learned 3 270_000 true)) ≡ Some (Install doc (Via 0 (local 3)) 2)
other_gateway_other_hop = refl

-- ---- next hop entries (RFC 2080, 2.1.1)

one_entry : offers router_a (local 2) (doc_entry 1 ∷ []) doc ≡ offer 2 1 ∷ []
one_entry = refl

abbrev next_hop_entry : ℕ → Rte
next_hop_entry a = record { addr = a; tag = 0; len = 0; metric = 255 }

-- 2001:db8:n::/48
abbrev numbered : ℕ → Rte
numbered n = record { addr = doc.addr + n * 2 ^ 80; tag = 0; len = 48; metric = 1 }

-- a neighbor's address, and one that is not link-local
abbrev two_hops : List Rte
two_hops = next_hop_entry (local 9) ∷ numbered 1 ∷ next_hop_entry (doc.addr + 1) ∷ numbered 2 ∷ []

by_the_neighbor : offers router_a (local 2) two_hops (prefix_named (numbered 1)) ≡ record { metric = 1; tag = 0; next_hop = local 9; place = 1 } ∷ []
by_the_neighbor = refl

by_the_source : offers router_a (local 2) two_hops (prefix_named (numbered 2)) ≡ record { metric = 1; tag = 0; next_hop = local 2; place = 3 } ∷ []
by_the_source = refl

not_by_itself : offers router_a (local 2) (next_hop_entry (local 1) ∷ numbered 1 ∷ []) (prefix_named (numbered 1))
    ≡ record { metric = 1; tag = 0; next_hop = local 2; place = 1 } ∷ []
not_by_itself = refl

not_by_the_unspecified : offers router_a (local 2) (next_hop_entry (local 9) ∷ next_hop_entry 0 ∷ numbered 1 ∷ []) (prefix_named (numbered 1))
    ≡ record { metric = 1; tag = 0; next_hop = local 2; place = 2 } ∷ []
not_by_the_unspecified = refl

-- ---- tests of an entry, in their order

abbrev entry : ℕ → ℕ → ℕ → Rte
entry addr len metric = record { addr = addr; tag = 0; len = len; metric = metric }

flaws : map flaw
    (entry doc.addr 129 1 ∷ entry (0xff02 * 2 ^ 112) 16 1 ∷ entry (0xfec0 * 2 ^ 112) 9 1 ∷ entry doc.addr 48 0 ∷ entry doc.addr 48 17
    ∷ entry doc.addr 48 1 ∷ entry doc.addr 128 16 ∷ [])
    ≡ Some BadLength ∷ Some BadPrefix ∷ Some BadPrefix ∷ Some BadMetric ∷ Some BadMetric ∷ None ∷ None ∷ []
flaws = refl

-- the length before the prefix, the prefix before the metric
first_flaws : map flaw (entry (0xff02 * 2 ^ 112) 129 0 ∷ entry (0xff02 * 2 ^ 112) 16 0 ∷ []) ≡ Some BadLength ∷ Some BadPrefix ∷ []
first_flaws = refl

-- ---- tests of an arrival, in their order

abbrev doc_bytes : List ℕ
doc_bytes = 2 ∷ 1 ∷ 0 ∷ 0 ∷ entry_bytes (record (doc_entry 1) { addr = doc.addr })

-- the whole-table Request
abbrev ask_bytes : List ℕ
ask_bytes = 1 ∷ 1 ∷ 0 ∷ 0 ∷ entry_bytes whole_table_request

abbrev came : ℕ → ℕ → ℕ → Bool → List ℕ → Received
came source port hop_limit group bytes =
    record { now = 0; iface = 0; source = source; source_port = port; hop_limit = hop_limit; to_group = group; bytes = bytes }

faults_of_responses : map (fault router_a)
    (came (local 2) 521 255 true doc_bytes ∷ came (local 2) 522 255 true doc_bytes ∷ came (doc.addr + 2) 521 255 true doc_bytes
    ∷ came (local 1) 521 255 true doc_bytes ∷ came (local 2) 521 254 true doc_bytes ∷ came (local 2) 521 254 false doc_bytes
    ∷ came (doc.addr + 2) 522 254 true doc_bytes ∷ came (local 1) 521 254 true doc_bytes ∷ [])
    ≡ None ∷ Some NotRipngPort ∷ Some NotLinkLocal ∷ Some OwnAddress ∷ Some HopLimit ∷ None ∷ Some NotRipngPort ∷ Some OwnAddress ∷ []
unfolding entry_bytes
faults_of_responses = refl

faults_of_requests : map (fault router_a)
    (came (local 2) 521 255 true (1 ∷ 1 ∷ 0 ∷ 0 ∷ []) ∷ came (local 2) 521 255 true ask_bytes ∷ came (local 2) 521 254 true ask_bytes
    ∷ came (doc.addr + 2) 521 255 false ask_bytes ∷ came (doc.addr + 0x99) 2000 3 true ask_bytes ∷ came (0xff02 * 2 ^ 112 + 9) 2000 3 true ask_bytes
    ∷ came 0 2000 3 true ask_bytes ∷ came (local 2) 0 255 true ask_bytes ∷ [])
    ≡ Some EmptyRequest ∷ None ∷ Some HopLimit ∷ Some NotLinkLocal ∷ None ∷ Some BadSource ∷ Some BadSource ∷ Some BadSource ∷ []
unfolding entry_bytes
faults_of_requests = refl

-- what is no datagram is refused before all else
faults_of_bytes : map (λ bytes. fault router_a (came (local 1) 522 254 true bytes))
    ([] ∷ (2 ∷ 1 ∷ 0 ∷ []) ∷ (3 ∷ 2 ∷ 0 ∷ 1 ∷ 0 ∷ []) ∷ (3 ∷ 2 ∷ 0 ∷ 1 ∷ []) ∷ (2 ∷ 2 ∷ 0 ∷ 1 ∷ []) ∷ (2 ∷ 1 ∷ 0 ∷ 1 ∷ []) ∷ [])
    ≡ Some (Wire Short) ∷ Some (Wire Short) ∷ Some (Wire Ragged) ∷ Some (Wire BadCommand) ∷ Some (Wire BadVersion) ∷ Some (Wire NotZero) ∷ []
faults_of_bytes = refl

-- ---- answers (RFC 2080, 2.4.1): what was asked, but for the metric, and the tag of a route

answered : filled (record { addr = doc.addr + 2 ^ 80; tag = 0x1234; len = 32; metric = 0 }) (Some (learned 2 180_000 true))
    ≡ record { addr = doc.addr + 2 ^ 80; tag = 0; len = 32; metric = 2 }
answered = refl

not_found : filled (record { addr = doc.addr; tag = 0x1234; len = 200; metric = 0 }) None
    ≡ record { addr = doc.addr; tag = 0x1234; len = 200; metric = 16 }
not_found = refl

-- the whole table is asked for by one entry alone, whatever its tag
whole_tables : map asks_for_all
    ((whole_table_request ∷ []) ∷ (record whole_table_request { tag = 7 } ∷ []) ∷ (whole_table_request ∷ whole_table_request ∷ [])
    ∷ (record whole_table_request { metric = 1 } ∷ []) ∷ (record whole_table_request { addr = 1 } ∷ []) ∷ [] ∷ [])
    ≡ true ∷ true ∷ false ∷ false ∷ false ∷ false ∷ []
whole_tables = refl

-- ---- poisoned reverse (RFC 2080, 2.6)

poisoned : told_entry 0 (doc, learned 2 180_000 true) ≡ record { addr = doc.addr; tag = 0; len = 32; metric = 16 }
poisoned = refl

told_elsewhere : told_entry 1 (doc, learned 2 180_000 true) ≡ record { addr = doc.addr; tag = 0; len = 32; metric = 2 }
told_elsewhere = refl

own_is_never_poisoned : told_entry 0 (doc, owned_route 7) ≡ record { addr = doc.addr; tag = 7; len = 32; metric = 1 }
own_is_never_poisoned = refl

-- ---- cutting (RFC 2080, 2.1)

rooms : map entries_for_mtu (1280 ∷ 1299 ∷ 1300 ∷ 1500 ∷ 65535 ∷ []) ≡ 61 ∷ 62 ∷ 62 ∷ 72 ∷ 3274 ∷ []
rooms = refl

-- how long the pieces of so many entries are, by an MTU
abbrev cut_lengths : ℕ → ℕ → List ℕ
cut_lengths mtu n = map (λ piece. length piece) (pieces (entries_for_mtu mtu) (numbers_below n))

sixty_two : cut_lengths 1280 62 ≡ 61 ∷ 1 ∷ []
sixty_two = refl

sixty_one : cut_lengths 1280 61 ≡ 61 ∷ []
sixty_one = refl

sixty_two_elsewhere : cut_lengths 1500 62 ≡ 62 ∷ []
sixty_two_elsewhere = refl

none_to_send : cut_lengths 1280 0 ≡ []
none_to_send = refl

four_and_one : pieces {X = ℕ} 2 (1 ∷ 2 ∷ 3 ∷ 4 ∷ 5 ∷ []) ≡ (1 ∷ 2 ∷ []) ∷ (3 ∷ 4 ∷ []) ∷ (5 ∷ []) ∷ []
four_and_one = refl

-- ---- start, and the moments of updates

start_requests : start_messages router_a
    ≡ record { iface = 0; to = Group; command = Request; entries = entry 0 0 16 ∷ [] }
    ∷ record { iface = 1; to = Group; command = Request; entries = entry 0 0 16 ∷ [] } ∷ []
start_requests = refl

quiet_start : start_messages (record router_a { quiet = true }) ≡ []
quiet_start = refl

passive_start : start_messages (record router_a { passive = 0 ∷ [] }) ≡ record { iface = 1; to = Group; command = Request; entries = entry 0 0 16 ∷ [] } ∷ []
passive_start = refl

intervals : map (next_regular 0) (0 ∷ 30_000 ∷ 30_001 ∷ []) ≡ 15_000 ∷ 45_000 ∷ 15_000 ∷ []
intervals = refl

holds : map (next_hold 0) (0 ∷ 4_000 ∷ 4_001 ∷ []) ≡ 1_000 ∷ 5_000 ∷ 1_000 ∷ []
holds = refl
