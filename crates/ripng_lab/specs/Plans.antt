-- What a wave makes happen: who ticks, and where each datagram comes, where routers are silent, links are cut and datagrams are lost.
use Rattle.std.specs.Prelude.{ℕ, ◌==◌, ◌&&◌, not, Bool, true, false, List, [], ◌∷◌, ◌++◌, map, filter, Option, option_map, option_and_then, slice_get}
use Rattle.ripng_lab.specs.Below.{list_any, range_with_len, option_map_or, Destination, Group, Peer, is_other, LabValue, link_at, router_of, Event, Deliver, Tick, Sent, Outages, Ticking, Nobody, One, All, Due, Wave}

-- ---- outages

abbrev pub is_silent : Outages → ℕ → Bool
is_silent outages router = list_any (λ r. r == router) outages.silent.items

abbrev pub is_cut : Outages → ℕ → Bool
is_cut outages link = list_any (λ l. l == link) outages.cut.items

-- the list with a member, or without it; all others stay
abbrev pub with_member : Bool → ℕ → List ℕ → List ℕ
with_member true x xs = filter (λ y. not (y == x)) xs ++ x ∷ []
with_member false x xs = filter (λ y. not (y == x)) xs

-- whether a datagram is among those that are lost
abbrev pub is_lost : List ℕ → ℕ → Bool
is_lost lost datagram = list_any (λ d. d == datagram) lost

-- whether an event brings a datagram that is lost
abbrev pub brings_lost : List ℕ → Event → Bool
brings_lost lost (Deliver datagram router iface now) = is_lost lost datagram
brings_lost lost _ = false

-- ---- ticks

-- every router that is not silent ticks once, in order, with the word 0
abbrev pub all_ticks : Outages → ℕ → ℕ → List Event
all_ticks outages routers now = filter (λ e. not (is_silent outages (router_of e))) (map (λ router. Tick router now 0) (range_with_len 0 routers))

abbrev pub ticks_by : Ticking → ℕ → Outages → ℕ → List Event
ticks_by Nobody now outages routers = []
ticks_by (One router word) now outages routers = Tick router now word ∷ []
ticks_by All now outages routers = all_ticks outages routers now
ticks_by (Due round) now outages routers = all_ticks outages routers now

-- the ticks of a wave, of a network of so many routers
abbrev pub ticks_of : Wave → Outages → ℕ → List Event
ticks_of wave outages routers = ticks_by wave.ticking wave.moment outages routers

-- ---- deliveries

abbrev pub first_by : Ticking → ℕ → ℕ → ℕ
first_by Nobody unheard sent = unheard
first_by (One router word) unheard sent = sent
first_by All unheard sent = sent
first_by (Due round) unheard sent = sent

-- the first datagram of a wave: the first that was not passed by, or, after ticks, the first of them
abbrev pub first_of : Wave → ℕ → ℕ → ℕ
first_of wave unheard sent = first_by wave.ticking unheard sent

-- the link of a datagram is cut
abbrev pub is_on_cut : Outages → LabValue → Sent → Bool
is_on_cut outages lab d = option_map_or (λ link. is_cut outages link) (link_at lab.network d.router d.iface) false

-- neither router is silent, and the sender's link is not cut
abbrev pub takes_part : Outages → LabValue → Sent → ℕ → Bool
takes_part outages lab d router = not (is_silent outages d.router) && not (is_silent outages router) && not (is_on_cut outages lab d)

-- the address of an interface, as its router has it
abbrev pub addr_at : LabValue → ℕ → ℕ → Option ℕ
addr_at lab router iface = option_and_then (λ s. option_map (λ i. i.addr) (slice_get s.config.interfaces iface)) (slice_get lab.world.states router)

-- whether a datagram is for an interface: one to an asker is for that of its address alone
abbrev pub is_meant : LabValue → Destination → ℕ → ℕ → Bool
is_meant lab Group router iface = true
is_meant lab (Peer addr port) router iface = option_map_or (λ own. own == addr) (addr_at lab router iface) false

-- a datagram reaches another interface of its link, if all take part and it is meant
abbrev pub reaches : Outages → LabValue → Sent → ℕ → ℕ → Bool
reaches outages lab d router iface = is_other lab.network d (router, iface) && takes_part outages lab d router && is_meant lab d.to router iface
