-- How links carry datagrams, and what takes part in a run.
use Rattle.std.specs.Prelude.{◌≡◌, ℕ, ◌==◌, not, Bool, true, false, ◌&&◌, List, [], filter, Option, Some, None, option_map, option_and_then, unwrap_or, slice_get}
use Rattle.std.specs.BTreeMap.{get}
use Rattle.std.specs.Ordering.{nat_cmp}
use Rattle.ripng_clock.specs.Below.{list_any, State, Destination, Group, Peer, LabValue, World, interfaces_of, is_other, link_at, Sent, Carriage, Timetable}

-- what is asked of a run
pub record Asked : Type 0 where
  pub until : ℕ
  pub first : ℕ  -- the number of the first datagram that sets out
  pub silent : List ℕ
  pub cut : List ℕ
  pub lost : List ℕ

-- the number is none of these
abbrev pub is_none_of : List ℕ → ℕ → Bool
is_none_of numbers number = not (list_any (λ other. other == number) numbers)

-- the router ticks and receives
abbrev pub takes_part : Asked → ℕ → Bool
takes_part asked router = is_none_of asked.silent router

-- everything takes part
abbrev pub AllTakePart : Asked → Type 0
AllTakePart asked = (asked.silent ≡ []) × (asked.cut ≡ []) × (asked.lost ≡ [])

-- a datagram of that number gets on its way: it is not lost, its sender is not silent, and its link is not cut
abbrev pub is_carried : Asked → LabValue → ℕ → Sent → Bool
is_carried asked lab datagram d =
    is_none_of asked.lost datagram && takes_part asked d.router && unwrap_or (option_map (is_none_of asked.cut) (link_at lab.network d.router d.iface)) true

-- at once, and without loss
abbrev pub prompt : Carriage
prompt = record { delay_ms = 0; loss = 0 }

-- how a link carries datagrams
abbrev pub carriage_on : Timetable → ℕ → Carriage
carriage_on timetable link = unwrap_or (get nat_cmp timetable.links link) prompt

-- how the link of a datagram carries it
abbrev pub carriage_of : Timetable → LabValue → Sent → Carriage
carriage_of timetable lab d = unwrap_or (option_map (carriage_on timetable) (link_at lab.network d.router d.iface)) prompt

-- the address of a router's interface
abbrev pub address_in : World → ℕ → ℕ → Option ℕ
address_in w router iface = option_map (λ i. i.addr) (option_and_then (λ (s : State). slice_get s.config.interfaces iface) (slice_get w.states router))

-- the two are one address
abbrev pub is_address : ℕ → Option ℕ → Bool
is_address addr None = false
is_address addr (Some other) = addr == other

-- a datagram is for an interface: it goes to the group of its link, or to the interface's own address
abbrev pub is_for : World → Destination → ℕ → ℕ → Bool
is_for w Group router iface = true
is_for w (Peer addr port) router iface = is_address addr (address_in w router iface)

-- where a datagram comes, if nothing is lost: the other interfaces of its link that it is for, of routers that take part
abbrev pub receivers_of : Asked → LabValue → Sent → List (ℕ × ℕ)
receivers_of asked lab d =
    filter (λ at. takes_part asked at.0 && is_for lab.world d.to at.0 at.1) (filter (is_other lab.network d) (interfaces_of lab.network))
