-- The rules of adoption: what an offer does to the route to its prefix (RFC 2080, 2.4.2).
use Rattle.std.specs.Prelude.{ℕ, ◌+◌, min, ◌==◌, ◌&&◌, ◌||◌, not, nat_lt, nat_le, Bool, true, false, if◌then◌else◌, List, codes, Option, Some, None, option_map}
use Rattle.route_table.specs.Route.{RouteValue, infinity}
use Rattle.route_table.specs.declared.route.Origin.{Origin}
use Rattle.route_table.specs.declared.route.Origin.TheVariants.{Own, Learned}
use Rattle.route_table.specs.declared.route.Clock.{Clock}
use Rattle.route_table.specs.declared.route.Clock.TheVariants.{Fixed, Live, Dying}
use Rattle.router_core.specs.Offers.{Offer}
use Rattle.router_core.specs.declared.reason.Reason.{Reason}
use Rattle.router_core.specs.declared.reason.Reason.TheVariants.{Nothing, Added, Owned, GivenUp, Refreshed, Cheaper, Older, Dearer, Young, Revived, Gone}
use Rattle.router_core.specs.Timers.{timeout, half_timeout, garbage_time}

-- the sender of offers: the interface of arrival and its cost, its address, and the moment of arrival
pub record Gateway : Type 0 where
  pub iface : ℕ
  pub cost : ℕ
  pub from : ℕ
  pub moment : ℕ

-- the metric through the gateway: the cost is added, up to infinity (RFC 2080, 2.4.2)
abbrev pub metric_through : Gateway → Offer → ℕ
metric_through g o = min (o.metric + g.cost) infinity

-- a metric below infinity (RFC 2080, 2.1)
abbrev pub is_reachable : ℕ → Bool
is_reachable metric = nat_lt metric infinity

-- the route through the gateway, with its timeout started and its route change flag set (RFC 2080, 2.4.2)
abbrev pub taken : Gateway → Offer → RouteValue
taken g o =
    record {
      metric = metric_through g o;
      tag = o.tag;
      origin = Learned g.iface g.from o.next_hop;
      clock = Live (g.moment + timeout);
      changed = true;
    }

-- the route, withdrawn: unreachable, its route change flag set, and its garbage collection started (RFC 2080, 2.3)
abbrev pub lost : ℕ → RouteValue → RouteValue
lost now r = record r { metric = infinity; clock = Dying (now + garbage_time); changed = true }

-- whether a route of this origin was learned from the gateway
abbrev pub is_through : Gateway → Origin → Bool
is_through g Own = false
is_through g (Learned iface from next_hop) = iface == g.iface && from == g.from

-- whether a route of this origin has this next hop
abbrev pub has_next_hop : ℕ → Origin → Bool
has_next_hop h Own = false
has_next_hop h (Learned iface from next_hop) = next_hop == h

-- whether the offer repeats the route: same metric, tag and next hop
abbrev pub is_repeated : Gateway → Offer → RouteValue → Bool
is_repeated g o r = r.metric == metric_through g o && r.tag == o.tag && has_next_hop o.next_hop r.origin

-- a valid route after its own gateway has advertised the prefix again (RFC 2080, 2.4.2)
abbrev pub refreshed : Gateway → Offer → RouteValue → RouteValue
refreshed g o r =
    if is_reachable (metric_through g o)
    then record (taken g o) { changed = r.changed || not (is_repeated g o r) }
    else lost g.moment r

-- a lower metric wins at once, and an equal one when half of the timeout has passed (RFC 2080, 2.4.2)
abbrev pub is_preferred : Gateway → Offer → ℕ → ℕ → Bool
is_preferred g o metric until =
    nat_lt (metric_through g o) metric || (metric_through g o == metric && nat_le until (g.moment + half_timeout))

-- a route after the offer, by its clock: a local one stays (RFC 2080, 2.3 and 2.4.2)
abbrev pub adopted_by_clock : Gateway → Offer → RouteValue → Clock → RouteValue
adopted_by_clock g o r Fixed = r
adopted_by_clock g o r (Live until) =
    if is_through g r.origin then refreshed g o r else if is_preferred g o r.metric until then taken g o else r
adopted_by_clock g o r (Dying until) = if is_reachable (metric_through g o) then taken g o else r

-- the route, if any, after the offer: an unreachable prefix is not added (RFC 2080, 2.4.2)
abbrev pub adopted : Gateway → Option RouteValue → Offer → Option RouteValue
adopted g None o = if is_reachable (metric_through g o) then Some (taken g o) else None
adopted g (Some r) o = Some (adopted_by_clock g o r r.clock)

-- ---- which row of the table of adoption an offer falls under, and what that row says

-- the row of an offer whose gateway is not that of the valid route
abbrev pub reason_of_other : Gateway → Offer → ℕ → ℕ → Reason
reason_of_other g o metric until =
    if nat_lt (metric_through g o) metric then Cheaper
    else if nat_lt metric (metric_through g o) then Dearer
    else if nat_le until (g.moment + half_timeout) then Older else Young

-- the row of an offer where a route is held, by its clock
abbrev pub reason_by_clock : Gateway → Offer → RouteValue → Clock → Reason
reason_by_clock g o r Fixed = Owned
reason_by_clock g o r (Live until) =
    if is_through g r.origin
    then if is_reachable (metric_through g o) then Refreshed else GivenUp
    else reason_of_other g o r.metric until
reason_by_clock g o r (Dying until) = if is_reachable (metric_through g o) then Revived else Gone

-- the row that an offer falls under, given the route that is held
abbrev pub reason : Gateway → Option RouteValue → Offer → Reason
reason g None o = if is_reachable (metric_through g o) then Added else Nothing
reason g (Some r) o = reason_by_clock g o r r.clock

-- the route after an offer that falls under a row
abbrev pub by_reason : Reason → Gateway → Option RouteValue → Offer → Option RouteValue
by_reason Added g old o = Some (taken g o)
by_reason Cheaper g old o = Some (taken g o)
by_reason Older g old o = Some (taken g o)
by_reason Revived g old o = Some (taken g o)
by_reason Refreshed g old o = option_map (λ r. record (taken g o) { changed = r.changed || not (is_repeated g o r) }) old
by_reason GivenUp g old o = option_map (lost g.moment) old
by_reason Nothing g old o = old
by_reason Owned g old o = old
by_reason Dearer g old o = old
by_reason Young g old o = old
by_reason Gone g old o = old

-- the name of a row, as the variant is spelled
abbrev pub reason_name : Reason → List ℕ
reason_name Nothing = codes "Nothing"
reason_name Added = codes "Added"
reason_name Owned = codes "Owned"
reason_name GivenUp = codes "GivenUp"
reason_name Refreshed = codes "Refreshed"
reason_name Cheaper = codes "Cheaper"
reason_name Older = codes "Older"
reason_name Dearer = codes "Dearer"
reason_name Young = codes "Young"
reason_name Revived = codes "Revived"
reason_name Gone = codes "Gone"
