-- The configuration of a router, and which configurations are accepted. The reasons, their order and their names are this
-- project's choice; the ranges are those of RFC 2080, 2.1 and 2.4.2.
use Rattle.std.specs.Prelude.{◌≡◌, ℕ, ◌==◌, ◌&&◌, not, nat_lt, nat_le, Bool, List, [], ◌∷◌, ◌++◌, length, take, flat_map, Option, None, All, unwrap_or, option_map, slice_get, codes}
use Rattle.std.specs.List.{list_any, enumerate_from}
use Rattle.prefix6.specs.Addr.{is_link_local}
use Rattle.prefix6.specs.Prefix.{Prefix6, IsPrefix, same_prefix, is_routable}
use Rattle.ripng_wire.specs.Wire.{first_reason}
use Rattle.route_table.specs.Route.{infinity}
use Rattle.router_core.specs.declared.config.ConfigRefused.{ConfigRefused}
use Rattle.router_core.specs.declared.config.ConfigRefused.TheVariants.{NoInterface, TooManyInterfaces, AddressNotLinkLocal, AddressTwice, BadCost, BadMtu, TooManyPrefixes, PrefixTwice, PrefixNotAllowed}
use Rattle.router_core.specs.declared.config.Interface.{Interface}
use Rattle.router_core.specs.declared.filter.Filter.{Filter}
use Rattle.router_core.specs.declared.filter.Limit.{Limit}

-- the configuration of a router
pub record Config : Type 0 where
  pub interfaces : List Interface
  pub prefixes : List (Prefix6 × ℕ)  -- with their tags
  pub quiet : Bool
  pub filters : List Filter  -- of what comes in
  pub limits : List Limit
  pub passive : List ℕ  -- the passive interfaces; all are where the router is quiet
  pub announcements : List Filter  -- of what goes out

-- a configuration of these parts, without passive interfaces and filters of what goes out; a quiet router is passive
abbrev pub config_with : List Interface → List (Prefix6 × ℕ) → Bool → List Filter → List Limit → Config
config_with interfaces prefixes quiet filters limits = record {
  interfaces = interfaces;
  prefixes = prefixes;
  quiet = quiet;
  filters = filters;
  limits = limits;
  passive = [];
  announcements = [];
}

-- the same with these passive interfaces and filters of what goes out
abbrev pub announcing : Config → List ℕ → List Filter → Config
announcing config passive announcements = record config { passive = passive; announcements = announcements }

-- a configuration without filters and limits
abbrev pub config : List Interface → List (Prefix6 × ℕ) → Bool → Config
config interfaces prefixes quiet = config_with interfaces prefixes quiet [] []

-- the cost of an interface in hops; over one that is not there nothing is reachable
abbrev pub cost_at : Config → ℕ → ℕ
cost_at config iface = unwrap_or (option_map (λ i. i.cost) (slice_get config.interfaces iface)) infinity

-- the MTU of an interface in bytes, or the least MTU of IPv6
abbrev pub mtu_at : Config → ℕ → ℕ
mtu_at config iface = unwrap_or (option_map (λ i. i.mtu) (slice_get config.interfaces iface)) 1280

-- whether an interface of the zone has the address (RFC 4007, 6)
abbrev pub has_address : List Interface → ℕ → ℕ → Bool
has_address interfaces zone a = list_any (λ i. i.zone == zone && i.addr == a) interfaces

-- the zone of an interface
abbrev pub zone_at : Config → ℕ → ℕ
zone_at config iface = unwrap_or (option_map (λ i. i.zone) (slice_get config.interfaces iface)) 0

-- whether the prefix is owned, with any tag
abbrev pub has_prefix : List (Prefix6 × ℕ) → Prefix6 → Bool
has_prefix owned p = list_any (λ t. same_prefix t.0 p) owned

-- whether the address is the router's own on the link of an interface: that of an interface in its zone
abbrev pub is_own_address : Config → ℕ → ℕ → Bool
is_own_address config iface a = has_address config.interfaces (zone_at config iface) a

-- whether the address is that of an interface, on whatever link
abbrev pub is_address_of_one : Config → ℕ → Bool
is_address_of_one config a = list_any (λ i. i.addr == a) config.interfaces

-- the most interfaces of a router
abbrev pub interface_limit : ℕ
interface_limit = 256

-- the most prefixes that a router owns
abbrev pub owned_limit : ℕ
owned_limit = 1_024

-- ---- which configurations are accepted: each reason stands with whether it applies

-- a cost of 1 to 15 hops (RFC 2080, 2.1)
abbrev pub is_usable_cost : ℕ → Bool
is_usable_cost cost = nat_le 1 cost && nat_lt cost infinity

-- from the least MTU of IPv6 (RFC 8200, 5) to the longest datagram of UDP (RFC 768)
abbrev pub is_usable_mtu : ℕ → Bool
is_usable_mtu mtu = nat_le 1280 mtu && nat_le mtu 65535

-- the reasons to refuse an interface that follows earlier ones
abbrev pub interface_reasons : List Interface → Interface → List (Bool × ConfigRefused)
interface_reasons earlier i =
    (not (is_link_local i.addr), AddressNotLinkLocal)
    ∷ (has_address earlier i.zone i.addr, AddressTwice)
    ∷ (not (is_usable_cost i.cost), BadCost)
    ∷ (not (is_usable_mtu i.mtu), BadMtu)
    ∷ []

-- the reasons to refuse an owned prefix that follows earlier ones
abbrev pub prefix_reasons : List (Prefix6 × ℕ) → Prefix6 × ℕ → List (Bool × ConfigRefused)
prefix_reasons earlier t =
    (has_prefix earlier t.0, PrefixTwice)
    ∷ (not (is_routable t.0), PrefixNotAllowed)
    ∷ []

-- the reasons to refuse each member of a list that follows the earlier ones, in order
abbrev pub reasons_of_each : {X F : Type 0} → (List X → X → List (Bool × F)) → List X → List (Bool × F)
reasons_of_each reasons xs = flat_map (λ t. reasons (take t.0 xs) t.1) (enumerate_from 0 xs)

-- all reasons to refuse a configuration, in their order
abbrev pub config_reasons : Config → List (Bool × ConfigRefused)
config_reasons c =
    (length c.interfaces == 0, NoInterface)
    ∷ (nat_lt interface_limit (length c.interfaces), TooManyInterfaces)
    ∷ reasons_of_each interface_reasons c.interfaces
    ++ (nat_lt owned_limit (length c.prefixes), TooManyPrefixes)
    ∷ reasons_of_each prefix_reasons c.prefixes

-- why a configuration is refused, if it is: the first reason that applies
abbrev pub config_fault : Config → Option ConfigRefused
config_fault c = first_reason (config_reasons c)

-- an accepted configuration: there is no reason to refuse it, and its prefixes are prefixes
pub record IsConfig (c : Config) : Type 0 where
  pub passes : config_fault c ≡ None
  pub prefixes : All (λ t. IsPrefix t.0) c.prefixes

-- a refusal as it is printed: `NUMBER NAME`
abbrev pub config_refused_text : ConfigRefused → List ℕ
config_refused_text NoInterface = codes "1 NoInterface"
config_refused_text TooManyInterfaces = codes "2 TooManyInterfaces"
config_refused_text AddressNotLinkLocal = codes "3 AddressNotLinkLocal"
config_refused_text AddressTwice = codes "4 AddressTwice"
config_refused_text BadCost = codes "5 BadCost"
config_refused_text BadMtu = codes "6 BadMtu"
config_refused_text TooManyPrefixes = codes "7 TooManyPrefixes"
config_refused_text PrefixTwice = codes "8 PrefixTwice"
config_refused_text PrefixNotAllowed = codes "9 PrefixNotAllowed"
