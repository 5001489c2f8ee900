-- Changes of the configuration of a running router. The reasons, their order and their names are this project's choice.
use Rattle.std.specs.Prelude.{ℕ, ◌<◌, ◌&&◌, not, nat_le, Bool, true, List, [], ◌∷◌, ◌++◌, length, filter, Option, Some, is_none, unwrap_or, option_map, slice_get, slice_set, codes, decimal, ⊤}
use Rattle.std.specs.List.{cons_option}
use Rattle.std.specs.FinMap as map_of
use Rattle.prefix6.specs.Prefix.{Prefix6, IsPrefix, is_routable, same_prefix}
use Rattle.fib.specs.declared.change.RouteChange.{RouteChange}
use Rattle.ripng_wire.specs.Wire.{first_reason}
use Rattle.route_table.specs.Route.{RouteValue}
use Rattle.route_table.specs.Table.{Table, table_limit, with_value}
use Rattle.router_core.specs.Adoption.{lost}
use Rattle.router_core.specs.Changes.{change}
use Rattle.router_core.specs.Config.{Config, has_prefix, is_usable_cost}
use Rattle.router_core.specs.Owning.{owned_route}
use Rattle.router_core.specs.declared.config.Interface.{Interface}
use Rattle.router_core.specs.Config.{owned_limit}
use Rattle.router_core.specs.declared.reconfiguring.Change.{Change}
use Rattle.router_core.specs.declared.reconfiguring.Change.TheVariants.{Cost, Own, Disown}
use Rattle.router_core.specs.declared.reconfiguring.ReconfigureRefused.{ReconfigureRefused}
use Rattle.router_core.specs.declared.reconfiguring.ReconfigureRefused.TheVariants.{BadCost, PrefixNotAllowed, AlreadyOwned, OwnedFull, NotOwned, TableFull, OutOfMemory}

-- a change of cost names an interface of the router
abbrev pub NamesInterface : Config → Change → Type 0
NamesInterface config (Cost iface cost) = iface < length config.interfaces
NamesInterface config _ = ⊤

-- a change of cost names an interface of the router, and the others name a prefix
abbrev pub IsNamed : Config → Change → Type 0
IsNamed config (Cost iface cost) = iface < length config.interfaces
IsNamed config (Own p tag) = IsPrefix p
IsNamed config (Disown p) = IsPrefix p

-- ---- which changes are refused: each reason stands with whether it applies

-- the reasons to refuse a change, in order
abbrev pub reconfigure_reasons : Config → Table → Change → List (Bool × ReconfigureRefused)
reconfigure_reasons config table (Cost iface cost) = (not (is_usable_cost cost), BadCost) ∷ []
reconfigure_reasons config table (Own p tag) =
    (not (is_routable p), PrefixNotAllowed)
    ∷ (has_prefix config.prefixes p, AlreadyOwned)
    ∷ (nat_le owned_limit (length config.prefixes), OwnedFull)
    ∷ (is_none (map_of.get table p) && nat_le table_limit (map_of.len table), TableFull)
    ∷ []
reconfigure_reasons config table (Disown p) = (not (has_prefix config.prefixes p), NotOwned) ∷ []

-- why a change is refused, if it is: the first reason that applies
abbrev pub reconfigure_fault : Config → Table → Change → Option ReconfigureRefused
reconfigure_fault config table c = first_reason (reconfigure_reasons config table c)

-- ---- what a change does

-- the interfaces with another cost of one of them
abbrev pub with_cost : List Interface → ℕ → ℕ → List Interface
with_cost interfaces iface cost =
    unwrap_or (option_map (λ i. slice_set interfaces iface (record i { cost = cost })) (slice_get interfaces iface)) interfaces

-- the owned prefixes except this one
abbrev pub without_prefix : List (Prefix6 × ℕ) → Prefix6 → List (Prefix6 × ℕ)
without_prefix owned p = filter (λ t. not (same_prefix t.0 p)) owned

-- the configuration after a change
abbrev pub reconfigured_config : Config → Change → Config
reconfigured_config config (Cost iface cost) = record config { interfaces = with_cost config.interfaces iface cost }
reconfigured_config config (Own p tag) = record config { prefixes = config.prefixes ++ (p, tag) ∷ [] }
reconfigured_config config (Disown p) = record config { prefixes = without_prefix config.prefixes p }

-- the local route to a prefix that is owned from now on; its route change flag is set (RFC 2080, 2.5.1)
abbrev pub newly_owned : ℕ → RouteValue
newly_owned tag = record (owned_route tag) { changed = true }

-- the route, if any, to a prefix that is no longer owned: it is withdrawn (RFC 2080, 2.3)
abbrev pub disowned : ℕ → Option RouteValue → Option RouteValue
disowned now old = option_map (lost now) old

-- the table after a change; a new cost applies only to later offers
abbrev pub reconfigured_table : ℕ → Table → Change → Table
reconfigured_table now table (Cost iface cost) = table
reconfigured_table now table (Own p tag) = with_value table p (Some (newly_owned tag))
reconfigured_table now table (Disown p) = with_value table p (disowned now (map_of.get table p))

-- the changes of forwarding entries
abbrev pub changes_of_reconfiguring : ℕ → Table → Change → List RouteChange
changes_of_reconfiguring now table (Cost iface cost) = []
changes_of_reconfiguring now table (Own p tag) = cons_option (change p (map_of.get table p) (Some (newly_owned tag))) []
changes_of_reconfiguring now table (Disown p) = cons_option (change p (map_of.get table p) (disowned now (map_of.get table p))) []

-- ---- refusals as numbers and names

-- the number of a refusal, as it is printed
abbrev pub reconfigure_number : ReconfigureRefused → ℕ
reconfigure_number BadCost = 31
reconfigure_number PrefixNotAllowed = 32
reconfigure_number AlreadyOwned = 33
reconfigure_number OwnedFull = 34
reconfigure_number NotOwned = 35
reconfigure_number TableFull = 36
reconfigure_number OutOfMemory = 37

-- the name of a refusal, as the variant is spelled
abbrev pub reconfigure_name : ReconfigureRefused → List ℕ
reconfigure_name BadCost = codes "BadCost"
reconfigure_name PrefixNotAllowed = codes "PrefixNotAllowed"
reconfigure_name AlreadyOwned = codes "AlreadyOwned"
reconfigure_name OwnedFull = codes "OwnedFull"
reconfigure_name NotOwned = codes "NotOwned"
reconfigure_name TableFull = codes "TableFull"
reconfigure_name OutOfMemory = codes "OutOfMemory"

-- a refusal as it is printed: `NUMBER NAME`
abbrev pub reconfigure_text : ReconfigureRefused → List ℕ
reconfigure_text why = decimal (reconfigure_number why) ++ (codes " " ++ reconfigure_name why)
