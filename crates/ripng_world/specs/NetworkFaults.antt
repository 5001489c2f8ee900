-- Which networks are refused. The reasons, their order and their names are this project's choice.
use Rattle.std.specs.Prelude.{ℕ, ◌==◌, nat_lt, not, Bool, List, [], ◌∷◌, ◌++◌, map, length, flat_map, Option, codes}
use Rattle.ripng_world.specs.Below.{list_any, first_reason, config_reasons, reasons_of_each, NetRefused, TooManyRouters, ZoneNamed, AddressSharedInNetwork, BadRouter}
use Rattle.ripng_world.specs.Network.{Network, Node, config_of}
use Rattle.ripng_world.specs.declared.network.NetRefused.TheVariants.{OutOfMemory}

-- the most routers of a network
abbrev pub router_limit : ℕ
router_limit = 4096

-- the reasons to refuse the configuration of a router with that number
abbrev pub faults_of_router : ℕ → Node → List (Bool × NetRefused)
faults_of_router number node = map (λ t. (t.0, BadRouter number t.1)) (config_reasons (config_of node))

-- a router is numbered by how many stand before it
abbrev pub router_reasons : List Node → Node → List (Bool × NetRefused)
router_reasons earlier node = faults_of_router (length earlier) node

-- an address after earlier ones
abbrev pub address_reasons : List ℕ → ℕ → List (Bool × NetRefused)
address_reasons earlier a = (list_any (λ b. b == a) earlier, AddressSharedInNetwork) ∷ []

-- the addresses of all interfaces
abbrev pub addresses : Network → List ℕ
addresses net = flat_map (λ node. map (λ i. i.interface.addr) node.interfaces) net

-- an interface of the router is in a zone other than 0
abbrev pub names_zone : Node → Bool
names_zone node = list_any (λ i. not (i.interface.zone == 0)) node.interfaces

-- all reasons to refuse a network, in their order
abbrev pub network_reasons : Network → List (Bool × NetRefused)
network_reasons net =
    (nat_lt router_limit (length net), TooManyRouters)
    ∷ (list_any names_zone net, ZoneNamed)
    ∷ reasons_of_each router_reasons net
    ++ reasons_of_each address_reasons (addresses net)

-- the first reason that applies
abbrev pub network_fault : Network → Option NetRefused
network_fault net = first_reason (network_reasons net)

-- the name of a refusal, and its number
abbrev pub net_refused_name : NetRefused → List ℕ × ℕ
net_refused_name TooManyRouters = (codes "TooManyRouters", 1)
net_refused_name AddressSharedInNetwork = (codes "AddressSharedInNetwork", 2)
net_refused_name (BadRouter router refusal) = (codes "BadRouter", 3)
net_refused_name OutOfMemory = (codes "OutOfMemory", 4)
net_refused_name ZoneNamed = (codes "ZoneNamed", 5)
