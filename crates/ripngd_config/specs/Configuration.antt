-- What a configuration's text makes a router run on, and why a text is refused.
use Rattle.std.specs.Prelude.{◌≡◌, ◌⊎◌, ◌+◌, ℕ, Bool, if◌then◌else◌, List, [], ◌∷◌, ◌++◌, length, map, Option, Some, None, unwrap_or, ⊤, IsUtf8}
use Rattle.ripngd_config.specs.Below.{Members, parse_document, pcg32_seed, pcg32_of_seed, Prefix6, Config as RouterConfig, IsConfig, announcing, config_with, config_fault, Interface, Action, Accept, Reject, Filter, Limit, ConfigFault, BadToml, OutOfMemory, Router, Place, Document, InterfaceTable, PrefixTable}
use Rattle.ripngd_config.specs.declared.range.Range.{Range}
use Rattle.ripngd_config.specs.Faults.{RefusesKey, TableHas}
use Rattle.ripngd_config.specs.Keys.{document_keys}
use Rattle.ripngd_config.specs.Tables.{IsDocument}
use Rattle.ripngd_config.specs.Twice.{AreAllPeersDistinct, AreGroupPortsApart, ArePortsDistinct, RefusesTwice}
use Rattle.ripngd_config.specs.declared.configuration.Config.{Config}

-- the interfaces of a document, without their peers
abbrev pub configured_interfaces : Document → List Interface
configured_interfaces d = map (λ t. t.interface) d.interfaces.items

-- an owned prefix, with the default tag if its table has none
abbrev pub owned_of : ℕ → PrefixTable → Prefix6 × ℕ
owned_of tag t = (t.prefix, unwrap_or t.tag tag)

-- its owned prefixes, with a default tag
abbrev pub owned_by : ℕ → Document → List (Prefix6 × ℕ)
owned_by tag d = map (owned_of tag) d.prefixes.items

-- where its interfaces stand
abbrev pub places_of : Document → List Place
places_of d = map (λ t. record { addr = t.interface.addr; socket = t.socket }) d.interfaces.items

-- a filter of an interface, for a range of its lists
abbrev pub filter_of : ℕ → Action → Range → Filter
filter_of iface action r = record { iface = iface; action = action; prefix = r.prefix; is_longer = r.is_longer }

-- the filters of an interface: those that accept, and those that reject
abbrev pub filters_at : ℕ → List Range → List Range → List Filter
filters_at iface accept reject = map (filter_of iface Accept) accept ++ map (filter_of iface Reject) reject

-- the filters of what comes in, of interfaces of which the first has this number
abbrev pub filters_from : ℕ → List InterfaceTable → List Filter
filters_from iface [] = []
filters_from iface (t ∷ ts) = filters_at iface t.accept.items t.reject.items ++ filters_from (iface + 1) ts

-- the limit of an interface, if it has one
abbrev pub limit_of : ℕ → Option ℕ → List Limit
limit_of iface None = []
limit_of iface (Some routes) = record { iface = iface; routes = routes } ∷ []

-- the limits of interfaces, of which the first has this number
abbrev pub limits_from : ℕ → List InterfaceTable → List Limit
limits_from iface [] = []
limits_from iface (t ∷ ts) = limit_of iface t.limit ++ limits_from (iface + 1) ts

-- the filters of what goes out, of interfaces of which the first has this number
abbrev pub announcements_from : ℕ → List InterfaceTable → List Filter
announcements_from iface [] = []
announcements_from iface (t ∷ ts) = filters_at iface t.announce.items t.announce_not.items ++ announcements_from (iface + 1) ts

-- the passive ones of interfaces, of which the first has this number
abbrev pub passive_from : ℕ → List InterfaceTable → List ℕ
passive_from iface [] = []
passive_from iface (t ∷ ts) = if t.passive then iface ∷ passive_from (iface + 1) ts else passive_from (iface + 1) ts

-- what the router runs on
abbrev pub router_config_of : ℕ → Bool → Document → RouterConfig
router_config_of tag quiet d =
    announcing
    (config_with (configured_interfaces d) (owned_by tag d) quiet (filters_from 0 d.interfaces.items) (limits_from 0 d.interfaces.items))
    (passive_from 0 d.interfaces.items) (announcements_from 0 d.interfaces.items)

-- the text is UTF-8 and TOML, and its tables say this
pub record Says (text : List ℕ) (d : Document) : Type 0 where
  pub utf8 : IsUtf8 text
  pub members : Members
  pub toml : parse_document text ≡ Some members
  pub tables : IsDocument members d

-- the router, places, peers and random source are those of the tables, and each test is met
pub record IsMadeOf (tag : ℕ) (quiet : Bool) (d : Document) (c : Config) : Type 0 where
  pub router : c.router ≡ router_config_of tag quiet d
  pub places : c.places.items ≡ places_of d
  pub peers : c.peers.items ≡ map (λ t. t.peers) d.interfaces.items
  pub rng : c.rng ≡ pcg32_of_seed (pcg32_seed 16 d.seed)
  pub lawful : IsConfig c.router
  pub distinct_ports : ArePortsDistinct d.interfaces.items
  pub distinct_group_ports : AreGroupPortsApart d.interfaces.items
  pub distinct_peers : AreAllPeersDistinct d.interfaces.items

-- the configuration is what the text says
abbrev pub IsConfigured : List ℕ → ℕ → Bool → Config → Type 0
IsConfigured text tag quiet c = (d : Document) × Says text d × IsMadeOf tag quiet d c

-- a place and a list of peers for each interface
pub record HasOneEach (c : Config) : Type 0 where
  pub places : length c.places.items ≡ length c.router.interfaces
  pub peers : length c.peers.items ≡ length c.router.interfaces

-- memory ran out, or the text is no TOML, or the tables of the text have the fault
abbrev pub RefusesText : List ℕ → ConfigFault → Type 0
RefusesText text (BadToml place) = IsUtf8 text → parse_document text ≡ None
RefusesText text fault = RefusesKey (λ f. (ms : Members) × (parse_document text ≡ Some ms) × TableHas document_keys ms f) fault

-- memory ran out, or the router's own check refuses the configuration
abbrev pub RefusesRouter : RouterConfig → ConfigFault → Type 0
RefusesRouter config (Router refused named) = config_fault config ≡ Some refused
RefusesRouter config OutOfMemory = ⊤
RefusesRouter config _ = ⊥

-- why a text is refused: for itself, or for what its tables say
abbrev pub RefusesConfig : List ℕ → ℕ → Bool → ConfigFault → Type 0
RefusesConfig text tag quiet fault =
    RefusesText text fault
    ⊎ ((d : Document) × Says text d × (RefusesRouter (router_config_of tag quiet d) fault ⊎ RefusesTwice d.interfaces.items fault))
