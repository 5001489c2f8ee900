-- What the tables of a configuration say: each value is that at its key, or the default, and there is no other key.
use Rattle.std.specs.Prelude.{◌≡◌, true, false, [], List, None, Some, codes}
use Rattle.ripngd_config.specs.Below.{Members, Peer, Socket, Inherited, Local, is_real, Document, InterfaceTable, PrefixTable}
use Rattle.ripngd_config.specs.Keys.{HasOnly, document_keys, interface_keys, is_real_table, peer_keys, prefix_keys}
use Rattle.ripngd_config.specs.Values.{AreSections, IsAddress, IsArray, IsReadAt, IsNumber, IsPrefixValue, IsRange, IsSomeNumber, IsTruth}

-- the table is read as this peer
pub record IsPeer (ms : Members) (p : Peer) : Type 0 where
  pub addr : IsReadAt IsAddress (codes "address") None ms p.addr
  pub local_port : IsReadAt (IsNumber 1 65535) (codes "local_port") None ms p.local_port
  pub port : IsReadAt (IsNumber 0 65535) (codes "port") (Some 521) ms p.port
  pub hop_limit : IsReadAt (IsNumber 0 255) (codes "hop_limit") (Some 255) ms p.hop_limit
  pub to_group : IsReadAt IsTruth (codes "group") (Some true) ms p.to_group
  pub only : HasOnly peer_keys ms

-- the table is read as this socket: of a real link where it has a descriptor
abbrev pub IsSocket : Members → Socket → Type 0
IsSocket ms (Local port group_port) =
    IsReadAt (IsNumber 1 65535) (codes "local_port") None ms port × IsReadAt (IsSomeNumber 1 65535) (codes "group_port") (Some None) ms group_port
IsSocket ms (Inherited alone group far) =
    IsReadAt (IsNumber 3 65535) (codes "descriptor") None ms alone × IsReadAt (IsNumber 3 65535) (codes "group_descriptor") None ms group
    × IsReadAt (IsSomeNumber 3 65535) (codes "far_descriptor") (Some None) ms far

-- the peers on a link of loopback are those of the table; a real link has none
abbrev pub ArePeers : Members → Socket → List Peer → Type 0
ArePeers ms (Local port group_port) peers = IsReadAt (AreSections IsPeer) (codes "peer") (Some []) ms peers
ArePeers ms (Inherited alone group far) peers = peers ≡ []

-- the table is read as this interface
pub record IsInterfaceTable (ms : Members) (t : InterfaceTable) : Type 0 where
  pub addr : IsReadAt IsAddress (codes "address") None ms t.interface.addr
  pub cost : IsReadAt (IsNumber 0 255) (codes "cost") None ms t.interface.cost
  pub mtu : IsReadAt (IsNumber 0 4294967295) (codes "mtu") (Some 1280) ms t.interface.mtu
  pub zone : IsReadAt (IsNumber 0 65535) (codes "zone") (Some 0) ms t.interface.zone
  pub accept : IsReadAt (IsArray IsRange) (codes "accept") (Some []) ms t.accept.items
  pub reject : IsReadAt (IsArray IsRange) (codes "reject") (Some []) ms t.reject.items
  pub limit : IsReadAt (IsSomeNumber 1 65536) (codes "limit") (Some None) ms t.limit
  pub passive : IsReadAt IsTruth (codes "passive") (Some false) ms t.passive
  pub announce : IsReadAt (IsArray IsRange) (codes "announce") (Some []) ms t.announce.items
  pub announce_not : IsReadAt (IsArray IsRange) (codes "announce_not") (Some []) ms t.announce_not.items
  pub link : is_real t.socket ≡ is_real_table ms
  pub socket : IsSocket ms t.socket
  pub peers : ArePeers ms t.socket t.peers.items
  pub only : HasOnly interface_keys ms

-- the table is read as this owned prefix
pub record IsPrefixTable (ms : Members) (t : PrefixTable) : Type 0 where
  pub prefix : IsReadAt IsPrefixValue (codes "prefix") None ms t.prefix
  pub tag : IsReadAt (IsSomeNumber 0 65535) (codes "tag") (Some None) ms t.tag
  pub only : HasOnly prefix_keys ms

-- the whole is read as this document
pub record IsDocument (ms : Members) (d : Document) : Type 0 where
  pub seed : IsReadAt (IsNumber 0 9223372036854775807) (codes "seed") (Some 0) ms d.seed
  pub interfaces : IsReadAt (AreSections IsInterfaceTable) (codes "interface") (Some []) ms d.interfaces.items
  pub prefixes : IsReadAt (AreSections IsPrefixTable) (codes "prefix") (Some []) ms d.prefixes.items
  pub only : HasOnly document_keys ms
