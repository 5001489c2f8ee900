-- The names that the clauses of this crate cite, passed on from one place. Declares nothing.
pub use Rattle.ripngd_config.specs.Below.{list_any, is_real, Data, IsConfig, Members, get_member, table_view, view, OutOfMemory}
pub use Rattle.ripngd_config.specs.Configuration.{HasOneEach, IsConfigured, RefusesConfig, RefusesRouter, RefusesText, Says, announcements_from, filter_of, filters_at, filters_from, limits_from, passive_from, owned_by, places_of, router_config_of}
pub use Rattle.ripngd_config.specs.Faults.{LinkRefuses, RefusesKey, RefusesOf, KindHas, TableHas, TextHas, KeyHas, OtherHas}
pub use Rattle.ripngd_config.specs.Keys.{document_keys, Keys, Kind, address, array, number, prefix, range, table, truth, interface_keys, is_real_table, keys_with, local_keys, names_of, peer_keys, prefix_keys, real_keys, HasOnly, HasOnlyOf}
pub use Rattle.ripngd_config.specs.Tables.{ArePeers, IsDocument, IsInterfaceTable, IsPeer, IsPrefixTable, IsSocket}
pub use Rattle.ripngd_config.specs.Twice.{AreAllPeersDistinct, AreGroupPortsApart, ArePortsDistinct, RefusesTwice, ArePeersDistinct, IsPeerTwice, has_descriptor, has_group_port, has_peer_at, has_port, is_at, is_taken, share_socket, stands_at}
pub use Rattle.ripngd_config.specs.Values.{IsAddress, IsArray, IsReadAt, IsNumber, IsPrefixValue, IsRange, IsSomeNumber, IsTruth, IsItem}
pub use Rattle.ripngd_config.specs.Ranges.{ReadsRange, is_plus}
