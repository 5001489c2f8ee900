-- Which peers of a configuration are never heard.
use Rattle.std.specs.Prelude.{◌==◌, ◌&&◌, ◌||◌, not, Bool, List}
use Rattle.ripngd_daemon.specs.Below.{list_any, is_link_local, Peer, Place, ripng_port}

-- one of a router's places has the address of a peer
abbrev pub has_address : List Place → Peer → Bool
has_address places peer = list_any (λ place. place.addr == peer.addr) places

-- each Response of a peer is refused (RFC 2080, 2.4.2)
abbrev pub is_never_heard : List Place → Peer → Bool
is_never_heard places peer =
    not (peer.port == ripng_port) || not (is_link_local peer.addr) || has_address places peer || (peer.to_group && not (peer.hop_limit == 255))
