-- Who is heard on a real link, by which socket.
use Rattle.std.specs.Prelude.{ℕ, Option, None, Some, is_some, unwrap_or}
use Rattle.prefix6.specs.Common.{w128, from_be_bytes}
use Rattle.std.specs.Net.Addr.{ipv6_octets}
use Rattle.std.specs.Net.Socket.{v6_ip, v6_port}
use Rattle.std.specs.declared.net.socket_addr.SocketAddr.{SocketAddr}
use Rattle.std.specs.declared.net.socket_addr.SocketAddr.TheVariants.{V4, V6}
use Rattle.ripngd_engine.specs.declared.peer.Sender.{Sender}

-- who sent a datagram: the address and port that the system says. It came to the group exactly if its socket is one of the group, and then
-- with the hop limit of all that this socket gives
abbrev pub real_sender : SocketAddr → Option ℕ → Option Sender
real_sender (V4 from) hop_limit = None
real_sender (V6 from) hop_limit =
    Some (record {
      addr = from_be_bytes w128 (ipv6_octets (v6_ip from));
      port = v6_port from;
      hop_limit = unwrap_or hop_limit 255;
      to_group = is_some hop_limit;
    })
