-- What a link, a clock and a log over memory give and tell.
use Rattle.std.specs.Prelude.{ℕ, List, Option, None, Some, Bool, true, false, ◌&&◌, if◌then◌else◌, nat_le, nat_lt, vec_len}
use Rattle.ripngd_engine.specs.Link.{Call, Gave, Silent, RecvFailed, Handed}
use Rattle.ripngd_engine.specs.declared.link.Received.{Received}
use Rattle.test_rows.specs.declared.memory.Datagram.{Datagram}
use Rattle.test_rows.specs.declared.memory.LinkCall.{LinkCall}
use Rattle.test_rows.specs.declared.memory.LinkCall.TheVariants as kept

-- the call that was kept
abbrev pub call_of : LinkCall → Call
call_of (kept.Gave d) =
    Gave (record {
      iface = d.iface;
      source = d.source;
      source_port = d.source_port;
      hop_limit = d.hop_limit;
      to_group = d.to_group;
      bytes = d.bytes.items;
    })
call_of kept.Silent = Silent
call_of kept.RecvFailed = RecvFailed
call_of (kept.Handed outgoing went) = Handed outgoing went

-- these, as long as there was memory to keep each
abbrev pub claimed : {X : Type 0} → Bool → List X → Option (List X)
claimed true xs = Some xs
claimed false xs = None

-- what a link of so many interfaces gives into so much room, for what its script has next: a datagram of an interface that is
-- there, if it fits
abbrev pub given_of : ℕ → ℕ → Option (Option Datagram) → Option Received
given_of interfaces room (Some (Some d)) =
    if nat_lt d.iface interfaces && nat_le (vec_len d.bytes) room
    then Some (record {
      iface = d.iface;
      source = d.source;
      source_port = d.source_port;
      hop_limit = d.hop_limit;
      to_group = d.to_group;
      len = vec_len d.bytes;
    })
    else None
given_of interfaces room _ = None
