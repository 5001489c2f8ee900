use Rattle.std.proofs.Common.{rules, refl}
use Rattle.ripngd_udp.proofs.receive_queue.ReceiveQueue.push.Goals as goal

pub returns : goal.returns
returns c =
    record {
      last = record { sender = c.args.sender; bytes = c.in_ok-bytes.bytes };
      in_order = search rules;
      sender_is = refl;
      bytes_are = search rules;
    }
