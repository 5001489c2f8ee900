use Rattle.std.proofs.Common.{rules, sym}
use Rattle.ripng_capture.proofs.frame.packet_in.Goals as goal

pub returns : goal.returns
returns c = (
  c.in_ok-header.header.now,
  c.in_ok-header.ensures,
  record {
    version = c.in_ok-body.ensures.version;
    hop_limit = search rules;
    source = search rules;
    destination = search rules;
  },
  c.in_ok-datagram.datagram.now,
  rw c.in_ok-body.ensures.body at c.in_ok-datagram.ensures,
  record {
    source_port = search rules;
    destination_port = search rules;
    payload = sym c.in_ok-payload.ensures.payload;
    whole = c.in_ok-payload.ensures.whole;
  },
)
