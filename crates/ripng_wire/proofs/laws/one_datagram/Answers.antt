use Rattle.ripng_wire.proofs.OneReading.{one_reading}
use Rattle.ripng_wire.proofs.laws.one_datagram.Goals as goal

pub returns : goal.returns
returns c = one_reading
