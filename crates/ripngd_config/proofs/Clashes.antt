-- When two peers do not clash.
use Rattle.std.proofs.Common.{◌≡◌, ◌==◌, ◌||◌, Bool, false, arith}
use Rattle.ripngd_config.specs.Twice.{AreApart}
use Rattle.ripngd_engine.specs.declared.peer.Peer.{Peer}

-- the test that two peers meet which clash
abbrev pub peers_clash : Peer → Peer → Bool
peers_clash p q = p.addr == q.addr || p.local_port == q.local_port

pub peers_apart : (p q : Peer) → peers_clash p q ≡ false → AreApart p q
peers_apart p q h = record { addr = λ same. grind arith; local_port = λ same. grind arith }
