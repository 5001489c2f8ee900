use Rattle.std.proofs.Common.{List, ℕ, Result, Ok, Err, arith}
use Rattle.std.specs.Prelude.{IfOk}
use Rattle.std.specs.Borrow.{Bor}
use Rattle.ripng_capture.specs.Found.{IsTail}
use Rattle.ripng_capture.proofs.Standing.{tail_through}
use Rattle.ripng_capture.proofs.frame.network_packet.Goals as goal

-- the end of an end, if there is one
through : {E : Type 0} (whole mid : List ℕ) (r : Result (Bor (List ℕ)) E) → IsTail whole mid → IfOk r (λ p. IsTail mid p.now) → IfOk r (λ p. IsTail whole p.now)
through whole mid (Ok p) of_whole of_mid = tail_through whole mid p.now of_whole of_mid
through whole mid (Err e) of_whole of_mid = tt

pub returns-in-33024 : goal.returns-in-33024
returns-in-33024 c =
    through c.args.frame.now c.behind-rest.result.now c.untagged.result (c.match-link_type.header_len.0, omega arith, c.behind-rest.ensures) c.untagged.ensures
