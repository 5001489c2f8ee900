-- A Request without entries is one of the header's length.
use Rattle.std.proofs.Common.{◌≡◌, ℕ, ◌+◌, ◌*◌, ◌==◌, List, length, ap, ◌∙◌, arith}
use Rattle.std.proofs.lemmas.Bool.Decides.{nat_tests}
use Rattle.ripng_wire.specs.declared.rte.Command.{Command}
use Rattle.ripng_wire.specs.declared.rte.Rte.{Rte}
use Rattle.ripng_wire.specs.Layout.{Spells}
use Rattle.ripng_wire.proofs.Entries.{length_entries}

pub is_empty_request : (command : Command) (entries : List Rte) (bytes : List ℕ) → Spells command entries bytes → (length bytes == 4) ≡ (length entries == 0)
is_empty_request command entries bytes s =
    let size : length bytes ≡ 4 + 20 * length entries = ap length s.bytes_are ∙ omega (arith, length_entries entries) in
    grind (arith, nat_tests)
