-- No bytes spell two datagrams.
use Rattle.std.proofs.Common.{◌≡◌, ℕ, List, get_or, sym, ap, ◌∙◌}
use Rattle.ripng_wire.specs.declared.rte.Command.{Command}
use Rattle.ripng_wire.specs.declared.rte.Rte.{Rte}
use Rattle.ripng_wire.specs.Layout.{Spells}
use Rattle.ripng_wire.proofs.Spellings.{spelling_command, spelling_entries}

-- both are what the bytes are read as
pub one_reading : (c d : Command) (es fs : List Rte) (bytes : List ℕ) → Spells c es bytes → Spells d fs bytes → (c ≡ d) × (es ≡ fs)
one_reading c d es fs bytes s t = (
  spelling_command d c fs bytes t (ap (λ (x : List ℕ). get_or x 0 0) s.bytes_are),
  sym (spelling_entries c es bytes s) ∙ spelling_entries d fs bytes t,
)
