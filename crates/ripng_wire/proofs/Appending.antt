-- The bytes of a datagram, entry by entry.
use Rattle.std.proofs.Common.{◌≡◌, ℕ, ◌<◌, ◌∷◌, ◌∙◌, [], List, ◌++◌, length, ap, arith}
use Rattle.std.proofs.lemmas.List.{flat_map_more, length-append}
use Rattle.std.proofs.lemmas.List.Elements.{All-push}
use Rattle.ripng_wire.specs.declared.rte.Command.{Command}
use Rattle.ripng_wire.specs.declared.rte.Rte.{Rte}
use Rattle.ripng_wire.specs.Layout.{Fits, Spells, command_byte, entry_bytes, most_entries, version}

-- one entry is appended
pub Spells-more : (command : Command) (es : List Rte) (e : Rte) (old new : List ℕ) → Spells command es old → length es < most_entries
    → new ≡ old ++ entry_bytes e → Fits e → Spells command (es ++ e ∷ []) new
Spells-more command es e old new s few more fits = record {
  bytes_are = more ∙ ap (λ (b : List ℕ). b ++ entry_bytes e) s.bytes_are ∙ flat_map_more entry_bytes (command_byte command ∷ version ∷ 0 ∷ 0 ∷ []) es e;
  few = omega (arith, few, length-append es (e ∷ []));
  fit = All-push Fits es e s.fit fits;
}
