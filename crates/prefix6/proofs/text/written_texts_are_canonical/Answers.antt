use Rattle.prefix6.proofs.WrittenForm.{canonical_is_written, hex_is_plain}
use Rattle.prefix6.proofs.text.written_texts_are_canonical.Goals as goal

pub returns-clause-exact : goal.returns-clause-exact
returns-clause-exact c = canonical_is_written

pub returns-clause-group : goal.returns-clause-group
returns-clause-group c = hex_is_plain
