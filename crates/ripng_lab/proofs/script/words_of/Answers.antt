use Rattle.std.proofs.Common.{◌∷◌, [], Some}
use Rattle.std.proofs.lemmas.Str.Pattern.{split_text_parts}
use Rattle.ripng_lab.proofs.Words.{cut_before}
use Rattle.ripng_lab.proofs.script.words_of.Goals as goal

pub returns-in-Some : goal.returns-in-Some
returns-in-Some c =
    cut_before c.args.text.now c.trim_ascii_start-text.result.now c.trim_ascii_end.result.now c.in-Some.words.now (35 ∷ c.in-Some.field-0-1.now) c.trim_ascii_start-text.ensures.value
    (split_text_parts (32 ∷ 35 ∷ []) c.trim_ascii_start-text.result.now (Some (c.in-Some.words, c.in-Some.field-0-1)) c.in-Some.ensures.cases) c.trim_ascii_end.ensures.value
