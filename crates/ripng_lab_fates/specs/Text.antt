-- The lines of what becomes of packets.
use Rattle.std.specs.Prelude.{ℕ, List, [], ◌∷◌, ◌++◌, codes, decimal, flat_map}
use Rattle.std.specs.List.{enumerate_from}
use Rattle.ripng_lab_fates.specs.Ways.{way_by}
use Rattle.ripng_lab_fates.specs.declared.outages.Change.{Change}
use Rattle.ripng_lab_fates.specs.declared.ways.Fate.{Fate}
use Rattle.ripng_lab_fates.specs.declared.ways.Fate.TheVariants as fate
use Rattle.ripng_lab_fates.specs.declared.ways.Step.{Step}
use Rattle.ripng_lab_fates.specs.declared.ways.Step.TheVariants.{On, Ends}
use Rattle.ripng_lab_fates.specs.declared.ways.Way.{Way}

-- the letter of what becomes of packets
abbrev pub letter_of : Fate → List ℕ
letter_of fate.Arrives = codes "a"
letter_of fate.NoRoute = codes "d"
letter_of fate.NextHopIsNobodys = codes "n"
letter_of fate.Loops = codes "l"
letter_of fate.CutLink = codes "c"
letter_of fate.SilentRouter = codes "s"

-- the word of a router: what becomes of packets from there, where, and to which router it hands them on
abbrev pub word_text : Way → Step → List ℕ
word_text w (On router link) = codes " " ++ (letter_of w.fate ++ (decimal w.at ++ (codes ":" ++ decimal router)))
word_text w (Ends end) = codes " " ++ (letter_of w.fate ++ decimal w.at)

abbrev pub word_of : List Step → List Change → ℕ × Step → List ℕ
word_of steps changes at = word_text (way_by steps steps changes [] at.0) at.1

-- the words of all routers, in order
abbrev pub words_text : List Step → List Change → List ℕ
words_text steps changes = flat_map (word_of steps changes) (enumerate_from 0 steps)

abbrev pub line_text : List Step → List Change → List ℕ
line_text steps changes = words_text steps changes ++ 10 ∷ []
