-- What is written first, and then the rest; and the lines of a list, one after another.
use Rattle.std.proofs.Common.{◌≡◌, ◌<◌, ◌+◌, ◌∙◌, ℕ, List, [], ◌∷◌, ◌++◌, take, length, get_or, Option, Result, Ok, Err, ap, append-nil}
use Rattle.std.specs.Prelude.{OnOk, flat_map}
use Rattle.std.specs.List.{enumerate_from}
use Rattle.std.specs.Io.KnownBytes.{Appends}
use Rattle.std.proofs.KnownBytes.{Appends-trans}
use Rattle.std.proofs.lemmas.Grind.{flat_map-append}
use Rattle.router_core.proofs.Sending.{element_at, take_numbered}

pub appended : {X E : Type 0} (r : Result X E) (old mid new : Option (List ℕ)) (xs ys : List ℕ) → Appends old mid xs → OnOk r (Appends mid new ys)
    → OnOk r (Appends old new (xs ++ ys))
appended (Ok x) old mid new xs ys first second = Appends-trans old mid new xs ys first second
appended (Err e) old mid new xs ys first second = tt

pub lines_more : {X : Type 0} (f : ℕ × X → List ℕ) (xs : List X) (i : ℕ) (x : X) → i < length xs → x ≡ get_or xs i x
    → flat_map f (take (i + 1) (enumerate_from 0 xs)) ≡ flat_map f (take i (enumerate_from 0 xs)) ++ f (i, x)
lines_more f xs i x lt is =
    ap (flat_map f) (take_numbered xs i x (element_at xs i x lt is))
    ∙ flat_map-append f (take i (enumerate_from 0 xs)) ((i, x) ∷ [])
    ∙ ap (λ (t : List ℕ). flat_map f (take i (enumerate_from 0 xs)) ++ t) (append-nil _)

pub some_text : {X E : Type 0} (r : Result X E) (old new : Option (List ℕ)) (text : List ℕ) → OnOk r (Appends old new text)
    → OnOk r ((text : List ℕ) × Appends old new text)
some_text (Ok x) old new text h = (text, h)
some_text (Err e) old new text h = tt
