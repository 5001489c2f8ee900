-- What is written first, and then the rest; the lines of a list, one after another; and bytes that a list of them has.
use Rattle.std.proofs.Common.{◌≡◌, ◌<◌, ◌+◌, ◌∙◌, ℕ, List, [], ◌∷◌, ◌++◌, take, length, get_or, Option, Result, Ok, Err, ap, append-nil}
use Rattle.std.specs.Prelude.{OnOk, flat_map}
use Rattle.std.specs.List.{enumerate_from}
use Rattle.std.specs.Io.KnownBytes.{Appends}
use Rattle.std.proofs.KnownBytes.{Appends-trans}
use Rattle.std.proofs.lemmas.Grind.{flat_map-append}
use Rattle.std.proofs.lemmas.List.{get_or_default}
use Rattle.router_core.proofs.Sending.{element_at, take_numbered}

pub appended : {X E : Type 0} (r : Result X E) (old mid new : Option (List ℕ)) (xs ys : List ℕ) → Appends old mid xs → OnOk r (Appends mid new ys)
    → OnOk r (Appends old new (xs ++ ys))
appended (Ok x) old mid new xs ys first second = Appends-trans old mid new xs ys first second
appended (Err e) old mid new xs ys first second = tt

pub lines_more : {X : Type 0} (f : ℕ × X → List ℕ) (xs : List X) (i : ℕ) (d : X) → i < length xs
    → flat_map f (take (i + 1) (enumerate_from 0 xs)) ≡ flat_map f (take i (enumerate_from 0 xs)) ++ f (i, get_or xs i d)
lines_more f xs i d lt =
    ap (flat_map f) (take_numbered xs i (get_or xs i d) (element_at xs i (get_or xs i d) lt (get_or_default xs i d (get_or xs i d) lt)))
    ∙ flat_map-append f (take i (enumerate_from 0 xs)) ((i, get_or xs i d) ∷ [])
    ∙ ap (λ (t : List ℕ). flat_map f (take i (enumerate_from 0 xs)) ++ t) (append-nil _)
