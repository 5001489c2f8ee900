-- The keys of a table, as a list and as its members.
use Rattle.std.proofs.Common.{◌≡◌, ◌||◌, ◌<◌, ℕ, zero, suc, Bool, true, false, List, [], ◌∷◌, map, length, get_or, All, refl, ap, inl, inr, arith}
use Rattle.std.specs.Prelude.{String, string_bytes}
use Rattle.std.specs.declared.alloc.Global.{Global}
use Rattle.std.specs.Borrow.{Bor}
use Rattle.std.specs.List.{AllByRecursion, list_any}
use Rattle.std.specs.Map.{keys_of}
use Rattle.std.specs.Str.{bytes_eq}
use Rattle.std.proofs.lemmas.List.Elements.{recursion_from_All}
use Rattle.toml.specs.View.{members_view}
use Rattle.toml.specs.declared.value.Value.{Value}
use Rattle.ripngd_config.specs.Faults.{HasOther}
use Rattle.ripngd_config.specs.Keys.{HasOnlyOf, is_listed}

pub any_listed : (names : List (Bor (List ℕ))) (key : List ℕ) → list_any (λ y. bytes_eq y.now key) names ≡ is_listed (map (λ k. k.now) names) key
any_listed [] key = refl
any_listed (n ∷ ns) key = ap (λ (b : Bool). bytes_eq n.now key || b) (any_listed ns key)

only_of : (names : List (List ℕ)) (es : List (String Global × Value)) → AllByRecursion (λ k. is_listed names (string_bytes k) ≡ true) (keys_of es) → HasOnlyOf names (members_view es)
only_of names [] h = tt
only_of names (e ∷ es) h = (h.0, only_of names es h.1)

pub only_from : (names : List (List ℕ)) (es : List (String Global × Value)) → All (λ k. is_listed names (string_bytes k) ≡ true) (keys_of es) → HasOnlyOf names (members_view es)
only_from names es h = only_of names es (recursion_from_All (λ k. is_listed names (string_bytes k) ≡ true) (keys_of es) h)

-- a key that is not listed
pub other_at : (names : List (List ℕ)) (es : List (String Global × Value)) (i : ℕ) (d : String Global) → i < length (keys_of es) → is_listed names (string_bytes (get_or (keys_of es) i d)) ≡ false → HasOther names (members_view es)
other_at names [] i d lt unlisted = absurd (omega arith)
other_at names (e ∷ es) zero d lt unlisted = inl unlisted
other_at names (e ∷ es) (suc i) d lt unlisted = inr (other_at names es i d (omega arith) unlisted)
