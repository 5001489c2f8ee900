-- A list of entries in which one mark after the other is taken.
use Rattle.std.proofs.Common.{◌≡◌, ℕ, zero, suc, ◌+◌, ◌<◌, false, List, [], ◌∷◌, ◌++◌, length, take, drop, slice_set, slice_index_or, refl, sym, ap, ◌∙◌, arith}
use Rattle.std.proofs.lemmas.List.{append-nil, take_all}
use Rattle.std.proofs.Math.ListN.{drop_of_length-le}
use Rattle.route_table.specs.Due.{without_mark}
use Rattle.route_table.specs.Place.{Entries}
use Rattle.route_table.specs.Table.{map_entries}
use Rattle.route_table.proofs.TrieLists.{Entry}

-- the first i marks are taken
abbrev pub plain_before : ℕ → Entries → Entries
plain_before i es = map_entries without_mark (take i es) ++ drop i es

one_more : (i : ℕ) → suc i + 1 ≡ suc (i + 1)
one_more i = omega arith

-- the next mark is taken
pub plain_next : (es : Entries) (i : ℕ) (d : Entry) → i < length es
    → slice_set (plain_before i es) i ((slice_index_or (plain_before i es) i d).0, record (slice_index_or (plain_before i es) i d).1 { changed = false }) ≡ plain_before (i + 1) es
plain_next [] i d lt = absurd (omega arith)
plain_next (e ∷ es) zero d lt = refl
plain_next (e ∷ es) (suc i) d lt = ap (λ l. (e.0, record e.1 { changed = false }) ∷ l) (plain_next es i d (omega arith)) ∙ ap (λ n. plain_before n (e ∷ es)) (sym (one_more i))

-- the whole list was written back
pub written_back : {X : Type 0} → (n : ℕ) (new old : List X) → n ≡ length old → length new ≡ length old → take n (new ++ drop (length new) old) ≡ new
written_back n new old counted same =
    ap (λ l. take n (new ++ l)) (drop_of_length-le old (omega (arith, same)))
    ∙ ap (take n) (append-nil new)
    ∙ take_all n new (omega (arith, same, counted))
