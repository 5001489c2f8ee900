-- A whole Response heard by a router without routes: the definitions are met by the table that is expected, with no note.
use Rattle.std.proofs.Common.{◌≡◌, ℕ, zero, suc, ◌+◌, Bool, true, false, cond, ◌&&◌, nat_le, List, [], ◌∷◌, Contains, Option, Some, None, is_none, slice_get, refl, ap, ap₂, sym, subst, ◌∙◌, arith}
use Rattle.std.specs.FinMap as map_of
use Rattle.prefix6.specs.Prefix.{prefix_cmp, same_prefix}
use Rattle.prefix6.proofs.PrefixLaws.{prefixes_total}
use Rattle.ripng_wire.specs.declared.rte.Rte.{Rte}
use Rattle.route_table.specs.Route.{RouteValue}
use Rattle.route_table.specs.Table.{Table, table_limit}
use Rattle.route_table.proofs.TableLaws.{Some-same, None-Some}
use Rattle.router_core.specs.Hearing.{Hearing, Heard, route_after, allowed_notes, note_at}
use Rattle.router_core.specs.declared.answer.NoteKind.{NoteKind}
use Rattle.router_core.specs.declared.answer.NoteKind.TheVariants.{TableFull, NoMemory}
use Rattle.router_core.proofs.HearingSteps.{heard_one, before_all, after_one, same_as_key}
use Rattle.router_core.proofs.NoFilters.{notes_without_filters}
use Rattle.router_core.proofs.Vectors.{router_a, doc, doc_entry, from, learned}

abbrev heard_alone : Hearing
heard_alone = record { config = router_a; gateway = from 2 0; entries = doc_entry 1 ∷ []; before = map_of.empty; notes = [] }

abbrev expected : Table
expected = map_of.insert map_of.empty doc (learned 2 180_000 true)

tested : (b : Bool) → cond b (Some (learned 2 180_000 true)) None ≡ cond (b && true) (Some (learned 2 180_000 true)) None
tested true = refl
tested false = refl

allowed : (o : Option RouteValue) (n : ℕ) → o ≡ None → n ≡ 0
    → Contains (cond (is_none o && true) (cond (nat_le table_limit (n + 0)) (Some TableFull ∷ []) (None ∷ Some NoMemory ∷ [])) (None ∷ [])) None
allowed o n e f =
    subst (λ (o : Option RouteValue). Contains (cond (is_none o && true) (cond (nat_le table_limit (n + 0)) (Some TableFull ∷ []) (None ∷ Some NoMemory ∷ [])) (None ∷ [])) None) (sym e)
    (subst (λ (n : ℕ). Contains (cond (nat_le table_limit (n + 0)) (Some TableFull ∷ []) (None ∷ Some NoMemory ∷ [])) None) (sym f) (0, omega arith, refl))

one_response : Heard heard_alone expected
one_response =
    record {
      routes = λ p.
          map_of.get-insert prefixes_total map_of.empty doc (learned 2 180_000 true) p
          ∙ ap₂ (λ b o. cond b (Some (learned 2 180_000 true)) o) (sym (same_as_key doc p)) (map_of.get-empty prefix_cmp p)
          ∙ tested (same_prefix doc p)
          ∙ ap (heard_one heard_alone 0 (doc_entry 1) p) (sym (before_all heard_alone p ∙ map_of.get-empty prefix_cmp p))
          ∙ sym (after_one heard_alone 0 (doc_entry 1) p refl);
      noted = noted;
      in_order = λ k h. absurd (omega arith);
      placed = λ k d h. absurd (omega arith);
    }
  where
    noted : (place : ℕ) (e : Rte) → slice_get (doc_entry 1 ∷ []) place ≡ Some e → Contains (allowed_notes heard_alone place e) (note_at heard_alone place)
    noted zero e is =
        subst (λ (x : Rte). Contains (allowed_notes heard_alone 0 x) None) (Some-same (doc_entry 1) e is)
        (subst (λ (notes : List (Option NoteKind)). Contains notes None) (sym (notes_without_filters heard_alone 0 (doc_entry 1) refl refl))
        (allowed (route_after heard_alone 0 doc) (map_of.len {X = RouteValue} (map_of.empty {R = prefix_cmp})) (before_all heard_alone doc ∙ map_of.get-empty prefix_cmp doc) (map_of.len-empty prefix_cmp RouteValue)))
    noted (suc place) e is = absurd (None-Some e is)
