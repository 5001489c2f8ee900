-- Entries whose marks are taken, and a fork of such.
use Rattle.std.proofs.Common.{◌≡◌, Bool, true, false, ◌||◌, [], ◌∷◌, ◌++◌, length, Option, refl, sym, ap, ap₂, subst, ◌∙◌, arith}
use mathlib.Core.Bool.{false≢true}
use Rattle.std.specs.Prelude.{T, All, Box}
use Rattle.std.specs.Option.{option_map}
use Rattle.std.specs.declared.alloc.Global.{Global}
use Rattle.std.specs.FinMap.{is_sorted}
use Rattle.std.proofs.lemmas.List.Elements.{All-nil, All-cons, All-head, All-tail, filter_map-append}
use Rattle.prefix6.specs.Prefix.{Prefix6, prefix_cmp}
use Rattle.prefix6.specs.Halves.{IsLow, IsHigh}
use Rattle.route_table.specs.Due.{without_mark}
use Rattle.route_table.specs.Place.{Entries}
use Rattle.route_table.specs.Summary.{SummaryValue, both, summary_of, summary_of_route}
use Rattle.route_table.specs.Table.{map_entries}
use Rattle.route_table.specs.declared.trie.Node.{Node}
use Rattle.route_table.specs.Trie.{linked, owned, in_turn, fork_entries, IsFork, HasEntries}
use Rattle.route_table.proofs.TableLaws.{is_sorted-map_entries}
use Rattle.route_table.proofs.TrieLists.{Entry}

-- the entries without their marks
abbrev plain : Entries → Entries
plain = map_entries without_mark

-- the same without its mark
abbrev plain_entry : Entry → Entry
plain_entry e = (e.0, record e.1 { changed = false })

plain_append : (xs ys : Entries) → plain (xs ++ ys) ≡ plain xs ++ plain ys
plain_append xs ys = filter_map-append (λ (e : Entry). option_map (λ r. (e.0, r)) (without_mark e.1)) xs ys

pub plain_length : (es : Entries) → length (plain es) ≡ length es
plain_length [] = refl
plain_length (e ∷ es) = omega (arith, plain_length es)

plain_all : (P : Prefix6 → Type 0) (es : Entries) → All (λ e. P e.0) es → All (λ e. P e.0) (plain es)
plain_all P [] h = All-nil (λ (e : Entry). P e.0)
plain_all P (e ∷ es) h = All-cons (λ (x : Entry). P x.0) (plain_entry e) (plain es) (All-head (λ (x : Entry). P x.0) e es h) (plain_all P es (All-tail (λ (x : Entry). P x.0) e es h))

-- ---- what summaries say of it
neither_is : (a b : Bool) → (a || b) ≡ false → (a ≡ false) × (b ≡ false)
neither_is true b h = absurd (false≢true (sym h))
neither_is false b h = (refl, h)

-- where none is marked, nothing changes
pub plain_same : (es : Entries) → (summary_of es).changed ≡ false → plain es ≡ es
plain_same [] h = refl
plain_same (e ∷ es) h =
    let apart = neither_is e.1.changed (summary_of es).changed h in
    ap₂ (λ (c : Bool) (l : Entries). (e.0, record e.1 { changed = c }) ∷ l) (sym apart.0) (plain_same es apart.1)

pub plain_summary : (es : Entries) → summary_of (plain es) ≡ record (summary_of es) { changed = false }
plain_summary [] = refl
plain_summary (e ∷ es) = ap (both (summary_of_route (plain_entry e).1)) (plain_summary es)

-- ---- a fork whose parts are without their marks
module _ (p : Prefix6) (s : SummaryValue) (own : Option (Box Entry Global)) (low high : Node) (f : IsFork p s own low high) (own' : Option (Box Entry Global)) (low' high' : Node) (o : owned own' ≡ plain (owned own)) (l : linked low' ≡ plain (linked low)) (h : linked high' ≡ plain (linked high)) where
  pub plain_whole : fork_entries own' low' high' ≡ plain (fork_entries own low high)
  plain_whole =
      ap (λ x. in_turn x (linked low') (linked high')) o
      ∙ ap (λ x. in_turn (plain (owned own)) x (linked high')) l
      ∙ ap (λ x. in_turn (plain (owned own)) (plain (linked low)) x) h
      ∙ ap (λ x. plain (owned own) ++ x) (sym (plain_append (linked low) (linked high)))
      ∙ sym (plain_append (owned own) (linked low ++ linked high))

  pub plain_fork : HasEntries low' → HasEntries high' → (s' : SummaryValue) → s' ≡ record s { changed = false } → IsFork p s' own' low' high'
  plain_fork low_some high_some s' is = record {
    parts = record {
      sorted = subst (λ x. T (is_sorted prefix_cmp x)) (sym plain_whole) (is_sorted-map_entries without_mark (fork_entries own low high) f.parts.sorted);
      at_prefix = subst (All (λ e. e.0 ≡ p)) (sym o) (plain_all (λ q. q ≡ p) (owned own) f.parts.at_prefix);
      lower = subst (All (λ e. IsLow p e.0)) (sym l) (plain_all (IsLow p) (linked low) f.parts.lower);
      upper = subst (All (λ e. IsHigh p e.0)) (sym h) (plain_all (IsHigh p) (linked high) f.parts.upper);
    };
    shared = record {
      not_low_alone = λ some. omega (arith, f.shared.not_low_alone (omega (arith, some, low_as_long)), own_as_long, high_as_long);
      not_high_alone = λ some. omega (arith, f.shared.not_high_alone (omega (arith, some, high_as_long)), own_as_long, low_as_long);
    };
    low_some = low_some;
    high_some = high_some;
    summed = is ∙ ap (λ (x : SummaryValue). record x { changed = false }) f.summed ∙ sym (plain_summary (fork_entries own low high)) ∙ ap summary_of (sym plain_whole);
  }
    where
      own_as_long : length (owned own') ≡ length (owned own)
      own_as_long = ap length o ∙ plain_length (owned own)

      low_as_long : length (linked low') ≡ length (linked low)
      low_as_long = ap length l ∙ plain_length (linked low)

      high_as_long : length (linked high') ≡ length (linked high)
      high_as_long = ap length h ∙ plain_length (linked high)
