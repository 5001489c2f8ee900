-- The wanted of the routes past a prefix, listed one by one and block by block.
use Rattle.std.proofs.Common.{◌≡◌, ℕ, suc, ◌+◌, ◌-◌, ◌<◌, ◌≤◌, Bool, true, false, cond, List, [], ◌∷◌, ◌++◌, length, get_or, take, drop, Option, refl, sym, ap, ◌∙◌, arith, append_assoc, append-nil}
use Rattle.std.proofs.lemmas.List.{drop_all, drop_more}
use Rattle.std.proofs.lemmas.List.Elements.{filter-append}
use Rattle.prefix6.specs.Prefix.{Prefix6}
use Rattle.route_table.specs.Blocks.{joined, block_at, IsStart}
use Rattle.route_table.specs.Place.{Entries}
use Rattle.route_table.specs.Summary.{meets, wanted_of}
use Rattle.route_table.specs.Table.{is_past, past}
use Rattle.route_table.specs.declared.wanted.Wanted.{Wanted}
use Rattle.route_table.specs.declared.wanted.Wanted.TheVariants.{Any}
use Rattle.route_table.proofs.BlockLists.{joined_drop}
use Rattle.route_table.proofs.PastPrefix.{run_starts, take_both, take_none}
use Rattle.route_table.proofs.TrieLists.{Entry}

-- ---- one by one
module _ (w : Wanted) (es : Entries) (i : ℕ) (e : Entry) (lt : i < length es) (at_i : e ≡ get_or es i e) where
  ahead : (b : Bool) → meets w e.1 ≡ b → wanted_of w (drop i es) ≡ cond b (e ∷ wanted_of w (drop (i + 1) es)) (wanted_of w (drop (i + 1) es))
  ahead b is =
      ap (wanted_of w) (drop_more es i e lt ∙ ap (λ (x : Entry). x ∷ drop (i + 1) es) (sym at_i))
      ∙ ap (λ c. cond c (e ∷ wanted_of w (drop (i + 1) es)) (wanted_of w (drop (i + 1) es))) is

  pub wanted_here : meets w e.1 ≡ true → wanted_of w (drop i es) ≡ e ∷ wanted_of w (drop (i + 1) es)
  wanted_here is = ahead true is

  pub unwanted_here : meets w e.1 ≡ false → wanted_of w (drop i es) ≡ wanted_of w (drop (i + 1) es)
  unwanted_here is = ahead false is

-- one more is listed
pub list_more : (out rest : Entries) (e : Entry) (left : ℕ) → 0 < left → (out ++ e ∷ []) ++ take (left - 1) rest ≡ out ++ take left (e ∷ rest)
list_more out rest e left some =
    let more : suc (left - 1) ≡ left = omega arith in
    append_assoc out (e ∷ []) (take (left - 1) rest) ∙ ap (λ n. out ++ take n (e ∷ rest)) more

-- a search for any route wants all of them
pub all_wanted : (es : Entries) → es ≡ wanted_of Any es
all_wanted [] = refl
all_wanted (e ∷ es) = ap (λ l. e ∷ l) (all_wanted es)

-- ---- block by block
module _ (w : Wanted) (after : Option Prefix6) (bs : List Entries) where
  wanted_parts : (xs ys : Entries) → wanted_of w (past after (xs ++ ys)) ≡ wanted_of w (past after xs) ++ wanted_of w (past after ys)
  wanted_parts xs ys = ap (wanted_of w) (filter-append (λ (e : Entry). is_past after e.0) xs ys) ∙ filter-append (λ (e : Entry). meets w e.1) (past after xs) (past after ys)

  pub wanted_starts : (k : ℕ) → IsStart bs after k → wanted_of w (past after (joined (drop k bs))) ≡ wanted_of w (past after (joined bs))
  wanted_starts k s = ap (wanted_of w) (run_starts after bs k s)

  -- what a block gives, and what is still asked for of those behind it
  pub wanted_goes_on : (k left : ℕ) (out : Entries) → k < length bs
      → (out ++ take left (wanted_of w (past after (block_at bs k)))) ++ take (left - length (wanted_of w (past after (block_at bs k)))) (wanted_of w (past after (joined (drop (k + 1) bs)))) ≡ out ++ take left (wanted_of w (past after (joined (drop k bs))))
  wanted_goes_on k left out lt =
      append_assoc out (take left (wanted_of w (past after (block_at bs k)))) _
      ∙ ap (λ l. out ++ l) (
      sym (take_both left (wanted_of w (past after (block_at bs k))) (wanted_of w (past after (joined (drop (k + 1) bs)))))
      ∙ ap (take left) (sym (wanted_parts (block_at bs k) (joined (drop (k + 1) bs))) ∙ ap (λ l. wanted_of w (past after l)) (sym (joined_drop bs k lt)))
      )

  pub wanted_is_out : (k left : ℕ) (out : Entries) → length bs ≤ k → out ++ take left (wanted_of w (past after (joined (drop k bs)))) ≡ out
  wanted_is_out k left out le = ap (λ l. out ++ take left (wanted_of w (past after (joined l)))) (drop_all k bs le) ∙ ap (λ l. out ++ l) (take_none left) ∙ append-nil out
