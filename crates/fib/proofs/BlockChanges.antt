-- Blocks after one of them was changed, parted, taken out or put between others.
use Rattle.std.proofs.Common.{◌≡◌, ◌==◌, ℕ, zero, suc, Bool, true, false, if◌then◌else◌, get_or, ◌+◌, ◌<◌, ◌≤◌, List, [], ◌∷◌, ◌++◌, length, take, drop, set, Result, Ok, Err, Some, None, refl, sym, ap, ap₂, subst, ◌∙◌, arith, append_assoc, length-append, length-take, length-drop}
use mathlib.Core.Bool.{false≢true}
use Rattle.std.specs.Prelude.{T, All, OnOk, OnErr}
use Rattle.std.specs.List.{insert, remove}
use Rattle.std.specs.declared.cmp.Ordering.TheVariants.{Less}
use Rattle.std.specs.FinMap.{is_sorted}
use Rattle.std.specs.FinMap.Entries.{find, put, is_sorted-put}
use Rattle.std.proofs.lemmas.List.{take_more_set, drop-set-lt, take-append-drop, get_or_read}
use Rattle.std.proofs.lemmas.List.Elements.{All-append, All-cons, All-take, All-drop}
use Rattle.prefix6.specs.Prefix.{Prefix6, prefix_cmp}
use Rattle.prefix6.specs.Places.{IsGap}
use Rattle.prefix6.proofs.PrefixLaws.{prefixes_total}
use Rattle.prefix6.proofs.SortedEntries.{find_at, find_gap}
use Rattle.fib.specs.Forwarding.{Forward}
use Rattle.fib.specs.Blocks.{Pairs, block_limit, joined, block_at, AreBlocks, AreFilled, IsHome, IsPlaced, IsVacant}
use Rattle.fib.proofs.Gaps.{turned}
use Rattle.fib.proofs.EntryParts.{Pair, put_right, put_front, put_some}
use Rattle.fib.proofs.BlockLists.{in_turn, joined-append, joined_at, joined_parts, joined_take, find_home, sorted_block}

-- ---- one taken out
pub removed_empty : (bs : List Pairs) (i : ℕ) → i < length bs → length (block_at bs i) ≡ 0 → joined (remove bs i) ≡ joined bs
removed_empty [] i lt none = absurd (omega arith)
removed_empty ([] ∷ bs) zero lt none = refl
removed_empty ((e ∷ b) ∷ bs) zero lt none = absurd (omega arith)
removed_empty (b ∷ bs) (suc i) lt none = ap (λ l. b ++ l) (removed_empty bs i (omega arith) none)

-- ---- one between others
pub not_empty : (b : Bool) (n m : ℕ) → b ≡ (n == 0) → b ≡ false → n ≡ m → 0 < m
not_empty b zero m is differs same = absurd (false≢true (sym differs ∙ is))
not_empty b (suc n) m is differs same = omega (arith, same)

pub put_between : (bs : List Pairs) (i : ℕ) (p : Prefix6) (v : Forward) → All (λ e. prefix_cmp e.0 p ≡ Less) (joined (take i bs)) → All (λ e. prefix_cmp p e.0 ≡ Less) (joined (drop i bs))
    → joined (insert bs i ((p, v) ∷ [])) ≡ put prefix_cmp p v (joined bs)
put_between bs i p v below above =
    joined-append (take i bs) (((p, v) ∷ []) ∷ drop i bs)
    ∙ ap (λ l. joined (take i bs) ++ l) (sym (put_front p v (joined (drop i bs)) above))
    ∙ sym (put_right p v (joined (take i bs)) (joined (drop i bs)) (λ k d lt. turned _ p Less (below k d lt)))
    ∙ ap (put prefix_cmp p v) (sym (joined_parts bs i))

pub filled_between : (bs : List Pairs) (i : ℕ) (b : Pairs) → AreFilled bs → 0 < length b → AreFilled (insert bs i b)
filled_between bs i b h some =
    let P = λ (l : Pairs). 0 < length l in
    All-append P (take i bs) (b ∷ drop i bs) (All-take P i bs h) (All-cons P b (drop i bs) some (All-drop P i bs h))

-- where a prefix goes behind all of its block, all up to that lies below
pub below_behind : (bs : List Pairs) (p : Prefix6) (i j : ℕ) → IsHome bs p i → IsGap (block_at bs i) p j → j ≡ length (block_at bs i) → All (λ e. prefix_cmp e.0 p ≡ Less) (joined (take (i + 1) bs))
below_behind bs p i j h gap last =
    let P = λ (e : Pair). prefix_cmp e.0 p ≡ Less in
    subst (All P) (sym (joined_take bs i h.in_range)) (All-append P (joined (take i bs)) (block_at bs i) h.below (λ k d lt. gap.before k d (omega (arith, last))))

-- ---- the block i of bs has become two
module _ (bs : List Pairs) (i : ℕ) (h : AreBlocks bs) (lt : i < length bs) (lo hi : Pairs) (lo_is : lo ≡ take 64 (block_at bs i)) (hi_is : hi ≡ drop 64 (block_at bs i)) (full : block_limit ≤ length (block_at bs i)) (cs : List Pairs) (is : cs ≡ insert (set bs i lo) (i + 1) hi) where
  parted_is : cs ≡ take i bs ++ lo ∷ hi ∷ drop (i + 1) bs
  parted_is =
      is
      ∙ ap₂ (λ (xs ys : List Pairs). xs ++ hi ∷ ys) (take_more_set bs i lo lt) (drop-set-lt (i + 1) bs i lo (omega arith))
      ∙ append_assoc (take i bs) (lo ∷ []) (hi ∷ drop (i + 1) bs)

  pub parted_same : joined cs ≡ joined bs
  parted_same =
      ap joined parted_is
      ∙ joined-append (take i bs) (lo ∷ hi ∷ drop (i + 1) bs)
      ∙ ap (λ l. joined (take i bs) ++ l) (sym (append_assoc lo hi (joined (drop (i + 1) bs))))
      ∙ ap (λ l. in_turn (joined (take i bs)) l (joined (drop (i + 1) bs))) (ap₂ (λ (xs ys : Pairs). xs ++ ys) lo_is hi_is ∙ take-append-drop 64 (block_at bs i))
      ∙ sym (joined_at bs i lt)

  pub parted_filled : AreFilled cs
  parted_filled =
      let P = λ (b : Pairs). 0 < length b in
      subst AreFilled (sym parted_is)
      (All-append P (take i bs) (lo ∷ hi ∷ drop (i + 1) bs) (All-take P i bs h.filled)
      (All-cons P lo (hi ∷ drop (i + 1) bs) (omega (arith, ap length lo_is, length-take 64 (block_at bs i)))
      (All-cons P hi (drop (i + 1) bs) (omega (arith, ap length hi_is, length-drop 64 (block_at bs i))) (All-drop P (i + 1) bs h.filled))))

pub taken : {X : Type 0} (b : Bool) (fs xs ys : List X) → fs ≡ (if b then xs else ys) → b ≡ true → fs ≡ xs
taken true fs xs ys is h = is
taken false fs xs ys is h = absurd (false≢true h)

-- ---- what was put into a block, if there was memory
module _ {A E : Type 0} (p : Prefix6) (v : Forward) (b c : Pairs) where
  pub filled_either : (r : Result A E) → OnOk r (c ≡ put prefix_cmp p v b) → OnErr r (c ≡ b) → 0 < length b → 0 < length c
  filled_either (Ok x) is same some = subst (λ l. 0 < length l) (sym is) (put_some p v b)
  filled_either (Err x) is same some = subst (λ l. 0 < length l) (sym same) some

-- ---- a place and a gap say what is found
pub found_placed : (bs : List Pairs) (p : Prefix6) (place : ℕ × ℕ) (v : Forward) → IsPlaced bs p place → find prefix_cmp p (block_at bs place.0) ≡ Some v → find prefix_cmp p (joined bs) ≡ Some v
found_placed bs p place v placed is = sym (find_home bs p place.0 placed.home) ∙ is

pub none_vacant : (bs : List Pairs) (p : Prefix6) (place : ℕ × ℕ) → IsVacant bs p place → find prefix_cmp p (joined bs) ≡ None
none_vacant [] p place vacant = refl
none_vacant (b ∷ bs) p place vacant =
    let some : 0 < length (b ∷ bs) = omega arith in
    sym (find_home (b ∷ bs) p place.0 (vacant.home some)) ∙ find_gap (block_at (b ∷ bs) place.0) p place.1 (vacant.gap some)

-- ---- blocks whose entries are those of others with one more, or one less
pub blocks_put : (bs cs : List Pairs) (p : Prefix6) (v : Forward) → AreBlocks bs → AreFilled cs → joined cs ≡ put prefix_cmp p v (joined bs) → AreBlocks cs
blocks_put bs cs p v h filled is = record { sorted = subst (λ l. T (is_sorted prefix_cmp l)) (sym is) (is_sorted-put prefix_cmp prefixes_total p v (joined bs) h.sorted); filled = filled }

pub blocks_same : (bs cs : List Pairs) → AreBlocks bs → AreFilled cs → joined cs ≡ joined bs → AreBlocks cs
blocks_same bs cs h filled is = record { sorted = subst (λ l. T (is_sorted prefix_cmp l)) (sym is) h.sorted; filled = filled }

-- ---- what holds once a block is parted: all is there as before
pub record IsParted (bs cs : List Pairs) : Type 0 where
  pub same : joined cs ≡ joined bs
  pub filled : AreFilled cs

pub are_parted : (bs ds : List Pairs) (i : ℕ) (b lo hi : Pairs) (cs : List Pairs) → ds ≡ bs → b ≡ get_or ds i b → lo ≡ take 64 b → hi ≡ drop 64 b
    → (ok : Bool) → cs ≡ (if ok then insert (set ds i lo) (i + 1) hi else set ds i lo) → ok ≡ true
    → AreBlocks bs → i < length bs → block_limit ≤ length (block_at bs i) → IsParted bs cs
are_parted bs ds i b lo hi cs ds_is b_is lo_is hi_is ok cs_is went h lt full =
    let block : b ≡ block_at bs i = get_or_read bs i b lt (b_is ∙ ap (λ l. get_or l i b) ds_is) [] in
    let low : lo ≡ take 64 (block_at bs i) = lo_is ∙ ap (take 64) block in
    let high : hi ≡ drop 64 (block_at bs i) = hi_is ∙ ap (drop 64) block in
    let is : cs ≡ insert (set bs i lo) (i + 1) hi = taken ok cs _ _ cs_is went ∙ ap (λ l. insert (set l i lo) (i + 1) hi) ds_is in
    record { same = parted_same bs i h lt lo hi low high full cs is; filled = parted_filled bs i h lt lo hi low high full cs is }

-- the same entries are in some blocks again
pub some_blocks : (bs cs : List Pairs) → joined cs ≡ joined bs → AreFilled bs → 0 < length bs → 0 < length cs
some_blocks bs (c ∷ cs) same filled lt = omega arith
some_blocks [] [] same filled lt = absurd (omega arith)
some_blocks (b ∷ bs) [] same filled lt =
    let none : 0 ≡ length (b ++ joined bs) = ap length same in
    let some : 0 < length b = filled 0 [] (omega arith) in
    absurd (omega (arith, none, some, length-append b (joined bs)))

-- ---- what has a place is found
pub placed_some : (bs : List Pairs) → AreBlocks bs → (p : Prefix6) (place : ℕ × ℕ) (d : Pair) → IsPlaced bs p place → find prefix_cmp p (joined bs) ≡ Some (get_or (block_at bs place.0) place.1 d).1
placed_some bs h p place d placed =
    found_placed bs p place _ placed (find_at (block_at bs place.0) p place.1 d (sorted_block bs h place.0 placed.home.in_range) placed.place)
