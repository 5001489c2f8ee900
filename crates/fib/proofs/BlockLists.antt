-- Blocks of entries one after the other, and the one in which a prefix is at home.
use Rattle.std.proofs.Common.{◌≡◌, ◌≢◌, ℕ, zero, suc, ◌+◌, ◌-◌, ◌/◌, ◌<◌, ◌≤◌, List, [], ◌∷◌, ◌++◌, length, take, drop, set, Option, Some, None, refl, sym, ap, subst, ◌∙◌, arith, add-one, append_assoc, length-append}
use Rattle.std.specs.Prelude.{T, All}
use Rattle.std.specs.Option.{option_or}
use Rattle.std.specs.declared.cmp.Ordering.{Ordering}
use Rattle.std.specs.declared.cmp.Ordering.TheVariants.{Less, Equal, Greater}
use Rattle.std.specs.FinMap.{is_sorted}
use Rattle.std.specs.FinMap.Entries.{find, put}
use Rattle.std.proofs.lemmas.List.{append-nil, take-append-drop, drop_more, drop_all, take_more, get_or_append_left, get_or-append-add, set_split}
use Rattle.prefix6.specs.Prefix.{Prefix6, prefix_cmp}
use Rattle.prefix6.specs.Places.{prefix_at, IsAt}
use Rattle.prefix6.proofs.PrefixLaws.{prefixes_total, exact_prefixes}
use Rattle.prefix6.proofs.SortedEntries.{sorted_at, below_at}
use Rattle.fib.specs.Forwarding.{Forward}
use Rattle.fib.specs.Blocks.{Pairs, joined, block_at, without, StartsAt, AreBlocks, IsHome, IsFrom}
use Rattle.fib.proofs.Gaps.{and_left, turned, sorted_back, sorted_front}
use Rattle.fib.proofs.EntryParts.{Pair, find-append, find_none, put_left, put_right, without_append, without_none, less_not_self}

abbrev pub in_turn : Pairs → Pairs → Pairs → Pairs
in_turn own low high = own ++ (low ++ high)

-- ---- lists of blocks
pub joined-append : (xs ys : List Pairs) → joined (xs ++ ys) ≡ joined xs ++ joined ys
joined-append [] ys = refl
joined-append (x ∷ xs) ys = ap (λ l. x ++ l) (joined-append xs ys) ∙ sym (append_assoc x (joined xs) (joined ys))

pub joined_drop : (bs : List Pairs) (i : ℕ) → i < length bs → joined (drop i bs) ≡ block_at bs i ++ joined (drop (i + 1) bs)
joined_drop bs i lt = ap joined (drop_more bs i [] lt)

pub joined_take : (bs : List Pairs) (i : ℕ) → i < length bs → joined (take (i + 1) bs) ≡ joined (take i bs) ++ block_at bs i
joined_take bs i lt = ap joined (take_more bs i [] lt) ∙ joined-append (take i bs) (block_at bs i ∷ []) ∙ ap (λ l. joined (take i bs) ++ l) (append-nil (block_at bs i))

pub joined_parts : (bs : List Pairs) (i : ℕ) → joined bs ≡ joined (take i bs) ++ joined (drop i bs)
joined_parts bs i = ap joined (sym (take-append-drop i bs)) ∙ joined-append (take i bs) (drop i bs)

-- before a block, in it and behind it
pub joined_at : (bs : List Pairs) (i : ℕ) → i < length bs → joined bs ≡ in_turn (joined (take i bs)) (block_at bs i) (joined (drop (i + 1) bs))
joined_at bs i lt = joined_parts bs i ∙ ap (λ l. joined (take i bs) ++ l) (joined_drop bs i lt)

pub joined_set : (bs : List Pairs) (i : ℕ) (b : Pairs) → i < length bs → joined (set bs i b) ≡ in_turn (joined (take i bs)) b (joined (drop (i + 1) bs))
joined_set bs i b lt = ap joined (set_split bs i b lt ∙ ap (λ n. take i bs ++ b ∷ drop n bs) (sym (add-one i))) ∙ joined-append (take i bs) (b ∷ drop (i + 1) bs)

-- ---- sorted lists one after the other
-- what lies in the first comes before what lies in the second
pub cross : (xs ys : Pairs) (i j : ℕ) (d : Pair) → T (is_sorted prefix_cmp (xs ++ ys)) → i < length xs → j < length ys → prefix_cmp (prefix_at xs i d) (prefix_at ys j d) ≡ Less
cross xs ys i j d h lt in_range =
    subst (λ (e : Pair). prefix_cmp e.0 (prefix_at ys j d) ≡ Less) (get_or_append_left xs ys d i lt)
    (subst (λ (e : Pair). prefix_cmp (prefix_at (xs ++ ys) i d) e.0 ≡ Less) (get_or-append-add xs ys j d)
    (sorted_at (xs ++ ys) i (length xs + j) d h (omega arith) (omega (arith, length-append xs ys))))

-- ---- orders
less_by : (x f p : Prefix6) → prefix_cmp x f ≡ Less → (prefix_cmp p f ≡ Less → ⊥) → prefix_cmp x p ≡ Less
less_by x f p lt not = go (prefix_cmp p f) refl
  where
    go : (o : Ordering) → prefix_cmp p f ≡ o → prefix_cmp x p ≡ Less
    go Less is = absurd (not is)
    go Equal is = subst (λ q. prefix_cmp x q ≡ Less) (sym (exact_prefixes p f is)) lt
    go Greater is = prefixes_total.trans x f p lt (turned p f Greater is)

differs_below : (x p : Prefix6) → prefix_cmp x p ≡ Less → x ≢ p
differs_below x p lt is = less_not_self p (subst (λ q. prefix_cmp q p ≡ Less) is lt)

differs_above : (x p : Prefix6) → prefix_cmp p x ≡ Less → x ≢ p
differs_above x p lt is = less_not_self p (subst (λ q. prefix_cmp p q ≡ Less) is lt)

or_none : (o : Option Forward) → option_or o None ≡ o
or_none None = refl
or_none (Some x) = refl

-- ---- where blocks lie to a prefix
module _ (bs : List Pairs) (h : AreBlocks bs) (m : ℕ) (lt : m < length bs) where
  filled_at : 0 < length (block_at bs m)
  filled_at = h.filled m [] lt

  sorted_parts : T (is_sorted prefix_cmp (in_turn (joined (take m bs)) (block_at bs m) (joined (drop (m + 1) bs))))
  sorted_parts = subst (λ l. T (is_sorted prefix_cmp l)) (joined_at bs m lt) h.sorted

  sorted_from : T (is_sorted prefix_cmp (block_at bs m ++ joined (drop (m + 1) bs)))
  sorted_from = sorted_back (joined (take m bs)) (block_at bs m ++ joined (drop (m + 1) bs)) sorted_parts

  pub sorted_block : T (is_sorted prefix_cmp (block_at bs m))
  sorted_block = sorted_front (block_at bs m) (joined (drop (m + 1) bs)) sorted_from

  -- each entry before the block comes before each in it
  pub before_block : (k j : ℕ) (d : Pair) → k < length (joined (take m bs)) → j < length (block_at bs m) → prefix_cmp (prefix_at (joined (take m bs)) k d) (prefix_at (block_at bs m) j d) ≡ Less
  before_block k j d k_in j_in =
      subst (λ (e : Pair). prefix_cmp (prefix_at (joined (take m bs)) k d) e.0 ≡ Less) (get_or_append_left (block_at bs m) (joined (drop (m + 1) bs)) d j j_in)
      (cross (joined (take m bs)) (block_at bs m ++ joined (drop (m + 1) bs)) k j d sorted_parts k_in (omega (arith, length-append (block_at bs m) (joined (drop (m + 1) bs)))))

  behind_block : (j k : ℕ) (d : Pair) → j < length (block_at bs m) → k < length (joined (drop (m + 1) bs)) → prefix_cmp (prefix_at (block_at bs m) j d) (prefix_at (joined (drop (m + 1) bs)) k d) ≡ Less
  behind_block j k d j_in k_in = cross (block_at bs m) (joined (drop (m + 1) bs)) j k d sorted_from j_in k_in

  -- a prefix that has a place in the block is at home there
  pub home_of_place : (p : Prefix6) (j : ℕ) → IsAt (block_at bs m) p j → IsHome bs p m
  home_of_place p j a = record {
    in_range = lt;
    below = λ k d k_in. subst (λ q. prefix_cmp (prefix_at (joined (take m bs)) k d) q ≡ Less) (a.has_prefix d) (before_block k j d k_in a.in_range);
    above = λ k d k_in. subst (λ q. prefix_cmp q (prefix_at (joined (drop (m + 1) bs)) k d) ≡ Less) (a.has_prefix d) (behind_block j k d a.in_range k_in);
  }

  module _ (f p : Prefix6) (s : StartsAt f (block_at bs m)) where
    starts_with : (b : Pairs) → 0 < length b → StartsAt f b → (d : Pair) → prefix_at b 0 d ≡ f
    starts_with [] some is d = absurd (omega arith)
    starts_with (e ∷ b) some is d = is

    -- where the block begins no later than the prefix, so it is said of its first entry
    pub begins_from : (prefix_cmp p f ≡ Less → ⊥) → IsFrom bs p m
    begins_from not later d less = not (subst (λ q. prefix_cmp p q ≡ Less) (starts_with (block_at bs m) filled_at s d) less)

    -- where the block begins no later than the prefix, all before it lies below
    pub below_from : (prefix_cmp p f ≡ Less → ⊥) → All (λ e. prefix_cmp e.0 p ≡ Less) (joined (take m bs))
    below_from not k d k_in = less_by (prefix_at (joined (take m bs)) k d) f p (subst (λ q. prefix_cmp (prefix_at (joined (take m bs)) k d) q ≡ Less) (starts_with (block_at bs m) filled_at s d) (before_block k 0 d k_in filled_at)) not

    -- where it begins behind the prefix, all from it on lies above
    pub above_from : prefix_cmp p f ≡ Less → All (λ e. prefix_cmp p e.0 ≡ Less) (joined (drop m bs))
    above_from less = subst (All (λ e. prefix_cmp p e.0 ≡ Less)) (sym (joined_drop bs m lt)) (all_behind (block_at bs m) (joined (drop (m + 1) bs)) filled_at s sorted_from)
      where
        all_behind : (b rest : Pairs) → 0 < length b → StartsAt f b → T (is_sorted prefix_cmp (b ++ rest)) → All (λ e. prefix_cmp p e.0 ≡ Less) (b ++ rest)
        all_behind [] rest some is sorted k d k_in = absurd (omega arith)
        all_behind (e ∷ b) rest some is sorted zero d k_in = subst (λ q. prefix_cmp p q ≡ Less) (sym is) less
        all_behind (e ∷ b) rest some is sorted (suc k) d k_in = prefixes_total.trans p f _ less (subst (λ q. prefix_cmp q (prefix_at (b ++ rest) k d) ≡ Less) is (below_at e.0 (b ++ rest) k d (and_left _ _ sorted) (omega arith)))

-- ---- what is done at the home of a prefix is done to the whole
module _ (bs : List Pairs) (p : Prefix6) (i : ℕ) (h : IsHome bs p i) where
  others_below : All (λ e. e.0 ≢ p) (joined (take i bs))
  others_below k d lt = differs_below _ p (h.below k d lt)

  others_above : All (λ e. e.0 ≢ p) (joined (drop (i + 1) bs))
  others_above k d lt = differs_above _ p (h.above k d lt)

  pub find_home : find prefix_cmp p (block_at bs i) ≡ find prefix_cmp p (joined bs)
  find_home = sym (
      ap (find prefix_cmp p) (joined_at bs i h.in_range)
      ∙ find-append p (joined (take i bs)) (block_at bs i ++ joined (drop (i + 1) bs))
      ∙ ap (λ o. option_or o (find prefix_cmp p (block_at bs i ++ joined (drop (i + 1) bs)))) (find_none p (joined (take i bs)) others_below)
      ∙ find-append p (block_at bs i) (joined (drop (i + 1) bs))
      ∙ ap (option_or (find prefix_cmp p (block_at bs i))) (find_none p (joined (drop (i + 1) bs)) others_above)
      ∙ or_none (find prefix_cmp p (block_at bs i)))

  pub put_home : (v : Forward) (b : Pairs) → b ≡ put prefix_cmp p v (block_at bs i) → joined (set bs i b) ≡ put prefix_cmp p v (joined bs)
  put_home v b is =
      joined_set bs i b h.in_range
      ∙ ap (λ l. in_turn (joined (take i bs)) l (joined (drop (i + 1) bs))) is
      ∙ ap (λ l. joined (take i bs) ++ l) (sym (put_left p v (block_at bs i) (joined (drop (i + 1) bs)) h.above))
      ∙ sym (put_right p v (joined (take i bs)) (block_at bs i ++ joined (drop (i + 1) bs)) (λ k d lt. turned _ p Less (h.below k d lt)))
      ∙ ap (put prefix_cmp p v) (sym (joined_at bs i h.in_range))

  pub without_home : (b : Pairs) → b ≡ without p (block_at bs i) → joined (set bs i b) ≡ without p (joined bs)
  without_home b is =
      joined_set bs i b h.in_range
      ∙ ap (λ l. in_turn (joined (take i bs)) l (joined (drop (i + 1) bs))) is
      ∙ sym (
      ap (without p) (joined_at bs i h.in_range)
      ∙ without_append p (joined (take i bs)) (block_at bs i ++ joined (drop (i + 1) bs))
      ∙ ap (λ l. l ++ without p (block_at bs i ++ joined (drop (i + 1) bs))) (without_none p (joined (take i bs)) others_below)
      ∙ ap (λ l. joined (take i bs) ++ l) (without_append p (block_at bs i) (joined (drop (i + 1) bs)) ∙ ap (λ l. without p (block_at bs i) ++ l) (without_none p (joined (drop (i + 1) bs)) others_above)))

-- ---- a search for the home of a prefix
pub record IsNarrowed (bs : List Pairs) (p : Prefix6) (low high middle : ℕ) : Type 0 where
  pub in_range : high ≤ length bs
  pub some : low < high
  pub from : low + 1 < high → low < middle
  pub to : low + 1 < high → middle < high
  pub below : All (λ e. prefix_cmp e.0 p ≡ Less) (joined (take low bs))
  pub above : All (λ e. prefix_cmp p e.0 ≡ Less) (joined (drop high bs))
  pub begins : IsFrom bs p low

module _ (bs : List Pairs) (p : Prefix6) where
  pub narrow_none : (n m : ℕ) → n ≡ length bs → 0 < n → m + 1 ≡ n → IsNarrowed bs p 0 n m
  narrow_none n m is some last = record {
    in_range = omega arith;
    some = some;
    from = λ lt. omega arith;
    to = λ lt. omega arith;
    below = λ k d lt. absurd (omega arith);
    above = subst (λ l. All (λ e. prefix_cmp p e.0 ≡ Less) (joined l)) (sym (drop_all n bs (omega arith))) (λ k d lt. absurd (omega arith));
    begins = λ none. absurd (omega arith);
  }

  module _ (h : AreBlocks bs) (low high m : ℕ) (n : IsNarrowed bs p low high m) (more : low + 1 < high) (f : Prefix6) (s : StartsAt f (block_at bs m)) where
    pub narrow_below : (next : ℕ) → next ≡ low + (m - low) / 2 → prefix_cmp p f ≡ Less → IsNarrowed bs p low m next
    narrow_below next is less =
        let inside : low < m = n.from more in
        let to_high : m < high = n.to more in
        record {
          in_range = omega (arith, n.in_range);
          some = inside;
          from = λ lt. omega arith;
          to = λ lt. omega arith;
          below = n.below;
          above = above_from bs h m (omega (arith, n.in_range)) f p s less;
          begins = n.begins;
        }

    pub narrow_above : (next : ℕ) → next ≡ m + (high - m) / 2 → (prefix_cmp p f ≡ Less → ⊥) → IsNarrowed bs p m high next
    narrow_above next is not =
        let inside : low < m = n.from more in
        let to_high : m < high = n.to more in
        record {
          in_range = n.in_range;
          some = to_high;
          from = λ lt. omega arith;
          to = λ lt. omega arith;
          below = below_from bs h m (omega (arith, n.in_range)) f p s not;
          above = n.above;
          begins = begins_from bs h m (omega (arith, n.in_range)) f p s not;
        }

  pub narrowed : (low high m : ℕ) → IsNarrowed bs p low high m → high ≤ low + 1 → IsHome bs p low
  narrowed low high m n le =
      let same : high ≡ low + 1 = omega (arith, n.some) in
      record {
        in_range = omega (arith, n.some, n.in_range);
        below = n.below;
        above = subst (λ i. All (λ e. prefix_cmp p e.0 ≡ Less) (joined (drop i bs))) same n.above;
      }
