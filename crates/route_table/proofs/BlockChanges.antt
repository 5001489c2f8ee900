-- Blocks after one of them was changed, parted or taken out.
use Rattle.std.proofs.Common.{◌≡◌, ℕ, zero, suc, Bool, true, false, if◌then◌else◌, get_or, ◌+◌, ◌-◌, ◌<◌, ◌≤◌, List, [], ◌∷◌, ◌++◌, length, take, drop, set, map, Result, Ok, Err, refl, sym, ap, ap₂, subst, ◌∙◌, arith, append_assoc, length-append, length-take, length-drop}
use mathlib.Core.Bool.{false≢true}
use Rattle.std.specs.Prelude.{T, All, OnOk, OnErr}
use Rattle.std.specs.List.{insert, remove}
use Rattle.std.specs.declared.cmp.Ordering.TheVariants.{Less}
use Rattle.std.specs.FinMap.{is_sorted}
use Rattle.std.specs.FinMap.Entries.{put, is_sorted-where_key}
use Rattle.std.proofs.lemmas.List.{append-nil, take_all, drop_all, drop_more, length-map, take_at, drop_at, get_or_at, get_or_read, length_push, length-take-le, length-set, get_or_append_left, set-append_left, take_more_set, drop-set-lt, take-append-drop}
use Rattle.std.proofs.lemmas.List.Elements.{All-append, All-cons, All-take, All-drop, All-set, All-map, All-weaker, filter_map-append}
use Rattle.std.specs.Option.{option_map}
use Rattle.prefix6.specs.Prefix.{Prefix6, prefix_cmp}
use Rattle.prefix6.proofs.PrefixLaws.{prefixes_total}
use Rattle.route_table.specs.Route.{RouteValue}
use Rattle.route_table.specs.Place.{Entries}
use Rattle.route_table.specs.Table.{map_entries}
use Rattle.route_table.specs.Due.{without_mark}
use Rattle.route_table.specs.Summary.{SummaryValue, both}
use Rattle.route_table.specs.Trie.{in_turn, without}
use Rattle.route_table.specs.Blocks.{block_limit, joined, block_at, Covers, StartsAt, AreBlocks, AreFilled, IsHome, HasRoom}
use Rattle.route_table.proofs.SortedMarks.{written_back}
use Rattle.route_table.proofs.BlockBounds.{covers_join}
use Rattle.route_table.proofs.BlockLists.{joined-append, joined_at, joined_take, sorted_right, before_block, below_from, above_from}
use Rattle.route_table.proofs.BlockEdits.{sorted_left}
use Rattle.route_table.proofs.TrieLists.{Entry, put_right, put_some, turned}
use Rattle.route_table.proofs.TrieMarks.{plain_length}

-- ---- marks
abbrev pub plain : Entries → Entries
plain = map_entries without_mark

plain-append : (xs ys : Entries) → plain (xs ++ ys) ≡ plain xs ++ plain ys
plain-append = filter_map-append (λ (e : Entry). option_map (λ r. (e.0, r)) (without_mark e.1))

pub joined_plain : (bs : List Entries) → joined (map plain bs) ≡ plain (joined bs)
joined_plain [] = refl
joined_plain (b ∷ bs) = ap (λ l. plain b ++ l) (joined_plain bs) ∙ sym (plain-append b (joined bs))

pub filled_plain : (bs : List Entries) → AreFilled bs → AreFilled (map plain bs)
filled_plain bs h = All-map (λ (b : Entries). 0 < length b) plain bs (All-weaker (λ (b : Entries). 0 < length b) (λ (b : Entries). 0 < length (plain b)) (λ b some. omega (arith, plain_length b)) bs h)

pub all_plain : (bs : List Entries) (n : ℕ) → length bs ≤ n → map plain (take n bs) ++ drop n bs ≡ map plain bs
all_plain bs n le = ap₂ (λ (xs ys : List Entries). map plain xs ++ ys) (take_all n bs le) (drop_all n bs le) ∙ append-nil (map plain bs)

-- a block that a loop over all has not come past is as before
pub not_yet : (bs cs : List Entries) (k : ℕ) (b : Entries) → k < length bs → cs ≡ map plain (take k bs) ++ drop k bs → b ≡ get_or cs k b → b ≡ block_at bs k
not_yet bs cs k b lt is here =
    let front = map plain (take k bs) in
    let long : length front ≡ k = length-map (take k bs) plain ∙ omega (arith, length-take k bs) in
    get_or_read bs k b lt (here ∙ ap (λ l. get_or l k b) (is ∙ ap (λ l. front ++ l) (drop_more bs k b lt)) ∙ get_or_at front _ _ b k long) []

-- a bound of one block more
pub plain_more : (bs : List Entries) (k : ℕ) (s t : SummaryValue) (b : Entries) → k < length bs → b ≡ plain (block_at bs k) → Covers s (joined (map plain (take k bs))) → Covers t b → Covers (both s t) (joined (map plain (take (k + 1) bs)))
plain_more bs k s t b lt is h one =
    subst (Covers (both s t)) (sym (joined_plain (take (k + 1) bs) ∙ ap plain (joined_take bs k lt) ∙ plain-append (joined (take k bs)) (block_at bs k)))
    (covers_join s t (plain (joined (take k bs))) (plain (block_at bs k)) (subst (Covers s) (joined_plain (take k bs)) h) (subst (Covers t) is one))

-- ---- one taken out
pub removed_empty : (bs : List Entries) (i : ℕ) → i < length bs → length (block_at bs i) ≡ 0 → joined (remove bs i) ≡ joined bs
removed_empty [] i lt none = absurd (omega arith)
removed_empty ([] ∷ bs) zero lt none = refl
removed_empty ((e ∷ b) ∷ bs) zero lt none = absurd (omega arith)
removed_empty (b ∷ bs) (suc i) lt none = ap (λ l. b ++ l) (removed_empty bs i (omega arith) none)

-- ---- what is left where a route was taken out
pub left_blocks : (bs : List Entries) (p : Prefix6) (i : ℕ) (b : Entries) → AreBlocks bs → joined (set bs i b) ≡ without p (joined bs) → 0 < length b → AreBlocks (set bs i b)
left_blocks bs p i b h is some = record {
  sorted = subst (λ l. T (is_sorted prefix_cmp l)) (sym is) (is_sorted-where_key {X = RouteValue} prefix_cmp _ (joined bs) h.sorted);
  filled = All-set (λ (b : Entries). 0 < length b) bs i b some h.filled;
}

pub same_blocks : (bs cs : List Entries) → AreBlocks bs → joined cs ≡ joined bs → AreFilled cs → AreBlocks cs
same_blocks bs cs h same filled = record { sorted = subst (λ l. T (is_sorted prefix_cmp l)) (sym same) h.sorted; filled = filled }

-- ---- two side by side that become one: the last of fs takes what the first of us has
pub side_by_side : (fs us : List Entries) (i : ℕ) → length fs ≡ i + 1 → 0 < length us → T (is_sorted prefix_cmp (joined (fs ++ us))) → (x y : Entries) → T (is_sorted prefix_cmp (get_or fs i x ++ get_or us 0 y))
side_by_side [] us i len some h x y = absurd (omega arith)
side_by_side (f ∷ fs) [] i len some h x y = absurd (omega arith)
side_by_side (f ∷ []) (u ∷ us) zero len some h x y = sorted_left (f ++ u) (joined us) (subst (λ l. T (is_sorted prefix_cmp l)) (sym (append_assoc f u (joined us))) h)
side_by_side (f ∷ []) (u ∷ us) (suc i) len some h x y = absurd (omega arith)
side_by_side (f ∷ g ∷ fs) (u ∷ us) zero len some h x y = absurd (omega arith)
side_by_side (f ∷ g ∷ fs) (u ∷ us) (suc i) len some h x y = side_by_side (g ∷ fs) (u ∷ us) i (omega arith) some (sorted_right f (joined ((g ∷ fs) ++ u ∷ us)) h) x y

joined_over : (fs us : List Entries) (i : ℕ) (x y c : Entries) → length fs ≡ i + 1 → 0 < length us → c ≡ get_or fs i x ++ get_or us 0 y → joined (remove (set fs i c ++ us) (suc i)) ≡ joined (fs ++ us)
joined_over [] us i x y c len some is = absurd (omega arith)
joined_over (f ∷ fs) [] i x y c len some is = absurd (omega arith)
joined_over (f ∷ []) (u ∷ us) zero x y c len some is = ap (λ l. l ++ joined us) is ∙ append_assoc f u (joined us)
joined_over (f ∷ []) (u ∷ us) (suc i) x y c len some is = absurd (omega arith)
joined_over (f ∷ g ∷ fs) (u ∷ us) zero x y c len some is = absurd (omega arith)
joined_over (f ∷ g ∷ fs) (u ∷ us) (suc i) x y c len some is = ap (λ l. f ++ l) (joined_over (g ∷ fs) (u ∷ us) i x y c (omega arith) some is)

filled_without : (bs : List Entries) (i : ℕ) → AreFilled bs → AreFilled (remove bs i)
filled_without bs i h =
    let P = λ (b : Entries). 0 < length b in
    All-append P (take i bs) (drop (suc i) bs) (All-take P i bs h) (All-drop P (suc i) bs h)

pub record IsJoined (bs cs : List Entries) : Type 0 where
  pub same : joined cs ≡ joined bs
  pub filled : AreFilled cs

-- bs was lent as fs and us, the last of fs became c, and the block behind it was taken out
pub is_joined : (bs fs us cs : List Entries) (n at : ℕ) (x y c : Entries) → AreBlocks bs → bs ≡ fs ++ us → length fs ≡ at → (at ≡ 0 → ⊥) → at < length bs → n ≡ length bs
    → c ≡ get_or fs (at - 1) x ++ get_or us 0 y → cs ≡ remove (take n ((set fs (at - 1) c ++ us) ++ drop (length (set fs (at - 1) c ++ us)) bs)) at → IsJoined bs cs
is_joined bs fs us cs n at x y c h parts len not lt counted is cs_is =
    let i = at - 1 in
    let next : at ≡ suc i = omega (arith, not) in
    let inside : i < length fs = omega (arith, len, not) in
    let same : length (set fs i c ++ us) ≡ length bs = length-append (set fs i c) us ∙ ap (λ m. m + length us) (length-set fs i c) ∙ sym (ap length parts ∙ length-append fs us) in
    let whole : cs ≡ remove (set fs i c ++ us) (suc i) = cs_is ∙ ap₂ (λ (l : List Entries) (m : ℕ). remove l m) (written_back n (set fs i c ++ us) bs counted same) next in
    let some : 0 < length c = omega (arith, ap length is, length-append (get_or fs i x) (get_or us 0 y), subst (λ (l : Entries). 0 < length l) (ap (λ l. get_or l i x) parts ∙ get_or_append_left fs us x i inside) (h.filled i x (omega (arith, lt)))) in
    record {
      same = ap joined whole ∙ joined_over fs us i x y c (omega (arith, len, not)) (omega (arith, len, lt, ap length parts, length-append fs us)) is ∙ sym (ap joined parts);
      filled = subst AreFilled (sym whole) (filled_without (set fs i c ++ us) (suc i)
          (subst AreFilled (set-append_left fs us i c inside) (All-set (λ (b : Entries). 0 < length b) (fs ++ us) i c some (subst AreFilled parts h.filled))));
    }

-- ---- one more at the end
pub joined_push : (bs : List Entries) (p : Prefix6) (v : RouteValue) → All (λ e. prefix_cmp e.0 p ≡ Less) (joined bs) → joined (bs ++ ((p, v) ∷ []) ∷ []) ≡ put prefix_cmp p v (joined bs)
joined_push bs p v h =
    joined-append bs (((p, v) ∷ []) ∷ [])
    ∙ sym (put_right p v (joined bs) [] (λ k d lt. turned _ p Less (h k d lt)))
    ∙ ap (put prefix_cmp p v) (append-nil (joined bs))

-- where the last block lies before a prefix, all do
pub all_behind : (bs : List Entries) (h : AreBlocks bs) (m : ℕ) (p : Prefix6) → m + 1 ≡ length bs → All (λ e. prefix_cmp e.0 p ≡ Less) (block_at bs m) → All (λ e. prefix_cmp e.0 p ≡ Less) (joined bs)
all_behind bs h m p last all =
    let lt : m < length bs = omega arith in
    let some : 0 < length (block_at bs m) = h.filled m [] lt in
    let nothing : joined (drop (m + 1) bs) ≡ [] = ap joined (drop_all (m + 1) bs (omega arith)) in
    let P = λ (e : Entry). prefix_cmp e.0 p ≡ Less in
    subst (All P) (sym (joined_at bs m lt))
    (All-append P (joined (take m bs)) (block_at bs m ++ joined (drop (m + 1) bs))
    (λ k d k_in. prefixes_total.trans _ _ p (before_block bs h m lt k 0 d k_in some) (all 0 d some))
    (All-append P (block_at bs m) (joined (drop (m + 1) bs)) all (subst (All P) (sym nothing) (λ k d k_in. absurd (omega arith)))))

-- ---- a block parted in two
module _ (ts rs : List Entries) (lo hi : Entries) (i : ℕ) (len : length ts ≡ i) where
  regrouped : ts ++ lo ∷ hi ∷ rs ≡ (ts ++ lo ∷ []) ++ hi ∷ rs
  regrouped = sym (append_assoc ts (lo ∷ []) (hi ∷ rs))

  regrouped_behind : ts ++ lo ∷ hi ∷ rs ≡ ((ts ++ lo ∷ []) ++ hi ∷ []) ++ rs
  regrouped_behind = regrouped ∙ sym (append_assoc (ts ++ lo ∷ []) (hi ∷ []) rs)

  one_more : length (ts ++ lo ∷ []) ≡ i + 1
  one_more = omega (arith, length_push ts lo)

  two_more : length ((ts ++ lo ∷ []) ++ hi ∷ []) ≡ i + 1 + 1
  two_more = omega (arith, one_more, length_push (ts ++ lo ∷ []) hi)

  take_lower : take i (ts ++ lo ∷ hi ∷ rs) ≡ ts
  take_lower = take_at ts (lo ∷ hi ∷ rs) i len

  lower_at : block_at (ts ++ lo ∷ hi ∷ rs) i ≡ lo
  lower_at = get_or_at ts lo (hi ∷ rs) [] i len

  upper_at : block_at (ts ++ lo ∷ hi ∷ rs) (i + 1) ≡ hi
  upper_at = ap (λ l. block_at l (i + 1)) regrouped ∙ get_or_at (ts ++ lo ∷ []) hi rs [] (i + 1) one_more

  drop_upper : drop (i + 1 + 1) (ts ++ lo ∷ hi ∷ rs) ≡ rs
  drop_upper = ap (drop (i + 1 + 1)) regrouped_behind ∙ drop_at ((ts ++ lo ∷ []) ++ hi ∷ []) rs (i + 1 + 1) two_more

  parted_length : length (ts ++ lo ∷ hi ∷ rs) ≡ i + 1 + 1 + length rs
  parted_length = omega (arith, ap length regrouped_behind, length-append ((ts ++ lo ∷ []) ++ hi ∷ []) rs, two_more)

  joined_parted : joined (ts ++ lo ∷ hi ∷ rs) ≡ in_turn (joined ts) (lo ++ hi) (joined rs)
  joined_parted = joined-append ts (lo ∷ hi ∷ rs) ∙ ap (λ l. joined ts ++ l) (sym (append_assoc lo hi (joined rs)))

  filled_parted : AreFilled ts → AreFilled rs → 0 < length lo → 0 < length hi → AreFilled (ts ++ lo ∷ hi ∷ rs)
  filled_parted t r l h =
      let P = λ (b : Entries). 0 < length b in
      All-append P ts (lo ∷ hi ∷ rs) t (All-cons P lo (hi ∷ rs) l (All-cons P hi rs h r))

-- the block i of bs has become two
module _ (bs : List Entries) (i : ℕ) (h : AreBlocks bs) (lt : i < length bs) (lo hi : Entries) (lo_is : lo ≡ take 64 (block_at bs i)) (hi_is : hi ≡ drop 64 (block_at bs i)) (full : block_limit ≤ length (block_at bs i)) (cs : List Entries) (is : cs ≡ insert (set bs i lo) (i + 1) hi) where
  parted_is : cs ≡ take i bs ++ lo ∷ hi ∷ drop (i + 1) bs
  parted_is =
      is
      ∙ ap₂ (λ (xs ys : List Entries). xs ++ hi ∷ ys) (take_more_set bs i lo lt) (drop-set-lt (i + 1) bs i lo (omega arith))
      ∙ append_assoc (take i bs) (lo ∷ []) (hi ∷ drop (i + 1) bs)

  front_length : length (take i bs) ≡ i
  front_length = length-take-le i bs (omega arith)

  pub parted_same : joined cs ≡ joined bs
  parted_same =
      ap joined parted_is
      ∙ joined_parted (take i bs) (drop (i + 1) bs) lo hi i front_length
      ∙ ap (λ l. in_turn (joined (take i bs)) l (joined (drop (i + 1) bs))) (ap₂ (λ (xs ys : Entries). xs ++ ys) lo_is hi_is ∙ take-append-drop 64 (block_at bs i))
      ∙ sym (joined_at bs i lt)

  pub parted_filled : AreFilled cs
  parted_filled = subst AreFilled (sym parted_is) (filled_parted (take i bs) (drop (i + 1) bs) lo hi i front_length
      (All-take (λ (b : Entries). 0 < length b) i bs h.filled) (All-drop (λ (b : Entries). 0 < length b) (i + 1) bs h.filled)
      (omega (arith, ap length lo_is, length-take 64 (block_at bs i))) (omega (arith, ap length hi_is, length-drop 64 (block_at bs i))))

  parted_blocks : AreBlocks cs
  parted_blocks = record { sorted = subst (λ l. T (is_sorted prefix_cmp l)) (sym parted_same) h.sorted; filled = parted_filled }

  in_it : i + 1 < length cs
  in_it = omega (arith, ap length parted_is, parted_length (take i bs) (drop (i + 1) bs) lo hi i front_length)

  upper_is : block_at cs (i + 1) ≡ hi
  upper_is = ap (λ l. block_at l (i + 1)) parted_is ∙ upper_at (take i bs) (drop (i + 1) bs) lo hi i front_length

  lower_is : block_at cs i ≡ lo
  lower_is = ap (λ l. block_at l i) parted_is ∙ lower_at (take i bs) (drop (i + 1) bs) lo hi i front_length

  module _ (p f : Prefix6) (home : IsHome bs p i) (starts : StartsAt f hi) where
    starts_upper : StartsAt f (block_at cs (i + 1))
    starts_upper = subst (StartsAt f) (sym upper_is) starts

    pub room_below : prefix_cmp p f ≡ Less → HasRoom cs p i
    room_below less = record {
      home = record {
        in_range = omega (arith, in_it);
        below = subst (λ l. All (λ e. prefix_cmp e.0 p ≡ Less) (joined l)) (sym (ap (take i) parted_is ∙ take_lower (take i bs) (drop (i + 1) bs) lo hi i front_length)) home.below;
        above = above_from cs parted_blocks (i + 1) in_it f p starts_upper less;
      };
      room = omega (arith, ap length lower_is, ap length lo_is, length-take 64 (block_at bs i));
    }

    pub room_above : length hi < block_limit → (prefix_cmp p f ≡ Less → ⊥) → HasRoom cs p (i + 1)
    room_above room not = record {
      home = record {
        in_range = in_it;
        below = below_from cs parted_blocks (i + 1) in_it f p starts_upper not;
        above = subst (λ l. All (λ e. prefix_cmp p e.0 ≡ Less) (joined l)) (sym (ap (drop (i + 1 + 1)) parted_is ∙ drop_upper (take i bs) (drop (i + 1) bs) lo hi i front_length)) home.above;
      };
      room = omega (arith, room, ap length upper_is);
    }

-- ---- what was put into a block, if there was memory
module _ {A E : Type 0} (p : Prefix6) (v : RouteValue) (b c : Entries) where
  pub filled_either : (r : Result A E) → OnOk r (c ≡ put prefix_cmp p v b) → OnErr r (c ≡ b) → 0 < length b → 0 < length c
  filled_either (Ok x) is same some = subst (λ l. 0 < length l) (sym is) (put_some p v b)
  filled_either (Err x) is same some = subst (λ l. 0 < length l) (sym same) some

-- what holds once a block is parted: all is there as before, and the prefix has a home with room
pub record IsParted (bs cs : List Entries) (p f : Prefix6) (i : ℕ) : Type 0 where
  pub same : joined cs ≡ joined bs
  pub filled : AreFilled cs
  pub lower : prefix_cmp p f ≡ Less → HasRoom cs p i
  pub upper : (prefix_cmp p f ≡ Less → ⊥) → HasRoom cs p (i + 1)

taken : (b : Bool) (fs xs ys : List Entries) → fs ≡ (if b then xs else ys) → b ≡ true → fs ≡ xs
taken true fs xs ys is h = is
taken false fs xs ys is h = absurd (false≢true h)

pub are_parted : (bs ds : List Entries) (i : ℕ) (b lo hi : Entries) (cs : List Entries) (p f : Prefix6) → ds ≡ bs → b ≡ get_or ds i b → lo ≡ take 64 b → hi ≡ drop 64 b
    → (ok : Bool) → cs ≡ (if ok then insert (set ds i lo) (i + 1) hi else set ds i lo) → ok ≡ true
    → AreBlocks bs → IsHome bs p i → block_limit ≤ length (block_at bs i) → StartsAt f hi → length hi < block_limit → IsParted bs cs p f i
are_parted bs ds i b lo hi cs p f ds_is b_is lo_is hi_is ok cs_is went h home full starts room =
    let block : b ≡ block_at bs i = get_or_read bs i b home.in_range (b_is ∙ ap (λ l. get_or l i b) ds_is) [] in
    let low : lo ≡ take 64 (block_at bs i) = lo_is ∙ ap (take 64) block in
    let high : hi ≡ drop 64 (block_at bs i) = hi_is ∙ ap (drop 64) block in
    let is : cs ≡ insert (set bs i lo) (i + 1) hi = taken ok cs _ _ cs_is went ∙ ap (λ l. insert (set l i lo) (i + 1) hi) ds_is in
    record {
      same = parted_same bs i h home.in_range lo hi low high full cs is;
      filled = parted_filled bs i h home.in_range lo hi low high full cs is;
      lower = room_below bs i h home.in_range lo hi low high full cs is p f home starts;
      upper = room_above bs i h home.in_range lo hi low high full cs is p f home starts room;
    }
