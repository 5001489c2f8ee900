-- Where a search ends: at the last entry up to a prefix, and past all entries that come before it.
use Rattle.std.proofs.Common.{◌≡◌, ◌≢◌, ℕ, zero, suc, ◌+◌, ◌-◌, ◌<◌, ◌≤◌, List, ◌++◌, map as each, length, get_or, take, drop, Option, Some, None, IfSome, IsNone, refl, sym, ap, subst, ◌∙◌, inl, inr, arith}
use Rattle.std.specs.Option.{SomeIff}
use Rattle.std.specs.declared.cmp.Ordering.TheVariants.{Less, Greater}
use Rattle.std.proofs.lemmas.Bool.{cases_lt}
use Rattle.std.proofs.lemmas.List.{length-append, length-map, length-take, map-append, get_or_default, get_or_append_left, get_or-append-add, get_or-take, take-append-le, drop-append-le}
use Rattle.std.proofs.lemmas.List.Elements.{All-append, All-map}
use Rattle.std.specs.Prelude.{All}
use Rattle.std.proofs.Math.ListN.{get_or-map}
use Rattle.std.proofs.Math.Seq.{take-append-add, drop-append-add}
use Rattle.prefix6.specs.Prefix.{Prefix6, prefix_cmp}
use Rattle.prefix6.specs.Places.{IsAt, IsGap, prefix_at}
use Rattle.prefix6.proofs.SortedEntries.{sorted_at}
use Rattle.fib.specs.declared.change.Hop.TheVariants.{Direct}
use Rattle.fib.specs.Forwarding.{Forward}
use Rattle.fib.specs.Blocks.{Pairs, joined, block_at, IsHome, IsFrom}
use Rattle.fib.specs.Entries.{Entry, at_prefix, fib_entry, AreAfter, AreInOrder, AreUpTo, AreAllPast, IsPast, IsLastUpTo, IsLastOf}
use Rattle.fib.proofs.BlockLists.{joined_at}
use Rattle.fib.proofs.EntryLists.{same_at, listed_again}
use Rattle.fib.proofs.Gaps.{turned}
use Rattle.fib.proofs.Orders.{less_is_no_later, itself_no_later}

same_there : (es : List Entry) (i : ℕ) (d : Entry) → prefix_at (each at_prefix es) i (at_prefix d) ≡ (get_or es i d).0
same_there es i d = ap (λ (e : Prefix6 × Forward). e.0) (get_or-map at_prefix es i d)

-- entries up to a place are up to the prefix that stands there
up_to_at : (es : List Entry) (p : Prefix6) (i : ℕ) → AreInOrder es → IsAt (each at_prefix es) p i → (j : ℕ) (d : Entry) → j < i + 1 → prefix_cmp (get_or es j d).0 p ≢ Greater
up_to_at es p i h place j d lt = elim (cases_lt j i) [
  | inl less ↦ less_is_no_later _ p
      (subst (λ q. prefix_cmp q p ≡ Less) (same_there es j d)
      (subst (λ q. prefix_cmp (prefix_at (each at_prefix es) j (at_prefix d)) q ≡ Less) (place.has_prefix (at_prefix d))
      (sorted_at (each at_prefix es) j i (at_prefix d) h.rising less place.in_range)))
  | inr ge ↦
      let same : j ≡ i = omega arith in
      itself_no_later _ p (ap (λ n. (get_or es n d).0) same ∙ sym (same_there es i d) ∙ place.has_prefix (at_prefix d))
]

up_to_take : (es : List Entry) (p : Prefix6) (k : ℕ) → ((j : ℕ) (d : Entry) → j < k → prefix_cmp (get_or es j d).0 p ≢ Greater) → AreUpTo (take k es) p
up_to_take es p k h = record {
  up_to = λ j d lt.
      let inside : j < k = omega (arith, lt, length-take k es) in
      subst (λ (e : Entry). prefix_cmp e.0 p ≢ Greater) (sym (get_or-take k es j d inside)) (h j d inside);
}

-- an entry of the prefix is the last up to it
pub passed_at : (es : List Entry) (p : Prefix6) (i : ℕ) → AreInOrder es → IsAt (each at_prefix es) p i → IsPast es (Some p) (i + 1)
passed_at es p i h place = (
  up_to_take es p (i + 1) (up_to_at es p i h place),
  record {
    past = λ j d le lt.
        subst (λ q. prefix_cmp q p ≡ Greater) (same_there es j d)
        (turned p _ Less (subst (λ q. prefix_cmp q (prefix_at (each at_prefix es) j (at_prefix d)) ≡ Less) (place.has_prefix (at_prefix d))
        (sorted_at (each at_prefix es) i j (at_prefix d) h.rising (omega arith) (subst (λ n. j < n) (sym (length-map es at_prefix)) lt))));
  },
)

-- from a gap on all entries come after the prefix
pub passed_gap : (es : List Entry) (p : Prefix6) (i : ℕ) → IsGap (each at_prefix es) p i → IsPast es (Some p) i
passed_gap es p i gap = (
  up_to_take es p i (λ j d lt. subst (λ q. prefix_cmp q p ≢ Greater) (same_there es j d) (less_is_no_later _ p (gap.before j (at_prefix d) lt))),
  record {
    past = λ j d le lt. subst (λ q. prefix_cmp q p ≡ Greater) (same_there es j d) (gap.after j (at_prefix d) le (subst (λ n. j < n) (sym (length-map es at_prefix)) lt));
  },
)

-- what stands before those after the prefix is the last up to it
pub found_before : (es : List Entry) (p : Prefix6) (k : ℕ) → k ≤ length es → IsPast es (Some p) k → (r : Option ℕ) → SomeIff r (1 ≤ k) (k - 1) → IfSome r (IsLastUpTo es p)
found_before es p k within past None h = tt
found_before es p k within past (Some j) h =
    let less : 1 ≤ k = h.0 in
    let is : j ≡ k - 1 = h.1 in
    let next : k ≡ j + 1 = omega arith in
    record {
      in_range = omega (arith, within);
      up_to = λ d. subst (λ (e : Entry). prefix_cmp e.0 p ≢ Greater) (get_or-take k es j d (omega arith)) (past.0.up_to j d (omega (arith, within, length-take k es)));
      rest = subst (AreAllPast es p) next past.1;
    }

pub none_before : (es : List Entry) (p : Prefix6) (k : ℕ) → IsPast es (Some p) k → (r : Option ℕ) → SomeIff r (1 ≤ k) (k - 1) → IsNone r → AreAllPast es p 0
none_before es p k past None h none = let first : k ≡ 0 = not_one k h in subst (AreAllPast es p) first past.1
  where
    not_one : (n : ℕ) → ¬ (1 ≤ n) → n ≡ 0
    not_one zero h = refl
    not_one (suc n) h = absurd (h (omega arith))
none_before es p k past (Some j) h none = absurd (cc)

-- ---- in blocks
-- what comes behind entries lies past a prefix
past_behind : (es cs : List Entry) (p : Prefix6) (from : ℕ) → AreAllPast es p from → All (λ e. prefix_cmp p e.0 ≡ Less) cs → AreAllPast (es ++ cs) p from
past_behind es cs p from past above = record {
  past = λ j d le lt. elim (cases_lt j (length es)) [
    | inl less ↦ subst (λ (e : Entry). prefix_cmp e.0 p ≡ Greater) (sym (get_or_append_left es cs d j less)) (past.past j d le less)
    | inr ge ↦
        let there : length es + (j - length es) ≡ j = omega arith in
        subst (λ n. prefix_cmp (get_or (es ++ cs) n d).0 p ≡ Greater) there
        (subst (λ (e : Entry). prefix_cmp e.0 p ≡ Greater) (sym (get_or-append-add es cs (j - length es) d)) (turned p _ Less (above (j - length es) d (omega (arith, length-append es cs)))))
  ];
}

last_behind : (es cs : List Entry) (p : Prefix6) (i : ℕ) → IsLastUpTo es p i → All (λ e. prefix_cmp p e.0 ≡ Less) cs → IsLastUpTo (es ++ cs) p i
last_behind es cs p i last above = record {
  in_range = omega (arith, last.in_range, length-append es cs);
  up_to = λ d. subst (λ (e : Entry). prefix_cmp e.0 p ≢ Greater) (sym (get_or_append_left es cs d i last.in_range)) (last.up_to d);
  rest = past_behind es cs p (i + 1) last.rest above;
}

past_before : (fs es : List Entry) (p : Prefix6) (from : ℕ) → AreAllPast es p from → AreAllPast (fs ++ es) p (length fs + from)
past_before fs es p from past = record {
  past = λ j d le lt.
      let there : length fs + (j - length fs) ≡ j = omega arith in
      subst (λ n. prefix_cmp (get_or (fs ++ es) n d).0 p ≡ Greater) there
      (subst (λ (e : Entry). prefix_cmp e.0 p ≡ Greater) (sym (get_or-append-add fs es (j - length fs) d)) (past.past (j - length fs) d (omega arith) (omega (arith, length-append fs es))));
}

last_before : (fs es : List Entry) (p : Prefix6) (i : ℕ) → IsLastUpTo es p i → IsLastUpTo (fs ++ es) p (length fs + i)
last_before fs es p i last =
    let next : length fs + (i + 1) ≡ length fs + i + 1 = omega arith in
    record {
      in_range = omega (arith, length-append fs es, last.in_range);
      up_to = λ d. subst (λ (e : Entry). prefix_cmp e.0 p ≢ Greater) (sym (get_or-append-add fs es i d)) (last.up_to d);
      rest = subst (AreAllPast (fs ++ es) p) next (past_before fs es p (i + 1) last.rest);
    }

-- at the home of a prefix
module _ (bs : List Pairs) (p : Prefix6) (i : ℕ) (h : IsHome bs p i) (es : List Entry) (is : each at_prefix es ≡ block_at bs i) where
  abbrev behind : List Entry
  behind = each fib_entry (joined (drop (i + 1) bs))

  all_are : each fib_entry (joined bs) ≡ each fib_entry (joined (take i bs)) ++ (es ++ behind)
  all_are =
      ap (each fib_entry) (joined_at bs i h.in_range)
      ∙ map-append fib_entry (joined (take i bs)) (block_at bs i ++ joined (drop (i + 1) bs))
      ∙ ap (λ l. each fib_entry (joined (take i bs)) ++ l) (map-append fib_entry (block_at bs i) (joined (drop (i + 1) bs))
      ∙ ap (λ l. l ++ behind) (ap (each fib_entry) (sym is) ∙ listed_again es))

  above : All (λ e. prefix_cmp p e.0 ≡ Less) behind
  above = All-map (λ (e : Entry). prefix_cmp p e.0 ≡ Less) fib_entry (joined (drop (i + 1) bs)) h.above

  pub last_in : (e : Entry) (j : ℕ) → IsLastUpTo es p j → e ≡ get_or es j e → IsLastOf (each fib_entry (joined bs)) p e
  last_in e j last there =
      let front = each fib_entry (joined (take i bs)) in
      record {
        place = length front + j;
        last = subst (λ l. IsLastUpTo l p (length front + j)) (sym all_are) (last_before front (es ++ behind) p j (last_behind es behind p j last above));
        there = λ d.
            there ∙ get_or_default es j e d last.in_range ∙ sym (get_or_append_left es behind d j last.in_range)
            ∙ sym (get_or-append-add front (es ++ behind) j d) ∙ ap (λ l. get_or l (length front + j) d) (sym all_are);
      }

  pub none_in : IsFrom bs p i → 0 < length (block_at bs i) → AreAllPast es p 0 → AreAllPast (each fib_entry (joined bs)) p 0
  none_in from some past =
      let d : Prefix6 × Forward = (p, record { hop = Direct; metric = 0 }) in
      let first : i ≡ 0 = elim (cases_lt 0 i) [
        | inl later ↦ absurd (from later d (subst (λ (l : Pairs). prefix_cmp p (get_or l 0 d).0 ≡ Less) is (subst (λ q. prefix_cmp p q ≡ Less) (sym (same_at es 0 d)) (turned _ p Greater (past.past 0 (fib_entry d) (omega arith) (omega (arith, ap length is, length-map es at_prefix, some)))))))
        | inr ge ↦ omega arith
      ] in
      subst (λ l. AreAllPast l p 0) (sym (all_are ∙ ap (λ n. each fib_entry (joined (take n bs)) ++ (es ++ behind)) first)) (past_behind es behind p 0 past above)

  front_up_to : All (λ (e : Entry). prefix_cmp e.0 p ≢ Greater) (each fib_entry (joined (take i bs)))
  front_up_to = All-map (λ (e : Entry). prefix_cmp e.0 p ≢ Greater) fib_entry (joined (take i bs)) (λ k d lt. less_is_no_later _ p (h.below k d lt))

  pub rest_in : (k : ℕ) → k ≤ length es → IsPast es (Some p) k → (rest : List Entry) → rest ≡ drop k es ++ behind → AreAfter (each fib_entry (joined bs)) (Some p) rest
  rest_in k within past rest rest_is =
      let front = each fib_entry (joined (take i bs)) in
      let first : take (length front + k) (front ++ (es ++ behind)) ≡ front ++ take k es = take-append-add front (es ++ behind) k ∙ ap (λ l. front ++ l) (take-append-le k es behind within) in
      let last : drop (length front + k) (front ++ (es ++ behind)) ≡ drop k es ++ behind = drop-append-add front (es ++ behind) k ∙ drop-append-le k es behind within in
      record {
        begin = length front + k;
        past = subst (λ l. IsPast l (Some p) (length front + k)) (sym all_are) (
          subst (λ l. AreUpTo l p) (sym first) (record { up_to = All-append (λ (e : Entry). prefix_cmp e.0 p ≢ Greater) front (take k es) front_up_to past.0.up_to }),
          past_before front (es ++ behind) p k (past_behind es behind p k past.1 above),
        );
        are = rest_is ∙ sym last ∙ ap (drop (length front + k)) (sym all_are);
      }
