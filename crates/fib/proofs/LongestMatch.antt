-- The longest match: how it is found from the last entry up to a bound, and that there is one at most.
use Rattle.std.proofs.Common.{◌≡◌, ◌≢◌, ℕ, ◌+◌, ◌-◌, ◌*◌, ◌/◌, ◌%◌, ◌^◌, ◌<◌, ◌≤◌, List, map as each, length, get_or, Option, Some, None, IsSomeAnd, is_some, refl, sym, ap, subst, ◌∙◌, inl, inr, arith}
use Rattle.std.specs.declared.cmp.Ordering.TheVariants.{Less, Greater}
use Rattle.std.specs.FinMap as map
use Rattle.std.proofs.lemmas.Bool.{cases_lt}
use Rattle.std.proofs.lemmas.List.{length-map, get_or_default}
use Rattle.std.proofs.lemmas.Nat.{div-add-mod', pow_pos, shr-shr}
use Rattle.std.proofs.Math.ListN.{get_or-map}
use Rattle.std.proofs.Math.Nat.{mod-eq_of_lt}
use Rattle.std.proofs.Math.Pow.{mod-mod-pow}
use Rattle.prefix6.specs.Prefix.{Prefix6, IsPrefix, Holds, first_bits, cleared, prefix_cmp}
use Rattle.prefix6.specs.Halves.{IsMeet}
use Rattle.prefix6.specs.Places.{IsAt}
use Rattle.prefix6.proofs.Parting.{at_least, less_than, holds_between}
use Rattle.prefix6.proofs.PrefixSets.{is_the_one, is_cleared, holds_own}
use Rattle.prefix6.proofs.SortedEntries.{sorted_at, find_at}
use Rattle.fib.specs.declared.change.Hop.{Hop}
use Rattle.fib.specs.declared.change.Hop.TheVariants.{Direct}
use Rattle.fib.specs.Forwarding.{Forward, Forwarding, IsMatch, IsLongestMatch}
use Rattle.fib.specs.Entries.{Entry, at_prefix, fib_entry, table_of, AreInOrder, AreAllPast, IsLastUpTo, IsLongestEntry}
use Rattle.fib.proofs.EntryLists.{get_is, same_at, some_found}
use Rattle.fib.proofs.Gaps.{found_at}
use Rattle.fib.proofs.Orders.{IsNoLater, no_later, not_greater, less_is_no_later, itself_no_later}

-- what is alike in its first bits is alike in fewer
coarser : (a b l m : ℕ) → l ≤ m → m ≤ 128 → first_bits a m ≡ first_bits b m → first_bits a l ≡ first_bits b l
coarser a b l m le short e =
    let parts : 128 - m + (m - l) ≡ 128 - l = omega arith in
    let fewer : (n : ℕ) → n / 2 ^ (128 - m) / 2 ^ (m - l) ≡ n / 2 ^ (128 - l) = λ n. shr-shr n (128 - m) (m - l) ∙ ap (λ k. n / 2 ^ k) parts in
    sym (fewer a) ∙ ap (λ n. n / 2 ^ (m - l)) e ∙ fewer b

at_addr : (p q : Prefix6) → p ≡ q → p.addr ≡ q.addr
at_addr p q e = ap (λ (r : Prefix6). r.addr) e

-- ---- a prefix e that does not come after a bound, where both may hold an address, and the longest prefix that holds both
module _ (addr : ℕ) (e bound m : Prefix6) (meet : IsMeet e bound m) (e_is : IsPrefix e) (bound_is : IsPrefix bound) (holds : Holds bound addr) (until : IsNoLater e bound) where
  agree : first_bits addr m.len ≡ first_bits e.addr m.len
  agree = coarser addr bound.addr m.len bound.len meet.second_len bound_is.short holds.1 ∙ sym meet.agree

  start : m.addr ≡ first_bits e.addr m.len * 2 ^ (128 - m.len)
  start = at_addr _ _ meet.of_first

  -- what holds both holds the address
  pub meet_holds : Holds m addr
  meet_holds =
      let own : Holds (cleared e.addr m.len) e.addr = holds_own e.addr m.len e_is.in_range in
      (holds.0, agree ∙ own.1 ∙ ap (λ n. first_bits n m.len) (sym start))

  -- where e does not hold both, that is shorter than the bound
  pub meet_shorter : m ≢ e → m.len < bound.len
  meet_shorter other = elim (cases_lt m.len bound.len) [
    | inl lt ↦ lt
    | inr ge ↦
        let long : m.len ≡ bound.len = omega (arith, meet.second_len) in
        let same : m.addr ≡ bound.addr = start ∙ ap (λ n. n * 2 ^ (128 - m.len)) meet.agree ∙ ap (λ l. first_bits bound.addr l * 2 ^ (128 - l)) long ∙ at_addr _ _ bound_is.clear in
        let below : m.addr ≤ e.addr = omega (arith, start, div-add-mod' e.addr (2 ^ (128 - m.len))) in
        let there : e.addr ≡ bound.addr = omega (arith, until.addr) in
        let len : m.len ≡ e.len = omega (arith, until.len there, meet.first_len) in
        absurd (other (meet.of_first ∙ ap (cleared e.addr) len ∙ e_is.clear))
  ]

  -- a prefix that holds the address is no longer than what holds both, if it comes no later than e
  module _ (p : Prefix6) (p_is : IsPrefix p) (p_holds : Holds p addr) (as_short : p.len ≤ bound.len) (before : IsNoLater p e) where
    bound_in : Holds p bound.addr
    bound_in = (bound_is.in_range, coarser bound.addr addr p.len bound.len as_short bound_is.short (sym holds.1) ∙ p_holds.1)

    e_in : Holds p e.addr
    e_in = holds_between p p_is e.addr e_is.in_range before.addr (omega (arith, until.addr, less_than p p_is bound.addr bound_in))

    as_long : p.len ≤ e.len
    as_long = elim (cases_lt e.len p.len) [
      | inl lt ↦
          let parts : 128 - e.len ≡ p.len - e.len + (128 - p.len) = omega (arith, p_is.short) in
          let e_clear : e.addr % 2 ^ (128 - e.len) ≡ 0 = omega (arith, div-add-mod' e.addr (2 ^ (128 - e.len)), at_addr _ _ e_is.clear) in
          let clear : e.addr % 2 ^ (128 - p.len) ≡ 0 = sym (subst (λ k. e.addr % 2 ^ k % 2 ^ (128 - p.len) ≡ e.addr % 2 ^ (128 - p.len)) (sym parts) (mod-mod-pow e.addr (p.len - e.len) (128 - p.len))) ∙ ap (λ n. n % 2 ^ (128 - p.len)) e_clear ∙ mod-eq_of_lt (pow_pos (128 - p.len)) in
          let same : first_bits e.addr p.len * 2 ^ (128 - p.len) ≡ first_bits p.addr p.len * 2 ^ (128 - p.len) = ap (λ n. n * 2 ^ (128 - p.len)) e_in.1 in
          before.len (omega (arith, div-add-mod' e.addr (2 ^ (128 - p.len)), clear, same, at_addr _ _ p_is.clear))
      | inr ge ↦ ge
    ]

    pub no_longer : p.len ≤ m.len
    no_longer = elim (cases_lt m.len p.len) [
      | inl lt ↦ absurd (meet.longest p.len lt as_long as_short (e_in.1 ∙ sym bound_in.1))
      | inr ge ↦ ge
    ]

-- ---- in a table
-- a prefix that holds what a bound holds, and is as short, does not come after it
not_past : (addr : ℕ) (p bound : Prefix6) → IsPrefix p → IsPrefix bound → Holds p addr → Holds bound addr → p.len ≤ bound.len → IsNoLater p bound
not_past addr p bound p_is bound_is holds bound_holds le = record {
  addr = at_least p p_is bound.addr (bound_is.in_range, coarser bound.addr addr p.len bound.len le bound_is.short (sym bound_holds.1) ∙ holds.1);
  len = λ _. le;
}

module _ (es : List Entry) (h : AreInOrder es) (table : Forwarding) (is : table_of es ≡ table) (addr : ℕ) (bound : Prefix6) (bound_is : IsPrefix bound) (holds : Holds bound addr) (longest : (p : Prefix6) → IsMatch table addr p → p.len ≤ bound.len) where
  -- where a match stands
  place_of_match : (p : Prefix6) → IsMatch table addr p → (i : ℕ) × IsAt (each at_prefix es) p i
  place_of_match p match_is = found_at (each at_prefix es) p (subst (λ o. o ≢ None) (get_is es h table is p) (some_found _ match_is.present))

  match_not_past : (p : Prefix6) → IsMatch table addr p → prefix_cmp p bound ≢ Greater
  match_not_past p match_is = not_greater p bound (not_past addr p bound match_is.is_prefix bound_is match_is.holds holds (longest p match_is))

  prefix_there : (p : Prefix6) (i : ℕ) (d : Entry) → IsAt (each at_prefix es) p i → (get_or es i d).0 ≡ p
  prefix_there p i d place = sym (ap (λ (e : Prefix6 × Forward). e.0) (get_or-map at_prefix es i d)) ∙ place.has_prefix (at_prefix d)

  -- no match where all entries come after the bound
  pub no_match : AreAllPast es bound 0 → (p : Prefix6) → ¬ (IsMatch table addr p)
  no_match past p match_is =
      let place = place_of_match p match_is in
      let d : Entry = (bound, Direct, 0) in
      let lt : place.0 < length es = subst (λ n. place.0 < n) (length-map es at_prefix) place.1.in_range in
      match_not_past p match_is (subst (λ q. prefix_cmp q bound ≡ Greater) (prefix_there p place.0 d place.1) (past.past place.0 d (omega arith) lt))

  -- the last entry up to the bound
  module _ (i : ℕ) (d e : Entry) (last : IsLastUpTo es bound i) (there : e ≡ get_or es i d) (m : Prefix6) (e_is : IsPrefix e.0) (meet : IsMeet e.0 bound m) where
    e_until : IsNoLater e.0 bound
    e_until = no_later e.0 bound (subst (λ (x : Entry). prefix_cmp x.0 bound ≢ Greater) (sym there) (last.up_to d))

    before_e : (p : Prefix6) (match_is : IsMatch table addr p) → IsNoLater p e.0
    before_e p match_is =
        let place = place_of_match p match_is in
        let lt : place.0 < length es = subst (λ n. place.0 < n) (length-map es at_prefix) place.1.in_range in
        elim (cases_lt i place.0) [
          | inl past ↦ absurd (match_not_past p match_is (subst (λ q. prefix_cmp q bound ≡ Greater) (prefix_there p place.0 d place.1) (last.rest.past place.0 d (omega arith) lt)))
          | inr le ↦ elim (cases_lt place.0 i) [
            | inl less ↦ no_later p e.0 (less_is_no_later p e.0
                (subst (λ q. prefix_cmp q e.0 ≡ Less) (place.1.has_prefix (at_prefix d))
                (subst (λ q. prefix_cmp (get_or (each at_prefix es) place.0 (at_prefix d)).0 q ≡ Less) (ap (λ (x : Prefix6 × Forward). x.0) (get_or-map at_prefix es i d) ∙ ap (λ (x : Entry). x.0) (sym there))
                (sorted_at (each at_prefix es) place.0 i (at_prefix d) h.rising less (subst (λ n. i < n) (sym (length-map es at_prefix)) last.in_range)))))
            | inr ge ↦
                let same : i ≡ place.0 = omega arith in
                no_later p e.0 (itself_no_later p e.0 (sym (prefix_there p place.0 d place.1) ∙ ap (λ n. (get_or es n d).0) (sym same) ∙ ap (λ (x : Entry). x.0) (sym there)))
          ]
        ]

    -- matches are no longer than what holds both that entry's prefix and the bound
    pub still_longest : (p : Prefix6) → IsMatch table addr p → p.len ≤ m.len
    still_longest p match_is = no_longer addr e.0 bound m meet e_is bound_is holds e_until p match_is.is_prefix match_is.holds (longest p match_is) (before_e p match_is)

    pub still_holds : Holds m addr
    still_holds = meet_holds addr e.0 bound m meet e_is bound_is holds e_until

    pub still_prefix : IsPrefix m
    still_prefix = subst IsPrefix (sym meet.of_first) (is_cleared e.0.addr m.len e_is.in_range (omega (arith, meet.first_len, e_is.short)))

    pub shorter : m ≢ e.0 → m.len < bound.len
    shorter other = meet_shorter addr e.0 bound m meet e_is bound_is holds e_until other

    its_entry : map.get table e.0 ≡ Some (record { hop = e.1; metric = e.2 })
    its_entry =
        get_is es h table is e.0
        ∙ find_at (each at_prefix es) e.0 i (at_prefix d) h.rising (record {
          in_range = subst (λ n. i < n) (sym (length-map es at_prefix)) last.in_range;
          has_prefix = λ x. same_at es i x ∙ ap (λ (y : Entry). y.0) (get_or_default es i (fib_entry x) d last.in_range ∙ sym there);
        })
        ∙ ap (λ (x : Prefix6 × Forward). Some x.1) (get_or-map at_prefix es i d)
        ∙ ap (λ (x : Entry). Some (record { hop = x.1; metric = x.2 })) (sym there)

    its_match : m ≡ e.0 → IsMatch table addr e.0
    its_match same = record {
      is_prefix = e_is;
      present = ap is_some its_entry;
      holds = subst (λ (x : Prefix6). Holds x addr) same still_holds;
    }

    -- that entry, where its prefix holds both
    pub found_longest : m ≡ e.0 → IsLongestEntry table addr e
    found_longest same = record {
      matches = its_match same;
      longest = λ p match_is. subst (λ (x : Prefix6). p.len ≤ x.len) same (still_longest p match_is);
      stands = its_entry;
    }

-- its hop
pub its_hop : (table : Forwarding) (addr : ℕ) (e : Entry) → IsLongestEntry table addr e → IsLongestMatch table addr e.1
its_hop table addr e h = record {
  prefix = e.0;
  matches = h.matches;
  longest = h.longest;
  its_hop = subst (λ o. IsSomeAnd o (λ f. f.hop ≡ e.1)) (sym h.stands) refl;
}

one_hop : (o : Option Forward) (h k : Hop) → IsSomeAnd o (λ f. f.hop ≡ h) → IsSomeAnd o (λ f. f.hop ≡ k) → h ≡ k
one_hop None h k a b = absurd a
one_hop (Some f) h k a b = sym a ∙ b

-- an address has one longest match at most
pub one_longest : (table : Forwarding) (addr : ℕ) (h k : Hop) → IsLongestMatch table addr h → IsLongestMatch table addr k → h ≡ k
one_longest table addr h k m n =
    let long : m.prefix.len ≡ n.prefix.len = omega (arith, m.longest n.prefix n.matches, n.longest m.prefix m.matches) in
    let same : m.prefix ≡ n.prefix = is_the_one m.prefix addr m.matches.is_prefix m.matches.holds ∙ ap (cleared addr) long ∙ sym (is_the_one n.prefix addr n.matches.is_prefix n.matches.holds) in
    one_hop (map.get table n.prefix) h k (subst (λ (p : Prefix6). IsSomeAnd (map.get table p) (λ f. f.hop ≡ h)) same m.its_hop) n.its_hop
