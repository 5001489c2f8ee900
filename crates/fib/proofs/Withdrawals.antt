-- Which withdrawals stay, change by change, and what is left of installs and those.
use Rattle.std.proofs.Common.{◌≡◌, ℕ, zero, suc, ◌+◌, ◌-◌, ◌<◌, ◌≤◌, ◌&&◌, ◌||◌, Bool, true, false, cond, not, List, [], ◌∷◌, ◌++◌, length, get_or, take, drop, Option, Some, None, option_map, unwrap_or, count_by, refl, sym, ap, subst, ◌∙◌, arith}
use mathlib.Core.Bool.{false≢true}
use Rattle.std.specs.List.{filter}
use Rattle.std.specs.Option.{option_or}
use Rattle.std.specs.FinMap as map
use Rattle.std.proofs.lemmas.List.{take_more, drop_more, take_all, append-nil, length-drop}
use Rattle.std.proofs.lemmas.List.Elements.{filter-append}
use Rattle.std.proofs.lemmas.List.Sums.{length-filter}
use Rattle.std.proofs.lemmas.Map.Views.{tells_apart}
use Rattle.prefix6.specs.Prefix.{Prefix6, same_prefix}
use Rattle.prefix6.proofs.PrefixLaws.{prefixes_total, exact_prefixes, same_prefix-tie}
use Rattle.fib.specs.declared.change.Hop.{Hop}
use Rattle.fib.specs.declared.change.RouteChange.{RouteChange}
use Rattle.fib.specs.declared.change.RouteChange.TheVariants.{Install, Withdraw}
use Rattle.fib.specs.Forwarding.{Forward, Forwarding, is_install, prefix_of, forward_of, last_change, Replays}
use Rattle.fib.specs.Undo.{has_install, takes_entry, is_gone}
use Rattle.fib.proofs.ReplayLaws.{last_change-append, last_change-push, replays_append, replays_install}

-- ---- installs alone
-- one install more
pub installed_more : (old t : Forwarding) (cs : List RouteChange) (k : ℕ) (d : RouteChange) (p : Prefix6) (hop : Hop) (metric : ℕ) → k < length cs → get_or cs k d ≡ Install p hop metric → Replays old (filter is_install (take k cs)) t
    → Replays old (filter is_install (take (k + 1) cs)) (map.insert t p (record { hop = hop; metric = metric }))
installed_more old t cs k d p hop metric lt is replays =
    let more : filter is_install (take (k + 1) cs) ≡ filter is_install (take k cs) ++ Install p hop metric ∷ [] =
    ap (filter is_install) (take_more cs k d lt) ∙ filter-append is_install (take k cs) (get_or cs k d ∷ []) ∙ ap (λ c. filter is_install (take k cs) ++ filter is_install (c ∷ [])) is in
    subst (λ l. Replays old l (map.insert t p (record { hop = hop; metric = metric }))) (sym more) (replays_append old t _ (filter is_install (take k cs)) (Install p hop metric ∷ []) replays (replays_install t p hop metric))

-- and a withdrawal is none
pub passed_over : (old t : Forwarding) (cs : List RouteChange) (k : ℕ) (d : RouteChange) (p : Prefix6) → k < length cs → get_or cs k d ≡ Withdraw p → Replays old (filter is_install (take k cs)) t → Replays old (filter is_install (take (k + 1) cs)) t
passed_over old t cs k d p lt is replays =
    let same : filter is_install (take (k + 1) cs) ≡ filter is_install (take k cs) =
    ap (filter is_install) (take_more cs k d lt) ∙ filter-append is_install (take k cs) (get_or cs k d ∷ []) ∙ ap (λ c. filter is_install (take k cs) ++ filter is_install (c ∷ [])) is ∙ append-nil (filter is_install (take k cs)) in
    subst (λ l. Replays old l t) (sym same) replays

-- where there is an install, installs are counted
kept_one : (cs : List RouteChange) (k : ℕ) (d : RouteChange) → k < length cs → is_install (get_or cs k d) ≡ true → length (filter is_install cs) ≡ 0 → ⊥
kept_one [] k d lt is none = omega arith
kept_one (Install p hop metric ∷ cs) k d lt is none = omega (arith, none)
kept_one (Withdraw p ∷ cs) zero d lt is none = false≢true is
kept_one (Withdraw p ∷ cs) (suc k) d lt is none = kept_one cs k d (omega arith) is none

pub counted : (cs : List RouteChange) (k : ℕ) (d : RouteChange) → k < length cs → is_install (get_or cs k d) ≡ true → count_by is_install cs ≡ 0 → ⊥
counted cs k d lt is none = kept_one cs k d lt is (length-filter is_install cs ∙ none)

-- from where no change is an install, none is left
pub none_after : (cs : List RouteChange) (k : ℕ) (p : Prefix6) → ((j : ℕ) (d : RouteChange) → k ≤ j → j < length cs → is_install (get_or cs j d) ≡ false) → has_install (drop k cs) p ≡ false
none_after [] zero p h = refl
none_after [] (suc k) p h = refl
none_after (c ∷ cs) zero p h =
    ap (λ b. (b && same_prefix (prefix_of c) p) || has_install cs p) (h 0 c (omega arith) (omega arith)) ∙ none_after cs zero p (λ j d le lt. h (suc j) d (omega arith) (omega arith))
none_after (c ∷ cs) (suc k) p h = none_after cs k p (λ j d le lt. h (suc j) d (omega arith) (omega arith))

-- ---- withdrawals
-- what a prefix has after some of the changes, where others are still to come
abbrev pub left_by : Bool → Bool → Option Forward → Option Forward
left_by gone again now = cond (gone && not again) None now

abbrev pub IsWithdrawn : List RouteChange → List RouteChange → Forwarding → Forwarding → Type 0
IsWithdrawn done rest old t = (p : Prefix6) → map.get t p ≡ left_by (is_gone done p) (has_install rest p) (map.get old p)

gone_more : (cs : List RouteChange) (c : RouteChange) (p : Prefix6) → is_gone (cs ++ c ∷ []) p ≡ cond (same_prefix (prefix_of c) p) (takes_entry (Some c)) (is_gone cs p)
gone_more cs c p = ap takes_entry (last_change-push cs c p) ∙ by (same_prefix (prefix_of c) p)
  where
    by : (b : Bool) → takes_entry (cond b (Some c) (last_change cs p)) ≡ cond b (takes_entry (Some c)) (takes_entry (last_change cs p))
    by true = refl
    by false = refl

kept_anyway : (b : Bool) (now : Option Forward) → left_by b true now ≡ now
kept_anyway true now = refl
kept_anyway false now = refl

module _ (done rest : List RouteChange) (old t : Forwarding) where
  pub install_passed : (q : Prefix6) (hop : Hop) (metric : ℕ) → IsWithdrawn done (Install q hop metric ∷ rest) old t → IsWithdrawn (done ++ Install q hop metric ∷ []) rest old t
  install_passed q hop metric h p = h p ∙ by (same_prefix q p) (is_gone done p) (has_install rest p) ∙ ap (λ b. left_by b (has_install rest p) (map.get old p)) (sym (gone_more done (Install q hop metric) p))
    where
      by : (b gone again : Bool) → left_by gone (b || again) (map.get old p) ≡ left_by (cond b false gone) again (map.get old p)
      by true gone again = kept_anyway gone (map.get old p)
      by false gone again = refl

  -- a withdrawal before an install of the same prefix
  pub withdrawal_passed : (q : Prefix6) → has_install rest q ≡ true → IsWithdrawn done (Withdraw q ∷ rest) old t → IsWithdrawn (done ++ Withdraw q ∷ []) rest old t
  withdrawal_passed q later h p = h p ∙ by (same_prefix q p) refl ∙ ap (λ b. left_by b (has_install rest p) (map.get old p)) (sym (gone_more done (Withdraw q) p))
    where
      by : (b : Bool) → same_prefix q p ≡ b → left_by (is_gone done p) (has_install rest p) (map.get old p) ≡ left_by (cond b true (is_gone done p)) (has_install rest p) (map.get old p)
      by true same =
          let again : has_install rest p ≡ true = ap (has_install rest) (tells_apart exact_prefixes p q (sym (same_prefix-tie q p) ∙ same)) ∙ later in
          ap (λ a. left_by (is_gone done p) a (map.get old p)) again ∙ kept_anyway (is_gone done p) (map.get old p) ∙ ap (λ a. left_by true a (map.get old p)) (sym again)
      by false same = refl

  -- another
  pub withdrawn : (q : Prefix6) → has_install rest q ≡ false → IsWithdrawn done (Withdraw q ∷ rest) old t → IsWithdrawn (done ++ Withdraw q ∷ []) rest old (map.remove t q)
  withdrawn q later h p =
      map.get-remove prefixes_total t q p
      ∙ ap (λ b. cond b None (map.get t p)) (sym (same_prefix-tie q p))
      ∙ by (same_prefix q p) refl
      ∙ ap (λ b. left_by b (has_install rest p) (map.get old p)) (sym (gone_more done (Withdraw q) p))
    where
      by : (b : Bool) → same_prefix q p ≡ b → cond b None (map.get t p) ≡ left_by (cond b true (is_gone done p)) (has_install rest p) (map.get old p)
      by true same =
          let again : has_install rest p ≡ false = ap (has_install rest) (tells_apart exact_prefixes p q (sym (same_prefix-tie q p) ∙ same)) ∙ later in
          ap (λ a. left_by true a (map.get old p)) (sym again)
      by false same = h p

-- the same at a place of a list
pub rest_whole : {X : Type 0} (cs : List X) (from : ℕ) → take (length cs - from) (drop from cs) ≡ drop from cs
rest_whole {X} cs from = take_all (length cs - from) (drop from cs) (omega (arith, length-drop from cs))

module _ (cs : List RouteChange) (k : ℕ) (d c : RouteChange) (lt : k < length cs) (is : get_or cs k d ≡ c) (old t : Forwarding) (h : IsWithdrawn (take k cs) (drop k cs) old t) where
  before : IsWithdrawn (take k cs) (c ∷ drop (k + 1) cs) old t
  before = subst (λ l. IsWithdrawn (take k cs) l old t) (drop_more cs k d lt ∙ ap (λ x. x ∷ drop (k + 1) cs) is) h

  done_is : take (k + 1) cs ≡ take k cs ++ c ∷ []
  done_is = take_more cs k d lt ∙ ap (λ x. take k cs ++ x ∷ []) is

  after : (new : Forwarding) → IsWithdrawn (take k cs ++ c ∷ []) (drop (k + 1) cs) old new → IsWithdrawn (take (k + 1) cs) (drop (k + 1) cs) old new
  after new = subst (λ l. IsWithdrawn l (drop (k + 1) cs) old new) (sym done_is)

  pub at_install : (q : Prefix6) (hop : Hop) (metric : ℕ) → c ≡ Install q hop metric → IsWithdrawn (take (k + 1) cs) (drop (k + 1) cs) old t
  at_install q hop metric c_is = after t (subst (λ x. IsWithdrawn (take k cs ++ x ∷ []) (drop (k + 1) cs) old t) (sym c_is) (install_passed (take k cs) (drop (k + 1) cs) old t q hop metric (subst (λ x. IsWithdrawn (take k cs) (x ∷ drop (k + 1) cs) old t) c_is before)))

  pub at_passed : (q : Prefix6) → c ≡ Withdraw q → has_install (drop (k + 1) cs) q ≡ true → IsWithdrawn (take (k + 1) cs) (drop (k + 1) cs) old t
  at_passed q c_is later = after t (subst (λ x. IsWithdrawn (take k cs ++ x ∷ []) (drop (k + 1) cs) old t) (sym c_is) (withdrawal_passed (take k cs) (drop (k + 1) cs) old t q later (subst (λ x. IsWithdrawn (take k cs) (x ∷ drop (k + 1) cs) old t) c_is before)))

  pub at_withdrawn : (q : Prefix6) → c ≡ Withdraw q → has_install (drop (k + 1) cs) q ≡ false → IsWithdrawn (take (k + 1) cs) (drop (k + 1) cs) old (map.remove t q)
  at_withdrawn q c_is later = after _ (subst (λ x. IsWithdrawn (take k cs ++ x ∷ []) (drop (k + 1) cs) old (map.remove t q)) (sym c_is) (withdrawn (take k cs) (drop (k + 1) cs) old t q later (subst (λ x. IsWithdrawn (take k cs) (x ∷ drop (k + 1) cs) old t) c_is before)))

-- ---- installs, and then withdrawals
last_kept : (cs : List RouteChange) (p : Prefix6) → takes_entry (last_change cs p) ≡ false → last_change (filter is_install cs) p ≡ last_change cs p
last_kept [] p h = refl
last_kept (c ∷ cs) p h =
    let first = last_change-append (c ∷ []) cs p in
    by c (last_change cs p) refl (sym (ap takes_entry first) ∙ h) (last_kept cs p) ∙ sym first
  where
    by : (d : RouteChange) (o : Option RouteChange) → last_change cs p ≡ o → takes_entry (option_or o (last_change (d ∷ []) p)) ≡ false → (takes_entry (last_change cs p) ≡ false → last_change (filter is_install cs) p ≡ last_change cs p)
        → last_change (filter is_install (d ∷ cs)) p ≡ option_or (last_change cs p) (last_change (d ∷ []) p)
    by (Install q hop metric) o is h rest = last_change-append (Install q hop metric ∷ []) (filter is_install cs) p ∙ ap (λ l. option_or l (last_change (Install q hop metric ∷ []) p)) (rest (ap takes_entry is ∙ not_taken o (last_change (Install q hop metric ∷ []) p) h))
      where
        not_taken : (x y : Option RouteChange) → takes_entry (option_or x y) ≡ false → takes_entry x ≡ false
        not_taken None y e = refl
        not_taken (Some x) y e = e
    by (Withdraw q) (Some x) is h rest = rest (ap takes_entry is ∙ h) ∙ is ∙ ap (λ l. option_or l (last_change (Withdraw q ∷ []) p)) (sym is)
    by (Withdraw q) None is h rest = rest (ap takes_entry is) ∙ is ∙ sym (other (same_prefix q p) h) ∙ ap (λ l. option_or l (last_change (Withdraw q ∷ []) p)) (sym is)
      where
        other : (b : Bool) → takes_entry (cond b (Some (Withdraw q)) None) ≡ false → cond b (Some (Withdraw q)) None ≡ None
        other true e = absurd (false≢true (sym e))
        other false e = refl

pub both_replay : (old mid new : Forwarding) (cs : List RouteChange) → Replays old (filter is_install cs) mid → ((p : Prefix6) → map.get new p ≡ cond (is_gone cs p) None (map.get mid p)) → Replays old cs new
both_replay old mid new cs installs withdraws p = withdraws p ∙ by (last_change cs p) refl
  where
    by : (o : Option RouteChange) → last_change cs p ≡ o → cond (is_gone cs p) None (map.get mid p) ≡ unwrap_or (option_map forward_of (last_change cs p)) (map.get old p)
    by None is = ap (λ b. cond b None (map.get mid p)) (ap takes_entry is) ∙ installs p ∙ ap (λ l. unwrap_or (option_map forward_of l) (map.get old p)) (last_kept cs p (ap takes_entry is))
    by (Some (Install q hop metric)) is = ap (λ b. cond b None (map.get mid p)) (ap takes_entry is) ∙ installs p ∙ ap (λ l. unwrap_or (option_map forward_of l) (map.get old p)) (last_kept cs p (ap takes_entry is))
    by (Some (Withdraw q)) is = ap (λ b. cond b None (map.get mid p)) (ap takes_entry is) ∙ ap (λ l. unwrap_or (option_map forward_of l) (map.get old p)) (sym is)
