-- Pairs of numbers in their order: what a set of them says of its members.
use Rattle.std.proofs.Common.{◌≡◌, ◌⊎◌, inl, inr, ℕ, ◌<◌, ◌≤◌, Bool, true, false, cond, IsTrue, List, All, Contains, ◌↔◌, refl, sym, subst, ◌∙◌, arith, ap}
use Rattle.std.specs.declared.cmp.Ordering.{Ordering}
use Rattle.std.specs.declared.cmp.Ordering.TheVariants.{Less, Equal, Greater}
use Rattle.std.specs.Cmp.{IsTotalOrder, then_total, on_total}
use Rattle.std.specs.Ordering.{nat_cmp, ordering_then, is_eq, is_gt}
use Rattle.std.specs.BTreeSet.{BTreeSet, contains, Updates}
use Rattle.std.proofs.lemmas.Cmp.{nat_cmp_total}
use Rattle.std.proofs.lemmas.Map.Lookups.{CmpEqualImpliesEq, exact_pairs, exact_unsigned}
use Rattle.std.proofs.lemmas.Map.Views.{btree_set_contains_iff}
use Rattle.ripng_clock.specs.Agenda.{Has, IsAdded, IsRemoved}
use Rattle.ripng_clock.specs.declared.agenda.Agenda.{Agenda}

abbrev pub pair_cmp : ℕ × ℕ → ℕ × ℕ → Ordering
pair_cmp x y = ordering_then (nat_cmp x.0 y.0) (nat_cmp x.1 y.1)

pub total : IsTotalOrder pair_cmp
total = then_total (on_total (λ (t : ℕ × ℕ). t.0) nat_cmp_total) (on_total (λ (t : ℕ × ℕ). t.1) nat_cmp_total)

pub exact : CmpEqualImpliesEq pair_cmp
exact = exact_pairs nat_cmp nat_cmp exact_unsigned exact_unsigned

pub member : (s : BTreeSet (ℕ × ℕ)) (k : ℕ × ℕ) → IsTrue (contains pair_cmp s k) ↔ Contains s.keys k
member s k = btree_set_contains_iff total exact s k

clash : {X : Type 0} → true ≡ false → X
clash e = cc

is_equal : (o : Ordering) → is_eq o ≡ true → o ≡ Equal
is_equal Less e = clash (sym e)
is_equal Equal e = refl
is_equal Greater e = clash (sym e)

same_of : (k q : ℕ × ℕ) → is_eq (pair_cmp k q) ≡ true → k ≡ q
same_of k q e = exact k q (is_equal (pair_cmp k q) e)

-- ---- what `insert` and `remove` say

module _ (s n : BTreeSet (ℕ × ℕ)) (k : ℕ × ℕ) where
  pub added_kept : Updates pair_cmp s n k true → (q : ℕ × ℕ) → Contains s.keys q → Contains n.keys q
  added_kept u q c = (member n q).0 (by (is_eq (pair_cmp k q)) (u.0 q))
    where
      by : (b : Bool) → contains pair_cmp n q ≡ cond b true (contains pair_cmp s q) → IsTrue (contains pair_cmp n q)
      by true e = e
      by false e = e ∙ (member s q).1 c

  pub added_only : Updates pair_cmp s n k true → (q : ℕ × ℕ) → Contains n.keys q → (k ≡ q) ⊎ Contains s.keys q
  added_only u q c = by (is_eq (pair_cmp k q)) refl (u.0 q)
    where
      by : (b : Bool) → is_eq (pair_cmp k q) ≡ b → contains pair_cmp n q ≡ cond b true (contains pair_cmp s q) → (k ≡ q) ⊎ Contains s.keys q
      by true same e = inl (same_of k q same)
      by false other e = inr ((member s q).0 (sym e ∙ (member n q).1 c))

  pub added_has : Updates pair_cmp s n k true → Contains n.keys k
  added_has u = (member n k).0 u.1

  pub removed_kept : Updates pair_cmp s n k false → (q : ℕ × ℕ) → Contains s.keys q → (k ≡ q) ⊎ Contains n.keys q
  removed_kept u q c = by (is_eq (pair_cmp k q)) refl (u.0 q)
    where
      by : (b : Bool) → is_eq (pair_cmp k q) ≡ b → contains pair_cmp n q ≡ cond b false (contains pair_cmp s q) → (k ≡ q) ⊎ Contains n.keys q
      by true same e = inl (same_of k q same)
      by false other e = inr ((member n q).0 (e ∙ (member s q).1 c))

  pub removed_only : Updates pair_cmp s n k false → (q : ℕ × ℕ) → Contains n.keys q → Contains s.keys q
  removed_only u q c = by (is_eq (pair_cmp k q)) (u.0 q)
    where
      by : (b : Bool) → contains pair_cmp n q ≡ cond b false (contains pair_cmp s q) → Contains s.keys q
      by true e = clash (sym ((member n q).1 c) ∙ e)
      by false e = (member s q).0 (sym e ∙ (member n q).1 c)

  pub removed_gone : Updates pair_cmp s n k false → Contains n.keys k → ⊥
  removed_gone u c = clash (sym ((member n k).1 c) ∙ u.1)

pub is_added : (a b : Agenda) (time number : ℕ) → Updates pair_cmp a.entries b.entries (time, number) true → IsAdded a time number b
is_added a b time number u =
    record {
      has = added_has a.entries b.entries (time, number) u;
      kept = λ t d has. added_kept a.entries b.entries (time, number) u (t, d) has;
      only = λ t d has. elim (added_only a.entries b.entries (time, number) u (t, d) has) [
        | inl same ↦ inl (ap (λ p. p.0) (sym same), ap (λ p. p.1) (sym same))
        | inr old ↦ inr old
      ];
    }

pub is_removed : (a b : Agenda) (time number : ℕ) → Updates pair_cmp a.entries b.entries (time, number) false → IsRemoved a time number b
is_removed a b time number u =
    record {
      gone = removed_gone a.entries b.entries (time, number) u;
      kept = λ t d has. elim (removed_kept a.entries b.entries (time, number) u (t, d) has) [
        | inl same ↦ inl (ap (λ p. p.0) (sym same), ap (λ p. p.1) (sym same))
        | inr left ↦ inr left
      ];
      only = λ t d has. removed_only a.entries b.entries (time, number) u (t, d) has;
    }
