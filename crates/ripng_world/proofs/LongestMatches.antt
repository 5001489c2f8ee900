-- A forwarding table with a match of an address has a longest one, and only one prefix is that.
use Rattle.std.proofs.Common.{◌≡◌, ℕ, zero, suc, ◌≤◌, Bool, true, false, Option, Some, None, IsSomeAnd, IsTrue, is_some, refl, ap, sym, subst, ◌∙◌, arith}
use Rattle.std.specs.FinMap as map_of
use Rattle.prefix6.specs.Prefix.{Prefix6, cleared}
use Rattle.prefix6.proofs.PrefixSets.{is_cleared, holds_own, is_the_one}
use Rattle.fib.specs.Forwarding.{Forward, Forwarding, IsMatch, IsLongestMatch}
use Rattle.fib.specs.declared.change.Hop.{Hop}

module _ (table : Forwarding) (addr : ℕ) where
  abbrev pub HasLongest : Type 0
  HasLongest = (hop : Hop) × IsLongestMatch table addr hop

  longest_at : (q : Prefix6) → IsMatch table addr q → ((p : Prefix6) → IsMatch table addr p → p.len ≤ q.len) → HasLongest
  longest_at q m most = by_value (map_of.get table q) refl m.present
    where
      clash : false ≡ true → ⊥
      clash e = cc

      by_value : (o : Option Forward) → map_of.get table q ≡ o → IsTrue (is_some o) → HasLongest
      by_value None is there = absurd (clash there)
      by_value (Some f) is there = (f.hop, record { prefix = q; matches = m; longest = most; its_hop = subst (λ o. IsSomeAnd o (λ g. g.hop ≡ f.hop)) (sym is) refl })

  -- the one prefix of a length that holds the address
  other_length : (l : ℕ) → map_of.contains_key table (cleared addr l) ≡ false → (p : Prefix6) → IsMatch table addr p → p.len ≡ l → ⊥
  other_length l none p m e = clash (sym none ∙ ap (map_of.contains_key table) (sym (is_the_one p addr m.is_prefix m.holds ∙ ap (cleared addr) e)) ∙ m.present)
    where
      clash : false ≡ true → ⊥
      clash e = cc

  longest_up_to : (l : ℕ) → l ≤ 128 → ((p : Prefix6) → IsMatch table addr p → p.len ≤ l) → (p : Prefix6) → IsMatch table addr p → HasLongest
  longest_up_to zero short most p m = by_test (map_of.contains_key table (cleared addr 0)) refl
    where
      none : (n : ℕ) → n ≤ 0 → n ≡ 0
      none n h = omega arith

      by_test : (b : Bool) → map_of.contains_key table (cleared addr 0) ≡ b → HasLongest
      by_test true is =
          longest_at (cleared addr 0) (record { is_prefix = is_cleared addr 0 m.holds.0 short; present = is; holds = holds_own addr 0 m.holds.0 }) most
      by_test false is = absurd (other_length 0 is p m (none p.len (most p m)))
  longest_up_to (suc l) short most p m = by_test (map_of.contains_key table (cleared addr (suc l))) refl (λ less. longest_up_to l (lower l short) less p m)
    where
      lower : (l : ℕ) → suc l ≤ 128 → l ≤ 128
      lower l h = omega arith

      fewer : (n l : ℕ) → n ≤ suc l → (n ≡ suc l → ⊥) → n ≤ l
      fewer n l h e = omega arith

      by_test : (b : Bool) → map_of.contains_key table (cleared addr (suc l)) ≡ b → (((q : Prefix6) → IsMatch table addr q → q.len ≤ l) → HasLongest) → HasLongest
      by_test true is later =
          longest_at (cleared addr (suc l)) (record { is_prefix = is_cleared addr (suc l) m.holds.0 short; present = is; holds = holds_own addr (suc l) m.holds.0 }) most
      by_test false is later = later (λ q n. fewer q.len l (most q n) (other_length (suc l) is q n))

  pub has_longest : (p : Prefix6) → IsMatch table addr p → HasLongest
  has_longest p m = longest_up_to 128 (omega arith) (λ q n. n.is_prefix.short) p m

-- prefixes of one length that hold an address are one
pub one_of_length : (addr : ℕ) (s t : Forwarding) (p q : Prefix6) → IsMatch s addr p → IsMatch t addr q → p.len ≡ q.len → p ≡ q
one_of_length addr s t p q m n e = is_the_one p addr m.is_prefix m.holds ∙ ap (cleared addr) e ∙ sym (is_the_one q addr n.is_prefix n.holds)

pub one_prefix : (addr : ℕ) (s t : Forwarding) → s ≡ t → (h k : Hop) (m : IsLongestMatch s addr h) (n : IsLongestMatch t addr k) → m.prefix ≡ n.prefix
one_prefix addr s t e h k m n =
    one_of_length addr s t m.prefix n.prefix m.matches n.matches
    (both m.prefix.len n.prefix.len (n.longest m.prefix (subst (λ (x : Forwarding). IsMatch x addr m.prefix) e m.matches)) (m.longest n.prefix (subst (λ (x : Forwarding). IsMatch x addr n.prefix) (sym e) n.matches)))
  where
    both : (a b : ℕ) → a ≤ b → b ≤ a → a ≡ b
    both a b f g = omega arith
