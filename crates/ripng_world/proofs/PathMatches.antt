-- The longest match, found by going down from the longest prefixes that hold an address.
use Rattle.std.proofs.Common.{◌≡◌, ℕ, ◌+◌, ◌-◌, ◌<◌, ◌≤◌, ◌^◌, Option, Some, None, IsNone, IfSome, MatchOption, IsSomeAnd, IsTrue, is_some, option_map, refl, ap, sym, subst, ◌∙◌, arith}
use Rattle.std.specs.FinMap as map_of
use Rattle.std.proofs.lemmas.Bool.{false≢true}
use Rattle.prefix6.specs.Prefix.{Prefix6, cleared}
use Rattle.prefix6.proofs.PrefixSets.{is_cleared, holds_own, is_the_one}
use Rattle.fib.specs.Forwarding.{Forward, Forwarding, IsMatch, IsLongestMatch}
use Rattle.fib.specs.declared.change.Hop.{Hop}
use Rattle.route_table.proofs.TableLaws.{Some-same, None-Some}

module _ (table : Forwarding) (addr : ℕ) where
  -- where the prefix of a length that holds the address has no hop, no match has that length
  pub none_as_long : (len : ℕ) → option_map (λ (f : Forward). f.hop) (map_of.get table (cleared addr len)) ≡ None → (p : Prefix6) → IsMatch table addr p → p.len ≡ len → ⊥
  none_as_long len none p m long = by_value (map_of.get table (cleared addr len)) none there
    where
      there : IsTrue (is_some (map_of.get table (cleared addr len)))
      there = subst (λ (q : Prefix6). IsTrue (is_some (map_of.get table q))) (is_the_one p addr m.is_prefix m.holds ∙ ap (cleared addr) long) m.present

      by_value : (o : Option Forward) → option_map (λ (f : Forward). f.hop) o ≡ None → IsTrue (is_some o) → ⊥
      by_value None e is = false≢true is
      by_value (Some f) e is = None-Some f.hop (sym e)

  is_longest : (len : ℕ) → len ≤ 128 → addr < 2 ^ 128 → ((p : Prefix6) → IsMatch table addr p → p.len < len + 1)
      → (hop : Hop) → option_map (λ (f : Forward). f.hop) (map_of.get table (cleared addr len)) ≡ Some hop → IsLongestMatch table addr hop
  is_longest len short low below hop is = by_value (map_of.get table (cleared addr len)) refl is
    where
      no_longer : (n : ℕ) → n < len + 1 → n ≤ len
      no_longer n h = omega arith

      by_value : (o : Option Forward) → map_of.get table (cleared addr len) ≡ o → option_map (λ (f : Forward). f.hop) o ≡ Some hop → IsLongestMatch table addr hop
      by_value None at e = absurd (None-Some hop e)
      by_value (Some f) at e =
          record {
            prefix = cleared addr len;
            matches = record { is_prefix = is_cleared addr len low short; present = ap is_some at; holds = holds_own addr len low };
            longest = λ p m. no_longer p.len (below p m);
            its_hop = subst (λ (o : Option Forward). IsSomeAnd o (λ g. g.hop ≡ hop)) (sym at) (Some-same f.hop hop e);
          }

  -- what the prefix of a length answers
  abbrev pub HopAt : ℕ → Option Hop → Type 0
  HopAt len o = (o ≡ option_map (λ (f : Forward). f.hop) (map_of.get table (cleared addr len))) × (addr < 2 ^ 128)

  -- where the longest 129 - from lengths answer none, each match is shorter
  shorter : (from : ℕ) → from ≤ 129 → ((k : ℕ) → k < from → HopAt (129 - 1 - k) None) → (p : Prefix6) → IsMatch table addr p → p.len < 129 - from
  shorter from most none p m = below p.len m.is_prefix.short (λ long. none_as_long (129 - 1 - (128 - p.len)) (sym (none (128 - p.len) (inside p.len m.is_prefix.short long)).0) p m (back p.len m.is_prefix.short))
    where
      inside : (l : ℕ) → l ≤ 128 → 129 - from ≤ l → 128 - l < from
      inside l short long = omega (arith, most)

      back : (l : ℕ) → l ≤ 128 → l ≡ 129 - 1 - (128 - l)
      back l short = omega arith

      below : (l : ℕ) → l ≤ 128 → (129 - from ≤ l → ⊥) → l < 129 - from
      below l short other = omega arith

  -- what the lengths answer, the greatest first, as far as they were asked
  abbrev pub Sought : Option Hop → Type 0
  Sought r = MatchOption r ((k : ℕ) → k < 129 → HopAt (129 - 1 - k) None) (λ hop. (i : ℕ) × (i < 129) × HopAt (129 - 1 - i) (Some hop) × ((k : ℕ) → k < i → HopAt (129 - 1 - k) None))

  pub found_longest : (r : Option Hop) → Sought r → IfSome r (IsLongestMatch table addr)
  found_longest None h = tt
  found_longest (Some hop) h =
      is_longest (129 - 1 - h.0) (omega arith) h.2.1 (λ p m. same p.len h.0 h.1 (shorter h.0 (omega (arith, h.1)) h.3 p m)) hop (sym h.2.0)
    where
      same : (l i : ℕ) → i < 129 → l < 129 - i → l < 129 - 1 - i + 1
      same l i inside h = omega arith

  pub found_none : (r : Option Hop) → IsNone r → Sought r → (p : Prefix6) → IsMatch table addr p → ⊥
  found_none None none h p m = impossible p.len (shorter 129 (omega arith) h p m)
    where
      impossible : (l : ℕ) → l < 129 - 129 → ⊥
      impossible l h = omega arith
  found_none (Some hop) none h p m = absurd (cc)
