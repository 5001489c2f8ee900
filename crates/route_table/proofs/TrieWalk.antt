-- The entries of a fork that a search finds first.
use Rattle.std.proofs.Common.{◌≡◌, ◌<◌, ◌≤◌, Bool, true, false, ◌&&◌, ◌++◌, Option, Some, None, refl, sym, ap, ◌∙◌, arith}
use Rattle.std.specs.Prelude.{All, slice_index_or}
use Rattle.std.specs.Option.{option_or}
use Rattle.std.specs.declared.cmp.Ordering.TheVariants.{Less, Equal, Greater}
use Rattle.std.specs.declared.cmp.Ordering.{Ordering}
use mathlib.Core.Bool.{false≢true}
use Rattle.std.specs.Ordering.{is_lt, nat_cmp, ordering_then, partial_lt, partial_ordering_then, is_some_and}
use Rattle.std.proofs.lemmas.List.Elements.{All-append}
use Rattle.std.proofs.lemmas.Bool.Decides.{nat_tests}
use Rattle.prefix6.specs.Prefix.{Prefix6}
use Rattle.prefix6.specs.Halves.{middle}
use Rattle.prefix6.specs.contracts.prefix.PrefixPartialOrd.TheImpl as ThePrefix
use Rattle.prefix6.proofs.PrefixLaws.{prefixes_total}
use Rattle.route_table.specs.Route.{RouteValue}
use Rattle.route_table.specs.Place.{Entries}
use Rattle.route_table.specs.Table.{is_past}
use Rattle.route_table.specs.Due.{first_where}
use Rattle.route_table.specs.Trie.{in_turn, AreParts}
use Rattle.route_table.proofs.TrieLists.{Entry, first_append, first_fails, first_same}
use Rattle.route_table.proofs.TrieParts.{above}

pub is_less : (o : Ordering) → is_lt o ≡ true → o ≡ Less
is_less Less h = refl
is_less Equal h = absurd (false≢true h)
is_less Greater h = absurd (false≢true h)

-- the test that the code makes
pub less_is : (a p : Prefix6) → partial_lt ThePrefix.partial_cmp-value.it a p ≡ is_past (Some a) p
less_is a p = elim (nat_cmp a.addr p.addr) as (λ o. is_some_and is_lt (partial_ordering_then (Some o) (Some (nat_cmp a.len p.len))) ≡ is_lt (ordering_then o (nat_cmp a.len p.len))) [ Less ↦ refl | Equal ↦ refl | Greater ↦ refl ]

-- by addresses alone
before_all : (a k : Prefix6) → a.addr < k.addr → is_past (Some a) k ≡ true
before_all a k lt = grind (arith, nat_tests, lt)

past_all : (a k : Prefix6) → k.addr < a.addr → is_past (Some a) k ≡ false
past_all a k lt = grind (arith, nat_tests, lt)

pub never : (b : Bool) → (b && false) ≡ false
never true = refl
never false = refl

module _ (t : RouteValue → Bool) where
  -- in two lists one after the other
  pub either : (after : Option Prefix6) (xs ys : Entries) → first_where t after (xs ++ ys) ≡ option_or (first_where t after xs) (first_where t after ys)
  either after xs ys = first_append (λ e. t e.1 && is_past after e.0) xs ys

  pub in_first : (after : Option Prefix6) (xs ys : Entries) (e : Entry) → Some e ≡ first_where t after xs → Some e ≡ first_where t after (xs ++ ys)
  in_first after xs ys e is = ap (λ o. option_or o (first_where t after ys)) is ∙ sym (either after xs ys)

  pub in_second : (after : Option Prefix6) (xs ys : Entries) → None ≡ first_where t after xs → first_where t after ys ≡ first_where t after (xs ++ ys)
  in_second after xs ys is = ap (λ o. option_or o (first_where t after ys)) is ∙ sym (either after xs ys)

  -- where all lie past a prefix, or none does
  all_past : (a : Prefix6) (es : Entries) → All (λ e. is_past (Some a) e.0 ≡ true) es → first_where t None es ≡ first_where t (Some a) es
  all_past a es h = first_same (λ e. t e.1 && true) (λ e. t e.1 && is_past (Some a) e.0) es (λ i d lt. ap (λ b. t (slice_index_or es i d).1 && b) (sym (h i d lt)))

  none_past : (a : Prefix6) (es : Entries) → All (λ e. is_past (Some a) e.0 ≡ false) es → None ≡ first_where t (Some a) es
  none_past a es h = sym (first_fails (λ e. t e.1 && is_past (Some a) e.0) es (λ i d lt. ap (λ b. t (slice_index_or es i d).1 && b) (h i d lt) ∙ never _))

  module _ (p : Prefix6) (own low high : Entries) (parts : AreParts p own low high) (a : Prefix6) where
    -- before the fork's own prefix
    pub past_none : is_past (Some a) p ≡ true → first_where t None (in_turn own low high) ≡ first_where t (Some a) (in_turn own low high)
    past_none h = all_past a (in_turn own low high) (All-append (λ (e : Entry). is_past (Some a) e.0 ≡ true) own (low ++ high)
        (λ i d lt. ap (is_past (Some a)) (parts.at_prefix i d lt) ∙ h)
        (λ i d lt. ap is_lt (prefixes_total.trans a p _ (is_less _ h) (above p own low high parts i d lt))))

    module _ (h : is_past (Some a) p ≡ false) where
      below_own : first_where t (Some a) (low ++ high) ≡ first_where t (Some a) (in_turn own low high)
      below_own = in_second (Some a) own (low ++ high) (none_past a own (λ i d lt. ap (is_past (Some a)) (parts.at_prefix i d lt) ∙ h))

      -- from the upper half on
      pub past_lower : middle p ≤ a.addr → first_where t (Some a) high ≡ first_where t (Some a) (in_turn own low high)
      past_lower ge = in_second (Some a) low high (none_past a low (λ i d lt. past_all a _ (omega (arith, (parts.lower i d lt).to)))) ∙ below_own

      -- in the lower half
      pub in_lower : (e : Entry) → Some e ≡ first_where t (Some a) low → Some e ≡ first_where t (Some a) (in_turn own low high)
      in_lower e is = in_first (Some a) low high e is ∙ below_own

      pub past_lower_half : a.addr < middle p → None ≡ first_where t (Some a) low → first_where t None high ≡ first_where t (Some a) (in_turn own low high)
      past_lower_half less is = all_past a high (λ i d lt. before_all a _ (omega (arith, (parts.upper i d lt).from))) ∙ in_second (Some a) low high is ∙ below_own
