-- A lawful configuration stays lawful as it is changed.
use Rattle.std.proofs.Common.{◌≡◌, ◌&&◌, ◌⊎◌, inl, inr, ℕ, zero, suc, ◌+◌, ◌<◌, ◌≤◌, Bool, true, false, cond, not, ◌||◌, ◌==◌, nat_lt, List, [], ◌∷◌, ◌++◌, map, take, length, get_or, Some, None, unwrap_or, option_map, slice_get, slice_set, All, refl, ap, sym, subst, ◌∙◌, arith}
use Rattle.std.specs.List.{AllByRecursion, enumerate_from, flat_map, list_any}
use Rattle.std.specs.FinMap as map_of
use Rattle.std.proofs.lemmas.Bool.Decides.{nat_tests}
use Rattle.std.proofs.lemmas.List.{take-map, length-append}
use Rattle.std.proofs.lemmas.List.Elements.{All-filter, All-push}
use Rattle.std.proofs.lemmas.Option.{slice_get-get_or}
use Rattle.prefix6.specs.Prefix.{Prefix6, IsPrefix, same_prefix, is_routable}
use Rattle.prefix6.proofs.PrefixLaws.{same_prefix-itself}
use Rattle.ripng_wire.proofs.FirstReason.{EachPasses, each_passes, none_fails}
use Rattle.route_table.specs.Table.{Table, with_value}
use Rattle.route_table.proofs.TableLaws.{None-Some, Some-same}
use Rattle.route_table.proofs.TableSteps.{with_value-same}
use Rattle.router_core.specs.Config.{Config, IsConfig, config_reasons, reasons_of_each, interface_reasons, prefix_reasons, has_address, has_prefix, is_usable_cost}
use Rattle.router_core.specs.Owning.{OwnsOnce}
use Rattle.router_core.specs.Reconfiguring.{reconfigure_fault, reconfigure_reasons, reconfigured_config, disowned, with_cost, without_prefix}
use Rattle.router_core.specs.declared.config.ConfigRefused.{ConfigRefused}
use Rattle.router_core.specs.declared.config.Interface.{Interface}
use Rattle.router_core.specs.Config.{interface_limit, owned_limit}
use Rattle.router_core.specs.declared.reconfiguring.Change.TheVariants.{Own, Disown}
use Rattle.router_core.proofs.ConfigLaws.{passes_at, interfaces_pass, prefixes_pass, interface_passes, few_interfaces, few_prefixes, some_interface}
use Rattle.router_core.proofs.OwnedStay.{each_append, each_passing, not_among, once_more, once_filtered}

-- ---- tests of each member of a list

passes-both : {F : Type 0} (these others : List (Bool × F)) → EachPasses these → EachPasses others → EachPasses (these ++ others)
passes-both [] others p q = q
passes-both (t ∷ these) others p q = (p.0, passes-both these others p.1 q)

passes_from : {X F : Type 0} (f : ℕ × X → List (Bool × F)) (n : ℕ) (xs : List X) → ((i : ℕ) (x : X) → slice_get xs i ≡ Some x → EachPasses (f (n + i, x)))
    → EachPasses (flat_map f (enumerate_from n xs))
passes_from f n [] at = tt
passes_from {F = F} f n (y ∷ xs) at =
    let e : n + 0 ≡ n = omega arith in
    passes-both (f (n, y)) (flat_map f (enumerate_from (n + 1) xs)) (subst (λ (m : ℕ). EachPasses {F = F} (f (m, y))) e (at 0 y refl))
    (passes_from f (n + 1) xs (λ i x is. later i x is))
  where
    later : (i : ℕ) (x : _) → slice_get xs i ≡ Some x → EachPasses (f (n + 1 + i, x))
    later i x is = let e : n + suc i ≡ n + 1 + i = omega arith in subst (λ (m : ℕ). EachPasses {F = F} (f (m, x))) e (at (suc i) x is)

-- what is known of each part of a configuration
config_from : (c : Config) → 0 < length c.interfaces → length c.interfaces ≤ interface_limit → EachPasses (reasons_of_each interface_reasons c.interfaces)
    → length c.prefixes ≤ owned_limit → EachPasses (reasons_of_each prefix_reasons c.prefixes) → All (λ t. IsPrefix t.0) c.prefixes → IsConfig c
config_from c some few interfaces owned prefixes lawful =
    let none : (length c.interfaces == 0) ≡ false = grind (arith, nat_tests, some) in
    let below : nat_lt interface_limit (length c.interfaces) ≡ false = grind (arith, nat_tests, few) in
    let fits : nat_lt owned_limit (length c.prefixes) ≡ false = grind (arith, nat_tests, owned) in
    record {
      passes = none_fails (config_reasons c) (
        none,
        (
          below,
          passes-both (reasons_of_each interface_reasons c.interfaces) ((nat_lt owned_limit (length c.prefixes), ConfigRefused.TooManyPrefixes) ∷ reasons_of_each prefix_reasons c.prefixes) interfaces (fits, prefixes),
        ),
      );
      prefixes = lawful;
    }

-- ---- another cost

cost_there : (xs : List Interface) (k : ℕ) (cost : ℕ) (x : Interface) → slice_get xs k ≡ Some x → with_cost xs k cost ≡ slice_set xs k (record x { cost = cost })
cost_there xs k cost x is = ap (λ o. unwrap_or (option_map (λ i. slice_set xs k (record i { cost = cost })) o) xs) is

placed : {A : Type 0} (xs : List A) (k : ℕ) (x : A) (j : ℕ) (y : A) → slice_get (slice_set xs k x) j ≡ Some y → ((k ≡ j) × (x ≡ y)) ⊎ (slice_get xs j ≡ Some y)
placed [] k x j y e = inr e
placed (w ∷ ws) zero x zero y e = inl (refl, Some-same x y e)
placed (w ∷ ws) zero x (suc j) y e = inr e
placed (w ∷ ws) (suc k) x zero y e = inr e
placed (w ∷ ws) (suc k) x (suc j) y e = elim (placed ws k x j y e) [ inl both ↦ inl (ap suc both.0, both.1) | inr there ↦ inr there ]

same_length : {A : Type 0} (xs : List A) (k : ℕ) (x : A) → length (slice_set xs k x) ≡ length xs
same_length [] k x = refl
same_length (w ∷ ws) zero x = refl
same_length (w ∷ ws) (suc k) x = ap suc (same_length ws k x)

any_map : {A B : Type 0} (test : B → Bool) (f : A → B) (xs : List A) → list_any test (map f xs) ≡ list_any (λ x. test (f x)) xs
any_map test f [] = refl
any_map test f (x ∷ xs) = ap (λ b. test (f x) || b) (any_map test f xs)

module _ (xs : List Interface) (k cost : ℕ) (x : Interface) (is : slice_get xs k ≡ Some x) where
  changed : List Interface
  changed = slice_set xs k (record x { cost = cost })

  abbrev placed_by : Interface → ℕ × ℕ
  placed_by i = (i.zone, i.addr)

  same_addresses : (ys : List Interface) (j : ℕ) → slice_get ys j ≡ Some x → map placed_by (slice_set ys j (record x { cost = cost })) ≡ map placed_by ys
  same_addresses [] j e = refl
  same_addresses (y ∷ ys) zero e = ap (λ a. a ∷ map placed_by ys) (sym (ap placed_by (Some-same y x e)))
  same_addresses (y ∷ ys) (suc j) e = ap (λ rest. placed_by y ∷ rest) (same_addresses ys j e)

  same_earlier : (j z a : ℕ) → has_address (take j (slice_set xs k (record x { cost = cost }))) z a ≡ has_address (take j xs) z a
  same_earlier j z a =
      sym (any_map (λ (b : ℕ × ℕ). b.0 == z && b.1 == a) placed_by (take j (slice_set xs k (record x { cost = cost }))))
      ∙ ap (list_any (λ (b : ℕ × ℕ). b.0 == z && b.1 == a)) (sym (take-map placed_by j (slice_set xs k (record x { cost = cost })))
      ∙ ap (take j) (same_addresses xs k is) ∙ take-map placed_by j xs)
      ∙ any_map (λ (b : ℕ × ℕ). b.0 == z && b.1 == a) placed_by (take j xs)

  module _ (usable : is_usable_cost cost ≡ true) (at : (j : ℕ) (z : Interface) → slice_get xs j ≡ Some z → EachPasses (interface_reasons (take j xs) z)) where
    still : (j : ℕ) (y : Interface) → slice_get (slice_set xs k (record x { cost = cost })) j ≡ Some y → EachPasses (interface_reasons (take j (slice_set xs k (record x { cost = cost }))) y)
    still j y e = by_place (placed xs k (record x { cost = cost }) j y e)
      where
        by_place : ((k ≡ j) × (record x { cost = cost } ≡ y)) ⊎ (slice_get xs j ≡ Some y) → EachPasses (interface_reasons (take j (slice_set xs k (record x { cost = cost }))) y)
        by_place (inr there) = let h = at j y there in (h.0, (same_earlier j y.zone y.addr ∙ h.1.0, h.1.1))
        by_place (inl both) =
            let h = at k x is in
            subst (λ (z : Interface). EachPasses (interface_reasons (take j (slice_set xs k (record x { cost = cost }))) z)) both.1
            (h.0, (same_earlier j x.zone x.addr ∙ ap (λ m. has_address (take m xs) x.zone x.addr) (sym both.0) ∙ h.1.0, (ap not usable, h.1.1.1)))

pub lawful_cost : (c : Config) → IsConfig c → (k cost : ℕ) (x : Interface) → slice_get c.interfaces k ≡ Some x → is_usable_cost cost ≡ true
    → IsConfig (record c { interfaces = slice_set c.interfaces k (record x { cost = cost }) })
lawful_cost c lawful k cost x is usable =
    let same : length (slice_set c.interfaces k (record x { cost = cost })) ≡ length c.interfaces = same_length c.interfaces k (record x { cost = cost }) in
    let some = some_interface c lawful in
    let few = few_interfaces c lawful in
    config_from (record c { interfaces = slice_set c.interfaces k (record x { cost = cost }) })
    (subst (λ (n : ℕ). 0 < n) (sym same) some)
    (subst (λ (n : ℕ). n ≤ interface_limit) (sym same) few)
    (passes_from (λ t. interface_reasons (take t.0 (slice_set c.interfaces k (record x { cost = cost }))) t.1) 0 (slice_set c.interfaces k (record x { cost = cost }))
    (λ j y here. let e : 0 + j ≡ j = omega arith in
    subst (λ (m : ℕ). EachPasses (interface_reasons (take m (slice_set c.interfaces k (record x { cost = cost }))) y)) (sym e)
    (still c.interfaces k cost x is usable (λ i z there. let f : 0 + i ≡ i = omega arith in
    subst (λ (m : ℕ). EachPasses (interface_reasons (take m c.interfaces) z)) f (interface_passes c lawful i z there)) j y here)))
    (few_prefixes c lawful) (prefixes_pass c lawful).1 lawful.prefixes

-- the interface that was set
pub cost_set : (xs : List Interface) (k cost : ℕ) (x : Interface) → k < length xs → x ≡ get_or xs k x
    → (slice_get xs k ≡ Some x) × (slice_set xs k (record x { cost = cost }) ≡ with_cost xs k cost)
cost_set xs k cost x here is =
    let there : slice_get xs k ≡ Some x = slice_get-get_or xs k x here ∙ ap Some (sym is) in (there, sym (cost_there xs k cost x there))

-- ---- owned prefixes

or_left : (a b : Bool) → (a || b) ≡ false → a ≡ false
or_left true b e = e
or_left false b e = refl

or_right : (a b : Bool) → (a || b) ≡ false → b ≡ false
or_right true b e = absurd (cc)
or_right false b e = e

all_from : {X : Type 0} (P : X → Type 0) (xs : List X) → ((i : ℕ) (x : X) → slice_get xs i ≡ Some x → P x) → AllByRecursion P xs
all_from P [] at = tt
all_from P (x ∷ xs) at = (at 0 x refl, all_from P xs (λ i y is. at (suc i) y is))

all_at : {X : Type 0} (P : X → Type 0) (xs : List X) → AllByRecursion P xs → (i : ℕ) (x : X) → slice_get xs i ≡ Some x → P x
all_at P [] all i x is = absurd (None-Some x is)
all_at P (y ∷ ys) all zero x is = subst P (Some-same y x is) all.0
all_at P (y ∷ ys) all (suc i) x is = all_at P ys all.1 i x is

once_from : (ts : List (Prefix6 × ℕ)) → ((j : ℕ) (u : Prefix6 × ℕ) → slice_get ts j ≡ Some u → has_prefix (take j ts) u.0 ≡ false) → OwnsOnce ts
once_from [] at = tt
once_from (t ∷ ts) at = (
  all_from (λ u. same_prefix t.0 u.0 ≡ false) ts (λ j u is. or_left (same_prefix t.0 u.0) (has_prefix (take j ts) u.0) (at (suc j) u is)),
  once_from ts (λ j u is. or_right (same_prefix t.0 u.0) (has_prefix (take j ts) u.0) (at (suc j) u is)),
)

once_at : (ts : List (Prefix6 × ℕ)) → OwnsOnce ts → (j : ℕ) (u : Prefix6 × ℕ) → slice_get ts j ≡ Some u → has_prefix (take j ts) u.0 ≡ false
once_at [] once j u is = absurd (None-Some u is)
once_at (t ∷ ts) once zero u is = refl
once_at (t ∷ ts) once (suc j) u is =
    ap (λ b. b || has_prefix (take j ts) u.0) (all_at (λ v. same_prefix t.0 v.0 ≡ false) ts once.0 j u is) ∙ once_at ts once.1 j u is

abbrev AreRoutable : List (Prefix6 × ℕ) → Type 0
AreRoutable ts = AllByRecursion (λ t. not (is_routable t.0) ≡ false) ts

module _ (c : Config) (lawful : IsConfig c) where
  tests_at : (i : ℕ) (t : Prefix6 × ℕ) → slice_get c.prefixes i ≡ Some t → EachPasses (prefix_reasons (take i c.prefixes) t)
  tests_at i t is =
      let e : 0 + i ≡ i = omega arith in
      subst (λ (m : ℕ). EachPasses (prefix_reasons (take m c.prefixes) t)) e (passes_at (λ u. prefix_reasons (take u.0 c.prefixes) u.1) 0 c.prefixes i t is (prefixes_pass c lawful).1)

  -- no prefix stands twice
  pub owned_once : OwnsOnce c.prefixes
  owned_once = once_from c.prefixes (λ j u is. (tests_at j u is).0)

  routable : AreRoutable c.prefixes
  routable = all_from (λ t. not (is_routable t.0) ≡ false) c.prefixes (λ j u is. (tests_at j u is).1.0)

prefixes_from : (ts : List (Prefix6 × ℕ)) → OwnsOnce ts → AreRoutable ts → EachPasses (reasons_of_each prefix_reasons ts)
prefixes_from ts once may =
    passes_from (λ u. prefix_reasons (take u.0 ts) u.1) 0 ts
    (λ i t is. let e : 0 + i ≡ i = omega arith in
    subst (λ (m : ℕ). EachPasses (prefix_reasons (take m ts) t)) (sym e) (once_at ts once i t is, (all_at (λ u. not (is_routable u.0) ≡ false) ts may i t is, tt)))

-- other prefixes
lawful_prefixes : (c : Config) → IsConfig c → (ts : List (Prefix6 × ℕ)) → length ts ≤ owned_limit → OwnsOnce ts → AreRoutable ts → All (λ t. IsPrefix t.0) ts
    → IsConfig (record c { prefixes = ts })
lawful_prefixes c lawful ts few once may prefixes =
    config_from (record c { prefixes = ts }) (some_interface c lawful) (few_interfaces c lawful) (interfaces_pass c lawful) few (prefixes_from ts once may) prefixes

pub lawful_own : (c : Config) → IsConfig c → (p : Prefix6) (tag : ℕ) → IsPrefix p → is_routable p ≡ true → has_prefix c.prefixes p ≡ false → length c.prefixes < owned_limit
    → IsConfig (record c { prefixes = c.prefixes ++ (p, tag) ∷ [] })
lawful_own c lawful p tag is allowed new room =
    let longer : length (c.prefixes ++ (p, tag) ∷ []) ≡ length c.prefixes + 1 = length-append c.prefixes ((p, tag) ∷ []) in
    lawful_prefixes c lawful (c.prefixes ++ (p, tag) ∷ [])
    (omega (arith, longer, room))
    (once_more c.prefixes p tag (owned_once c lawful) (not_among c.prefixes p new))
    (each_append (λ (t : Prefix6 × ℕ). not (is_routable t.0) ≡ false) c.prefixes ((p, tag) ∷ []) (routable c lawful) (ap not allowed, tt))
    (All-push (λ (t : Prefix6 × ℕ). IsPrefix t.0) c.prefixes (p, tag) lawful.prefixes is)

shorter : (ts : List (Prefix6 × ℕ)) (p : Prefix6) → length (without_prefix ts p) ≤ length ts
shorter [] p = omega arith
shorter (t ∷ ts) p = by_test (same_prefix t.0 p) (shorter ts p)
  where
    by_test : (b : Bool) → length (without_prefix ts p) ≤ length ts → length (cond (not b) (t ∷ without_prefix ts p) (without_prefix ts p)) ≤ length (t ∷ ts)
    by_test true le = omega (arith, le)
    by_test false le = omega (arith, le)

pub lawful_disown : (c : Config) → IsConfig c → (p : Prefix6) → IsConfig (record c { prefixes = without_prefix c.prefixes p })
lawful_disown c lawful p =
    let le = shorter c.prefixes p in
    let few = few_prefixes c lawful in
    lawful_prefixes c lawful (without_prefix c.prefixes p) (omega (arith, le, few))
    (once_filtered (λ t. not (same_prefix t.0 p)) c.prefixes (owned_once c lawful))
    (each_passing (λ (t : Prefix6 × ℕ). not (is_routable t.0) ≡ false) (λ (t : Prefix6 × ℕ). not (is_routable t.0) ≡ false) (λ t. not (same_prefix t.0 p)) (λ t may passes. may) c.prefixes (routable c lawful))
    (All-filter (λ t. not (same_prefix t.0 p)) (λ (t : Prefix6 × ℕ). IsPrefix t.0) c.prefixes lawful.prefixes)

-- a prefix that is owned and given up again leaves what was before
pub undone : (ts : List (Prefix6 × ℕ)) (p : Prefix6) (tag : ℕ) → has_prefix ts p ≡ false → same_prefix p p ≡ true → without_prefix (ts ++ (p, tag) ∷ []) p ≡ ts
undone [] p tag new itself = ap (λ b. cond (not b) ((p, tag) ∷ []) []) itself
undone (t ∷ ts) p tag new itself =
    ap (λ b. cond (not b) (t ∷ without_prefix (ts ++ (p, tag) ∷ []) p) (without_prefix (ts ++ (p, tag) ∷ []) p)) (or_left (same_prefix t.0 p) (has_prefix ts p) new)
    ∙ ap (λ us. t ∷ us) (undone ts p tag (or_right (same_prefix t.0 p) (has_prefix ts p) new) itself)

-- where nothing refuses that a prefix is owned, it is not owned yet
pub not_owned : (c : Config) (table : Table) (p : Prefix6) (tag : ℕ) → reconfigure_fault c table (Own p tag) ≡ None → has_prefix c.prefixes p ≡ false
not_owned c table p tag allowed = (each_passes (reconfigure_reasons c table (Own p tag)) allowed).1.0

-- the configuration is as before it was owned
pub undone_config : (c : Config) (table : Table) (p : Prefix6) (tag : ℕ) → reconfigure_fault c table (Own p tag) ≡ None
    → reconfigured_config (reconfigured_config c (Own p tag)) (Disown p) ≡ c
undone_config c table p tag allowed =
    ap (λ ts. record c { prefixes = ts }) (undone c.prefixes p tag (not_owned c table p tag allowed) (same_prefix-itself p))

-- there is no route to give up
pub none_given_up : (now : ℕ) (table : Table) (p : Prefix6) → map_of.get table p ≡ None → with_value table p (disowned now (map_of.get table p)) ≡ table
none_given_up now table p none = ap (λ o. with_value table p (disowned now o)) none ∙ with_value-same table p None none
