-- What the parts of a fork say of finding, putting and taking out a prefix in the whole.
use Rattle.std.proofs.Common.{◌≡◌, ◌≢◌, ◌<◌, ◌≤◌, cond, [], ◌∷◌, ◌++◌, Option, Some, None, refl, sym, ap, subst, ◌∙◌, arith}
use Rattle.std.specs.Prelude.{T, All, Box, IsSome}
use Rattle.std.specs.Option.{option_or}
use Rattle.std.specs.Ordering.{eq_by_cmp}
use Rattle.std.specs.Cmp.{tied_itself}
use Rattle.std.specs.declared.alloc.Global.{Global}
use Rattle.std.specs.declared.cmp.Ordering.TheVariants.{Less, Greater}
use Rattle.std.specs.FinMap.Entries.{find, put, by_order, is_sorted, is_sorted-put, is_sorted-where_key}
use Rattle.std.proofs.lemmas.List.Elements.{All-nil, All-cons, All-append, All-filter}
use Rattle.prefix6.specs.Prefix.{Prefix6, prefix_cmp}
use Rattle.prefix6.specs.Halves.{IsLow, IsHigh, middle}
use Rattle.prefix6.proofs.PrefixLaws.{prefixes_total}
use Rattle.route_table.specs.Route.{RouteValue}
use Rattle.route_table.specs.Place.{Entries}
use Rattle.route_table.specs.Trie.{owned, own_value, in_turn, without, AreParts}
use Rattle.route_table.proofs.TrieLists.{Entry, itself, less_not_self, later, before, behind, turned, same_addr, find-append, find_none, found, put_right, put_left, put_front, All-put, without_append, without_none, without_all}

-- a longer prefix is another
pub longer_other : (p k : Prefix6) → p.len < k.len → p ≢ k
longer_other p k longer e = omega (arith, longer, ap (λ (x : Prefix6). x.len) e)

module _ (p : Prefix6) (own low high : Entries) (parts : AreParts p own low high) where
  -- what hangs at a fork comes after it
  pub above : All (λ e. prefix_cmp p e.0 ≡ Less) (low ++ high)
  above = All-append (λ (e : Entry). prefix_cmp p e.0 ≡ Less) low high
      (λ i d lt. later p _ (parts.lower i d lt).longer (parts.lower i d lt).from)
      (λ i d lt. later p _ (parts.upper i d lt).longer (omega (arith, (parts.upper i d lt).from)))

  module _ (k : Prefix6) where
    own_other : p ≢ k → All (λ e. e.0 ≢ k) own
    own_other other i d lt e = other (sym (parts.at_prefix i d lt) ∙ e)

    low_other : middle p ≤ k.addr → All (λ e. e.0 ≢ k) low
    low_other ge i d lt h = omega (arith, (parts.lower i d lt).to, same_addr _ _ h)

    high_other : k.addr < middle p → All (λ e. e.0 ≢ k) high
    high_other less i d lt h = omega (arith, (parts.upper i d lt).from, same_addr _ _ h)

    or_nothing : (o : Option RouteValue) → option_or o None ≡ o
    or_nothing None = refl
    or_nothing (Some x) = refl

    -- ---- what is found
    -- a prefix that is no longer than the fork's own may only be that
    pub find_short : k.len ≤ p.len → find prefix_cmp k own ≡ find prefix_cmp k (in_turn own low high)
    find_short short =
        sym (find-append k own (low ++ high)
        ∙ ap (option_or (find prefix_cmp k own)) (find_none k (low ++ high) (All-append (λ (e : Entry). e.0 ≢ k) low high
        (λ i d lt h. omega (arith, short, (parts.lower i d lt).longer, ap (λ (x : Prefix6). x.len) h))
        (λ i d lt h. omega (arith, short, (parts.upper i d lt).longer, ap (λ (x : Prefix6). x.len) h))))
        ∙ or_nothing _)

    module _ (other : p ≢ k) where
      parted : find prefix_cmp k (in_turn own low high) ≡ option_or (find prefix_cmp k low) (find prefix_cmp k high)
      parted = find-append k own (low ++ high) ∙ ap (λ o. option_or o (find prefix_cmp k (low ++ high))) (find_none k own (own_other other)) ∙ find-append k low high

      or_none : (o : Option RouteValue) → option_or o None ≡ o
      or_none None = refl
      or_none (Some x) = refl

      pub find_low : k.addr < middle p → find prefix_cmp k low ≡ find prefix_cmp k (in_turn own low high)
      find_low less = sym (parted ∙ ap (option_or (find prefix_cmp k low)) (find_none k high (high_other less)) ∙ or_none _)

      pub find_high : middle p ≤ k.addr → find prefix_cmp k high ≡ find prefix_cmp k (in_turn own low high)
      find_high ge = sym (parted ∙ ap (λ o. option_or o (find prefix_cmp k high)) (find_none k low (low_other ge)))

      -- where a prefix that is found lies
      module _ (some : IsSome (find prefix_cmp k (in_turn own low high))) where
        pub low_some : k.addr < middle p → IsSome (find prefix_cmp k low)
        low_some less = subst IsSome (sym (find_low less)) some

        pub high_some : middle p ≤ k.addr → IsSome (find prefix_cmp k high)
        high_some ge = subst IsSome (sym (find_high ge)) some

        pub is_low : k.addr < middle p → IsLow p k
        is_low less = found (IsLow p) k low parts.lower (low_some less)

        pub is_high : middle p ≤ k.addr → IsHigh p k
        is_high ge = found (IsHigh p) k high parts.upper (high_some ge)

    -- ---- what is put
    module _ (v : RouteValue) where
      own_behind : p.len < k.len → p.addr ≤ k.addr → All (λ e. prefix_cmp k e.0 ≡ Greater) own
      own_behind longer from i d lt = ap (prefix_cmp k) (parts.at_prefix i d lt) ∙ turned p k Less (later p k longer from)

      pub put_low : IsLow p k → in_turn own (put prefix_cmp k v low) high ≡ put prefix_cmp k v (in_turn own low high)
      put_low is = sym (put_right k v own (low ++ high) (own_behind is.longer is.from)
          ∙ ap (λ l. own ++ l) (put_left k v low high (λ i d lt. before k _ (omega (arith, is.to, (parts.upper i d lt).from)))))

      pub put_high : IsHigh p k → in_turn own low (put prefix_cmp k v high) ≡ put prefix_cmp k v (in_turn own low high)
      put_high is = sym (put_right k v own (low ++ high) (own_behind is.longer (omega (arith, is.from)))
          ∙ ap (λ l. own ++ l) (put_right k v low high (λ i d lt. behind k _ (omega (arith, is.from, (parts.lower i d lt).to)))))

      pub low_parts : IsLow p k → (low' : Entries) → low' ≡ put prefix_cmp k v low → AreParts p own low' high
      low_parts is low' e = record {
        sorted = subst (λ l. T (is_sorted prefix_cmp l)) (sym (put_low is) ∙ ap (λ l. in_turn own l high) (sym e)) (is_sorted-put prefix_cmp prefixes_total k v _ parts.sorted);
        at_prefix = parts.at_prefix;
        lower = subst (All (λ e. IsLow p e.0)) (sym e) (All-put (IsLow p) k v low is parts.lower);
        upper = parts.upper;
      }

      pub high_parts : IsHigh p k → (high' : Entries) → high' ≡ put prefix_cmp k v high → AreParts p own low high'
      high_parts is high' e = record {
        sorted = subst (λ l. T (is_sorted prefix_cmp l)) (sym (put_high is) ∙ ap (λ l. in_turn own low l) (sym e)) (is_sorted-put prefix_cmp prefixes_total k v _ parts.sorted);
        at_prefix = parts.at_prefix;
        lower = parts.lower;
        upper = subst (All (λ e. IsHigh p e.0)) (sym e) (All-put (IsHigh p) k v high is parts.upper);
      }

    -- ---- what is taken out
    pub own_goes : k ≡ p → in_turn [] low high ≡ without k (in_turn own low high)
    own_goes is = rw is (sym (without_append p own (low ++ high)
        ∙ ap (λ l. l ++ without p (low ++ high)) (without_all p own parts.at_prefix)
        ∙ without_none p (low ++ high) (λ i d lt e. less_not_self p (subst (λ z. prefix_cmp p z ≡ Less) e (above i d lt)))))

    module _ (other : p ≢ k) where
      own_stays : without k (in_turn own low high) ≡ in_turn own (without k low) (without k high)
      own_stays = without_append k own (low ++ high)
          ∙ ap (λ l. l ++ without k (low ++ high)) (without_none k own (own_other other))
          ∙ ap (λ l. own ++ l) (without_append k low high)

      high_stays : k.addr < middle p → without k high ≡ high
      high_stays less = without_none k high (high_other less)

      low_stays : middle p ≤ k.addr → without k low ≡ low
      low_stays ge = without_none k low (low_other ge)

      pub low_goes : k.addr < middle p → (low' : Entries) → low' ≡ without k low → in_turn own low' high ≡ without k (in_turn own low high)
      low_goes less low' e = ap (λ l. in_turn own l high) e ∙ sym (own_stays ∙ ap (λ l. in_turn own (without k low) l) (high_stays less))

      pub high_goes : middle p ≤ k.addr → (high' : Entries) → high' ≡ without k high → in_turn own low high' ≡ without k (in_turn own low high)
      high_goes ge high' e = ap (λ l. in_turn own low l) e ∙ sym (own_stays ∙ ap (λ l. in_turn own l (without k high)) (low_stays ge))

      sorted_without : (l : Entries) → l ≡ without k (in_turn own low high) → T (is_sorted prefix_cmp l)
      sorted_without l e = subst (λ x. T (is_sorted prefix_cmp x)) (sym e) (is_sorted-where_key {X = RouteValue} prefix_cmp _ (in_turn own low high) parts.sorted)

      pub parts_low : k.addr < middle p → (low' : Entries) → low' ≡ without k low → AreParts p own low' high
      parts_low less low' e = record {
        sorted = sorted_without _ (low_goes less low' e);
        at_prefix = parts.at_prefix;
        lower = subst (All (λ e. IsLow p e.0)) (sym e) (All-filter _ (λ (e : Entry). IsLow p e.0) low parts.lower);
        upper = parts.upper;
      }

      pub parts_high : middle p ≤ k.addr → (high' : Entries) → high' ≡ without k high → AreParts p own low high'
      parts_high ge high' e = record {
        sorted = sorted_without _ (high_goes ge high' e);
        at_prefix = parts.at_prefix;
        lower = parts.lower;
        upper = subst (All (λ e. IsHigh p e.0)) (sym e) (All-filter _ (λ (e : Entry). IsHigh p e.0) high parts.upper);
      }

    -- a fork whose own route goes
    pub parts_own : k ≡ p → AreParts p [] low high
    parts_own is = record {
      sorted = subst (λ x. T (is_sorted prefix_cmp x)) (sym (own_goes is)) (is_sorted-where_key {X = RouteValue} prefix_cmp _ (in_turn own low high) parts.sorted);
      at_prefix = All-nil (λ (e : Entry). e.0 ≡ p);
      lower = parts.lower;
      upper = parts.upper;
    }

-- ---- at a fork's own prefix
module _ (p : Prefix6) (o : Option (Box Entry Global)) (low high : Entries) (parts : AreParts p (owned o) low high) where
  pub find_own : own_value o ≡ find prefix_cmp p (in_turn (owned o) low high)
  find_own = go o parts
    where
      go : (o : Option (Box Entry Global)) → AreParts p (owned o) low high → own_value o ≡ find prefix_cmp p (in_turn (owned o) low high)
      go None n = sym (find_none p (low ++ high) (λ i d lt e. less_not_self p (subst (λ z. prefix_cmp p z ≡ Less) e (above p [] low high n i d lt))))
      go (Some x) n = sym (ap (λ b. cond b (Some x.value.1) (find prefix_cmp p (low ++ high))) (ap (eq_by_cmp prefix_cmp p) (n.at_prefix 0 x.value (omega arith)) ∙ itself p))

  module _ (k : Prefix6) (v : RouteValue) (is : k ≡ p) where
    pub put_own : (k, v) ∷ (low ++ high) ≡ put prefix_cmp k v (in_turn (owned o) low high)
    put_own = rw is (go o parts)
      where
        go : (o : Option (Box Entry Global)) → AreParts p (owned o) low high → (p, v) ∷ (low ++ high) ≡ put prefix_cmp p v (in_turn (owned o) low high)
        go None n = sym (put_front p v (low ++ high) (above p [] low high n))
        go (Some x) n =
            let here : x.value.0 ≡ p = n.at_prefix 0 x.value (omega arith) in
            sym (ap (λ r. by_order r ((p, v) ∷ x.value ∷ (low ++ high)) ((x.value.0, v) ∷ (low ++ high)) (x.value ∷ put prefix_cmp p v (low ++ high))) (ap (prefix_cmp p) here ∙ tied_itself prefixes_total p)
            ∙ ap (λ z. (z, v) ∷ (low ++ high)) here)

    pub own_parts : AreParts p ((k, v) ∷ []) low high
    own_parts = record {
      sorted = subst (λ l. T (is_sorted prefix_cmp l)) (sym put_own) (is_sorted-put prefix_cmp prefixes_total k v _ parts.sorted);
      at_prefix = All-cons (λ (e : Entry). e.0 ≡ p) (k, v) [] is (All-nil (λ (e : Entry). e.0 ≡ p));
      lower = parts.lower;
      upper = parts.upper;
    }
