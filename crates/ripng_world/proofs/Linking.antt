-- The lists of the interfaces on each link, as they grow router by router, and the receivers among them.
use Rattle.std.proofs.Common.{◌≡◌, ◌⊎◌, inl, inr, ℕ, ◌<◌, ◌++◌, not, Bool, true, false, cond, ◌==◌, ◌&&◌, List, [], ◌∷◌, map, filter, flat_map, length, Option, Some, None, option_map, option_and_then, unwrap_or, slice_get, refl, ap, sym, ◌∙◌, arith}
use Rattle.std.specs.Cmp.{nat_cmp_is}
use Rattle.std.specs.List.{range_with_len}
use Rattle.std.specs.Option.{UnwrapsOrElse}
use Rattle.std.specs.Ordering.{is_eq, nat_cmp}
use Rattle.std.specs.declared.cmp.Ordering.TheVariants.{Less, Equal, Greater}
use Rattle.std.proofs.lemmas.Bool.{eqb-true}
use Rattle.std.proofs.lemmas.Bool.Decides.{nat_tests}
use Rattle.std.proofs.lemmas.List.Elements.{filter-append}
use Rattle.std.proofs.lemmas.List.{append-nil, flat_map_more}
use Rattle.ripng_world.specs.AskedRounds.{interfaces_of, is_other}
use Rattle.ripng_world.specs.Labs.{is_one_link, link_at}
use Rattle.ripng_world.specs.Linked.{AreListed, interfaces_on, interfaces_there, is_on, listed_on, place_if}
use Rattle.ripng_world.specs.Network.{Network, Node}
use Rattle.ripng_world.specs.declared.event.Sent.{Sent}
use Rattle.ripng_world.specs.declared.links.Links.{Links}

-- what two tests that agree there let through
pub filter_same : {X Y : Type 0} (f : X → Y) (p q : Y → Bool) → ((x : X) → p (f x) ≡ q (f x)) → (xs : List X) → filter p (map f xs) ≡ filter q (map f xs)
filter_same f p q same [] = refl
filter_same f p q same (x ∷ xs) = ap (λ b. cond b (f x ∷ filter p (map f xs)) (filter p (map f xs))) (same x) ∙ ap (λ ys. cond (q (f x)) (f x ∷ ys) ys) (filter_same f p q same xs)

-- what both tests let through
pub filter_both : {X : Type 0} (p q r : X → Bool) → ((x : X) → r x ≡ p x && q x) → (xs : List X) → filter q (filter p xs) ≡ filter r xs
filter_both p q r is [] = refl
filter_both p q r is (x ∷ xs) = by_test (p x) refl (filter_both p q r is xs)
  where
    by_test : (b : Bool) → p x ≡ b → filter q (filter p xs) ≡ filter r xs → filter q (cond b (x ∷ filter p xs) (filter p xs)) ≡ cond (r x) (x ∷ filter r xs) (filter r xs)
    by_test true e rest = ap (λ ys. cond (q x) (x ∷ ys) ys) rest ∙ ap (λ b. cond b (x ∷ filter r xs) (filter r xs)) (sym (is x ∙ ap (λ b. b && q x) e))
    by_test false e rest = rest ∙ ap (λ b. cond b (x ∷ filter r xs) (filter r xs)) (sym (is x ∙ ap (λ b. b && q x) e))

pub filter_none : {X : Type 0} (r : X → Bool) → ((x : X) → r x ≡ false) → (xs : List X) → filter r xs ≡ []
filter_none r is [] = refl
filter_none r is (x ∷ xs) = ap (λ b. cond b (x ∷ filter r xs) (filter r xs)) (is x) ∙ filter_none r is xs

-- ---- one more in a list

tied : (n : ℕ) → is_eq (nat_cmp n n) ≡ true
tied n = ap is_eq (sym (nat_cmp_is n n Equal refl))

apart : (m n : ℕ) → (n == m) ≡ false → is_eq (nat_cmp m n) ≡ false
apart m n other =
    elim sides [
      | inl less ↦ ap is_eq (sym (nat_cmp_is m n Less less))
      | inr more ↦ ap is_eq (sym (nat_cmp_is m n Greater more))
    ]
  where
    sides : (m < n) ⊎ (n < m)
    sides = grind (arith, nat_tests, other)

module _ {X : Type 0} (items : X → List (ℕ × ℕ)) where
  abbrev read : Option X → List (ℕ × ℕ)
  read o = unwrap_or (option_map items o) []

  -- what an absent list is made as
  pub made_as : (o : Option X) (r : X) (P : X → Type 0) → UnwrapsOrElse o P r → ((x : X) → P x → items x ≡ []) → items r ≡ read o
  made_as None r P made empty = empty r made
  made_as (Some x) r P made empty = ap items made

  -- the list of one link ends in one more, and every other list stays
  pub one_listed : (held now before : Option X) (link other : ℕ) (place : ℕ × ℕ) (after : X) → now ≡ cond (is_eq (nat_cmp link other)) (Some after) held
      → (other ≡ link → held ≡ before) → items after ≡ read before ++ place ∷ [] → read now ≡ read held ++ place_if other link place
  one_listed held now before link other place after now_is same grown = ap read now_is ∙ by_test (other == link) refl
    where
      by_test : (b : Bool) → (other == link) ≡ b → read (cond (is_eq (nat_cmp link other)) (Some after) held) ≡ read held ++ cond b (place ∷ []) []
      by_test true e =
          let one = eqb-true other link e in
          ap (λ b. read (cond b (Some after) held)) (ap (λ n. is_eq (nat_cmp link n)) one ∙ tied link)
          ∙ grown ∙ ap (λ o. read o ++ place ∷ []) (sym (same one))
      by_test false e = ap (λ b. read (cond b (Some after) held)) (apart link other e) ∙ sym (append-nil (read held))

-- what lists of all links are
pub are_listed : (net : Network) (links : Links) → ((link : ℕ) → listed_on links link ≡ interfaces_on net link) → AreListed net links
unfolding AreListed
are_listed net links lists = lists

pub lists_of : (net : Network) (links : Links) → AreListed net links → (link : ℕ) → listed_on links link ≡ interfaces_on net link
unfolding AreListed
lists_of net links are = are

-- all interfaces of a router
abbrev pub places_of : ℕ × Node → List (ℕ × ℕ)
places_of n = map (λ i. (n.0, i)) (range_with_len 0 (length n.1.interfaces))

-- the interfaces on a link of one more router
pub on_one_more : (net : Network) (link router : ℕ) (node : Node) → slice_get net router ≡ Some node → (before after : List (ℕ × Node)) → after ≡ before ++ (router, node) ∷ []
    → filter (is_on net link) (flat_map places_of before) ++ interfaces_there router node.interfaces link ≡ filter (is_on net link) (flat_map places_of after)
on_one_more net link router node here before after is =
    ap (λ ys. filter (is_on net link) (flat_map places_of before) ++ ys)
    (filter_same (λ i. (router, i)) (λ at. is_one_link (Some link) (option_map (λ i. i.link) (slice_get node.interfaces at.1))) (is_on net link)
    (λ i. sym (ap (λ (n : Option Node). is_one_link (Some link) (option_map (λ j. j.link) (option_and_then (λ m. slice_get m.interfaces i) n))) here)) (range_with_len 0 (length node.interfaces)))
    ∙ sym (filter-append (is_on net link) (flat_map places_of before) (places_of (router, node)))
    ∙ ap (filter (is_on net link)) (flat_map_more places_of [] before (router, node) ∙ ap (flat_map places_of) (sym is))

-- the other interfaces of a datagram's link
pub others_of : (net : Network) (d : Sent) (link : ℕ) → link_at net d.router d.iface ≡ Some link
    → filter (λ at. not (at.0 == d.router && at.1 == d.iface)) (filter (is_on net link) (interfaces_of net)) ≡ filter (is_other net d) (interfaces_of net)
others_of net d link is =
    filter_both (is_on net link) (λ at. not (at.0 == d.router && at.1 == d.iface)) (is_other net d)
    (λ at. ap (λ (o : Option ℕ). is_one_link o (link_at net at.0 at.1) && not (at.0 == d.router && at.1 == d.iface)) is) (interfaces_of net)

-- there are none where it has no link
pub no_others : (net : Network) (d : Sent) → link_at net d.router d.iface ≡ None → filter (is_other net d) (interfaces_of net) ≡ []
no_others net d is = filter_none (is_other net d) (λ at. ap (λ (o : Option ℕ). is_one_link o (link_at net at.0 at.1) && not (at.0 == d.router && at.1 == d.iface)) is) (interfaces_of net)
