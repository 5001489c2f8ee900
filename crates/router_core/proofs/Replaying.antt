-- The changes of a heard Response, replayed onto the forwarding table of the table before it, give that of the table after it.
use Rattle.std.proofs.Common.{◌≡◌, ℕ, zero, suc, ◌+◌, ◌≤◌, Bool, true, false, cond, not, ◌&&◌, ◌==◌, List, [], ◌∷◌, ◌++◌, take, length, find, filter_map, Option, Some, None, option_map, option_and_then, unwrap_or, slice_get, refl, ap, ap₂, sym, subst, ◌∙◌, arith, add-one, append-nil}
use Rattle.std.specs.List.{enumerate_from, cons_option}
use Rattle.std.proofs.lemmas.Bool.{eqb-true}
use Rattle.std.proofs.lemmas.List.{reverse-append, take_all}
use Rattle.prefix6.specs.Prefix.{Prefix6, same_prefix}
use Rattle.prefix6.proofs.PrefixLaws.{same_prefix-true}
use Rattle.ripng_wire.specs.declared.rte.Rte.{Rte}
use Rattle.fib.specs.declared.change.Hop.{Hop}
use Rattle.fib.specs.declared.change.Hop.TheVariants.{Direct, Via}
use Rattle.fib.specs.declared.change.RouteChange.{RouteChange}
use Rattle.fib.specs.Forwarding.{Forward, same_hop, same_forward, prefix_of, forward_of, change_to, last_change, Replays}
use Rattle.route_table.specs.Table.{Table}
use Rattle.route_table.proofs.TableLaws.{get-map_values}
use Rattle.router_core.specs.Offers.{is_offer, prefix_named, offer_at}
use Rattle.router_core.specs.Adoption.{adopted}
use Rattle.router_core.specs.Hearing.{Hearing, Heard, route_after, is_refused}
use Rattle.router_core.specs.Changes.{forward, forwards, change, change_at, changes_of_hearing}
use Rattle.router_core.proofs.HearingSteps.{before_all, after_one, at_place, numbered_at, take_push}

and_left : (a b : Bool) → (a && b) ≡ true → a ≡ true
and_left true b e = refl
and_left false b e = e

and_right : (a b : Bool) → (a && b) ≡ true → b ≡ true
and_right true b e = e
and_right false b e = absurd (cc)

same_hop-true : (h k : Hop) → same_hop h k ≡ true → h ≡ k
same_hop-true Direct Direct e = refl
same_hop-true Direct (Via j k) e = absurd (cc)
same_hop-true (Via i h) Direct e = absurd (cc)
same_hop-true (Via i h) (Via j k) e = ap₂ Via (eqb-true i j (and_left (i == j) (h == k) e)) (eqb-true h k (and_right (i == j) (h == k) e))

pub same_forward-true : (a b : Option Forward) → same_forward a b ≡ true → a ≡ b
same_forward-true None None e = refl
same_forward-true None (Some g) e = absurd (cc)
same_forward-true (Some f) None e = absurd (cc)
same_forward-true (Some f) (Some g) e =
    let hop : f.hop ≡ g.hop = same_hop-true f.hop g.hop (and_left (same_hop f.hop g.hop) (f.metric == g.metric) e) in
    let metric : f.metric ≡ g.metric = eqb-true f.metric g.metric (and_right (same_hop f.hop g.hop) (f.metric == g.metric) e) in
    λ i. Some (record { hop = hop i; metric = metric i })

pub prefix-change_to : (p : Prefix6) (f : Option Forward) → prefix_of (change_to p f) ≡ p
prefix-change_to p None = refl
prefix-change_to p (Some f) = refl

pub forward-change_to : (p : Prefix6) (f : Option Forward) → forward_of (change_to p f) ≡ f
forward-change_to p None = refl
forward-change_to p (Some f) = refl

last_push : (cs : List RouteChange) (c : RouteChange) (p : Prefix6) → last_change (cs ++ c ∷ []) p ≡ cond (same_prefix (prefix_of c) p) (Some c) (last_change cs p)
last_push cs c p = ap (find (λ d. same_prefix (prefix_of d) p)) (reverse-append cs (c ∷ []))

filter_map_push : {X Y : Type 0} (f : X → Option Y) (xs : List X) (x : X) → filter_map f (xs ++ x ∷ []) ≡ filter_map f xs ++ cons_option (f x) []
filter_map_push f [] x = refl
filter_map_push {Y = Y} f (y ∷ xs) x = ap (cons_option (f y)) (filter_map_push f xs x) ∙ out (filter_map f xs) (cons_option (f x) []) (f y)
  where
    out : (ys zs : List Y) (o : Option Y) → cons_option o (ys ++ zs) ≡ cons_option o ys ++ zs
    out ys zs None = refl
    out ys zs (Some z) = refl

-- what the changes leave of a forwarding entry
replayed : List RouteChange → Prefix6 → Option Forward → Option Forward
replayed cs p old = unwrap_or (option_map forward_of (last_change cs p)) old

module _ (h : Hearing) where
  abbrev entry_after : ℕ → Prefix6 → Option Forward
  entry_after place p = option_and_then forward (route_after h place p)

  abbrev changes_before : ℕ → List RouteChange
  changes_before place = filter_map (λ t. change_at h t.0 t.1) (take place (enumerate_from 0 h.entries))

  module _ (place : ℕ) (e : Rte) (is : slice_get h.entries place ≡ Some e) (p : Prefix6)
      (so_far : replayed (changes_before place) p (entry_after 0 p) ≡ entry_after place p) where
    abbrev named : Prefix6
    named = prefix_named e

    -- another prefix is as it was
    elsewhere : same_prefix named p ≡ false → route_after h (place + 1) p ≡ route_after h place p
    elsewhere other =
        after_one h place e p is
        ∙ ap (λ b. cond ((is_offer e && b) && not (is_refused h place)) (adopted h.gateway (route_after h place p) (offer_at h.config h.gateway.from h.entries place e)) (route_after h place p)) other
        ∙ ap (λ b. cond (b && not (is_refused h place)) (adopted h.gateway (route_after h place p) (offer_at h.config h.gateway.from h.entries place e)) (route_after h place p)) (and_false (is_offer e))
      where
        and_false : (b : Bool) → (b && false) ≡ false
        and_false true = refl
        and_false false = refl

    no_offer : is_offer e ≡ false → route_after h (place + 1) p ≡ route_after h place p
    no_offer o =
        after_one h place e p is
        ∙ ap (λ b. cond ((b && same_prefix named p) && not (is_refused h place)) (adopted h.gateway (route_after h place p) (offer_at h.config h.gateway.from h.entries place e)) (route_after h place p)) o

    changes_more : changes_before (place + 1) ≡ changes_before place ++ cons_option (change_at h place e) []
    changes_more =
        ap (λ k. changes_before k) (add-one place)
        ∙ ap (filter_map (λ t. change_at h t.0 t.1)) (take_push (enumerate_from 0 h.entries) place (place, e) here)
        ∙ filter_map_push (λ t. change_at h t.0 t.1) (take place (enumerate_from 0 h.entries)) (place, e)
      where
        here : slice_get (enumerate_from 0 h.entries) place ≡ Some (place, e)
        here = numbered_at 0 h.entries place e is ∙ ap (λ (m : ℕ). Some (m, e)) (omega arith)

    none_more : change_at h place e ≡ None → entry_after (place + 1) p ≡ entry_after place p → replayed (changes_before (place + 1)) p (entry_after 0 p) ≡ entry_after (place + 1) p
    none_more none same =
        ap (λ cs. replayed cs p (entry_after 0 p)) (changes_more ∙ ap (λ o. changes_before place ++ cons_option o []) none ∙ append-nil (changes_before place))
        ∙ so_far ∙ sym same

    by_case : (offer same : Bool) → is_offer e ≡ offer → same_forward (entry_after place named) (entry_after (place + 1) named) ≡ same
        → (here : Bool) → same_prefix named p ≡ here → replayed (changes_before (place + 1)) p (entry_after 0 p) ≡ entry_after (place + 1) p
    unfolding replayed
    by_case false same o s here at =
        none_more (ap (λ b. cond b (change named (route_after h place named) (route_after h (place + 1) named)) None) o) (ap (option_and_then forward) (no_offer o))
    by_case true true o s true at =
        none_more (ap₂ (λ a b. cond a (cond b None (Some (change_to named (entry_after (place + 1) named)))) None) o s)
        (subst (λ (q : Prefix6). entry_after (place + 1) q ≡ entry_after place q) (same_prefix-true named p at)
        (sym (same_forward-true (entry_after place named) (entry_after (place + 1) named) s)))
    by_case true true o s false at =
        none_more (ap₂ (λ a b. cond a (cond b None (Some (change_to named (entry_after (place + 1) named)))) None) o s) (ap (option_and_then forward) (elsewhere at))
    by_case true false o s here at =
        let made : change_at h place e ≡ Some (change_to named (entry_after (place + 1) named)) =
        ap₂ (λ a b. cond a (cond b None (Some (change_to named (entry_after (place + 1) named)))) None) o s in
        ap (λ cs. replayed cs p (entry_after 0 p)) (changes_more ∙ ap (λ o. changes_before place ++ cons_option o []) made)
        ∙ ap (λ l. unwrap_or (option_map forward_of l) (entry_after 0 p)) (last_push (changes_before place) (change_to named (entry_after (place + 1) named)) p)
        ∙ ap (λ q. unwrap_or (option_map forward_of (cond (same_prefix q p) (Some (change_to named (entry_after (place + 1) named))) (last_change (changes_before place) p))) (entry_after 0 p)) (prefix-change_to named (entry_after (place + 1) named))
        ∙ ap (λ b. unwrap_or (option_map forward_of (cond b (Some (change_to named (entry_after (place + 1) named))) (last_change (changes_before place) p))) (entry_after 0 p)) at
        ∙ by_here here at
      where
        by_here : (b : Bool) → same_prefix named p ≡ b
            → unwrap_or (option_map forward_of (cond b (Some (change_to named (entry_after (place + 1) named))) (last_change (changes_before place) p))) (entry_after 0 p) ≡ entry_after (place + 1) p
        by_here true at = forward-change_to named (entry_after (place + 1) named) ∙ ap (entry_after (place + 1)) (same_prefix-true named p at)
        by_here false at = so_far ∙ sym (ap (option_and_then forward) (elsewhere at))

  replays_to : (place : ℕ) → place ≤ length h.entries → (p : Prefix6) → replayed (changes_before place) p (entry_after 0 p) ≡ entry_after place p
  unfolding replayed
  replays_to zero fits p = refl
  replays_to (suc place) fits p =
      let entry : (e : Rte) × (slice_get h.entries place ≡ Some e) = at_place h.entries place (omega arith) in
      subst (λ k. replayed (changes_before k) p (entry_after 0 p) ≡ entry_after k p) (add-one place)
      (by_case place entry.0 entry.1 p (replays_to place (omega arith) p) (is_offer entry.0) _ refl refl _ refl)

length_numbered : {X : Type 0} (n : ℕ) (xs : List X) → length (enumerate_from n xs) ≡ length xs
length_numbered n [] = refl
length_numbered n (x ∷ xs) = ap suc (length_numbered (n + 1) xs)

pub hearing_replays : (h : Hearing) (after : Table) → Heard h after → Replays (forwards h.before) (changes_of_hearing h) (forwards after)
unfolding replayed
hearing_replays h after heard p =
    get-map_values forward after p
    ∙ ap (option_and_then forward) (heard.routes p)
    ∙ sym (replays_to h (length h.entries) (omega arith) p)
    ∙ ap (λ ts. replayed (filter_map (λ t. change_at h t.0 t.1) ts) p (entry_after h 0 p)) (take_all (length h.entries) (enumerate_from 0 h.entries) (omega (arith, length_numbered 0 h.entries)))
    ∙ ap (λ o. replayed (changes_of_hearing h) p o) (ap (option_and_then forward) (before_all h p) ∙ sym (get-map_values forward h.before p))
