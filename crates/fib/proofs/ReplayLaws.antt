-- Laws of changes and of replay: what one change does, changes one after another, and that the table after is determined.
use Rattle.std.proofs.Common.{◌≡◌, ◌==◌, ℕ, Bool, true, false, cond, List, [], ◌∷◌, ◌++◌, reverse, find, Option, Some, None, option_map, unwrap_or, refl, sym, ap, ap₂, ◌∙◌}
use Rattle.std.specs.FinMap as map
use Rattle.std.specs.Option.{option_or}
use Rattle.std.proofs.lemmas.Bool.{eqb-true}
use Rattle.std.proofs.lemmas.List.{reverse-append}
use Rattle.std.proofs.lemmas.List.Folds.{find-append}
use Rattle.prefix6.specs.Prefix.{Prefix6, same_prefix}
use Rattle.prefix6.proofs.PrefixLaws.{prefixes_total, exact_prefixes, same_prefix-tie, and_left, and_right}
use Rattle.fib.specs.declared.change.Hop.{Hop}
use Rattle.fib.specs.declared.change.Hop.TheVariants.{Direct, Via}
use Rattle.fib.specs.declared.change.RouteChange.{RouteChange}
use Rattle.fib.specs.declared.change.RouteChange.TheVariants.{Install, Withdraw}
use Rattle.fib.specs.Forwarding.{Forward, Forwarding, same_hop, same_forward, prefix_of, forward_of, change_to, last_change, Replays}

-- tables that have the same at each prefix are one
pub same_forwarding : (m n : Forwarding) → ((p : Prefix6) → map.get m p ≡ map.get n p) → m ≡ n
same_forwarding m n same = map.same_map prefixes_total exact_prefixes m n same

-- ---- the change between two entries
same_hop-true : (h k : Hop) → same_hop h k ≡ true → h ≡ k
same_hop-true Direct Direct e = refl
same_hop-true Direct (Via j k) e = absurd (cc)
same_hop-true (Via i h) Direct e = absurd (cc)
same_hop-true (Via i h) (Via j k) e = ap₂ Via (eqb-true i j (and_left (i == j) (h == k) e)) (eqb-true h k (and_right (i == j) (h == k) e))

-- entries that test alike are one
pub same_forward-true : (a b : Option Forward) → same_forward a b ≡ true → a ≡ b
same_forward-true None None e = refl
same_forward-true None (Some g) e = absurd (cc)
same_forward-true (Some f) None e = absurd (cc)
same_forward-true (Some f) (Some g) e =
    let hop : f.hop ≡ g.hop = same_hop-true f.hop g.hop (and_left (same_hop f.hop g.hop) (f.metric == g.metric) e) in
    let metric : f.metric ≡ g.metric = eqb-true f.metric g.metric (and_right (same_hop f.hop g.hop) (f.metric == g.metric) e) in
    λ i. Some (record { hop = hop i; metric = metric i })

-- the change that leaves an entry at a prefix is about that prefix
pub prefix_of-change_to : (p : Prefix6) (f : Option Forward) → prefix_of (change_to p f) ≡ p
prefix_of-change_to p None = refl
prefix_of-change_to p (Some f) = refl

-- and leaves that entry
pub forward_of-change_to : (p : Prefix6) (f : Option Forward) → forward_of (change_to p f) ≡ f
forward_of-change_to p None = refl
forward_of-change_to p (Some f) = refl

-- ---- the last change
-- the last change of two lists is that of the second, or else of the first
pub last_change-append : (cs ds : List RouteChange) (p : Prefix6) → last_change (cs ++ ds) p ≡ option_or (last_change ds p) (last_change cs p)
last_change-append cs ds p =
    ap (find (λ c. same_prefix (prefix_of c) p)) (reverse-append cs ds)
    ∙ find-append (λ c. same_prefix (prefix_of c) p) (reverse ds) (reverse cs)

-- the last change of a list that ends with c
pub last_change-push : (cs : List RouteChange) (c : RouteChange) (p : Prefix6) → last_change (cs ++ c ∷ []) p ≡ cond (same_prefix (prefix_of c) p) (Some c) (last_change cs p)
last_change-push cs c p = ap (find (λ d. same_prefix (prefix_of d) p)) (reverse-append cs (c ∷ []))

-- ---- replay
left_by_both : (later earlier : Option RouteChange) (old : Option Forward) → unwrap_or (option_map forward_of (option_or later earlier)) old ≡ unwrap_or (option_map forward_of later) (unwrap_or (option_map forward_of earlier) old)
left_by_both None earlier old = refl
left_by_both (Some c) earlier old = refl

-- no change, and the table is the same
pub replays_nothing : (table : Forwarding) → Replays table [] table
replays_nothing table p = refl

-- two lists of changes one after another are their concatenation
pub replays_append : (old middle new : Forwarding) (cs ds : List RouteChange) → Replays old cs middle → Replays middle ds new → Replays old (cs ++ ds) new
replays_append old middle new cs ds first second p =
    second p
    ∙ ap (unwrap_or (option_map forward_of (last_change ds p))) (first p)
    ∙ sym (left_by_both (last_change ds p) (last_change cs p) (map.get old p))
    ∙ ap (λ c. unwrap_or (option_map forward_of c) (map.get old p)) (sym (last_change-append cs ds p))

-- the table before and the changes determine the table after
pub replays_to_one : (old new other : Forwarding) (cs : List RouteChange) → Replays old cs new → Replays old cs other → new ≡ other
replays_to_one old new other cs to_new to_other = same_forwarding new other (λ p. to_new p ∙ sym (to_other p))

left_by_one : (b : Bool) (c : RouteChange) (old : Option Forward) → cond b (forward_of c) old ≡ unwrap_or (option_map forward_of (cond b (Some c) None)) old
left_by_one true c old = refl
left_by_one false c old = refl

-- an install puts its entry in
pub replays_install : (table : Forwarding) (p : Prefix6) (hop : Hop) (metric : ℕ) → Replays table (Install p hop metric ∷ []) (map.insert table p (record { hop = hop; metric = metric }))
replays_install table p hop metric q =
    map.get-insert prefixes_total table p (record { hop = hop; metric = metric }) q
    ∙ ap (λ b. cond b (Some (record { hop = hop; metric = metric })) (map.get table q)) (sym (same_prefix-tie p q))
    ∙ left_by_one (same_prefix p q) (Install p hop metric) (map.get table q)

-- a withdrawal takes the entry out
pub replays_withdraw : (table : Forwarding) (p : Prefix6) → Replays table (Withdraw p ∷ []) (map.remove table p)
replays_withdraw table p q =
    map.get-remove prefixes_total table p q
    ∙ ap (λ b. cond b None (map.get table q)) (sym (same_prefix-tie p q))
    ∙ left_by_one (same_prefix p q) (Withdraw p) (map.get table q)
