-- Every move keeps a fixed own route to each owned prefix.
use Rattle.std.proofs.Common.{◌≡◌, ℕ, ◌+◌, ◌%◌, max, Bool, true, false, cond, not, ◌&&◌, ◌||◌, nat_lt, nat_le, MatchBool, MatchOption, List, [], ◌∷◌, ◌++◌, map, filter, fold, length, Option, Some, None, is_none, option_and_then, refl, ap, sym, subst, ◌∙◌}
use Rattle.std.specs.List.{AllByRecursion, list_any}
use Rattle.std.specs.FinMap as map_of
use Rattle.std.specs.FinMap.{find}
use Rattle.std.specs.Ordering.{is_eq}
use Rattle.std.specs.Cmp.{tied_itself}
use Rattle.prefix6.specs.Prefix.{Prefix6, prefix_cmp, same_prefix, is_routable}
use Rattle.prefix6.proofs.PrefixLaws.{prefixes_total, same_prefix-true}
use Rattle.ripng_wire.specs.Wire.{is_response}
use Rattle.route_table.specs.Route.{RouteValue}
use Rattle.route_table.specs.Table.{Table, table_limit, with_value}
use Rattle.route_table.proofs.TableLaws.{None-Some, get-map_values}
use Rattle.router_core.specs.Config.{Config, has_prefix}
use Rattle.router_core.specs.Offers.{Offer, offers}
use Rattle.router_core.specs.Adoption.{Gateway, adopted, adopted_by_clock}
use Rattle.router_core.specs.Hearing.{Hearing, Heard, is_refused}
use Rattle.router_core.specs.Ageing.{aged, aged_by_clock, aged_table, without_mark, unmarked}
use Rattle.router_core.specs.Received.{Received}
use Rattle.router_core.specs.Faults.{fault}
use Rattle.router_core.specs.Reconfiguring.{reconfigure_fault, reconfigured_config, reconfigured_table, newly_owned, disowned}
use Rattle.router_core.specs.Machine.{State, Happening, Arrives, Ticks, Restarts, Reconfigures, ShutsDown, LinkGoesDown, LinkComesUp, Moves, Accepts, Hears, Replies, Refuses, Starts, owned_table, ticked, is_regular_due, is_triggered_due}
use Rattle.router_core.specs.LinkDown.{after_link_down, table_after_link_down}
use Rattle.router_core.specs.Output.{is_learned_on}
use Rattle.route_table.specs.Route.{infinity}
use Rattle.router_core.specs.Adoption.{lost}
use Rattle.router_core.specs.Owning.{owned_route, IsOwnRoute, HasOwnRoute, OwnsOnce, HoldsOwned}
use Rattle.router_core.specs.declared.answer.Answer.{Answer}
use Rattle.router_core.specs.declared.arrival.Fault.{Fault}
use Rattle.router_core.specs.declared.reconfiguring.Change.{Change}
use Rattle.router_core.specs.declared.reconfiguring.Change.TheVariants.{Cost, Own, Disown}
use Rattle.router_core.specs.declared.reconfiguring.ReconfigureRefused.TheVariants as refused
use Rattle.router_core.specs.Config.{owned_limit}
use Rattle.router_core.proofs.HearingSteps.{same_as_key}
use Rattle.route_table.proofs.TableSteps.{get-with_value, get-with_value_here}

module _ {X : Type 0} (P : X → Type 0) where
  pub each_append : (xs ys : List X) → AllByRecursion P xs → AllByRecursion P ys → AllByRecursion P (xs ++ ys)
  each_append [] ys p q = q
  each_append (x ∷ xs) ys p q = (p.0, each_append xs ys p.1 q)

  -- two facts of each element
  each_both : (Q R : X → Type 0) → ((x : X) → Q x → R x → P x) → (xs : List X) → AllByRecursion Q xs → AllByRecursion R xs → AllByRecursion P xs
  each_both Q R step [] q r = tt
  each_both Q R step (x ∷ xs) q r = (step x q.0 r.0, each_both Q R step xs q.1 r.1)

  -- of a filter
  pub each_passing : (Q : X → Type 0) (test : X → Bool) → ((x : X) → Q x → test x ≡ true → P x) → (xs : List X) → AllByRecursion Q xs → AllByRecursion P (filter test xs)
  each_passing Q test step [] all = tt
  each_passing Q test step (x ∷ xs) all = by_test (test x) refl (each_passing Q test step xs all.1)
    where
      by_test : (b : Bool) → test x ≡ b → AllByRecursion P (filter test xs) → AllByRecursion P (cond b (x ∷ filter test xs) (filter test xs))
      by_test true is rest = (step x all.0 is, rest)
      by_test false is rest = rest

-- ---- starts

-- the start's list has the route at each prefix that stands once
found : (ts : List (Prefix6 × ℕ)) → OwnsOnce ts → AllByRecursion (λ t. find prefix_cmp t.0 (map (λ t. (t.0, owned_route t.1)) ts) ≡ Some (owned_route t.1)) ts
found [] once = tt
found (t ∷ ts) once = (
  ap (λ c. cond (is_eq c) (Some (owned_route t.1)) (find prefix_cmp t.0 (map (λ t. (t.0, owned_route t.1)) ts))) (tied_itself prefixes_total t.0),
  each_both (λ u. find prefix_cmp u.0 (map (λ t. (t.0, owned_route t.1)) (t ∷ ts)) ≡ Some (owned_route u.1)) (λ u. same_prefix t.0 u.0 ≡ false)
      (λ u. find prefix_cmp u.0 (map (λ t. (t.0, owned_route t.1)) ts) ≡ Some (owned_route u.1))
      (λ u apart there. ap (λ b. cond b (Some (owned_route t.1)) (find prefix_cmp u.0 (map (λ t. (t.0, owned_route t.1)) ts))) (sym (same_as_key t.0 u.0) ∙ apart) ∙ there)
      ts once.0 (found ts once.1),
)

started_owned : (config : Config) → OwnsOnce config.prefixes → HoldsOwned config (owned_table config)
started_owned config once =
    record {
      once = once;
      held = each_both (HasOwnRoute (owned_table config)) (λ t. find prefix_cmp t.0 (map (λ t. (t.0, owned_route t.1)) config.prefixes) ≡ Some (owned_route t.1))
          (λ t. find prefix_cmp t.0 (map (λ t. (t.0, owned_route t.1)) config.prefixes) ≡ Some (owned_route t.1))
          (λ t a b. (owned_route t.1, map_of.get-from_entries prefixes_total _ t.0 ∙ a, record { tag_is = refl; metric = refl; origin = refl; clock = refl }))
          config.prefixes (found config.prefixes once) (found config.prefixes once);
    }

abbrev HoldsAt : State → Type 0
HoldsAt s = HoldsOwned s.config s.table

-- ---- routes that stay

-- the table has a route at each place where the old one has, and keeps what is fixed
abbrev KeepsFixed : Table → Table → Type 0
KeepsFixed old new = (p : Prefix6) (tag : ℕ) → HasOwnRoute old (p, tag) → HasOwnRoute new (p, tag)

kept_owned : (config : Config) (old new : Table) → KeepsFixed old new → HoldsOwned config old → HoldsOwned config new
kept_owned config old new keeps h =
    record { once = h.once; held = each_both (HasOwnRoute new) (HasOwnRoute old) (HasOwnRoute old) (λ t a b. keeps t.0 t.1 a) config.prefixes h.held h.held }

aged_keeps : (now : ℕ) (table : Table) → KeepsFixed table (aged_table now table)
aged_keeps now table p tag h =
    (h.0, get-map_values (aged now) table p ∙ ap (option_and_then (aged now)) h.1 ∙ ap (aged_by_clock now h.0) h.2.clock, h.2)

link_down_keeps : (iface now : ℕ) (table : Table) → KeepsFixed table (table_after_link_down iface now table)
link_down_keeps iface now table p tag h = (
  h.0,
  get-map_values (λ r. Some (after_link_down iface now r)) table p ∙ ap (option_and_then (λ r. Some (after_link_down iface now r))) h.1
      ∙ ap (λ o. Some (cond (is_learned_on iface o && nat_lt h.0.metric infinity) (lost now h.0) h.0)) h.2.origin,
  h.2,
)

unmarked_keeps : (table : Table) → KeepsFixed table (unmarked table)
unmarked_keeps table p tag h = (
  record h.0 { changed = false },
  get-map_values without_mark table p ∙ ap (option_and_then without_mark) h.1,
  record { tag_is = h.2.tag_is; metric = h.2.metric; origin = h.2.origin; clock = h.2.clock },
)

fixed_stays : (g : Gateway) (os : List Offer) (r : RouteValue) (tag : ℕ) → IsOwnRoute tag r → fold (adopted g) (Some r) os ≡ Some r
fixed_stays g [] r tag own = refl
fixed_stays g (o ∷ os) r tag own = ap (λ c. fold (adopted g) (Some (adopted_by_clock g o r c)) os) own.clock ∙ fixed_stays g os r tag own

heard_keeps : (h : Hearing) (after : Table) → Heard h after → KeepsFixed h.before after
heard_keeps h after heard p tag own =
    let heard_for : List Offer = filter (λ o. nat_lt o.place (length h.entries) && not (is_refused h o.place)) (offers h.config h.gateway.from h.entries p) in
    (own.0, heard.routes p ∙ ap (λ o. fold (adopted h.gateway) o heard_for) own.1 ∙ fixed_stays h.gateway heard_for own.0 tag own.2, own.2)

ticked_keeps : (old : State) (now word : ℕ) → HoldsOwned old.config old.table → HoldsOwned (ticked old now word).config (ticked old now word).table
ticked_keeps old now word h = by_due (is_regular_due old now) (is_triggered_due old now)
  where
    kept : HoldsOwned old.config (aged_table now old.table)
    kept = kept_owned old.config old.table (aged_table now old.table) (aged_keeps now old.table) h

    clean : HoldsOwned old.config (unmarked (aged_table now old.table))
    clean = kept_owned old.config (aged_table now old.table) (unmarked (aged_table now old.table)) (unmarked_keeps (aged_table now old.table)) kept

    by_due : (b c : Bool) → HoldsAt (cond b (record old { table = unmarked (aged_table now old.table); last = now; regular = now + 15_000 + word % 30_001 })
        (cond c (record old { table = unmarked (aged_table now old.table); last = now; hold = now + 1_000 + word % 4_001 }) (record old { table = aged_table now old.table; last = now })))
    by_due true c = clean
    by_due false true = clean
    by_due false false = kept

-- ---- changes

pub not_among : (ts : List (Prefix6 × ℕ)) (p : Prefix6) → list_any (λ t. same_prefix t.0 p) ts ≡ false → AllByRecursion (λ t. same_prefix t.0 p ≡ false) ts
not_among [] p e = tt
not_among (t ∷ ts) p e = by_test (same_prefix t.0 p) refl e (not_among ts p)
  where
    by_test : (b : Bool) → same_prefix t.0 p ≡ b → (b || list_any (λ t. same_prefix t.0 p) ts) ≡ false
        → (list_any (λ t. same_prefix t.0 p) ts ≡ false → AllByRecursion (λ t. same_prefix t.0 p ≡ false) ts) → (same_prefix t.0 p ≡ false) × AllByRecursion (λ t. same_prefix t.0 p ≡ false) ts
    by_test true is e rest = absurd (cc)
    by_test false is e rest = (is, rest e)

other_way : (p q : Prefix6) → same_prefix q p ≡ false → same_prefix p q ≡ false
other_way p q apart = by_test (same_prefix p q) refl
  where
    clash : same_prefix p q ≡ true → same_prefix p q ≡ false
    clash is = subst (λ (x : Prefix6). same_prefix p x ≡ false) (same_prefix-true p q is) (subst (λ (x : Prefix6). same_prefix x p ≡ false) (sym (same_prefix-true p q is)) apart)

    by_test : (b : Bool) → same_prefix p q ≡ b → same_prefix p q ≡ false
    by_test true is = clash is
    by_test false is = is

pub once_more : (ts : List (Prefix6 × ℕ)) (p : Prefix6) (tag : ℕ) → OwnsOnce ts → AllByRecursion (λ t. same_prefix t.0 p ≡ false) ts → OwnsOnce (ts ++ (p, tag) ∷ [])
once_more [] p tag once apart = (tt, tt)
once_more (t ∷ ts) p tag once apart =
    (each_append (λ u. same_prefix t.0 u.0 ≡ false) ts ((p, tag) ∷ []) once.0 (apart.0, tt), once_more ts p tag once.1 apart.1)

pub once_filtered : (test : Prefix6 × ℕ → Bool) (ts : List (Prefix6 × ℕ)) → OwnsOnce ts → OwnsOnce (filter test ts)
once_filtered test [] once = tt
once_filtered test (t ∷ ts) once = by_test (test t) (once_filtered test ts once.1)
  where
    by_test : (b : Bool) → OwnsOnce (filter test ts) → OwnsOnce (cond b (t ∷ filter test ts) (filter test ts))
    by_test true rest = (each_passing (λ u. same_prefix t.0 u.0 ≡ false) (λ u. same_prefix t.0 u.0 ≡ false) test (λ u apart is. apart) ts once.0, rest)
    by_test false rest = rest

not_owned_before : (config : Config) (table : Table) (p : Prefix6) (tag : ℕ) → reconfigure_fault config table (Own p tag) ≡ None → has_prefix config.prefixes p ≡ false
not_owned_before config table p tag allowed = by_tests (is_routable p) (has_prefix config.prefixes p) (nat_le owned_limit (length config.prefixes)) (is_none (map_of.get table p) && nat_le table_limit (map_of.len table)) allowed
  where
    by_tests : (a b c d : Bool) → cond (not a) (Some refused.PrefixNotAllowed) (cond b (Some refused.AlreadyOwned) (cond c (Some refused.OwnedFull) (cond d (Some refused.TableFull) None))) ≡ None → b ≡ false
    by_tests false b c d e = absurd (None-Some _ (sym e))
    by_tests true true c d e = absurd (None-Some _ (sym e))
    by_tests true false c d e = refl

elsewhere : (table : Table) (p : Prefix6) (o : Option RouteValue) (q : Prefix6) → same_prefix p q ≡ false → map_of.get (with_value table p o) q ≡ map_of.get table q
elsewhere table p o q other = get-with_value table p o q ∙ ap (λ b. cond b o (map_of.get table q)) (sym (same_as_key p q) ∙ other)

changed_owned : (now : ℕ) (config : Config) (table : Table) (change : Change) → reconfigure_fault config table change ≡ None
    → HoldsOwned config table → HoldsOwned (reconfigured_config config change) (reconfigured_table now table change)
changed_owned now config table (Cost iface cost) allowed h = record { once = h.once; held = h.held }
changed_owned now config table (Own p tag) allowed h =
    let apart = not_among config.prefixes p (not_owned_before config table p tag allowed) in
    record {
      once = once_more config.prefixes p tag h.once apart;
      held = each_append (HasOwnRoute (reconfigured_table now table (Own p tag))) config.prefixes ((p, tag) ∷ [])
          (each_both (HasOwnRoute (reconfigured_table now table (Own p tag))) (HasOwnRoute table) (λ t. same_prefix t.0 p ≡ false)
          (λ t own other. (own.0, elsewhere table p (Some (newly_owned tag)) t.0 (other_way p t.0 other) ∙ own.1, own.2)) config.prefixes h.held apart)
          ((newly_owned tag, get-with_value_here table p (Some (newly_owned tag)), record { tag_is = refl; metric = refl; origin = refl; clock = refl }), tt);
    }
changed_owned now config table (Disown p) allowed h =
    record {
      once = once_filtered (λ t. not (same_prefix t.0 p)) config.prefixes h.once;
      held = each_passing (HasOwnRoute (reconfigured_table now table (Disown p))) (HasOwnRoute table) (λ t. not (same_prefix t.0 p))
          (λ t own is. (own.0, elsewhere table p (disowned now (map_of.get table p)) t.0 (other_way p t.0 (negated (same_prefix t.0 p) is)) ∙ own.1, own.2)) config.prefixes h.held;
    }
  where
    negated : (b : Bool) → not b ≡ true → b ≡ false
    negated true e = absurd (cc)
    negated false e = refl

-- ---- moves

accepted : (old new : State) (now : ℕ) (x : Received) (answer : Answer) (b : Bool) → MatchBool b (Hears old now x answer new) (Replies old now x answer new) → HoldsAt old → HoldsAt new
accepted old new now x answer true hears h =
    subst HoldsAt (sym hears.state) (kept_owned old.config old.table hears.table (heard_keeps _ hears.table hears.heard) h)
accepted old new now x answer false replies h = subst HoldsAt (sym replies.state) (record { once = h.once; held = h.held })

pub moves_keep_owned : (old new : State) (happening : Happening) (answer : Answer) → Moves old happening answer new
    → HoldsOwned old.config old.table → HoldsOwned new.config new.table
moves_keep_owned old new (Arrives x) answer moves h = by_fault (fault old.config x) moves
  where
    by_fault : (o : Option Fault) → MatchOption o (Accepts old (max old.last x.now) x answer new) (λ why. Refuses old (max old.last x.now) why answer new) → HoldsAt new
    by_fault None accepts = accepted old new (max old.last x.now) x answer (is_response x.bytes) accepts h
    by_fault (Some why) refuses = subst HoldsAt (sym refuses.state) (record { once = h.once; held = h.held })
moves_keep_owned old new (Ticks now word) answer moves h = subst HoldsAt (sym moves.state) (ticked_keeps old (max old.last now) word h)
moves_keep_owned old new (Restarts now) answer moves h = subst HoldsAt (sym moves.state) (started_owned old.config h.once)
moves_keep_owned old new (Reconfigures now change) answer moves h =
    subst HoldsAt (sym moves.state) (changed_owned (max old.last now) old.config old.table change moves.allowed h)
moves_keep_owned old new (ShutsDown now) answer moves h = subst HoldsAt (sym moves.state) (record { once = h.once; held = h.held })
moves_keep_owned old new (LinkComesUp now iface) answer moves h = subst HoldsAt (sym moves.state) (record { once = h.once; held = h.held })
moves_keep_owned old new (LinkGoesDown now iface) answer moves h =
    subst HoldsAt (sym moves.state)
    (kept_owned old.config old.table (table_after_link_down iface (max old.last now) old.table) (link_down_keeps iface (max old.last now) old.table) h)

pub starts_owned : (config : Config) (now : ℕ) (answer : Answer) (new : State) → OwnsOnce config.prefixes → Starts config now answer new → HoldsOwned new.config new.table
starts_owned config now answer new once starts = subst HoldsAt (sym starts.state) (started_owned config once)
