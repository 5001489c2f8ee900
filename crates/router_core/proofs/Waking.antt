-- A tick is idle exactly before the moment at which the router wakes.
use Rattle.std.proofs.Common.{◌≡◌, ◌↔◌, ℕ, ◌<◌, ◌≤◌, Bool, true, false, ◌||◌, ◌&&◌, cond, List, [], ◌∷◌, length, filter_map, Option, Some, None, option_map, refl, ap, ap₂, sym, subst, ◌∙◌, arith}
use Rattle.std.specs.Prelude.{nat_le, is_some}
use Rattle.std.specs.List.{list_any, cons_option}
use Rattle.std.specs.FinMap as map
use Rattle.std.specs.FinMap.{entries}
use Rattle.std.proofs.lemmas.Bool.Decides.{nat_tests}
use Rattle.prefix6.specs.Prefix.{Prefix6}
use Rattle.fib.specs.declared.change.RouteChange.{RouteChange}
use Rattle.route_table.specs.Route.{RouteValue, deadline, deadline_by_clock}
use Rattle.route_table.specs.declared.route.Clock.{Clock}
use Rattle.route_table.specs.declared.route.Clock.TheVariants.{Fixed, Live, Dying}
use Rattle.route_table.specs.Table.{Table, map_entries}
use Rattle.route_table.specs.Due.{earlier, is_due, is_reached, least_deadline, first_where, first_changed, next_due}
use Rattle.route_table.proofs.NextDue.{least_of_next}
use Rattle.route_table.proofs.TableLaws.{entries-map_values, Some-same, None-Some}
use Rattle.router_core.specs.Adoption.{lost}
use Rattle.router_core.specs.Ageing.{aged, aged_by_clock, aged_table, unmarked}
use Rattle.router_core.specs.Changes.{change}
use Rattle.router_core.specs.Machine.{State, Updates, is_regular_due, is_triggered_due}
use Rattle.router_core.specs.Output.{AreSpelled, Message, every_route, is_changed, update_messages}
use Rattle.router_core.specs.Timers.{next_regular, next_hold}
use Rattle.router_core.specs.Waking.{IsIdle, is_marked, or_earlier, triggered_at, wakes_at}
use Rattle.router_core.specs.declared.answer.Answer.{Answer}
use Rattle.router_core.specs.declared.answer.Outgoing.{Outgoing}
use Rattle.router_core.proofs.DueRoutes.{aged-kept, change-kept}

abbrev Entry : Type 0
Entry = Prefix6 × RouteValue

or_left : (a b : Bool) → (a || b) ≡ false → a ≡ false
or_left true b h = absurd (cc)
or_left false b h = refl

or_right : (a b : Bool) → (a || b) ≡ false → b ≡ false
or_right true b h = absurd (cc)
or_right false b h = h

module _ (now : ℕ) where
  -- the earlier of two deadlines is reached where one of them is
  reached-earlier : (a b : Option ℕ) → is_reached now (earlier a b) ≡ (is_reached now a || is_reached now b)
  reached-earlier None b = refl
  reached-earlier (Some a) None = by (nat_le a now)
    where
      by : (b : Bool) → b ≡ (b || false)
      by true = refl
      by false = refl
  reached-earlier (Some a) (Some b) = grind (arith, nat_tests)

  -- a moment lies before the earlier of two exactly where it lies before both
  before_both : (m : ℕ) (o : Option ℕ) → now < or_earlier m o → (now < m) × (is_reached now o ≡ false)
  before_both m None h = (h, refl)
  before_both m (Some n) h = (omega arith, grind (arith, nat_tests, h))

  before_earlier : (m : ℕ) (o : Option ℕ) → now < m → is_reached now o ≡ false → now < or_earlier m o
  before_earlier m None h k = h
  before_earlier m (Some n) h k = let later : now < n = grind (arith, nat_tests, k) in omega arith

  -- ---- the routes stay exactly where no deadline is reached
  first_is : (e : Entry) (es : List Entry) → is_reached now (least_deadline (e ∷ es)) ≡ false → is_due now e.1 ≡ false
  first_is e es h = or_left (is_due now e.1) _ (sym (reached-earlier (deadline e.1) (least_deadline es)) ∙ h)

  others_are : (e : Entry) (es : List Entry) → is_reached now (least_deadline (e ∷ es)) ≡ false → is_reached now (least_deadline es) ≡ false
  others_are e es h = or_right (is_due now e.1) _ (sym (reached-earlier (deadline e.1) (least_deadline es)) ∙ h)

  all_kept : (es : List Entry) → is_reached now (least_deadline es) ≡ false → map_entries (aged now) es ≡ es
  all_kept [] h = refl
  all_kept (e ∷ es) h = ap₂ (λ o l. cons_option (option_map (λ y. (e.0, y)) o) l) (aged-kept now e.1 (first_is e es h)) (all_kept es (others_are e es h))

  none_changed : (es : List Entry) → is_reached now (least_deadline es) ≡ false → filter_map (λ (t : Entry). change t.0 (Some t.1) (aged now t.1)) es ≡ []
  none_changed [] h = refl
  none_changed (e ∷ es) h = ap₂ (λ (o : Option RouteChange) l. cons_option o l) (change-kept now e (first_is e es h)) (none_changed es (others_are e es h))

  -- a route that is due does not stay
  not_due : (r : RouteValue) → aged now r ≡ Some r → is_due now r ≡ false
  not_due r h = by_clock r.clock refl h
    where
      by_test : (b : Bool) (until : ℕ) → r.clock ≡ Live until → cond b (Some (lost now r)) (Some r) ≡ Some r → b ≡ false
      by_test true until is same = let clocks = ap (λ (x : RouteValue). x.clock) (Some-same (lost now r) r same) ∙ is in absurd (cc)
      by_test false until is same = refl

      deleted : (b : Bool) → cond b None (Some r) ≡ Some r → b ≡ false
      deleted true same = absurd (None-Some r same)
      deleted false same = refl

      by_clock : (c : Clock) → r.clock ≡ c → aged_by_clock now r c ≡ Some r → is_reached now (deadline_by_clock c) ≡ false
      by_clock Fixed is same = refl
      by_clock (Live until) is same = by_test (nat_le until now) until is same
      by_clock (Dying until) is same = deleted (nat_le until now) same

  no_more : (es : List Entry) → length (map_entries (aged now) es) ≤ length es
  no_more [] = omega arith
  no_more (e ∷ es) = by (aged now e.1) (no_more es)
    where
      by : (o : Option RouteValue) → length (map_entries (aged now) es) ≤ length es → length (cons_option (option_map (λ y. (e.0, y)) o) (map_entries (aged now) es)) ≤ length (e ∷ es)
      by None h = omega (arith, h)
      by (Some r) h = omega (arith, h)

  none_reached : (es : List Entry) → map_entries (aged now) es ≡ es → is_reached now (least_deadline es) ≡ false
  none_reached [] h = refl
  none_reached (e ∷ es) h = by (aged now e.1) refl h (none_reached es)
    where
      by : (o : Option RouteValue) → aged now e.1 ≡ o → cons_option (option_map (λ y. (e.0, y)) o) (map_entries (aged now) es) ≡ e ∷ es
          → (map_entries (aged now) es ≡ es → is_reached now (least_deadline es) ≡ false) → is_reached now (earlier (deadline e.1) (least_deadline es)) ≡ false
      by None is same deeper = absurd (omega (arith, ap length same, no_more es))
      by (Some r) is same deeper =
          let route : r ≡ e.1 = cc in
          let rest : map_entries (aged now) es ≡ es = cc in
          reached-earlier (deadline e.1) (least_deadline es) ∙ ap₂ (λ a b. a || b) (not_due e.1 (is ∙ ap Some route)) (deeper rest)

  -- where a search finds no route that is due, the least deadline is not reached
  pub none_found : (es : List Entry) → is_some (first_where (is_due now) None es) ≡ false → is_reached now (least_deadline es) ≡ false
  none_found [] h = refl
  none_found (e ∷ es) h = reached-earlier (deadline e.1) (least_deadline es) ∙ by (is_due now e.1) (none_found es) h
    where
      by : (b : Bool) → (is_some (first_where (is_due now) None es) ≡ false → is_reached now (least_deadline es) ≡ false)
          → is_some (cond (b && true) (Some e) (first_where (is_due now) None es)) ≡ false → (b || is_reached now (least_deadline es)) ≡ false
      by true deeper found = absurd (cc)
      by false deeper found = deeper found

-- ---- what the code asks of the store
any_found : (es : List Entry) → is_some (first_where (λ r. r.changed) None es) ≡ list_any (λ (t : Entry). t.1.changed) es
any_found [] = refl
any_found (e ∷ es) = by e.1.changed (any_found es)
  where
    by : (b : Bool) → is_some (first_where (λ r. r.changed) None es) ≡ list_any (λ (t : Entry). t.1.changed) es
        → is_some (cond (b && true) (Some e) (first_where (λ r. r.changed) None es)) ≡ (b || list_any (λ (t : Entry). t.1.changed) es)
    by true deeper = refl
    by false deeper = deeper

-- whether a search finds a marked route says when one may be told
pub triggered_found : (s : State) (o : Option Entry) → o ≡ first_changed None s.table → cond (is_some o) (Some s.hold) None ≡ triggered_at s
triggered_found s o walked = ap (λ b. cond b (Some s.hold) None) (ap is_some walked ∙ any_found (entries s.table))

-- the deadline of the route that is due next is the least
pub least_found : (t : Table) (o : Option (ℕ × Prefix6)) → o ≡ next_due t → option_map (λ (n : ℕ × Prefix6). n.0) o ≡ least_deadline (entries t)
least_found t o found = ap (option_map (λ (n : ℕ × Prefix6). n.0)) found ∙ least_of_next t

none_sent : (sends : List Outgoing) → AreSpelled [] sends → sends ≡ []
none_sent [] h = refl
none_sent (o ∷ os) h = absurd h

module _ (old : State) (now word : ℕ) where
  abbrev due_later : Type 0
  due_later = is_reached now (least_deadline (entries old.table)) ≡ false

  table_kept : due_later → aged_table now old.table ≡ old.table
  table_kept h = map.same_entries_map _ _ (entries-map_values (aged now) old.table ∙ all_kept now (entries old.table) h)

  table_later : aged_table now old.table ≡ old.table → due_later
  table_later h = none_reached now (entries old.table) (sym (entries-map_values (aged now) old.table) ∙ ap entries h)

  -- while routes stay, a triggered update is due exactly where what is marked may be told
  triggered : aged_table now old.table ≡ old.table → is_triggered_due old now ≡ is_reached now (triggered_at old)
  triggered kept = ap (λ (t : Table). nat_le old.hold now && is_marked t) kept ∙ by (nat_le old.hold now) (is_marked old.table) refl
    where
      by : (h m : Bool) → nat_le old.hold now ≡ h → (h && m) ≡ is_reached now (cond m (Some old.hold) None)
      by true true is = sym is
      by true false is = refl
      by false true is = sym is
      by false false is = refl

  idle_state : (b c : Bool) (t : Table) → b ≡ false → c ≡ false → t ≡ old.table
      → cond b (record old { table = unmarked t; last = now; regular = next_regular now word })
      (cond c (record old { table = unmarked t; last = now; hold = next_hold now word }) (record old { table = t; last = now }))
      ≡ record old { last = now }
  idle_state true c t no_regular no_triggered kept = absurd (cc)
  idle_state false true t no_regular no_triggered kept = absurd (cc)
  idle_state false false t no_regular no_triggered kept = ap (λ (u : Table). record old { table = u; last = now }) kept

  silent : (b c : Bool) (xs ys : List Message) → b ≡ false → c ≡ false → cond b xs (cond c ys []) ≡ []
  silent true c xs ys no_regular no_triggered = absurd (cc)
  silent false true xs ys no_regular no_triggered = absurd (cc)
  silent false false xs ys no_regular no_triggered = refl

  module _ (answer : Answer) (new : State) (u : Updates old now word answer new) where
    -- before it wakes
    idle_before : now < wakes_at old → IsIdle old now answer new
    idle_before h =
        let ages = before_both now (or_earlier old.regular (triggered_at old)) (least_deadline (entries old.table)) h in
        let tells = before_both now old.regular (triggered_at old) ages.0 in
        let kept = table_kept ages.1 in
        let no_regular : is_regular_due old now ≡ false = (let early = tells.0 in grind (arith, nat_tests, early)) in
        let no_triggered : is_triggered_due old now ≡ false = triggered kept ∙ tells.1 in
        record {
          state = u.state ∙ idle_state (is_regular_due old now) (is_triggered_due old now) (aged_table now old.table) no_regular no_triggered kept;
          sends = none_sent answer.sends (
              subst (λ (ms : List Message). AreSpelled ms answer.sends)
              (silent (is_regular_due old now) (is_triggered_due old now) (update_messages old.config every_route (aged_table now old.table)) (update_messages old.config is_changed (aged_table now old.table)) no_regular no_triggered)
              u.answer_is.sends);
          changes = u.answer_is.changes_are ∙ none_changed now (entries old.table) ages.1;
        }

    -- and only then
    before_idle : IsIdle old now answer new → now < wakes_at old
    before_idle idle = by (is_regular_due old now) (is_triggered_due old now) refl refl (sym u.state ∙ idle.state)
      where
        by : (b c : Bool) → is_regular_due old now ≡ b → is_triggered_due old now ≡ c
            → cond b (record old { table = unmarked (aged_table now old.table); last = now; regular = next_regular now word })
            (cond c (record old { table = unmarked (aged_table now old.table); last = now; hold = next_hold now word }) (record old { table = aged_table now old.table; last = now }))
            ≡ record old { last = now }
            → now < wakes_at old
        by true c regular triggered_is same =
            let due : old.regular ≤ now = grind (arith, nat_tests, regular) in
            let moved : next_regular now word ≡ old.regular = ap (λ (s : State). s.regular) same in
            absurd (omega (arith, due, moved))
        by false true regular triggered_is same =
            let due : old.hold ≤ now = held (nat_le old.hold now) (is_marked (aged_table now old.table)) refl triggered_is in
            let moved : next_hold now word ≡ old.hold = ap (λ (s : State). s.hold) same in
            absurd (omega (arith, due, moved))
          where
            held : (h m : Bool) → nat_le old.hold now ≡ h → (h && m) ≡ true → old.hold ≤ now
            held true m is both = grind (arith, nat_tests, is)
            held false m is both = absurd (cc)
        by false false regular triggered_is same =
            let kept : aged_table now old.table ≡ old.table = ap (λ (s : State). s.table) same in
            let early : now < old.regular = grind (arith, nat_tests, regular) in
            before_earlier now (or_earlier old.regular (triggered_at old)) (least_deadline (entries old.table))
            (before_earlier now old.regular (triggered_at old) early (sym (triggered kept) ∙ triggered_is))
            (table_later kept)

    pub idle_is_before : IsIdle old now answer new ↔ (now < wakes_at old)
    idle_is_before = (before_idle, idle_before)

-- a deadline that is not reached is later
not_reached : (m : ℕ) (o : Option ℕ) → is_reached m o ≡ false → m ≡ or_earlier m o
not_reached m None h = refl
not_reached m (Some n) h = let later : m < n = grind (arith, nat_tests, h) in omega arith

module _ (s : State) (update : ℕ) (triggered : Option ℕ) (triggered_is : triggered ≡ triggered_at s) (update_is : update ≡ or_earlier s.regular triggered) where
  update_at : update ≡ or_earlier s.regular (triggered_at s)
  update_at = update_is ∙ ap (or_earlier s.regular) triggered_is

  -- the value that the code computes: the next update, or the least deadline where that is asked for
  pub woken : (result : ℕ) (ages : Option ℕ) → ages ≡ least_deadline (entries s.table) → result ≡ or_earlier update ages → result ≡ wakes_at s
  woken result ages ages_is result_is = result_is ∙ ap₂ or_earlier update_at ages_is

  pub woken_by_update : is_reached update (least_deadline (entries s.table)) ≡ false → update ≡ wakes_at s
  woken_by_update none = not_reached update (least_deadline (entries s.table)) none ∙ ap (λ m. or_earlier m (least_deadline (entries s.table))) update_at
