-- What any event does to one router: to its time, to its live routes, and to those that never age.
use Rattle.std.proofs.Common.{◌≡◌, ◌⊎◌, inl, inr, ℕ, zero, suc, ◌+◌, max, ◌<◌, ◌≤◌, Bool, true, false, cond, not, ◌||◌, ◌==◌, nat_le, List, [], ◌∷◌, ◌++◌, filter, Option, Some, None, option_and_then, slice_get, refl, ap, sym, subst, ◌∙◌, arith}
use Rattle.std.specs.FinMap as map_of
use Rattle.std.specs.Ordering.{eq_by_cmp}
use Rattle.std.proofs.lemmas.Bool.{eq-eqb, eqb-true}
use Rattle.std.proofs.lemmas.Map.Views.{tells_apart}
use Rattle.prefix6.specs.Prefix.{Prefix6, prefix_cmp, same_prefix}
use Rattle.prefix6.proofs.PrefixLaws.{exact_prefixes, same_prefix-true, prefixes_total}
use Rattle.std.specs.Cmp.{tied_itself}
use Rattle.std.specs.Ordering.{is_eq}
use Rattle.route_table.specs.Route.{RouteValue}
use Rattle.route_table.specs.Table.{Table}
use Rattle.route_table.specs.declared.route.Clock.{Clock}
use Rattle.route_table.specs.declared.route.Clock.TheVariants.{Fixed, Live, Dying}
use Rattle.route_table.proofs.TableLaws.{Some-same, None-Some, at_from_entries, get-map_values}
use Rattle.route_table.proofs.TableSteps.{get-with_value}
use Rattle.router_core.specs.Adoption.{Gateway, adopted, adopted_by_clock, taken, lost, metric_through, is_reachable, is_through, is_preferred, is_repeated}
use Rattle.router_core.specs.Ageing.{aged, aged_by_clock, without_mark}
use Rattle.router_core.specs.Config.{Config}
use Rattle.router_core.specs.Hearing.{Hearing, Heard}
use Rattle.router_core.specs.LinkDown.{is_live_on, after_link_down}
use Rattle.router_core.specs.Machine.{State, Happening, Ticks, Restarts, Reconfigures, ShutsDown, LinkGoesDown, LinkComesUp, owned_table, is_regular_due, is_triggered_due}
use Rattle.router_core.specs.Offers.{Offer, offer_at}
use Rattle.router_core.specs.Owning.{owned_route}
use Rattle.router_core.specs.Reconfiguring.{reconfigured_config, reconfigured_table, newly_owned, disowned}
use Rattle.router_core.specs.Timers.{timeout, garbage_time}
use Rattle.router_core.specs.declared.answer.Answer.{Answer}
use Rattle.router_core.specs.declared.reconfiguring.Change.{Change}
use Rattle.router_core.specs.declared.reconfiguring.Change.TheVariants.{Cost, Own, Disown}
use Rattle.ripng_world.specs.Network.{Network}
use Rattle.ripng_world.specs.Rounds.{router_of, moment_of}
use Rattle.ripng_world.specs.World.{World, Event, Deliver, Stranger, Tick, Restart, Shutdown, LinkDown, LinkUp, Reconfigure, RouterMoves, Happens}
use Rattle.ripng_world.proofs.Each.{each_mapped, each_from_places}
use Rattle.ripng_world.proofs.Members.{At, at_left, at_right}
use Rattle.ripng_world.proofs.NetworkNow.{set_get}
use Rattle.ripng_phases.specs.Ages.{IsLooking, StartsAnew}
use Rattle.ripng_phases.proofs.Moving.{Ages, IsStep, Waits, ages, step_of}
use Rattle.ripng_phases.proofs.Rows.{heard_keeps, aged_live, unmarked_live}
use Rattle.ripng_phases.proofs.Stepping.{IsLiveAfter, live_after}

-- each route that never ages is one of an owned prefix, with its tag
abbrev pub AreOwn : State → Type 0
AreOwn s = (p : Prefix6) (r : RouteValue) → map_of.get s.table p ≡ Some r → r.clock ≡ Fixed → At s.config.prefixes (p, r.tag)

pub record IsAnyStep (net : Network) (w : World) (e : Event) (answer : Answer) (router : ℕ) (s t : State) : Type 0 where
  -- its time stays, or is at most that of the event; and is that, where it starts anew
  pub last : (t.last ≡ s.last) ⊎ ((router_of e ≡ router) × (t.last ≤ max s.last (moment_of e)))
  pub anew : StartsAnew router e → t.last ≡ moment_of e
  pub none_live : StartsAnew router e → (p : Prefix6) (r : RouteValue) (until : ℕ) → map_of.get t.table p ≡ Some r → r.clock ≡ Live until → ⊥
  pub live : (p : Prefix6) (r : RouteValue) (until : ℕ) → map_of.get t.table p ≡ Some r → r.clock ≡ Live until → IsLiveAfter net w e answer router s t p r until
  -- once it has looked at them, no live route is overdue
  pub looked : IsLooking e → router_of e ≡ router → (p : Prefix6) (r : RouteValue) (until : ℕ) → map_of.get t.table p ≡ Some r → r.clock ≡ Live until → moment_of e < until
  pub own : AreOwn s → AreOwn t

-- ---- a route that never ages

-- it was there before
abbrev WasFixed : Option RouteValue → Option RouteValue → Type 0
WasFixed before after = (r : RouteValue) → after ≡ Some r → r.clock ≡ Fixed → before ≡ Some r

no_live : (u : ℕ) → Live u ≡ Fixed → ⊥
no_live u e = cc

no_dying : (u : ℕ) → Dying u ≡ Fixed → ⊥
no_dying u e = cc

dying_live : (u v : ℕ) → Dying u ≡ Live v → ⊥
dying_live u v e = cc

fixed_live : (v : ℕ) → Fixed ≡ Live v → ⊥
fixed_live v e = cc

offer_fixed : (before : Option RouteValue) (g : Gateway) (o : Offer) (b : Option RouteValue) → WasFixed before b → WasFixed before (adopted g b o)
offer_fixed before g o None k = by (is_reachable (metric_through g o))
  where
    by : (x : Bool) → WasFixed before (cond x (Some (taken g o)) None)
    by true = λ r is fixed. absurd (no_live (g.moment + timeout) (ap (λ (x : RouteValue). x.clock) (Some-same (taken g o) r is) ∙ fixed))
    by false = λ r is fixed. absurd (None-Some r is)
offer_fixed before g o (Some q) k = by_clock q.clock
  where
    taken_so : (changed : Bool) → WasFixed before (Some (record (taken g o) { changed = changed }))
    taken_so changed r is fixed = absurd (no_live (g.moment + timeout) (ap (λ (x : RouteValue). x.clock) (Some-same (record (taken g o) { changed = changed }) r is) ∙ fixed))

    lost_so : WasFixed before (Some (lost g.moment q))
    lost_so r is fixed = absurd (no_dying (g.moment + garbage_time) (ap (λ (x : RouteValue). x.clock) (Some-same (lost g.moment q) r is) ∙ fixed))

    by_clock : (c : Clock) → WasFixed before (Some (adopted_by_clock g o q c))
    by_clock Fixed = k
    by_clock (Dying until) = by (is_reachable (metric_through g o))
      where
        by : (x : Bool) → WasFixed before (Some (cond x (taken g o) q))
        by true = taken_so true
        by false = k
    by_clock (Live until) = by (is_through g q.origin) (is_reachable (metric_through g o)) (is_preferred g o q.metric until)
      where
        by : (x y z : Bool) → WasFixed before (Some (cond x (cond y (record (taken g o) { changed = q.changed || not (is_repeated g o q) }) (lost g.moment q)) (cond z (taken g o) q)))
        by true true z = taken_so (q.changed || not (is_repeated g o q))
        by true false z = lost_so
        by false y true = taken_so true
        by false y false = k

heard_fixed : (h : Hearing) (after : Table) (p : Prefix6) → Heard h after → WasFixed (map_of.get h.before p) (map_of.get after p)
heard_fixed h after p heard =
    heard_keeps (WasFixed (map_of.get h.before p)) h after p
    (λ e stands names place b k. offer_fixed (map_of.get h.before p) h.gateway (offer_at h.config h.gateway.from h.entries place e) b k)
    heard (λ r is fixed. is)

aged_fixed : (n : ℕ) (b : Option RouteValue) → WasFixed b (option_and_then (aged n) b)
aged_fixed n None r is fixed = absurd (None-Some r is)
aged_fixed n (Some q) r is fixed = by_clock q.clock is
  where
    by_clock : (c : Clock) → aged_by_clock n q c ≡ Some r → Some q ≡ Some r
    by_clock Fixed e = e
    by_clock (Live until) e = by (nat_le until n) e
      where
        by : (x : Bool) → cond x (Some (lost n q)) (Some q) ≡ Some r → Some q ≡ Some r
        by true f = absurd (no_dying (n + garbage_time) (ap (λ (x : RouteValue). x.clock) (Some-same (lost n q) r f) ∙ fixed))
        by false f = f
    by_clock (Dying until) e = by (nat_le until n) e
      where
        by : (x : Bool) → cond x None (Some q) ≡ Some r → Some q ≡ Some r
        by true f = absurd (None-Some r f)
        by false f = f

-- it was there before, with its tag
abbrev HadFixed : Option RouteValue → RouteValue → Type 0
HadFixed before r = (q : RouteValue) × (before ≡ Some q) × (q.clock ≡ Fixed) × (q.tag ≡ r.tag)

unmarked_fixed : (n : ℕ) (b : Option RouteValue) (r : RouteValue) → option_and_then without_mark (option_and_then (aged n) b) ≡ Some r → r.clock ≡ Fixed → HadFixed b r
unmarked_fixed n b r is fixed = by (option_and_then (aged n) b) refl is
  where
    by : (o : Option RouteValue) → option_and_then (aged n) b ≡ o → option_and_then without_mark o ≡ Some r → HadFixed b r
    by None e f = absurd (None-Some r f)
    by (Some x) e f =
        let same = Some-same (record x { changed = false }) r f in
        let clock : x.clock ≡ Fixed = ap (λ (y : RouteValue). y.clock) same ∙ fixed in
        (x, aged_fixed n b x e clock, clock, ap (λ (y : RouteValue). y.tag) same)

-- so the owned ones stay, where the configuration does
kept_own : (s t : State) → t.config ≡ s.config → ((p : Prefix6) (r : RouteValue) → map_of.get t.table p ≡ Some r → r.clock ≡ Fixed → HadFixed (map_of.get s.table p) r) → AreOwn s → AreOwn t
kept_own s t same had own p r is fixed =
    let q = had p r is fixed in
    subst (λ (c : Config). At c.prefixes (p, r.tag)) (sym same) (subst (λ n. At s.config.prefixes (p, n)) q.3 (own p q.0 q.1 q.2))

-- ---- by the kinds of steps

module _ (net : Network) (w : World) (e : Event) (answer : Answer) where
  of_ages : (router : ℕ) (s t : State) → (StartsAnew router e → ⊥) → Ages e router s t → IsAnyStep net w e answer router s t
  of_ages router s t on ages =
      record {
        anew = λ start. absurd (on start);
        none_live = λ start. absurd (on start);
        last = inr (ages.here, same_as t.last (max s.last (moment_of e)) ages.last);
        live = λ p r until is clock. live_after net w e answer router s t (inr (inl ages)) p r until is clock;
        looked = λ looks here p r until is clock. after s.last (moment_of e) t.last until ages.last (ahead p r until is clock);
        own = kept_own s t ages.config had;
      }
    where
      same_as : (a b : ℕ) → a ≡ b → a ≤ b
      same_as a b h = omega arith

      after : (l m n u : ℕ) → n ≡ max l m → n < u → m < u
      after l m n u f g = omega arith

      ahead : (p : Prefix6) (r : RouteValue) (until : ℕ) → map_of.get t.table p ≡ Some r → r.clock ≡ Live until → t.last < until
      ahead p r until is clock =
          elim (ages.row p) [
            | inl row ↦ (aged_live t.last (map_of.get s.table p) r until (sym row ∙ is) clock).3
            | inr row ↦ (unmarked_live t.last (map_of.get s.table p) r until (sym row ∙ is) clock).3
          ]

      had : (p : Prefix6) (r : RouteValue) → map_of.get t.table p ≡ Some r → r.clock ≡ Fixed → HadFixed (map_of.get s.table p) r
      had p r is fixed =
          elim (ages.row p) [
            | inl row ↦ (r, aged_fixed t.last (map_of.get s.table p) r (sym row ∙ is) fixed, fixed, refl)
            | inr row ↦ unmarked_fixed t.last (map_of.get s.table p) r (sym row ∙ is) fixed
          ]

  of_waits : (router : ℕ) (s t : State) → (StartsAnew router e → ⊥) → (IsLooking e → router_of e ≡ router → ⊥) → Waits e router s t → IsAnyStep net w e answer router s t
  of_waits router s t on blind waits =
      record {
        anew = λ start. absurd (on start);
        none_live = λ start. absurd (on start);
        last = by_last waits.last;
        live = λ p r until is clock. live_after net w e answer router s t (inl waits) p r until is clock;
        looked = λ looks here p r until is clock. absurd (blind looks here);
        own = kept_own s t waits.config (λ p r is fixed. (r, ap (λ x. map_of.get x p) (sym waits.table) ∙ is, fixed, refl));
      }
    where
      same_as : (a b : ℕ) → a ≡ b → a ≤ b
      same_as a b h = omega arith

      by_last : (t.last ≡ s.last) ⊎ ((router_of e ≡ router) × (t.last ≡ max s.last (moment_of e))) → (t.last ≡ s.last) ⊎ ((router_of e ≡ router) × (t.last ≤ max s.last (moment_of e)))
      by_last (inl same) = inl same
      by_last (inr later) = inr (later.0, same_as t.last (max s.last (moment_of e)) later.1)

  of_step : (router : ℕ) (s t : State) → (StartsAnew router e → ⊥) → (IsLooking e → ⊥) → IsStep net w e answer router s t → IsAnyStep net w e answer router s t
  of_step router s t on blind (inl waits) = of_waits router s t on (λ looks here. blind looks) waits
  of_step router s t on blind (inr (inl ages)) = of_ages router s t on ages
  of_step router s t on blind (inr (inr here)) =
      record {
        anew = λ start. absurd (on start);
        none_live = λ start. absurd (on start);
        last = inr (ap router_of here.event, same_as t.last s.last here.now (moment_of e) (ap (λ (x : State). x.last) here.hears.state) (ap moment_of here.event));
        live = λ p r until is clock. live_after net w e answer router s t (inr (inr here)) p r until is clock;
        looked = λ looks at p r until is clock. absurd (blind looks);
        own = kept_own s t (ap (λ (x : State). x.config) here.hears.state)
            (λ p r is fixed. (r, heard_fixed _ here.hears.table p here.hears.heard r (ap (λ (x : State). map_of.get x.table p) (sym here.hears.state) ∙ is) fixed, fixed, refl));
      }
    where
      same_as : (a l n m : ℕ) → a ≡ max l n → m ≡ n → a ≤ max l m
      same_as a l n m f g = omega arith

-- the routes of a router that starts
started_fixed : (config : Config) (p : Prefix6) (r : RouteValue) → map_of.get (owned_table config) p ≡ Some r → r.clock ≡ Fixed
started_fixed config =
    at_from_entries (λ (e : Prefix6 × RouteValue). e.1.clock ≡ Fixed) _
    (each_mapped (λ (e : Prefix6 × RouteValue). e.1.clock ≡ Fixed) (λ (t : Prefix6 × ℕ). (t.0, owned_route t.1)) config.prefixes
    (each_from_places (λ (t : Prefix6 × ℕ). (owned_route t.1).clock ≡ Fixed) config.prefixes (λ i t is. refl)))

pub started_own : (config : Config) (p : Prefix6) (r : RouteValue) → map_of.get (owned_table config) p ≡ Some r → At config.prefixes (p, r.tag)
started_own config =
    at_from_entries (λ (e : Prefix6 × RouteValue). At config.prefixes (e.0, e.1.tag)) _
    (each_mapped (λ (e : Prefix6 × RouteValue). At config.prefixes (e.0, e.1.tag)) (λ (t : Prefix6 × ℕ). (t.0, owned_route t.1)) config.prefixes
    (each_from_places (λ (t : Prefix6 × ℕ). At config.prefixes (t.0, t.1)) config.prefixes (λ i t is. (i, is))))

-- what stands in a list and passes stands in the filtered one
to_filter : {X : Type 0} (test : X → Bool) (xs : List X) (x : X) → At xs x → test x ≡ true → At (filter test xs) x
to_filter test [] x a ok = absurd (None-Some x a.1)
to_filter test (y ∷ ys) x a ok = by_test (test y) refl a.0 a.1 (λ i is. to_filter test ys x (i, is) ok)
  where
    clash : false ≡ true → ⊥
    clash e = cc

    by_test : (b : Bool) → test y ≡ b → (i : ℕ) → slice_get (y ∷ ys) i ≡ Some x → ((j : ℕ) → slice_get ys j ≡ Some x → At (filter test ys) x) → At (cond b (y ∷ filter test ys) (filter test ys)) x
    by_test true e zero is later = (0, is)
    by_test false e zero is later = absurd (clash (sym e ∙ ap test (Some-same y x is) ∙ ok))
    by_test true e (suc i) is later = let l = later i is in (suc l.0, l.1)
    by_test false e (suc i) is later = later i is

-- two prefixes that the table tells apart differ
differs : (p q : Prefix6) → eq_by_cmp prefix_cmp p q ≡ false → not (same_prefix p q) ≡ true
differs p q tie = by_test (same_prefix p q) refl
  where
    clash : true ≡ false → ⊥
    clash e = cc

    by_test : (b : Bool) → same_prefix p q ≡ b → not (same_prefix p q) ≡ true
    by_test false e = ap not e
    by_test true e = absurd (clash (sym (ap is_eq (tied_itself prefixes_total p)) ∙ ap (eq_by_cmp prefix_cmp p) (same_prefix-true p q e) ∙ tie))

-- a router that starts anew is that of the event
pub started_is : (e : Event) (router : ℕ) → StartsAnew router e → router_of e ≡ router
started_is (Restart to now) router start = start
started_is (Deliver datagram to iface now) router start = absurd start
started_is (Stranger to x) router start = absurd start
started_is (Tick to now word) router start = absurd start
started_is (Shutdown to now) router start = absurd start
started_is (LinkDown to now on) router start = absurd start
started_is (LinkUp to now on) router start = absurd start
started_is (Reconfigure to now c) router start = absurd start

-- ---- any event

module _ (net : Network) (w w' : World) where
  abbrev AnyFrom : Event → Answer → ℕ → State → Type 0
  AnyFrom e answer router t = (s : State) × (slice_get w.states router ≡ Some s) × IsAnyStep net w e answer router s t

  -- the others wait
  any_moved : (e : Event) (what : Happening) (answer : Answer) (m : RouterMoves w (router_of e) what answer w') → IsAnyStep net w e answer (router_of e) m.old m.new
      → (router : ℕ) (t : State) → slice_get w'.states router ≡ Some t → AnyFrom e answer router t
  any_moved e what answer m step router t is = by (router_of e == router) refl (sym (set_get w.states (router_of e) m.new m.old m.old_is router) ∙ ap (λ (xs : List State). slice_get xs router) (sym m.states) ∙ is)
    where
      clash : false ≡ true → ⊥
      clash e = cc

      by : (b : Bool) → (router_of e == router) ≡ b → cond b (Some m.new) (slice_get w.states router) ≡ Some t → AnyFrom e answer router t
      by true here f =
          subst (λ r. AnyFrom e answer r t) (eqb-true (router_of e) router here) (subst (λ x. AnyFrom e answer (router_of e) x) (Some-same m.new t f) (m.old, m.old_is, step))
      by false other f =
          (t, f, of_waits net w e answer router t t (λ start. clash (sym other ∙ eq-eqb (router_of e) router (started_is e router start))) (λ looks here. clash (sym other ∙ eq-eqb (router_of e) router here)) (record { config = refl; table = refl; last = inl refl }))

  waited : (e : Event) (answer : Answer) (s t : State) → (StartsAnew (router_of e) e → ⊥) → (IsLooking e → ⊥) → t ≡ record s { last = max s.last (moment_of e) } → IsAnyStep net w e answer (router_of e) s t
  waited e answer s t on blind is =
      of_waits net w e answer (router_of e) s t on (λ looks here. blind looks)
      (record { config = ap (λ (x : State). x.config) is; table = ap (λ (x : State). x.table) is; last = inr (refl, ap (λ (x : State). x.last) is) })

  -- where a link is lost
  link_down : (to now on : ℕ) (answer : Answer) (m : RouterMoves w to (LinkGoesDown now on) answer w') → IsAnyStep net w (LinkDown to now on) answer to m.old m.new
  link_down to now on answer m =
      record {
        anew = λ start. absurd start;
        none_live = λ start. absurd start;
        last = inr (refl, same_as m.new.last (max m.old.last now) (ap (λ (x : State). x.last) m.moves.state));
        live = λ p r until is clock. by_value p (map_of.get m.old.table p) refl r until (sym (row p) ∙ is) clock;
        looked = λ looks here p r until is clock. absurd looks;
        own = kept_own m.old m.new (ap (λ (x : State). x.config) m.moves.state) (λ p r is fixed. had p (map_of.get m.old.table p) refl r (sym (row p) ∙ is) fixed);
      }
    where
      same_as : (a b : ℕ) → a ≡ b → a ≤ b
      same_as a b h = omega arith

      row : (p : Prefix6) → map_of.get m.new.table p ≡ option_and_then (λ r. Some (after_link_down on (max m.old.last now) r)) (map_of.get m.old.table p)
      row p = ap (λ (x : State). map_of.get x.table p) m.moves.state ∙ get-map_values (λ r. Some (after_link_down on (max m.old.last now) r)) m.old.table p

      by_value : (p : Prefix6) (o : Option RouteValue) → map_of.get m.old.table p ≡ o → (r : RouteValue) (until : ℕ) → option_and_then (λ r. Some (after_link_down on (max m.old.last now) r)) o ≡ Some r → r.clock ≡ Live until
          → IsLiveAfter net w (LinkDown to now on) answer to m.old m.new p r until
      by_value p None at r until e clock = absurd (None-Some r e)
      by_value p (Some q) at r until e clock = by (is_live_on on q) e
        where
          by : (b : Bool) → Some (cond b (lost (max m.old.last now) q) q) ≡ Some r → IsLiveAfter net w (LinkDown to now on) answer to m.old m.new p r until
          by true f = absurd (dying_live (max m.old.last now + garbage_time) until (ap (λ (x : RouteValue). x.clock) (Some-same (lost (max m.old.last now) q) r f) ∙ clock))
          by false f = inl (r, at ∙ f, record { metric = refl; tag = refl; origin = refl; clock = refl })

      had : (p : Prefix6) (o : Option RouteValue) → map_of.get m.old.table p ≡ o → (r : RouteValue) → option_and_then (λ r. Some (after_link_down on (max m.old.last now) r)) o ≡ Some r → r.clock ≡ Fixed
          → HadFixed (map_of.get m.old.table p) r
      had p None at r e fixed = absurd (None-Some r e)
      had p (Some q) at r e fixed = by (is_live_on on q) e
        where
          by : (b : Bool) → Some (cond b (lost (max m.old.last now) q) q) ≡ Some r → HadFixed (map_of.get m.old.table p) r
          by true f = absurd (no_dying (max m.old.last now + garbage_time) (ap (λ (x : RouteValue). x.clock) (Some-same (lost (max m.old.last now) q) r f) ∙ fixed))
          by false f = (r, at ∙ f, fixed, refl)

  -- where a configuration is changed
  changed : (to now : ℕ) (c : Change) (answer : Answer) (m : RouterMoves w to (Reconfigures now c) answer w') → IsAnyStep net w (Reconfigure to now c) answer to m.old m.new
  changed to now c answer m =
      record {
        anew = λ start. absurd start;
        none_live = λ start. absurd start;
        last = inr (refl, same_as m.new.last (max m.old.last now) (ap (λ (x : State). x.last) m.moves.state));
        live = λ p r until is clock. live c (ap (λ (x : State). x.table) m.moves.state) p r until is clock;
        looked = λ looks here p r until is clock. absurd looks;
        own = λ own p r is fixed.
            subst (λ (k : Config). At k.prefixes (p, r.tag)) (sym (ap (λ (x : State). x.config) m.moves.state)) (owned c (ap (λ (x : State). x.table) m.moves.state) own p r is fixed);
      }
    where
      same_as : (a b : ℕ) → a ≡ b → a ≤ b
      same_as a b h = omega arith

      stays : (p : Prefix6) (r : RouteValue) → map_of.get m.old.table p ≡ Some r → (until : ℕ) → IsLiveAfter net w (Reconfigure to now c) answer to m.old m.new p r until
      stays p r at until = inl (r, at, record { metric = refl; tag = refl; origin = refl; clock = refl })

      live : (d : Change) → m.new.table ≡ reconfigured_table (max m.old.last now) m.old.table d → (p : Prefix6) (r : RouteValue) (until : ℕ) → map_of.get m.new.table p ≡ Some r → r.clock ≡ Live until
          → IsLiveAfter net w (Reconfigure to now c) answer to m.old m.new p r until
      live (Cost iface cost) table p r until is clock = stays p r (ap (λ (x : Table). map_of.get x p) (sym table) ∙ is) until
      live (Own q tag) table p r until is clock = by (eq_by_cmp prefix_cmp p q) (sym (get-with_value m.old.table q (Some (newly_owned tag)) p) ∙ ap (λ (x : Table). map_of.get x p) (sym table) ∙ is)
        where
          by : (b : Bool) → cond b (Some (newly_owned tag)) (map_of.get m.old.table p) ≡ Some r → IsLiveAfter net w (Reconfigure to now c) answer to m.old m.new p r until
          by true f = absurd (fixed_live until (ap (λ (x : RouteValue). x.clock) (Some-same (newly_owned tag) r f) ∙ clock))
          by false f = stays p r f until
      live (Disown q) table p r until is clock = by (eq_by_cmp prefix_cmp p q) (sym (get-with_value m.old.table q (disowned (max m.old.last now) (map_of.get m.old.table q)) p) ∙ ap (λ (x : Table). map_of.get x p) (sym table) ∙ is)
        where
          gone : (o : Option RouteValue) → disowned (max m.old.last now) o ≡ Some r → ⊥
          gone None f = None-Some r f
          gone (Some x) f = dying_live (max m.old.last now + garbage_time) until (ap (λ (y : RouteValue). y.clock) (Some-same (lost (max m.old.last now) x) r f) ∙ clock)

          by : (b : Bool) → cond b (disowned (max m.old.last now) (map_of.get m.old.table q)) (map_of.get m.old.table p) ≡ Some r → IsLiveAfter net w (Reconfigure to now c) answer to m.old m.new p r until
          by true f = absurd (gone (map_of.get m.old.table q) f)
          by false f = stays p r f until

      owned : (d : Change) → m.new.table ≡ reconfigured_table (max m.old.last now) m.old.table d → AreOwn m.old → (p : Prefix6) (r : RouteValue) → map_of.get m.new.table p ≡ Some r → r.clock ≡ Fixed
          → At (reconfigured_config m.old.config d).prefixes (p, r.tag)
      owned (Cost iface cost) table own p r is fixed = own p r (ap (λ (x : Table). map_of.get x p) (sym table) ∙ is) fixed
      owned (Own q tag) table own p r is fixed = by (eq_by_cmp prefix_cmp p q) refl (sym (get-with_value m.old.table q (Some (newly_owned tag)) p) ∙ ap (λ (x : Table). map_of.get x p) (sym table) ∙ is)
        where
          by : (b : Bool) → eq_by_cmp prefix_cmp p q ≡ b → cond b (Some (newly_owned tag)) (map_of.get m.old.table p) ≡ Some r → At (m.old.config.prefixes ++ (q, tag) ∷ []) (p, r.tag)
          by true tie f =
              subst (λ (k : Prefix6). At (m.old.config.prefixes ++ (q, tag) ∷ []) (k, r.tag)) (sym (tells_apart exact_prefixes p q tie))
              (subst (λ x. At (m.old.config.prefixes ++ (q, tag) ∷ []) (q, x)) (ap (λ (x : RouteValue). x.tag) (Some-same (newly_owned tag) r f)) (at_right m.old.config.prefixes ((q, tag) ∷ []) (q, tag) (0, refl)))
          by false tie f = at_left m.old.config.prefixes ((q, tag) ∷ []) (p, r.tag) (own p r f fixed)
      owned (Disown q) table own p r is fixed = by (eq_by_cmp prefix_cmp p q) refl (sym (get-with_value m.old.table q (disowned (max m.old.last now) (map_of.get m.old.table q)) p) ∙ ap (λ (x : Table). map_of.get x p) (sym table) ∙ is)
        where
          gone : (o : Option RouteValue) → disowned (max m.old.last now) o ≡ Some r → ⊥
          gone None f = None-Some r f
          gone (Some x) f = no_dying (max m.old.last now + garbage_time) (ap (λ (y : RouteValue). y.clock) (Some-same (lost (max m.old.last now) x) r f) ∙ fixed)

          by : (b : Bool) → eq_by_cmp prefix_cmp p q ≡ b → cond b (disowned (max m.old.last now) (map_of.get m.old.table q)) (map_of.get m.old.table p) ≡ Some r
              → At (filter (λ (t : Prefix6 × ℕ). not (same_prefix t.0 q)) m.old.config.prefixes) (p, r.tag)
          by true tie f = absurd (gone (map_of.get m.old.table q) f)
          by false tie f = to_filter (λ (t : Prefix6 × ℕ). not (same_prefix t.0 q)) m.old.config.prefixes (p, r.tag) (own p r f fixed) (differs p q tie)

  pub any_step : (e : Event) (answer : Answer) → Happens net w e answer w' → (router : ℕ) (t : State) → slice_get w'.states router ≡ Some t → AnyFrom e answer router t
  any_step (Tick to now word) answer m =
      any_moved (Tick to now word) (Ticks now word) answer m
      (of_ages net w (Tick to now word) answer to m.old m.new (λ start. start) (subst (Ages (Tick to now word) to m.old) (sym m.moves.state)
      (ages (Tick to now word) to m.old (max m.old.last now) word (is_regular_due m.old (max m.old.last now)) (is_triggered_due m.old (max m.old.last now)) refl refl)))
  any_step (Deliver datagram to iface now) answer d = λ router t is.
      let from = step_of net w w' (Deliver datagram to iface now) answer tt d router t is in
      (from.0, from.1, of_step net w (Deliver datagram to iface now) answer router from.0 t (λ start. start) (λ looks. looks) from.2)
  any_step (Stranger to x) answer i = λ router t is.
      let from = step_of net w w' (Stranger to x) answer tt i router t is in
      (from.0, from.1, of_step net w (Stranger to x) answer router from.0 t (λ start. start) (λ looks. looks) from.2)
  any_step (Shutdown to now) answer m = any_moved (Shutdown to now) (ShutsDown now) answer m (waited (Shutdown to now) answer m.old m.new (λ start. start) (λ looks. looks) m.moves.state)
  any_step (LinkUp to now on) answer m = any_moved (LinkUp to now on) (LinkComesUp now on) answer m (waited (LinkUp to now on) answer m.old m.new (λ start. start) (λ looks. looks) m.moves.state)
  any_step (LinkDown to now on) answer m = any_moved (LinkDown to now on) (LinkGoesDown now on) answer m (link_down to now on answer m)
  any_step (Reconfigure to now c) answer m = any_moved (Reconfigure to now c) (Reconfigures now c) answer m (changed to now c answer m)
  any_step (Restart to now) answer m =
      any_moved (Restart to now) (Restarts now) answer m
      (record {
        last = inr (refl, at_most m.new.last m.old.last now (ap (λ (x : State). x.last) m.moves.state));
        anew = λ start. ap (λ (x : State). x.last) m.moves.state;
        none_live = λ start p r until is clock. none p r until is clock;
        live = λ p r until is clock. absurd (none p r until is clock);
        looked = λ looks here p r until is clock. absurd (none p r until is clock);
        own = λ own p r is fixed.
            subst (λ (k : Config). At k.prefixes (p, r.tag)) (sym (ap (λ (x : State). x.config) m.moves.state)) (started_own m.old.config p r (held p r is));
      })
    where
      at_most : (t l n : ℕ) → t ≡ n → t ≤ max l n
      at_most t l n f = omega arith

      held : (p : Prefix6) (r : RouteValue) → map_of.get m.new.table p ≡ Some r → map_of.get (owned_table m.old.config) p ≡ Some r
      held p r is = ap (λ (x : State). map_of.get x.table p) (sym m.moves.state) ∙ is

      none : (p : Prefix6) (r : RouteValue) (until : ℕ) → map_of.get m.new.table p ≡ Some r → r.clock ≡ Live until → ⊥
      none p r until is clock = fixed_live until (sym (started_fixed m.old.config p r (held p r is)) ∙ clock)
