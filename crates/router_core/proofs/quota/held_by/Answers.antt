use Rattle.std.proofs.Common.{◌≡◌, ◌+◌, ℕ, Bool, true, false, cond, take, count_by, Some, sym, ap, ap₂, ◌∙◌, arith, add-one, add-zero}
use Rattle.std.specs.FinMap.{entries}
use Rattle.std.proofs.lemmas.List.Sums.{fold_push}
use Rattle.prefix6.specs.Prefix.{Prefix6}
use Rattle.route_table.specs.Route.{RouteValue}
use Rattle.route_table.specs.Table.{Table}
use Rattle.route_table.proofs.Walks.{IsEntryAt}
use Rattle.route_table.proofs.WalksWhere.{WalksWhere-entry, WalksWhere-next, WalksWhere-none, WalksWhere-end, PassesBy, take_whole}
use Rattle.router_core.specs.Output.{is_learned_on}
use Rattle.router_core.proofs.AllRoutes.{any_route}
use Rattle.router_core.proofs.HearingSteps.{take_push}
use Rattle.router_core.proofs.quota.held_by.Goals as goal
use Rattle.router_core.proofs.quota.held_by.Goals.{then-is_learned_on, else-is_learned_on}

abbrev is_here : ℕ → Prefix6 × RouteValue → Bool
is_here iface e = is_learned_on iface e.1.origin

-- so many of the first routes go by way of the interface
abbrev Counted : ℕ → Table → ℕ → ℕ → Type 0
Counted iface t held i = held ≡ count_by (is_here iface) (take i (entries t))

-- one route more
counted_next : (iface held : ℕ) {t : Table} {k : ℕ} {e : Prefix6 × RouteValue} → Counted iface t held k → IsEntryAt t k e → (b : Bool) → is_learned_on iface e.1.origin ≡ b
    → Counted iface t (held + cond b 1 0) (k + 1)
counted_next iface held {t = t} {k = k} {e = e} counted here b is =
    ap₂ (λ n c. n + cond c 1 0) counted (sym is)
    ∙ sym (ap (λ n. count_by (is_here iface) (take n (entries t))) (add-one k)
    ∙ ap (count_by (is_here iface)) (take_push (entries t) k e here.is)
    ∙ fold_push (λ n x. n + cond (is_here iface x) 1 0) 0 (take k (entries t)) e)

-- and none more
counted_same : (iface held : ℕ) (t : Table) (k : ℕ) → Counted iface t (held + 0) k → Counted iface t held k
counted_same iface held t k counted = sym (add-zero held) ∙ counted

-- no route is passed by
by : (iface : ℕ) (t : Table) (held : ℕ) → PassesBy any_route t (Counted iface t held)
by iface t held i d here fails is = absurd (true_false fails)
  where
    true_false : true ≡ false → ⊥
    true_false e = cc

pub loop-preserved : goal.loop-preserved
loop-preserved g c =
    let t = g.S.RouteStore.table c.args.store.now in
    let iface = c.args.iface in
    let held = c.loop.held in
    let m = WalksWhere-entry any_route t (Counted iface t held) (by iface t held) c.loop.invariant.walks c.walk.ensures c.in-Some.is in
    let origin = c.is_learned_on.ensures ∙ ap (is_learned_on iface) c.origin.ensures.value in
    record {
      walks = WalksWhere-next m (elim c.if-is_learned_on.branch [
        | then-is_learned_on w ↦ rw w.held-is (counted_next iface held m.holds m.here true (sym origin ∙ w.if-is_learned_on.true))
        | else-is_learned_on w ↦ rw w.held-is (counted_same iface held t (m.place + 1) (counted_next iface held m.holds m.here false (sym origin ∙ w.if-is_learned_on.false)))
      ]);
      end = c.loop.invariant.end;
      few = elim c.if-is_learned_on.branch [
        | then-is_learned_on w ↦ omega (arith, w.held-is, c.loop.invariant.few)
        | else-is_learned_on w ↦ omega (arith, w.held-is, c.loop.invariant.few)
      ];
    }

pub returns-in_default : goal.returns-in_default
returns-in_default g c =
    let t = g.S.RouteStore.table c.args.store.now in
    WalksWhere-none any_route t (Counted c.args.iface t c.loop.held) (by c.args.iface t c.loop.held) c.loop.invariant.walks c.walk.ensures c.in_default.is
    ∙ take_whole (count_by (is_here c.args.iface)) t

pub returns : goal.returns
returns g c =
    let t = g.S.RouteStore.table c.args.store.now in
    WalksWhere-end any_route t (Counted c.args.iface t c.loop.held) (by c.args.iface t c.loop.held) c.loop.invariant.walks (omega (arith, c.loop.invariant.end, c.loop-test.false))
    ∙ take_whole (count_by (is_here c.args.iface)) t
