use Rattle.std.proofs.Common.{◌≡◌, ◌+◌, ◌++◌, ℕ, List, take, Option, sym, ◌∙◌, arith, Some, filter_map}
use Rattle.std.proofs.lemmas.List.{append-nil}
use Rattle.std.specs.Option.{option_to_list}
use Rattle.route_table.proofs.Walks.{IsEntryAt, filter_map-next, filter_map-found}
use Rattle.route_table.proofs.WalksWhere.{WalksWhere-entry, WalksWhere-next, WalksWhere-none, WalksWhere-end, PassesBy, listed_by, take_whole}
use Rattle.route_table.specs.Due.{is_due}
use Rattle.router_core.proofs.DueRoutes.{change-kept}
use Rattle.prefix6.specs.Prefix.{Prefix6}
use Rattle.fib.specs.declared.change.RouteChange.{RouteChange}
use Rattle.route_table.specs.Route.{RouteValue}
use Rattle.route_table.specs.Table.{Table}
use Rattle.std.specs.FinMap.{entries}
use Rattle.router_core.specs.Ageing.{aged}
use Rattle.router_core.specs.Changes.{change}
use Rattle.router_core.proofs.ticking.changes_of_ageing.Goals as goal
use Rattle.router_core.proofs.ticking.changes_of_ageing.Goals.{in-Some-change_of_ageing+in_ok-push, in_default-change_of_ageing}

abbrev change_at : ℕ → Prefix6 × RouteValue → Option RouteChange
change_at now t = change t.0 (Some t.1) (aged now t.1)

-- the list with the change at one more entry
listed_next : (now : ℕ) {t : Table} {k : ℕ} {e : Prefix6 × RouteValue} (listed : List RouteChange) (o : Option RouteChange) → IsEntryAt t k e
    → listed ≡ filter_map (change_at now) (take k (entries t)) → o ≡ change_at now e
    → listed ++ option_to_list o ≡ filter_map (change_at now) (take (k + 1) (entries t))
listed_next now {t = t} {k = k} listed o here is made = rw (is, made) (sym (filter_map-next (change_at now) here))

-- the changes of the first entries are listed
abbrev Listed : ℕ → Table → List RouteChange → ℕ → Type 0
Listed now t listed i = listed ≡ filter_map (change_at now) (take i (entries t))

-- a route that is not due has none
by : (now : ℕ) (t : Table) (listed : List RouteChange) → PassesBy (is_due now) t (Listed now t listed)
by now t listed = listed_by (is_due now) (change_at now) t (change-kept now) listed

pub loop-preserved : goal.loop-preserved
loop-preserved g c =
    let t = g.S.RouteStore.table c.args.store.now in
    let listed = c.loop.changes.items in
    let m = WalksWhere-entry (is_due c.args.now) t (Listed c.args.now t listed) (by c.args.now t listed) c.loop.invariant.walks c.walk_due.ensures c.in-Some.is in
    record {
      walks = WalksWhere-next m (
          let more = listed_next c.args.now listed c.change_of_ageing.result m.here m.holds c.change_of_ageing.ensures in
          elim c.match-change_of_ageing.branch [
            | in-Some-change_of_ageing+in_ok-push w ↦ rw (w.changes-is, w.in_ok-push.ensures.items) (rw w.in-Some-change_of_ageing.is at more)
            | in_default-change_of_ageing w ↦ rw w.changes-is (sym (append-nil _) ∙ (rw w.in_default-change_of_ageing.is at more))
          ]);
      end = c.loop.invariant.end;
    }

pub returns-in_err-push-clause-idle_is_free : goal.returns-in_err-push-clause-idle_is_free
returns-in_err-push-clause-idle_is_free g c =
    let t = g.S.RouteStore.table c.args.store.now in
    let listed = c.loop.changes.items in
    let m = WalksWhere-entry (is_due c.args.now) t (Listed c.args.now t listed) (by c.args.now t listed) c.loop.invariant.walks c.walk_due.ensures c.in-Some.is in
    λ none. absurd (filter_map-found (change_at c.args.now) m.here (sym c.change_of_ageing.ensures ∙ c.in-Some-change_of_ageing.is) none)

pub returns-in_default-clause-listed : goal.returns-in_default-clause-listed
returns-in_default-clause-listed g c =
    let t = g.S.RouteStore.table c.args.store.now in
    let listed = c.loop.changes.items in
    WalksWhere-none (is_due c.args.now) t (Listed c.args.now t listed) (by c.args.now t listed) c.loop.invariant.walks c.walk_due.ensures c.in_default.is
    ∙ take_whole (filter_map (change_at c.args.now)) t

pub returns-clause-listed : goal.returns-clause-listed
returns-clause-listed g c =
    let t = g.S.RouteStore.table c.args.store.now in
    let listed = c.loop.changes.items in
    WalksWhere-end (is_due c.args.now) t (Listed c.args.now t listed) (by c.args.now t listed) c.loop.invariant.walks (omega (arith, c.loop.invariant.end, c.loop-test.false))
    ∙ take_whole (filter_map (change_at c.args.now)) t
