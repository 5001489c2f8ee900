use Rattle.std.proofs.Common.{◌≡◌, ◌+◌, ◌++◌, ℕ, List, take, Option, sym, ◌∙◌, arith, Some, filter_map, true, false}
use Rattle.std.proofs.lemmas.List.{append-nil}
use Rattle.std.specs.Option.{option_to_list}
use Rattle.route_table.proofs.Walks.{IsEntryAt, filter_map-next}
use Rattle.route_table.proofs.WalksWhere.{WalksWhere-entry, WalksWhere-next, WalksWhere-none, WalksWhere-end, PassesBy, take_whole}
use Rattle.prefix6.specs.Prefix.{Prefix6}
use Rattle.fib.specs.declared.change.RouteChange.{RouteChange}
use Rattle.route_table.specs.Route.{RouteValue}
use Rattle.route_table.specs.Table.{Table}
use Rattle.std.specs.FinMap.{entries}
use Rattle.router_core.specs.LinkDown.{after_link_down}
use Rattle.router_core.specs.Changes.{change}
use Rattle.router_core.proofs.AllRoutes.{any_route}
use Rattle.router_core.proofs.link_down.changes_of_link_down.Goals as goal
use Rattle.router_core.proofs.link_down.changes_of_link_down.Goals.{in-Some-change_of_link_down+in_ok-push, in_default-change_of_link_down}

abbrev change_at : ℕ → ℕ → Prefix6 × RouteValue → Option RouteChange
change_at iface now t = change t.0 (Some t.1) (Some (after_link_down iface now t.1))

-- the list with the change at one more entry
listed_next : (iface now : ℕ) {t : Table} {k : ℕ} {e : Prefix6 × RouteValue} (listed : List RouteChange) (o : Option RouteChange) → IsEntryAt t k e
    → listed ≡ filter_map (change_at iface now) (take k (entries t)) → o ≡ change_at iface now e
    → listed ++ option_to_list o ≡ filter_map (change_at iface now) (take (k + 1) (entries t))
listed_next iface now {t = t} {k = k} listed o here is made = rw (is, made) (sym (filter_map-next (change_at iface now) here))

-- the changes of the first entries are listed
abbrev Listed : ℕ → ℕ → Table → List RouteChange → ℕ → Type 0
Listed iface now t listed i = listed ≡ filter_map (change_at iface now) (take i (entries t))

-- no route is passed by
by : (iface now : ℕ) (t : Table) (listed : List RouteChange) → PassesBy any_route t (Listed iface now t listed)
by iface now t listed i d here fails is = absurd (true_false fails)
  where
    true_false : true ≡ false → ⊥
    true_false e = cc

pub loop-preserved : goal.loop-preserved
loop-preserved g c =
    let t = g.S.RouteStore.table c.args.store.now in
    let listed = c.loop.changes.items in
    let m = WalksWhere-entry any_route t (Listed c.args.iface c.args.now t listed) (by c.args.iface c.args.now t listed) c.loop.invariant.walks c.walk.ensures c.in-Some.is in
    record {
      walks = WalksWhere-next m (
          let more = listed_next c.args.iface c.args.now listed c.change_of_link_down.result m.here m.holds c.change_of_link_down.ensures in
          elim c.match-change_of_link_down.branch [
            | in-Some-change_of_link_down+in_ok-push w ↦ rw (w.changes-is, w.in_ok-push.ensures.items) (rw w.in-Some-change_of_link_down.is at more)
            | in_default-change_of_link_down w ↦ rw w.changes-is (sym (append-nil _) ∙ (rw w.in_default-change_of_link_down.is at more))
          ]);
      end = c.loop.invariant.end;
    }

pub returns-in_default : goal.returns-in_default
returns-in_default g c =
    let t = g.S.RouteStore.table c.args.store.now in
    let listed = c.loop.changes.items in
    WalksWhere-none any_route t (Listed c.args.iface c.args.now t listed) (by c.args.iface c.args.now t listed) c.loop.invariant.walks c.walk.ensures c.in_default.is
    ∙ take_whole (filter_map (change_at c.args.iface c.args.now)) t

pub returns : goal.returns
returns g c =
    let t = g.S.RouteStore.table c.args.store.now in
    let listed = c.loop.changes.items in
    WalksWhere-end any_route t (Listed c.args.iface c.args.now t listed) (by c.args.iface c.args.now t listed) c.loop.invariant.walks (omega (arith, c.loop.invariant.end, c.loop-test.false))
    ∙ take_whole (filter_map (change_at c.args.iface c.args.now)) t
