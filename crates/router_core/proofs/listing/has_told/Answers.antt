use Rattle.std.proofs.Common.{◌≡◌, ℕ, false, take, sym, ap, ◌∙◌, arith, ◌||◌}
use Rattle.std.specs.Prelude.{is_some}
use Rattle.std.specs.List.{list_any}
use Rattle.std.specs.FinMap.{entries}
use Rattle.route_table.specs.Due.{first_where}
use Rattle.route_table.specs.Summary.{meets}
use Rattle.route_table.specs.Table.{Table}
use Rattle.route_table.proofs.Walks.{list_any-next, list_any-found}
use Rattle.route_table.proofs.WalksWhere.{WalksWhere-entry, WalksWhere-next, WalksWhere-none, WalksWhere-end, PassesBy, none_by, take_whole}
use Rattle.router_core.specs.Settling.{told_route, may_be_told}
use Rattle.router_core.specs.declared.tell.Selection.{Selection}
use Rattle.router_core.proofs.DueRoutes.{told-table, not_told-test}
use Rattle.router_core.proofs.listing.has_told.Goals as goal

abbrev NoneOf : ℕ → Selection → Table → ℕ → Type 0
NoneOf now which t i = list_any (λ e. is_some (told_route now which e.1)) (take i (entries t)) ≡ false

by : (now : ℕ) (which : Selection) (t : Table) → PassesBy (meets (may_be_told now which)) t (NoneOf now which t)
by now which t = none_by (meets (may_be_told now which)) (λ e. is_some (told_route now which e.1)) t (not_told-test now which)

pub loop-preserved : goal.loop-preserved
loop-preserved g c =
    let t = g.S.RouteStore.table c.args.store.now in
    let m = WalksWhere-entry (meets (may_be_told c.args.now c.args.which)) t (NoneOf c.args.now c.args.which t) (by c.args.now c.args.which t) c.loop.invariant.walks (c.first_wanted.ensures ∙ ap (λ w. first_where (meets w) c.loop.after (entries t)) c.may_be_told-wanted.ensures) c.in-Some.is in
    record {
      walks = WalksWhere-next m (
          list_any-next (λ e. is_some (told_route c.args.now c.args.which e.1)) m.here
          ∙ ap (λ b. b || is_some (told_route c.args.now c.args.which c.in-Some.entry.1)) m.holds
          ∙ ap is_some (sym c.told_route.ensures) ∙ sym c.is_some.ensures ∙ c.if-is_some.false);
      end = c.loop.invariant.end;
    }

pub returns-then-is_some : goal.returns-then-is_some
returns-then-is_some g c =
    let t = g.S.RouteStore.table c.args.store.now in
    let m = WalksWhere-entry (meets (may_be_told c.args.now c.args.which)) t (NoneOf c.args.now c.args.which t) (by c.args.now c.args.which t) c.loop.invariant.walks (c.first_wanted.ensures ∙ ap (λ w. first_where (meets w) c.loop.after (entries t)) c.may_be_told-wanted.ensures) c.in-Some.is in
    sym (list_any-found (λ e. is_some (told_route c.args.now c.args.which e.1)) m.here (ap is_some (sym c.told_route.ensures) ∙ sym c.is_some.ensures ∙ c.if-is_some.true))
    ∙ told-table c.args.now c.args.which t

pub returns-in_default : goal.returns-in_default
returns-in_default g c =
    let t = g.S.RouteStore.table c.args.store.now in
    sym (WalksWhere-none (meets (may_be_told c.args.now c.args.which)) t (NoneOf c.args.now c.args.which t) (by c.args.now c.args.which t) c.loop.invariant.walks (c.first_wanted.ensures ∙ ap (λ w. first_where (meets w) c.loop.after (entries t)) c.may_be_told-wanted.ensures) c.in_default.is)
    ∙ take_whole (list_any (λ e. is_some (told_route c.args.now c.args.which e.1))) t
    ∙ told-table c.args.now c.args.which t

pub returns : goal.returns
returns g c =
    let t = g.S.RouteStore.table c.args.store.now in
    sym (WalksWhere-end (meets (may_be_told c.args.now c.args.which)) t (NoneOf c.args.now c.args.which t) (by c.args.now c.args.which t) c.loop.invariant.walks (omega (arith, c.loop.invariant.end, c.loop-test.false)))
    ∙ take_whole (list_any (λ e. is_some (told_route c.args.now c.args.which e.1))) t
    ∙ told-table c.args.now c.args.which t
