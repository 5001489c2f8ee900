use Rattle.std.proofs.Common.{◌≡◌, ℕ, false, take, sym, ap, ◌∙◌, arith, ◌||◌}
use Rattle.std.specs.List.{list_any}
use Rattle.std.specs.FinMap.{entries}
use Rattle.route_table.specs.Due.{first_where}
use Rattle.route_table.specs.Summary.{meets}
use Rattle.route_table.specs.Table.{Table}
use Rattle.route_table.proofs.Walks.{list_any-next, list_any-found}
use Rattle.route_table.proofs.WalksWhere.{WalksWhere-entry, WalksWhere-next, WalksWhere-none, WalksWhere-end, PassesBy, none_by, take_whole}
use Rattle.router_core.specs.Config.{Config}
use Rattle.router_core.specs.Settling.{may_be_told}
use Rattle.router_core.specs.declared.tell.Selection.{Selection}
use Rattle.router_core.proofs.Announced.{is_told_on, announced_any, not_told_on}
use Rattle.router_core.proofs.listing.has_announced.Goals as goal

abbrev NoneOf : Config → ℕ → ℕ → Selection → Table → ℕ → Type 0
NoneOf config iface now which t i = list_any (is_told_on config iface now which) (take i (entries t)) ≡ false

by : (config : Config) (iface now : ℕ) (which : Selection) (t : Table) → PassesBy (meets (may_be_told now which)) t (NoneOf config iface now which t)
by config iface now which t = none_by (meets (may_be_told now which)) (is_told_on config iface now which) t (not_told_on config iface now which)

pub loop-preserved : goal.loop-preserved
loop-preserved g c =
    let t = g.S.RouteStore.table c.args.store.now in
    let config = c.args.config.now in
    let tests = is_told_on config c.args.iface c.args.now c.args.which in
    let m = WalksWhere-entry (meets (may_be_told c.args.now c.args.which)) t (NoneOf config c.args.iface c.args.now c.args.which t) (by config c.args.iface c.args.now c.args.which t) c.loop.invariant.walks (c.first_wanted.ensures ∙ ap (λ w. first_where (meets w) c.loop.after (entries t)) c.may_be_told-wanted.ensures) c.in-Some.is in
    record {
      walks = WalksWhere-next m (
          list_any-next tests m.here
          ∙ ap (λ b. b || tests c.in-Some.entry) m.holds
          ∙ sym c.is_told_on.ensures ∙ c.if-is_told_on.false);
      end = c.loop.invariant.end;
    }

pub returns-then-is_told_on : goal.returns-then-is_told_on
returns-then-is_told_on g c =
    let t = g.S.RouteStore.table c.args.store.now in
    let config = c.args.config.now in
    let m = WalksWhere-entry (meets (may_be_told c.args.now c.args.which)) t (NoneOf config c.args.iface c.args.now c.args.which t) (by config c.args.iface c.args.now c.args.which t) c.loop.invariant.walks (c.first_wanted.ensures ∙ ap (λ w. first_where (meets w) c.loop.after (entries t)) c.may_be_told-wanted.ensures) c.in-Some.is in
    sym (list_any-found (is_told_on config c.args.iface c.args.now c.args.which) m.here (sym c.is_told_on.ensures ∙ c.if-is_told_on.true))
    ∙ announced_any config c.args.iface c.args.now c.args.which t

pub returns-in_default : goal.returns-in_default
returns-in_default g c =
    let t = g.S.RouteStore.table c.args.store.now in
    let config = c.args.config.now in
    sym (WalksWhere-none (meets (may_be_told c.args.now c.args.which)) t (NoneOf config c.args.iface c.args.now c.args.which t) (by config c.args.iface c.args.now c.args.which t) c.loop.invariant.walks (c.first_wanted.ensures ∙ ap (λ w. first_where (meets w) c.loop.after (entries t)) c.may_be_told-wanted.ensures) c.in_default.is)
    ∙ take_whole (list_any (is_told_on config c.args.iface c.args.now c.args.which)) t
    ∙ announced_any config c.args.iface c.args.now c.args.which t

pub returns : goal.returns
returns g c =
    let t = g.S.RouteStore.table c.args.store.now in
    let config = c.args.config.now in
    sym (WalksWhere-end (meets (may_be_told c.args.now c.args.which)) t (NoneOf config c.args.iface c.args.now c.args.which t) (by config c.args.iface c.args.now c.args.which t) c.loop.invariant.walks (omega (arith, c.loop.invariant.end, c.loop-test.false)))
    ∙ take_whole (list_any (is_told_on config c.args.iface c.args.now c.args.which)) t
    ∙ announced_any config c.args.iface c.args.now c.args.which t
