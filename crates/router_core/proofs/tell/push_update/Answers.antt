use Rattle.std.proofs.Common.{◌≡◌, ℕ, ◌<◌, [], T, take, ap, sym, ◌∙◌, arith}
use Rattle.std.specs.FinMap.{entries, is_sorted}
use Rattle.std.proofs.lemmas.List.{nil_from_length}
use Rattle.prefix6.specs.Prefix.{prefix_cmp}
use Rattle.ripng_wire.specs.Layout.{entries_for_mtu}
use Rattle.route_table.specs.Table.{Table, map_entries, past}
use Rattle.route_table.specs.Place.{Entries}
use Rattle.route_table.proofs.TableLaws.{is_sorted-map_entries}
use Rattle.router_core.specs.Announcing.{announced_of}
use Rattle.router_core.specs.Config.{Config, mtu_at}
use Rattle.router_core.specs.Settling.{told_route}
use Rattle.router_core.specs.declared.tell.Selection.{Selection}
use Rattle.router_core.proofs.AllTold.{IsTold-start, IsTold-next, IsTold-last, IsTold-end}
use Rattle.router_core.proofs.Announced.{announced_few, announced_sorted}
use Rattle.router_core.proofs.tell.push_update.Goals as goal

-- what the update tells on the interface, in the order of prefixes
abbrev all : Config → ℕ → ℕ → Selection → Table → Entries
all config iface now which t = map_entries (told_route now which) (announced_of config iface (entries t))

sorted : (config : Config) (iface now : ℕ) (which : Selection) (t : Table) → T (is_sorted prefix_cmp (all config iface now which t))
sorted config iface now which t = is_sorted-map_entries (told_route now which) (announced_of config iface (entries t)) (announced_sorted config iface t)

pub loop-done-init : goal.loop-done-init
loop-done-init g c =
    IsTold-start (mtu_at c.args.config.now c.args.iface) c.args.iface (all c.args.config.now c.args.iface c.args.now c.args.which (g.S.RouteStore.table c.args.store.now)) c.args.sends.now.items

pub loop-done-preserved : goal.loop-done-preserved
loop-done-preserved g c =
    let t = g.S.RouteStore.table c.args.store.now in
    let config = c.args.config.now in
    let iface = c.args.iface in
    let es = all config iface c.args.now c.args.which t in
    let room = c.entries_for_mtu-room.ensures.count ∙ ap entries_for_mtu c.mtu_at.ensures.value in
    let some : 0 < entries_for_mtu (mtu_at config iface) = omega (arith, room, c.entries_for_mtu-room.ensures.least) in
    IsTold-next (mtu_at config iface) iface some es (sorted config iface c.args.now c.args.which t)
    c.loop-done.after c.loop-done._done c.args.sends.now.items c.loop-done.sends.items c.loop-done.invariant
    c.in_ok-piece.piece.items c.in-Some.last.now c.push_piece.new.sends.items
    (c.in_ok-piece.ensures ∙ ap (λ n. take n (past c.loop-done.after es)) room)
    (sym (rw c.deref.ensures.value at c.in-Some.ensures.value))
    (rw c.deref-in-loop-done.ensures.value at c.in_ok-push_piece.ensures.spelled)
    c.in_ok-push_piece.ensures.one

pub returns-in_default-clause-spelled : goal.returns-in_default-clause-spelled
returns-in_default-clause-spelled g c =
    let t = g.S.RouteStore.table c.args.store.now in
    let config = c.args.config.now in
    let iface = c.args.iface in
    let es = all config iface c.args.now c.args.which t in
    let room = c.entries_for_mtu-room.ensures.count ∙ ap entries_for_mtu c.mtu_at.ensures.value in
    let some : 0 < entries_for_mtu (mtu_at config iface) = omega (arith, room, c.entries_for_mtu-room.ensures.least) in
    IsTold-last (mtu_at config iface) iface some es (sorted config iface c.args.now c.args.which t)
    c.loop-done.after c.loop-done._done c.args.sends.now.items c.loop-done.sends.items c.loop-done.invariant
    c.in_ok-piece.piece.items
    (c.in_ok-piece.ensures ∙ ap (λ n. take n (past c.loop-done.after es)) room)
    (sym (rw c.deref.ensures.value at c.in_default.ensures.value))

pub returns-in_default-clause-few : goal.returns-in_default-clause-few
returns-in_default-clause-few g c =
    omega (arith, c.loop-done.invariant.few, announced_few c.args.config.now c.args.iface c.args.now c.args.which (g.S.RouteStore.table c.args.store.now))

pub returns-clause-spelled : goal.returns-clause-spelled
returns-clause-spelled g c =
    let t = g.S.RouteStore.table c.args.store.now in
    let config = c.args.config.now in
    let iface = c.args.iface in
    let es : Entries = all config iface c.args.now c.args.which t in
    let room = c.entries_for_mtu-room.ensures.count ∙ ap entries_for_mtu c.mtu_at.ensures.value in
    let some : 0 < entries_for_mtu (mtu_at config iface) = omega (arith, room, c.entries_for_mtu-room.ensures.least) in
    let over = c.loop-done-test.false in
    let none : past c.loop-done.after es ≡ [] =
    nil_from_length (past c.loop-done.after es) (omega (arith, c.loop-done.invariant.left, over, c.len-done-end.ensures, announced_few config iface c.args.now c.args.which t)) in
    IsTold-end (mtu_at config iface) iface some es (sorted config iface c.args.now c.args.which t) c.loop-done.after c.loop-done._done c.args.sends.now.items c.loop-done.sends.items c.loop-done.invariant none

pub returns-clause-few : goal.returns-clause-few
returns-clause-few g c =
    omega (arith, c.loop-done.invariant.few, announced_few c.args.config.now c.args.iface c.args.now c.args.which (g.S.RouteStore.table c.args.store.now))
