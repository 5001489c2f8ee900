use Rattle.std.proofs.Common.{rules, ◌≡◌, ◌+◌, true, false, drop, Some, None, slice_get, sym, ap, subst, ◌∙◌, arith, append-nil}
use Rattle.std.proofs.lemmas.Grind.{common_steps}
use Rattle.std.proofs.lemmas.Bool.Decides.{nat_tests}
use Rattle.ripng_wire.specs.Layout.{is_next_hop}
use Rattle.router_core.specs.Filters.{limit_at}
use Rattle.router_core.specs.Hearing.{hearing}
use Rattle.router_core.specs.Offers.{next_hop_at, usable_hop}
use Rattle.router_core.proofs.HearingLoop.{HeardBefore, heard_none, heard_all, next_hop_heard, offer_heard, refusal_heard}
use Rattle.router_core.proofs.NextHops.{next_hop_set, next_hop_kept, first_left, none_left}
use Rattle.router_core.proofs.hear.hear.Goals as goal

pub loop-place-init : goal.loop-place-init
loop-place-init g c =
    let iterator = c.into_iter-place-iterator.ensures.into_iter_gives in
    let items = c.enumerate-place-items.ensures in
    let count : c.into_iter-place-iterator.result.count ≡ 0 = ap (λ s. s.count) iterator ∙ items.count in
    let iface_is = ap (λ x. x.iface) c.gateway.view_is in
    record {
      next = search rules;
      ends = search;
      left = ap (λ k. drop k c.args.entries) count ∙ sym (ap (λ s. s.iter) iterator ∙ items.source);
      within = omega (arith, count);
      heard = rw (c.requires.no_notes, c.requires.no_changes, count) (heard_none _ _ _ _ _ (rw (c.new-quota.ensures.limit, iface_is) at c.new-quota.ensures.held));
      limit = c.new-quota.ensures.limit ∙ ap (limit_at c.args.config.now) iface_is;
      hop = ap (λ x. x.from) c.gateway.view_is ∙ sym (ap (next_hop_at c.args.config.now c.args.gateway.now.from c.args.entries) count);
      notes_few = grind (arith, common_steps, c.requires.no_notes);
      notes_room = c.requires.notes_room;
      changes_few = grind (arith, common_steps, c.requires.no_changes);
      changes_room = c.requires.changes_room;
    }

pub loop-place-preserved-then-entry : goal.loop-place-preserved-then-entry
loop-place-preserved-then-entry g c =
    let inv = c.loop-place.invariant in
    let steps = c.in-Some.ensures.steps in
    let first = first_left c.args.entries c.loop-place.place-iterator.count c.in-Some.entry c.next.new.self.iter (inv.left ∙ steps.0) in
    let more : c.next.new.self.count ≡ c.in-Some.place + 1 = omega (arith, steps.1, steps.2) in
    let found : slice_get c.args.entries c.in-Some.place ≡ Some c.in-Some.entry = ap (slice_get c.args.entries) steps.1 ∙ first.0 in
    let heard = subst (λ k. HeardBefore (hearing c.args.config.now c.args.gateway.now c.args.entries (g.S.RouteStore.table c.args.store.now) c.loop-place.notes.items) (g.S.RouteStore.table c.loop-place.store) c.loop-place.changes.items c.loop-place.quota.held k) (sym steps.1) inv.heard in
    let hop : is_next_hop c.in-Some.entry ≡ true = grind (arith, nat_tests, c.if-entry.true) in
    record {
      next = search rules;
      ends = search;
      left = ap (λ k. drop k c.args.entries) steps.2 ∙ first.1;
      within = omega (arith, steps.2, first.2);
      heard = rw more (next_hop_heard _ _ _ _ c.in-Some.place c.in-Some.entry found _ _ _ _ heard hop);
      limit = inv.limit;
      hop = c.usable_hop-next_hop.ensures ∙ ap (λ x. usable_hop c.args.config.now x.from (Some c.in-Some.entry)) c.gateway.view_is
          ∙ sym (ap (next_hop_at c.args.config.now c.args.gateway.now.from c.args.entries) more ∙ next_hop_set c.args.config.now c.args.gateway.now.from c.args.entries c.in-Some.place c.in-Some.entry found hop);
      notes_few = omega (arith, steps.2, inv.notes_few);
      notes_room = inv.notes_room;
      changes_few = omega (arith, steps.2, inv.changes_few);
      changes_room = inv.changes_room;
    }

pub loop-place-preserved-in-Ok-None : goal.loop-place-preserved-in-Ok-None
loop-place-preserved-in-Ok-None g c =
    let inv = c.loop-place.invariant in
    let steps = c.in-Some.ensures.steps in
    let first = first_left c.args.entries c.loop-place.place-iterator.count c.in-Some.entry c.next.new.self.iter (inv.left ∙ steps.0) in
    let more : c.next.new.self.count ≡ c.in-Some.place + 1 = omega (arith, steps.1, steps.2) in
    let found : slice_get c.args.entries c.in-Some.place ≡ Some c.in-Some.entry = ap (slice_get c.args.entries) steps.1 ∙ first.0 in
    let heard = subst (λ k. HeardBefore (hearing c.args.config.now c.args.gateway.now c.args.entries (g.S.RouteStore.table c.args.store.now) c.loop-place.notes.items) (g.S.RouteStore.table c.loop-place.store) c.loop-place.changes.items c.loop-place.quota.held k) (sym steps.1) inv.heard in
    let not_hop : is_next_hop c.in-Some.entry ≡ false = grind (arith, nat_tests, c.if-entry.false) in
    let hop_is = inv.hop ∙ ap (next_hop_at c.args.config.now c.args.gateway.now.from c.args.entries) (sym steps.1) in
    let hop_stays = hop_is ∙ sym (ap (next_hop_at c.args.config.now c.args.gateway.now.from c.args.entries) more ∙ next_hop_kept c.args.config.now c.args.gateway.now.from c.args.entries c.in-Some.place c.in-Some.entry found not_hop) in
    let e = c.in-Ok-None.ensures in
    record {
      next = search rules;
      ends = search;
      left = ap (λ k. drop k c.args.entries) steps.2 ∙ first.1;
      within = omega (arith, steps.2, first.2);
      heard = rw more (subst (λ cs. HeardBefore (hearing c.args.config.now c.args.gateway.now c.args.entries (g.S.RouteStore.table c.args.store.now) c.loop-place.notes.items) (g.S.RouteStore.table c.hear_entry.new.store) cs c.hear_entry.new.quota.held (c.in-Some.place + 1)) (append-nil c.loop-place.changes.items)
          (offer_heard _ _ _ _ c.in-Some.place c.in-Some.entry found _ _ _ _ heard not_hop c.loop-place.next_hop hop_is e.sound e.taken e.room None (sym c.in-Ok-None.field-0-is ∙ e.change) _ e.table _ (rw inv.limit at e.counted)));
      limit = e.limit ∙ inv.limit;
      hop = hop_stays;
      notes_few = omega (arith, steps.2, inv.notes_few);
      notes_room = inv.notes_room;
      changes_few = omega (arith, steps.2, inv.changes_few);
      changes_room = inv.changes_room;
    }

pub loop-place-preserved-in-Ok-Some : goal.loop-place-preserved-in-Ok-Some
loop-place-preserved-in-Ok-Some g c =
    let inv = c.loop-place.invariant in
    let steps = c.in-Some.ensures.steps in
    let first = first_left c.args.entries c.loop-place.place-iterator.count c.in-Some.entry c.next.new.self.iter (inv.left ∙ steps.0) in
    let more : c.next.new.self.count ≡ c.in-Some.place + 1 = omega (arith, steps.1, steps.2) in
    let found : slice_get c.args.entries c.in-Some.place ≡ Some c.in-Some.entry = ap (slice_get c.args.entries) steps.1 ∙ first.0 in
    let heard = subst (λ k. HeardBefore (hearing c.args.config.now c.args.gateway.now c.args.entries (g.S.RouteStore.table c.args.store.now) c.loop-place.notes.items) (g.S.RouteStore.table c.loop-place.store) c.loop-place.changes.items c.loop-place.quota.held k) (sym steps.1) inv.heard in
    let not_hop : is_next_hop c.in-Some.entry ≡ false = grind (arith, nat_tests, c.if-entry.false) in
    let hop_is = inv.hop ∙ ap (next_hop_at c.args.config.now c.args.gateway.now.from c.args.entries) (sym steps.1) in
    let hop_stays = hop_is ∙ sym (ap (next_hop_at c.args.config.now c.args.gateway.now.from c.args.entries) more ∙ next_hop_kept c.args.config.now c.args.gateway.now.from c.args.entries c.in-Some.place c.in-Some.entry found not_hop) in
    let e = c.in-Ok-Some.ensures in
    let pushed = c.push_reserved.ensures in
    record {
      next = search rules;
      ends = search;
      left = ap (λ k. drop k c.args.entries) steps.2 ∙ first.1;
      within = omega (arith, steps.2, first.2);
      heard = rw (more, pushed.items) (offer_heard _ _ _ _ c.in-Some.place c.in-Some.entry found _ _ _ _ heard not_hop c.loop-place.next_hop hop_is e.sound e.taken e.room (Some c.in-Ok-Some.change) (sym c.in-Ok-Some.field-0-is ∙ e.change) _ e.table _ (rw inv.limit at e.counted));
      limit = e.limit ∙ inv.limit;
      hop = hop_stays;
      notes_few = omega (arith, steps.2, inv.notes_few);
      notes_room = inv.notes_room;
      changes_few = omega (arith, steps.2, inv.changes_few, pushed.len);
      changes_room = rw pushed.capacity inv.changes_room;
    }

pub loop-place-preserved : goal.loop-place-preserved
loop-place-preserved g c =
    let inv = c.loop-place.invariant in
    let steps = c.in-Some.ensures.steps in
    let first = first_left c.args.entries c.loop-place.place-iterator.count c.in-Some.entry c.next.new.self.iter (inv.left ∙ steps.0) in
    let more : c.next.new.self.count ≡ c.in-Some.place + 1 = omega (arith, steps.1, steps.2) in
    let found : slice_get c.args.entries c.in-Some.place ≡ Some c.in-Some.entry = ap (slice_get c.args.entries) steps.1 ∙ first.0 in
    let heard = subst (λ k. HeardBefore (hearing c.args.config.now c.args.gateway.now c.args.entries (g.S.RouteStore.table c.args.store.now) c.loop-place.notes.items) (g.S.RouteStore.table c.loop-place.store) c.loop-place.changes.items c.loop-place.quota.held k) (sym steps.1) inv.heard in
    let not_hop : is_next_hop c.in-Some.entry ≡ false = grind (arith, nat_tests, c.if-entry.false) in
    let hop_is = inv.hop ∙ ap (next_hop_at c.args.config.now c.args.gateway.now.from c.args.entries) (sym steps.1) in
    let hop_stays = hop_is ∙ sym (ap (next_hop_at c.args.config.now c.args.gateway.now.from c.args.entries) more ∙ next_hop_kept c.args.config.now c.args.gateway.now.from c.args.entries c.in-Some.place c.in-Some.entry found not_hop) in
    let e = c.in-Err.ensures in
    let pushed = c.push_reserved-in-Err.ensures in
    record {
      next = search rules;
      ends = search;
      left = ap (λ k. drop k c.args.entries) steps.2 ∙ first.1;
      within = omega (arith, steps.2, first.2);
      heard = rw (more, pushed.items, e.uncounted) (refusal_heard _ _ _ _ c.in-Some.place c.in-Some.entry found _ _ _ _ heard not_hop c.loop-place.next_hop hop_is c.in-Err.kind _ e.kept e.refusal e.new);
      limit = e.limit ∙ inv.limit;
      hop = hop_stays;
      notes_few = omega (arith, steps.2, inv.notes_few, pushed.len);
      notes_room = rw pushed.capacity inv.notes_room;
      changes_few = omega (arith, steps.2, inv.changes_few);
      changes_room = inv.changes_room;
    }

pub returns-clause-heard : goal.returns-clause-heard
returns-clause-heard g c =
    let inv = c.loop-place.invariant in
    let steps = c.in-None.ensures.steps in
    (heard_all _ _ _ _ _ (none_left c.args.entries c.loop-place.place-iterator.count inv.within (inv.left ∙ steps.0.0)) inv.heard).0

pub returns-clause-changed : goal.returns-clause-changed
returns-clause-changed g c =
    let inv = c.loop-place.invariant in
    let steps = c.in-None.ensures.steps in
    (heard_all _ _ _ _ _ (none_left c.args.entries c.loop-place.place-iterator.count inv.within (inv.left ∙ steps.0.0)) inv.heard).1
