use Rattle.std.proofs.Common.{rules, ◌≡◌, ◌+◌, ◌++◌, [], ◌∷◌, true, false, drop, Some, slice_get, sym, ap, ap₂, ◌∙◌, arith}
use Rattle.std.proofs.lemmas.Bool.Decides.{nat_tests}
use Rattle.ripng_wire.specs.Layout.{is_next_hop}
use Rattle.router_core.specs.Adoption.{Gateway}
use Rattle.router_core.specs.Offering.{Offered}
use Rattle.router_core.specs.Offers.{next_hop_at, usable_hop}
use Rattle.router_core.proofs.NextHops.{next_hop_set, next_hop_kept, first_left, none_left}
use Rattle.router_core.proofs.OfferedSteps.{offered_before, offered_all, offered-hop, offered-flawed, offered-next}
use Rattle.router_core.proofs.offered.all_offered.Goals as goal

pub loop-place-init : goal.loop-place-init
loop-place-init c =
    let iterator = c.into_iter-place-iterator.ensures.into_iter_gives in
    let items = c.enumerate-place-items.ensures in
    let count : c.into_iter-place-iterator.result.count ≡ 0 = ap (λ s. s.count) iterator ∙ items.count in
    record {
      next = search rules;
      ends = search;
      left = ap (λ k. drop k c.args.entries) count ∙ sym (ap (λ s. s.iter) iterator ∙ items.source);
      within = omega (arith, count);
      hop = ap (λ x. x.from) c.gateway.view_is ∙ sym (ap (next_hop_at c.args.config.now c.args.gateway.now.from c.args.entries) count);
      made = c.in_ok-all.ensures.items ∙ sym (ap (offered_before c.args.config.now c.args.gateway.now c.args.entries) count);
    }

pub loop-place-preserved-then-entry : goal.loop-place-preserved-then-entry
loop-place-preserved-then-entry c =
    let inv = c.loop-place.invariant in
    let steps = c.in-Some.ensures.steps in
    let first = first_left c.args.entries c.loop-place.place-iterator.count c.in-Some.entry c.next.new.self.iter (inv.left ∙ steps.0) in
    let more : c.next.new.self.count ≡ c.in-Some.place + 1 = omega (arith, steps.1, steps.2) in
    let found : slice_get c.args.entries c.in-Some.place ≡ Some c.in-Some.entry = ap (slice_get c.args.entries) steps.1 ∙ first.0 in
    let hop : is_next_hop c.in-Some.entry ≡ true = grind (arith, nat_tests, c.if-entry.true) in
    record {
      next = search rules;
      ends = search;
      left = ap (λ k. drop k c.args.entries) steps.2 ∙ first.1;
      within = omega (arith, steps.2, first.2);
      hop = c.usable_hop-next_hop.ensures ∙ ap (λ x. usable_hop c.args.config.now x.from (Some c.in-Some.entry)) c.gateway.view_is
          ∙ sym (ap (next_hop_at c.args.config.now c.args.gateway.now.from c.args.entries) more ∙ next_hop_set c.args.config.now c.args.gateway.now.from c.args.entries c.in-Some.place c.in-Some.entry found hop);
      made = inv.made ∙ ap (offered_before c.args.config.now c.args.gateway.now c.args.entries) (sym steps.1)
          ∙ sym (ap (offered_before c.args.config.now c.args.gateway.now c.args.entries) more ∙ offered-hop c.args.config.now c.args.gateway.now c.args.entries c.in-Some.place c.in-Some.entry found hop);
    }

pub loop-place-preserved-in_default : goal.loop-place-preserved-in_default
loop-place-preserved-in_default c =
    let inv = c.loop-place.invariant in
    let steps = c.in-Some.ensures.steps in
    let first = first_left c.args.entries c.loop-place.place-iterator.count c.in-Some.entry c.next.new.self.iter (inv.left ∙ steps.0) in
    let more : c.next.new.self.count ≡ c.in-Some.place + 1 = omega (arith, steps.1, steps.2) in
    let found : slice_get c.args.entries c.in-Some.place ≡ Some c.in-Some.entry = ap (slice_get c.args.entries) steps.1 ∙ first.0 in
    let not_hop : is_next_hop c.in-Some.entry ≡ false = grind (arith, nat_tests, c.if-entry.false) in
    let hop_is = inv.hop ∙ ap (next_hop_at c.args.config.now c.args.gateway.now.from c.args.entries) (sym steps.1) in
    record {
      next = search rules;
      ends = search;
      left = ap (λ k. drop k c.args.entries) steps.2 ∙ first.1;
      within = omega (arith, steps.2, first.2);
      hop = hop_is ∙ sym (ap (next_hop_at c.args.config.now c.args.gateway.now.from c.args.entries) more ∙ next_hop_kept c.args.config.now c.args.gateway.now.from c.args.entries c.in-Some.place c.in-Some.entry found not_hop);
      made = inv.made ∙ ap (offered_before c.args.config.now c.args.gateway.now c.args.entries) (sym steps.1)
          ∙ sym (ap (offered_before c.args.config.now c.args.gateway.now c.args.entries) more ∙ offered-flawed c.args.config.now c.args.gateway.now c.args.entries c.in-Some.place c.in-Some.entry found c.in_default.field-0 (sym c.in_default.ensures.flaw) not_hop);
    }

pub loop-place-preserved : goal.loop-place-preserved
loop-place-preserved c =
    let inv = c.loop-place.invariant in
    let steps = c.in-Some.ensures.steps in
    let first = first_left c.args.entries c.loop-place.place-iterator.count c.in-Some.entry c.next.new.self.iter (inv.left ∙ steps.0) in
    let more : c.next.new.self.count ≡ c.in-Some.place + 1 = omega (arith, steps.1, steps.2) in
    let found : slice_get c.args.entries c.in-Some.place ≡ Some c.in-Some.entry = ap (slice_get c.args.entries) steps.1 ∙ first.0 in
    let not_hop : is_next_hop c.in-Some.entry ≡ false = grind (arith, nat_tests, c.if-entry.false) in
    let hop_is = inv.hop ∙ ap (next_hop_at c.args.config.now c.args.gateway.now.from c.args.entries) (sym steps.1) in
    let g = c.args.gateway.now in
    let e = c.in-Some.entry in
    record {
      next = search rules;
      ends = search;
      left = ap (λ k. drop k c.args.entries) steps.2 ∙ first.1;
      within = omega (arith, steps.2, first.2);
      hop = hop_is ∙ sym (ap (next_hop_at c.args.config.now c.args.gateway.now.from c.args.entries) more ∙ next_hop_kept c.args.config.now c.args.gateway.now.from c.args.entries c.in-Some.place c.in-Some.entry found not_hop);
      made = c.in_ok-push.ensures.items
          ∙ ap₂ (λ l (o : Offered). l ++ o ∷ [])
          (inv.made ∙ ap (offered_before c.args.config.now c.args.gateway.now c.args.entries) (sym steps.1))
          (ap (λ (x : Gateway). record { gateway = x; prefix = c.in-Ok.prefix; offer = record { metric = e.metric; tag = e.tag; next_hop = c.loop-place.next_hop; place = c.in-Some.place } }) c.gateway.view_is
          ∙ ap₂ (λ p h. record { gateway = g; prefix = p; offer = record { metric = e.metric; tag = e.tag; next_hop = h; place = c.in-Some.place } }) c.in-Ok.ensures.prefix hop_is)
          ∙ sym (ap (offered_before c.args.config.now c.args.gateway.now c.args.entries) more ∙ offered-next c.args.config.now c.args.gateway.now c.args.entries c.in-Some.place c.in-Some.entry found not_hop (sym c.in-Ok.ensures.flaw));
    }

pub returns : goal.returns
returns c =
    let inv = c.loop-place.invariant in
    let steps = c.in-None.ensures.steps in
    inv.made ∙ offered_all c.args.config.now c.args.gateway.now c.args.entries c.loop-place.place-iterator.count (none_left c.args.entries c.loop-place.place-iterator.count inv.within (inv.left ∙ steps.0.0))
