use Rattle.std.proofs.Common.{arith, refl, sym, ap, ◌∙◌, ◌≡◌, ◌++◌, ◌∷◌, [], List, cond, subst, append_assoc, append-nil}
use Rattle.std.specs.Result.{is_ok}
use Rattle.std.proofs.lemmas.List.{nil_from_length}
use Rattle.std.specs.Vec.Iter.{into_iter_items}
use Rattle.router_core.specs.declared.answer.Outgoing.{Outgoing}
use Rattle.ripngd_engine.specs.Outlet.{HandsOver}
use Rattle.ripngd_engine.specs.Run.{counted}
use Rattle.ripngd_engine.proofs.Tells.{HandsOver-nil, HandsOver-more}
use Rattle.ripngd_engine.proofs.outlet.hand_over.Goals as goal
use Rattle.ripngd_engine.proofs.outlet.hand_over.Goals.{then-not-went, else-not-went}

pub loop-outgoing-init : goal.loop-outgoing-init
loop-outgoing-init g c = record { can_next = tt; is_finite = tt; done = []; all = refl; hands = HandsOver-nil _ _ _ _; same = refl }

pub loop-outgoing-preserved : goal.loop-outgoing-preserved
loop-outgoing-preserved g c =
    let done = c.loop-outgoing.invariant.done in
    let rest = into_iter_items c.next.new.self in
    let hands = c.loop-outgoing.invariant.hands in
    let count : c.if-not-went.total ≡ counted c.loop-outgoing.total (cond (is_ok c.send.result) 0 1) =
    elim c.if-not-went.branch [
      | then-not-went w ↦ rw (← c.is_ok-went.ensures.value, w.if-not-went.true) (omega (arith, w.total-is, w.one_more-total.ensures))
      | else-not-went w ↦ rw (← c.is_ok-went.ensures.value, w.if-not-went.false) (omega (arith, w.total-is, hands.count))
    ] in
    record {
      can_next = tt;
      is_finite = tt;
      done = done ++ c.in-Some.outgoing ∷ [];
      all = append_assoc done (c.in-Some.outgoing ∷ []) rest ∙ ap (λ (l : List Outgoing). done ++ l) (sym c.in-Some.ensures.steps.0) ∙ c.loop-outgoing.invariant.all;
      hands = HandsOver-more _ _ _ _ _ _ _ _ _ _ _ _ _ hands c.send.ensures.gained (rw c.is_ok-went.ensures.value at c.sent.ensures) count;
      same = c.send.ensures.same ∙ c.loop-outgoing.invariant.same;
    }

pub returns-clause-hands : goal.returns-clause-hands
returns-clause-hands g c =
    let done = c.loop-outgoing.invariant.done in
    let left = into_iter_items c.loop-outgoing.outgoing-iterator in
    let none : left ≡ [] = nil_from_length left (sym c.loop-outgoing.outgoing-iterator.rest.ok.0 ∙ c.in-None.ensures.steps.0) in
    let all : done ≡ c.args.sends =
    sym (append-nil done) ∙ ap (λ (l : List Outgoing). done ++ l) (sym none) ∙ c.loop-outgoing.invariant.all ∙ c.into_iter-outgoing-iterator.ensures.into_iter_gives.0 ∙ c.into_vec-outgoing-items.ensures in
    subst (λ (ds : List Outgoing). HandsOver g.V.TrafficObserver.takes c.args.observer.now c.loop-outgoing.observer (g.L.Link.calls c.args.link.now) (g.L.Link.calls c.loop-outgoing.link) ds c.args.lost c.loop-outgoing.total) all c.loop-outgoing.invariant.hands
