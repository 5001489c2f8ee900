use Rattle.std.specs.Option.{option_copied}
use Rattle.std.proofs.Common.{◌≡◌, ◌∙◌, ap, Option, Some, None, Result, IfSome, IsNone, IfOk, IfErr, Err, ok_or, refl, sym, subst}
use Rattle.fib.specs.Forwarding.{IsLongestMatch}
use Rattle.router_core.specs.Changes.{forwards}
use Rattle.ripng_world.specs.Packets.{ForwardsBy, forwardings_of}
use Rattle.ripng_world.specs.Path.{EndsAt}
use Rattle.ripng_world.specs.declared.path.PathEnd.TheVariants.{NextHopIsNobodys, NoRoute}
use Rattle.ripng_world.proofs.PathNeighbors.{forwards_by, hands_on, no_match, no_router, to_nobody}
use Rattle.ripng_world.proofs.StationMoves.{err_is}
use Rattle.ripng_world.proofs.running.Running.hand_on.Goals as goal

-- no router, or no match
ended : {X E : Type 0} (o : Option X) (e why : E) → Err why ≡ ok_or o e → (o ≡ None) × (why ≡ e)
ended None e why is = (refl, cc)
ended (Some x) e why is = absurd (cc)

pub returns-in_err-here-clause-end : goal.returns-in_err-here-clause-end
returns-in_err-here-clause-end g c =
    let w = c.args.self.now.world in
    let x = ended c.router.result NoRoute c.in_err-here.field-0.0 c.in_err-here.ensures.value in
    err_is c.from_residual.result _ _
    (λ why is. subst (EndsAt c.args.self.now.network (forwardings_of w) c.args.addr c.args.router) (sym (is ∙ x.1)) (no_router w c.args.addr c.args.router (ap option_copied (sym x.0) ∙ c.router.ensures)))
    c.from_residual.ensures.1

pub returns-in_err-ok_or-clause-end : goal.returns-in_err-ok_or-clause-end
returns-in_err-ok_or-clause-end g c =
    let w = c.args.self.now.world in
    let x = ended c.longest_match.result NoRoute c.in_err-ok_or.field-0.0 c.in_err-ok_or.ensures.value in
    err_is c.from_residual-in_err-ok_or.result _ _
    (λ why is. subst (EndsAt c.args.self.now.network (forwardings_of w) c.args.addr c.args.router) (sym (is ∙ x.1))
    (no_match w c.args.addr c.args.router _ (ap option_copied (sym c.in_ok-here.ensures.ok_part) ∙ c.router.ensures) (g.S.RouteStore.table c.routes.result.now) c.routes.ensures
    (c.longest_match.ensures.none (subst IsNone (sym x.0) refl))))
    c.from_residual-in_err-ok_or.ensures.1

pub returns-in-Direct-clause-end : goal.returns-in-Direct-clause-end
returns-in-Direct-clause-end g c =
    let w = c.args.self.now.world in
    let table = g.S.RouteStore.table c.routes.result.now in
    let found = subst (λ o. IfSome o (IsLongestMatch (forwards table) c.args.addr)) c.in_ok-ok_or.ensures.ok_part c.longest_match.ensures.found in
    subst (ForwardsBy (forwardings_of w) c.args.addr c.args.router) c.in-Direct.is
    (forwards_by w c.args.addr c.args.router _ (ap option_copied (sym c.in_ok-here.ensures.ok_part) ∙ c.router.ensures) table c.routes.ensures _ found)

-- what an answer that stands for none says
hop_of : {X E : Type 0} (o : Option X) (e : E) (r : Result X E) (P Q : X → Type 0) → r ≡ ok_or o e → ((x : X) → P x → Q x) → IfSome o P → IfOk r Q
hop_of None e r P Q is step h = subst (λ s. IfOk s Q) (sym is) tt
hop_of (Some x) e r P Q is step h = subst (λ s. IfOk s Q) (sym is) (step x h)

end_of : {X E : Type 0} (o : Option X) (e : E) (r : Result X E) (Q : E → Type 0) → r ≡ ok_or o e → (IsNone o → Q e) → IfErr r Q
end_of None e r Q is none = subst (λ s. IfErr s Q) (sym is) (none refl)
end_of (Some x) e r Q is none = subst (λ s. IfErr s Q) (sym is) tt

pub returns-in-Via-clause-hop : goal.returns-in-Via-clause-hop
returns-in-Via-clause-hop g c =
    let w = c.args.self.now.world in
    let fibs = forwardings_of w in
    let table = g.S.RouteStore.table c.routes.result.now in
    let found = subst (λ o. IfSome o (IsLongestMatch (forwards table) c.args.addr)) c.in_ok-ok_or.ensures.ok_part c.longest_match.ensures.found in
    let by = subst (ForwardsBy fibs c.args.addr c.args.router) c.in-Via.is
    (forwards_by w c.args.addr c.args.router _ (ap option_copied (sym c.in_ok-here.ensures.ok_part) ∙ c.router.ensures) table c.routes.ensures _ found) in
    hop_of c.neighbor.result NextHopIsNobodys c.ok_or-in-Via.result _ _ c.ok_or-in-Via.ensures.value
    (λ hop leads. hands_on c.args.self.now.network fibs c.args.addr c.args.router c.in-Via.iface c.in-Via.next_hop hop by leads) c.neighbor.ensures.found

pub returns-in-Via-clause-end : goal.returns-in-Via-clause-end
returns-in-Via-clause-end g c =
    let w = c.args.self.now.world in
    let fibs = forwardings_of w in
    let table = g.S.RouteStore.table c.routes.result.now in
    let found = subst (λ o. IfSome o (IsLongestMatch (forwards table) c.args.addr)) c.in_ok-ok_or.ensures.ok_part c.longest_match.ensures.found in
    let by = subst (ForwardsBy fibs c.args.addr c.args.router) c.in-Via.is
    (forwards_by w c.args.addr c.args.router _ (ap option_copied (sym c.in_ok-here.ensures.ok_part) ∙ c.router.ensures) table c.routes.ensures _ found) in
    end_of c.neighbor.result NextHopIsNobodys c.ok_or-in-Via.result _ c.ok_or-in-Via.ensures.value
    (λ none. to_nobody c.args.self.now.network fibs c.args.addr c.args.router c.in-Via.iface c.in-Via.next_hop by (c.neighbor.ensures.none none))
