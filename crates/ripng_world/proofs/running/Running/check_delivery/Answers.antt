use Rattle.std.proofs.Common.{◌≡◌, ◌<◌, ◌≤◌, ◌==◌, Some, None, true, false, List, length, slice_get, sym, ap, subst, refl, ◌∙◌, arith}
use Rattle.std.proofs.lemmas.Bool.Decides.{nat_tests}
use Rattle.std.proofs.lemmas.Option.{slice_get-get_or}
use Rattle.ripng_world.specs.declared.event.Sent.{Sent}
use Rattle.ripng_world.proofs.Refusals.{no_datagram, delivery_tested}
use Rattle.ripng_world.proofs.running.Running.check_delivery.Goals as goal

pub returns-in_default : goal.returns-in_default
returns-in_default g c = λ now.
    no_datagram c.args.self.now c.args.router c.args.iface c.in_ok-link.ensures.fault c.args.datagram now (subst (λ (ds : List Sent). length ds ≤ c.args.datagram) c.sent.ensures c.in_default.ensures.lookup.3)

pub returns-in-Some-link : goal.returns-in-Some-link
returns-in-Some-link g c = λ now.
    let d = c.in-Some.datagram.now in
    let few = subst (λ (ds : List Sent). c.args.datagram < length ds) c.sent.ensures c.in-Some.ensures.lookup.3.0 in
    let here = subst (λ (ds : List Sent). slice_get ds c.args.datagram ≡ Some d) c.sent.ensures
    (slice_get-get_or c.sent.result.now c.args.datagram d c.in-Some.ensures.lookup.3.0 ∙ ap Some (sym c.in-Some.ensures.lookup.1)) in
    let one : (c.in-Some-link.own == c.in_ok-link.link) ≡ true = grind (arith, nat_tests, c.if-own-link.true) in
    delivery_tested c.args.self.now c.args.router c.args.iface c.in_ok-link.ensures.fault c.args.datagram now d (Some c.in-Some-link.own) c.in_ok-link.link few here
    (sym c.in-Some-link.ensures) c.in_ok-link.ensures.link true one

pub returns-in_default-link : goal.returns-in_default-link
returns-in_default-link g c = λ now.
    let d = c.in-Some.datagram.now in
    let few = subst (λ (ds : List Sent). c.args.datagram < length ds) c.sent.ensures c.in-Some.ensures.lookup.3.0 in
    let here = subst (λ (ds : List Sent). slice_get ds c.args.datagram ≡ Some d) c.sent.ensures
    (slice_get-get_or c.sent.result.now c.args.datagram d c.in-Some.ensures.lookup.3.0 ∙ ap Some (sym c.in-Some.ensures.lookup.1)) in
    let two : (c.in-Some-link.own == c.in_ok-link.link) ≡ false = grind (arith, nat_tests, c.if-own-link.false) in
    delivery_tested c.args.self.now c.args.router c.args.iface c.in_ok-link.ensures.fault c.args.datagram now d (Some c.in-Some-link.own) c.in_ok-link.link few here
    (sym c.in-Some-link.ensures) c.in_ok-link.ensures.link false two

pub returns-in_default-link-2 : goal.returns-in_default-link-2
returns-in_default-link-2 g c = λ now.
    let d = c.in-Some.datagram.now in
    let few = subst (λ (ds : List Sent). c.args.datagram < length ds) c.sent.ensures c.in-Some.ensures.lookup.3.0 in
    let here = subst (λ (ds : List Sent). slice_get ds c.args.datagram ≡ Some d) c.sent.ensures
    (slice_get-get_or c.sent.result.now c.args.datagram d c.in-Some.ensures.lookup.3.0 ∙ ap Some (sym c.in-Some.ensures.lookup.1)) in
    delivery_tested c.args.self.now c.args.router c.args.iface c.in_ok-link.ensures.fault c.args.datagram now d None c.in_ok-link.link few here
    (sym c.in_default-link.ensures) c.in_ok-link.ensures.link false refl
