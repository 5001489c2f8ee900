use Rattle.std.proofs.Common.{◌≡◌, ◌↔◌, ◌<◌, ℕ, max, subst, sym}
use Rattle.router_core.specs.Waking.{IsIdle, or_earlier, wakes_at}
use Rattle.router_core.proofs.Waking.{idle_is_before, woken, woken_by_update}
use Rattle.router_core.proofs.router.Router.wakes_at.Goals as goal

pub returns-then-ages_by-clause-idle : goal.returns-then-ages_by-clause-idle
returns-then-ages_by-clause-idle g c = λ now word answer new moves.
    let s = c.args.self.now in
    let update_is : c.or_earlier-update.result ≡ or_earlier s.regular c.triggered_at.result = rw (← c.self.view_is) c.or_earlier-update.ensures in
    let value : c.or_earlier.result ≡ wakes_at s = woken s c.or_earlier-update.result c.triggered_at.result c.triggered_at.ensures update_is c.or_earlier.result c.ages_at.result c.ages_at.ensures c.or_earlier.ensures in
    subst (λ (n : ℕ). IsIdle s (max s.last now) answer new ↔ (max s.last now < n)) (sym value)
    (idle_is_before s (max s.last now) word answer new moves)

pub returns-else-ages_by-clause-idle : goal.returns-else-ages_by-clause-idle
returns-else-ages_by-clause-idle g c = λ now word answer new moves.
    let s = c.args.self.now in
    let update_is : c.or_earlier-update.result ≡ or_earlier s.regular c.triggered_at.result = rw (← c.self.view_is) c.or_earlier-update.ensures in
    let value : c.or_earlier-update.result ≡ wakes_at s = woken_by_update s c.or_earlier-update.result c.triggered_at.result c.triggered_at.ensures update_is (c.ages_by.ensures c.if-ages_by.false) in
    subst (λ (n : ℕ). IsIdle s (max s.last now) answer new ↔ (max s.last now < n)) (sym value)
    (idle_is_before s (max s.last now) word answer new moves)
