use Rattle.std.proofs.Common.{List, subst}
use Rattle.std.specs.Prelude.{IfErr, OnOk}
use Rattle.ripng_world.specs.AskedRounds.{pairs_since}
use Rattle.ripng_world.specs.Delivering.{deliveries_since}
use Rattle.ripng_world.specs.Watching.{HeardInPart, WatchedRun, heard}
use Rattle.ripng_world.specs.World.{Event}
use Rattle.ripng_world.proofs.AskedSynchronous.{on_ok, since_still}
use Rattle.ripng_world.proofs.Delivered.{heard_part, none_asked, stop_at}
use Rattle.ripng_world.proofs.Watched.{map_err, watched_run}
use Rattle.ripng_world.proofs.LabRuns.{keeps}
use Rattle.ripng_world.proofs.lab.Lab.deliver_since_watched.Goals as goal

pub returns-clause-told : goal.returns-clause-told
returns-clause-told g c =
    subst (λ (es : List Event). OnOk c.deliver_asked-outcome.result (WatchedRun g.V.Observer.takes heard c.args.self.now.network (c.args.self.now.world, c.args.watch.now) es (c.deliver_asked-outcome.new.self.world, c.deliver_asked-outcome.new.watch)))
    (none_asked (pairs_since c.args.self.now.network c.args.first c.args.self.now.world.sent) c.args.now) c.deliver_asked-outcome.ensures.delivered

pub returns-clause-told_in_part : goal.returns-clause-told_in_part
returns-clause-told_in_part g c =
    let stopped = subst (λ (es : List Event). IfErr c.deliver_asked-outcome.result (λ why. HeardInPart g.V.Observer.takes g.V.Observer.fails why c.args.self.now.network (c.args.self.now.world, c.args.watch.now) es (c.deliver_asked-outcome.new.self.world, c.deliver_asked-outcome.new.watch)))
    (none_asked (pairs_since c.args.self.now.network c.args.first c.args.self.now.world.sent) c.args.now) c.deliver_asked-outcome.ensures.stopped in
    map_err c.deliver_asked-outcome.result _ _
    (λ why. heard_part g.V.Observer.takes g.V.Observer.fails why c.args.self.now.network (deliveries_since c.args.self.now.network c.args.first c.args.self.now.world.sent c.args.now) (c.args.self.now.world, c.args.watch.now) (c.deliver_asked-outcome.new.self.world, c.deliver_asked-outcome.new.watch))
    stopped

pub returns-clause-delivered : goal.returns-clause-delivered
returns-clause-delivered g c =
    on_ok c.deliver_asked-outcome.result _ _
    (watched_run g.V.Observer.takes heard c.args.self.now.network (deliveries_since c.args.self.now.network c.args.first c.args.self.now.world.sent c.args.now) (c.args.self.now.world, c.args.watch.now) (c.deliver_asked-outcome.new.self.world, c.deliver_asked-outcome.new.watch))
    (returns-clause-told g c)

pub returns-clause-stopped : goal.returns-clause-stopped
returns-clause-stopped g c =
    let stopped = subst (λ (es : List Event). IfErr c.deliver_asked-outcome.result (λ why. HeardInPart g.V.Observer.takes g.V.Observer.fails why c.args.self.now.network (c.args.self.now.world, c.args.watch.now) es (c.deliver_asked-outcome.new.self.world, c.deliver_asked-outcome.new.watch)))
    (none_asked (pairs_since c.args.self.now.network c.args.first c.args.self.now.world.sent) c.args.now) c.deliver_asked-outcome.ensures.stopped in
    map_err c.deliver_asked-outcome.result _ _
    (λ why. stop_at g.V.Observer.takes g.V.Observer.fails why c.args.self.now.network (deliveries_since c.args.self.now.network c.args.first c.args.self.now.world.sent c.args.now) (c.args.self.now.world, c.args.watch.now) (c.deliver_asked-outcome.new.self.world, c.deliver_asked-outcome.new.watch))
    stopped

pub returns-clause-reconfigurations : goal.returns-clause-reconfigurations
returns-clause-reconfigurations g c =
    let net = c.args.self.now.network in
    since_still net (pairs_since net c.args.first c.args.self.now.world.sent) c.args.now c.args.self.now.world c.deliver_asked-outcome.new.self.world c.deliver_asked-outcome.result
    (returns-clause-delivered g c) (returns-clause-stopped g c)

pub returns-clause-keeps : goal.returns-clause-keeps
returns-clause-keeps g c = rw (← c.self.view_is) (keeps _ c.self.invariant)
