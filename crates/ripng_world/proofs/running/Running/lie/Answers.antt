use Rattle.std.proofs.Common.{sym, subst}
use Rattle.std.proofs.lemmas.Result.{IfOk-weaker}
use Rattle.router_core.specs.Received.{Received}
use Rattle.ripng_world.specs.Labs.{Acts}
use Rattle.ripng_world.specs.World.{Stranger}
use Rattle.ripng_world.proofs.StationMoves.{lied}
use Rattle.ripng_world.proofs.running.Running.lie.Goals as goal

pub returns-clause-lies : goal.returns-clause-lies
returns-clause-lies g c =
    let lab = c.args.self.now in
    IfOk-weaker c.act.result _ _
    (λ answer acts. lied lab answer c.act.new.self.world c.args.router c.args.arrival.now (sym c.in_ok-check_lie.ensures)
    (subst (λ (x : Received). Acts lab (Stranger c.args.router x) answer c.act.new.self.world) c.arrival.view_is acts)) c.act.ensures.acts
