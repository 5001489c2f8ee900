use Rattle.std.proofs.Common.{◌≡◌, ◌≤◌, ◌↔◌, Err, IfOk, length, subst}
use Rattle.std.proofs.lemmas.Result.{IfOk-weaker}
use Rattle.ripng_world.specs.Healing.{network_now}
use Rattle.ripng_world.specs.Labs.{LabValue}
use Rattle.ripng_world.specs.Packets.{forwardings_of}
use Rattle.ripng_world.specs.Path.{IsPath}
use Rattle.ripng_world.specs.World.{past_of}
use Rattle.ripng_world.specs.declared.event.LabError.TheVariants.{NoSuchRouter}
use Rattle.ripng_world.proofs.NetworkNow.{now_alike}
use Rattle.ripng_world.proofs.PathAlike.{path_alike}
use Rattle.ripng_world.proofs.lab.Lab.path.Goals as goal

pub returns-clause-path : goal.returns-clause-path
returns-clause-path g c =
    let lab = c.args.self.now in
    let now = network_now (past_of lab.network lab.world) in
    IfOk-weaker c.path.result _ (IsPath now (forwardings_of lab.world) c.args.addr c.args.router)
    (λ path is. path_alike lab.network now (now_alike lab.world.reconfigurations lab.network) (forwardings_of lab.world) c.args.addr c.args.router path is)
    (subst (λ (l : LabValue). IfOk c.path.result (IsPath l.network (forwardings_of l.world) c.args.addr c.args.router)) c.running.ensures c.path.ensures.path)

pub returns-clause-missing : goal.returns-clause-missing
returns-clause-missing g c = subst (λ (l : LabValue). (c.path.result ≡ Err NoSuchRouter) ↔ (length l.network ≤ c.args.router)) c.running.ensures c.path.ensures.missing
