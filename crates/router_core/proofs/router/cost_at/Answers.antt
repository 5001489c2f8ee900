use Rattle.router_core.proofs.RouterSteps.{cost_of}
use Rattle.router_core.proofs.router.cost_at.Goals as goal

pub returns : goal.returns
returns c =
    let h = cost_of c.args.config.now c.interfaces.ensures.lawful c.interfaces.result.now c.args.iface c.index-interfaces-iface.result c.interfaces.ensures.value c.requires c.index-interfaces-iface.is in
    record { value = h.0; usable = h.1 }
