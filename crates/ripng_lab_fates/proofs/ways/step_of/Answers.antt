use Rattle.std.proofs.Common.{◌∙◌, List, ap, slice_get, sym}
use Rattle.std.specs.Option.{option_copied}
use Rattle.ripng_world.specs.Packets.{forwardings_of}
use Rattle.ripng_world.specs.Walks.{Hop}
use Rattle.ripng_lab_fates.proofs.Steps.{ends_here}
use Rattle.ripng_lab_fates.proofs.ways.step_of.Goals as goal

pub returns : goal.returns
returns c =
    ends_here c.args.lab.now.network (forwardings_of c.args.lab.now.world) c.args.addr c.args.router c.path-2.inside.hops.items c.path-2.inside.end c.in-Ok.path
    c.path-2.view_is c.in-Ok.ensures.path
    (ap (λ (hops : List Hop). slice_get hops 0) (sym c.deref.ensures.value) ∙ sym c.first.ensures.value ∙ ap option_copied c.in-None.is)
