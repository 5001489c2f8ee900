use Rattle.std.proofs.Common.{◌≡◌, ◌∙◌, ap}
use Rattle.ripng_world.specs.Labs.{LabValue}
use Rattle.ripng_world.specs.Linked.{interfaces_on}
use Rattle.ripng_world.proofs.Linking.{lists_of}
use Rattle.ripng_world.proofs.running.Running.interfaces_on.Goals as goal

pub returns : goal.returns
returns g c = c.on.ensures ∙ lists_of _ c.self.inside.links c.self.invariant c.args.link ∙ ap (λ (l : LabValue). interfaces_on l.network c.args.link) c.self.view_is
