use Rattle.std.proofs.Common.{◌≡◌, []}
use Rattle.ripng_world.specs.Labs.{HasNoneBelowLeast, HasNoneBelowLeastSince}
use Rattle.ripng_world.specs.Past.{IsTableBackedSince}
use Rattle.ripng_world.specs.Walks.{IsTableBacked}
use Rattle.ripng_world.specs.World.{past_of}
use Rattle.ripng_world.proofs.LabRuns.{backed, least, fixed, if_found}
use Rattle.ripng_world.proofs.lab.Lab.router.Goals as goal

pub returns-clause-backed : goal.returns-clause-backed
returns-clause-backed g c =
    let l = c.self.inside.running in
    rw (← c.self.view_is) (if_found c.router.result _ (λ s. IsTableBackedSince (past_of l.network l.world) c.args.router s.table) c.router.ensures (backed _ _ c.self.invariant c.args.router))

pub returns-clause-least : goal.returns-clause-least
returns-clause-least g c =
    let l = c.self.inside.running in
    rw (← c.self.view_is) (if_found c.router.result _ (HasNoneBelowLeastSince l.network l.world c.args.router) c.router.ensures (least _ _ c.self.invariant c.args.router))

pub returns-clause-fixed_backed : goal.returns-clause-fixed_backed
returns-clause-fixed_backed g c =
    let l = c.self.inside.running in
    rw (← c.self.view_is)
    (if_found c.router.result _ (λ s. l.world.reconfigurations ≡ [] → IsTableBacked l.network c.args.router s.table) c.router.ensures
    (λ s here unchanged. (fixed _ _ c.self.invariant).backed unchanged c.args.router s here))

pub returns-clause-fixed_least : goal.returns-clause-fixed_least
returns-clause-fixed_least g c =
    let l = c.self.inside.running in
    rw (← c.self.view_is)
    (if_found c.router.result _ (λ s. l.world.reconfigurations ≡ [] → HasNoneBelowLeast l.network c.args.router s) c.router.ensures
    (λ s here unchanged. (fixed _ _ c.self.invariant).least unchanged c.args.router s here))
