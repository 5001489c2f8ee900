use Rattle.std.proofs.Common.{◌≡◌, ◌≢◌, List, All, refl, subst, ap, ◌∙◌}
use Rattle.std.specs.List.{Any}
use Rattle.router_core.specs.declared.answer.Answer.{Answer}
use Rattle.router_core.specs.declared.answer.Note.{Note}
use Rattle.router_core.specs.declared.answer.NoteKind.TheVariants.{NoMemory}
use Rattle.ripng_world.specs.AskedRounds.{delivery}
use Rattle.ripng_world.specs.Delivering.{WantsMemory}
use Rattle.ripng_world.specs.Watching.{heard, wanting}
use Rattle.ripng_world.specs.World.{World}
use Rattle.ripng_world.proofs.Delivered.{stopped_one, wanting_one}
use Rattle.ripng_world.proofs.Watched.{both_still, given_told, watched_one}
use Rattle.ripng_world.proofs.lab.Lab.deliver.Goals as goal

pub returns-then-wants_memory-clause-stopped : goal.returns-then-wants_memory-clause-stopped
returns-then-wants_memory-clause-stopped g c =
    let h = c.in-Ok.ensures.happens in
    let net = c.args.self.now.network in
    let before : World × _ = (c.args.self.now.world, c.args.watch.now) in
    let after : World × _ = (c.step_watched.new.self.world, c.step_watched.new.watch) in
    let e = delivery c.args.pair.now c.args.now in
    let wants : WantsMemory h.0 =
    subst (λ (ns : List Note). Any (λ n. n.kind ≡ NoMemory) ns) (c.as_slice.ensures ∙ ap (λ (a : Answer). a.notes) h.2) (c.wants_memory.ensures.found c.if-wants_memory.true) in
    wanting_one g.V.Observer.takes g.V.Observer.fails _ net e _ before after refl
    (watched_one g.V.Observer.takes wanting net e h.0 before after wants h.1 (given_told g.V.Observer.takes c.args.self.now c.step_watched.new.self e c.in-Ok.answer _ c.args.watch.now c.step_watched.new.watch h c.in-Ok.ensures.network refl c.in-Ok.ensures.told))

pub returns-in-Err-clause-stopped : goal.returns-in-Err-clause-stopped
returns-in-Err-clause-stopped g c =
    let why = c.in-Err.stopped in
    let before : World × _ = (c.args.self.now.world, c.args.watch.now) in
    let after : World × _ = (c.step_watched.new.self.world, c.step_watched.new.watch) in
    rw (c.refused_as.ensures)
    (stopped_one g.V.Observer.takes g.V.Observer.fails why _ c.args.self.now.network (delivery c.args.pair.now c.args.now) _ before after refl c.in-Err.ensures.stopped
    (both_still why c.args.self.now c.step_watched.new.self c.args.watch.now c.step_watched.new.watch c.in-Err.ensures.ends.unchanged c.in-Err.ensures.untold))

pub returns-clause-delivered : goal.returns-clause-delivered
returns-clause-delivered g c =
    let h = c.in-Ok.ensures.happens in
    let net = c.args.self.now.network in
    let before : World × _ = (c.args.self.now.world, c.args.watch.now) in
    let after : World × _ = (c.step_watched.new.self.world, c.step_watched.new.watch) in
    let e = delivery c.args.pair.now c.args.now in
    let fit : heard c.args.self.now.world e h.0 =
    subst (λ (ns : List Note). All (λ n. n.kind ≢ NoMemory) ns) (c.as_slice.ensures ∙ ap (λ (a : Answer). a.notes) h.2) (c.wants_memory.ensures.absent c.if-wants_memory.false) in
    watched_one g.V.Observer.takes heard net e h.0 before after fit h.1 (given_told g.V.Observer.takes c.args.self.now c.step_watched.new.self e c.in-Ok.answer _ c.args.watch.now c.step_watched.new.watch h c.in-Ok.ensures.network refl c.in-Ok.ensures.told)
