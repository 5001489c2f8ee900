use Rattle.std.proofs.Common.{◌≡◌, ◌≢◌, [], ◌∷◌, List, All, refl, subst, ap, ◌∙◌, le_refl}
use Rattle.std.specs.List.{Any}
use Rattle.router_core.specs.declared.answer.Answer.{Answer}
use Rattle.router_core.specs.declared.answer.Note.{Note}
use Rattle.router_core.specs.declared.answer.NoteKind.TheVariants.{NoMemory}
use Rattle.ripng_world.specs.Delivering.{WantsMemory}
use Rattle.ripng_world.specs.Events.{event_of}
use Rattle.ripng_world.specs.Watching.{heard, wanting}
use Rattle.ripng_world.specs.World.{World}
use Rattle.ripng_world.proofs.Watched.{both_still, given_told, watched_one}
use Rattle.ripng_world.specs.declared.watch.Stopped.TheVariants.{Refused}
use Rattle.ripng_clock.specs.Passing.{IsLast}
use Rattle.ripng_clock.specs.declared.refused.RunRefused.TheVariants.{OutOfMemory}
use Rattle.ripng_clock.proofs.Passing.{stopped_at}
use Rattle.ripng_clock.proofs.acting.occur.Goals as goal

pub returns-then-wants_memory-clause-stopped : goal.returns-then-wants_memory-clause-stopped
returns-then-wants_memory-clause-stopped g c =
    let old = g.L.Runs.value c.args.lab.now in
    let new = g.L.Runs.value c.step_watched.new.self in
    let h = c.in-Ok.ensures.happens in
    let net = old.network in
    let before : World × _ = (old.world, c.args.watch.now) in
    let after : World × _ = (new.world, c.step_watched.new.watch) in
    let e = event_of c.args.event.now in
    let wants : WantsMemory h.0 =
    subst (λ (ns : List Note). Any (λ n. n.kind ≡ NoMemory) ns) (c.as_slice.ensures ∙ ap (λ (a : Answer). a.notes) h.2) (c.wants_memory.ensures.found c.if-wants_memory.true) in
    let stops : IsLast g.V.Observer.takes g.V.Observer.fails (λ x. x ≡ e) net before (Refused OutOfMemory) after =
    record {
      last = e ∷ [];
      only = (refl, tt);
      ends = (le_refl 1, watched_one g.V.Observer.takes wanting net e h.0 before after wants h.1 (given_told g.V.Observer.takes old new e c.in-Ok.answer _ c.args.watch.now c.step_watched.new.watch h c.in-Ok.ensures.network refl c.in-Ok.ensures.told));
    } in
    stops

pub returns-in-Err-clause-stopped : goal.returns-in-Err-clause-stopped
returns-in-Err-clause-stopped g c =
    let old = g.L.Runs.value c.args.lab.now in
    let new = g.L.Runs.value c.step_watched.new.self in
    let why = c.in-Err.stopped in
    let before : World × _ = (old.world, c.args.watch.now) in
    let after : World × _ = (new.world, c.step_watched.new.watch) in
    rw (c.refused_as.ensures)
    (stopped_at g.V.Observer.takes g.V.Observer.fails why OutOfMemory old.network (event_of c.args.event.now) before after c.in-Err.ensures.stopped
    (both_still why old new c.args.watch.now c.step_watched.new.watch c.in-Err.ensures.ends.unchanged c.in-Err.ensures.untold))

pub returns-clause-done : goal.returns-clause-done
returns-clause-done g c =
    let old = g.L.Runs.value c.args.lab.now in
    let new = g.L.Runs.value c.step_watched.new.self in
    let h = c.in-Ok.ensures.happens in
    let net = old.network in
    let before : World × _ = (old.world, c.args.watch.now) in
    let after : World × _ = (new.world, c.step_watched.new.watch) in
    let e = event_of c.args.event.now in
    let fit : heard old.world e h.0 =
    subst (λ (ns : List Note). All (λ n. n.kind ≢ NoMemory) ns) (c.as_slice.ensures ∙ ap (λ (a : Answer). a.notes) h.2) (c.wants_memory.ensures.absent c.if-wants_memory.false) in
    watched_one g.V.Observer.takes heard net e h.0 before after fit h.1 (given_told g.V.Observer.takes old new e c.in-Ok.answer _ c.args.watch.now c.step_watched.new.watch h c.in-Ok.ensures.network refl c.in-Ok.ensures.told)
