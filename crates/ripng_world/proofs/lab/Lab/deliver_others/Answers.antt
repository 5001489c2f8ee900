use Rattle.std.proofs.Common.{ℕ, Bool, get_or, false, ap, refl, ◌∙◌}
use Rattle.std.proofs.lemmas.List.{get_or_default}
use Rattle.ripng_world.specs.Labs.{LabValue}
use Rattle.ripng_world.specs.World.{World}
use Rattle.ripng_world.specs.declared.lab.delivering.Pair.{Pair}
use Rattle.ripng_world.proofs.Delivered.{others_next, others_skip, others_stop}
use Rattle.ripng_world.proofs.Watched.{handed_on}
use Rattle.ripng_world.proofs.lab.Lab.deliver_others.Goals.{then-not-picked-place+in_ok-deliver, else-not-picked-place}
use Rattle.ripng_world.proofs.lab.Lab.deliver_others.Goals as goal

abbrev nobody : Pair
nobody = record { datagram = 0; router = 0; iface = 0 }

pub returns-in_err-deliver-clause-stopped : goal.returns-in_err-deliver-clause-stopped
returns-in_err-deliver-clause-stopped g c =
    let pairs = c.args.pairs.now in
    let i = c.loop-place.place in
    let x = get_or pairs i nobody in
    handed_on c.from_residual.result c.in_err-deliver.field-0.0 _ c.from_residual.ensures.1
    (others_stop g.V.Observer.takes c.args.self.now.network c.loop-place.self.network (c.args.self.now.world, c.args.watch.now) (c.loop-place.self.world, c.loop-place.watch) (c.deliver.new.self.world, c.deliver.new.watch) c.loop-place.invariant.network pairs (λ k. get_or c.args.picked.now k false) c.args.rest i x
    c.loop-place-test.true (get_or_default pairs i nobody x c.loop-place-test.true) c.loop-place.invariant.delivered g.V.Observer.fails c.in_err-deliver.field-0.0 c.if-not-picked-place.true c.in_err-deliver.ensures.stopped)

pub loop-place-preserved : goal.loop-place-preserved
loop-place-preserved g c =
    let net = c.args.self.now.network in
    let w : World × _ = (c.args.self.now.world, c.args.watch.now) in
    let pairs = c.args.pairs.now in
    let flags : ℕ → Bool = λ k. get_or c.args.picked.now k false in
    let i = c.loop-place.place in
    let x = get_or pairs i nobody in
    elim c.if-not-picked-place.branch [
      | then-not-picked-place+in_ok-deliver b ↦
          record {
            network = ap (λ (l : LabValue). l.network) b.self-is ∙ b.deliver.ensures.network ∙ c.loop-place.invariant.network;
            delivered = rw (b.self-is, b.watch-is)
                (others_next g.V.Observer.takes net c.loop-place.self.network w (c.loop-place.self.world, c.loop-place.watch) (b.deliver.new.self.world, b.deliver.new.watch) c.loop-place.invariant.network pairs flags c.args.rest i x
                c.loop-place-test.true (get_or_default pairs i nobody x c.loop-place-test.true) c.loop-place.invariant.delivered b.if-not-picked-place.true b.in_ok-deliver.ensures.delivered);
          }
      | else-not-picked-place b ↦
          record {
            network = ap (λ (l : LabValue). l.network) b.self-is ∙ c.loop-place.invariant.network;
            delivered = rw (b.self-is, b.watch-is)
                (others_skip g.V.Observer.takes net net w (c.loop-place.self.world, c.loop-place.watch) w refl pairs flags c.args.rest i x
                c.loop-place-test.true (get_or_default pairs i nobody x c.loop-place-test.true) c.loop-place.invariant.delivered b.if-not-picked-place.false);
          }
    ]
