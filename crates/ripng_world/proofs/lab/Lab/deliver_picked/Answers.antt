use Rattle.std.proofs.Common.{◌≡◌, ◌==◌, false, get_or, ℕ, ◌%◌, ◌<◌, List, length, refl, sym, subst, ◌∙◌, arith}
use Rattle.std.proofs.lemmas.Bool.{eqb-true}
use Rattle.std.proofs.lemmas.Bool.Decides.{nat_tests}
use Rattle.std.proofs.lemmas.Nat.{mod_below}
use Rattle.std.proofs.lemmas.Option.{slice_get-get_or}
use Rattle.ripng_world.specs.Watching.{WatchedRun, heard}
use Rattle.ripng_world.specs.World.{Event}
use Rattle.ripng_world.specs.declared.lab.delivering.Pair.{Pair}
use Rattle.ripng_world.specs.declared.watch.Stopped.TheVariants.{Refused}
use Rattle.ripng_world.proofs.Delivered.{none_heard, picked_next, picked_stop}
use Rattle.ripng_world.proofs.Watched.{handed_on}
use Rattle.ripng_world.proofs.Picking.{none_picked, flag_more}
use Rattle.ripng_world.proofs.lab.Lab.deliver_picked.Goals as goal

pub returns-then-is_empty-clause-delivered : goal.returns-then-is_empty-clause-delivered
returns-then-is_empty-clause-delivered g c =
    subst (λ (es : List Event). WatchedRun g.V.Observer.takes heard c.args.self.now.network (c.args.self.now.world, c.args.watch.now) es (c.args.self.now.world, c.args.watch.now))
    (sym (none_picked c.args.pairs.now c.args.picks.now (eqb-true _ _ (sym c.is_empty.ensures ∙ c.if-is_empty.true)))) refl

not_none : (n : ℕ) → (n == 0) ≡ false → 0 < n
not_none n e = grind (arith, nat_tests)

pub returns-in_err-picked-clause-stopped : goal.returns-in_err-picked-clause-stopped
returns-in_err-picked-clause-stopped g c =
    handed_on c.from_residual.result (Refused c.in_err-picked.field-0.0) _ c.from_residual.ensures.1
    (none_heard g.V.Observer.takes g.V.Observer.fails c.in_err-picked.field-0.0 c.args.self.now.network _ (c.args.self.now.world, c.args.watch.now) (c.args.self.now.world, c.args.watch.now) refl)

abbrev nobody : Pair
nobody = record { datagram = 0; router = 0; iface = 0 }

pub returns-in_err-deliver-clause-stopped : goal.returns-in_err-deliver-clause-stopped
returns-in_err-deliver-clause-stopped g c =
    let pairs = c.args.pairs.now in
    let picks = c.args.picks.now in
    let i = c.loop-word.word-index in
    let x = c.loop-word-item.result in
    let place : x.0 % length pairs < length pairs = mod_below x.0 (length pairs) (not_none (length pairs) (sym c.is_empty.ensures ∙ c.if-is_empty.false)) in
    handed_on c.from_residual-in_err-deliver.result c.in_err-deliver.field-0.0 _ c.from_residual-in_err-deliver.ensures.1
    (picked_stop g.V.Observer.takes c.args.self.now.network c.loop-word.self.network (c.args.self.now.world, c.args.watch.now) (c.loop-word.self.world, c.loop-word.watch) (c.deliver.new.self.world, c.deliver.new.watch) c.loop-word.invariant.network pairs picks i x
    (get_or pairs (x.0 % length pairs) nobody) c.loop-word-test.true c.loop-word-item.is (slice_get-get_or pairs (x.0 % length pairs) nobody place) c.loop-word.invariant.delivered g.V.Observer.fails c.in_err-deliver.field-0.0 c.in_err-deliver.ensures.stopped)

pub loop-word-preserved : goal.loop-word-preserved
loop-word-preserved g c =
    let pairs = c.args.pairs.now in
    let picks = c.args.picks.now in
    let i = c.loop-word.word-index in
    let x = c.loop-word-item.result in
    let place : x.0 % length pairs < length pairs = mod_below x.0 (length pairs) (not_none (length pairs) (sym c.is_empty.ensures ∙ c.if-is_empty.false)) in
    let within : x.0 % length pairs < length c.loop-word.picked.items = omega (arith, place, c.loop-word.invariant.flags, c.loop-word.picked.ok.0) in
    record {
      network = c.deliver.ensures.network ∙ c.loop-word.invariant.network;
      delivered = picked_next g.V.Observer.takes c.args.self.now.network c.loop-word.self.network (c.args.self.now.world, c.args.watch.now) (c.loop-word.self.world, c.loop-word.watch) (c.deliver.new.self.world, c.deliver.new.watch) c.loop-word.invariant.network pairs picks i x
          (get_or pairs (x.0 % length pairs) nobody) c.loop-word-test.true c.loop-word-item.is (slice_get-get_or pairs (x.0 % length pairs) nobody place) c.loop-word.invariant.delivered c.in_ok-deliver.ensures.delivered;
      flags = c.loop-word.invariant.flags;
      picked = λ k h. flag_more c.loop-word.picked.items (length pairs) picks i x k c.loop-word-test.true c.loop-word-item.is within (c.loop-word.invariant.picked k h);
    }
