use Rattle.std.proofs.Common.{◌≡◌, ℕ, ◌<◌, take, length, get_or, false, vec_len}
use Rattle.ripng_world.specs.AskedRounds.{is_picked, picked_deliveries}
use Rattle.ripng_world.specs.Watching.{WatchedRun, heard}
use Rattle.ripng_world.proofs.lab.Lab.deliver_picked.Given as goal

abbrev pub invariant-loop-word : goal.invariant-loop-word
invariant-loop-word g l = record {
  network : l.self.network ≡ l.fn.self.network;
  delivered : WatchedRun g.V.Observer.takes heard l.fn.self.network (l.fn.self.world, l.fn.watch) (picked_deliveries l.pairs (take l.word-index l.picks)) (l.self.world, l.watch);
  flags : vec_len l.picked ≡ length l.pairs;
  picked : (k : ℕ) → k < length l.pairs → get_or l.picked.items k false ≡ is_picked (length l.pairs) (take l.word-index l.picks) k;
}
