use Rattle.std.proofs.Common.{◌≡◌, ◌<◌, ℕ, List, IfErr, OnOk, false, get_or, length, refl, subst, ◌∙◌, ap}
use Rattle.ripng_world.specs.AskedRounds.{deliveries_of, is_picked, other_deliveries, pairs_since, picked_deliveries}
use Rattle.ripng_world.specs.Watching.{HeardInPart, WatchedRun, heard}
use Rattle.ripng_world.specs.Labs.{LabValue}
use Rattle.ripng_world.specs.World.{World}
use Rattle.ripng_world.specs.declared.lab.delivering.Pair.{Pair}
use Rattle.ripng_world.specs.declared.watch.Stopped.TheVariants.{Refused}
use Rattle.ripng_world.proofs.AskedSynchronous.{on_ok}
use Rattle.ripng_world.proofs.Delivered.{asked_all, asked_stop, none_heard, part_more}
use Rattle.ripng_world.proofs.Watched.{handed_on, map_err}
use Rattle.ripng_world.proofs.lab.Lab.deliver_asked.Goals.{After-drop-pairs-2}
use Rattle.ripng_world.proofs.lab.Lab.deliver_asked.Goals as goal

pub returns-in_err-pairs-clause-stopped : goal.returns-in_err-pairs-clause-stopped
returns-in_err-pairs-clause-stopped g c =
    handed_on c.from_residual.result (Refused c.in_err-pairs.field-0.0) _ c.from_residual.ensures.1
    (none_heard g.V.Observer.takes g.V.Observer.fails c.in_err-pairs.field-0.0 c.args.self.now.network _ (c.args.self.now.world, c.args.watch.now) (c.args.self.now.world, c.args.watch.now) refl)

pub returns-in_err-picked-clause-stopped : goal.returns-in_err-picked-clause-stopped
returns-in_err-picked-clause-stopped g c =
    let net = c.args.self.now.network in
    let w = c.args.self.now.world in
    let start : World × _ = (c.args.self.now.world, c.args.watch.now) in
    let after : World × _ = (c.deliver_picked.new.self.world, c.deliver_picked.new.watch) in
    let why = c.in_err-picked.field-0.0 in
    let ps = c.deref.result.now in
    let picks = c.args.picks.now in
    let pairs_are : ps ≡ pairs_since net c.args.first w.sent =
    c.deref.ensures.value ∙ c.in_ok-pairs.ensures
    ∙ ap (λ (l : LabValue). pairs_since l.network c.args.first l.world.sent) c.self.view_is in
    handed_on c.from_residual-in_err-picked.result c.in_err-picked.field-0.0 _ c.from_residual-in_err-picked.ensures.1
    (subst (λ (qs : List Pair). HeardInPart g.V.Observer.takes g.V.Observer.fails why net start (deliveries_of qs c.args.picks.now c.args.rest) after) pairs_are
    (part_more g.V.Observer.takes g.V.Observer.fails why net (picked_deliveries ps picks) (other_deliveries (is_picked (length ps) picks) ps c.args.rest) start after c.in_err-picked.ensures.stopped))

-- the picks are delivered
module _ (g : _) (c : After-drop-pairs-2 g) where
  items : List Pair
  items = c.in_ok-pairs.pairs.items

  items_are : items ≡ pairs_since c.args.self.now.network c.args.first c.args.self.now.world.sent
  unfolding items
  items_are =
      c.in_ok-pairs.ensures
      ∙ ap (λ (l : LabValue). pairs_since l.network c.args.first l.world.sent) c.self.view_is

  flags_are : (k : ℕ) → k < length items → get_or c.deref-3.result.now k false ≡ is_picked (length items) c.args.picks.now k
  unfolding items
  flags_are k h =
      ap (λ (fs : List _). get_or fs k false) c.deref-3.ensures.value
      ∙ subst (λ (ps : List Pair). (j : ℕ) → j < length ps → get_or c.in_ok-picked.picked.items j false ≡ is_picked (length ps) c.args.picks.now j) c.deref.ensures.value c.in_ok-picked.ensures.picked k h

  picked_first : WatchedRun g.V.Observer.takes heard c.args.self.now.network (c.args.self.now.world, c.args.watch.now) (picked_deliveries items c.args.picks.now) (c.deliver_picked.new.self.world, c.deliver_picked.new.watch)
  unfolding items
  picked_first =
      subst (λ (ps : List Pair). WatchedRun g.V.Observer.takes heard c.args.self.now.network (c.args.self.now.world, c.args.watch.now) (picked_deliveries ps c.args.picks.now) (c.deliver_picked.new.self.world, c.deliver_picked.new.watch)) c.deref.ensures.value
      c.in_ok-picked.ensures.delivered

pub returns-clause-delivered : goal.returns-clause-delivered
unfolding items
returns-clause-delivered g c =
    let net = c.args.self.now.network in
    let w : World × _ = (c.args.self.now.world, c.args.watch.now) in
    let w' : World × _ = (c.deliver_others.new.self.world, c.deliver_others.new.watch) in
    let mid : World × _ = (c.deliver_picked.new.self.world, c.deliver_picked.new.watch) in
    subst (λ (qs : List Pair). OnOk c.deliver_others.result (WatchedRun g.V.Observer.takes heard net w (deliveries_of qs c.args.picks.now c.args.rest) w')) (items_are g c)
    (on_ok c.deliver_others.result _ (WatchedRun g.V.Observer.takes heard net w (deliveries_of (items g c) c.args.picks.now c.args.rest) w')
    (asked_all g.V.Observer.takes net c.deliver_picked.new.self.network w mid w' c.deliver_picked.ensures.network (items g c) c.args.picks.now c.args.rest c.deref-3.result.now (flags_are g c)
    (picked_first g c))
    (subst (λ (ps : List Pair). OnOk c.deliver_others.result (WatchedRun g.V.Observer.takes heard c.deliver_picked.new.self.network mid (other_deliveries (λ k. get_or c.deref-3.result.now k false) ps c.args.rest) w'))
    c.deref-2.ensures.value c.deliver_others.ensures.delivered))

pub returns-clause-stopped : goal.returns-clause-stopped
unfolding items
returns-clause-stopped g c =
    let net = c.args.self.now.network in
    let w : World × _ = (c.args.self.now.world, c.args.watch.now) in
    let w' : World × _ = (c.deliver_others.new.self.world, c.deliver_others.new.watch) in
    let mid : World × _ = (c.deliver_picked.new.self.world, c.deliver_picked.new.watch) in
    subst (λ (qs : List Pair). IfErr c.deliver_others.result (λ why. HeardInPart g.V.Observer.takes g.V.Observer.fails why net w (deliveries_of qs c.args.picks.now c.args.rest) w')) (items_are g c)
    (map_err c.deliver_others.result _ (λ why. HeardInPart g.V.Observer.takes g.V.Observer.fails why net w (deliveries_of (items g c) c.args.picks.now c.args.rest) w')
    (λ why. asked_stop g.V.Observer.takes net c.deliver_picked.new.self.network w mid w' c.deliver_picked.ensures.network (items g c) c.args.picks.now c.args.rest c.deref-3.result.now (flags_are g c)
    (picked_first g c) g.V.Observer.fails why)
    (subst (λ (ps : List Pair). IfErr c.deliver_others.result (λ why. HeardInPart g.V.Observer.takes g.V.Observer.fails why c.deliver_picked.new.self.network mid (other_deliveries (λ k. get_or c.deref-3.result.now k false) ps c.args.rest) w'))
    c.deref-2.ensures.value c.deliver_others.ensures.stopped))
