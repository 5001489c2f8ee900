use Rattle.std.proofs.Common.{◌≡◌, ◌≤◌, ◌∙◌, ℕ, List, subst, refl, [], ap, Some, Ok, Err, sym, length, take}
use Rattle.std.specs.Prelude.{Result, ⊤}
use Rattle.std.proofs.lemmas.List.{take_all}
use Rattle.std.proofs.lemmas.Option.{slice_get-get_or}
use Rattle.ripng_world.specs.Labs.{LabValue, HasRun}
use Rattle.ripng_world.specs.Network.{Network, IsNetwork}
use Rattle.ripng_world.specs.Stopping.{RoundStops, RoundsStop}
use Rattle.ripng_world.specs.Asked.{Asked}
use Rattle.ripng_world.specs.Watching.{AreMadeTold, IsMadeTold, RoundToldInPart, Told, failures}
use Rattle.ripng_world.specs.World.{World}
use Rattle.ripng_world.specs.declared.lab.making.RoundsRefused.{RoundsRefused}
use Rattle.ripng_world.specs.declared.watch.Stopped.{Stopped}
use Rattle.ripng_world.proofs.AskedSynchronous.{all_made, converging}
use Rattle.ripng_world.proofs.WatchedRounds.{rounds_still, rounds_stopped, told_more}
use Rattle.ripng_world.proofs.Healed.{heals_asked}
use Rattle.ripng_world.proofs.PacketsAfter.{arrive_asked}
use Rattle.ripng_world.proofs.LabRuns.{keeps}
use Rattle.ripng_world.proofs.lab.Lab.run_rounds_watched.Goals as goal

pub loop-number-init : goal.loop-number-init
loop-number-init g c = record { network = refl; made = ([], refl, refl) }

pub loop-number-preserved : goal.loop-number-preserved
loop-number-preserved g c =
    let a = c.index-rounds-number.result in
    record {
      network = c.make_round.ensures.network ∙ c.loop-number.invariant.network;
      made = told_more g.V.Observer.takes c.args.self.now.network c.args.rounds.now c.loop-number.number a (c.args.self.now.world, c.args.watch.now) (c.loop-number.self.world, c.loop-number.watch)
          (c.make_round.new.self.world, c.make_round.new.watch) c.loop-number-test.true c.index-rounds-number.is c.loop-number.invariant.made
          (subst (λ (net : Network). IsMadeTold g.V.Observer.takes net (c.loop-number.self.world, c.loop-number.watch) a (c.make_round.new.self.world, c.make_round.new.watch)) c.loop-number.invariant.network
          c.in_default.ensures.made);
    }

pub returns-in-Err-clause-told_in_part : goal.returns-in-Err-clause-told_in_part
returns-in-Err-clause-told_in_part g c =
    let a = c.index-rounds-number.result in
    record {
      made = c.loop-number.number;
      begin = (c.loop-number.self.world, c.loop-number.watch);
      told = c.loop-number.invariant.made;
      stopped = a;
      stopped_is = slice_get-get_or c.args.rounds.now c.loop-number.number a c.loop-number-test.true ∙ ap Some (sym c.index-rounds-number.is);
      in_part = subst (λ (net : Network). RoundToldInPart g.V.Observer.takes g.V.Observer.fails (failures c.in-Err.stopped) net (c.loop-number.self.world, c.loop-number.watch) a (c.make_round.new.self.world, c.make_round.new.watch))
          c.loop-number.invariant.network c.in-Err.ensures.told;
    }

-- no change is done in rounds, made or stopped
module _ {V : Type 0} (t : V → Told → V → Type 0) (net : Network) (asks : List Asked) (s s' : World × V) where
  still_stopped : {F : Type 0} (why : Stopped RoundsRefused F) → RoundsStop net s.0 asks why s'.0 → s'.0.reconfigurations ≡ s.0.reconfigurations
  still_stopped {F} why stops =
      let r : Result ⊤ (Stopped RoundsRefused F) = Err why in
      rounds_still net t asks s s' r tt stops

  still_made : AreMadeTold t net s asks s' → s'.0.reconfigurations ≡ s.0.reconfigurations
  still_made made =
      let r : Result ⊤ (Stopped RoundsRefused ⊤) = Ok tt in
      rounds_still net t asks s s' r made tt

pub returns-in-Err-clause-refused : goal.returns-in-Err-clause-refused
returns-in-Err-clause-refused g c =
    let a = c.index-rounds-number.result in
    let n = c.loop-number.number in
    let why = c.in-Err.stopped in
    let stops = rounds_stopped c.args.self.now.network g.V.Observer.takes c.args.rounds.now n a (c.args.self.now.world, c.args.watch.now) (c.loop-number.self.world, c.loop-number.watch) c.make_round.new.self.world why
    c.in-Err.ensures.number c.loop-number.invariant.made
    (slice_get-get_or c.args.rounds.now n a c.loop-number-test.true ∙ ap Some (sym c.index-rounds-number.is))
    (subst (λ (net : Network). RoundStops net c.loop-number.self.world a why c.make_round.new.self.world) c.loop-number.invariant.network c.in-Err.ensures.refused) in
    stops

pub returns-in-Err-clause-network : goal.returns-in-Err-clause-network
returns-in-Err-clause-network g c = c.make_round.ensures.network ∙ c.loop-number.invariant.network

pub returns-in-Err-clause-reconfigurations : goal.returns-in-Err-clause-reconfigurations
returns-in-Err-clause-reconfigurations g c =
    let a = c.index-rounds-number.result in
    let n = c.loop-number.number in
    let why = c.in-Err.stopped in
    let stops = rounds_stopped c.args.self.now.network g.V.Observer.takes c.args.rounds.now n a (c.args.self.now.world, c.args.watch.now) (c.loop-number.self.world, c.loop-number.watch) c.make_round.new.self.world why
    c.in-Err.ensures.number c.loop-number.invariant.made
    (slice_get-get_or c.args.rounds.now n a c.loop-number-test.true ∙ ap Some (sym c.index-rounds-number.is))
    (subst (λ (net : Network). RoundStops net c.loop-number.self.world a why c.make_round.new.self.world) c.loop-number.invariant.network c.in-Err.ensures.refused) in
    still_stopped g.V.Observer.takes c.args.self.now.network c.args.rounds.now (c.args.self.now.world, c.args.watch.now) (c.make_round.new.self.world, c.make_round.new.watch) why stops

pub returns-in-Err-clause-keeps : goal.returns-in-Err-clause-keeps
returns-in-Err-clause-keeps g c = rw (← c.self-in-loop-number.view_is) (keeps _ c.self-in-loop-number.invariant)

-- all rounds are made
whole : {V : Type 0} (t : V → Told → V → Type 0) (net : Network) (asks : List Asked) (n : ℕ) (s s' : World × V) → length asks ≤ n → AreMadeTold t net s (take n asks) s' → AreMadeTold t net s asks s'
whole t net asks n s s' over made = subst (λ (rs : List Asked). AreMadeTold t net s rs s') (take_all n asks over) made

pub returns-clause-told : goal.returns-clause-told
returns-clause-told g c = whole g.V.Observer.takes c.args.self.now.network c.args.rounds.now c.loop-number.number (c.args.self.now.world, c.args.watch.now) (c.loop-number.self.world, c.loop-number.watch) c.loop-number-test.false c.loop-number.invariant.made

pub returns-clause-reconfigurations : goal.returns-clause-reconfigurations
returns-clause-reconfigurations g c =
    still_made g.V.Observer.takes c.args.self.now.network c.args.rounds.now (c.args.self.now.world, c.args.watch.now) (c.loop-number.self.world, c.loop-number.watch)
    (whole g.V.Observer.takes c.args.self.now.network c.args.rounds.now c.loop-number.number (c.args.self.now.world, c.args.watch.now) (c.loop-number.self.world, c.loop-number.watch) c.loop-number-test.false c.loop-number.invariant.made)

pub returns-clause-made : goal.returns-clause-made
returns-clause-made g c =
    let m = whole g.V.Observer.takes c.args.self.now.network c.args.rounds.now c.loop-number.number (c.args.self.now.world, c.args.watch.now) (c.loop-number.self.world, c.loop-number.watch) c.loop-number-test.false c.loop-number.invariant.made in
    all_made c.args.self.now.network c.args.rounds.now c.args.self.now.world c.loop-number.self.world c.requires (m.0, m.1)

pub returns-clause-converges : goal.returns-clause-converges
returns-clause-converges g c =
    converging c.args.self.now.network c.args.rounds.now c.args.self.now.world c.loop-number.self.world
    (subst IsNetwork (ap (λ (l : LabValue). l.network) c.self.view_is) c.self.invariant.lawful) c.requires

pub returns-clause-heals : goal.returns-clause-heals
returns-clause-heals g c =
    heals_asked c.args.self.now.network c.args.rounds.now c.args.self.now.world c.loop-number.self.world
    (subst (λ (l : LabValue). HasRun l.network l.world) c.self.view_is c.self.invariant) c.requires

pub returns-clause-arrives : goal.returns-clause-arrives
returns-clause-arrives g c =
    arrive_asked c.args.self.now.network c.args.rounds.now c.args.self.now.world c.loop-number.self.world
    (subst (λ (l : LabValue). HasRun l.network l.world) c.self.view_is c.self.invariant) c.requires

pub returns-clause-keeps : goal.returns-clause-keeps
returns-clause-keeps g c = rw (← c.self-2.view_is) (keeps _ c.self-2.invariant)
