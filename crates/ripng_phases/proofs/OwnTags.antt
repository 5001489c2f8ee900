-- Whatever happened since a cold start, each route that never ages is one of an owned prefix, with its tag.
use Rattle.std.proofs.Common.{◌≡◌, ℕ, List, [], ◌∷◌, Some, slice_get, sym, subst}
use Rattle.router_core.specs.Machine.{State}
use Rattle.ripng_world.specs.Network.{Network, config_of}
use Rattle.ripng_world.specs.World.{World, Event, Happens, IsCold, WorldRun}
use Rattle.router_core.specs.declared.answer.Answer.{Answer}
use Rattle.ripng_world.proofs.ColdStates.{cold_states}
use Rattle.ripng_phases.proofs.AnyStep.{AreOwn, any_step, started_own}

abbrev pub AllOwn : World → Type 0
AllOwn w = (router : ℕ) (s : State) → slice_get w.states router ≡ Some s → AreOwn s

module _ (net : Network) where
  pub own_after : (w w' : World) (e : Event) (answer : Answer) → Happens net w e answer w' → AllOwn w → AllOwn w'
  own_after w w' e answer h all router t is = let from = any_step net w w' e answer h router t is in from.2.own (all router from.0 from.1)

  own_on : (events : List Event) (w w' : World) → WorldRun net w events w' → AllOwn w → AllOwn w'
  own_on [] w w' is all = subst AllOwn (sym is) all
  own_on (e ∷ events) w w' run all = own_on events run.0 w' run.3 (own_after w run.0 e run.1 run.2 all)

  pub own_in_run : (moments : List ℕ) (events : List Event) (cold w : World) → IsCold net moments cold → WorldRun net cold events w → AllOwn w
  own_in_run moments events cold w is run =
      own_on events cold w run (λ router s at.
      let t = (cold_states 0 net moments cold.states cold.sent is.starts).0 router s at in
      subst AreOwn (sym t.3) (λ p r here fixed. started_own (config_of t.0) p r here))
