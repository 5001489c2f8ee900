use Rattle.std.proofs.Common.{◌≡◌, ◌≤◌, ◌<◌, inl, inr, ℕ, length, max, Some, slice_get, sym, subst, ap, ◌∙◌, arith, rules}
use Rattle.std.proofs.lemmas.Option.{slice_get_cases}
use Rattle.route_table.proofs.TableLaws.{Some-same}
use Rattle.router_core.specs.Machine.{State}
use Rattle.ripng_world.specs.Labs.{HasRun, LabValue}
use Rattle.ripng_world.proofs.ReachedWorlds.{reached_from_cold}
use Rattle.ripng_world.proofs.lab.Lab.is_due.Goals as goal

-- each router of a network that has run is there
there : (lab : LabValue) (router : ℕ) → HasRun lab.network lab.world → router < length lab.network → (s : State) × (slice_get lab.world.states router ≡ Some s)
there lab router ran within = elim (slice_get_cases lab.network router).1 [
  | inl found ↦ (reached_from_cold lab.network ran.lawful ran.moments ran.events ran.cold lab.world ran.is_cold ran.run).everyone router found.0 found.2
  | inr past ↦ (let e = past.0 in absurd (omega (arith, e, within)))
]

-- the router's state, where it is
here : (lab lab' : LabValue) (router : ℕ) (s : State) → lab' ≡ lab → Some s ≡ slice_get lab'.world.states router → slice_get lab.world.states router ≡ Some s
here lab lab' router s same is = ap (λ (l : LabValue). slice_get l.world.states router) (sym same) ∙ sym is

pub returns-in-Some-clause-due : goal.returns-in-Some-clause-due
returns-in-Some-clause-due g c = λ word.
    let s = c.in-Some.router.now in
    let later : c.max.result ≡ max c.last.result c.args.now = search rules in
    let at = here c.args.self.now c.self.inside.running c.args.router s c.self.view_is c.in-Some.ensures in (
      (λ due. (s, at, omega (arith, c.reached.ensures.0 due, c.regular.ensures, later, c.last.ensures))),
      (λ due.
          let by : s.regular ≤ max s.last c.args.now = subst (λ (t : State). t.regular ≤ max t.last c.args.now) (Some-same due.0 s (sym due.1 ∙ at)) due.2 in
          c.reached.ensures.1 (omega (arith, by, c.regular.ensures, later, c.last.ensures))),
    )

pub returns-in-Some-clause-there : goal.returns-in-Some-clause-there
returns-in-Some-clause-there g c = λ within. (c.in-Some.router.now, here c.args.self.now c.self.inside.running c.args.router c.in-Some.router.now c.self.view_is c.in-Some.ensures)

pub returns-in-None-clause-there : goal.returns-in-None-clause-there
returns-in-None-clause-there g c = λ within. there c.args.self.now c.args.router (subst (λ (l : LabValue). HasRun l.network l.world) c.self.view_is c.self.invariant) within
