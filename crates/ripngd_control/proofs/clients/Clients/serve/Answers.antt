use Rattle.std.proofs.Common.{◌≡◌, ◌∙◌, Bool, true, false, ap, inl, rules, sym}
use Rattle.std.proofs.lemmas.Bool.{false≢true}
use Rattle.ripngd_control.specs.declared.answering.RunState.{RunState}
use Rattle.ripngd_control.proofs.Heeding.{cut, heeds}
use Rattle.ripngd_control.proofs.clients.Clients.serve.Goals.{in-None, in-None-1, in-Some-1, in-Some-listen}
use Rattle.ripngd_control.proofs.clients.Clients.serve.Goals as goal

pub returns-then-send-clause-heeds : goal.returns-then-send-clause-heeds
returns-then-send-clause-heeds g c =
    let same : c.match-self.self.lines ≡ c.listen.new.self.lines = elim c.match-self.branch [ in-Some-1 w ↦ search rules | in-None-1 w ↦ search rules ] in
    elim c.match-listen.branch [
      | in-None w ↦ inl (search rules, search rules)
      | in-Some-listen w ↦
          rw (w.engine-is, w.log-is, same, ← c.next_connection.ensures)
          (heeds _ _ _ _ _ _ _ _ _ _ _ _ _ w.in-Some-listen.ensures.taken w.respond-rest.ensures.answers)
    ]

pub returns-else-send-clause-heeds : goal.returns-else-send-clause-heeds
returns-else-send-clause-heeds g c = elim c.match-listen.branch [
  | in-None w ↦ inl (search rules, search rules)
  | in-Some-listen w ↦
      rw (w.engine-is, w.log-is, ← c.next_connection.ensures)
      (heeds _ _ _ _ _ _ _ _ _ _ _ _ _ w.in-Some-listen.ensures.taken w.respond-rest.ensures.answers)
]

pub returns-then-send-clause-cuts : goal.returns-then-send-clause-cuts
returns-then-send-clause-cuts g c =
    let same : c.match-self.self.lines ≡ c.listen.new.self.lines = elim c.match-self.branch [ in-Some-1 w ↦ search rules | in-None-1 w ↦ search rules ] in
    λ is. rw same (elim c.match-listen.branch [
      | in-None w ↦ (let e : false ≡ true = ap (λ (s : RunState × Bool). s.1) (sym w.served-is) ∙ is in absurd (false≢true e))
      | in-Some-listen w ↦
          rw (← c.next_connection.ensures)
          (cut _ _ _ _ w.in-Some-listen.ensures.taken (w.is_cut-is_cut.ensures (ap (λ (s : RunState × Bool). s.1) (sym w.served-is) ∙ is)))
    ])

pub returns-else-send-clause-cuts : goal.returns-else-send-clause-cuts
returns-else-send-clause-cuts g c = λ is. elim c.match-listen.branch [
  | in-None w ↦ (let e : false ≡ true = ap (λ (s : RunState × Bool). s.1) (sym w.served-is) ∙ is in absurd (false≢true e))
  | in-Some-listen w ↦
      rw (← c.next_connection.ensures)
      (cut _ _ _ _ w.in-Some-listen.ensures.taken (w.is_cut-is_cut.ensures (ap (λ (s : RunState × Bool). s.1) (sym w.served-is) ∙ is)))
]
