-- What follows from how a write or a test ended.
use Rattle.std.proofs.Common.{◌≡◌, ◌∙◌, ◌++◌, ℕ, Bool, true, false, List, [], ◌∷◌, Option, Some, Result, Ok, Err, ap, refl, subst, sym, inr}
use Rattle.std.specs.Prelude.{◌==◌, IsOk, OnOk, codes, decimal, is_err}
use Rattle.std.specs.FinMap as map_of
use Rattle.std.specs.Io.KnownBytes.{Appends}
use Rattle.std.proofs.KnownBytes.{Appends-trans}
use Rattle.std.proofs.lemmas.List.{append_assoc}
use Rattle.ripngd_engine.specs.Changing.{ShutsDownOnce, StepAnswer}
use Rattle.ripngd_engine.specs.Seen.{Acts, Seen}
use Rattle.ripngd_engine.specs.declared.report.ChangeFault.{ChangeFault}
use Rattle.ripngd_engine.specs.declared.report.ChangeFault.TheVariants.{Refused, Ended}
use Rattle.ripngd_control.specs.Answers.{AnswersCommand, GainsLines, ObeysStop, step_reply}
use Rattle.ripngd_control.specs.Json.{status_json_answer}
use Rattle.ripngd_control.specs.Links.{LinksSeen}
use Rattle.ripngd_control.specs.Printed.{asked_and_done, counts_text, last_text, losses_text, neighbors_text, refusals_text, reply_line, row_lines, status_answer, tally_text}
use Rattle.ripngd_control.specs.declared.answering.Rest.{Rest}
use Rattle.ripngd_control.specs.declared.answering.RunState.{RunState}
use Rattle.ripngd_control.specs.declared.command.Command.{Command}
use Rattle.ripngd_control.specs.declared.command.Command.TheVariants as commands
use Rattle.ripngd_control.specs.declared.counts.Counts.{Counts}
use Rattle.ripngd_control.specs.declared.counts.Losses.{Losses}
use Rattle.ripngd_control.specs.declared.neighbors.Neighbor.{Neighbor}
use Rattle.ripngd_control.specs.declared.neighbors.Neighbors.{Neighbors}
use Rattle.ripngd_control.specs.declared.neighbors.Tally.{Tally}
use Rattle.ripngd_control.specs.declared.reply.Reply.{Reply}
use Rattle.ripngd_control.specs.declared.reply.Reply.TheVariants as replies

pub was_ok : {X E P : Type 0} (r : Result X E) → IsOk r → OnOk r P → P
was_ok (Ok x) well h = h
was_ok (Err e) well h = absurd (cc)

pub was_no_err : {X E P : Type 0} (r : Result X E) → is_err r ≡ false → OnOk r P → P
was_no_err (Ok x) well h = h
was_no_err (Err e) well h = absurd (cc)

-- what was written first, and then the rest
pub appended : {X E : Type 0} (r : Result X E) (old mid new : Option (List ℕ)) (xs ys : List ℕ) → Appends old mid xs → OnOk r (Appends mid new ys)
    → OnOk r (Appends old new (xs ++ ys))
appended (Ok x) old mid new xs ys first second = Appends-trans old mid new xs ys first second
appended (Err e) old mid new xs ys first second = tt

pub apart : {P : Type 0} (b : Bool) → b ≡ false → b ≡ true → P
apart true h is = absurd (cc)
apart false h is = absurd (cc)

-- the counts of a sender, the moment of its last Response, and what was refused of it, stand one behind the other
pub tally_joined : (t : Tally) → (codes " arrivals " ++ (decimal t.arrivals ++ (codes " responses " ++ (decimal t.responses ++ (codes " entries "
    ++ decimal t.entries))))) ++ (last_text t.last ++ refusals_text t.refusals) ≡ tally_text t
tally_joined t = let rest = last_text t.last ++ refusals_text t.refusals in
    ap (λ (l : List ℕ). codes " arrivals " ++ l) (append_assoc (decimal t.arrivals) _ rest
    ∙ ap (λ (l : List ℕ). decimal t.arrivals ++ (codes " responses " ++ l)) (append_assoc (decimal t.responses) _ rest))

-- the lines of others stand behind those of the rows
pub others_said : (n : Neighbors) (rows : List Neighbor) → rows ≡ n.rows.items → (n.others.arrivals == 0) ≡ false
    → row_lines rows ++ (codes "others" ++ (tally_text n.others ++ 10 ∷ [])) ≡ neighbors_text n
others_said n rows is some = rw (is, some) refl

module _ (command : Option Command) (counts : Counts) (heard : Neighbors) (links : LinksSeen) (lost : Losses) (a : Seen) (old : Option (List ℕ)) (rest : Rest) (new : Option (List ℕ)) where
  pub answers_counts : command ≡ Some commands.Counts → GainsLines old rest new (counts_text counts ++ (10 ∷ (losses_text lost ++ (10 ∷ asked_and_done counts.asked))))
      → AnswersCommand command counts heard links lost a old rest a new
  answers_counts is said = subst (λ c. AnswersCommand c counts heard links lost a old rest a new) (sym is) (refl, said)

  pub answers_status : command ≡ Some commands.Status
      → GainsLines old rest new (status_answer a.machine.router.config.interfaces a.machine.router.last (map_of.len a.machine.fib) counts lost heard links)
      → AnswersCommand command counts heard links lost a old rest a new
  answers_status is said = subst (λ c. AnswersCommand c counts heard links lost a old rest a new) (sym is) (refl, said)

  pub answers_status_json : command ≡ Some commands.StatusJson
      → GainsLines old rest new (status_json_answer a.machine.router.config.interfaces a.machine.router.last (map_of.len a.machine.fib) counts lost heard links)
      → AnswersCommand command counts heard links lost a old rest a new
  answers_status_json is said = subst (λ c. AnswersCommand c counts heard links lost a old rest a new) (sym is) (refl, said)

  pub answers_neighbors : command ≡ Some commands.Neighbors → GainsLines old rest new (neighbors_text heard ++ reply_line replies.Done)
      → AnswersCommand command counts heard links lost a old rest a new
  answers_neighbors is said = subst (λ c. AnswersCommand c counts heard links lost a old rest a new) (sym is) (refl, said)

-- ---- steps and their replies
-- a router shut down, and then did what the second time answers
pub stops_again : (a m b : Seen) (r : Result (Unit {0}) ChangeFault) (done : RunState) (out : Reply × RunState) → out ≡ step_reply r done
    → (m.machine.ended ≡ false) × Acts ShutsDownOnce a m → StepAnswer ShutsDownOnce m r b → ObeysStop a out.0 b
stops_again a m b (Ok u) done out is first again = subst (λ (o : Reply × RunState). ObeysStop a o.0 b) (sym is) (m, first, again)
stops_again a m b (Err (Refused why)) done out is first again = subst (λ (o : Reply × RunState). ObeysStop a o.0 b) (sym is) (inr (m, first, again))
stops_again a m b (Err Ended) done out is first again = subst (λ (o : Reply × RunState). ObeysStop a o.0 b) (sym is) (inr (m, first, again))
