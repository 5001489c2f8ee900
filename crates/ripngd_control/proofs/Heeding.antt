-- What a line that was taken in does to a router.
use Rattle.std.proofs.Common.{◌≡◌, ◌++◌, ◌⊎◌, ℕ, List, [], ◌∷◌, Option, Some, None, codes, refl, subst, inl, inr}
use Rattle.ripngd_engine.specs.Seen.{Seen}
use Rattle.ripngd_control.specs.Answers.{AnswersCommand, Obeys}
use Rattle.ripngd_control.specs.Clients.{Heeds, TakesIn}
use Rattle.ripngd_control.specs.Commands.{control_text}
use Rattle.ripngd_control.specs.Links.{LinksSeen}
use Rattle.ripngd_control.specs.declared.answering.Rest.{Rest}
use Rattle.ripngd_control.specs.declared.command.Command.{Command}
use Rattle.ripngd_control.specs.declared.command.Command.TheVariants as commands
use Rattle.ripngd_control.specs.declared.counts.Counts.{Counts}
use Rattle.ripngd_control.specs.declared.counts.Losses.{Losses}
use Rattle.ripngd_control.specs.declared.neighbors.Neighbors.{Neighbors}
use Rattle.ripngd_control.specs.declared.reply.Reply.{Reply}
use Rattle.ripngd_control.specs.declared.reply.Reply.TheVariants as replies

-- after a link that was cut the last line says so
pub cut : (command : Option Command) (bytes : List ℕ) (lines taken : List (List ℕ)) → TakesIn command bytes lines taken
    → (iface : ℕ) × (command ≡ Some (commands.LinkDown iface)) → (iface : ℕ) × (taken ≡ lines ++ control_text (commands.LinkDown iface) ∷ [])
cut command bytes lines taken took (iface, is) = (iface, (subst (λ c. TakesIn c bytes lines taken) is took).1)

module _ (counts : Counts) (heard : Neighbors) (links : LinksSeen) (lost : Losses) (bytes : List ℕ) (lines taken : List (List ℕ)) (a b : Seen) (old new : Option (List ℕ)) (rest : Rest) where
  obeyed : (c : Command) (reply : Reply) → taken ≡ lines ++ control_text c ∷ [] → Obeys c a reply b → Heeds lines a taken b
  obeyed c reply took does = inr (control_text c, took, (c, reply, refl, does))

  -- whatever the command, it was taken in and obeyed
  pub heeds : (command : Option Command) → TakesIn command bytes lines taken → AnswersCommand command counts heard links lost a old rest b new → Heeds lines a taken b
  heeds None took h = inl (took, h.0)
  heeds (Some commands.Routes) took h = obeyed commands.Routes replies.Done took.1 h.0
  heeds (Some commands.Table) took h = obeyed commands.Table replies.Done took.1 h.0
  heeds (Some (commands.Lookup d)) took h = obeyed (commands.Lookup d) replies.Done took.1 h.0
  heeds (Some commands.Counts) took h = obeyed commands.Counts replies.Done took.1 h.0
  heeds (Some commands.Status) took h = obeyed commands.Status replies.Done took.1 h.0
  heeds (Some commands.StatusJson) took h = obeyed commands.StatusJson replies.Done took.1 h.0
  heeds (Some commands.Neighbors) took h = obeyed commands.Neighbors replies.Done took.1 h.0
  heeds (Some commands.Stop) took h = obeyed commands.Stop h.0 took.1 h.1
  heeds (Some commands.StopNow) took h = obeyed commands.StopNow replies.Done took.1 h.0
  heeds (Some (commands.LinkDown i)) took h = obeyed (commands.LinkDown i) h.0 took.1 h.1
  heeds (Some (commands.LinkUp i)) took h = obeyed (commands.LinkUp i) h.0 took.1 h.1
  heeds (Some (commands.Link c)) took h = obeyed (commands.Link c) h.0 took.1 h.1
  heeds (Some (commands.Reconfigure c)) took h = obeyed (commands.Reconfigure c) h.0 took.1 h.1

  -- after a stop the last line says so
  pub stopped : (command : Option Command) → TakesIn command bytes lines taken → (command ≡ Some commands.Stop) ⊎ (command ≡ Some commands.StopNow)
      → (taken ≡ lines ++ codes "stop" ∷ []) ⊎ (taken ≡ lines ++ codes "stop now" ∷ [])
  stopped command took (inl is) = inl (subst (λ c. TakesIn c bytes lines taken) is took).1
  stopped command took (inr is) = inr (subst (λ c. TakesIn c bytes lines taken) is took).1
