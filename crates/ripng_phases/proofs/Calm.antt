-- The events of a phase of an orderly network: when they happen, what they deliver, and what is held and lasts along it.
use Rattle.std.proofs.Common.{◌≡◌, ◌⊎◌, inl, inr, ℕ, ◌+◌, ◌<◌, ◌≤◌, List, [], ◌∷◌, ◌++◌, length, Contains, Option, Some, None, option_and_then, slice_get, refl, sym, subst, ◌∙◌, append_assoc, append-nil}
use Rattle.std.proofs.lemmas.Option.{slice_get_within}
use Rattle.prefix6.specs.Prefix.{Prefix6}
use Rattle.route_table.proofs.TableLaws.{None-Some}
use Rattle.router_core.specs.Timers.{garbage_time}
use Rattle.ripng_world.specs.Network.{Network, Node, interface_at}
use Rattle.ripng_world.specs.Rounds.{router_of, moment_of}
use Rattle.ripng_world.specs.World.{World, Deliver, Happens}
use Rattle.ripng_world.specs.declared.network.NetInterface.{NetInterface}
use Rattle.ripng_phases.specs.Phases.{Step, IsOrdinary, IsMomentIn, Before, events_of, reached}
use Rattle.ripng_phases.proofs.Along.{along, happens_here}
use Rattle.ripng_phases.proofs.Held.{AllHeld, AllHeldIn, held_on, held_begins, held_is}
use Rattle.ripng_phases.proofs.Lasting.{SaidLasts, lasting_on}
use Rattle.ripng_phases.proofs.Orderly.{IsOrderly}
use Rattle.ripng_phases.proofs.Runs.{reached_on, takes_reached}
use Rattle.ripng_phases.proofs.Sending.{TellsTruly, event_tells}
use Rattle.ripng_phases.proofs.Updating.{IsCalmPart}

-- a router with an interface is one of the network
pub node_of : (net : Network) (router iface : ℕ) (i : NetInterface) → interface_at net router iface ≡ Some i → (node : Node) × (slice_get net router ≡ Some node)
node_of net router iface i is = by (slice_get net router) refl is
  where
    by : (o : Option Node) → slice_get net router ≡ o → option_and_then (λ (node : Node). slice_get node.interfaces iface) o ≡ Some i → (node : Node) × (slice_get net router ≡ Some node)
    by None at e = absurd (None-Some i e)
    by (Some node) at e = (node, at)

pub in_net : (net : Network) (router iface : ℕ) (i : NetInterface) → interface_at net router iface ≡ Some i → router < length net
in_net net router iface i is = let n = node_of net router iface i is in slice_get_within net router n.0 n.1

-- moments of the phase, or of it and the one before
abbrev pub Within : Before → List Step → ℕ → ℕ → Type 0
Within past steps router x = past.moments router x ⊎ IsMomentIn steps router x

module _ (net : Network) (known : Prefix6 → Type 0) (past : Before) (w : World) (steps : List Step) (w' : World) (calm : IsCalmPart net known past w steps w') where
  module _ (before : List Step) (s : Step) (after : List Step) (parts : steps ≡ before ++ s ∷ after) where
    pub here_now : IsMomentIn steps (router_of s.event) (moment_of s.event)
    here_now = record { event = s.event; happens = happens_here steps before s after parts; router_is = refl; moment_is = refl }

    pub near_now : (x : ℕ) → Within past steps (router_of s.event) x → moment_of s.event < x + garbage_time
    near_now x m = (calm.begun.close (router_of s.event) x (moment_of s.event) m here_now).1

    pub recent_now : (datagram router iface now : ℕ) → s.event ≡ Deliver datagram router iface now → past.first ≤ datagram
    recent_now datagram router iface now is = calm.begun.recent datagram router iface now (subst (Contains (events_of steps)) is (happens_here steps before s after parts))

    pub orderly_here : IsOrderly net known (reached w before)
    orderly_here = calm.orderly before (s ∷ after) parts

    -- what holds at every moment holds after the step
    pub at_next : (Q : World → Type 0) → ((b a : List Step) → steps ≡ b ++ a → Q (reached w b)) → Q s.after
    at_next Q all = subst Q (reached_on before (s ∷ []) w) (all (before ++ s ∷ []) after (parts ∙ sym (append_assoc before (s ∷ []) after)))

    pub orderly_next : IsOrderly net known s.after
    orderly_next = at_next (IsOrderly net known) calm.orderly

    pub tells_here : IsOrdinary s.event → Happens net (reached w before) s.event s.answer s.after → TellsTruly (reached w before) s.after
    tells_here plain h = event_tells net known calm.fits (reached w before) s.after orderly_here s.event s.answer plain h

  -- what is told since that number lasts at every moment
  pub lasts_at : (moments : ℕ → ℕ → Type 0) → ((router x : ℕ) → IsMomentIn steps router x → moments router x) → ((router x : ℕ) → moments router x → Within past steps router x)
      → (first : ℕ) → SaidLasts moments w first → (before after : List Step) → steps ≡ before ++ after → SaidLasts moments (reached w before) first
  lasts_at moments now within first said before after parts =
      along net w w' steps calm.begun.takes (λ _ v. SaidLasts moments v first)
      (λ before s after parts plain h memory said.
      lasting_on net known moments (reached w before) s.after s.event s.answer plain h (orderly_next before s after parts) (tells_here before s after parts plain h)
      (now (router_of s.event) (moment_of s.event) (here_now before s after parts)) (λ x m. near_now before s after parts x (within (router_of s.event) x m)) first said)
      before after parts said

  -- so is each live route held
  pub held_at : (old : ℕ → ℕ → Type 0) → AllHeld net w past.first past.moments old → (before after : List Step) → steps ≡ before ++ after
      → AllHeldIn net past.first (length w.sent) (IsMomentIn steps) (Within past steps) old (reached w before)
  held_at old held before after parts =
      along net w w' steps calm.begun.takes (λ _ v. AllHeldIn net past.first (length w.sent) (IsMomentIn steps) (Within past steps) old v)
      (λ before s after parts plain h memory all.
      held_on net past.first (length w.sent) (IsMomentIn steps) (Within past steps) old known (λ router x m. inr m) (reached w before) s.after s.event s.answer plain h
      (orderly_here before s after parts) (recent_now before s after parts) (here_now before s after parts) (near_now before s after parts) all)
      before after parts (held_begins net past.first (length w.sent) (IsMomentIn steps) (Within past steps) old w past.moments refl (λ router x m. inl m) held)

  pub held_all : past.first ≤ length w.sent → (old : ℕ → ℕ → Type 0) → AllHeld net w past.first past.moments old → (before after : List Step) → steps ≡ before ++ after
      → AllHeld net (reached w before) past.first (Within past steps) old
  held_all le old held before after parts =
      held_is net past.first (length w.sent) (IsMomentIn steps) (Within past steps) old (reached w before) le (λ router x m. inr m) (held_at old held before after parts)

  -- what holds at every moment holds at the end
  pub at_last : (Q : World → Type 0) → ((b a : List Step) → steps ≡ b ++ a → Q (reached w b)) → Q w'
  at_last Q all = subst Q (sym (takes_reached net steps w w' calm.begun.takes)) (all steps [] (sym (append-nil steps)))
