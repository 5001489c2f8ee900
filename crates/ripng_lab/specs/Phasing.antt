-- Phases of a script: when all takes part in them, and why they stop.
use Rattle.std.specs.Prelude.{◌≡◌, ◌⊎◌, ℕ, ⊤, true, [], Option}
use Rattle.ripng_lab.specs.Below.{Error, LabValue, Told, Stopped, IsRefused, HasFailed, AreMadeInPart, AreMadePhases, PhaseRefused, OutOfMemory, Outages, Outage, LiedTo, Phases, Site, Lawful, Lied, Stop, Refused, Failed}
use Rattle.ripng_lab.specs.Asides.{Aside, CountsPhases}
use Rattle.ripng_lab.specs.ScriptWatching.{is_failure}

-- no router is silent, and no link is cut
abbrev pub AllTakePart : Outages → Type 0
AllTakePart outages = (outages.silent.items ≡ []) × (outages.cut.items ≡ [])

-- so many phases are made, and then the observer is notified how many, and which of them last changed some table
abbrev pub AreMadeAndCounted : {V : Type 0} → (V → Told → V → Type 0) → (V → Aside → V → Type 0) → LabValue × V → ℕ → LabValue × V → Type 0
AreMadeAndCounted {V} takes notes s phases s' =
    (v : V) × (last : Option ℕ) × AreMadePhases takes s.0.network (s.0.world, s.1) phases last (s'.0.world, v) × notes v (CountsPhases phases last) s'.1

-- what a script says where phases stop in the one of that number: the line is refused by it, unless memory or the observer failed
abbrev pub IsStopAt : ℕ → Stopped PhaseRefused Error → Stop → Type 0
IsStopAt phase (HasFailed error) stop = is_failure stop ≡ true
IsStopAt phase (IsRefused OutOfMemory) stop = is_failure stop ≡ true
IsStopAt phase (IsRefused refused) stop = stop ≡ Refused (Phases phase refused)

-- a line that is refused has made all phases before the one that it names, and some of that, up to where it could not go on
abbrev pub StopsInPhase : {V : Type 0} → (V → Told → V → Type 0) → (V → Told → V → Type 0) → LabValue × V → Stop → LabValue × V → Type 0
StopsInPhase takes fails s (Refused (Phases phase refused)) s' = AreMadeInPart {F = Error} takes fails s.0.network (s.0.world, s.1) phase (IsRefused refused) (s'.0.world, s'.1)
StopsInPhase takes fails s (Failed error) s' = ⊤
StopsInPhase takes fails s _ s' = ⊥

-- a router was lied to, or something takes no part, and nothing was done; or so it is
abbrev pub StopsPhases : {V : Type 0} → (V → Told → V → Type 0) → (V → Told → V → Type 0) → Site → Outages → V → Stop → LabValue × V → Type 0
StopsPhases takes fails (Lied lab) outages v stop s' = (stop ≡ Refused LiedTo) × (s' ≡ (lab, v))
StopsPhases takes fails (Lawful lab) outages v stop s' =
    ((AllTakePart outages → ⊥) × (stop ≡ Refused Outage) × (s' ≡ (lab, v))) ⊎ (AllTakePart outages × StopsInPhase takes fails (lab, v) stop s')
