-- What the observer of a script is notified of: the start of a lab, and then just the run that is done, event by event.
use Rattle.std.specs.Prelude.{◌≡◌, ◌⊎◌, ℕ, Bool, true, false, List, [], ◌∷◌, Option, Some, None, Result, Ok, Err}
use Rattle.ripng_lab.specs.Below.{AllByRecursion, Answer, LabValue, Told, telling, Lies, Event, Stranger, Happens, IsCold, Received, Course, Site, Lawful, Lied, Stop, Refused, Unmet, Failed, Numbers}
use Rattle.ripng_lab.specs.Asides.{Aside, NextLine, Prints, CountsPhases, ShowsCounts, Lie, Broken}

-- what an observer is notified of: that all routers have started, at one moment; that an event was done, with its answer; the number of
-- the script's next line; what a line prints, or why it ends the script; how many phases a line has made, and which last changed some
-- table; what was counted since the start; or that a forged Response came, after which nothing is promised of the network
pub data Telling : Type 0 where
  Starts : (now : ℕ) → Telling
  Does : Event → Answer → Telling
  Turns : (number : ℕ) → Telling
  Notes : Telling
  Counts : (phases : ℕ) → (last : Option ℕ) → Telling
  Shows : Numbers → Telling
  Deceives : (router : ℕ) → Received → Answer → Telling

-- all routers of a network have started at one moment
abbrev pub StartsAt : LabValue → ℕ → Type 0
StartsAt lab now = (moments : List ℕ) × AllByRecursion (λ m. m ≡ now) moments × IsCold lab.network moments lab.world

-- one notification, and what it is of: a lab that starts, where there was none; an event that happens in the lab, with the
-- router's answer; or nothing that happens in it
abbrev pub TellsWatcher : {V : Type 0} → (V → LabValue → ℕ → V → Type 0) → (V → Told → V → Type 0) → (V → Aside → V → Type 0) → Telling → Option LabValue × V → Option LabValue × V → Type 0
TellsWatcher starts takes notes (Starts now) s s' = (s.0 ≡ None) × (lab : LabValue) × (s'.0 ≡ Some lab) × StartsAt lab now × starts s.1 lab now s'.1
TellsWatcher starts takes notes (Does e answer) s s' =
    (lab : LabValue) × (s.0 ≡ Some lab) × (lab' : LabValue) × (s'.0 ≡ Some lab') × (lab'.network ≡ lab.network) × Happens lab.network lab.world e answer lab'.world
    × takes s.1 (telling lab.network lab.world e answer lab'.world) s'.1
TellsWatcher starts takes notes (Turns number) s s' = (s'.0 ≡ s.0) × notes s.1 (NextLine number) s'.1
TellsWatcher starts takes notes Notes s s' = (s'.0 ≡ s.0) × notes s.1 Prints s'.1
TellsWatcher starts takes notes (Counts phases last) s s' = (s'.0 ≡ s.0) × notes s.1 (CountsPhases phases last) s'.1
TellsWatcher starts takes notes (Shows numbers) s s' = (s'.0 ≡ s.0) × notes s.1 (ShowsCounts numbers) s'.1
TellsWatcher starts takes notes (Deceives router x answer) s s' =
    (lab : LabValue) × (s.0 ≡ Some lab) × (lab' : LabValue) × (s'.0 ≡ Some lab') × (lab'.network ≡ lab.network) × Lies lab.world router x answer lab'.world
    × notes s.1 (Lie (telling lab.network lab.world (Stranger router x) answer lab'.world)) s'.1

-- one after another, and nothing else happens in the lab
abbrev pub TellsAll : {V : Type 0} → (V → LabValue → ℕ → V → Type 0) → (V → Told → V → Type 0) → (V → Aside → V → Type 0) → Option LabValue × V → List Telling → Option LabValue × V → Type 0
TellsAll starts takes notes s [] s' = s' ≡ s
TellsAll {V} starts takes notes s (t ∷ ts) s' = (mid : Option LabValue × V) × TellsWatcher starts takes notes t s mid × TellsAll starts takes notes mid ts s'

-- the observer is notified of all that happens in the lab, and of nothing else
abbrev pub IsToldOfLab : {V : Type 0} → (V → LabValue → ℕ → V → Type 0) → (V → Told → V → Type 0) → (V → Aside → V → Type 0) → Option LabValue × V → Option LabValue × V → Type 0
IsToldOfLab starts takes notes s s' = (ts : List Telling) × TellsAll starts takes notes s ts s'

-- memory runs out, without a notification; or one fails that is of no event
abbrev pub FailsAtRest : {V : Type 0} → (V → Aside → V → Type 0) → Option LabValue × V → Option LabValue × V → Type 0
FailsAtRest notes s s' = (s'.0 ≡ s.0) × ((s'.1 ≡ s.1) ⊎ notes s.1 Broken s'.1)

-- an event happens, and the notification of it fails
abbrev pub FailsAtEvent : {V : Type 0} → (V → Told → V → Type 0) → Option LabValue × V → Option LabValue × V → Type 0
FailsAtEvent fails s s' =
    (lab : LabValue) × (s.0 ≡ Some lab) × (lab' : LabValue) × (s'.0 ≡ Some lab') × (lab'.network ≡ lab.network)
    × (e : Event) × (answer : Answer) × Happens lab.network lab.world e answer lab'.world × fails s.1 (telling lab.network lab.world e answer lab'.world) s'.1

-- a forged Response comes, and the notification of it fails
abbrev pub FailsAtLie : {V : Type 0} → (V → Aside → V → Type 0) → Option LabValue × V → Option LabValue × V → Type 0
FailsAtLie notes s s' =
    (lab : LabValue) × (s.0 ≡ Some lab) × (lab' : LabValue) × (s'.0 ≡ Some lab') × (lab'.network ≡ lab.network)
    × (router : ℕ) × (x : Received) × (answer : Answer) × Lies lab.world router x answer lab'.world × notes s.1 Broken s'.1

-- the same up to where memory or the observer failed: where nothing happened, or at an event or a forged Response, which stays done
abbrev pub IsToldUntil : {V : Type 0} → (V → LabValue → ℕ → V → Type 0) → (V → Told → V → Type 0) → (V → Told → V → Type 0) → (V → Aside → V → Type 0) → Option LabValue × V → Option LabValue × V → Type 0
IsToldUntil {V} starts takes fails notes s s' =
    (before : Option LabValue × V) × IsToldOfLab starts takes notes s before × (FailsAtRest notes before s' ⊎ (FailsAtEvent fails before s' ⊎ FailsAtLie notes before s'))

-- whether a script ends because memory or the observer failed
abbrev pub is_failure : Stop → Bool
is_failure (Refused why) = false
is_failure (Unmet unmet) = false
is_failure (Failed error) = true

abbrev pub has_failed : {X : Type 0} → Result X Stop → Bool
has_failed (Ok x) = false
has_failed (Err stop) = is_failure stop

abbrev pub IsToldUnless : {V : Type 0} → Bool → (V → LabValue → ℕ → V → Type 0) → (V → Told → V → Type 0) → (V → Told → V → Type 0) → (V → Aside → V → Type 0) → Option LabValue × V → Option LabValue × V → Type 0
IsToldUnless false starts takes fails notes s s' = IsToldOfLab starts takes notes s s'
IsToldUnless true starts takes fails notes s s' = IsToldUntil starts takes fails notes s s'

-- the same of an outcome: a line that is refused, or expects what is not so, has notified of all
abbrev pub HasTold : {X V : Type 0} → Result X Stop → (V → LabValue → ℕ → V → Type 0) → (V → Told → V → Type 0) → (V → Told → V → Type 0) → (V → Aside → V → Type 0) → Option LabValue × V → Option LabValue × V → Type 0
HasTold outcome starts takes fails notes s s' = IsToldUnless (has_failed outcome) starts takes fails notes s s'

-- where a script's routers run, whether one of them was lied to or not
abbrev pub value_of : Site → LabValue
value_of (Lawful lab) = lab
value_of (Lied running) = running

-- the lab of a script, once it runs
abbrev pub lab_in : Option Course → Option LabValue
lab_in None = None
lab_in (Some course) = Some (value_of course.site)
