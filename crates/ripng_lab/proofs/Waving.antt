-- Waves: what happens in turn, first ticks and then deliveries.
use Rattle.std.proofs.Common.{◌≡◌, ◌∙◌, inl, inr, All, ℕ, Bool, true, false, List, [], ◌∷◌, ◌++◌, map, append-nil, append_assoc, ap, refl, sym, subst, is_some, Option, None, Some, Result, Ok, Err, OnOk}
use Rattle.std.proofs.lemmas.List.Elements.{All-append, All-nil}
use Rattle.router_core.specs.Received.{Received}
use Rattle.ripng_world.specs.Labs.{LabValue}
use Rattle.ripng_world.specs.Watching.{Told}
use Rattle.ripng_world.specs.World.{Event, LinkUp}
use Rattle.ripng_lab.specs.Asides.{Aside}
use Rattle.ripng_lab.specs.Asking.{AskAfter, IsQuestion}
use Rattle.ripng_lab.specs.Doing.{AreAtEach, HasDone, InTurn, IsAtEach, IsBrought, IsDelivery, IsEvent, IsLie, IsNote, IsPlayed, IsWave}
use Rattle.ripng_lab.specs.Plans.{ticks_by, ticks_of}
use Rattle.ripng_lab.specs.ScriptWatching.{Telling}
use Rattle.ripng_lab.specs.declared.forms.Step.{Step}
use Rattle.ripng_lab.specs.declared.line.Line.{Line}
use Rattle.ripng_lab.specs.declared.plan.Outages.{Outages}
use Rattle.ripng_lab.specs.declared.plan.Ticking.{Ticking}
use Rattle.ripng_lab.specs.declared.plan.Wave.{Wave}
use Rattle.ripng_lab.proofs.ScriptWatching.{all_on}

-- of some, and then of others
pub turns_on : {X : Type 0} (h : X → List Telling → Type 0) (xs ys : List X) (ts us : List Telling) → InTurn h xs ts → InTurn h ys us → InTurn h (xs ++ ys) (ts ++ us)
turns_on h [] ys ts us none rest = subst (λ (vs : List Telling). InTurn h ys (vs ++ us)) (sym none) rest
turns_on h (x ∷ xs) ys ts us first rest = (
  first.0,
  first.1 ++ us,
  first.2,
  turns_on h xs ys first.1 us first.3 rest,
  ap (λ (vs : List Telling). vs ++ us) first.4 ∙ append_assoc first.0 first.1 us,
)

-- of one
pub one_turn : {X : Type 0} (h : X → List Telling → Type 0) (x : X) (ts : List Telling) → h x ts → InTurn h (x ∷ []) ts
one_turn h x ts own = (ts, [], own, refl, sym (append-nil ts))

-- what is brought may be an event
pub brought : (b : Bool) (es : List Event) (ts : List Telling) → InTurn (IsPlayed b) es ts → InTurn IsBrought es ts
brought b [] ts none = none
brought true (e ∷ es) ts turns = (turns.0, turns.1, turns.2, brought true es turns.1 turns.3, turns.4)
brought false (e ∷ es) ts turns = (turns.0, turns.1, inl turns.2, brought false es turns.1 turns.3, turns.4)

-- a wave by other names of its ticks and its moment
pub wave_as : (ticks other : List Event) (now moment : ℕ) (ts : List Telling) → ticks ≡ other → now ≡ moment → IsWave ticks now ts → IsWave other moment ts
wave_as ticks other now moment ts same at wave = subst (λ (es : List Event). IsWave es moment ts) same (subst (λ (m : ℕ). IsWave ticks m ts) at wave)

ticks_are : (wave : Wave) (ticking : Ticking) (now : ℕ) (outages : Outages) (routers : ℕ) → wave.ticking ≡ ticking → wave.moment ≡ now → ticks_of wave outages routers ≡ ticks_by ticking now outages routers
ticks_are wave ticking now outages routers is at = ap (λ (k : Ticking). ticks_by k wave.moment outages routers) is ∙ ap (λ (m : ℕ). ticks_by ticking m outages routers) at

module _ {V : Type 0} (st : V → LabValue → ℕ → V → Type 0) (t f : V → Told → V → Type 0) (n : V → Aside → V → Type 0) where
  -- nothing in turn
  pub none_in_turn : {X : Type 0} (h : X → List Telling → Type 0) (s : Option LabValue × V) → HasDone (InTurn h []) st t n s s
  none_in_turn h s = ([], refl, refl)

  -- one more
  pub turn_on : {X : Type 0} (h : X → List Telling → Type 0) (xs : List X) (x : X) (s mid s' : Option LabValue × V) → HasDone (InTurn h xs) st t n s mid → HasDone (h x) st t n mid s'
      → HasDone (InTurn h (xs ++ x ∷ [])) st t n s s'
  turn_on h xs x s mid s' first own = (
    first.0 ++ own.0,
    turns_on h xs (x ∷ []) first.0 own.0 first.1 (one_turn h x own.0 own.1),
    all_on st t f n first.0 own.0 s mid s' first.2 own.2,
  )

  -- a wave that has ticked, and one with more deliveries
  pub ticked : (ticks : List Event) (now : ℕ) (s s' : Option LabValue × V) → HasDone (InTurn (IsPlayed false) ticks) st t n s s' → HasDone (IsWave ticks now) st t n s s'
  ticked ticks now s s' done = (done.0, (done.0, [], done.1, [], All-nil (IsDelivery now), refl, sym (append-nil done.0)), done.2)

  pub wave_on : (ticks : List Event) (now : ℕ) (b : Bool) (events : List Event) (s mid s' : Option LabValue × V) → All (IsDelivery now) events → HasDone (IsWave ticks now) st t n s mid
      → HasDone (InTurn (IsPlayed b) events) st t n mid s' → HasDone (IsWave ticks now) st t n s s'
  wave_on ticks now b events s mid s' all first own =
      let w = first.1 in (
        first.0 ++ own.0,
        (
          w.0,
          w.1 ++ own.0,
          w.2,
          w.3 ++ events,
          All-append (IsDelivery now) w.3 events w.4 all,
          turns_on IsBrought w.3 events w.1 own.0 w.5 (brought b events own.0 own.1),
          ap (λ (vs : List Telling). vs ++ own.0) w.6 ∙ append_assoc w.0 w.1 own.0,
        ),
        all_on st t f n first.0 own.0 s mid s' first.2 own.2,
      )

  -- events that are played in turn, at each interface of a link
  pub each_done : {X E : Type 0} (r : Result X E) (kind : Step) (line : Line) (events : List Event) (s s' : Option LabValue × V) → AreAtEach kind line events
      → OnOk r (HasDone (InTurn (IsPlayed false) events) st t n s s') → OnOk r (HasDone (IsAtEach kind line) st t n s s')
  each_done (Ok x) kind line events s s' are done = (done.0, (events, are, done.1), done.2)
  each_done (Err e) kind line events s s' are done = tt

  -- what comes of an event: it happens; or nothing does, or a forged Response comes, where there is something in its place
  pub played : {X E A : Type 0} (r : Result X E) (instead : Option A) (e : Event) (s s' : Option LabValue × V) → OnOk r (HasDone (IsEvent e) st t n s s')
      → OnOk r (HasDone (IsPlayed (is_some instead) e) st t n s s')
  played r None e s s' done = done
  played (Ok x) (Some a) e s s' done = (done.0, inl done.1, done.2)
  played (Err k) (Some a) e s s' done = tt

  pub played_nothing : {A : Type 0} (instead : Option A) (a : A) (e : Event) (s : Option LabValue × V) → instead ≡ Some a → HasDone (IsPlayed (is_some instead) e) st t n s s
  played_nothing {A} instead a e s is = subst (λ (o : Option A). HasDone (IsPlayed (is_some o) e) st t n s s) (sym is) ([], inr (inl refl), refl)

  pub played_lie : {X E A : Type 0} (r : Result X E) (instead : Option A) (a : A) (e : Event) (router : ℕ) (x : Received) (s s' : Option LabValue × V) → instead ≡ Some a → IsDelivery x.now e
      → OnOk r (HasDone (IsLie router x) st t n s s') → OnOk r (HasDone (IsPlayed (is_some instead) e) st t n s s')
  played_lie {A = A} (Ok y) instead a e router x s s' is delivers done =
      subst (λ (o : Option A). HasDone (IsPlayed (is_some o) e) st t n s s') (sym is) (done.0, inr (inr (router, x, delivers, done.1)), done.2)
  played_lie (Err k) instead a e router x s s' is delivers done = tt

  -- what has that meaning has another that follows from it
  pub done_as : {X E : Type 0} (r : Result X E) (means other : List Telling → Type 0) (s s' : Option LabValue × V) → ((ts : List Telling) → means ts → other ts)
      → OnOk r (HasDone means st t n s s') → OnOk r (HasDone other st t n s s')
  done_as (Ok x) means other s s' leads done = (done.0, leads done.0 done.1, done.2)
  done_as (Err e) means other s s' leads done = tt

  -- the wave of a line, by who ticks in it
  pub wave_done : {X E : Type 0} (r : Result X E) (means : List Telling → Type 0) (wave : Wave) (ticking : Ticking) (now : ℕ) (outages : Outages) (s s' : Option LabValue × V)
      → wave.ticking ≡ ticking → wave.moment ≡ now → ((ts : List Telling) (routers : ℕ) → IsWave (ticks_by ticking now outages routers) now ts → means ts)
      → OnOk r (HasDone (λ ts. (routers : ℕ) × IsWave (ticks_of wave outages routers) wave.moment ts) st t n s s') → OnOk r (HasDone means st t n s s')
  wave_done r means wave ticking now outages s s' is at leads done =
      done_as r (λ ts. (routers : ℕ) × IsWave (ticks_of wave outages routers) wave.moment ts) means s s'
      (λ ts w. leads ts w.0 (wave_as (ticks_of wave outages w.0) (ticks_by ticking now outages w.0) wave.moment now ts (ticks_are wave ticking now outages w.0 is at) at w.1)) done

  -- a router asks: it is noted why, and then it sends its Requests
  pub question_done : {X E : Type 0} (r : Result X E) (router now : ℕ) (ifaces : List ℕ) (events : List Event) (s mid s' : Option LabValue × V) → events ≡ map (λ iface. LinkUp router now iface) ifaces
      → HasDone IsNote st t n s mid → OnOk r (HasDone (InTurn (IsPlayed false) events) st t n mid s') → OnOk r (HasDone (IsQuestion router) st t n s s')
  question_done (Ok x) router now ifaces events s mid s' are note done = (
    note.0 ++ done.0,
    (now, ifaces, done.0, subst (λ (es : List Event). InTurn IsEvent es done.0) are done.1, ap (λ (us : List Telling). us ++ done.0) note.1),
    all_on st t f n note.0 done.0 s mid s' note.2 done.2,
  )
  question_done (Err e) router now ifaces events s mid s' are note done = tt

  -- no router asks
  pub none_ask : (s : Option LabValue × V) → HasDone (AskAfter true) st t n s s
  none_ask s = ([], ([], refl), refl)

  -- one router asks
  pub one_asks : {X E : Type 0} (r : Result X E) (router : ℕ) (s s' : Option LabValue × V) → OnOk r (HasDone (IsQuestion router) st t n s s') → OnOk r (HasDone (AskAfter true) st t n s s')
  one_asks (Ok x) router s s' own = (own.0, (router ∷ [], one_turn IsQuestion router own.0 own.1), own.2)
  one_asks (Err e) router s s' own = tt

  -- some ask, and then others
  pub asks_on : (s mid s' : Option LabValue × V) → HasDone (AskAfter true) st t n s mid → HasDone (AskAfter true) st t n mid s' → HasDone (AskAfter true) st t n s s'
  asks_on s mid s' first rest = (
    first.0 ++ rest.0,
    (first.1.0 ++ rest.1.0, turns_on IsQuestion first.1.0 rest.1.0 first.0 rest.0 first.1.1 rest.1.1),
    all_on st t f n first.0 rest.0 s mid s' first.2 rest.2,
  )
