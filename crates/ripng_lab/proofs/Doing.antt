-- What lines make happen, just as they mean.
use Rattle.std.proofs.Common.{◌≡◌, ◌⊎◌, inl, inr, ℕ, Bool, List, [], ◌∷◌, ◌++◌, ap, length, Option, Some, None, Result, Ok, Err, OnOk, refl, sym, subst}
use Rattle.router_core.specs.declared.answer.Answer.{Answer}
use Rattle.router_core.specs.Received.{Received}
use Rattle.ripng_world.specs.Labs.{LabValue, HappensGiving}
use Rattle.ripng_world.specs.Lying.{LiesGiving}
use Rattle.ripng_world.specs.Network.{Network}
use Rattle.ripng_world.specs.Watching.{Told}
use Rattle.ripng_world.specs.World.{Event, Stranger}
use Rattle.ripng_world.proofs.Watched.{given_told}
use Rattle.ripng_lab.specs.Asides.{Aside, Prints, CountsPhases, ShowsCounts, Lie}
use Rattle.ripng_lab.specs.Below.{Numbers}
use Rattle.ripng_lab.specs.Doing.{arrival_by, EndsIn, EndsInPhases, HasDone, IsEvent, IsLie, IsNote, IsShown, MeansAct, MeansVerb, Means}
use Rattle.ripng_lab.specs.ScriptWatching.{Telling, Starts, Does, Notes, Counts, Shows, Deceives, StartsAt, IsToldOfLab}
use Rattle.ripng_lab.specs.declared.forms.Action.{Action}
use Rattle.ripng_lab.specs.declared.forms.Action.TheVariants as action
use Rattle.ripng_lab.specs.declared.forms.Verb.{Verb}
use Rattle.ripng_lab.specs.Scripts.{asks_by, awaited_by}
use Rattle.ripng_lab.specs.declared.forms.Verb.TheVariants as verb
use Rattle.ripng_lab.specs.declared.line.Line.{Line}
use Rattle.ripng_lab.specs.declared.stop.RefusalName.{RefusalName}
use Rattle.ripng_lab.proofs.ScriptWatching.{all_on}

-- an error has done nothing that is said
not_both : {X E : Type 0} (x : X) (e : E) → Ok x ≡ Err e → ⊥
not_both x e is = cc

pub not_ok : {X E : Type 0} (r : Result X E) (P : Type 0) (e : E) → r ≡ Err e → OnOk r P
not_ok (Ok x) P e is = absurd (not_both x e is)
not_ok (Err d) P e is = tt

-- a verb that lists a part of a network, as carry_out tests it
abbrev pub IsListing : Verb → Type 0
IsListing v = ((quiet : Bool) × (v ≡ verb.Router quiet)) ⊎ ((v ≡ verb.Interface) ⊎ (v ≡ verb.Prefixes))

-- by a verb of another name, a refusal is awaited as by that; where a part is listed, as before
pub awaits_as : (v w : Verb) (refusal before after : Option RefusalName) → v ≡ w → after ≡ awaited_by w refusal before → after ≡ awaited_by v refusal before
awaits_as v w refusal before after is awaits = subst (λ (x : Verb). after ≡ awaited_by x refusal before) (sym is) awaits

pub awaits_listed : (v : Verb) (refusal before after : Option RefusalName) → IsListing v → after ≡ before → after ≡ awaited_by v refusal before
awaits_listed v refusal before after (inl is) same = awaits_as v (verb.Router is.0) refusal before after is.1 same
awaits_listed v refusal before after (inr (inl is)) same = awaits_as v verb.Interface refusal before after is same
awaits_listed v refusal before after (inr (inr is)) same = awaits_as v verb.Prefixes refusal before after is same

-- the same of whether routers ask
pub asks_as : (v w : Verb) (before after : Bool) → v ≡ w → after ≡ asks_by w before → after ≡ asks_by v before
asks_as v w before after is asks = subst (λ (x : Verb). after ≡ asks_by x before) (sym is) asks

pub asks_listed : (v : Verb) (before after : Bool) → IsListing v → after ≡ before → after ≡ asks_by v before
asks_listed v before after (inl is) same = asks_as v (verb.Router is.0) before after is.1 same
asks_listed v before after (inr (inl is)) same = asks_as v verb.Interface before after is same
asks_listed v before after (inr (inr is)) same = asks_as v verb.Prefixes before after is same

pub asked_as : {X E : Type 0} (r : Result X E) (v : Verb) (asks before after : Bool) → v ≡ verb.Asking asks → OnOk r (after ≡ asks) → OnOk r (after ≡ asks_by v before)
asked_as (Ok x) v asks before after is now = asks_as v (verb.Asking asks) before after is now
asked_as (Err e) v asks before after is now = tt

module _ {V : Type 0} (st : V → LabValue → ℕ → V → Type 0) (t f : V → Told → V → Type 0) (n : V → Aside → V → Type 0) where
  -- nothing is done
  pub nothing_done : (s : Option LabValue × V) → HasDone (λ ts. ts ≡ []) st t n s s
  nothing_done s = ([], refl, refl)

  -- an action by another name
  pub act_done : {X E : Type 0} (r : Result X E) (a b : Action) (line : Line) (s s' : Option LabValue × V) → a ≡ b → OnOk r (HasDone (MeansAct b line) st t n s s')
      → OnOk r (HasDone (MeansAct a line) st t n s s')
  act_done r a b line s s' is done = subst (λ (x : Action). OnOk r (HasDone (MeansAct x line) st t n s s')) (sym is) done

  -- a verb by another name
  pub verb_done : {X E : Type 0} (r : Result X E) (line : Line) (b : Verb) (s s' : Option LabValue × V) → line.verb ≡ b → OnOk r (HasDone (MeansVerb b line) st t n s s')
      → OnOk r (HasDone (Means line) st t n s s')
  verb_done r line b s s' is done = subst (λ (x : Verb). OnOk r (HasDone (MeansVerb x line) st t n s s')) (sym is) done

  -- nothing happens, and the lab has another name
  pub still_done : {X E : Type 0} (r : Result X E) (lab lab' : Option LabValue) (v : V) → lab' ≡ lab → OnOk r (HasDone (λ ts. ts ≡ []) st t n (lab, v) (lab', v))
  still_done (Ok x) lab lab' v same = subst (λ (l : Option LabValue). HasDone (λ ts. ts ≡ []) st t n (lab, v) (l, v)) (sym same) (nothing_done (lab, v))
  still_done (Err e) lab lab' v same = tt

  -- a line that lists a part of a network
  pub listed : {X E : Type 0} (r : Result X E) (line : Line) (lab lab' : Option LabValue) (v : V) → IsListing line.verb → lab' ≡ lab → OnOk r (HasDone (Means line) st t n (lab, v) (lab', v))
  listed r line lab lab' v (inl is) same = verb_done r line (verb.Router is.0) (lab, v) (lab', v) is.1 (still_done r lab lab' v same)
  listed r line lab lab' v (inr (inl is)) same = verb_done r line verb.Interface (lab, v) (lab', v) is (still_done r lab lab' v same)
  listed r line lab lab' v (inr (inr is)) same = verb_done r line verb.Prefixes (lab, v) (lab', v) is (still_done r lab lab' v same)

  -- from another name of the lab
  pub done_from : {X E : Type 0} (r : Result X E) (means : List Telling → Type 0) (from lab : Option LabValue) (v : V) (s' : Option LabValue × V) → from ≡ lab → OnOk r (HasDone means st t n (lab, v) s')
      → OnOk r (HasDone means st t n (from, v) s')
  done_from r means from lab v s' same done = subst (λ (l : Option LabValue). OnOk r (HasDone means st t n (l, v) s')) (sym same) done

  -- a forged Response with bytes that a line stands for
  pub forged : {X E : Type 0} (r : Result X E) (line : Line) (x : Received) (bytes : List ℕ) (s s' : Option LabValue × V) → x ≡ arrival_by line bytes → OnOk r (HasDone (IsLie line.router x) st t n s s')
      → OnOk r (HasDone (λ ts. (by : List ℕ) × IsLie line.router (arrival_by line by) ts) st t n s s')
  forged (Ok y) line x bytes s s' is done = (done.0, (bytes, subst (λ (y : Received). IsLie line.router y done.0) is done.1), done.2)
  forged (Err e) line x bytes s s' is done = tt

  pub note_done : (lab : Option LabValue) (v v' : V) → n v Prints v' → HasDone IsNote st t n (lab, v) (lab, v')
  note_done lab v v' note = (Notes ∷ [], refl, ((lab, v'), (refl, note), refl))

  pub start_done : (lab : LabValue) (now : ℕ) (v v' : V) → StartsAt lab now → st v lab now v' → HasDone (λ ts. ts ≡ Starts now ∷ []) st t n (None, v) (Some lab, v')
  start_done lab now v v' starts told = (Starts now ∷ [], refl, ((Some lab, v'), (refl, lab, refl, starts, told), refl))

  pub event_done : (lab lab' : LabValue) (e : Event) (given : Answer) (first : ℕ) (v v' : V) (happens : HappensGiving lab e given lab'.world) → lab'.network ≡ lab.network
      → first ≡ length lab.world.sent → t v (record { lab = lab'; event = e; answer = given; first = first }) v' → HasDone (IsEvent e) st t n (Some lab, v) (Some lab', v')
  event_done lab lab' e given first v v' happens same first_is told = (
    Does e happens.0 ∷ [],
    (happens.0, refl),
    (
      (Some lab', v'),
      (lab, refl, lab', refl, same, happens.1, given_told t lab lab' e given first v v' happens same first_is told),
      refl,
    ),
  )

  pub lie_done : (lab lab' : LabValue) (router : ℕ) (x : Received) (given : Answer) (first : ℕ) (v v' : V) (lies : LiesGiving lab router x given lab'.world) → lab'.network ≡ lab.network
      → first ≡ length lab.world.sent → n v (Lie (record { lab = lab'; event = Stranger router x; answer = given; first = first })) v' → HasDone (IsLie router x) st t n (Some lab, v) (Some lab', v')
  lie_done lab lab' router x given first v v' lies same first_is told = (
    Deceives router x lies.0 ∷ [],
    (lies.0, refl),
    (
      (Some lab', v'),
      (
        lab,
        refl,
        lab',
        refl,
        same,
        lies.1,
        subst (λ (k : ℕ). n v (Lie (record { lab = record { network = lab.network; world = lab'.world }; event = Stranger router x; answer = record lies.0 { sends = [] }; first = k })) v') first_is
            (subst (λ (a : Answer). n v (Lie (record { lab = record { network = lab.network; world = lab'.world }; event = Stranger router x; answer = a; first = first })) v') lies.2
            (subst (λ (net : Network). n v (Lie (record { lab = record { network = net; world = lab'.world }; event = Stranger router x; answer = given; first = first })) v') same told)),
      ),
      refl,
    ),
  )

  -- the arrival of an outside host's datagram, with bytes that a line stands for
  pub arrival_done : {X E : Type 0} (r : Result X E) (line : Line) (x : Received) (bytes : List ℕ) (s s' : Option LabValue × V) → x ≡ arrival_by line bytes
      → OnOk r (HasDone (IsEvent (Stranger line.router x)) st t n s s') → OnOk r (HasDone (MeansAct action.Arrive line) st t n s s')
  arrival_done (Ok r) line x bytes s s' is done =
      (done.0, (bytes, subst (λ (y : Received). IsEvent (Stranger line.router y) done.0) is done.1), done.2)
  arrival_done (Err e) line x bytes s s' is done = tt

  -- all that is told, and then a note
  pub noted_done : {X E : Type 0} (r : Result X E) (s mid s' : Option LabValue × V) → IsToldOfLab st t n s mid → OnOk r (HasDone IsNote st t n mid s') → OnOk r (HasDone (EndsIn Notes) st t n s s')
  noted_done (Ok x) s mid s' told done =
      (told.0 ++ done.0, (told.0, ap (λ (us : List Telling). told.0 ++ us) done.1), all_on st t f n told.0 done.0 s mid s' told.1 done.2)
  noted_done (Err e) s mid s' told done = tt

  -- all that is told, and then a number of phases
  pub counted_done : (s : Option LabValue × V) (lab : Option LabValue) (v v' : V) (phases : ℕ) (last : Option ℕ) → IsToldOfLab st t n s (lab, v) → n v (CountsPhases phases last) v'
      → HasDone (EndsInPhases phases) st t n s (lab, v')
  counted_done s lab v v' phases last told note = (
    told.0 ++ Counts phases last ∷ [],
    (last, (told.0, refl)),
    all_on st t f n told.0 (Counts phases last ∷ []) s (lab, v) (lab, v') told.1 ((lab, v'), (refl, note), refl),
  )

  -- what was counted is shown
  pub shown_done : (lab : Option LabValue) (v v' : V) (numbers : Numbers) → n v (ShowsCounts numbers) v' → HasDone IsShown st t n (lab, v) (lab, v')
  shown_done lab v v' numbers note = (Shows numbers ∷ [], (numbers, refl), ((lab, v'), (refl, note), refl))
