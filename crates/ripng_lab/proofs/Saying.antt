-- What the lines of a script make happen, one after another.
use Rattle.std.specs.Prelude.{⊤}
use Rattle.std.proofs.Common.{◌≡◌, ◌<◌, ◌+◌, ◌∙◌, ℕ, Bool, true, false, List, [], ◌∷◌, ◌++◌, append-nil, append_assoc, ap₂, arith, ◌≤◌, Option, Some, None, is_some, Result, Ok, Err, IfOk, IsErrAnd, OnErr, OnOk, ap, get_or, inl, inr, length, map, refl, sym, subst, suc, take, take-suc, take_all, zero, Bor}
use Rattle.std.proofs.lemmas.List.{length-map}
use Rattle.std.proofs.lemmas.List.FromFn.{length-enumerate_from}
use Rattle.std.specs.List.{enumerate_from}
use Rattle.ripng_world.specs.Labs.{LabValue}
use Rattle.ripng_world.specs.Watching.{Told}
use Rattle.ripng_lab.specs.Asides.{Aside, NextLine, Prints}
use Rattle.ripng_lab.specs.Doing.{HasDone, Means}
use Rattle.ripng_lab.specs.Asking.{AskAfter}
use Rattle.ripng_lab.specs.Scripts.{AreSaid, EndsScript, HasWords, IsBlank, IsFollowed, IsObeyed, IsOfScript, IsVerbOf, Mode, Says, asks_by, at_begin, awaited_by, lines_of, numbered}
use Rattle.ripng_lab.specs.ScriptWatching.{Telling, Notes, Turns, TellsAll, IsToldOfLab, HasTold, is_failure}
use Rattle.ripng_lab.specs.declared.line.Line.{Line}
use Rattle.ripng_lab.specs.declared.stop.RefusalName.{RefusalName}
use Rattle.ripng_lab.specs.declared.stop.Stop.{Stop}
use Rattle.ripng_lab.specs.declared.stop.Stop.TheVariants.{Refused, Unmet, Failed}
use Rattle.ripng_lab.proofs.ScriptWatching.{all_on}

apart : true ≡ false → ⊥
apart e = cc

-- one line more
pub said_on : (from : Mode) (lines : List (ℕ × List ℕ)) (line : ℕ × List ℕ) (ts own : List Telling) (mid end : Mode) → AreSaid from lines ts mid → Says mid line.1 own end
    → AreSaid from (lines ++ line ∷ []) (ts ++ Turns (line.0 + 1) ∷ own) end
said_on from [] line ts own mid end said says = (
  end,
  own,
  [],
  subst (λ (m : Mode). Says m line.1 own end) said.1 says,
  (refl, refl),
  ap (λ (us : List Telling). us ++ Turns (line.0 + 1) ∷ own) said.0 ∙ sym (append-nil (Turns (line.0 + 1) ∷ own)),
)
said_on from (x ∷ lines) line ts own mid end said says = (
  said.0,
  said.1,
  said.2 ++ Turns (line.0 + 1) ∷ own,
  said.3,
  said_on said.0 lines line said.2 own mid end said.4 says,
  ap (λ (us : List Telling). us ++ Turns (line.0 + 1) ∷ own) said.5 ∙ append_assoc (Turns (x.0 + 1) ∷ said.1) said.2 (Turns (line.0 + 1) ∷ own),
)

-- a numbered list has each number at its place
number_at : {X Y : Type 0} (h : X → Y) (xs : List X) (n k : ℕ) (x : X) (m : ℕ) → m ≡ n + k → k < length xs → x ≡ get_or xs k x → get_or (enumerate_from n (map h xs)) k (m, h x) ≡ (m, h x)
number_at h [] n k x m is below found = absurd (omega (arith, below))
number_at {X} {Y} h (y ∷ xs) n zero x m is below found = ap₂ (λ (a : ℕ) (b : Y). (a, b)) (omega (arith, is)) (ap h (sym found))
number_at h (y ∷ xs) n (suc k) x m is below found = number_at h xs (n + 1) k x m (omega (arith, is)) (omega (arith, below)) found

-- the lines that a loop over a script goes through
module _ (script : List ℕ) (lines : List (Bor (List ℕ))) (is : map (λ l. l.now) lines ≡ lines_of script) where
  pub as_many : length (lines_of script) ≡ length lines
  as_many = ap length (sym is) ∙ length-map lines (λ l. l.now)

  all_numbered : length (numbered script) ≡ length lines
  all_numbered = length-enumerate_from 0 (lines_of script) ∙ as_many

  pub next_line : (place : ℕ) (line : Bor (List ℕ)) → place < length lines → line ≡ get_or lines place line
      → take (place + 1) (numbered script) ≡ take place (numbered script) ++ (place, line.now) ∷ []
  next_line place line below found =
      let more : place + 1 ≡ suc place = omega arith in
      ap (λ (k : ℕ). take k (numbered script)) more ∙ take-suc (numbered script) place (place, line.now) (omega (arith, below, all_numbered))
      ∙ ap (λ (x : ℕ × List ℕ). take place (numbered script) ++ x ∷ [])
      (subst (λ (ls : List (List ℕ)). get_or (enumerate_from 0 ls) place (place, line.now) ≡ (place, line.now)) is
      (number_at (λ l. l.now) lines 0 place line place (omega arith) below found))

  pub whole : (place : ℕ) → length lines ≤ place → take place (numbered script) ≡ numbered script
  whole place all = take_all place (numbered script) (omega (arith, all, all_numbered))

module _ {V : Type 0} (st : V → LabValue → ℕ → V → Type 0) (t f : V → Told → V → Type 0) (n : V → Aside → V → Type 0) where
  -- what is done is told
  pub told_done : (means : List Telling → Type 0) (s s' : Option LabValue × V) → HasDone means st t n s s' → IsToldOfLab st t n s s'
  told_done means s s' done = (done.0, done.2)

  -- nothing is done yet
  pub begun : (mode : Mode) (lab : Option LabValue) (v : V) → lab ≡ None → mode ≡ at_begin → HasDone (λ ts. AreSaid at_begin [] ts mode) st t n (None, v) (lab, v)
  begun mode lab v none first = ([], (refl, first), ap (λ (l : Option LabValue). (l, v)) none)

  -- one line more, which the observer is notified of
  pub line_on : (lines : List (ℕ × List ℕ)) (line : ℕ × List ℕ) (number : ℕ) (mid end : Mode) (s s' : Option LabValue × V) (lab : Option LabValue) (v v' : V) → number ≡ line.0 + 1
      → HasDone (λ ts. AreSaid at_begin lines ts mid) st t n s (lab, v) → n v (NextLine number) v' → HasDone (λ ts. Says mid line.1 ts end) st t n (lab, v') s'
      → HasDone (λ ts. AreSaid at_begin (lines ++ line ∷ []) ts end) st t n s s'
  line_on lines line number mid end s s' lab v v' is before note own = (
    before.0 ++ Turns (line.0 + 1) ∷ own.0,
    said_on at_begin lines line before.0 own.0 mid end before.1 own.1,
    all_on st t f n before.0 (Turns (line.0 + 1) ∷ own.0) s (lab, v) s' before.2
        ((lab, v'), (refl, subst (λ (k : ℕ). n v (NextLine k) v') is note), own.2),
  )

  -- a line that is blank
  pub blank_done : (mode : Mode) (line : List ℕ) (s : Option LabValue × V) → IsBlank line → HasDone (λ ts. Says mode line ts mode) st t n s s
  blank_done mode line s blank = ([], inl (blank, refl, refl), refl)

  -- a line that is followed, and then routers ask
  pub says_done : {X E : Type 0} (r : Result X E) (line : List ℕ) (before mode end : Mode) (s mid s' : Option LabValue × V) → end ≡ mode
      → HasDone (λ ts. IsFollowed before line ts mode) st t n s mid → OnOk r (HasDone (AskAfter mode.asks) st t n mid s') → OnOk r (HasDone (λ ts. Says before line ts end) st t n s s')
  says_done (Ok x) line before mode end s mid s' same own asked = (
    own.0 ++ asked.0,
    subst (λ (m : Mode). Says before line (own.0 ++ asked.0) m) (sym same) (inr (own.0, asked.0, own.1, asked.1, refl)),
    all_on st t f n own.0 asked.0 s mid s' own.2 asked.2,
  )
  says_done (Err e) line before mode end s mid s' same own asked = tt

  -- a line that is read, and carried out
  pub obeyed : {X E : Type 0} (r : Result X E) (words : List ℕ) (line : Line) (awaited mid awaits : Option RefusalName) (asked now asks : Bool) (from lab : Option LabValue) (v : V) (s' : Option LabValue × V)
      → IsVerbOf line.verb words → lab ≡ from → mid ≡ awaited → now ≡ asked → OnOk r (HasDone (Means line) st t n (lab, v) s') → OnOk r (awaits ≡ awaited_by line.verb line.refusal mid)
      → OnOk r (asks ≡ asks_by line.verb now) → OnOk r (HasDone (λ ts. IsObeyed words awaited asked ts awaits asks) st t n (from, v) s')
  obeyed (Ok x) words line awaited mid awaits asked now asks from lab v s' verb same kept as_before done is by = (
    done.0,
    (line, verb, done.1, is ∙ ap (awaited_by line.verb line.refusal) kept, by ∙ ap (asks_by line.verb) as_before),
    subst (λ (l : Option LabValue). TellsAll st t n (l, v) done.0 s') same done.2,
  )
  obeyed (Err e) words line awaited mid awaits asked now asks from lab v s' verb same kept as_before done is by = tt

  -- where no refusal is awaited, a line does what its words say
  pub line_done : {X E : Type 0} (r : Result X E) (line words : List ℕ) (before mid awaits : Option RefusalName) (asked asks : Bool) (s s' : Option LabValue × V) → before ≡ None → mid ≡ None
      → HasWords line words → OnOk r (HasDone (λ ts. IsObeyed words mid asked ts awaits asks) st t n s s')
      → OnOk r (HasDone (λ ts. IsFollowed (record { awaits = is_some before; asks = asked }) line ts (record { awaits = is_some awaits; asks = asks })) st t n s s')
  line_done (Ok x) line words before mid awaits asked asks s s' none still has done = (
    done.0,
    inl (ap is_some none, (words, has, awaits, subst (λ (a : Option RefusalName). IsObeyed words a asked done.0 awaits asks) still done.1, refl)),
    done.2,
  )
  line_done (Err e) line words before mid awaits asked asks s s' none still has done = tt

  -- where one is, and the line is refused, it is as it should be
  refused_told : (q : Result ⊤ Stop) (s s' : Option LabValue × V) → IsErrAnd q (λ k. is_failure k ≡ false) → HasTold q st t f n s s' → IsToldOfLab st t n s s'
  refused_told (Ok x) s s' is told = absurd is
  refused_told (Err (Refused why)) s s' is told = told
  refused_told (Err (Unmet unmet)) s s' is told = told
  refused_told (Err (Failed error)) s s' is told = absurd (apart is)

  pub refused_done : {X E : Type 0} (r : Result X E) (q : Result ⊤ Stop) (line : List ℕ) (name : RefusalName) (before awaits : Option RefusalName) (asked asks : Bool) (s s' : Option LabValue × V)
      → before ≡ Some name → OnErr q (awaits ≡ None) → OnErr q (asks ≡ asked) → OnOk r (IsErrAnd q (λ k. is_failure k ≡ false)) → HasTold q st t f n s s'
      → OnOk r (HasDone (λ ts. IsFollowed (record { awaits = is_some before; asks = asked }) line ts (record { awaits = is_some awaits; asks = asks })) st t n s s')
  refused_done (Ok x) (Ok y) line name before awaits asked asks s s' some none same is told = absurd is
  refused_done (Ok x) (Err k) line name before awaits asked asks s s' some none same is told =
      let all = refused_told (Err k) s s' is told in
      (all.0, inr (ap is_some some, ap₂ (λ (a b : Bool). record { awaits = a; asks = b }) (ap is_some none) same), all.1)
  refused_done (Err e) q line name before awaits asked asks s s' some none same is told = tt

  -- a script that is done, and one that ends
  pub whole_done : (script : List ℕ) (lines : List (ℕ × List ℕ)) (done : Bool) (mode : Mode) (s : Option LabValue × V) (lab : Option LabValue) (v v' : V) → lines ≡ numbered script
      → HasDone (λ ts. AreSaid at_begin lines ts mode) st t n s (lab, v) → EndsScript done mode.awaits n v v' → HasDone (IsOfScript script done) st t n s (lab, v')
  whole_done script lines true mode s lab v v' is done ends =
      subst (λ (w : V). HasDone (IsOfScript script true) st t n s (lab, w)) (sym ends.1)
      (done.0, (mode, subst (λ (ls : List (ℕ × List ℕ)). AreSaid at_begin ls done.0 mode) is done.1, ends.0), done.2)
  whole_done script lines false mode s lab v v' is done ends = (
    done.0 ++ Notes ∷ [],
    inr (done.0, mode, subst (λ (ls : List (ℕ × List ℕ)). AreSaid at_begin ls done.0 mode) is done.1, ends.0, refl),
    all_on st t f n done.0 (Notes ∷ []) s (lab, v) (lab, v') done.2 ((lab, v'), (refl, ends.1), refl),
  )

  -- the same, whatever the outcome is
  pub if_whole : {E : Type 0} (r : Result Bool E) (script : List ℕ) (lines : List (ℕ × List ℕ)) (mode : Mode) (s : Option LabValue × V) (lab : Option LabValue) (v v' : V) → lines ≡ numbered script
      → HasDone (λ ts. AreSaid at_begin lines ts mode) st t n s (lab, v) → IfOk r (λ done. EndsScript done mode.awaits n v v')
      → IfOk r (λ done. (end : Option LabValue) × HasDone (IsOfScript script done) st t n s (end, v'))
  if_whole (Ok done) script lines mode s lab v v' is before ends = (lab, whole_done script lines done mode s lab v v' is before ends)
  if_whole (Err e) script lines mode s lab v v' is before ends = tt

  pub end_done : (script : List ℕ) (lines : List (ℕ × List ℕ)) (place number : ℕ) (mode : Mode) (k : Stop) (s : Option LabValue × V) (lab lab' : Option LabValue) (v v1 v2 v3 : V) → is_failure k ≡ false
      → place < length (lines_of script) → lines ≡ take place (numbered script) → number ≡ place + 1 → HasDone (λ ts. AreSaid at_begin lines ts mode) st t n s (lab, v) → n v (NextLine number) v1
      → HasTold {X = ⊤} (Err k) st t f n (lab, v1) (lab', v2) → n v2 Prints v3 → HasDone (IsOfScript script false) st t n s (lab', v3)
  end_done script lines place number mode k s lab lab' v v1 v2 v3 refuses below is number_is before note told prints =
      let own = refused_told (Err k) (lab, v1) (lab', v2) refuses told in (
        before.0 ++ Turns (place + 1) ∷ own.0 ++ Notes ∷ [],
        inl (place, below, before.0, own.0, mode, subst (λ (ls : List (ℕ × List ℕ)). AreSaid at_begin ls before.0 mode) is before.1, refl),
        all_on st t f n (before.0 ++ Turns (place + 1) ∷ own.0) (Notes ∷ []) s (lab', v2) (lab', v3)
            (all_on st t f n before.0 (Turns (place + 1) ∷ own.0) s (lab, v) (lab', v2) before.2
            ((lab, v1), (refl, subst (λ (m : ℕ). n v (NextLine m) v1) number_is note), own.1))
            ((lab', v3), (refl, prints), refl),
      )
