-- Who reads the lines of a trace has each router's table after each.
use Rattle.std.proofs.Common.{◌≡◌, ◌⊎◌, inl, inr, ℕ, Bool, true, false, refl, ap, sym, subst, subst₂, ◌∙◌, List, [], ◌∷◌, ◌++◌, map, Option, None, Some, IfOk, IfSome, OnErr, OnOk, Result, Ok, Err, option_map, get_or, slice_get, slice_set}
use Rattle.std.specs.FinMap as map_of
use Rattle.std.proofs.lemmas.List.{map-set}
use Rattle.route_table.specs.Table.{Table}
use Rattle.router_core.specs.Machine.{State, Happening, Arrives, Ticks, Restarts, ShutsDown, LinkGoesDown, LinkComesUp, Reconfigures}
use Rattle.router_core.specs.declared.answer.Answer.{Answer}
use Rattle.ripng_world.specs.Network.{Network}
use Rattle.ripng_world.specs.Rounds.{router_of}
use Rattle.ripng_world.specs.Labs.{LabValue}
use Rattle.ripng_world.specs.Watching.{Told, telling}
use Rattle.ripng_world.specs.World.{World, Event, Deliver, Stranger, Tick, Restart, Shutdown, LinkDown, LinkUp, Reconfigure, Happens, RouterMoves, arrival_of}
use Rattle.ripng_world.proofs.WorldRuns.{get_map}
use Rattle.ripng_lab.specs.Asides.{Aside, NextLine, Prints, CountsPhases, ShowsCounts, Lie, Broken}
use Rattle.ripng_lab.specs.ScriptWatching.{Telling, Starts, Does, Turns, Notes, Counts, Shows, Deceives, TellsAll, FailsAtRest, FailsAtEvent, FailsAtLie, IsToldUntil, StartsAt}
use Rattle.ripng_trace.specs.Events.{RecordTells}
use Rattle.ripng_trace.specs.Offers.{TellsOffers}
use Rattle.ripng_trace.specs.Scripts.{AreRecordsOf}
use Rattle.ripng_trace.specs.Reading.{AreWritten, IsTraced, IsTracedUntil, IsWritten, Line, StartLine, EventLine, AsideLine, Explains, HasWord, TellsMove, TellsOf, TellsScript, known_in, known_of, read_line, tables_in, tables_of}
use Rattle.ripng_trace.specs.Records.{LeadsTo, known_as, taken_out, with_routes}
use Rattle.ripng_trace.specs.Saying.{BreaksOff, EventIsTold, IsPrinted, Knows, Said, SaysAlone, SaysAside, SaysEvent, SaysMove, SaysStart}
use Rattle.ripng_trace.specs.Starting.{TellsStart}
use Rattle.ripng_trace.specs.Updates.{TellsUpdate}
use Rattle.ripng_trace.specs.declared.known.KnownRouter.{KnownRouter}
use Rattle.ripng_trace.specs.declared.records.Action.{Action}
use Rattle.ripng_trace.specs.declared.records.Action.TheVariants as action
use Rattle.ripng_trace.specs.declared.records.EventRecord.{EventRecord}
use Rattle.ripng_trace.specs.declared.records.StartRecord.{StartRecord}
use Rattle.ripng_trace.proofs.Getting.{get_here, get_some}
use Rattle.ripng_trace.proofs.Starting.{started}
use Rattle.ripng_trace.proofs.DueUpdates.{update_told}

-- ---- one event

-- one router moves, whatever happens
moved : (net : Network) (w : World) (e : Event) (answer : Answer) (w' : World) → Happens net w e answer w' → (what : Happening) × RouterMoves w (router_of e) what answer w'
moved net w (Deliver datagram router iface now) answer w' h = (Arrives (arrival_of net h.sent iface now), h.moves)
moved net w (Stranger router x) answer w' h = (Arrives x, h.moves)
moved net w (Tick router now word) answer w' h = (Ticks now word, h)
moved net w (Restart router now) answer w' h = (Restarts now, h)
moved net w (Shutdown router now) answer w' h = (ShutsDown now, h)
moved net w (LinkDown router now iface) answer w' h = (LinkGoesDown now iface, h)
moved net w (LinkUp router now iface) answer w' h = (LinkComesUp now iface, h)
moved net w (Reconfigure router now c) answer w' h = (Reconfigures now c, h)

of_some : {X : Type 0} (o : Option X) (x : X) (P : X → Type 0) → o ≡ Some x → IfSome o P → P x
of_some {X} o x P is h = subst (λ (p : Option X). IfSome p P) is h

pub on_ok : {X E P Q : Type 0} (r : Result X E) → OnOk r P → (P → Q) → OnOk r Q
on_ok (Ok x) p leads = leads p
on_ok (Err e) p leads = tt

-- what holds of an answer, with the answer by its name
pub with_answer : {X E : Type 0} (P : X → Type 0) (r : Result X E) → IfOk r P → OnOk r ((x : X) × (r ≡ Ok x) × P x)
with_answer P (Ok x) p = (x, refl, p)
with_answer P (Err e) p = tt

abbrev of_answer : {X E : Type 0} → X → Result X E → X
of_answer d (Ok x) = x
of_answer d (Err e) = d

no_answer : {X E : Type 0} (x : X) (e : E) → Err e ≡ Ok x → ⊥
no_answer x e is = cc

pub answered : {X E : Type 0} (P : X → Type 0) (r : Result X E) (x : X) → r ≡ Ok x → OnOk r ((y : X) × (r ≡ Ok y) × P y) → P x
answered P (Ok z) x is p = subst P (sym (ap (of_answer x) p.1) ∙ ap (of_answer x) is) p.2
answered P (Err e) x is p = absurd (no_answer x e is)

pub on_any : {X E P : Type 0} (r : Result X E) → P → OnErr r P
on_any (Ok x) p = tt
on_any (Err e) p = p

pub on_err : {X E P Q : Type 0} (r : Result X E) → OnErr r P → (P → Q) → OnErr r Q
on_err (Ok x) p leads = tt
on_err (Err e) p leads = leads p

-- the router that moved, and what its record leads to
module _ (is_forged : Bool) (l l1 : LabValue) (e : Event) (answer : Answer) (what : Happening) (move : RouterMoves l.world (router_of e) what answer l1.world)
    (known known' : Knows) (is : known.routers ≡ known_of l.world)
    (r : EventRecord) (told : EventIsTold is_forged known (telling l.network l.world e answer l1.world) r known') where
  was : slice_get known.routers r.router ≡ Some (known_as move.old)
  was =
      ap (slice_get known.routers) told.tells.router_is ∙ ap (λ (ks : List KnownRouter). slice_get ks (router_of e)) is
      ∙ get_map known_as l.world.states (router_of e) ∙ ap (option_map known_as) move.old_is

  is_now : slice_get l1.world.states r.router ≡ Some move.new
  is_now =
      ap (slice_get l1.world.states) told.tells.router_is ∙ ap (λ (ss : List State). slice_get ss (router_of e)) move.states
      ∙ get_here l.world.states (router_of e) move.old move.new move.old_is

  -- then each router is known
  known_after : known'.routers ≡ known_of l1.world
  known_after =
      of_some (slice_get l1.world.states r.router) move.new (λ (s : State). known'.routers ≡ slice_set known.routers r.router (known_as s)) is_now told.routers_are
      ∙ ap (λ (i : ℕ). slice_set known.routers i (known_as move.new)) told.tells.router_is ∙ ap (λ (ks : List KnownRouter). slice_set ks (router_of e) (known_as move.new)) is
      ∙ sym (map-set known_as l.world.states (router_of e) move.new) ∙ ap (map known_as) (sym move.states)

  leads : LeadsTo move.old.table r.news.routes.items r.news.gone.items move.new.table
  leads =
      of_some (slice_get l1.world.states r.router) move.new (λ (s : State). LeadsTo move.old.table r.news.routes.items r.news.gone.items s.table) is_now
      (of_some (slice_get known.routers r.router) (known_as move.old)
      (λ (k : KnownRouter). IfSome (slice_get l1.world.states r.router) (λ (s : State). LeadsTo k.table r.news.routes.items r.news.gone.items s.table)) was told.listed)

  table_was : slice_get (tables_of l.world) (router_of e) ≡ Some move.old.table
  table_was = get_map (λ (s : State). s.table) l.world.states (router_of e) ∙ ap (option_map (λ (s : State). s.table)) move.old_is

  -- and a reader has its table
  shown_after : (shown : List Table) → shown ≡ tables_of l.world → read_line shown (EventLine is_forged r) ≡ tables_of l1.world
  shown_after shown shows =
      ap (λ (i : ℕ). slice_set shown i (with_routes (taken_out (get_or shown i map_of.empty) r.news.gone.items) r.news.routes.items)) told.tells.router_is
      ∙ ap (λ (ts : List Table). slice_set ts (router_of e) (with_routes (taken_out (get_or ts (router_of e) map_of.empty) r.news.gone.items) r.news.routes.items)) shows
      ∙ ap (λ (t : Table). slice_set (tables_of l.world) (router_of e) (with_routes (taken_out t r.news.gone.items) r.news.routes.items))
      (get_some (tables_of l.world) (router_of e) move.old.table map_of.empty table_was)
      ∙ ap (slice_set (tables_of l.world) (router_of e)) leads
      ∙ sym (map-set (λ (s : State). s.table) l.world.states (router_of e) move.new) ∙ ap (map (λ (s : State). s.table)) (sym move.states)

-- the record explains the event
module _ (net : Network) (w : World) (e : Event) (answer : Answer) (mid : World) (happens : Happens net w e answer mid) (known known' : Knows) (is : known.routers ≡ known_of w)
    (r : EventRecord) (told : EventIsTold false known (telling net w e answer mid) r known') where
  explains_it : Explains (record { network = net; world = w }) e answer (record { network = net; world = mid }) r
  explains_it = record {
    offers = subst (λ (ks : List KnownRouter). TellsOffers ks (record { network = net; world = mid }) e answer.notes r.offers.items) is told.offers;
    update = update_told net w e answer mid happens r.update
        (subst (λ (ks : List KnownRouter). TellsUpdate ks (record { network = net; world = mid }) e r.update) is told.update);
  }

  explains : (l l1 : LabValue) → record { network = net; world = w } ≡ l → record { network = net; world = mid } ≡ l1 → Explains l e answer l1 r
  explains l l1 is_l is_l1 = subst₂ (λ (a b : LabValue). Explains a e answer b r) is_l is_l1 explains_it

-- ---- one line

-- a record that tells of a line tells of its own
told_itself : (is_forged : Bool) (line : ℕ) (what : Told) (r : EventRecord) → RecordTells is_forged line what r → RecordTells is_forged r.line what r
told_itself is_forged line what r t = subst (λ (n : ℕ). RecordTells is_forged n what r) (sym t.at_line) t

started_itself : (line : ℕ) (lab : LabValue) (now : ℕ) (r : StartRecord) → TellsStart line lab now r → TellsStart r.line lab r.now r
started_itself line lab now r t =
    subst (λ (n : ℕ). TellsStart r.line lab n r) (sym t.moment_is) (subst (λ (n : ℕ). TellsStart n lab now r) (sym t.at_line) t)

printed_words : (a : Action) → IsPrinted a → HasWord a
printed_words (action.Prints word lines text) is = is
printed_words (action.Asks names router now lost lost_at) is = tt
printed_words (action.Loses datagram) is = tt
printed_words (action.GoesRound rounds last) is = tt
printed_words (action.Makes made) is = tt
printed_words (action.Runs until seed) is = tt
printed_words (action.Tallies numbers) is = tt
printed_words (action.Ends how why hint) is = tt

-- what is left to be read
abbrev pub LinesFrom : Option LabValue → List Table → Said → List Telling → Option LabValue → Said → Type 0
LinesFrom lab shown said ts end said' =
    (lines : List Line) × TellsScript lab shown lines end × AreWritten lines said.written said'.written × AreRecordsOf said.known.line ts lines

module _ (lab mid end : Option LabValue) (shown : List Table) (said said1 said' : Said) (t : Telling) (ts : List Telling) where
  line_on : (line : Line) → TellsOf line lab mid → (read_line shown line ≡ tables_in mid) → IsWritten line said.written said1.written
      → ((lines : List Line) → AreRecordsOf said1.known.line ts lines → AreRecordsOf said.known.line (t ∷ ts) (line ∷ lines))
      → LinesFrom mid (read_line shown line) said1 ts end said' → LinesFrom lab shown said (t ∷ ts) end said'
  line_on line tells shows writes joins rest = (line ∷ rest.0, (mid, tells, shows, rest.1), (said1.written, writes, rest.2), joins rest.0 rest.3)

  -- no line
  none_on : mid ≡ lab → said1.written ≡ said.written → ((lines : List Line) → AreRecordsOf said1.known.line ts lines → AreRecordsOf said.known.line (t ∷ ts) lines)
      → LinesFrom mid shown said1 ts end said' → LinesFrom lab shown said (t ∷ ts) end said'
  none_on same unwritten joins rest = (
    rest.0,
    subst (λ (l : Option LabValue). TellsScript l shown rest.0 end) same rest.1,
    subst (λ (o : Option (List ℕ)). AreWritten rest.0 o said'.written) unwritten rest.2,
    joins rest.0 rest.3,
  )

  -- what a line does beside events
  aside_on : (a : Action) → HasWord a → mid ≡ lab → said.known.routers ≡ known_in lab → shown ≡ tables_in lab → SaysAlone a said said1
      → ((lines : List Line) → AreRecordsOf said1.known.line ts lines → AreRecordsOf said.known.line (t ∷ ts) (AsideLine (record { line = said.known.line; action = a }) ∷ lines))
      → (shown ≡ tables_in mid → said1.known.routers ≡ known_in mid → LinesFrom mid shown said1 ts end said')
      → LinesFrom lab shown said (t ∷ ts) end said'
  aside_on a worded same known shows says joins rest =
      let shows1 : shown ≡ tables_in mid = shows ∙ sym (ap tables_in same) in
      line_on (AsideLine (record { line = said.known.line; action = a })) (same, worded) shows1 says.writes joins
      (rest shows1 (ap (λ (k : Knows). k.routers) says.known_is ∙ known ∙ sym (ap known_in same)))

  -- an event, or a lie
  move_on : (is_forged : Bool) (l l1 : LabValue) → lab ≡ Some l → mid ≡ Some l1 → (e : Event) (answer : Answer) (what : Happening) → RouterMoves l.world (router_of e) what answer l1.world
      → said.known.routers ≡ known_of l.world → shown ≡ tables_in lab
      → (says : SaysMove is_forged said (telling l.network l.world e answer l1.world) said1) → TellsMove is_forged l l1 says.0
      → ((lines : List Line) → AreRecordsOf said1.known.line ts lines → AreRecordsOf said.known.line (t ∷ ts) (EventLine is_forged says.0 ∷ lines))
      → ((read_line shown (EventLine is_forged says.0) ≡ tables_in mid) → said1.known.routers ≡ known_in mid
      → LinesFrom mid (read_line shown (EventLine is_forged says.0)) said1 ts end said')
      → LinesFrom lab shown said (t ∷ ts) end said'
  move_on is_forged l l1 before after e answer what move is shows says tells joins rest =
      let r = says.0 in
      let shows1 : read_line shown (EventLine is_forged r) ≡ tables_in mid =
      shown_after is_forged l l1 e answer what move said.known said1.known is r says.1 shown (shows ∙ ap tables_in before) ∙ sym (ap tables_in after) in
      line_on (EventLine is_forged r) (l, before, l1, after, tells) shows1 says.2 joins
      (rest shows1 (known_after is_forged l l1 e answer what move said.known said1.known is r says.1 ∙ sym (ap known_in after)))

-- ---- a script, as one is told of it who makes of each telling what the tracer makes of it

module _ {V : Type 0} (f : V → Said) (st : V → LabValue → ℕ → V → Type 0) (t fl : V → Told → V → Type 0) (n : V → Aside → V → Type 0)
    (starts : (a : V) (lab : LabValue) (now : ℕ) (b : V) → st a lab now b → SaysStart (f a) lab now (f b)) (takes : (a : V) (what : Told) (b : V) → t a what b → SaysEvent (f a) what (f b))
    (fails : (a : V) (what : Told) (b : V) → fl a what b → BreaksOff (f a) what (f b)) (notes : (a : V) (what : Aside) (b : V) → n a what b → SaysAside (f a) what (f b)) where
  pub lines_told : (ts : List Telling) (lab : Option LabValue) (v : V) (end : Option LabValue) (v' : V) (shown : List Table)
      → shown ≡ tables_in lab → (f v).known.routers ≡ known_in lab → TellsAll st t n (lab, v) ts (end, v') → LinesFrom lab shown (f v) ts end (f v')
  lines_told [] lab v end v' shown shows known same =
      ([], ap (λ (s : Option LabValue × V). s.0) same, ap (λ (s : Option LabValue × V). (f s.1).written) same, refl)
  lines_told (Starts now ∷ ts) lab v end v' shown shows known told =
      let mid = told.0 in
      let begins = told.1 in
      let l = begins.1 in
      let says : SaysStart (f v) l now (f mid.1) = starts v l now mid.1 begins.4 in
      let r = says.0 in
      let routers = says.1.tells.routers in
      let shows1 : read_line shown (StartLine r) ≡ tables_in mid.0 =
      started r.routers.items l.world.states routers.as_many (λ k r is. ((routers.each k r is).state, (routers.each k r is).state_is, (routers.each k r is).routes_lead)) ∙ sym (ap tables_in begins.2) in
      let known1 : (f mid.1).known.routers ≡ known_in mid.0 =
      says.1.routers_are ∙ ap (λ (ks : List KnownRouter). ks ++ known_of l.world) (known ∙ ap known_in begins.0) ∙ sym (ap known_in begins.2) in
      line_on lab mid.0 end shown (f v) (f mid.1) (f v') (Starts now) ts (StartLine r)
      (begins.0, l, begins.2, subst (StartsAt l) (sym says.1.tells.moment_is) begins.3, started_itself (f v).known.line l now r says.1.tells)
      shows1 says.2 (λ lines rest. ((says.1.tells.at_line, says.1.tells.moment_is), subst (λ (k : ℕ). AreRecordsOf k ts lines) says.1.line_is rest))
      (lines_told ts mid.0 mid.1 end v' (read_line shown (StartLine r)) shows1 known1 told.2)
  lines_told (Does e answer ∷ ts) lab v end v' shown shows known told =
      let mid = told.0 in
      let done = told.1 in
      let l = done.0 in
      let l1 = done.2 in
      let what = telling l.network l.world e answer l1.world in
      let says : SaysEvent (f v) what (f mid.1) = takes v what mid.1 done.6 in
      let move = moved l.network l.world e answer l1.world done.5 in
      let known0 : (f v).known.routers ≡ known_of l.world = known ∙ ap known_in done.1 in
      move_on lab mid.0 end shown (f v) (f mid.1) (f v') (Does e answer) ts false l l1 done.1 done.3 e answer move.0 move.1 known0 shows says (
        e,
        answer,
        (done.4, done.5),
        told_itself false (f v).known.line what says.0 says.1.tells,
        explains l.network l.world e answer l1.world done.5 (f v).known (f mid.1).known known0 says.0 says.1 l l1 refl (ap (λ (n : Network). record { network = n; world = l1.world }) (sym done.4)),
      )
      (λ lines rest. ((says.1.tells.at_line, says.1.tells.event_is), subst (λ (k : ℕ). AreRecordsOf k ts lines) says.1.line_is rest))
      (λ shows1 known1. lines_told ts mid.0 mid.1 end v' (read_line shown (EventLine false says.0)) shows1 known1 told.2)
  lines_told (Turns number ∷ ts) lab v end v' shown shows known told =
      let mid = told.0 in
      let turns = told.1 in
      let turned : SaysAside (f v) (NextLine number) (f mid.1) = notes v (NextLine number) mid.1 turns.1 in
      none_on lab mid.0 end shown (f v) (f mid.1) (f v') (Turns number) ts turns.0 (ap (λ (s : Said). s.written) turned)
      (λ lines rest. subst (λ (k : ℕ). AreRecordsOf k ts lines) (ap (λ (s : Said). s.known.line) turned) rest)
      (lines_told ts mid.0 mid.1 end v' shown (shows ∙ sym (ap tables_in turns.0))
      (ap (λ (s : Said). s.known.routers) turned ∙ known ∙ sym (ap known_in turns.0)) told.2)
  lines_told (Notes ∷ ts) lab v end v' shown shows known told =
      let mid = told.0 in
      let says : SaysAside (f v) Prints (f mid.1) = notes v Prints mid.1 told.1.1 in
      aside_on lab mid.0 end shown (f v) (f mid.1) (f v') Notes ts says.0 (printed_words says.0 says.1) told.1.0 known shows says.2
      (λ lines rest. (refl, subst (λ (k : ℕ). AreRecordsOf k ts lines) (ap (λ (k : Knows). k.line) says.2.known_is) rest))
      (λ shows1 known1. lines_told ts mid.0 mid.1 end v' shown shows1 known1 told.2)
  lines_told (Counts phases last ∷ ts) lab v end v' shown shows known told =
      let mid = told.0 in
      let says : SaysAside (f v) (CountsPhases phases last) (f mid.1) = notes v (CountsPhases phases last) mid.1 told.1.1 in
      aside_on lab mid.0 end shown (f v) (f mid.1) (f v') (Counts phases last) ts (action.Makes (record { phases = phases; last = last })) tt told.1.0 known shows says
      (λ lines rest. ((refl, refl), subst (λ (k : ℕ). AreRecordsOf k ts lines) (ap (λ (k : Knows). k.line) says.known_is) rest))
      (λ shows1 known1. lines_told ts mid.0 mid.1 end v' shown shows1 known1 told.2)
  lines_told (Shows numbers ∷ ts) lab v end v' shown shows known told =
      let mid = told.0 in
      let says : SaysAside (f v) (ShowsCounts numbers) (f mid.1) = notes v (ShowsCounts numbers) mid.1 told.1.1 in
      aside_on lab mid.0 end shown (f v) (f mid.1) (f v') (Shows numbers) ts (action.Tallies numbers) tt told.1.0 known shows says
      (λ lines rest. ((refl, refl), subst (λ (k : ℕ). AreRecordsOf k ts lines) (ap (λ (k : Knows). k.line) says.known_is) rest))
      (λ shows1 known1. lines_told ts mid.0 mid.1 end v' shown shows1 known1 told.2)
  lines_told (Deceives router x answer ∷ ts) lab v end v' shown shows known told =
      let mid = told.0 in
      let lied = told.1 in
      let l = lied.0 in
      let l1 = lied.2 in
      let what = telling l.network l.world (Stranger router x) answer l1.world in
      let says : SaysMove true (f v) what (f mid.1) = notes v (Lie what) mid.1 lied.6 in
      move_on lab mid.0 end shown (f v) (f mid.1) (f v') (Deceives router x answer) ts true l l1 lied.1 lied.3 (Stranger router x) answer (Arrives x) lied.5.moves (known ∙ ap known_in lied.1) shows says
      (router, x, answer, lied.4, lied.5, told_itself true (f v).known.line what says.0 says.1.tells)
      (λ lines rest. ((says.1.tells.at_line, says.1.tells.event_is), subst (λ (k : ℕ). AreRecordsOf k ts lines) says.1.line_is rest))
      (λ shows1 known1. lines_told ts mid.0 mid.1 end v' (read_line shown (EventLine true says.0)) shows1 known1 told.2)

  -- up to where memory or the tracer failed
  pub until_told : (v : V) (end : Option LabValue) (v' : V) → (f v).known.routers ≡ [] → IsToldUntil st t fl n (None, v) (end, v')
      → IsTracedUntil (f v).written end (f v').written
  until_told v end v' known until = by_why until.2
    where
      traced : IsTraced (f v).written until.0.0 (f until.0.1).written
      traced = let all = lines_told until.1.0 None v until.0.0 until.0.1 [] refl known until.1.1 in (all.0, all.1, all.2)

      by_why : FailsAtRest n until.0 (end, v') ⊎ (FailsAtEvent fl until.0 (end, v') ⊎ FailsAtLie n until.0 (end, v')) → IsTracedUntil (f v).written end (f v').written
      by_why (inl (same, inl unsaid)) = (until.0.0, (f until.0.1).written, traced, inl same, inl (ap (λ (x : V). (f x).written) unsaid))
      by_why (inl (same, inr broken)) = (until.0.0, (f until.0.1).written, traced, inl same, notes until.0.1 Broken v' broken)
      by_why (inr (inl at)) =
          (until.0.0, (f until.0.1).written, traced, inr (at.0, at.1, at.2, at.3, inl (at.5, at.6, (at.4, at.7))), fails until.0.1 _ v' at.8)
      by_why (inr (inr at)) =
          (until.0.0, (f until.0.1).written, traced, inr (at.0, at.1, at.2, at.3, inr (at.5, at.6, at.7, at.4, at.8)), notes until.0.1 Broken v' at.9)

-- what each telling keeps, all of them keep
module _ {V N : Type 0} (place : V → N) (st : V → LabValue → ℕ → V → Type 0) (t fl : V → Told → V → Type 0) (n : V → Aside → V → Type 0)
    (starts : (a : V) (lab : LabValue) (now : ℕ) (b : V) → st a lab now b → place b ≡ place a) (takes : (a : V) (what : Told) (b : V) → t a what b → place b ≡ place a)
    (fails : (a : V) (what : Told) (b : V) → fl a what b → place b ≡ place a) (notes : (a : V) (what : Aside) (b : V) → n a what b → place b ≡ place a) where
  pub kept : (ts : List Telling) (s s' : Option LabValue × V) → TellsAll st t n s ts s' → place s'.1 ≡ place s.1
  kept [] s s' same = ap (λ (x : Option LabValue × V). place x.1) same
  kept (Starts now ∷ ts) s s' told = kept ts told.0 s' told.2 ∙ starts s.1 told.1.1 now told.0.1 told.1.4
  kept (Does e answer ∷ ts) s s' told = kept ts told.0 s' told.2 ∙ takes s.1 _ told.0.1 told.1.6
  kept (Turns number ∷ ts) s s' told = kept ts told.0 s' told.2 ∙ notes s.1 (NextLine number) told.0.1 told.1.1
  kept (Notes ∷ ts) s s' told = kept ts told.0 s' told.2 ∙ notes s.1 Prints told.0.1 told.1.1
  kept (Counts phases last ∷ ts) s s' told = kept ts told.0 s' told.2 ∙ notes s.1 (CountsPhases phases last) told.0.1 told.1.1
  kept (Shows numbers ∷ ts) s s' told = kept ts told.0 s' told.2 ∙ notes s.1 (ShowsCounts numbers) told.0.1 told.1.1
  kept (Deceives router x answer ∷ ts) s s' told = kept ts told.0 s' told.2 ∙ notes s.1 (Lie _) told.0.1 told.1.6

  pub kept_until : (s s' : Option LabValue × V) → IsToldUntil st t fl n s s' → place s'.1 ≡ place s.1
  kept_until s s' until = by_why until.2 ∙ kept until.1.0 s until.0 until.1.1
    where
      by_why : FailsAtRest n until.0 s' ⊎ (FailsAtEvent fl until.0 s' ⊎ FailsAtLie n until.0 s') → place s'.1 ≡ place until.0.1
      by_why (inl (same, inl unsaid)) = ap place unsaid
      by_why (inl (same, inr broken)) = notes until.0.1 Broken s'.1 broken
      by_why (inr (inl at)) = fails until.0.1 _ s'.1 at.8
      by_why (inr (inr at)) = notes until.0.1 Broken s'.1 at.9
