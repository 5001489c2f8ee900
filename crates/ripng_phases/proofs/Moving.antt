-- What an ordinary event does to the state of one router: it waits, its routes age, or it hears a datagram of the network.
use Rattle.std.proofs.Common.{◌≡◌, ◌⊎◌, inl, inr, ℕ, ◌+◌, ◌%◌, max, Bool, true, false, cond, ◌&&◌, MatchBool, MatchOption, List, Option, Some, None, is_none, option_and_then, slice_get, refl, ap, sym, subst, ◌∙◌}
use Rattle.std.specs.FinMap as map_of
use Rattle.prefix6.specs.Prefix.{Prefix6}
use Rattle.ripng_wire.specs.Wire.{is_response}
use Rattle.route_table.proofs.TableLaws.{get-map_values}
use Rattle.router_core.specs.Ageing.{aged, aged_table, unmarked, without_mark}
use Rattle.router_core.specs.Faults.{fault}
use Rattle.router_core.specs.Machine.{State, Happening, Arrives, Ticks, LinkComesUp, Hears, Replies, Refuses, is_regular_due, is_triggered_due}
use Rattle.router_core.specs.declared.answer.Answer.{Answer}
use Rattle.router_core.specs.declared.arrival.Fault.{Fault}
use Rattle.ripng_world.specs.Network.{Network, AreLinked}
use Rattle.ripng_world.specs.Rounds.{router_of, moment_of}
use Rattle.ripng_world.specs.World.{World, Event, Deliver, Stranger, Tick, Restart, Shutdown, LinkDown, LinkUp, Reconfigure, RouterMoves, Happens, arrival_of}
use Rattle.ripng_world.specs.declared.event.Sent.{Sent}
use Rattle.ripng_world.proofs.RoundNeighbors.{state_before}
use Rattle.ripng_phases.specs.Phases.{IsOrdinary}
use Rattle.router_core.specs.Timers.{next_hold, next_regular}

-- its table stays, while its time may go on
pub record Waits (e : Event) (router : ℕ) (s t : State) : Type 0 where
  pub config : t.config ≡ s.config
  pub table : t.table ≡ s.table
  pub last : (t.last ≡ s.last) ⊎ ((router_of e ≡ router) × (t.last ≡ max s.last (moment_of e)))

-- its routes age, and may lose their marks
pub record Ages (e : Event) (router : ℕ) (s t : State) : Type 0 where
  pub here : router_of e ≡ router
  pub config : t.config ≡ s.config
  pub last : t.last ≡ max s.last (moment_of e)
  pub row : (p : Prefix6) → (map_of.get t.table p ≡ option_and_then (aged t.last) (map_of.get s.table p))
      ⊎ (map_of.get t.table p ≡ option_and_then without_mark (option_and_then (aged t.last) (map_of.get s.table p)))

-- it hears a datagram of the network
pub record HearsHere (net : Network) (w : World) (e : Event) (answer : Answer) (router : ℕ) (s t : State) : Type 0 where
  pub datagram : ℕ
  pub iface : ℕ
  pub now : ℕ
  pub event : e ≡ Deliver datagram router iface now
  pub sent : Sent
  pub sent_is : slice_get w.sent datagram ≡ Some sent
  pub linked : AreLinked net sent.router sent.iface router iface
  pub clean : fault s.config (arrival_of net sent iface now) ≡ None
  pub response : is_response sent.bytes ≡ true
  pub hears : Hears s (max s.last now) (arrival_of net sent iface now) answer t

abbrev pub IsStep : Network → World → Event → Answer → ℕ → State → State → Type 0
IsStep net w e answer router s t = Waits e router s t ⊎ (Ages e router s t ⊎ HearsHere net w e answer router s t)

-- a state of afterwards, and what it came from
abbrev pub CameFrom : Network → World → Event → Answer → ℕ → State → Type 0
CameFrom net w e answer router t = (s : State) × (slice_get w.states router ≡ Some s) × IsStep net w e answer router s t

pub ages : (e : Event) (router : ℕ) (s : State) (n word : ℕ) (b c : Bool) → router_of e ≡ router → n ≡ max s.last (moment_of e)
    → Ages e router s (cond b (record s { table = unmarked (aged_table n s.table); last = n; regular = next_regular n word })
    (cond c (record s { table = unmarked (aged_table n s.table); last = n; hold = next_hold n word }) (record s { table = aged_table n s.table; last = n })))
ages e router s n word b c here last = by b c
  where
    aged_at : (p : Prefix6) → map_of.get (aged_table n s.table) p ≡ option_and_then (aged n) (map_of.get s.table p)
    aged_at p = get-map_values (aged n) s.table p

    unmarked_at : (p : Prefix6) → map_of.get (unmarked (aged_table n s.table)) p ≡ option_and_then without_mark (option_and_then (aged n) (map_of.get s.table p))
    unmarked_at p = get-map_values without_mark (aged_table n s.table) p ∙ ap (option_and_then without_mark) (aged_at p)

    by : (b c : Bool) → Ages e router s (cond b (record s { table = unmarked (aged_table n s.table); last = n; regular = next_regular n word })
        (cond c (record s { table = unmarked (aged_table n s.table); last = n; hold = next_hold n word }) (record s { table = aged_table n s.table; last = n })))
    by true c = record { here = here; config = refl; last = last; row = λ p. inr (unmarked_at p) }
    by false true = record { here = here; config = refl; last = last; row = λ p. inr (unmarked_at p) }
    by false false = record { here = here; config = refl; last = last; row = λ p. inl (aged_at p) }

-- when one router moves, the others wait
moved : (net : Network) (w w' : World) (e : Event) (mover : ℕ) (what : Happening) (answer : Answer) (m : RouterMoves w mover what answer w') → IsStep net w e answer mover m.old m.new
    → (router : ℕ) (t : State) → slice_get w'.states router ≡ Some t → CameFrom net w e answer router t
moved net w w' e mover what answer m step router t is =
    elim (state_before w.states mover m.new router t (ap (λ (xs : List State). slice_get xs router) (sym m.states) ∙ is)) [
      | inl same ↦ subst (λ r. CameFrom net w e answer r t) same.0 (subst (λ x. CameFrom net w e answer mover x) same.1 (m.old, m.old_is, step))
      | inr there ↦ (t, there, inl (record { config = refl; table = refl; last = inl refl }))
    ]

pub step_of : (net : Network) (w w' : World) (e : Event) (answer : Answer) → IsOrdinary e → Happens net w e answer w' → (router : ℕ) (t : State) → slice_get w'.states router ≡ Some t
    → CameFrom net w e answer router t
step_of net w w' (Tick mover now word) answer plain m =
    moved net w w' (Tick mover now word) mover (Ticks now word) answer m
    (inr (inl (subst (Ages (Tick mover now word) mover m.old) (sym m.moves.state)
    (ages (Tick mover now word) mover m.old (max m.old.last now) word (is_regular_due m.old (max m.old.last now)) (is_triggered_due m.old (max m.old.last now)) refl refl))))
step_of net w w' (Deliver datagram to iface now) answer plain d =
    moved net w w' (Deliver datagram to iface now) to (Arrives (arrival_of net d.sent iface now)) answer d.moves
    (by (fault d.moves.old.config (arrival_of net d.sent iface now)) (is_response d.sent.bytes) refl refl d.moves.moves)
  where
    by : (o : Option Fault) (b : Bool) → fault d.moves.old.config (arrival_of net d.sent iface now) ≡ o → is_response d.sent.bytes ≡ b
        → MatchOption o (MatchBool b (Hears d.moves.old (max d.moves.old.last now) (arrival_of net d.sent iface now) answer d.moves.new)
        (Replies d.moves.old (max d.moves.old.last now) (arrival_of net d.sent iface now) answer d.moves.new))
        (λ why. Refuses d.moves.old (max d.moves.old.last now) why answer d.moves.new)
        → IsStep net w (Deliver datagram to iface now) answer to d.moves.old d.moves.new
    by (Some why) b f r refuses = inl (record { config = ap (λ (s : State). s.config) refuses.state; table = ap (λ (s : State). s.table) refuses.state; last = inr (refl, ap (λ (s : State). s.last) refuses.state) })
    by None false f r replies = inl (record { config = ap (λ (s : State). s.config) replies.state; table = ap (λ (s : State). s.table) replies.state; last = inr (refl, ap (λ (s : State). s.last) replies.state) })
    by None true f r hears =
        inr (inr (record { datagram = datagram; iface = iface; now = now; event = refl; sent = d.sent; sent_is = d.sent_is; linked = d.linked; clean = f; response = r; hears = hears }))
step_of net w w' (Stranger to x) answer plain i =
    moved net w w' (Stranger to x) to (Arrives x) answer i.moves (by (fault i.moves.old.config x) (is_response x.bytes) i.unheard i.moves.moves)
  where
    clash : true ≡ false → ⊥
    clash e = cc

    by : (o : Option Fault) (b : Bool) → (b && is_none o) ≡ false
        → MatchOption o (MatchBool b (Hears i.moves.old (max i.moves.old.last x.now) x answer i.moves.new) (Replies i.moves.old (max i.moves.old.last x.now) x answer i.moves.new))
        (λ why. Refuses i.moves.old (max i.moves.old.last x.now) why answer i.moves.new)
        → IsStep net w (Stranger to x) answer to i.moves.old i.moves.new
    by (Some why) b f refuses = inl (record { config = ap (λ (s : State). s.config) refuses.state; table = ap (λ (s : State). s.table) refuses.state; last = inr (refl, ap (λ (s : State). s.last) refuses.state) })
    by None false f replies = inl (record { config = ap (λ (s : State). s.config) replies.state; table = ap (λ (s : State). s.table) replies.state; last = inr (refl, ap (λ (s : State). s.last) replies.state) })
    by None true f hears = absurd (clash f)
step_of net w w' (Restart to now) answer plain m = λ router t is. absurd plain
step_of net w w' (Shutdown to now) answer plain m = λ router t is. absurd plain
step_of net w w' (LinkDown to now on) answer plain m = λ router t is. absurd plain
step_of net w w' (LinkUp to now on) answer plain m =
    moved net w w' (LinkUp to now on) to (LinkComesUp now on) answer m
    (inl (record { config = ap (λ (s : State). s.config) m.moves.state; table = ap (λ (s : State). s.table) m.moves.state; last = inr (refl, ap (λ (s : State). s.last) m.moves.state) }))
step_of net w w' (Reconfigure to now c) answer plain m = λ router t is. absurd plain
