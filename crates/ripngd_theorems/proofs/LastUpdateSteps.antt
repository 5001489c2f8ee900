-- What becomes of the route to a prefix, step after step, while a router hears losses alone from a gateway.
use Rattle.std.proofs.Common.{◌≡◌, inl, inr, ℕ, zero, suc, max, ◌≤◌, ◌==◌, Bool, true, false, cond, ◌&&◌, MatchBool, MatchOption, List, [], ◌∷◌, ◌++◌, Option, Some, None, is_none, slice_get, refl, ap, ap₂, sym, subst, ◌∙◌}
use Rattle.std.specs.Prelude.{⊤}
use Rattle.std.specs.List.{AllByRecursion}
use Rattle.std.specs.FinMap as map_of
use Rattle.std.proofs.lemmas.Bool.{eqb-true}
use Rattle.prefix6.specs.Prefix.{Prefix6, is_routable}
use Rattle.ripng_wire.specs.declared.rte.Rte.{Rte}
use Rattle.ripng_wire.specs.declared.rte.Command.TheVariants.{Response}
use Rattle.ripng_wire.specs.Layout.{Spells}
use Rattle.ripng_wire.specs.Wire.{is_response}
use Rattle.ripng_wire.proofs.OneReading.{one_reading}
use Rattle.route_table.specs.Route.{infinity}
use Rattle.route_table.proofs.TableLaws.{Some-same, None-Some}
use Rattle.router_core.specs.Faults.{fault}
use Rattle.router_core.specs.Machine.{State, Happening, Arrives, Ticks, Restarts, Reconfigures, ShutsDown, LinkGoesDown, LinkComesUp, Moves, Hears, hearing_of}
use Rattle.router_core.specs.Offers.{prefix_named}
use Rattle.router_core.specs.Received.{Received}
use Rattle.router_core.specs.declared.answer.Answer.{Answer}
use Rattle.router_core.specs.declared.arrival.Fault.{Fault}
use Rattle.ripng_world.specs.World.{is_heard}
use Rattle.ripng_world.proofs.Members.{At, split_at}
use Rattle.ripngd_theorems.specs.LastUpdate.{HearsFrom, heard_from}
use Rattle.ripngd_theorems.proofs.LastUpdateHeard.{CanEnd, HasEnded, can_end_kept, has_ended_kept, loss_ends, losses_keep, take_live, take_other}
use Rattle.ripngd_theorems.proofs.OneRoute.{OfRoute, HearsWell, heard_keeps, moves_keep}

-- if the bytes are a Response, they tell losses alone
abbrev pub TellsLosses : List ℕ → Type 0
TellsLosses bytes = (entries : List Rte) → Spells Response entries bytes → AllByRecursion (λ e. e.metric ≡ infinity) entries

-- and one of the prefix
pub record TellsOf (bytes : List ℕ) (p : Prefix6) : Type 0 where
  pub entries : List Rte
  pub spelled : Spells Response entries bytes
  pub place : ℕ
  pub entry : Rte
  pub listed : slice_get entries place ≡ Some entry
  pub names : prefix_named entry ≡ p

module _ (iface from : ℕ) (p : Prefix6) (short : p.len ≤ 128) (routable : is_routable p ≡ true) where
  abbrev pub CanEndIn : State → Type 0
  CanEndIn s = OfRoute (CanEnd iface from) (map_of.get s.table p)

  abbrev pub HasEndedIn : State → Type 0
  HasEndedIn s = OfRoute (HasEnded iface from) (map_of.get s.table p)

  -- what hearing these makes of the route
  pub record Leads (s new : State) (heard : List (List ℕ)) : Type 0 where
    pub can : CanEndIn s → CanEndIn new
    pub ended : HasEndedIn s → HasEndedIn new
    pub ends : CanEndIn s → (bytes : List ℕ) → At heard bytes → TellsOf bytes p → HasEndedIn new

  not_none : {X : Type 0} (x : X) → At [] x → ⊥
  not_none x a = None-Some x a.1

  -- at a step at which nothing of the gateway is heard
  silent : (s new : State) (answer : Answer) (h : Happening)
      → ((can : CanEndIn s) → HearsWell (CanEnd iface from) (can_end_kept iface from) p s answer new can h)
      → ((ended : HasEndedIn s) → HearsWell (HasEnded iface from) (has_ended_kept iface from) p s answer new ended h)
      → Moves s h answer new → Leads s new []
  silent s new answer h can_hear ended_hear moves =
      record {
        can = λ can. moves_keep (CanEnd iface from) (can_end_kept iface from) p s answer new can h (can_hear can) moves;
        ended = λ ended. moves_keep (HasEnded iface from) (has_ended_kept iface from) p s answer new ended h (ended_hear ended) moves;
        ends = λ can bytes at tells. absurd (not_none bytes at);
      }

  -- ---- an arrival

  module _ (s new : State) (answer : Answer) (x : Received) where
    abbrev now : ℕ
    now = max s.last x.now

    hears_can : Hears s now x answer new → CanEndIn s → CanEndIn new
    hears_can hears can =
        subst (λ (t : State). CanEndIn t) (sym hears.state)
        (heard_keeps (CanEnd iface from) (can_end_kept iface from) (hearing_of s now x hears.entries answer.notes) (λ o. ⊤) (take_live iface from (hearing_of s now x hears.entries answer.notes).gateway) (λ place e is. tt) p
        hears.table hears.heard can)

    -- of another gateway
    other_ended : (x.iface == iface && x.source == from) ≡ false → Hears s now x answer new → HasEndedIn s → HasEndedIn new
    other_ended other hears ended =
        subst (λ (t : State). HasEndedIn t) (sym hears.state)
        (heard_keeps (HasEnded iface from) (has_ended_kept iface from) (hearing_of s now x hears.entries answer.notes) (λ o. ⊤)
        (take_other iface from (hearing_of s now x hears.entries answer.notes).gateway other) (λ place e is. tt) p hears.table hears.heard ended)

    -- of this one
    module _ (hears : Hears s now x answer new) (here : x.iface ≡ iface) (source : x.source ≡ from) (losses : TellsLosses x.bytes) where
      this_ended : HasEndedIn s → HasEndedIn new
      this_ended ended =
          subst (λ (t : State). HasEndedIn t) (sym hears.state)
          (losses_keep iface from (hearing_of s now x hears.entries answer.notes) hears.table hears.heard (losses hears.entries hears.read) here source p ended)

      this_ends : CanEndIn s → (bytes : List ℕ) → At (x.bytes ∷ []) bytes → TellsOf bytes p → HasEndedIn new
      this_ends can bytes at tells =
          let same : tells.entries ≡ hears.entries = (one_reading Response Response tells.entries hears.entries x.bytes (subst (Spells Response tells.entries) (sym (only bytes at.0 at.1)) tells.spelled) hears.read).1 in
          subst (λ (t : State). HasEndedIn t) (sym hears.state)
          (loss_ends iface from (hearing_of s now x hears.entries answer.notes) hears.table hears.heard (losses hears.entries hears.read) here source p short routable
          tells.place tells.entry (ap (λ (es : List Rte). slice_get es tells.place) (sym same) ∙ tells.listed) tells.names can)
        where
          only : (bytes : List ℕ) (i : ℕ) → slice_get {X = List ℕ} (x.bytes ∷ []) i ≡ Some bytes → x.bytes ≡ bytes
          only bytes zero e = Some-same x.bytes bytes e
          only bytes (suc i) e = absurd (None-Some bytes e)

    -- a Response that is not refused is heard
    heard_of : (H R : Type 0) (W : Fault → Type 0) (o : Option Fault) (b : Bool) → (b && is_none o) ≡ true → MatchOption o (MatchBool b H R) W → H
    heard_of H R W None true e m = m
    heard_of H R W None false e m = absurd (cc)
    heard_of H R W (Some why) true e m = absurd (cc)
    heard_of H R W (Some why) false e m = absurd (cc)

    parts : (a b c : Bool) → (a && b && c) ≡ true → (a ≡ true) × (b ≡ true) × (c ≡ true)
    parts true true true e = (refl, refl, refl)
    parts true true false e = absurd (cc)
    parts true false c e = absurd (cc)
    parts false b c e = absurd (cc)

    not_both : (a b c : Bool) → (a && b && c) ≡ false → c ≡ true → (a && b) ≡ false
    not_both true true true e is = e
    not_both true true false e is = absurd (cc)
    not_both true false c e is = refl
    not_both false b c e is = refl

    arrives : Moves s (Arrives x) answer new → (b : Bool) → (x.iface == iface && x.source == from && is_heard s x) ≡ b → AllByRecursion TellsLosses (cond b (x.bytes ∷ []) [])
        → Leads s new (cond b (x.bytes ∷ []) [])
    arrives moves true test losses =
        let t = parts (x.iface == iface) (x.source == from) (is_heard s x) test in
        let hears : Hears s now x answer new = heard_of _ _ _ (fault s.config x) (is_response x.bytes) t.2 moves in
        let here = eqb-true x.iface iface t.0 in
        let source = eqb-true x.source from t.1 in
        record { can = hears_can hears; ended = this_ended hears here source losses.0; ends = this_ends hears here source losses.0 }
    arrives moves false test losses =
        silent s new answer (Arrives x)
        (λ can none response hears. hears_can hears can)
        (λ ended none response hears. other_ended (not_both (x.iface == iface) (x.source == from) (is_heard s x) test (ap₂ (λ b o. b && is_none o) response none)) hears ended)
        moves

  -- ---- any step

  step : (s new : State) (answer : Answer) (h : Happening) → Moves s h answer new → AllByRecursion TellsLosses (heard_from iface from s h) → Leads s new (heard_from iface from s h)
  step s new answer (Arrives x) moves losses = arrives s new answer x moves (x.iface == iface && x.source == from && is_heard s x) refl losses
  step s new answer (Ticks now word) moves losses = silent s new answer (Ticks now word) (λ can. tt) (λ ended. tt) moves
  step s new answer (Restarts now) moves losses = silent s new answer (Restarts now) (λ can. tt) (λ ended. tt) moves
  step s new answer (Reconfigures now c) moves losses = silent s new answer (Reconfigures now c) (λ can. tt) (λ ended. tt) moves
  step s new answer (ShutsDown now) moves losses = silent s new answer (ShutsDown now) (λ can. tt) (λ ended. tt) moves
  step s new answer (LinkGoesDown now on) moves losses = silent s new answer (LinkGoesDown now on) (λ can. tt) (λ ended. tt) moves
  step s new answer (LinkComesUp now on) moves losses = silent s new answer (LinkComesUp now on) (λ can. tt) (λ ended. tt) moves

  each_left : (P : List ℕ → Type 0) (xs ys : List (List ℕ)) → AllByRecursion P (xs ++ ys) → AllByRecursion P xs × AllByRecursion P ys
  each_left P [] ys all = (tt, all)
  each_left P (x ∷ xs) ys all = let rest = each_left P xs ys all.1 in ((all.0, rest.0), rest.1)

  leads_on : (s mid s' : State) (xs ys : List (List ℕ)) → Leads s mid xs → Leads mid s' ys → Leads s s' (xs ++ ys)
  leads_on s mid s' xs ys first rest =
      record {
        can = λ can. rest.can (first.can can);
        ended = λ ended. rest.ended (first.ended ended);
        ends = λ can bytes at tells. elim (split_at xs ys at.0 bytes at.1) [
          | inl a ↦ rest.ended (first.ends can bytes a tells)
          | inr a ↦ rest.ends (first.can can) bytes a tells
        ];
      }

  pub leads : (s : State) (happenings : List Happening) (heard : List (List ℕ)) (s' : State) → HearsFrom iface from s happenings heard s' → AllByRecursion TellsLosses heard → Leads s s' heard
  leads s [] heard s' (none, same) losses =
      record {
        can = λ can. subst (λ (t : State). CanEndIn t) (sym same) can;
        ended = λ ended. subst (λ (t : State). HasEndedIn t) (sym same) ended;
        ends = λ can bytes at tells. absurd (not_none bytes (subst (λ hs. At hs bytes) none at));
      }
  leads s (h ∷ happenings) heard s' (mid, answer, later, moves, rest, is) losses =
      let both = each_left TellsLosses (heard_from iface from s h) later (subst (AllByRecursion TellsLosses) is losses) in
      subst (λ hs. Leads s s' hs) (sym is)
      (leads_on s mid s' (heard_from iface from s h) later (step s mid answer h moves both.0) (leads mid happenings later s' rest both.1))
