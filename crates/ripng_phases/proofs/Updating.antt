-- In a phase each neighbor hears of each route that a router has after its regular update, and then of nothing older from it.
use Rattle.std.proofs.Common.{◌≡◌, ◌≢◌, ◌⊎◌, inl, inr, ℕ, ◌+◌, ◌<◌, ◌≤◌, cond, nat_eq, List, [], ◌∷◌, ◌++◌, map, length, Some, slice_get, refl, ap, sym, subst, ◌∙◌, arith, append_assoc, append-nil, length-append, le_trans}
use Rattle.std.specs.List.{AllByRecursion, IsDistinct}
use Rattle.std.proofs.lemmas.Map.Keys.{IsDistinct-cons}
use Rattle.prefix6.specs.Prefix.{Prefix6}
use Rattle.ripng_wire.specs.declared.rte.Rte.{Rte}
use Rattle.ripng_wire.specs.declared.rte.Command.TheVariants.{Response}
use Rattle.ripng_wire.specs.Layout.{Spells}
use Rattle.ripng_wire.proofs.OneReading.{one_reading}
use Rattle.route_table.specs.Route.{RouteValue, infinity}
use Rattle.router_core.specs.Offers.{prefix_named}
use Rattle.router_core.specs.Output.{is_learned_on}
use Rattle.router_core.specs.declared.answer.Answer.{Answer}
use Rattle.ripng_world.specs.Convergence.{IsNeverQuiet}
use Rattle.ripng_world.specs.Network.{Network, AreLinked, HasDistinctAddresses, IsUsable}
use Rattle.ripng_world.specs.World.{World, Event, Deliver, Stranger, Tick, Restart, Shutdown, LinkDown, LinkUp, Reconfigure, Happens, sent_by}
use Rattle.ripng_world.specs.declared.event.Sent.{Sent}
use Rattle.ripng_world.proofs.Each.{each_at_place}
use Rattle.ripng_world.proofs.HealHearing.{AreFew, IsToldLine}
use Rattle.ripng_world.proofs.HealPlain.{Tells}
use Rattle.ripng_world.proofs.HealTicks.{IsUpdate, AreTicked, ticks_done}
use Rattle.ripng_world.proofs.Improving.{RouteAt}
use Rattle.ripng_world.proofs.Members.{At, get_left, get_past}
use Rattle.ripng_phases.specs.Phases.{Step, Takes, IsHeardUpdate, IsPhase, IsBegun, Before, reached}
use Rattle.ripng_phases.proofs.Along.{step_at}
use Rattle.ripng_phases.proofs.Orderly.{IsOrderly, AllOrderly}
use Rattle.ripng_phases.proofs.Runs.{takes_first, takes_rest, takes_reached}

-- a part of a phase of an orderly network
pub record IsCalmPart (net : Network) (known : Prefix6 → Type 0) (past : Before) (w : World) (steps : List Step) (w' : World) : Type 0 where
  pub usable : IsUsable net
  pub noisy : IsNeverQuiet net
  pub distinct : HasDistinctAddresses net
  pub fits : AreFew net known
  pub begun : IsBegun net past w steps w'
  pub orderly : AllOrderly net known w steps

-- a whole one
pub record IsCalmPhase (net : Network) (known : Prefix6 → Type 0) (past : Before) (w : World) (steps : List Step) (w' : World) : Type 0 where
  pub part : IsCalmPart net known past w steps w'
  pub phase : IsPhase net past w steps w'

-- ---- what was sent stays

abbrev pub Grows : World → World → Type 0
Grows w w' = (new : List Sent) × (w'.sent ≡ w.sent ++ new)

pub event_grows : (net : Network) (w w' : World) (e : Event) (answer : Answer) → Happens net w e answer w' → Grows w w'
event_grows net w w' (Deliver datagram router iface now) answer d = (map (sent_by router) answer.sends, d.moves.sent)
event_grows net w w' (Stranger router x) answer i = (map (sent_by router) answer.sends, i.moves.sent)
event_grows net w w' (Tick router now word) answer m = (map (sent_by router) answer.sends, m.sent)
event_grows net w w' (Restart router now) answer m = (map (sent_by router) answer.sends, m.sent)
event_grows net w w' (Shutdown router now) answer m = (map (sent_by router) answer.sends, m.sent)
event_grows net w w' (LinkDown router now on) answer m = (map (sent_by router) answer.sends, m.sent)
event_grows net w w' (LinkUp router now on) answer m = (map (sent_by router) answer.sends, m.sent)
event_grows net w w' (Reconfigure router now c) answer m = (map (sent_by router) answer.sends, m.sent)

pub takes_grows : (net : Network) (steps : List Step) (w w' : World) → Takes net w steps w' → Grows w w'
takes_grows net [] w w' is = ([], ap (λ (v : World). v.sent) is ∙ sym (append-nil w.sent))
takes_grows net (s ∷ steps) w w' is =
    let one = event_grows net w s.after s.event s.answer is.1 in
    let rest = takes_grows net steps s.after w' is.3 in
    (one.0 ++ rest.0, rest.1 ∙ ap (λ xs. xs ++ rest.0) one.1 ∙ append_assoc w.sent one.0 rest.0)

pub still_sent : (w w' : World) → Grows w w' → (i : ℕ) (d : Sent) → slice_get w.sent i ≡ Some d → slice_get w'.sent i ≡ Some d
still_sent w w' grows i d is = ap (λ (ds : List Sent). slice_get ds i) grows.1 ∙ get_left w.sent grows.0 i d is

pub no_fewer : (w w' : World) → Grows w w' → length w.sent ≤ length w'.sent
no_fewer w w' grows = more (length w.sent) (length grows.0) (length w'.sent) (ap length grows.1 ∙ length-append w.sent grows.0)
  where
    more : (a b c : ℕ) → c ≡ a + b → a ≤ c
    more a b c e = omega arith

-- ---- one router's regular update

-- a neighbor hears, in this phase, a datagram of the update that tells the prefix with this metric
pub record IsHeardOf (net : Network) (known : Prefix6 → Type 0) (w : World) (steps : List Step) (w' mid : World) (teller teller_iface router iface : ℕ) (p : Prefix6) (metric : ℕ) : Type 0 where
  pub datagram : ℕ
  pub recent : length w.sent ≤ datagram
  pub sent : Sent
  pub sent_is : slice_get w'.sent datagram ≡ Some sent
  pub by_router : sent.router ≡ teller
  pub on_iface : sent.iface ≡ teller_iface
  pub entries : List Rte
  pub spelled : Spells Response entries sent.bytes
  pub told : AllByRecursion (IsToldLine net mid known sent.router sent.iface) entries
  pub entry : Rte
  pub stands : At entries entry
  pub names : prefix_named entry ≡ p
  pub metric_is : entry.metric ≡ metric
  pub before : List Step
  pub delivery : Step
  pub after : List Step
  pub parts : steps ≡ before ++ delivery ∷ after
  pub now : ℕ
  pub event : delivery.event ≡ Deliver datagram router iface now
  -- nothing older from there comes after it
  pub later : (between : List Step) (s : Step) (rest : List Step) → after ≡ between ++ s ∷ rest → (old moment : ℕ) → s.event ≡ Deliver old router iface moment
      → (d : Sent) → slice_get w'.sent old ≡ Some d → d.router ≡ teller → d.iface ≡ teller_iface → length w.sent ≤ old

none_distinct : IsDistinct nat_eq []
unfolding IsDistinct
none_distinct = tt

split : (a b : ℕ) → (b ≤ a) ⊎ (a < b)
split a b = grind arith

module _ (net : Network) (known : Prefix6 → Type 0) (past : Before) (w : World) (steps : List Step) (w' : World) (calm : IsCalmPart net known past w steps w') where
  pub orderly_first : IsOrderly net known w
  orderly_first = calm.orderly [] steps refl

  pub orderly_last : IsOrderly net known w'
  orderly_last = subst (IsOrderly net known) (sym (takes_reached net steps w w' calm.begun.takes)) (calm.orderly steps [] (sym (append-nil steps)))

module _ (net : Network) (known : Prefix6 → Type 0) (past : Before) (w : World) (steps : List Step) (w' : World) (calm : IsCalmPhase net known past w steps w') where
  module _ (teller : ℕ) (here : teller < length net) where
    abbrev u : IsHeardUpdate net w steps teller
    u = calm.phase.told teller here

    tick_takes : Takes net (reached w u.before) (u.tick ∷ u.after) w'
    tick_takes = takes_rest net u.before (u.tick ∷ u.after) w w' (subst (λ xs. Takes net w xs w') u.parts calm.phase.takes)

    pub ticked : AreTicked net calm.part.usable calm.part.noisy known calm.part.fits (calm.phase.told teller here).tick.after (reached w (calm.phase.told teller here).before) (Tick teller (calm.phase.told teller here).now (calm.phase.told teller here).word ∷ [])
    ticked =
        ticks_done net calm.part.usable calm.part.noisy known calm.part.fits u.tick.after (Tick teller u.now u.word ∷ []) (reached w u.before)
        (λ r s is. let o = (calm.part.orderly u.before (u.tick ∷ u.after) u.parts).states r s is in record { node = o.node; node_is = o.node_is; config_is = o.config_is; rows = o.plain })
        (IsDistinct-cons nat_eq teller [] tt none_distinct)
        (u.tick.after, u.tick.answer, u.due, subst (λ (e : Event). Happens net (reached w u.before) e u.tick.answer u.tick.after) u.ticks tick_takes.1, refl)

    pub heard_of : (p : Prefix6) (q : RouteValue) → RouteAt (calm.phase.told teller here).tick.after teller p q → (teller_iface router iface : ℕ) → AreLinked net teller teller_iface router iface → router ≢ teller
        → IsHeardOf net known w steps w' (calm.phase.told teller here).tick.after teller teller_iface router iface p (cond (is_learned_on teller_iface q.origin) infinity q.metric)
    heard_of p q at teller_iface router iface linked other =
        let x : Tells ticked.new teller teller_iface p q = ticked.all_tell.0 teller_iface linked.here linked.here_is p q at in
        let place = get_past (reached w u.before).sent ticked.new x.sent x.stands in
        let there : slice_get u.tick.after.sent place.0 ≡ Some x.sent = ap (λ (ds : List Sent). slice_get ds place.0) ticked.sent_is ∙ place.2 in
        let linked' : AreLinked net x.sent.router x.sent.iface router iface =
        subst (λ r. AreLinked net r x.sent.iface router iface) (sym x.by_router) (subst (λ i. AreLinked net teller i router iface) (sym x.on_iface) linked) in
        let comes = u.heard place.0 router iface x.sent place.1 there linked' (inl (λ same. other (same ∙ x.by_router))) in
        let stands = step_at u.after (Deliver place.0 router iface comes.0) comes.1 in
        let update : IsUpdate net calm.part.usable calm.part.noisy known calm.part.fits u.tick.after x.sent =
        each_at_place (IsUpdate net calm.part.usable calm.part.noisy known calm.part.fits u.tick.after) ticked.new ticked.all_updates x.stands.0 x.sent x.stands.1 in
        let parts : steps ≡ (u.before ++ u.tick ∷ stands.2.0) ++ stands.0 ∷ stands.2.1 =
        u.parts ∙ ap (λ xs. u.before ++ u.tick ∷ xs) stands.2.2 ∙ sym (append_assoc u.before (u.tick ∷ stands.2.0) (stands.0 ∷ stands.2.1)) in
        let in_the_end : slice_get w'.sent place.0 ≡ Some x.sent = still_sent u.tick.after w' (takes_grows net u.after u.tick.after w' tick_takes.3) place.0 x.sent there in
        record {
          datagram = place.0;
          recent = le_trans (no_fewer w (reached w u.before) first_grows) place.1;
          sent = x.sent;
          sent_is = in_the_end;
          by_router = x.by_router;
          on_iface = x.on_iface;
          entries = x.entries;
          spelled = x.spelled;
          told = subst (AllByRecursion (IsToldLine net u.tick.after known x.sent.router x.sent.iface)) (sym (one_reading Response Response x.entries update.0 x.sent.bytes x.spelled update.1).1) update.2;
          entry = x.entry;
          stands = x.in_entries;
          names = x.names;
          metric_is = x.metric;
          before = u.before ++ u.tick ∷ stands.2.0;
          delivery = stands.0;
          after = stands.2.1;
          parts = parts;
          now = comes.0;
          event = stands.1;
          later = λ between s rest is old moment event d old_is by on. elim (split old (length (reached w u.before).sent)) [
            | inl late ↦ le_trans (no_fewer w (reached w u.before) first_grows) late
            | inr early ↦ absurd (calm.phase.in_order (record {
              before = u.before ++ u.tick ∷ stands.2.0;
              later = stands.0;
              between = between;
              earlier = s;
              after = rest;
              parts = parts ∙ ap (λ xs. (u.before ++ u.tick ∷ stands.2.0) ++ stands.0 ∷ xs) is ∙ sym (append_assoc (u.before ++ u.tick ∷ stands.2.0) (stands.0 ∷ between) (s ∷ rest));
              new = place.0;
              old = old;
              router = router;
              iface = iface;
              now = comes.0;
              moment = moment;
              first = stands.1;
              second = event;
              new_sent = x.sent;
              old_sent = d;
              new_is = ap (λ (v : World). slice_get v.sent place.0) (sym (takes_reached net steps w w' calm.phase.takes)) ∙ in_the_end;
              old_is = ap (λ (v : World). slice_get v.sent old) (sym (takes_reached net steps w w' calm.phase.takes)) ∙ old_is;
              same_router = x.by_router ∙ sym by;
              same_iface = x.on_iface ∙ sym on;
              count = length (reached w u.before).sent;
              counted = inr (record { before = u.before; after = u.tick ∷ u.after; parts = u.parts; count_is = refl });
              old_before = early;
              new_after = place.1;
            }))
          ];
        }
      where
        first_grows : Grows w (reached w u.before)
        first_grows = takes_grows net u.before w (reached w u.before) (takes_first net u.before (u.tick ∷ u.after) w w' (subst (λ xs. Takes net w xs w') u.parts calm.phase.takes))
