-- At the end of a phase each live route is held by what was sent in it: its gateway's regular update has been heard.
use Rattle.std.proofs.Common.{◌≡◌, ◌≢◌, inl, inr, ℕ, ◌<◌, Bool, true, false, ◌&&◌, ◌==◌, cond, List, [], ◌∷◌, ◌++◌, length, All, Option, Some, option_map, unwrap_or, slice_get, refl, ap, ap₂, sym, subst, ◌∙◌, append_assoc, append-nil}
use Rattle.std.specs.FinMap as map_of
use Rattle.std.proofs.lemmas.Bool.{eq-eqb, eqb-true}
use Rattle.prefix6.specs.Prefix.{Prefix6}
use Rattle.route_table.specs.Route.{RouteValue, infinity}
use Rattle.route_table.specs.declared.route.Clock.{Clock}
use Rattle.route_table.specs.declared.route.Clock.TheVariants.{Fixed, Live, Dying}
use Rattle.route_table.specs.declared.route.Origin.{Origin}
use Rattle.route_table.specs.declared.route.Origin.TheVariants.{Learned}
use Rattle.route_table.proofs.TableLaws.{Some-same}
use Rattle.router_core.specs.Adoption.{is_through}
use Rattle.router_core.specs.Machine.{State}
use Rattle.router_core.specs.Offers.{prefix_named}
use Rattle.router_core.specs.Output.{is_learned_on}
use Rattle.router_core.specs.declared.answer.NoteKind.TheVariants.{NoMemory}
use Rattle.ripng_world.specs.Network.{Network, AreLinked, interface_at}
use Rattle.ripng_world.specs.Rounds.{router_of, moment_of}
use Rattle.ripng_world.specs.World.{World, Event, Deliver, Happens, address_at}
use Rattle.ripng_world.specs.declared.network.NetInterface.{NetInterface}
use Rattle.ripng_world.specs.declared.event.Sent.{Sent}
use Rattle.ripng_world.proofs.HealPlain.{IsClocked}
use Rattle.ripng_world.proofs.RoundDeliveries.{gateway_at}
use Rattle.ripng_world.proofs.RoundNeighbors.{one_sender}
use Rattle.ripng_phases.specs.Phases.{Step, IsOrdinary, Takes, IsMomentIn, Before, reached}
use Rattle.ripng_phases.proofs.Along.{along}
use Rattle.ripng_phases.proofs.Calm.{Within, in_net, node_of, here_now, near_now, orderly_here, lasts_at, held_at}
use Rattle.ripng_phases.proofs.Held.{IsHeld, AllHeld, AllHeldIn, kept, took}
use Rattle.ripng_phases.proofs.Lasting.{SaidLasts, sent_before}
use Rattle.ripng_phases.proofs.Moving.{IsStep, step_of}
use Rattle.ripng_phases.proofs.Orderly.{IsOrderly, IsOrderlyState}
use Rattle.ripng_phases.proofs.Resting.{rests_low}
use Rattle.ripng_phases.proofs.Rows.{IsLasting, LastsBy}
use Rattle.ripng_phases.proofs.Runs.{takes_first, takes_rest, takes_reached, reached_on}
use Rattle.ripng_phases.proofs.Stepping.{live_after}
use Rattle.ripng_phases.proofs.Updated.{IsToldIn, update_holds, update_moves}
use Rattle.ripng_phases.proofs.Updating.{IsCalmPhase, IsHeardOf, heard_of, orderly_last, takes_grows, still_sent}

-- the address of an interface that is there
pub address_is : (net : Network) (router iface : ℕ) (i : NetInterface) → interface_at net router iface ≡ Some i → option_map (λ (x : NetInterface). x.interface.addr) (interface_at net router iface) ≡ Some (address_at net router iface)
address_is net router iface i is = ap (option_map (λ (x : NetInterface). x.interface.addr)) is ∙ ap Some (sym (address_of is))
  where
    address_of : interface_at net router iface ≡ Some i → address_at net router iface ≡ i.interface.addr
    address_of e = ap (λ o. unwrap_or (option_map (λ (x : NetInterface). x.interface.addr) o) 0) e

pub linked_back : (net : Network) (a i b j : ℕ) → AreLinked net a i b j → AreLinked net b j a i
linked_back net a i b j l = record { here = l.there; there = l.here; here_is = l.there_is; there_is = l.here_is; same_link = sym l.same_link }

pub goes_through : (iface from next_hop : ℕ) → is_through (gateway_at iface from) (Learned iface from next_hop) ≡ true
goes_through iface from next_hop = ap₂ (λ a b. a && b) (eq-eqb iface iface refl) (eq-eqb from from refl)

-- a gateway is one interface of one router
pub one_gateway : (net : Network) (iface from a b k : ℕ) → is_through (gateway_at iface from) (Learned a b k) ≡ true → (a ≡ iface) × (b ≡ from)
one_gateway net iface from a b k e = (eqb-true a iface (and_left (a == iface) (b == from) e), eqb-true b from (and_right (a == iface) (b == from) e))
  where
    and_left : (a b : Bool) → (a && b) ≡ true → a ≡ true
    and_left true b e = refl
    and_left false b e = e

    and_right : (a b : Bool) → (a && b) ≡ true → b ≡ true
    and_right true b e = e
    and_right false b e = absurd (cc)

module _ (net : Network) (known : Prefix6 → Type 0) (past : Before) (w : World) (steps : List Step) (w' : World) (calm : IsCalmPhase net known past w steps w') where
  -- the delivery that a neighbor hears of the prefix
  module _ (mid : World) (teller teller_iface router iface : ℕ) (p : Prefix6) (metric : ℕ) (k : IsHeardOf net known w steps w' mid teller teller_iface router iface p metric) where
    pub rest_takes : Takes net (reached w k.before) (k.delivery ∷ k.after) w'
    rest_takes = takes_rest net k.before (k.delivery ∷ k.after) w w' (subst (λ xs. Takes net w xs w') k.parts calm.phase.takes)

    pub update_here : Happens net (reached w k.before) (Deliver k.datagram router iface k.now) k.delivery.answer k.delivery.after
    update_here = subst (λ (e : Event). Happens net (reached w k.before) e k.delivery.answer k.delivery.after) k.event rest_takes.1

    same_sent : k.sent ≡ update_here.sent
    same_sent = Some-same k.sent update_here.sent (sym k.sent_is ∙ still_sent (reached w k.before) w' (takes_grows net (k.delivery ∷ k.after) (reached w k.before) w' rest_takes) k.datagram update_here.sent update_here.sent_is)

    -- what it tells
    pub record IsTellingOf (d : Sent) : Type 0 where
      pub update : IsToldIn net mid known d
      pub names : prefix_named update.entry ≡ p
      pub metric_is : update.entry.metric ≡ metric
      pub by_router : d.router ≡ teller
      pub on_iface : d.iface ≡ teller_iface

    pub telling : IsTellingOf update_here.sent
    telling =
        subst IsTellingOf same_sent
        (record {
          update = record { entries = k.entries; spelled = k.spelled; told = k.told; entry = k.entry; stands = k.stands };
          names = k.names;
          metric_is = k.metric_is;
          by_router = k.by_router;
          on_iface = k.on_iface;
        })

    pub apart_from : router ≢ teller → router ≢ update_here.sent.router
    apart_from other same = other (same ∙ telling.by_router)

    pub update_moment : IsMomentIn steps router k.now
    update_moment = subst (λ (e : Event). IsMomentIn steps (router_of e) (moment_of e)) k.event (here_now net known past w steps w' calm.part k.before k.delivery k.after k.parts)

    pub update_orderly : IsOrderly net known (reached w k.before)
    update_orderly = orderly_here net known past w steps w' calm.part k.before k.delivery k.after k.parts

    -- a live route of the prefix through the teller is held by what was sent in the phase
    abbrev HeldThrough : World → Type 0
    HeldThrough v =
        (s : State) (r : RouteValue) (until : ℕ) → slice_get v.states router ≡ Some s → map_of.get s.table p ≡ Some r → r.clock ≡ Live until → is_through (gateway_at iface (address_at net teller teller_iface)) r.origin ≡ true
        → IsHeld net v (length w.sent) (IsMomentIn steps) router s.last p r until

    held_first : router ≢ teller → HeldThrough k.delivery.after
    held_first other s r until is at clock goes =
        let moves = update_moves net calm.part.usable calm.part.distinct known calm.part.fits mid (reached w k.before) k.delivery.after update_orderly k.datagram router iface k.now k.delivery.answer rest_takes.2 update_here telling.update (apart_from other) in
        let same : update_here.moves.new ≡ s = Some-same update_here.moves.new s (sym moves.0 ∙ is) in
        subst (λ (t : State). IsHeld net k.delivery.after (length w.sent) (IsMomentIn steps) router t.last p r until) same
        (subst (λ (q : Prefix6). IsHeld net k.delivery.after (length w.sent) (IsMomentIn steps) router update_here.moves.new.last q r until) telling.names
        (update_holds net calm.part.usable calm.part.distinct known calm.part.fits mid (reached w k.before) k.delivery.after update_orderly k.datagram router iface k.now k.delivery.answer rest_takes.2 update_here telling.update (apart_from other)
        (length w.sent) (IsMomentIn steps) k.recent update_moment r until
        (ap (λ (q : Prefix6). map_of.get update_here.moves.new.table q) telling.names ∙ ap (λ (t : State). map_of.get t.table p) same ∙ at) clock
        (subst (λ f. is_through (gateway_at iface f) r.origin ≡ true) (ap₂ (address_at net) (sym telling.by_router) (sym telling.on_iface)) goes)))

    held_next : (before : List Step) (s : Step) (after : List Step) → k.after ≡ before ++ s ∷ after → IsOrdinary s.event → Happens net (reached k.delivery.after before) s.event s.answer s.after
        → All (λ n. n.kind ≢ NoMemory) s.answer.notes → HeldThrough (reached k.delivery.after before) → HeldThrough s.after
    held_next before s after parts plain h memory held t r until t_is at clock goes =
        elim (live_after net v s.event s.answer router came.0 t came.2 p r until at clock) [
          | inl was ↦ kept net v s.after s.event s.answer h (IsMomentIn steps) (length w.sent) (λ x m. near_now net known past w steps w' calm.part (k.before ++ k.delivery ∷ before) s after all x (inr m))
              router came.0 t came.2 p was.0 r until was.2
              (held came.0 was.0 until came.1 was.1 (sym was.2.clock ∙ clock) (subst (λ (x : Origin). is_through (gateway_at iface (address_at net teller teller_iface)) x ≡ true) was.2.origin goes))
          | inr got ↦
              let here = got.0 in
              let same = one_gateway net iface (address_at net teller teller_iface) here.iface (address_at net here.sent.router here.sent.iface) got.1.next_hop
              (sym (ap (is_through (gateway_at iface (address_at net teller teller_iface))) got.1.origin) ∙ goes) in
              let sender = one_sender net calm.part.distinct router iface (address_at net teller teller_iface) here.sent.router here.sent.iface teller teller_iface
              (subst (λ i. AreLinked net router i here.sent.router here.sent.iface) same.0 (linked_back net here.sent.router here.sent.iface router here.iface here.linked)) teller_near
              (address_is net here.sent.router here.sent.iface here.linked.here here.linked.here_is ∙ ap Some same.1) (address_is net teller teller_iface teller_near.there teller_near.there_is) in
              let in_the_end : slice_get w'.sent here.datagram ≡ Some here.sent = still_sent v w' (takes_grows net (s ∷ after) v w' takes_here) here.datagram here.sent here.sent_is in
              took net v s.after s.event s.answer h (IsMomentIn steps) (length w.sent) known (subst (IsOrderly net known) world (orderly_here net known past w steps w' calm.part (k.before ++ k.delivery ∷ before) s after all))
              (here_now net known past w steps w' calm.part (k.before ++ k.delivery ∷ before) s after all) router came.0 t came.1 here
              (k.later before s after parts here.datagram here.now (here.event ∙ ap (λ i. Deliver here.datagram router i here.now) same.0) here.sent in_the_end sender.0 sender.1) p r until got.1
        ]
      where
        v : World
        v = reached k.delivery.after before

        all : steps ≡ (k.before ++ k.delivery ∷ before) ++ s ∷ after
        all = k.parts ∙ ap (λ xs. k.before ++ k.delivery ∷ xs) parts ∙ sym (append_assoc k.before (k.delivery ∷ before) (s ∷ after))

        world : reached w (k.before ++ k.delivery ∷ before) ≡ reached k.delivery.after before
        world = reached_on k.before (k.delivery ∷ before) w

        takes_here : Takes net (reached k.delivery.after before) (s ∷ after) w'
        takes_here = takes_rest net before (s ∷ after) k.delivery.after w' (subst (λ xs. Takes net k.delivery.after xs w') parts rest_takes.3)

        came : (x : State) × (slice_get (reached k.delivery.after before).states router ≡ Some x) × IsStep net (reached k.delivery.after before) s.event s.answer router x t
        came = step_of net v s.after s.event s.answer plain h router t t_is

        teller_near : AreLinked net router iface teller teller_iface
        teller_near =
            subst (λ a. AreLinked net router iface a teller_iface) telling.by_router
            (subst (λ b. AreLinked net router iface update_here.sent.router b) telling.on_iface
            (linked_back net update_here.sent.router update_here.sent.iface router iface update_here.linked))

    pub held_through : router ≢ teller → (s : State) (r : RouteValue) (until : ℕ) → slice_get w'.states router ≡ Some s → map_of.get s.table p ≡ Some r → r.clock ≡ Live until
        → is_through (gateway_at iface (address_at net teller teller_iface)) r.origin ≡ true → IsHeld net w' (length w.sent) (IsMomentIn steps) router s.last p r until
    held_through other =
        subst HeldThrough (sym (takes_reached net k.after k.delivery.after w' rest_takes.3))
        (along net k.delivery.after w' k.after rest_takes.3 (λ _ v. HeldThrough v) held_next k.after [] (sym (append-nil k.after)) (held_first other))

  -- ---- all routes

  module _ (old : ℕ → ℕ → Type 0) (held : AllHeld net w past.first past.moments old) (said : SaidLasts past.moments w past.first) where
    pub fresh_after : AllHeld net w' (length w.sent) (IsMomentIn steps) old
    fresh_after router p r until at clock =
        elim (all_there router p r until at clock) [
          | inl x ↦ inl x
          | inr x ↦ elim x [ inl y ↦ inl (older y.0 y.1) | inr y ↦ inr y ]
        ]
      where
        all_there : AllHeldIn net past.first (length w.sent) (IsMomentIn steps) (Within past steps) old w'
        all_there = subst (AllHeldIn net past.first (length w.sent) (IsMomentIn steps) (Within past steps) old) (sym (takes_reached net steps w w' calm.phase.takes))
            (held_at net known past w steps w' calm.part old held steps [] (sym (append-nil steps)))

        low : r.metric < infinity
        low = by ((orderly_last net known past w steps w' calm.part).states router at.0 at.1)
          where
            by : IsOrderlyState net known router at.0 → r.metric < infinity
            by o = subst (IsClocked r.metric) clock (o.plain p r at.2).clocked

        older : (x : IsHeld net w' past.first (Within past steps) router at.0.last p r until) → x.rests.datagram < length w.sent → IsHeld net w' (length w.sent) (IsMomentIn steps) router at.0.last p r until
        older x early =
            let rests = x.rests in
            let teller_node = node_of net rests.sent.router rests.sent.iface rests.linked.there rests.linked.there_is in
            let here = in_net net rests.sent.router rests.sent.iface rests.linked.there rests.linked.there_is in
            let u = calm.phase.told rests.sent.router here in
            let parts : steps ≡ (u.before ++ u.tick ∷ []) ++ u.after = u.parts ∙ sym (append_assoc u.before (u.tick ∷ []) u.after) in
            let tick_is : reached w (u.before ++ u.tick ∷ []) ≡ u.tick.after = reached_on u.before (u.tick ∷ []) w in
            let orderly : IsOrderly net known u.tick.after = subst (IsOrderly net known) tick_is (calm.part.orderly (u.before ++ u.tick ∷ []) u.after parts) in
            let t = orderly.everyone rests.sent.router teller_node.0 teller_node.1 in
            let first_takes = takes_first net (u.before ++ u.tick ∷ []) u.after w w' (subst (λ xs. Takes net w xs w') parts calm.phase.takes) in
            let grows = takes_grows net steps w w' calm.phase.takes in
            let was_sent : slice_get w.sent rests.datagram ≡ Some rests.sent = sent_before w w' grows.0 grows.1 rests.datagram rests.sent early rests.sent_is in
            let there : slice_get (reached w (u.before ++ u.tick ∷ [])).sent rests.datagram ≡ Some rests.sent =
            still_sent w (reached w (u.before ++ u.tick ∷ [])) (takes_grows net (u.before ++ u.tick ∷ []) w (reached w (u.before ++ u.tick ∷ [])) first_takes) rests.datagram rests.sent was_sent in
            let lasts = lasts_at net known past w steps w' calm.part (Within past steps) (λ a m y. inr y) (λ a m y. y) past.first (λ i d le is entries spelled e stands few s s_is. more (said i d le is entries spelled e stands few s s_is))
            (u.before ++ u.tick ∷ []) u.after parts rests.datagram rests.sent rests.recent there rests.entries rests.spelled rests.entry rests.stands (rests_low net w' past.first router p r rests low)
            t.0 (ap (λ (v : World). slice_get v.states rests.sent.router) tick_is ∙ t.1) in
            let q_at : map_of.get t.0.table p ≡ Some lasts.0 = ap (map_of.get t.0.table) (sym rests.names) ∙ lasts.1 in
            let k = heard_of net known past w steps w' calm rests.sent.router here p lasts.0 (t.0, t.1, q_at) rests.sent.iface router rests.iface (linked_back net router rests.iface rests.sent.router rests.sent.iface rests.linked) rests.apart in
            held_through u.tick.after rests.sent.router rests.sent.iface router rests.iface p (cond (is_learned_on rests.sent.iface lasts.0.origin) infinity lasts.0.metric) k rests.apart at.0 r until at.1 at.2 clock
            (ap (is_through (gateway_at rests.iface (address_at net rests.sent.router rests.sent.iface))) rests.origin ∙ goes_through rests.iface (address_at net rests.sent.router rests.sent.iface) rests.next_hop)
          where
            more : {router' last : ℕ} {b : Option RouteValue} → IsLasting (past.moments router') last b → IsLasting (Within past steps router') last b
            more {router'} {last} l = (l.0, l.1, by l.0.clock l.2)
              where
                by : (c : Clock) → LastsBy (past.moments router') last c → LastsBy (Within past steps router') last c
                by Fixed y = tt
                by (Live u) y = tt
                by (Dying u) y = (y.0, (y.1.0, inl y.1.1, y.1.2))
