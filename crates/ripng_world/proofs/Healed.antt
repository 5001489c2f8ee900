-- A network heals: rounds of the network as it started are rounds of the network now, and any reached world is where they may begin.
use Rattle.std.proofs.Common.{◌≡◌, inl, inr, ℕ, ◌+◌, ◌*◌, max, ◌<◌, ◌≤◌, List, [], ◌∷◌, ◌++◌, length, All, Option, Some, None, option_map, unwrap_or, slice_get, refl, ap, sym, subst, ◌∙◌, arith, append-nil, IsTrue, IsFalse}
use Rattle.std.specs.List.{AllByRecursion}
use Rattle.std.proofs.lemmas.List.Elements.{recursion_from_All}
use Rattle.prefix6.specs.Prefix.{Prefix6, IsPrefix, is_routable}
use Rattle.route_table.specs.Route.{RouteValue}
use Rattle.route_table.specs.declared.route.Origin.{Origin}
use Rattle.route_table.specs.declared.route.Origin.TheVariants.{Own, Learned}
use Rattle.route_table.specs.declared.route.Clock.{Clock}
use Rattle.route_table.specs.declared.route.Clock.TheVariants.{Fixed, Live, Dying}
use Rattle.route_table.proofs.TableLaws.{Some-same, None-Some}
use Rattle.router_core.specs.Announcing.{is_passive}
use Rattle.router_core.specs.Config.{Config}
use Rattle.router_core.specs.Timers.{timeout}
use Rattle.router_core.specs.Machine.{State, Arrives}
use Rattle.router_core.specs.declared.answer.Answer.{Answer}
use Rattle.router_core.specs.declared.reconfiguring.Change.{Change}
use Rattle.ripng_world.specs.declared.network.NetInterface.{NetInterface}
use Rattle.ripng_world.specs.Convergence.{IsNeverQuiet}
use Rattle.ripng_world.specs.Healing.{AreWithinGarbageTime, AreHealed, FitsTablesSince, Heals, network_now}
use Rattle.ripng_world.specs.Asked.{Asked}
use Rattle.ripng_world.specs.Labs.{HasRun}
use Rattle.ripng_world.proofs.AskedSynchronous.{made_synchronous, as_many}
use Rattle.ripng_world.specs.Network.{Network, Node, IsNetwork, Owns, config_of, interface_at}
use Rattle.ripng_world.specs.World.{World, Event, Deliver, Stranger, Tick, Restart, Shutdown, LinkDown, LinkUp, Reconfigure, RouterMoves, Happens, WorldRun, IsCold, past_of, address_at, arrival_of}
use Rattle.ripng_world.specs.Rounds.{Round, IsDeliveryOf, AllTick, AllHeard, IsSynchronousRound, SynchronousRounds, events_of_rounds}
use Rattle.ripng_world.specs.Past.{IsBackedSince}
use Rattle.ripng_world.specs.Walks.{Hop, BeginsAs}
use Rattle.ripng_world.proofs.Each.{each_at_place}
use Rattle.ripng_world.proofs.HealHearing.{AreFew}
use Rattle.ripng_world.proofs.HealStates.{IsSteady, IsSteadyBy}
use Rattle.ripng_world.proofs.HealMany.{AreToGateways, IsToGateway, heals}
use Rattle.ripng_world.proofs.NetworkNow.{AreAlike, alike_back, linked_alike, now_alike, passive_alike, passive_of, now_lawful, now_zoned, place_of, taken_alike, IsLawfulChange}
use Rattle.ripng_world.proofs.Reached.{IsKnown, IsReachedBy}
use Rattle.ripng_world.proofs.ReachedRuns.{AreReached, IsReachedState}
use Rattle.ripng_world.proofs.ReachedWorlds.{reached_from_cold}
use Rattle.ripng_world.proofs.RoundRuns.{rounds_run, run_on}
use Rattle.ripng_world.proofs.WorldRuns.{run_from_cold}

-- ---- rounds of networks with the same links and addresses

module _ (net other : Network) (same : AreAlike net other) where
  address_alike : (router iface : ℕ) → address_at net router iface ≡ address_at other router iface
  address_alike router iface =
      sym (of_place (interface_at net router iface)) ∙ ap (λ o. unwrap_or (option_map (λ (t : ℕ × ℕ × ℕ × ℕ). t.1) o) 0) (sym (same.places router iface)) ∙ of_place (interface_at other router iface)
    where
      of_place : (o : Option NetInterface) → unwrap_or (option_map (λ (t : ℕ × ℕ × ℕ × ℕ). t.1) (option_map place_of o)) 0 ≡ unwrap_or (option_map (λ (i : NetInterface). i.interface.addr) o) 0
      of_place None = refl
      of_place (Some i) = refl

  happens_alike : (w w' : World) (e : Event) (answer : Answer) → Happens net w e answer w' → Happens other w e answer w'
  happens_alike w w' (Deliver datagram router iface now) answer d =
      record {
        sent = d.sent;
        sent_is = d.sent_is;
        linked = linked_alike net other same d.sent.router d.sent.iface router iface d.linked;
        moves = subst (λ a. RouterMoves w router (Arrives (record (arrival_of net d.sent iface now) { source = a })) answer w') (address_alike d.sent.router d.sent.iface) d.moves;
      }
  happens_alike w w' (Stranger router x) answer h = h
  happens_alike w w' (Tick router now word) answer h = h
  happens_alike w w' (Restart router now) answer h = h
  happens_alike w w' (Shutdown router now) answer h = h
  happens_alike w w' (LinkDown router now on) answer h = h
  happens_alike w w' (LinkUp router now on) answer h = h
  happens_alike w w' (Reconfigure router now c) answer h = h

  ticks_alike : (events : List Event) (w w' : World) → AllTick net w events w' → AllTick other w events w'
  ticks_alike [] w w' is = is
  ticks_alike (e ∷ events) w w' run = (run.0, run.1, run.2, happens_alike w run.0 e run.1 run.3, ticks_alike events run.0 w' run.4)

  heard_alike : (events : List Event) (w w' : World) → AllHeard net w events w' → AllHeard other w events w'
  heard_alike [] w w' is = is
  heard_alike (e ∷ events) w w' run = (run.0, run.1, happens_alike w run.0 e run.1 run.2, run.3, heard_alike events run.0 w' run.4)

  round_alike : (w w' : World) (round : Round) → IsSynchronousRound net w round w' → IsSynchronousRound other w round w'
  round_alike w w' round s =
      record {
        after_ticks = s.after_ticks;
        each_ticks = λ router h. s.each_ticks router (subst (λ n. router < n) same.size h);
        once = s.once;
        all_tick = ticks_alike round.ticks w s.after_ticks s.all_tick;
        only_these = s.only_these;
        each_delivered = λ datagram router iface d late is linked elsewhere. s.each_delivered datagram router iface d late is (linked_alike other net (alike_back net other same) d.router d.iface router iface linked) elsewhere;
        elsewhere = s.elsewhere;
        all_heard = heard_alike round.deliveries s.after_ticks w' s.all_heard;
      }

  rounds_alike : (rounds : List Round) (w w' : World) → SynchronousRounds net w rounds w' → SynchronousRounds other w rounds w'
  rounds_alike [] w w' is = is
  rounds_alike (round ∷ rounds) w w' run = (run.0, round_alike w run.0 round run.1, rounds_alike rounds run.0 w' run.2)

  noisy_alike : IsNeverQuiet net → IsNeverQuiet other
  noisy_alike noisy router iface node is = by_value (slice_get net router) refl (sym (ap (option_map passive_of) is) ∙ same.passive router)
    where
      by_value : (o : Option Node) → slice_get net router ≡ o → Some (passive_of node) ≡ option_map passive_of o → IsFalse (is_passive (config_of node) iface)
      by_value None at e = absurd (None-Some (passive_of node) (sym e))
      by_value (Some n) at e = passive_alike iface n node (sym (Some-same (passive_of node) (passive_of n) e)) (noisy router iface n at)

-- ---- rounds change no configuration

ticks_keep : (net : Network) (events : List Event) (w w' : World) → AllTick net w events w' → w'.reconfigurations ≡ w.reconfigurations
ticks_keep net [] w w' is = ap (λ (v : World). v.reconfigurations) is
ticks_keep net (Tick router now word ∷ events) w w' run = ticks_keep net events run.0 w' run.4 ∙ run.3.reconfigurations ∙ append-nil w.reconfigurations
ticks_keep net (Deliver datagram router iface now ∷ events) w w' run = absurd run.2
ticks_keep net (Stranger router x ∷ events) w w' run = absurd run.2
ticks_keep net (Restart router now ∷ events) w w' run = absurd run.2
ticks_keep net (Shutdown router now ∷ events) w w' run = absurd run.2
ticks_keep net (LinkDown router now on ∷ events) w w' run = absurd run.2
ticks_keep net (LinkUp router now on ∷ events) w w' run = absurd run.2
ticks_keep net (Reconfigure router now c ∷ events) w w' run = absurd run.2

heard_keep : (net : Network) (first end : ℕ) (events : List Event) → AllByRecursion (IsDeliveryOf first end) events → (w w' : World) → AllHeard net w events w' → w'.reconfigurations ≡ w.reconfigurations
heard_keep net first end [] these w w' is = ap (λ (v : World). v.reconfigurations) is
heard_keep net first end (Deliver datagram router iface now ∷ events) these w w' run = heard_keep net first end events these.1 run.0 w' run.4 ∙ run.2.moves.reconfigurations ∙ append-nil w.reconfigurations
heard_keep net first end (Stranger router x ∷ events) these w w' run = absurd these.0
heard_keep net first end (Tick router now word ∷ events) these w w' run = absurd these.0
heard_keep net first end (Restart router now ∷ events) these w w' run = absurd these.0
heard_keep net first end (Shutdown router now ∷ events) these w w' run = absurd these.0
heard_keep net first end (LinkDown router now on ∷ events) these w w' run = absurd these.0
heard_keep net first end (LinkUp router now on ∷ events) these w w' run = absurd these.0
heard_keep net first end (Reconfigure router now c ∷ events) these w w' run = absurd these.0

pub rounds_keep : (net : Network) (rounds : List Round) (w w' : World) → SynchronousRounds net w rounds w' → w'.reconfigurations ≡ w.reconfigurations
rounds_keep net [] w w' is = ap (λ (v : World). v.reconfigurations) is
rounds_keep net (round ∷ rounds) w w' run =
    rounds_keep net rounds run.0 w' run.2
    ∙ heard_keep net _ _ round.deliveries (recursion_from_All (IsDeliveryOf (length w.sent) (length run.1.after_ticks.sent)) round.deliveries run.1.only_these) run.1.after_ticks run.0 run.1.all_heard
    ∙ ticks_keep net round.ticks w run.1.after_ticks run.1.all_tick

-- ---- where rounds begin

module _ (net : Network) (is_net : IsNetwork net) (w : World) (all : AreReached net w) (fits : FitsTablesSince (past_of net w)) where
  abbrev now : Network
  now = network_now (past_of net w)

  abbrev Known : Prefix6 → Type 0
  Known = IsKnown (past_of net w)

  few : AreFew (network_now (past_of net w)) (IsKnown (past_of net w))
  few =
      record {
        owned = fits.0;
        few = fits.1;
        all = λ p k. fits.2 k.0 p k.1 k.2;
        prefixes = λ p k. (lawful p k).0;
        routable = λ p k. (lawful p k).1;
        taken = taken_alike net (network_now (past_of net w)) (now_alike w.reconfigurations net) (IsKnown (past_of net w)) (length fits.0) fits.3;
      }
    where
      lawful : (p : Prefix6) → IsKnown (past_of net w) p → IsPrefix p × IsTrue (is_routable p)
      lawful p k = elim k.2 [
        | inl owns ↦ (is_net.owns_prefixes k.0 p k.1 owns, is_net.usable.routable k.0 p k.1 owns)
        | inr done ↦ each_at_place (λ (t : ℕ × Change). IsLawfulChange t.1) w.reconfigurations all.lawful done.0 _ done.1
      ]

  steady : IsSteady (network_now (past_of net w)) (IsKnown (past_of net w)) w (λ _ _. ⊥) 13 3
  steady =
      record {
        states = λ router s is. let t = all.states router s is in
            record {
              node = t.node;
              node_is = t.node_is;
              config_is = t.config_is;
              plain = λ p r at. (t.reached.rows p r at).plain;
              steady = λ p r at. by_clock router s t p r r.clock (t.reached.rows p r at).reached;
              owned = λ p tag owns. t.reached.owned p tag (listed router s t p tag owns);
            };
        everyone = λ router node is. there router node (slice_get net router) refl (sym ((now_alike w.reconfigurations net).passive router) ∙ ap (option_map passive_of) is);
      }
    where
      listed : (router : ℕ) (s : State) (t : IsReachedState net w.reconfigurations router s) (p : Prefix6) (tag : ℕ) → Owns (network_now (past_of net w)) router p tag → (i : ℕ) × (slice_get s.config.prefixes i ≡ Some (p, tag))
      listed router s t p tag owns = (
        owns.place,
        ap (λ (c : Config). slice_get c.prefixes owns.place) t.config_is ∙ ap (λ (n : Node). slice_get n.prefixes owns.place) (Some-same t.node owns.node (sym t.node_is ∙ owns.node_is)) ∙ owns.listed,
      )

      by_clock : (router : ℕ) (s : State) (t : IsReachedState net w.reconfigurations router s) (p : Prefix6) (r : RouteValue) (c : Clock) → IsReachedBy s.config s.last p r c
          → IsSteadyBy (network_now (past_of net w)) w (λ _ _. ⊥) 13 3 router (max s.last s.regular) p r c
      by_clock router s t p r Fixed k = (
        k.0,
        (k.1.0, record { node = t.node; node_is = t.node_is; place = k.1.1.0; listed = ap (λ (c : Config). slice_get c.prefixes k.1.1.0) (sym t.config_is) ∙ k.1.1.1 }),
      )
      by_clock router s t p r (Dying until) k = tt
      by_clock router s t p r (Live until) k =
          (k.0.0, k.0.1, k.0.2, k.0.3, inl (record { some = omega arith; soon = soon until s.last s.regular k.2; two = k.1 }))
        where
          soon : (u l g : ℕ) → u ≤ l + timeout → u + 15_000 ≤ max l g + 15_000 * 13
          soon u l g h = omega arith

      there : (router : ℕ) (node : Node) (o : Option Node) → slice_get net router ≡ o → option_map passive_of o ≡ Some (passive_of node) → (s : State) × (slice_get w.states router ≡ Some s)
      there router node None is e = absurd (None-Some (passive_of node) e)
      there router node (Some n) is e = all.everyone router n is

  pub heals_here : IsNeverQuiet net → (rounds : List Round) (end : World) → SynchronousRounds net w rounds end → AreWithinGarbageTime rounds → 26 ≤ length rounds → AreToGateways end → AreHealed (network_now (past_of net end)) end
  heals_here noisy rounds end run close many to_gateways =
      let alike = now_alike w.reconfigurations net in
      let lawful = now_lawful w.reconfigurations net all.lawful is_net in
      subst (λ cs. AreHealed (network_now (record { net = net; reconfigurations = cs })) end) (sym (rounds_keep net rounds w end run))
      (heals (network_now (past_of net w)) lawful.usable (noisy_alike net (network_now (past_of net w)) alike noisy) lawful.distinct (now_zoned w.reconfigurations net all.zoned) (IsKnown (past_of net w)) few rounds w end steady close
      (rounds_alike net (network_now (past_of net w)) alike rounds w end run) many to_gateways)

-- each route has gone to its gateway since it was taken
pub to_gateways : (net : Network) → IsNetwork net → (moments : List ℕ) (events : List Event) (cold w : World) → IsCold net moments cold → WorldRun net cold events w → AreToGateways w
to_gateways net is_net moments events cold w is run router s here p r at low =
    let b : IsBackedSince (past_of net w) router p r = (((run_from_cold net is_net.owns_prefixes moments events cold w is run).states_good router s here).sound p r at).backed low in
    gateway r.origin b.0 b.2
  where
    gateway : (o : Origin) (walk : List Hop) → BeginsAs net o walk → IsToGateway o
    gateway Own walk b = tt
    gateway (Learned iface from next_hop) [] b = absurd b
    gateway (Learned iface from next_hop) (h ∷ walk) b = b.2

pub heals_after : (net : Network) (moments : List ℕ) (events : List Event) (rounds : List Round) (cold w end : World)
    → IsNetwork net → IsNeverQuiet net → IsCold net moments cold → WorldRun net cold events w → FitsTablesSince (past_of net w)
    → SynchronousRounds net w rounds end → AreWithinGarbageTime rounds → 26 ≤ length rounds → AreHealed (network_now (past_of net end)) end
heals_after net moments events rounds cold w end is_net noisy is run fits then close many =
    heals_here net is_net w (reached_from_cold net is_net moments events cold w is run) fits noisy rounds end then close many
    (to_gateways net is_net moments (events ++ events_of_rounds rounds) cold end is (run_on net events (events_of_rounds rounds) cold w end run (rounds_run net rounds w end then)))

-- rounds of a lab, as they are asked for
pub heals_asked : (net : Network) (asks : List Asked) (w w' : World) → HasRun net w → All (λ a. length a.ticks ≡ length net) asks → Heals net w asks w'
heals_asked net asks w w' ran all rounds noisy fits made close many =
    heals_after net ran.moments ran.events rounds ran.cold w w' ran.lawful noisy ran.is_cold ran.run fits (made_synchronous net asks rounds w w' all made) close
    (subst (λ n. 26 ≤ n) (sym (as_many net asks rounds w w' made)) many)
