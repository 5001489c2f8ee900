-- Whatever happens, a reached world stays one.
use Rattle.std.proofs.Common.{◌≡◌, inl, ℕ, max, ◌≤◌, Bool, true, false, cond, ◌&&◌, ◌==◌, MatchBool, MatchOption, List, [], ◌∷◌, ◌++◌, Option, Some, None, is_none, option_map, unwrap_or, slice_get, refl, ap, ap₂, sym, subst, ◌∙◌, arith}
use Rattle.std.specs.List.{AllByRecursion}
use Rattle.std.proofs.lemmas.Bool.{eq-eqb}
use Rattle.prefix6.specs.Prefix.{Prefix6, IsPrefix}
use Rattle.ripng_wire.specs.declared.rte.Rte.{Rte}
use Rattle.ripng_wire.specs.declared.rte.Command.TheVariants.{Response}
use Rattle.ripng_wire.specs.Layout.{Spells}
use Rattle.ripng_wire.specs.Wire.{is_response}
use Rattle.route_table.specs.Route.{infinity}
use Rattle.router_core.specs.Config.{cost_at}
use Rattle.router_core.specs.Faults.{fault}
use Rattle.router_core.specs.Received.{Received}
use Rattle.router_core.specs.Machine.{State, Arrives, Ticks, Restarts, Reconfigures, ShutsDown, LinkGoesDown, LinkComesUp, Hears, Replies, Refuses, gateway_of}
use Rattle.router_core.specs.Reconfiguring.{reconfigured_config}
use Rattle.router_core.specs.declared.answer.Answer.{Answer}
use Rattle.router_core.specs.declared.arrival.Fault.{Fault}
use Rattle.ripng_world.specs.declared.network.NetInterface.{NetInterface}
use Rattle.ripng_world.specs.declared.event.Sent.{Sent}
use Rattle.ripng_world.specs.Healing.{reconfigured_node, network_now}
use Rattle.ripng_world.specs.Network.{Network, IsNetwork, config_of, interface_at}
use Rattle.ripng_world.specs.Past.{OwnsSince}
use Rattle.ripng_world.specs.TruthSince.{IsSoundDatagramSince, IsSoundEntrySince}
use Rattle.ripng_world.specs.World.{World, Event, Deliver, Stranger, Tick, Restart, Shutdown, LinkDown, LinkUp, Reconfigure, Happens, WorldRun, IsCold, past_of, arrival_of}
use Rattle.ripng_world.proofs.Each.{each_append, each_at_place}
use Rattle.ripng_world.proofs.ColdStates.{cold_states}
use Rattle.ripng_world.proofs.Members.{At}
use Rattle.ripng_world.proofs.WorldRuns.{IsGood, cost_is, ran, cold_good}
use Rattle.ripng_world.proofs.NetworkNow.{AreLawful, changed_alike, changed_at, now_lawful, now_more}
use Rattle.ripng_world.proofs.Reached.{IsKnown, IsReached, waited_reached, started_rows, started_owned, heard_rows, heard_owned, link_down_rows, link_down_owned}
use Rattle.ripng_world.proofs.ReachedRuns.{IsReachedState, AreReached, moved, unchanging, ticked_reached, ticked_config, max_later, changed_reached, reached_grows, done_lawful}

module _ (net : Network) (is_net : IsNetwork net) where
  -- what a router owns, with its past, it has owned
  known_own : (w : World) → IsGood net is_net.owns_prefixes w → (router : ℕ) (s : State) → slice_get w.states router ≡ Some s → (p : Prefix6) (tag : ℕ) → At s.config.prefixes (p, tag) → IsKnown (past_of net w) p
  known_own w good router s is p tag a =
      let c = (good.states_good router s is).configured in
      (router, tag, (each_at_place (λ (t : Prefix6 × ℕ). IsPrefix t.0 × OwnsSince (past_of net w) router t.0 t.1) s.config.prefixes c.prefixes a.0 (p, tag) a.1).1)

  -- an interface costs at least 1, and one that is not there more
  cost_positive : (w : World) → AreReached net w → (router : ℕ) (s : State) → slice_get w.states router ≡ Some s → (iface : ℕ) → 1 ≤ cost_at s.config iface
  cost_positive w all router s is iface =
      let t = all.states router s is in
      let now : Network = network_now (past_of net w) in
      subst (λ c. 1 ≤ cost_at c iface) (sym t.config_is)
      (subst (λ n. 1 ≤ n) (sym (cost_is now router iface t.node t.node_is)) (by_value (interface_at now router iface) refl))
    where
      by_value : (o : Option NetInterface) → interface_at (network_now (past_of net w)) router iface ≡ o → 1 ≤ unwrap_or (option_map (λ i. i.interface.cost) o) infinity
      by_value None e = omega arith
      by_value (Some i) e = ((now_lawful w.reconfigurations net all.lawful is_net).usable.costs router iface i e).0

  module _ (w w' : World) (all : AreReached net w) (good : IsGood net is_net.owns_prefixes w) where
    state_of : (router : ℕ) (s : State) → slice_get w.states router ≡ Some s → IsReached (past_of net w) s
    state_of router s is = (all.states router s is).reached

    -- an arrival, heard or not
    arrived : (router : ℕ) (x : Received) (answer : Answer) (old new : State) (old_is : slice_get w.states router ≡ Some old) (o : Option Fault) (b : Bool)
        → (o ≡ None → b ≡ true → (entries : List Rte) → Spells Response entries x.bytes
        → (sender : ℕ) × AllByRecursion (IsSoundEntrySince (past_of net w) sender) entries)
        → MatchOption o (MatchBool b (Hears old (max old.last x.now) x answer new) (Replies old (max old.last x.now) x answer new)) (λ why. Refuses old (max old.last x.now) why answer new)
        → (new.config ≡ old.config) × IsReached (past_of net w) new
    arrived router x answer old new old_is (Some why) b sound refuses = (ap (λ (s : State). s.config) refuses.state, waited_reached (past_of net w) old new (max old.last x.now) (max_later net is_net old.last x.now) refuses.state (state_of router old old_is))
    arrived router x answer old new old_is None false sound replies = (ap (λ (s : State). s.config) replies.state, waited_reached (past_of net w) old new (max old.last x.now) (max_later net is_net old.last x.now) replies.state (state_of router old old_is))
    arrived router x answer old new old_is None true sound hears =
        let t = state_of router old old_is in
        let e = sound refl refl hears.entries hears.read in (
          ap (λ (s : State). s.config) hears.state,
          subst (IsReached (past_of net w)) (sym hears.state)
              (record {
                rows = heard_rows (past_of net w) old.config (gateway_of old (max old.last x.now) x) (cost_positive w all router old old_is x.iface) old.last (max_later net is_net old.last x.now) e.0
                    _ hears.table refl refl e.1 t.rows hears.heard;
                owned = heard_owned (past_of net w) old.config _ hears.table t.owned hears.heard;
              }),
        )

    happened : (e : Event) (answer : Answer) → Happens net w e answer w' → AreReached net w'
    happened (Tick router now word) answer m =
        unchanging net is_net w w' router (Ticks now word) answer m refl all
        (ap (λ (s : State). s.config) m.moves.state ∙ ticked_config net is_net m.old (max m.old.last now) word)
        (subst (IsReached (past_of net w)) (sym m.moves.state) (ticked_reached net is_net (past_of net w) m.old (max m.old.last now) word (max_later net is_net m.old.last now) (state_of router m.old m.old_is)))
    happened (Restart router now) answer m =
        unchanging net is_net w w' router (Restarts now) answer m refl all (ap (λ (s : State). s.config) m.moves.state)
        (subst (IsReached (past_of net w)) (sym m.moves.state)
        (record {
          rows = started_rows (past_of net w) m.old.config now (known_own w good router m.old m.old_is);
          owned = started_owned (past_of net w) m.old.config;
        }))
    happened (Shutdown router now) answer m =
        unchanging net is_net w w' router (ShutsDown now) answer m refl all (ap (λ (s : State). s.config) m.moves.state)
        (waited_reached (past_of net w) m.old m.new (max m.old.last now) (max_later net is_net m.old.last now) m.moves.state (state_of router m.old m.old_is))
    happened (LinkUp router now iface) answer m =
        unchanging net is_net w w' router (LinkComesUp now iface) answer m refl all (ap (λ (s : State). s.config) m.moves.state)
        (waited_reached (past_of net w) m.old m.new (max m.old.last now) (max_later net is_net m.old.last now) m.moves.state (state_of router m.old m.old_is))
    happened (LinkDown router now iface) answer m =
        let t = state_of router m.old m.old_is in
        let le = max_later net is_net m.old.last now in
        unchanging net is_net w w' router (LinkGoesDown now iface) answer m refl all (ap (λ (s : State). s.config) m.moves.state)
        (subst (IsReached (past_of net w)) (sym m.moves.state)
        (record {
          rows = link_down_rows (past_of net w) m.old.config iface m.old.last (max m.old.last now) m.old.table le t.rows;
          owned = link_down_owned (past_of net w) m.old.config iface m.old.last (max m.old.last now) m.old.table t.rows t.owned;
        }))
    happened (Stranger router x) answer i =
        let m = i.moves in
        let a = arrived router x answer m.old m.new m.old_is (fault m.old.config x) (is_response x.bytes)
        (λ none response. absurd (unheard (fault m.old.config x) (is_response x.bytes) none response i.unheard)) m.moves in
        unchanging net is_net w w' router (Arrives x) answer m refl all a.0 a.1
      where
        unheard : (o : Option Fault) (b : Bool) → o ≡ None → b ≡ true → (b && is_none o) ≡ false → ⊥
        unheard o b none response e = clash (sym (ap₂ (λ c d. d && is_none c) none response) ∙ e)
          where
            clash : true ≡ false → ⊥
            clash e = cc
    happened (Deliver datagram router iface now) answer d =
        let m = d.moves in
        let a = arrived router (arrival_of net d.sent iface now) answer m.old m.new m.old_is (fault m.old.config (arrival_of net d.sent iface now)) (is_response d.sent.bytes)
        (λ none response entries read. (
          d.sent.router,
          each_at_place (λ (s : Sent). IsSoundDatagramSince (past_of net w) s.router s.bytes) w.sent good.sent_true datagram d.sent d.sent_is entries read,
        )) m.moves in
        unchanging net is_net w w' router (Arrives (arrival_of net d.sent iface now)) answer m refl all a.0 a.1
    happened (Reconfigure router now c) answer m =
        let t = all.states router m.old m.old_is in
        let n : ℕ = max m.old.last now in
        moved net is_net w w' router (Reconfigures now c) answer m all
        (each_append _ w.reconfigurations ((router, c) ∷ []) all.lawful (done_lawful m.old.config m.old.table c m.moves.named m.moves.allowed, tt))
        (subst (IsReachedState net (w.reconfigurations ++ (router, c) ∷ []) router) (sym m.moves.state)
        (record {
          node = reconfigured_node t.node c;
          node_is = ap (λ (k : Network). slice_get k router) (now_more net w.reconfigurations (router, c)) ∙ changed_at (network_now (past_of net w)) router c router
              ∙ ap (option_map (λ node. cond (router == router) (reconfigured_node node c) node)) t.node_is ∙ ap (λ b. Some (cond b (reconfigured_node t.node c) t.node)) (eq-eqb router router refl);
          config_is = ap (λ k. reconfigured_config k c) t.config_is ∙ sym (changed_alike t.node c);
          reached = changed_reached net w.reconfigurations router m.old n c (max_later net is_net m.old.last now) t.reached;
        }))
        (λ r s e x. record {
          node = x.node;
          node_is = ap (λ (k : Network). slice_get k r) (now_more net w.reconfigurations (router, c)) ∙ changed_at (network_now (past_of net w)) router c r
              ∙ ap (option_map (λ node. cond (router == r) (reconfigured_node node c) node)) x.node_is ∙ ap (λ b. Some (cond b (reconfigured_node x.node c) x.node)) e;
          config_is = x.config_is;
          reached = reached_grows net w.reconfigurations ((router, c) ∷ []) s x.reached;
        })

  pub reached_on : (events : List Event) (w w' : World) → WorldRun net w events w' → IsGood net is_net.owns_prefixes w → AreReached net w → AreReached net w'
  reached_on [] w w' is good all = subst (AreReached net) (sym is) all
  reached_on (e ∷ events) w w' run good all =
      reached_on events run.0 w' run.3 (ran net is_net.owns_prefixes (e ∷ []) w run.0 (run.0, run.1, run.2, refl) good) (happened w run.0 all good e run.1 run.2)

  -- ---- the beginning

  cold_reached : (moments : List ℕ) (w : World) → IsCold net moments w → AreReached net w
  cold_reached moments w cold =
      let both = cold_states 0 net moments w.states w.sent cold.starts in
      record {
        zoned = cold.zoned;
        lawful = subst AreLawful (sym cold.unchanged) tt;
        states = λ router s is. let t = both.0 router s is in
            subst (λ cs. IsReachedState net cs router s) (sym cold.unchanged)
            (record {
              node = t.0;
              node_is = t.2;
              config_is = ap (λ (x : State). x.config) t.3;
              reached = subst (IsReached (record { net = net; reconfigurations = [] })) (sym t.3)
                  (record {
                    rows = started_rows (record { net = net; reconfigurations = [] }) (config_of t.0) t.1 (λ p tag a. (router, tag, inl (record { node = t.0; node_is = t.2; place = a.0; listed = a.1 })));
                    owned = started_owned (record { net = net; reconfigurations = [] }) (config_of t.0);
                  });
            });
        everyone = both.1;
      }

  pub reached_from_cold : (moments : List ℕ) (events : List Event) (cold w : World) → IsCold net moments cold → WorldRun net cold events w → AreReached net w
  reached_from_cold moments events cold w is run = reached_on events cold w run (cold_good net is_net.owns_prefixes moments cold is) (cold_reached moments cold is)
