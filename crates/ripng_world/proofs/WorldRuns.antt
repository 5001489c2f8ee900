-- Every event of a network keeps every table sound and every datagram true.
use Rattle.std.proofs.Common.{◌≡◌, ◌≢◌, ◌⊎◌, inl, inr, ℕ, zero, suc, ◌+◌, ◌%◌, max, Bool, true, false, cond, not, ◌&&◌, ◌||◌, ◌==◌, MatchBool, MatchOption, List, [], ◌∷◌, ◌++◌, map, Option, Some, None, is_none, option_map, option_and_then, unwrap_or, slice_get, slice_set, refl, ap, ap₂, sym, subst, ◌∙◌, arith, add-zero, append_assoc, append-nil}
use Rattle.std.specs.List.{AllByRecursion, list_any, cons_option}
use Rattle.std.proofs.lemmas.Bool.{eq-eqb}
use Rattle.std.specs.FinMap as map_of
use Rattle.std.specs.Ordering.{eq_by_cmp}
use Rattle.std.proofs.lemmas.Map.Views.{tells_apart}
use Rattle.prefix6.specs.Prefix.{Prefix6, IsPrefix, prefix_cmp, same_prefix}
use Rattle.prefix6.proofs.PrefixLaws.{exact_prefixes}
use Rattle.ripng_wire.specs.Wire.{first_reason, wire_reasons, is_response}
use Rattle.route_table.specs.Route.{RouteValue, infinity}
use Rattle.route_table.specs.Table.{Table, with_value}
use Rattle.route_table.proofs.TableLaws.{at_from_entries, Some-same, None-Some}
use Rattle.route_table.proofs.TableSteps.{get-with_value}
use Rattle.router_core.specs.Config.{Config, cost_at, zone_at, is_own_address}
use Rattle.router_core.specs.Received.{Received}
use Rattle.router_core.specs.Faults.{fault, arrival_reasons, response_reasons, request_reasons}
use Rattle.router_core.specs.Ageing.{aged_table, unmarked}
use Rattle.router_core.specs.Machine.{State, Happening, Arrives, Ticks, Restarts, Reconfigures, ShutsDown, LinkGoesDown, LinkComesUp, Hears, Replies, Refuses, started, ticked, owned_table, gateway_of, is_regular_due, is_triggered_due}
use Rattle.router_core.specs.Adoption.{lost}
use Rattle.router_core.specs.Owning.{owned_route}
use Rattle.router_core.specs.Reconfiguring.{IsNamed, with_cost, reconfigured_config, reconfigured_table, newly_owned, disowned}
use Rattle.router_core.specs.declared.config.Interface.{Interface}
use Rattle.router_core.specs.declared.reconfiguring.Change.{Change}
use Rattle.router_core.specs.declared.reconfiguring.Change.TheVariants.{Cost, Own, Disown}
use Rattle.router_core.specs.declared.answer.Answer.{Answer}
use Rattle.router_core.specs.declared.arrival.Fault.{Fault}
use Rattle.router_core.specs.declared.arrival.Fault.TheVariants.{Wire}
use Rattle.ripng_world.specs.declared.network.NetInterface.{NetInterface}
use Rattle.ripng_world.specs.declared.event.Sent.{Sent}
use Rattle.ripng_world.specs.Network.{Network, Node, config_of, interface_at, AreLinked, AreZoned, Owns, OwnsPrefixes}
use Rattle.ripng_world.specs.Walks.{cost_of_interface}
use Rattle.ripng_world.specs.World.{World, Event, Deliver, Stranger, Tick, Restart, Shutdown, LinkDown, LinkUp, Reconfigure, RouterMoves, Happens, WorldRun, StartsFrom, IsCold, past_of, reconfigurations_of, reconfiguration_in, reconfigurations_in, sent_by, address_at, arrival_of}
use Rattle.ripng_world.specs.Past.{Past, HasCostSince, OwnsSince}
use Rattle.ripng_world.specs.TruthSince.{IsNeighborSince, IsSoundSince, IsSoundTableSince, IsSoundDatagramSince}
use Rattle.ripng_world.proofs.Each.{each_append, each_filter, each_mapped, each_weaker, each_from_places, each_at_place}
use Rattle.ripng_world.proofs.Members.{at_right}
use Rattle.ripng_world.proofs.Growing.{cost_grows, owner_grows, table_grows, truth_grows}
use Rattle.ripng_world.proofs.Telling.{lost_sound, aged_sound, link_down_sound, unmarked_sound, sends_true, starting_true}
use Rattle.ripng_world.proofs.Keeping.{heard_sound}
use Rattle.router_core.specs.Timers.{next_hold, next_regular}

-- ---- tests

passed : {F : Type 0} (ts : List (Bool × F)) → first_reason ts ≡ None → AllByRecursion (λ t. t.0 ≡ false) ts
passed [] e = tt
passed (t ∷ ts) e = by_test t.0 refl e (passed ts)
  where
    by_test : (b : Bool) → t.0 ≡ b → cond b (Some t.1) (first_reason ts) ≡ None → (first_reason ts ≡ None → AllByRecursion (λ u. u.0 ≡ false) ts)
        → (t.0 ≡ false) × AllByRecursion (λ u. u.0 ≡ false) ts
    by_test true is none rest = absurd (None-Some _ (sym none))
    by_test false is none rest = (is, rest none)

later_passed : {F : Type 0} (xs ys : List (Bool × F)) → first_reason (xs ++ ys) ≡ None → first_reason ys ≡ None
later_passed [] ys e = e
later_passed (x ∷ xs) ys e = by_test x.0 e (later_passed xs ys)
  where
    by_test : (b : Bool) → cond b (Some x.1) (first_reason (xs ++ ys)) ≡ None → (first_reason (xs ++ ys) ≡ None → first_reason ys ≡ None) → first_reason ys ≡ None
    by_test true none rest = absurd (None-Some _ (sym none))
    by_test false none rest = rest none

-- a Response without fault is from none of the router's own addresses in its zone
pub not_own : (config : Config) (x : Received) → fault config x ≡ None → is_response x.bytes ≡ true → is_own_address config x.iface x.source ≡ false
not_own config x none response =
    let late : first_reason (cond (is_response x.bytes) (response_reasons config x) (request_reasons config x)) ≡ None = later_passed (map (λ t. (t.0, Wire t.1)) (wire_reasons x.bytes)) (arrival_reasons config x) none in
    let tests : first_reason (response_reasons config x) ≡ None = sym (ap (λ b. first_reason (cond b (response_reasons config x) (request_reasons config x))) response) ∙ late in
    (passed (response_reasons config x) tests).1.1.0

-- ---- lists and interfaces

pub get_set : {A : Type 0} (xs : List A) (i : ℕ) (x : A) (j : ℕ) (y : A) → slice_get (slice_set xs i x) j ≡ Some y → ((i ≡ j) × (x ≡ y)) ⊎ (slice_get xs j ≡ Some y)
get_set [] i x j y e = inr e
get_set (w ∷ ws) zero x zero y e = inl (refl, Some-same x y e)
get_set (w ∷ ws) zero x (suc j) y e = inr e
get_set (w ∷ ws) (suc i) x zero y e = inr e
get_set (w ∷ ws) (suc i) x (suc j) y e =
    elim (get_set ws i x j y e) [ inl both ↦ inl (ap suc both.0, both.1) | inr there ↦ inr there ]

pub get_map : {A B : Type 0} (f : A → B) (xs : List A) (i : ℕ) → slice_get (map f xs) i ≡ option_map f (slice_get xs i)
get_map f [] i = refl
get_map f (x ∷ xs) zero = refl
get_map f (x ∷ xs) (suc i) = get_map f xs i

pub any_at : {A B : Type 0} (test : B → Bool) (f : A → B) (xs : List A) (i : ℕ) (x : A) → slice_get xs i ≡ Some x → test (f x) ≡ true → list_any test (map f xs) ≡ true
any_at test f [] i x is t = absurd (None-Some _ is)
any_at test f (y ∷ ys) zero x is t = ap (λ b. b || list_any test (map f ys)) (ap (λ z. test (f z)) (Some-same y x is) ∙ t)
any_at test f (y ∷ ys) (suc i) x is t = ap (λ b. test (f y) || b) (any_at test f ys i x is t) ∙ or_true (test (f y))
  where
    or_true : (b : Bool) → (b || true) ≡ true
    or_true true = refl
    or_true false = refl

pub in_node : (net : Network) (router iface : ℕ) (node : Node) → slice_get net router ≡ Some node → interface_at net router iface ≡ slice_get node.interfaces iface
in_node net router iface node is = ap (λ o. option_and_then (λ (n : Node). slice_get n.interfaces iface) o) is

pub cost_is : (net : Network) (router iface : ℕ) (node : Node) → slice_get net router ≡ Some node → cost_at (config_of node) iface ≡ cost_of_interface net router iface
cost_is net router iface node is =
    ap (λ o. unwrap_or (option_map (λ i. i.cost) o) infinity) (get_map (λ (i : NetInterface). i.interface) node.interfaces iface)
    ∙ once (slice_get node.interfaces iface)
    ∙ ap (λ o. unwrap_or (option_map (λ (i : NetInterface). i.interface.cost) o) infinity) (sym (in_node net router iface node is))
  where
    once : (o : Option NetInterface) → unwrap_or (option_map (λ i. i.cost) (option_map (λ (i : NetInterface). i.interface) o)) infinity ≡ unwrap_or (option_map (λ (i : NetInterface). i.interface.cost) o) infinity
    once None = refl
    once (Some i) = refl

pub zone_is : (net : Network) (router iface : ℕ) (node : Node) (i : NetInterface) → slice_get net router ≡ Some node → interface_at net router iface ≡ Some i → zone_at (config_of node) iface ≡ i.interface.zone
zone_is net router iface node i is at =
    ap (λ o. unwrap_or (option_map (λ (x : Interface). x.zone) o) 0)
    (get_map (λ (x : NetInterface). x.interface) node.interfaces iface ∙ ap (option_map (λ (x : NetInterface). x.interface)) (sym (in_node net router iface node is) ∙ at))

pub any_map : {A B : Type 0} (test : B → Bool) (f : A → B) (xs : List A) → list_any test (map f xs) ≡ list_any (λ x. test (f x)) xs
any_map test f [] = refl
any_map test f (x ∷ xs) = ap (λ b. test (f x) || b) (any_map test f xs)

-- ---- configurations

-- the address of an interface, with its zone
abbrev pub zoned_address : Interface → ℕ × ℕ
zoned_address i = (i.zone, i.addr)

-- a configuration of the router: its addresses and zones as at the cold start, its costs and prefixes in force since
pub record IsConfigured (past : Past) (router : ℕ) (config : Config) : Type 0 where
  pub node : Node
  pub node_is : slice_get past.net router ≡ Some node
  pub addresses : map zoned_address config.interfaces ≡ map (λ (i : NetInterface). zoned_address i.interface) node.interfaces
  pub costs : (iface : ℕ) (i : Interface) → slice_get config.interfaces iface ≡ Some i → HasCostSince past router iface i.cost
  pub prefixes : AllByRecursion (λ (t : Prefix6 × ℕ). IsPrefix t.0 × OwnsSince past router t.0 t.1) config.prefixes

first_configured : (past : Past) → OwnsPrefixes past.net → (router : ℕ) (node : Node) → slice_get past.net router ≡ Some node → IsConfigured past router (config_of node)
first_configured past owns router node is =
    record {
      node = node;
      node_is = is;
      addresses = map_twice node.interfaces;
      costs = λ iface i here. inl (same_cost iface i here);
      prefixes = each_from_places (λ (t : Prefix6 × ℕ). IsPrefix t.0 × OwnsSince past router t.0 t.1) node.prefixes (λ place t listed.
          let o : Owns past.net router t.0 t.1 = record { node = node; node_is = is; place = place; listed = listed } in (owns router t.0 t.1 o, inl o));
    }
  where
    map_twice : (xs : List NetInterface) → map zoned_address (map (λ (i : NetInterface). i.interface) xs) ≡ map (λ (i : NetInterface). zoned_address i.interface) xs
    map_twice [] = refl
    map_twice (x ∷ xs) = ap (λ ys. zoned_address x.interface ∷ ys) (map_twice xs)

    same_cost : (iface : ℕ) (i : Interface) → slice_get (map (λ (i : NetInterface). i.interface) node.interfaces) iface ≡ Some i → i.cost ≡ cost_of_interface past.net router iface
    same_cost iface i here = sym (ap (λ o. unwrap_or (option_map (λ (i : Interface). i.cost) o) infinity) here) ∙ cost_is past.net router iface node is

configured_grows : (net : Network) (reconfigurations more : List (ℕ × Change)) (router : ℕ) (config : Config)
    → IsConfigured (record { net = net; reconfigurations = reconfigurations }) router config → IsConfigured (record { net = net; reconfigurations = reconfigurations ++ more }) router config
configured_grows net reconfigurations more router config c =
    record {
      node = c.node;
      node_is = c.node_is;
      addresses = c.addresses;
      costs = λ iface i here. cost_grows net reconfigurations more router iface i.cost (c.costs iface i here);
      prefixes = each_weaker (λ (t : Prefix6 × ℕ). IsPrefix t.0 × OwnsSince (record { net = net; reconfigurations = reconfigurations ++ more }) router t.0 t.1)
          (λ (t : Prefix6 × ℕ). IsPrefix t.0 × OwnsSince (record { net = net; reconfigurations = reconfigurations }) router t.0 t.1)
          (λ t both. (both.0, owner_grows net reconfigurations more router t.0 t.1 both.1)) config.prefixes c.prefixes;
    }

-- another cost of an interface leaves the addresses and zones, and is the only other cost
pub set_addresses : (xs : List Interface) (iface cost : ℕ) → map zoned_address (with_cost xs iface cost) ≡ map zoned_address xs
set_addresses xs iface cost = by_value (slice_get xs iface) refl
  where
    same_at : (ys : List Interface) (j : ℕ) (i : Interface) → slice_get ys j ≡ Some i → map zoned_address (slice_set ys j (record i { cost = cost })) ≡ map zoned_address ys
    same_at [] j i e = refl
    same_at (y ∷ ys) zero i e = ap (λ a. a ∷ map zoned_address ys) (sym (ap zoned_address (Some-same y i e)))
    same_at (y ∷ ys) (suc j) i e = ap (λ rest. zoned_address y ∷ rest) (same_at ys j i e)

    by_value : (o : Option Interface) → slice_get xs iface ≡ o
        → map zoned_address (unwrap_or (option_map (λ i. slice_set xs iface (record i { cost = cost })) o) xs) ≡ map zoned_address xs
    by_value None is = refl
    by_value (Some i) is = same_at xs iface i is

set_costs : (xs : List Interface) (iface cost j : ℕ) (i : Interface) → slice_get (with_cost xs iface cost) j ≡ Some i → ((iface ≡ j) × (cost ≡ i.cost)) ⊎ (slice_get xs j ≡ Some i)
set_costs xs iface cost j i = by_value (slice_get xs iface)
  where
    by_value : (o : Option Interface) → slice_get (unwrap_or (option_map (λ i. slice_set xs iface (record i { cost = cost })) o) xs) j ≡ Some i → ((iface ≡ j) × (cost ≡ i.cost)) ⊎ (slice_get xs j ≡ Some i)
    by_value None is = inr is
    by_value (Some k) is =
        elim (get_set xs iface (record k { cost = cost }) j i is) [
          | inl both ↦ inl (both.0, ap (λ (x : Interface). x.cost) both.1)
          | inr there ↦ inr there
        ]

changed_configured : (net : Network) (reconfigurations : List (ℕ × Change)) (router : ℕ) (config : Config) (c : Change) → IsNamed config c
    → IsConfigured (record { net = net; reconfigurations = reconfigurations }) router config → IsConfigured (record { net = net; reconfigurations = reconfigurations ++ (router, c) ∷ [] }) router (reconfigured_config config c)
changed_configured net reconfigurations router config (Cost iface cost) named good =
    let g = configured_grows net reconfigurations ((router, Cost iface cost) ∷ []) router config good in
    record {
      node = g.node;
      node_is = g.node_is;
      addresses = set_addresses config.interfaces iface cost ∙ g.addresses;
      costs = λ j i here. by_place j i (set_costs config.interfaces iface cost j i here) g.costs;
      prefixes = g.prefixes;
    }
  where
    after : Past
    after = record { net = net; reconfigurations = reconfigurations ++ (router, Cost iface cost) ∷ [] }

    by_place : (j : ℕ) (i : Interface) → ((iface ≡ j) × (cost ≡ i.cost)) ⊎ (slice_get config.interfaces j ≡ Some i)
        → ((k : ℕ) (x : Interface) → slice_get config.interfaces k ≡ Some x → HasCostSince (record { net = net; reconfigurations = reconfigurations ++ (router, Cost iface cost) ∷ [] }) router k x.cost)
        → HasCostSince (record { net = net; reconfigurations = reconfigurations ++ (router, Cost iface cost) ∷ [] }) router j i.cost
    by_place j i (inl both) earlier =
        let d = at_right reconfigurations ((router, Cost iface cost) ∷ []) (router, Cost iface cost) (0, refl) in
        inr (d.0, d.1 ∙ ap₂ (λ a b. Some (router, Cost a b)) both.0 both.1)
    by_place j i (inr there) earlier = earlier j i there
changed_configured net reconfigurations router config (Own p tag) named good =
    let g = configured_grows net reconfigurations ((router, Own p tag) ∷ []) router config good in
    record {
      node = g.node;
      node_is = g.node_is;
      addresses = g.addresses;
      costs = g.costs;
      prefixes = each_append (λ (t : Prefix6 × ℕ). IsPrefix t.0 × OwnsSince (record { net = net; reconfigurations = reconfigurations ++ (router, Own p tag) ∷ [] }) router t.0 t.1) config.prefixes ((p, tag) ∷ []) g.prefixes
          ((named, inr (at_right reconfigurations ((router, Own p tag) ∷ []) (router, Own p tag) (0, refl))), tt);
    }
changed_configured net reconfigurations router config (Disown p) named good =
    let g = configured_grows net reconfigurations ((router, Disown p) ∷ []) router config good in
    record {
      node = g.node;
      node_is = g.node_is;
      addresses = g.addresses;
      costs = g.costs;
      prefixes = each_filter (λ (t : Prefix6 × ℕ). IsPrefix t.0 × OwnsSince (record { net = net; reconfigurations = reconfigurations ++ (router, Disown p) ∷ [] }) router t.0 t.1) (λ t. not (same_prefix t.0 p)) config.prefixes g.prefixes;
    }

-- an interface that is there is in the configuration, with its zone, its address and a cost
module _ (past : Past) (router iface : ℕ) (config : Config) (c : IsConfigured past router config) (there : NetInterface) (is : slice_get c.node.interfaces iface ≡ Some there) where
  configured_place : option_map zoned_address (slice_get config.interfaces iface) ≡ Some (zoned_address there.interface)
  configured_place =
      sym (get_map zoned_address config.interfaces iface) ∙ ap (λ places. slice_get places iface) c.addresses
      ∙ get_map (λ (i : NetInterface). zoned_address i.interface) c.node.interfaces iface ∙ ap (option_map (λ (i : NetInterface). zoned_address i.interface)) is

  configured_zone : zone_at config iface ≡ there.interface.zone
  configured_zone = sym (of_place (slice_get config.interfaces iface)) ∙ ap (λ o. unwrap_or (option_map (λ (t : ℕ × ℕ). t.0) o) 0) configured_place
    where
      of_place : (o : Option Interface) → unwrap_or (option_map (λ (t : ℕ × ℕ). t.0) (option_map zoned_address o)) 0 ≡ unwrap_or (option_map (λ (i : Interface). i.zone) o) 0
      of_place None = refl
      of_place (Some i) = refl

  configured_cost : HasCostSince past router iface (cost_at config iface)
  configured_cost = by_value (slice_get config.interfaces iface) refl
    where
      by_value : (o : Option Interface) → slice_get config.interfaces iface ≡ o → HasCostSince past router iface (unwrap_or (option_map (λ (i : Interface). i.cost) o) infinity)
      by_value None none = absurd (None-Some (zoned_address there.interface) (sym (ap (option_map zoned_address) none) ∙ configured_place))
      by_value (Some i) here = c.costs iface i here

-- ---- states

-- the router has a configuration of its own and a sound table
pub record IsGoodState (past : Past) (router : ℕ) (s : State) : Type 0 where
  pub configured : IsConfigured past router s.config
  pub sound : IsSoundTableSince past router s.table

state_grows : (net : Network) (reconfigurations more : List (ℕ × Change)) (router : ℕ) (s : State)
    → IsGoodState (record { net = net; reconfigurations = reconfigurations }) router s → IsGoodState (record { net = net; reconfigurations = reconfigurations ++ more }) router s
state_grows net reconfigurations more router s good =
    record { configured = configured_grows net reconfigurations more router s.config good.configured; sound = table_grows net reconfigurations more router s.table good.sound }

module _ (past : Past) (router : ℕ) where
  own : (p : Prefix6) (tag : ℕ) (changed : Bool) → IsPrefix p → OwnsSince past router p tag → IsSoundSince past router p (record (owned_route tag) { changed = changed })
  own p tag changed is owner =
      record { is_prefix = is.clear; in_range = omega arith; backed = λ _. ([], record { is_walk = tt; costs = refl; owner = owner }, tt) }

  owned_sound : (config : Config) → IsConfigured past router config → IsSoundTableSince past router (owned_table config)
  owned_sound config c =
      at_from_entries (λ (t : Prefix6 × RouteValue). IsSoundSince past router t.0 t.1) _
      (each_mapped (λ (t : Prefix6 × RouteValue). IsSoundSince past router t.0 t.1) (λ t. (t.0, owned_route t.1)) config.prefixes
      (each_weaker (λ (t : Prefix6 × ℕ). IsSoundSince past router t.0 (owned_route t.1)) (λ (t : Prefix6 × ℕ). IsPrefix t.0 × OwnsSince past router t.0 t.1)
      (λ t both. own t.0 t.1 false both.0 both.1) config.prefixes c.prefixes))

  started_good : (config : Config) → IsConfigured past router config → (now : ℕ) → IsGoodState past router (started config now)
  started_good config c now = record { configured = c; sound = owned_sound config c }

  ticked_good : (old : State) (now word : ℕ) → IsGoodState past router old → IsGoodState past router (ticked old now word)
  ticked_good old now word good =
      let kept = aged_sound past router now old.table good.sound in
      let clean = unmarked_sound past router (aged_table now old.table) kept in
      elim (is_regular_due old now) as (λ b. IsGoodState past router (cond b (record old { table = unmarked (aged_table now old.table); last = now; regular = next_regular now word })
      (cond (is_triggered_due old now) (record old { table = unmarked (aged_table now old.table); last = now; hold = next_hold now word }) (record old { table = aged_table now old.table; last = now })))) [
        | true ↦ record { configured = good.configured; sound = clean }
        | false ↦ elim (is_triggered_due old now) as (λ b. IsGoodState past router (cond b (record old { table = unmarked (aged_table now old.table); last = now; hold = next_hold now word }) (record old { table = aged_table now old.table; last = now }))) [
          | true ↦ record { configured = good.configured; sound = clean }
          | false ↦ record { configured = good.configured; sound = kept }
        ]
      ]

  waited_good : (old new : State) (now : ℕ) → IsGoodState past router old → new ≡ record old { last = now } → IsGoodState past router new
  waited_good old new now good is = subst (IsGoodState past router) (sym is) (record { configured = good.configured; sound = good.sound })

  -- an arrival that is not heard leaves the table
  unheard_good : (old new : State) (now : ℕ) (x : Received) (answer : Answer) → IsGoodState past router old
      → (o : Option Fault) (b : Bool) → (b && is_none o) ≡ false
      → MatchOption o (MatchBool b (Hears old now x answer new) (Replies old now x answer new)) (λ why. Refuses old now why answer new)
      → IsGoodState past router new
  unheard_good old new now x answer good (Some why) b unheard refuses = waited_good old new now good refuses.state
  unheard_good old new now x answer good None false unheard replies = waited_good old new now good replies.state
  unheard_good old new now x answer good None true unheard hears = absurd (cc)

  -- a table with a sound route, or none, at a prefix
  with_sound : (table : Table) (p : Prefix6) (o : Option RouteValue) → IsSoundTableSince past router table
      → ((r : RouteValue) → o ≡ Some r → IsSoundSince past router p r) → IsSoundTableSince past router (with_value table p o)
  with_sound table p o sound here q s at = by_tie (eq_by_cmp prefix_cmp q p) refl (sym (get-with_value table p o q) ∙ at)
    where
      by_tie : (b : Bool) → eq_by_cmp prefix_cmp q p ≡ b → cond b o (map_of.get table q) ≡ Some s → IsSoundSince past router q s
      by_tie true tie is = subst (λ (k : Prefix6). IsSoundSince past router k s) (sym (tells_apart exact_prefixes q p tie)) (here s is)
      by_tie false tie is = sound q s is

-- a change that is done
pub changed_sound : (net : Network) (reconfigurations : List (ℕ × Change)) (router now : ℕ) (config : Config) (table : Table) (c : Change) → IsNamed config c
    → IsSoundTableSince (record { net = net; reconfigurations = reconfigurations }) router table
    → IsSoundTableSince (record { net = net; reconfigurations = reconfigurations ++ (router, c) ∷ [] }) router (reconfigured_table now table c)
changed_sound net reconfigurations router now config table (Cost iface cost) named sound = table_grows net reconfigurations ((router, Cost iface cost) ∷ []) router table sound
changed_sound net reconfigurations router now config table (Own p tag) named sound =
    with_sound (record { net = net; reconfigurations = reconfigurations ++ (router, Own p tag) ∷ [] }) router table p (Some (newly_owned tag))
    (table_grows net reconfigurations ((router, Own p tag) ∷ []) router table sound)
    (λ r is. subst (IsSoundSince (record { net = net; reconfigurations = reconfigurations ++ (router, Own p tag) ∷ [] }) router p) (Some-same (newly_owned tag) r is)
    (own (record { net = net; reconfigurations = reconfigurations ++ (router, Own p tag) ∷ [] }) router p tag true named (inr (at_right reconfigurations ((router, Own p tag) ∷ []) (router, Own p tag) (0, refl)))))
changed_sound net reconfigurations router now config table (Disown p) named sound =
    let all = table_grows net reconfigurations ((router, Disown p) ∷ []) router table sound in
    with_sound (record { net = net; reconfigurations = reconfigurations ++ (router, Disown p) ∷ [] }) router table p (disowned now (map_of.get table p)) all
    (by_route (map_of.get table p) refl)
  where
    by_route : (o : Option RouteValue) → map_of.get table p ≡ o
        → (r : RouteValue) → disowned now o ≡ Some r → IsSoundSince (record { net = net; reconfigurations = reconfigurations ++ (router, Disown p) ∷ [] }) router p r
    by_route None at r is = absurd (None-Some r is)
    by_route (Some old) at r is =
        subst (IsSoundSince (record { net = net; reconfigurations = reconfigurations ++ (router, Disown p) ∷ [] }) router p) (Some-same (lost now old) r is)
        (lost_sound (record { net = net; reconfigurations = reconfigurations ++ (router, Disown p) ∷ [] }) router now p old (table_grows net reconfigurations ((router, Disown p) ∷ []) router table sound p old at))

-- ---- deliveries

-- a link from a router to itself
abbrev pub back_on : (net : Network) (d : Sent) (router iface : ℕ) → router ≡ d.router → (linked : AreLinked net d.router d.iface router iface) → AreLinked net d.router d.iface d.router iface
back_on net d router iface same linked =
    record { here = linked.here; there = linked.there; here_is = linked.here_is; there_is = ap (λ r. interface_at net r iface) (sym same) ∙ linked.there_is; same_link = linked.same_link }

module _ (past : Past) (router iface : ℕ) (d : Sent) (moment : ℕ) (old new : State) (answer : Answer) (good : IsGoodState past router old)
    (zoned : AreZoned past.net) (linked : AreLinked past.net d.router d.iface router iface) (told : IsSoundDatagramSince past d.router d.bytes) where
  abbrev arrival : Received
  arrival = arrival_of past.net d iface moment

  source_is : address_at past.net d.router d.iface ≡ linked.here.interface.addr
  source_is = ap (λ o. unwrap_or (option_map (λ (i : NetInterface). i.interface.addr) o) 0) linked.here_is

  abbrev is_ours : ℕ × ℕ → Bool
  is_ours t = t.0 == zone_at old.config iface && t.1 == arrival.source

  there_in_node : slice_get good.configured.node.interfaces iface ≡ Some linked.there
  there_in_node = sym (in_node past.net router iface good.configured.node good.configured.node_is) ∙ linked.there_is

  apart : is_own_address old.config iface arrival.source ≡ false → router ≢ d.router
  apart not_own same =
      let here : slice_get good.configured.node.interfaces d.iface ≡ Some linked.here =
      sym (in_node past.net router d.iface good.configured.node good.configured.node_is) ∙ ap (λ r. interface_at past.net r d.iface) same ∙ linked.here_is in
      let zone : zone_at old.config iface ≡ linked.here.interface.zone =
      configured_zone past router iface old.config good.configured linked.there there_in_node ∙ sym (zoned d.router d.iface iface (back_on past.net d router iface same linked)) in
      let own : list_any is_ours (map (λ (i : NetInterface). zoned_address i.interface) good.configured.node.interfaces) ≡ true =
      any_at is_ours (λ (i : NetInterface). zoned_address i.interface) good.configured.node.interfaces d.iface linked.here here
      (ap₂ (λ a b. a && b) (eq-eqb _ _ (sym zone)) (eq-eqb _ _ (sym source_is))) in
      let own' : is_own_address old.config iface arrival.source ≡ true =
      sym (any_map is_ours zoned_address old.config.interfaces) ∙ ap (list_any is_ours) good.configured.addresses ∙ own in
      clash (sym own' ∙ not_own)
    where
      clash : true ≡ false → ⊥
      clash e = cc

  near : (now : ℕ) → router ≢ d.router → IsNeighborSince past router (gateway_of old now arrival) d.router d.iface
  near now other =
      record {
        linked = record { here = linked.there; there = linked.here; here_is = linked.there_is; there_is = linked.here_is; same_link = sym linked.same_link };
        apart = other;
        from = ap (option_map (λ (i : NetInterface). i.interface.addr)) linked.here_is ∙ ap Some (sym source_is);
        cost = configured_cost past router iface old.config good.configured linked.there there_in_node;
      }

  delivered_good : (now : ℕ) (o : Option Fault) (b : Bool) → fault old.config arrival ≡ o → is_response d.bytes ≡ b
      → MatchOption o (MatchBool b (Hears old now arrival answer new) (Replies old now arrival answer new)) (λ why. Refuses old now why answer new)
      → IsGoodState past router new
  delivered_good now (Some why) b none response refuses = waited_good past router old new now good refuses.state
  delivered_good now None false none response replies = waited_good past router old new now good replies.state
  delivered_good now None true none response hears =
      subst (IsGoodState past router) (sym hears.state)
      (record {
        configured = good.configured;
        sound = heard_sound past router d.router d.iface _ hears.table
            (near now (apart (not_own old.config arrival none response))) (told hears.entries hears.read) good.sound hears.heard;
      })

-- ---- worlds

pub record AreGood (past : Past) (states : List State) (sent : List Sent) : Type 0 where
  pub zoned : AreZoned past.net
  pub states_good : (router : ℕ) (s : State) → slice_get states router ≡ Some s → IsGoodState past router s
  pub sent_true : AllByRecursion (λ (d : Sent). IsSoundDatagramSince past d.router d.bytes) sent

module _ (net : Network) (owns : OwnsPrefixes net) where
  abbrev pub IsGood : World → Type 0
  IsGood w = AreGood (past_of net w) w.states w.sent

  moved : (w w' : World) (router : ℕ) (happening : Happening) (answer : Answer) (m : RouterMoves w router happening answer w')
      → IsGood w → IsGoodState (record { net = net; reconfigurations = w.reconfigurations ++ reconfigurations_of router happening }) router m.new → IsGood w'
  moved w w' router happening answer m good new_good =
      subst (λ (cs : List (ℕ × Change)). AreGood (record { net = net; reconfigurations = cs }) w'.states w'.sent) (sym m.reconfigurations)
      (record {
        zoned = good.zoned;
        states_good = λ r s is.
            elim (get_set w.states router m.new r s (ap (λ (ss : List State). slice_get ss r) (sym m.states) ∙ is)) [
              | inl both ↦ subst (λ k. IsGoodState after k s) both.0 (subst (IsGoodState after router) both.1 new_good)
              | inr there ↦ state_grows net w.reconfigurations (reconfigurations_of router happening) r s (good.states_good r s there)
            ];
        sent_true = subst IsTrueOf (sym m.sent)
            (each_weaker (λ (d : Sent). IsSoundDatagramSince after d.router d.bytes) (λ (d : Sent). IsSoundDatagramSince (past_of net w) d.router d.bytes)
            (λ d. truth_grows net w.reconfigurations (reconfigurations_of router happening) d.router d.bytes) _
            (each_append (λ (d : Sent). IsSoundDatagramSince (past_of net w) d.router d.bytes) w.sent _ good.sent_true
            (each_mapped (λ (d : Sent). IsSoundDatagramSince (past_of net w) d.router d.bytes) (sent_by router) answer.sends
            (sends_true (past_of net w) router m.old happening answer m.new (good.states_good router m.old m.old_is).sound m.moves))));
      })
    where
      after : Past
      after = record { net = net; reconfigurations = w.reconfigurations ++ reconfigurations_of router happening }

      IsTrueOf : List Sent → Type 0
      IsTrueOf sent = AllByRecursion (λ (d : Sent). IsSoundDatagramSince after d.router d.bytes) sent

  -- a move that is no change
  unchanging : (w w' : World) (router : ℕ) (happening : Happening) (answer : Answer) (m : RouterMoves w router happening answer w')
      → IsGood w → IsGoodState (past_of net w) router m.new → IsGood w'
  unchanging w w' router happening answer m good new_good =
      moved w w' router happening answer m good (state_grows net w.reconfigurations (reconfigurations_of router happening) router m.new new_good)

  happened : (w : World) (e : Event) (answer : Answer) (w' : World) → Happens net w e answer w' → IsGood w → IsGood w'
  happened w (Tick router now word) answer w' m good =
      let old_good = good.states_good router m.old m.old_is in
      unchanging w w' router (Ticks now word) answer m good
      (subst (IsGoodState (past_of net w) router) (sym m.moves.state) (ticked_good (past_of net w) router m.old (max m.old.last now) word old_good))
  happened w (Restart router now) answer w' m good =
      let old_good = good.states_good router m.old m.old_is in
      unchanging w w' router (Restarts now) answer m good
      (subst (IsGoodState (past_of net w) router) (sym m.moves.state) (started_good (past_of net w) router m.old.config old_good.configured now))
  happened w (Shutdown router now) answer w' m good =
      unchanging w w' router (ShutsDown now) answer m good
      (waited_good (past_of net w) router m.old m.new (max m.old.last now) (good.states_good router m.old m.old_is) m.moves.state)
  happened w (LinkUp router now iface) answer w' m good =
      unchanging w w' router (LinkComesUp now iface) answer m good
      (waited_good (past_of net w) router m.old m.new (max m.old.last now) (good.states_good router m.old m.old_is) m.moves.state)
  happened w (LinkDown router now iface) answer w' m good =
      let old_good = good.states_good router m.old m.old_is in
      unchanging w w' router (LinkGoesDown now iface) answer m good
      (subst (IsGoodState (past_of net w) router) (sym m.moves.state)
      (record { configured = old_good.configured; sound = link_down_sound (past_of net w) router iface (max m.old.last now) m.old.table old_good.sound }))
  happened w (Reconfigure router now change) answer w' m good =
      let old_good = good.states_good router m.old m.old_is in
      moved w w' router (Reconfigures now change) answer m good
      (subst (IsGoodState (record { net = net; reconfigurations = w.reconfigurations ++ (router, change) ∷ [] }) router) (sym m.moves.state)
      (record {
        configured = changed_configured net w.reconfigurations router m.old.config change m.moves.named old_good.configured;
        sound = changed_sound net w.reconfigurations router (max m.old.last now) m.old.config m.old.table change m.moves.named old_good.sound;
      }))
  happened w (Stranger router x) answer w' i good =
      let m = i.moves in
      unchanging w w' router (Arrives x) answer m good
      (unheard_good (past_of net w) router m.old m.new (max m.old.last x.now) x answer (good.states_good router m.old m.old_is) (fault m.old.config x) (is_response x.bytes) i.unheard m.moves)
  happened w (Deliver datagram router iface now) answer w' d good =
      let m = d.moves in
      unchanging w w' router (Arrives (arrival_of net d.sent iface now)) answer m good
      (delivered_good (past_of net w) router iface d.sent now m.old m.new answer (good.states_good router m.old m.old_is) good.zoned d.linked
      (each_at_place (λ (s : Sent). IsSoundDatagramSince (past_of net w) s.router s.bytes) w.sent good.sent_true datagram d.sent d.sent_is)
      (max m.old.last now) _ _ refl refl m.moves)

  pub ran : (events : List Event) (w w' : World) → WorldRun net w events w' → IsGood w → IsGood w'
  ran [] w w' is good = subst IsGood (sym is) good
  ran (e ∷ events) w w' run good = ran events run.0 w' run.3 (happened w e run.1 run.0 run.2 good)

  -- ---- the beginning

  module _ (reconfigurations : List (ℕ × Change)) where
    abbrev past : Past
    past = record { net = net; reconfigurations = reconfigurations }

    starts_good : (n : ℕ) (nodes : List Node) (moments : List ℕ) (states : List State) (sent : List Sent)
        → ((k : ℕ) (node : Node) → slice_get nodes k ≡ Some node → slice_get net (n + k) ≡ Some node)
        → StartsFrom n nodes moments states sent
        → ((k : ℕ) (s : State) → slice_get states k ≡ Some s → IsGoodState past (n + k) s) × AllByRecursion (λ (d : Sent). IsSoundDatagramSince past d.router d.bytes) sent
    starts_good n [] [] [] sent at starts = (λ k s is. absurd (None-Some s is), subst (AllByRecursion (λ (d : Sent). IsSoundDatagramSince past d.router d.bytes)) (sym starts) tt)
    starts_good n (node ∷ nodes) (now ∷ moments) (s ∷ states) sent at starts =
        let first : slice_get net n ≡ Some node = ap (slice_get net) (sym (add-zero n)) ∙ at 0 node refl in
        let rest = starts_good (suc n) nodes moments states starts.1 (λ k other is. ap (slice_get net) (shifted k) ∙ at (suc k) other is) starts.3 in (
          λ k t is. by_place k t is first rest.0,
          subst (AllByRecursion (λ (d : Sent). IsSoundDatagramSince past d.router d.bytes)) (sym starts.4)
              (each_append (λ (d : Sent). IsSoundDatagramSince past d.router d.bytes) _ starts.1
              (each_mapped (λ (d : Sent). IsSoundDatagramSince past d.router d.bytes) (sent_by n) starts.0.sends (starting_true past n (config_of node) now starts.0 s starts.2))
              rest.1),
        )
      where
        shifted : (k : ℕ) → suc n + k ≡ n + suc k
        shifted k = omega arith

        by_place : (k : ℕ) (t : State) → slice_get (s ∷ states) k ≡ Some t → slice_get net n ≡ Some node
            → ((j : ℕ) (u : State) → slice_get states j ≡ Some u → IsGoodState past (suc n + j) u) → IsGoodState past (n + k) t
        by_place zero t is first later =
            subst (λ r. IsGoodState past r t) (sym (add-zero n))
            (subst (IsGoodState past n) (sym starts.2.state ∙ Some-same s t is) (started_good past n (config_of node) (first_configured past owns n node first) now))
        by_place (suc k) t is first later = subst (λ r. IsGoodState past r t) (shifted k) (later k t is)
    starts_good n _ _ _ sent at starts = absurd starts

  pub cold_good : (moments : List ℕ) (w : World) → IsCold net moments w → IsGood w
  cold_good moments w cold =
      let both = starts_good w.reconfigurations 0 net moments w.states w.sent (λ k node is. ap (slice_get net) (zero_first k) ∙ is) cold.starts in
      record { zoned = cold.zoned; states_good = λ r s is. subst (λ k. IsGoodState (past_of net w) k s) (zero_first r) (both.0 r s is); sent_true = both.1 }
    where
      zero_first : (k : ℕ) → 0 + k ≡ k
      zero_first k = omega arith

  pub run_from_cold : (moments : List ℕ) (events : List Event) (cold w : World) → IsCold net moments cold → WorldRun net cold events w → IsGood w
  run_from_cold moments events cold w is run = ran events cold w run (cold_good moments cold is)

-- ---- the changes done are those of the events

pub done_by : (net : Network) (w : World) (e : Event) (answer : Answer) (w' : World) → Happens net w e answer w' → w'.reconfigurations ≡ w.reconfigurations ++ cons_option (reconfiguration_in e) []
done_by net w (Tick router now word) answer w' m = m.reconfigurations
done_by net w (Restart router now) answer w' m = m.reconfigurations
done_by net w (Shutdown router now) answer w' m = m.reconfigurations
done_by net w (LinkDown router now on) answer w' m = m.reconfigurations
done_by net w (LinkUp router now on) answer w' m = m.reconfigurations
done_by net w (Reconfigure router now change) answer w' m = m.reconfigurations
done_by net w (Stranger router x) answer w' i = i.moves.reconfigurations
done_by net w (Deliver datagram router iface now) answer w' d = d.moves.reconfigurations

pub done_from : (net : Network) (events : List Event) (w w' : World) → WorldRun net w events w' → w'.reconfigurations ≡ w.reconfigurations ++ reconfigurations_in events
done_from net [] w w' is = ap (λ (v : World). v.reconfigurations) is ∙ sym (append-nil w.reconfigurations)
done_from net (e ∷ events) w w' run =
    done_from net events run.0 w' run.3
    ∙ ap (λ (cs : List (ℕ × Change)). cs ++ reconfigurations_in events) (done_by net w e run.1 run.0 run.2)
    ∙ append_assoc w.reconfigurations (cons_option (reconfiguration_in e) []) (reconfigurations_in events)
    ∙ ap (λ cs. w.reconfigurations ++ cs) (joined (reconfiguration_in e) (reconfigurations_in events))
  where
    joined : (o : Option (ℕ × Change)) (cs : List (ℕ × Change)) → cons_option o [] ++ cs ≡ cons_option o cs
    joined None cs = refl
    joined (Some c) cs = refl

pub done_in_run : (net : Network) (moments : List ℕ) (events : List Event) (cold w : World) → IsCold net moments cold → WorldRun net cold events w → w.reconfigurations ≡ reconfigurations_in events
done_in_run net moments events cold w is run = done_from net events cold w run ∙ ap (λ (cs : List (ℕ × Change)). cs ++ reconfigurations_in events) is.unchanged
