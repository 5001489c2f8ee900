-- What goes out keeps to the lists, and without lists and passive interfaces it is what RFC 2080 has.
use Rattle.std.proofs.Common.{◌≡◌, ℕ, Bool, true, false, ◌||◌, ◌&&◌, ◌==◌, cond, nat_lt, List, [], ◌∷◌, ◌++◌, map, length, Some, None, refl, ap, ap₂, sym, subst, ◌∙◌}
use Rattle.std.specs.List.{All, enumerate_from, flat_map, list_any}
use Rattle.std.specs.FinMap.{get, entries}
use Rattle.std.proofs.lemmas.List.Elements.{All-append, All-drop, All-filter, All-from_recursion, All-map, All-nil, All-cons, All-take}
use Rattle.ripng_wire.specs.Layout.{entries_for_mtu}
use Rattle.ripng_wire.specs.declared.rte.Command.TheVariants.{Response}
use Rattle.ripng_wire.specs.declared.rte.Rte.{Rte}
use Rattle.prefix6.specs.Prefix.{Prefix6}
use Rattle.route_table.specs.Route.{RouteValue, infinity}
use Rattle.route_table.specs.Table.{Table}
use Rattle.route_table.proofs.TableLaws.{all_entries}
use Rattle.router_core.specs.Announcing.{is_announced, is_passive, announced}
use Rattle.router_core.specs.Config.{Config, mtu_at}
use Rattle.router_core.specs.Faults.{ripng_port}
use Rattle.router_core.specs.Offers.{prefix_named}
use Rattle.router_core.specs.Output.{Advertises, KeepsToLists, Message, asked_on, asks_for_all, every_route, filled, link_up_messages, pieces, reply, reply_entry, reply_messages, reply_on, request_on, responses, start_messages, told, told_entry, update_messages, update_on}
use Rattle.router_core.specs.Received.{Received}
use Rattle.router_core.specs.declared.answer.Destination.TheVariants.{Group, Peer}
use Rattle.router_core.specs.declared.config.Interface.{Interface}
use Rattle.router_core.proofs.Announced.{announced_all, announced_has, announces_every}

-- ---- lists

each_flat : {X Y : Type 0} (P : Y → Type 0) (f : X → List Y) → ((x : X) → All P (f x)) → (xs : List X) → All P (flat_map f xs)
each_flat P f each [] = All-nil P
each_flat P f each (x ∷ xs) = All-append P (f x) (flat_map f xs) (each x) (each_flat P f each xs)

each_piece : {X : Type 0} (P : X → Type 0) (n : ℕ) (xs : List X) → All P xs → All (All P) (pieces n xs)
each_piece P n xs all = All-map (All P) _ _ (λ k d lt. All-take P _ _ (All-drop P _ xs all))

flat_unless : {X Y : Type 0} (f g : X → List Y) (b : Bool) → ((x : X) → f x ≡ cond b [] (g x)) → (xs : List X) → flat_map f xs ≡ cond b [] (flat_map g xs)
flat_unless f g true same [] = refl
flat_unless f g false same [] = refl
flat_unless f g true same (x ∷ xs) = ap₂ (λ ys zs. ys ++ zs) (same x) (flat_unless f g true same xs)
flat_unless f g false same (x ∷ xs) = ap₂ (λ ys zs. ys ++ zs) (same x) (flat_unless f g false same xs)

flat_one : {X Y : Type 0} (f : X → Y) (xs : List X) → flat_map (λ x. f x ∷ []) xs ≡ map f xs
flat_one f [] = refl
flat_one f (x ∷ xs) = ap (λ ys. f x ∷ ys) (flat_one f xs)

map_same : {X Y : Type 0} (f g : X → Y) → ((x : X) → f x ≡ g x) → (xs : List X) → map f xs ≡ map g xs
map_same f g same [] = refl
map_same f g same (x ∷ xs) = ap₂ (λ y ys. y ∷ ys) (same x) (map_same f g same xs)

or_false : (b : Bool) → (b || false) ≡ b
or_false true = refl
or_false false = refl

-- ---- what goes out keeps to the lists

module _ (config : Config) (table : Table) where
  -- each entry of what is announced is of a route that is
  pub each_advertised : (iface : ℕ) (which : RouteValue → Bool) → All (Advertises config iface table) (told iface which (announced config iface table))
  each_advertised iface which =
      All-map (Advertises config iface table) (told_entry iface) _
      (All-filter (λ t. which t.1) (λ t. Advertises config iface table (told_entry iface t)) (entries (announced config iface table))
      (All-from_recursion (λ t. Advertises config iface table (told_entry iface t)) (entries (announced config iface table))
      (all_entries (λ t. Advertises config iface table (told_entry iface t)) (announced config iface table)
      (λ p r here. by p r (is_announced config iface p) refl (sym (announced_has config iface table p) ∙ here)))))
    where
      by : (p : Prefix6) (r : RouteValue) (b : Bool) → is_announced config iface p ≡ b → cond b (get table p) None ≡ Some r → Advertises config iface table (told_entry iface (p, r))
      by p r true let_out held = record { prefix = p; route = r; is_held = held; is_let_out = let_out; is_of_it = refl }
      by p r false kept held = absurd (cc)

  each_response : (iface : ℕ) → is_passive config iface ≡ false → (es : List Rte) → All (Advertises config iface table) es → All (KeepsToLists config table) (responses config iface Group es)
  each_response iface active es all =
      All-map (KeepsToLists config table) (λ piece. record { iface = iface; to = Group; command = Response; entries = piece }) (pieces (entries_for_mtu (mtu_at config iface)) es)
      (λ k d lt. record { is_active = active; each = each_piece (Advertises config iface table) (entries_for_mtu (mtu_at config iface)) es all k d lt })

  each_on : (which : RouteValue → Bool) (iface : ℕ) → All (KeepsToLists config table) (update_on config which table iface)
  each_on which iface = by (is_passive config iface) refl
    where
      by : (b : Bool) → is_passive config iface ≡ b → All (KeepsToLists config table) (cond b [] (responses config iface Group (told iface which (announced config iface table))))
      by true passive = All-nil (KeepsToLists config table)
      by false active = each_response iface active (told iface which (announced config iface table)) (each_advertised iface which)

  -- an update goes out on no passive interface, and has only what is announced
  pub each_update : (which : RouteValue → Bool) → All (KeepsToLists config table) (update_messages config which table)
  each_update which = each_flat (KeepsToLists config table) (λ t. update_on config which table t.0) (λ t. each_on which t.0) (enumerate_from 0 config.interfaces)

  -- so has the reply to a Request for the whole table
  pub each_replied : (iface : ℕ) (asked : List Rte) → asks_for_all asked ≡ true → All (Advertises config iface table) (reply config iface table asked)
  each_replied iface asked all =
      subst (λ b. All (Advertises config iface table) (cond b (told iface every_route (announced config iface table)) (map (reply_on config iface table) asked))) (sym all)
      (each_advertised iface every_route)

  -- what is not announced is unreachable to whom asks for it
  pub kept_back : (iface : ℕ) (e : Rte) → is_announced config iface (prefix_named e) ≡ false → reply_on config iface table e ≡ record e { metric = infinity }
  kept_back iface e kept = ap (λ b. cond b (reply_entry table e) (filled e None)) kept

-- a message goes out on an interface that is not passive
abbrev IsActive : Config → Message → Type 0
IsActive config m = is_passive config m.iface ≡ false

-- a start asks on no passive interface
pub each_asked : (config : Config) → All (λ m. is_passive config m.iface ≡ false) (start_messages config)
each_asked config = each_flat (IsActive config) (λ t. asked_on config t.0) (λ t. by t.0 (is_passive config t.0) refl) (enumerate_from 0 config.interfaces)
  where
    by : (iface : ℕ) (b : Bool) → is_passive config iface ≡ b → All (IsActive config) (cond b [] (request_on iface ∷ []))
    by iface true passive = All-nil (IsActive config)
    by iface false active = All-cons (IsActive config) (request_on iface) [] active (All-nil (IsActive config))

-- nor does a link that comes up
pub none_asked : (config : Config) (iface : ℕ) → is_passive config iface ≡ true → link_up_messages config iface ≡ []
none_asked config iface passive =
    ap (λ b. cond (nat_lt iface (length config.interfaces)) (cond b [] (request_on iface ∷ [])) []) passive ∙ either (nat_lt iface (length config.interfaces)) []
  where
    either : (b : Bool) (ms : List Message) → cond b ms ms ≡ ms
    either true ms = refl
    either false ms = refl

-- and a router's Request gets no reply there
pub none_replied : (config : Config) (table : Table) (x : Received) (asked : List Rte) → is_passive config x.iface ≡ true → x.source_port ≡ ripng_port
    → reply_messages config table x asked ≡ []
none_replied config table x asked passive port =
    ap₂ (λ b (p : ℕ). cond (b && p == ripng_port) [] (responses config x.iface (Peer x.source x.source_port) (reply config x.iface table asked))) passive port

-- ---- without lists and passive interfaces

module _ (config : Config) (no_passive : config.passive ≡ []) where
  passive_is : (iface : ℕ) → is_passive config iface ≡ config.quiet
  passive_is iface = ap (λ (ns : List ℕ). config.quiet || list_any (λ n. n == iface) ns) no_passive ∙ or_false config.quiet

  pub asked_as_ever : (iface : ℕ) → asked_on config iface ≡ cond config.quiet [] (request_on iface ∷ [])
  asked_as_ever iface = ap (λ b. cond b [] (request_on iface ∷ [])) (passive_is iface)

  pub starts_as_ever : start_messages config ≡ cond config.quiet [] (map (λ t. request_on t.0) (enumerate_from 0 config.interfaces))
  starts_as_ever =
      flat_unless (λ (t : ℕ × Interface). asked_on config t.0) (λ (t : ℕ × Interface). request_on t.0 ∷ []) config.quiet (λ t. asked_as_ever t.0) (enumerate_from 0 config.interfaces)
      ∙ ap (cond config.quiet []) (flat_one (λ (t : ℕ × Interface). request_on t.0) (enumerate_from 0 config.interfaces))

  module _ (no_lists : config.announcements ≡ []) (table : Table) where
    pub told_as_ever : (which : RouteValue → Bool) (iface : ℕ) → update_on config which table iface ≡ cond config.quiet [] (responses config iface Group (told iface which table))
    told_as_ever which iface =
        ap₂ (λ b (u : Table). cond b [] (responses config iface Group (told iface which u))) (passive_is iface) (announced_all config iface no_lists table)

    pub updates_as_ever : (which : RouteValue → Bool)
        → update_messages config which table ≡ cond config.quiet [] (flat_map (λ t. responses config t.0 Group (told t.0 which table)) (enumerate_from 0 config.interfaces))
    updates_as_ever which =
        flat_unless (λ (t : ℕ × Interface). update_on config which table t.0) (λ (t : ℕ × Interface). responses config t.0 Group (told t.0 which table)) config.quiet
        (λ t. told_as_ever which t.0) (enumerate_from 0 config.interfaces)

    pub updates_as_told : config.quiet ≡ false → (which : RouteValue → Bool)
        → update_messages config which table ≡ flat_map (λ t. responses config t.0 Group (told t.0 which table)) (enumerate_from 0 config.interfaces)
    updates_as_told active which =
        updates_as_ever which ∙ ap (λ b. cond b [] (flat_map (λ t. responses config t.0 Group (told t.0 which table)) (enumerate_from 0 config.interfaces))) active

    pub reply_as_ever : (iface : ℕ) (asked : List Rte)
        → reply config iface table asked ≡ cond (asks_for_all asked) (told iface every_route table) (map (reply_entry table) asked)
    reply_as_ever iface asked =
        ap₂ (cond (asks_for_all asked)) (ap (told iface every_route) (announced_all config iface no_lists table))
        (map_same (reply_on config iface table) (reply_entry table)
        (λ e. ap (λ b. cond b (reply_entry table e) (filled e None)) (announces_every config iface no_lists (prefix_named e))) asked)

    pub replies_as_ever : (x : Received) (asked : List Rte)
        → reply_messages config table x asked ≡ cond (config.quiet && x.source_port == ripng_port) []
        (responses config x.iface (Peer x.source x.source_port) (cond (asks_for_all asked) (told x.iface every_route table) (map (reply_entry table) asked)))
    replies_as_ever x asked =
        ap₂ (λ b (es : List Rte). cond (b && x.source_port == ripng_port) [] (responses config x.iface (Peer x.source x.source_port) es))
        (passive_is x.iface) (reply_as_ever x.iface asked)
