-- Two routers on one link, for worked examples, and their steps. One, fe80::1, owns 2001:db8::/32. The other, fe80::2, learns it.
use Rattle.std.proofs.Common.{◌≡◌, ℕ, zero, suc, ◌+◌, ◌<◌, ◌≤◌, ◌^◌, ◌==◌, nat_le, max, Bool, IsTrue, true, false, cond, ◌&&◌, List, [], ◌∷◌, ◌++◌, filter_map, flat_map, All, Contains, Option, Some, None, MatchOption, slice_get, refl, ap, ap₂, sym, subst, ◌∙◌, arith}
use Rattle.std.specs.FinMap as map_of
use Rattle.std.specs.List.{cons_option}
use Rattle.std.specs.Ordering.{eq_by_cmp}
use Rattle.std.proofs.lemmas.Bool.{ltb-true}
use Rattle.std.proofs.lemmas.List.{nil_from_length}
use Rattle.prefix6.specs.Addr.{is_link_local}
use Rattle.prefix6.specs.Prefix.{Prefix6, IsPrefix, is_routable, prefix_cmp, same_prefix}
use Rattle.prefix6.proofs.PrefixLaws.{prefixes_total, same_prefix-tie}
use Rattle.prefix6.proofs.PrefixSets.{is_prefix_at}
use Rattle.ripng_wire.specs.Layout.{Fits, Spells, entry_bytes, command_byte}
use Rattle.ripng_wire.specs.declared.rte.Command.{Command}
use Rattle.ripng_wire.specs.declared.rte.Command.TheVariants.{Request, Response}
use Rattle.ripng_wire.specs.declared.rte.Rte.{Rte}
use Rattle.route_table.specs.Route.{RouteValue, infinity}
use Rattle.route_table.specs.Table.{Table, map_values, map_entries}
use Rattle.route_table.specs.Due.{without_mark}
use Rattle.route_table.specs.declared.route.Origin.TheVariants.{Learned}
use Rattle.route_table.specs.declared.route.Clock.TheVariants.{Live}
use Rattle.route_table.proofs.TableLaws.{Some-same, None-Some}
use Rattle.fib.specs.declared.change.Hop.TheVariants.{Direct, Via}
use Rattle.fib.specs.declared.change.RouteChange.{RouteChange}
use Rattle.fib.specs.declared.change.RouteChange.TheVariants.{Install}
use Rattle.router_core.specs.Ageing.{aged, aged_table, unmarked}
use Rattle.router_core.specs.Adoption.{adopted}
use Rattle.router_core.specs.Changes.{change, changes_of_ageing, changes_of_hearing, changes_of_start}
use Rattle.router_core.specs.Config.{Config, config}
use Rattle.router_core.specs.Faults.{fault}
use Rattle.router_core.specs.Hearing.{Hearing, Heard, hearing, route_after, would_add, held_after, notes_of_new, allowed_notes, note_at}
use Rattle.router_core.specs.Machine.{State, Arrives, Moves, Starts, Updates, Hears, Replies, Accepts, Refuses, owned_table, tick_messages}
use Rattle.router_core.specs.Offers.{offer_at}
use Rattle.router_core.specs.Output.{AreSpelled, every_route, told, told_entry, told_of, responses, update_messages, reply_messages, whole_table_request}
use Rattle.router_core.specs.Owning.{owned_route}
use Rattle.router_core.specs.Received.{Received}
use Rattle.router_core.specs.Timers.{next_regular}
use Rattle.router_core.specs.declared.answer.Answer.{Answer}
use Rattle.router_core.specs.declared.answer.Destination.{Destination}
use Rattle.router_core.specs.declared.answer.Destination.TheVariants.{Group, Peer}
use Rattle.router_core.specs.declared.answer.NoteKind.TheVariants.{TableFull, NoMemory}
use Rattle.router_core.specs.declared.answer.Outgoing.{Outgoing}
use Rattle.router_core.specs.declared.config.Interface.{Interface}
use Rattle.ripng_world.specs.Network.{Network, Node, AreZoned, IsNetwork, interface_at}
use Rattle.ripng_world.specs.declared.network.NetInterface.{NetInterface}
use Rattle.router_core.proofs.HearingSteps.{after_one, before_all}
use Rattle.router_core.proofs.NoFilters.{notes_without_filters}
use Rattle.ripng_world.proofs.LawfulNetworks.{zones_of_one}
use Rattle.router_core.proofs.Announced.{announced_all}

-- fe80::n
abbrev pub local : ℕ → ℕ
local n = 0xfe80_0000_0000_0000_0000_0000_0000_0000 + n

-- 2001:db8::/32
abbrev pub doc : Prefix6
doc = record { addr = 0x2001_0db8_0000_0000_0000_0000_0000_0000; len = 32 }

-- fe80::n with cost 1
abbrev pub port : ℕ → Interface
port n = record { addr = local n; cost = 1; mtu = 1500; zone = 0 }

-- a router with one interface, fe80::n, that owns these prefixes
abbrev pub router : ℕ → List (Prefix6 × ℕ) → Config
router n owned = config (port n ∷ []) owned false

abbrev pub owned : List (Prefix6 × ℕ)
owned = (doc, 0) ∷ []

abbrev pub owner : Config
owner = router 1 owned

abbrev pub learner : Config
learner = router 2 []

-- both are on one link
abbrev pub facing : ℕ → NetInterface
facing n = record { interface = port n; link = 7 }

-- a router of the network, without filters and limits
abbrev pub node : ℕ → List (Prefix6 × ℕ) → Node
node n owned = record { interfaces = facing n ∷ []; prefixes = owned; quiet = false; filters = []; limits = []; passive = []; announcements = [] }

abbrev pub nodes : Network
nodes = node 1 owned ∷ node 2 [] ∷ []

-- what holds of both interfaces holds of each
each : (P : ℕ → ℕ → NetInterface → Type 0) → P 0 0 (facing 1) → P 1 0 (facing 2) → (r i : ℕ) (a : NetInterface) → interface_at nodes r i ≡ Some a → P r i a
each P x y zero zero a is = subst (P 0 0) (Some-same (facing 1) a is) x
each P x y zero (suc i) a is = absurd (None-Some a is)
each P x y (suc zero) zero a is = subst (P 1 0) (Some-same (facing 2) a is) y
each P x y (suc zero) (suc i) a is = absurd (None-Some a is)
each P x y (suc (suc r)) i a is = absurd (None-Some a is)

-- the link is in one zone
pub zoned : AreZoned nodes
zoned = zones_of_one nodes 0 (each (λ r i a. a.interface.zone ≡ 0) refl refl)

-- whose address it is
abbrev whose : ℕ → ℕ
whose addr = cond (addr == local 1) 0 1

known : (r i : ℕ) (a : NetInterface) → interface_at nodes r i ≡ Some a → (whose a.interface.addr ≡ r) × (i ≡ 0)
known = each (λ r i a. (whose a.interface.addr ≡ r) × (i ≡ 0)) (refl, refl) (refl, refl)

owns_doc : (r place : ℕ) (node : Node) (p : Prefix6) (tag : ℕ) → slice_get nodes r ≡ Some node → slice_get node.prefixes place ≡ Some (p, tag) → doc ≡ p
owns_doc zero place node p tag is listed = listed_there place (ap (λ (n : Node). slice_get n.prefixes place) (Some-same _ node is) ∙ listed)
  where
    listed_there : (place : ℕ) → slice_get owned place ≡ Some (p, tag) → doc ≡ p
    listed_there zero e = ap (λ (t : Prefix6 × ℕ). t.0) (Some-same (doc, 0) (p, tag) e)
    listed_there (suc place) e = absurd (None-Some (p, tag) e)
owns_doc (suc zero) place node p tag is listed = absurd (None-Some (p, tag) (ap (λ (n : Node). slice_get n.prefixes place) (Some-same _ node is) ∙ listed))
owns_doc (suc (suc r)) place node p tag is listed = absurd (None-Some node is)

pub is_network : IsNetwork nodes
is_network =
    record {
      owns_prefixes = λ r p tag owns. subst IsPrefix (owns_doc r owns.place owns.node p tag owns.node_is owns.listed)
          (is_prefix_at doc.addr 32 doc.addr (ltb-true doc.addr (2 ^ 128) refl) (omega arith) refl);
      distinct = record {
        on_links = λ r i s j l same. (
          sym (known r i l.here l.here_is).0 ∙ ap whose same ∙ (known s j l.there l.there_is).0,
          (known r i l.here l.here_is).1 ∙ sym (known s j l.there l.there_is).1,
        );
        of_neighbors = λ r i k s j own is l zone same. sym (known r i own is).0 ∙ ap whose same ∙ (known s j l.there l.there_is).0;
      };
      usable = record {
        costs = each (λ r i a. (1 ≤ a.interface.cost) × (a.interface.cost < infinity)) (omega arith, omega arith) (omega arith, omega arith);
        local = each (λ r i a. IsTrue (is_link_local a.interface.addr)) refl refl;
        mtus = each (λ r i a. (1280 ≤ a.interface.mtu) × (a.interface.mtu ≤ 65535)) (omega arith, omega arith) (omega arith, omega arith);
        routable = λ r p tag owns. subst (λ (p : Prefix6). IsTrue (is_routable p)) (owns_doc r owns.place owns.node p tag owns.node_is owns.listed) refl;
      };
    }

-- ---- tables of no route, and of one route to 2001:db8::/32

abbrev pub no_route : Table
no_route = map_of.empty

abbrev pub one_route : RouteValue → Table
one_route r = map_of.insert map_of.empty doc r

entries_none : {X : Type 0} → map_of.entries (map_of.empty {X = X} {R = prefix_cmp}) ≡ []
entries_none {X = X} = nil_from_length _ (sym (map_of.len-entries map_of.empty) ∙ map_of.len-empty prefix_cmp X)

pub entries_one : (r : RouteValue) → map_of.entries (one_route r) ≡ (doc, r) ∷ []
entries_one r = map_of.entries-insert prefixes_total map_of.empty doc r ∙ ap (map_of.put prefix_cmp doc r) entries_none

pub get_one : (r : RouteValue) (q : Prefix6) → map_of.get (one_route r) q ≡ cond (eq_by_cmp prefix_cmp q doc) (Some r) None
get_one r q = map_of.get-insert prefixes_total map_of.empty doc r q ∙ ap (cond (eq_by_cmp prefix_cmp q doc) (Some r)) (map_of.get-empty prefix_cmp q)

-- a function of routes that keeps the one route, as it makes it
values_one : (f : RouteValue → Option RouteValue) (r s : RouteValue) → f r ≡ Some s → map_values f (one_route r) ≡ one_route s
values_one f r s is =
    ap (λ es. map_of.from_entries (map_entries f es)) (entries_one r)
    ∙ ap (λ (o : Option RouteValue). map_of.from_entries (map_entries (λ _. o) ((doc, r) ∷ []))) is

-- ---- datagrams of one entry

-- the entry that advertises the route, on the one interface
abbrev pub entry_of : RouteValue → Rte
entry_of r = told_entry 0 (doc, r)

-- the datagram of one entry, as bytes
abbrev pub spelling : Command → Rte → List ℕ
spelling command e = command_byte command ∷ 1 ∷ 0 ∷ 0 ∷ flat_map entry_bytes (e ∷ [])

abbrev pub datagram : Destination → Command → Rte → Outgoing
datagram to command e = record { iface = 0; to = to; bytes = spelling command e }

pub spelled : (command : Command) (e : Rte) → Fits e → Spells command (e ∷ []) (spelling command e)
spelled command e fits = record { bytes_are = refl; few = omega arith; fit = each }
  where
    each : All Fits (e ∷ [])
    each zero d lt = fits
    each (suc k) d lt = absurd (omega arith)

all_spelled : (to : Destination) (command : Command) (e : Rte) → Fits e
    → AreSpelled (record { iface = 0; to = to; command = command; entries = e ∷ [] } ∷ []) (datagram to command e ∷ [])
all_spelled to command e fits = (record { iface = refl; to = refl; bytes = spelled command e fits }, tt)

pub fits_doc : (tag metric : ℕ) → tag < 2 ^ 16 → metric < 2 ^ 8 → Fits (record { addr = doc.addr; tag = tag; len = 32; metric = metric })
fits_doc tag metric t m = record { addr = ltb-true doc.addr (2 ^ 128) refl; tag = t; len = ltb-true 32 (2 ^ 8) refl; metric = m }

fits_request : Fits whole_table_request
fits_request = record { addr = ltb-true 0 (2 ^ 128) refl; tag = ltb-true 0 (2 ^ 16) refl; len = ltb-true 0 (2 ^ 8) refl; metric = ltb-true 16 (2 ^ 8) refl }

abbrev pub state : Config → Table → (last regular hold : ℕ) → State
state config table last regular hold = record { config = config; table = table; last = last; regular = regular; hold = hold }

-- each asks as it starts
abbrev pub request : Outgoing
request = datagram Group Request whole_table_request

abbrev pub start_answer : List RouteChange → Answer
start_answer changes = record { fault = None; sends = request ∷ []; changes = changes; notes = [] }

-- the owner installs its own prefix
abbrev pub install_own : List RouteChange
install_own = Install doc Direct 1 ∷ []

pub owner_starts : (now : ℕ) → Starts owner now (start_answer install_own) (state owner (one_route (owned_route 0)) now now now)
owner_starts now =
    record {
      state = refl;
      answer_is = record { fault = refl; sends = all_spelled Group Request whole_table_request fits_request; changes_are = sym installs; notes_are = refl };
    }
  where
    installs : changes_of_start (owned_table owner) ≡ install_own
    installs = ap (λ es. filter_map (λ t. change t.0 None (Some t.1)) es) (entries_one (owned_route 0))

pub learner_starts : (now : ℕ) → Starts learner now (start_answer []) (state learner no_route now now now)
learner_starts now =
    record {
      state = refl;
      answer_is = record { fault = refl; sends = all_spelled Group Request whole_table_request fits_request; changes_are = sym installs; notes_are = refl };
    }
  where
    installs : changes_of_start (owned_table learner) ≡ []
    installs = ap (λ es. filter_map (λ t. change t.0 None (Some t.1)) es) entries_none

chosen : {A : Type 0} (b : Bool) (x y : A) → b ≡ true → cond b x y ≡ x
chosen true x y e = refl
chosen false x y e = absurd cc

-- the route as an update leaves it: with its route change flag cleared
abbrev pub told_once : RouteValue → RouteValue
told_once r = record r { changed = false }

-- a regular update that advertises the one route
abbrev pub update_answer : RouteValue → Answer
update_answer r = record { fault = None; sends = datagram Group Response (entry_of r) ∷ []; changes = []; notes = [] }

-- a tick makes it where it is due, and the timer of the route has not ended
pub updates : (n : ℕ) (owned : List (Prefix6 × ℕ)) (r : RouteValue) (last regular hold now word : ℕ)
    → nat_le regular now ≡ true → aged now r ≡ Some r → change doc (Some r) (Some r) ≡ None → Fits (entry_of r)
    → Updates (state (router n owned) (one_route r) last regular hold) now word (update_answer r)
    (state (router n owned) (one_route (told_once r)) now (next_regular now word) hold)
updates n owned r last regular hold now word due stays same fits =
    record {
      state = ap (λ t. state (router n owned) t now (next_regular now word) hold) (sym (ap unmarked aged_is ∙ values_one without_mark r (told_once r) refl)) ∙ sym (chosen _ _ _ due);
      answer_is = record {
        fault = refl;
        sends = subst (λ ms. AreSpelled ms (datagram Group Response (entry_of r) ∷ [])) (sym messages_are) (all_spelled Group Response (entry_of r) fits);
        changes_are = sym none;
        notes_are = refl;
      };
    }
  where
    aged_is : aged_table now (one_route r) ≡ one_route r
    aged_is = values_one (aged now) r r stays

    messages_are : tick_messages (state (router n owned) (one_route r) last regular hold) now ≡ record { iface = 0; to = Group; command = Response; entries = entry_of r ∷ [] } ∷ []
    messages_are =
        chosen _ _ _ due
        ∙ ap (λ t. update_messages (router n owned) every_route t) aged_is
        ∙ ap (λ t. responses (router n owned) 0 Group (told 0 every_route t) ++ []) (announced_all (router n owned) 0 refl (one_route r))
        ∙ ap (λ es. responses (router n owned) 0 Group (told_of 0 every_route es) ++ []) (entries_one r)

    none : changes_of_ageing now (one_route r) ≡ []
    none =
        ap (λ es. filter_map (λ t. change t.0 (Some t.1) (aged now t.1)) es) (entries_one r)
        ∙ ap (λ o. cons_option (change doc (Some r) o) []) stays
        ∙ ap (λ o. cons_option o []) same

-- ---- what the learner learns

-- a Response of the owner with the one route, as it comes to the learner
abbrev pub from_owner : (now : ℕ) (to_group : Bool) → Received
from_owner now to_group =
    record {
      now = now;
      iface = 0;
      source = local 1;
      source_port = 521;
      hop_limit = 255;
      to_group = to_group;
      bytes = spelling Response (entry_of (owned_route 0));
    }

-- the route that this makes
abbrev pub learned : ℕ → RouteValue
learned now = record { metric = 2; tag = 0; origin = Learned 0 (local 1) (local 1); clock = Live (now + 180_000); changed = true }

abbrev pub learn_answer : Answer
learn_answer = record { fault = None; sends = []; changes = Install doc (Via 0 (local 1)) 2 ∷ []; notes = [] }

abbrev heard_at : ℕ → Hearing
heard_at now = hearing learner (record { iface = 0; cost = 1; from = local 1; moment = now }) (entry_of (owned_route 0) ∷ []) no_route []

not_held : (now : ℕ) (p : Prefix6) → route_after (heard_at now) 0 p ≡ None
not_held now p = before_all (heard_at now) p ∙ map_of.get-empty prefix_cmp p

held : (now : ℕ) (p : Prefix6) → route_after (heard_at now) 1 p ≡ cond (same_prefix doc p) (Some (learned now)) None
held now p =
    after_one (heard_at now) 0 (entry_of (owned_route 0)) p refl
    ∙ ap (λ old. cond (same_prefix doc p && true) (adopted (heard_at now).gateway old (offer_at learner (local 1) (heard_at now).entries 0 (entry_of (owned_route 0)))) old) (not_held now p)
    ∙ both (same_prefix doc p)
  where
    both : (b : Bool) → cond (b && true) (Some (learned now)) None ≡ cond b (Some (learned now)) None
    both true = refl
    both false = refl

first_of_all : {X : Type 0} (x : X) (xs : List X) → Contains (x ∷ xs) x
first_of_all x xs = (0, omega arith, refl)

-- no note is needed
unnoted : (now : ℕ) (place : ℕ) (e : Rte) → slice_get (heard_at now).entries place ≡ Some e → Contains (allowed_notes (heard_at now) place e) (note_at (heard_at now) place)
unnoted now zero e is = subst (λ e. Contains (allowed_notes (heard_at now) 0 e) None) (Some-same (entry_of (owned_route 0)) e is)
    (subst (λ allowed. Contains allowed None) (sym (notes_without_filters (heard_at now) 0 (entry_of (owned_route 0)) refl refl))
    (by_adding (would_add (heard_at now) 0 (entry_of (owned_route 0)))))
  where
    room : held_after (heard_at now) 0 ≡ 0
    room = ap (λ n. n + 0) (map_of.len-empty prefix_cmp RouteValue)

    by_adding : (b : Bool) → Contains (cond b (notes_of_new (heard_at now) 0) (None ∷ [])) None
    by_adding true = subst (λ n. Contains (cond (nat_le 65_536 n) (Some TableFull ∷ []) (None ∷ Some NoMemory ∷ [])) None) (sym room) (first_of_all None (Some NoMemory ∷ []))
    by_adding false = first_of_all None []
unnoted now (suc place) e is = absurd (None-Some e is)

learns : (now : ℕ) → Heard (heard_at now) (one_route (learned now))
learns now =
    record {
      routes = λ p. get_one (learned now) p ∙ sym (held now p ∙ ap (λ b. cond b (Some (learned now)) None) (same_prefix-tie doc p));
      noted = unnoted now;
      in_order = λ k lt. absurd (omega arith);
      placed = λ k d lt. absurd (omega arith);
    }

hears : (last regular hold then now : ℕ) (to_group : Bool)
    → Hears (state learner no_route last regular hold) now (from_owner then to_group) learn_answer (state learner (one_route (learned now)) now regular hold)
hears last regular hold then now to_group =
    record {
      entries = entry_of (owned_route 0) ∷ [];
      read = spelled Response (entry_of (owned_route 0)) (fits_doc 0 1 (omega arith) (omega arith));
      table = one_route (learned now);
      heard = learns now;
      state = refl;
      answer_is = record { fault = refl; sends = tt; changes_are = sym installs; notes_are = refl };
    }
  where
    installs : changes_of_hearing (heard_at now) ≡ Install doc (Via 0 (local 1)) 2 ∷ []
    installs = ap₂ (λ a b. cons_option (change doc a b) []) (not_held now doc) (held now doc)

-- the learner accepts it
accepted : (now : ℕ) (to_group : Bool) → fault learner (from_owner now to_group) ≡ None
unfolding entry_bytes
accepted now true = refl
accepted now false = refl

pub learns_route : (last regular hold now : ℕ) (to_group : Bool)
    → Moves (state learner no_route last regular hold) (Arrives (from_owner now to_group)) learn_answer
    (state learner (one_route (learned (max last now))) (max last now) regular hold)
learns_route last regular hold now to_group =
    subst (λ o. MatchOption o (Accepts old (max last now) (from_owner now to_group) learn_answer new) (λ why. Refuses old (max last now) why learn_answer new))
    (sym (accepted now to_group)) (hears last regular hold now (max last now) to_group)
  where
    old : State
    old = state learner no_route last regular hold

    new : State
    new = state learner (one_route (learned (max last now))) (max last now) regular hold

-- ---- what the owner answers

-- the Request of the learner, as it comes to the owner
abbrev pub from_learner : ℕ → Received
from_learner now =
    record {
      now = now;
      iface = 0;
      source = local 2;
      source_port = 521;
      hop_limit = 255;
      to_group = true;
      bytes = spelling Request whole_table_request;
    }

asked : (now : ℕ) → fault owner (from_learner now) ≡ None
unfolding entry_bytes
asked now = refl

-- it answers with its whole table
abbrev pub reply_answer : Answer
reply_answer = record { fault = None; sends = datagram (Peer (local 2) 521) Response (entry_of (owned_route 0)) ∷ []; changes = []; notes = [] }

replies : (last regular hold then now : ℕ)
    → Replies (state owner (one_route (owned_route 0)) last regular hold) now (from_learner then) reply_answer (state owner (one_route (owned_route 0)) now regular hold)
replies last regular hold then now =
    record {
      entries = whole_table_request ∷ [];
      read = spelled Request whole_table_request fits_request;
      state = refl;
      answer_is = record {
        fault = refl;
        sends = subst (λ ms. AreSpelled ms reply_answer.sends) (sym answered) (all_spelled (Peer (local 2) 521) Response (entry_of (owned_route 0)) (fits_doc 0 1 (omega arith) (omega arith)));
        changes_are = refl;
        notes_are = refl;
      };
    }
  where
    answered : reply_messages owner (one_route (owned_route 0)) (from_learner then) (whole_table_request ∷ [])
        ≡ record { iface = 0; to = Peer (local 2) 521; command = Response; entries = entry_of (owned_route 0) ∷ [] } ∷ []
    answered =
        ap (λ t. responses owner 0 (Peer (local 2) 521) (told 0 every_route t)) (announced_all owner 0 refl (one_route (owned_route 0)))
        ∙ ap (λ es. responses owner 0 (Peer (local 2) 521) (told_of 0 every_route es)) (entries_one (owned_route 0))

pub answers_request : (last regular hold now : ℕ)
    → Moves (state owner (one_route (owned_route 0)) last regular hold) (Arrives (from_learner now)) reply_answer
    (state owner (one_route (owned_route 0)) (max last now) regular hold)
answers_request last regular hold now =
    subst (λ o. MatchOption o (Accepts old (max last now) (from_learner now) reply_answer new) (λ why. Refuses old (max last now) why reply_answer new))
    (sym (asked now)) (replies last regular hold now (max last now))
  where
    old : State
    old = state owner (one_route (owned_route 0)) last regular hold

    new : State
    new = state owner (one_route (owned_route 0)) (max last now) regular hold
