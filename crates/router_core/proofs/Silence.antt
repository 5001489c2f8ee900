-- Where an update has no datagram: on a passive interface, and on one that has no route to tell.
use Rattle.std.proofs.Common.{◌≡◌, ◌↔◌, ℕ, zero, suc, ◌-◌, ◌/◌, ◌<◌, ◌≤◌, Bool, true, false, ◌||◌, not, cond, IsTrue, List, [], ◌∷◌, map, filter, length, slice_get, Option, Some, None, unwrap_or, option_map, length-append, refl, ap, sym, subst, ◌∙◌, arith}
use Rattle.std.specs.List.{flat_map, list_any}
use Rattle.std.specs.FinMap as map_of
use Rattle.std.proofs.lemmas.List.{length-map, nil_from_length}
use Rattle.std.proofs.lemmas.Nat.{le-div}
use Rattle.ripng_wire.specs.declared.rte.Rte.{Rte}
use Rattle.ripng_wire.specs.declared.rte.Command.TheVariants.{Response}
use Rattle.ripng_wire.specs.Layout.{entries_for_mtu}
use Rattle.route_table.specs.Route.{RouteValue}
use Rattle.route_table.specs.Table.{Table}
use Rattle.router_core.specs.Announcing.{is_passive, announced}
use Rattle.router_core.specs.Config.{Config, IsConfig, mtu_at}
use Rattle.router_core.specs.Output.{Message, responses, told, told_entry, update_on}
use Rattle.router_core.specs.declared.answer.Destination.{Destination}
use Rattle.router_core.specs.declared.answer.Destination.TheVariants.{Group}
use Rattle.router_core.specs.declared.config.Interface.{Interface}
use Rattle.router_core.proofs.ConfigLaws.{mtu_low, mtu_at-interface}
use Rattle.router_core.proofs.Sending.{pieces-nil, pieces-cons}

-- a list of which no element passes has nothing behind the filter
filter-none : {X : Type 0} (p : X → Bool) (xs : List X) → list_any p xs ≡ false → filter p xs ≡ []
filter-none p [] none = refl
filter-none {X = X} p (x ∷ xs) none = by_test (p x) none (filter-none p xs)
  where
    by_test : (b : Bool) → (b || list_any p xs) ≡ false → (list_any p xs ≡ false → filter p xs ≡ []) → cond b (x ∷ filter p xs) (filter p xs) ≡ []
    by_test true is rest = absurd cc
    by_test false is rest = rest is

-- one of which an element passes has something
filter-some : {X : Type 0} (p : X → Bool) (xs : List X) → list_any p xs ≡ true → 0 < length (filter p xs)
filter-some p [] some = absurd cc
filter-some {X = X} p (x ∷ xs) some = by_test (p x) some (filter-some p xs)
  where
    by_test : (b : Bool) → (b || list_any p xs) ≡ true → (list_any p xs ≡ true → 0 < length (filter p xs)) → 0 < length (cond b (x ∷ filter p xs) (filter p xs))
    by_test true is rest = omega arith
    by_test false is rest = rest is

-- the MTU of IPv6 leaves room for an entry
room : (mtu : ℕ) → 1280 ≤ mtu → 0 < entries_for_mtu mtu
room mtu low = let h : 61 ≤ (mtu - 52) / 20 = le-div 61 (mtu - 52) 20 (omega arith) (omega arith) in omega arith

abbrev response : ℕ → Destination → List Rte → Message
response iface to entries = record { iface = iface; to = to; command = Response; entries = entries }

module _ (c : Config) (lawful : IsConfig c) where
  -- an MTU leaves room for an entry
  some_room : (i : ℕ) → 0 < entries_for_mtu (mtu_at c i)
  some_room i = by_interface (slice_get c.interfaces i) refl
    where
      by_interface : (o : Option Interface) → slice_get c.interfaces i ≡ o → 0 < entries_for_mtu (mtu_at c i)
      by_interface None is = subst (λ (m : ℕ). 0 < entries_for_mtu m) (sym (ap (λ o. unwrap_or (option_map (λ (j : Interface). j.mtu) o) 1280) is)) (room 1280 (omega arith))
      by_interface (Some x) is =
          let low = mtu_low c lawful i x is in
          subst (λ (m : ℕ). 0 < entries_for_mtu m) (sym (mtu_at-interface c lawful i x is)) (room x.mtu low)

  -- nothing is said on an interface of no entries
  no_responses : (i : ℕ) (to : Destination) → responses c i to [] ≡ []
  no_responses i to = ap (map (response i to)) (pieces-nil (entries_for_mtu (mtu_at c i)) (some_room i))

  -- and something of some
  some_responses : (i : ℕ) (to : Destination) (es : List Rte) → 0 < length es → 0 < length (responses c i to es)
  some_responses i to es some =
      subst (λ (l : List (List Rte)). 0 < length (map (response i to) l))
      (sym (pieces-cons (entries_for_mtu (mtu_at c i)) (some_room i) es some))
      (omega arith)

  module _ (which : RouteValue → Bool) (t : Table) (i : ℕ) where
    abbrev is_there : Bool
    is_there = list_any (λ e. which e.1) (map_of.entries (announced c i t))

    nothing_told : is_there ≡ false → told i which (announced c i t) ≡ []
    nothing_told none = ap (map (told_entry i)) (filter-none (λ e. which e.1) (map_of.entries (announced c i t)) none)

    something_told : is_there ≡ true → 0 < length (told i which (announced c i t))
    something_told some =
        let h = filter-some (λ e. which e.1) (map_of.entries (announced c i t)) some in
        omega (arith, length-map (filter (λ e. which e.1) (map_of.entries (announced c i t))) (told_entry i))

    -- an interface that is not passive tells its update
    pub says : is_passive c i ≡ false → update_on c which t i ≡ responses c i Group (told i which (announced c i t))
    says active = ap (λ b. cond b [] (responses c i Group (told i which (announced c i t)))) active

    -- an update has no datagram on a passive interface
    pub passive_is_silent : is_passive c i ≡ true → update_on c which t i ≡ []
    passive_is_silent passive = ap (λ b. cond b [] (responses c i Group (told i which (announced c i t)))) passive

    -- nor where there is no route to tell
    pub untold_is_silent : is_there ≡ false → update_on c which t i ≡ []
    untold_is_silent none = by_passive (is_passive c i) (ap (responses c i Group) (nothing_told none) ∙ no_responses i Group)
      where
        by_passive : (b : Bool) → responses c i Group (told i which (announced c i t)) ≡ [] → cond b [] (responses c i Group (told i which (announced c i t))) ≡ []
        by_passive true h = refl
        by_passive false h = h

    -- and elsewhere it has one
    pub told_is_said : is_passive c i ≡ false → is_there ≡ true → update_on c which t i ≡ [] → ⊥
    told_is_said active some none =
        let positive = some_responses i Group (told i which (announced c i t)) (something_told some) in
        omega (arith, positive, ap length (sym (says active) ∙ none))

    -- so it has none on an interface that is not passive exactly where there is no route to tell
    pub is_silent : is_passive c i ≡ false → (some : Bool) → some ≡ is_there → IsTrue (not some) ↔ (update_on c which t i ≡ [])
    is_silent active true is = (λ h. absurd (cc), λ none. absurd (told_is_said active (sym is) none))
    is_silent active false is = (λ h. untold_is_silent (sym is), λ none. refl)

-- where an update has no datagram, it has none on any interface
pub none_on : {X : Type 0} (f : X → List Message) (xs : List X) (i : ℕ) (x : X) → flat_map f xs ≡ [] → slice_get xs i ≡ Some x → f x ≡ []
none_on f [] i x none is = absurd (cc)
none_on f (y ∷ xs) zero x none is =
    let same : y ≡ x = cc in
    nil_from_length (f x) (omega (arith, ap (λ z. length (f z)) same, ap length none, length-append (f y) (flat_map f xs)))
none_on f (y ∷ xs) (suc i) x none is =
    none_on f xs i x (nil_from_length (flat_map f xs) (omega (arith, ap length none, length-append (f y) (flat_map f xs)))) is
