-- The costs and owners of now, after changes, were in force when these began or were set by one of them.
use Rattle.std.proofs.Common.{◌≡◌, ◌⊎◌, inl, inr, ℕ, suc, Bool, true, false, cond, ◌==◌, List, [], ◌∷◌, fold, Option, Some, None, option_map, option_and_then, unwrap_or, slice_get, slice_set, refl, ap, ap₂, sym, subst, ◌∙◌}
use Rattle.std.proofs.lemmas.Bool.{eqb-true}
use Rattle.prefix6.specs.Prefix.{Prefix6}
use Rattle.route_table.specs.Route.{infinity}
use Rattle.route_table.proofs.TableLaws.{Some-same, None-Some}
use Rattle.router_core.specs.declared.reconfiguring.Change.{Change}
use Rattle.router_core.specs.declared.reconfiguring.Change.TheVariants.{Cost, Own, Disown}
use Rattle.ripng_world.specs.Healing.{reconfigured_node, reconfigured_network}
use Rattle.ripng_world.specs.Network.{Network, Node, Owns}
use Rattle.ripng_world.specs.Past.{HasCostSince, OwnsSince}
use Rattle.ripng_world.specs.Walks.{cost_of_interface}
use Rattle.ripng_world.specs.declared.network.NetInterface.{NetInterface}
use Rattle.ripng_world.proofs.NetworkNow.{changed_at, node_prefixes, set_get}

-- the change of one router is that of another
abbrev pub IsChange : ℕ × Change → ℕ × Change → Type 0
IsChange a b = a ≡ b

-- the cost of an interface of a node, if both are there
abbrev cost_in : Option Node → ℕ → ℕ
cost_in o iface = unwrap_or (option_map (λ (i : NetInterface). i.interface.cost) (option_and_then (λ (node : Node). slice_get node.interfaces iface) o)) infinity

module _ (net : Network) (router : ℕ) (c : Change) where
  -- who owns after a change owned before it, or this was the change
  owner_before : (r : ℕ) (p : Prefix6) (tag : ℕ) → Owns (reconfigured_network net (router, c)) r p tag → Owns net r p tag ⊎ IsChange (router, c) (r, Own p tag)
  owner_before r p tag owns = by (slice_get net r) refl (router == r) refl (sym (changed_at net router c r) ∙ owns.node_is)
    where
      by : (o : Option Node) → slice_get net r ≡ o → (b : Bool) → (router == r) ≡ b → option_map (λ node. cond b (reconfigured_node node c) node) o ≡ Some owns.node → Owns net r p tag ⊎ IsChange (router, c) (r, Own p tag)
      by None is b e f = absurd (None-Some owns.node f)
      by (Some old) is false e f =
          inl (record { node = old; node_is = is; place = owns.place; listed = ap (λ (n : Node). slice_get n.prefixes owns.place) (Some-same old owns.node f) ∙ owns.listed })
      by (Some old) is true e f =
          elim (node_prefixes old c (p, tag) (owns.place, ap (λ (n : Node). slice_get n.prefixes owns.place) (Some-same (reconfigured_node old c) owns.node f) ∙ owns.listed)) [
            | inl a ↦ inl (record { node = old; node_is = is; place = a.0; listed = a.1 })
            | inr own ↦ inr (ap₂ (λ (x : ℕ) (y : Change). (x, y)) (eqb-true router r e) own)
          ]

  -- an interface costs what it cost before, or this was the change
  cost_before : (r iface : ℕ) → (cost_of_interface (reconfigured_network net (router, c)) r iface ≡ cost_of_interface net r iface)
      ⊎ IsChange (router, c) (r, Cost iface (cost_of_interface (reconfigured_network net (router, c)) r iface))
  cost_before r iface =
      subst (λ o. (cost_in o iface ≡ cost_of_interface net r iface) ⊎ IsChange (router, c) (r, Cost iface (cost_in o iface))) (sym (changed_at net router c r)) (by (slice_get net r) (router == r) refl)
    where
      by : (o : Option Node) (b : Bool) → (router == r) ≡ b
          → (cost_in (option_map (λ node. cond b (reconfigured_node node c) node) o) iface ≡ cost_in o iface) ⊎ IsChange (router, c) (r, Cost iface (cost_in (option_map (λ node. cond b (reconfigured_node node c) node) o) iface))
      by None b e = inl refl
      by (Some node) false e = inl refl
      by (Some node) true e = of_change c
        where
          of_change : (d : Change) → (cost_in (Some (reconfigured_node node d)) iface ≡ cost_in (Some node) iface) ⊎ IsChange (router, d) (r, Cost iface (cost_in (Some (reconfigured_node node d)) iface))
          of_change (Own q t) = inl refl
          of_change (Disown q) = inl refl
          of_change (Cost j x) = by_value (slice_get node.interfaces j) refl
            where
              by_value : (o : Option NetInterface) → slice_get node.interfaces j ≡ o
                  → let v : ℕ = unwrap_or (option_map (λ (i : NetInterface). i.interface.cost)
                  (slice_get (unwrap_or (option_map (λ i. slice_set node.interfaces j (record i { interface = record i.interface { cost = x } })) o) node.interfaces) iface)) infinity in
                  (v ≡ cost_in (Some node) iface) ⊎ IsChange (router, Cost j x) (r, Cost iface v)
              by_value None at = inl refl
              by_value (Some k) at =
                  subst (λ (i : Option NetInterface). let v : ℕ = unwrap_or (option_map (λ (i : NetInterface). i.interface.cost) i) infinity in (v ≡ cost_in (Some node) iface) ⊎ IsChange (router, Cost j x) (r, Cost iface v))
                  (sym (set_get node.interfaces j (record k { interface = record k.interface { cost = x } }) k at iface)) (by_place (j == iface) refl)
                where
                  by_place : (b : Bool) → (j == iface) ≡ b
                      → let v : ℕ = unwrap_or (option_map (λ (i : NetInterface). i.interface.cost) (cond b (Some (record k { interface = record k.interface { cost = x } })) (slice_get node.interfaces iface))) infinity in
                      (v ≡ cost_in (Some node) iface) ⊎ IsChange (router, Cost j x) (r, Cost iface v)
                  by_place true f = inr (ap₂ (λ (a b : ℕ). (a, Cost b x)) (eqb-true router r e) (eqb-true j iface f))
                  by_place false f = inl refl

-- after many changes
pub owned_now : (changes : List (ℕ × Change)) (net : Network) (r : ℕ) (p : Prefix6) (tag : ℕ) → Owns (fold reconfigured_network net changes) r p tag
    → OwnsSince (record { net = net; reconfigurations = changes }) r p tag
owned_now [] net r p tag owns = inl owns
owned_now (c ∷ changes) net r p tag owns =
    elim (owned_now changes (reconfigured_network net c) r p tag owns) [
      | inl first ↦ by (owner_before net c.0 c.1 r p tag first)
      | inr done ↦ inr (suc done.0, done.1)
    ]
  where
    by : Owns net r p tag ⊎ IsChange (c.0, c.1) (r, Own p tag) → OwnsSince (record { net = net; reconfigurations = c ∷ changes }) r p tag
    by (inl before) = inl before
    by (inr this) = inr (0, ap Some this)

pub cost_now : (changes : List (ℕ × Change)) (net : Network) (r iface : ℕ)
    → HasCostSince (record { net = net; reconfigurations = changes }) r iface (cost_of_interface (fold reconfigured_network net changes) r iface)
cost_now [] net r iface = inl refl
cost_now (c ∷ changes) net r iface =
    elim (cost_now changes (reconfigured_network net c) r iface) [
      | inl first ↦ by first (cost_before net c.0 c.1 r iface)
      | inr done ↦ inr (suc done.0, done.1)
    ]
  where
    by : cost_of_interface (fold reconfigured_network (reconfigured_network net c) changes) r iface ≡ cost_of_interface (reconfigured_network net c) r iface
        → (cost_of_interface (reconfigured_network net (c.0, c.1)) r iface ≡ cost_of_interface net r iface) ⊎ IsChange (c.0, c.1) (r, Cost iface (cost_of_interface (reconfigured_network net (c.0, c.1)) r iface))
        → HasCostSince (record { net = net; reconfigurations = c ∷ changes }) r iface (cost_of_interface (fold reconfigured_network (reconfigured_network net c) changes) r iface)
    by same (inl before) = inl (same ∙ before)
    by same (inr this) = inr (0, ap Some this ∙ ap (λ (n : ℕ). Some (r, Cost iface n)) (sym same))
