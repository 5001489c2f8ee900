-- The states of a cold start: each router has started, at its moment, and each has a state. And the routes that a router starts
-- with are found by their prefixes.
use Rattle.std.proofs.Common.{◌≡◌, ℕ, zero, suc, Bool, true, false, cond, List, [], ◌∷◌, Some, slice_get, refl, ap, sym, ◌∙◌}
use Rattle.std.specs.FinMap.{find}
use Rattle.std.specs.Ordering.{eq_by_cmp, is_eq}
use Rattle.std.specs.Cmp.{tied_itself}
use Rattle.prefix6.specs.Prefix.{Prefix6, prefix_cmp}
use Rattle.prefix6.proofs.PrefixLaws.{prefixes_total}
use Rattle.route_table.specs.Route.{RouteValue}
use Rattle.route_table.proofs.TableLaws.{Some-same, None-Some}
use Rattle.router_core.specs.Machine.{State, started}
use Rattle.ripng_world.specs.declared.event.Sent.{Sent}
use Rattle.ripng_world.specs.Network.{Node, config_of}
use Rattle.ripng_world.specs.World.{StartsFrom}
use Rattle.ripng_world.proofs.Members.{At}

pub cold_states : (n : ℕ) (nodes : List Node) (moments : List ℕ) (states : List State) (sent : List Sent) → StartsFrom n nodes moments states sent
    → ((i : ℕ) (s : State) → slice_get states i ≡ Some s → (node : Node) × (now : ℕ) × (slice_get nodes i ≡ Some node) × (s ≡ started (config_of node) now))
    × ((i : ℕ) (node : Node) → slice_get nodes i ≡ Some node → (s : State) × (slice_get states i ≡ Some s))
cold_states n [] [] [] sent starts = (λ i s is. absurd (None-Some s is), λ i node is. absurd (None-Some node is))
cold_states n (node ∷ nodes) (now ∷ moments) (s ∷ states) sent starts =
    let rest = cold_states (suc n) nodes moments states starts.1 starts.3 in
    (λ i t is. first i t is rest.0, λ i other is. second i other is rest.1)
  where
    first : (i : ℕ) (t : State) → slice_get (s ∷ states) i ≡ Some t → ((j : ℕ) (u : State) → slice_get states j ≡ Some u → (o : Node) × (m : ℕ) × (slice_get nodes j ≡ Some o) × (u ≡ started (config_of o) m))
        → (o : Node) × (m : ℕ) × (slice_get (node ∷ nodes) i ≡ Some o) × (t ≡ started (config_of o) m)
    first zero t is later = (node, now, refl, sym (Some-same s t is) ∙ starts.2.state)
    first (suc i) t is later = later i t is

    second : (i : ℕ) (other : Node) → slice_get (node ∷ nodes) i ≡ Some other → ((j : ℕ) (o : Node) → slice_get nodes j ≡ Some o → (u : State) × (slice_get states j ≡ Some u)) → (u : State) × (slice_get (s ∷ states) i ≡ Some u)
    second zero other is later = (s, refl)
    second (suc i) other is later = later i other is
cold_states n _ _ _ sent starts = absurd starts

-- a prefix of a list of routes is found in it
pub found_at : (es : List (Prefix6 × RouteValue)) (p : Prefix6) (r : RouteValue) → At es (p, r) → (q : RouteValue) × (find prefix_cmp p es ≡ Some q)
found_at [] p r a = absurd (None-Some (p, r) a.1)
found_at (e ∷ es) p r a = by_tie (eq_by_cmp prefix_cmp p e.0) refl a.0 a.1 (λ i is. found_at es p r (i, is))
  where
    by_tie : (b : Bool) → eq_by_cmp prefix_cmp p e.0 ≡ b → (i : ℕ) → slice_get (e ∷ es) i ≡ Some (p, r) → ((j : ℕ) → slice_get es j ≡ Some (p, r) → (q : RouteValue) × (find prefix_cmp p es ≡ Some q))
        → (q : RouteValue) × (find prefix_cmp p (e ∷ es) ≡ Some q)
    by_tie true tie i is later = (e.1, ap (λ b. cond b (Some e.1) (find prefix_cmp p es)) tie)
    by_tie false tie zero is later =
        absurd (clash (sym tie ∙ ap (λ (x : Prefix6 × RouteValue). eq_by_cmp prefix_cmp p x.0) (Some-same e (p, r) is) ∙ ap is_eq (tied_itself prefixes_total p)))
      where
        clash : false ≡ true → ⊥
        clash e = cc
    by_tie false tie (suc i) is later = let l = later i is in (l.0, ap (λ b. cond b (Some e.1) (find prefix_cmp p es)) tie ∙ l.1)
