-- What a router does with packets, by the path from it.
use Rattle.std.proofs.Common.{◌≡◌, ◌<◌, ℕ, zero, suc, arith, List, [], ◌∷◌, ◌++◌, length, None, Some, slice_get, refl, subst, sym}
use Rattle.route_table.proofs.TableLaws.{Some-same, None-Some}
use Rattle.ripng_world.specs.Network.{Network}
use Rattle.ripng_world.specs.Packets.{Forwardings, HandsOn}
use Rattle.ripng_world.specs.Path.{AreHandedOn, EndsAt, IsPath, PathValue}
use Rattle.ripng_world.specs.Walks.{Hop}
use Rattle.ripng_world.specs.declared.path.PathEnd.{PathEnd}
use Rattle.ripng_world.specs.declared.path.PathEnd.TheVariants.{Delivered, NoRoute, NextHopIsNobodys, Loops}

cons_none : (h : Hop) (hops : List Hop) → h ∷ hops ≡ [] → ⊥
cons_none h hops e = cc

none_below : (n : ℕ) → n < 0 → ⊥
none_below n lt = omega arith

module _ (net : Network) (fibs : Forwardings) (addr router : ℕ) where
  pub first_hop : (hops : List Hop) (h : Hop) → AreHandedOn net fibs addr router hops → slice_get hops 0 ≡ Some h → HandsOn net fibs addr router h
  first_hop [] h handed is = absurd (None-Some h is)
  first_hop (k ∷ hops) h handed is = subst (HandsOn net fibs addr router) (Some-same k h is) handed.0

  pub ends_by : (hops : List Hop) (end : PathEnd) → IsPath net fibs addr router (record { hops = hops; end = end }) → hops ≡ [] → EndsAt net fibs addr router end
  ends_by [] Delivered is none = is.delivered.0 refl
  ends_by [] NoRoute is none = is.no_route.0 refl
  ends_by [] NextHopIsNobodys is none = is.nobodys.0 refl
  ends_by [] (Loops from) is none = let back = (is.loops from).0 refl in absurd (none_below back.1.0 back.1.1)
  ends_by (h ∷ hops) end is none = absurd (cons_none h hops none)

-- what holds of each element of a list, and of one more
pub each_more : {X : Type 0} (P : ℕ → X → Type 0) (xs : List X) (x : X) → ((i : ℕ) (y : X) → slice_get xs i ≡ Some y → P i y) → P (length xs) x
    → (i : ℕ) (y : X) → slice_get (xs ++ x ∷ []) i ≡ Some y → P i y
each_more P [] x all here zero y is = subst (P 0) (Some-same x y is) here
each_more P [] x all here (suc i) y is = absurd (None-Some y is)
each_more P (z ∷ xs) x all here zero y is = all zero y is
each_more P (z ∷ xs) x all here (suc i) y is = each_more (λ (k : ℕ). P (suc k)) xs x (λ k t h. all (suc k) t h) here i y is

-- where no element is first, there is none
pub none_first : {X : Type 0} (xs : List X) → slice_get xs 0 ≡ None → xs ≡ []
none_first [] is = refl
none_first (x ∷ xs) is = absurd (None-Some x (sym is))

-- the path of a router that hands on nothing ends there
pub ends_here : (net : Network) (fibs : Forwardings) (addr router : ℕ) (hops : List Hop) (end : PathEnd) (path : PathValue) → record { hops = hops; end = end } ≡ path
    → IsPath net fibs addr router path → slice_get hops 0 ≡ None → EndsAt net fibs addr router end
ends_here net fibs addr router hops end path same is none =
    ends_by net fibs addr router hops end (subst (IsPath net fibs addr router) (sym same) is) (none_first hops none)
