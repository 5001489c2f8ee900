-- A way as far as it has been walked: it ends, comes back or goes on.
use Rattle.std.proofs.Common.{◌≡◌, ℕ, ◌+◌, ◌-◌, ◌<◌, ◌≤◌, ◌↔◌, nat_eq, true, false, List, [], ◌∷◌, ◌++◌, length, Contains, Result, Ok, Err, IsErrAnd, refl, ap, ap₂, sym, subst, ◌∙◌, arith}
use Rattle.std.specs.List.{IsDistinct, list_any}
use Rattle.std.specs.Result.{result_err}
use Rattle.std.proofs.lemmas.Bool.{eqb-true}
use Rattle.std.proofs.lemmas.Cmp.{nat_eq_equiv}
use Rattle.std.proofs.lemmas.List.{length_push}
use Rattle.std.proofs.lemmas.Map.Keys.{IsDistinct-push}
use Rattle.std.proofs.lemmas.Map.Views.{Contains-from_any}
use Rattle.route_table.proofs.TableLaws.{Some-same}
use Rattle.ripng_world.specs.Network.{Network}
use Rattle.ripng_world.specs.Packets.{Forwardings, HandsOn}
use Rattle.ripng_world.specs.Path.{AreHandedOn, EndsAt, IsPath, PathValue, handing_on}
use Rattle.ripng_world.specs.Walks.{Hop, end_of}
use Rattle.ripng_world.specs.declared.event.LabError.{LabError}
use Rattle.ripng_world.specs.declared.event.LabError.TheVariants.{NoSuchRouter, OutOfMemory}
use Rattle.ripng_world.specs.declared.path.PathEnd.{PathEnd}
use Rattle.ripng_world.specs.declared.path.PathEnd.TheVariants.{Delivered, NoRoute, NextHopIsNobodys, Loops}
use Rattle.ripng_world.proofs.PathEnds.{IsEnd, end_more, few_hops, handed_more, handing_append, as_many, is_path}

pub record IsWalked (net : Network) (fibs : Forwardings) (addr router : ℕ) (hops : List Hop) (passed : List ℕ) (at : ℕ) : Type 0 where
  pub handed : AreHandedOn net fibs addr router hops
  pub passed_are : passed ≡ handing_on router hops
  pub once : IsDistinct nat_eq passed
  pub here : at ≡ end_of router hops

at_first : (net : Network) (fibs : Forwardings) (addr router : ℕ) → IsWalked net fibs addr router [] [] router
unfolding IsDistinct
at_first net fibs addr router = record { handed = tt; passed_are = refl; once = tt; here = refl }

pub started : (net : Network) (fibs : Forwardings) (addr router : ℕ) (hops : List Hop) (passed : List ℕ) → hops ≡ [] → passed ≡ [] → IsWalked net fibs addr router hops passed router
started net fibs addr router hops passed no_hops none =
    subst (λ (hs : List Hop). IsWalked net fibs addr router hs passed router) (sym no_hops)
    (subst (λ (rs : List ℕ). IsWalked net fibs addr router [] rs router) (sym none) (at_first net fibs addr router))

module _ (net : Network) (fibs : Forwardings) (addr router : ℕ) (hops : List Hop) (passed : List ℕ) (at : ℕ) (w : IsWalked net fibs addr router hops passed at) where
  handing_once : IsDistinct nat_eq (handing_on router hops)
  handing_once = subst (IsDistinct nat_eq) w.passed_are w.once

  is_end : (end : PathEnd) → EndsAt net fibs addr (end_of router hops) end → IsEnd net fibs addr router hops end
  is_end Delivered is = is
  is_end NoRoute is = is
  is_end NextHopIsNobodys is = is
  is_end (Loops from) is = absurd is

  pub ends : (end : PathEnd) → EndsAt net fibs addr at end → IsPath net fibs addr router (record { hops = hops; end = end })
  ends end is = is_path net fibs addr router hops w.handed handing_once end (is_end end (subst (λ (r : ℕ). EndsAt net fibs addr r end) w.here is))

  pub goes_round : list_any (nat_eq at) passed ≡ true → IsPath net fibs addr router (record { hops = hops; end = Loops at })
  goes_round is =
      is_path net fibs addr router hops w.handed handing_once (Loops at)
      (sym w.here, subst (λ (rs : List ℕ). Contains rs at) w.passed_are (Contains-from_any eqb-true at passed is))

  pub goes_on : (h : Hop) → list_any (nat_eq at) passed ≡ false → HandsOn net fibs addr at h → IsWalked net fibs addr router (hops ++ h ∷ []) (passed ++ at ∷ []) h.router
  goes_on h none hands =
      record {
        handed = handed_more net fibs addr router hops h w.handed (subst (λ (r : ℕ). HandsOn net fibs addr r h) w.here hands);
        passed_are = ap₂ (λ (rs : List ℕ) (r : ℕ). rs ++ r ∷ []) w.passed_are w.here ∙ sym (handing_append router hops h []);
        once = IsDistinct-push nat_eq_equiv passed at w.once none;
        here = sym (end_more router hops h);
      }

  few : length passed ≤ length net
  few = subst (λ (n : ℕ). n ≤ length net) (sym (ap length w.passed_are ∙ as_many router hops)) (few_hops net fibs addr router hops w.handed handing_once)

module _ (net : Network) (fibs : Forwardings) (addr router : ℕ) (hops : List Hop) (passed : List ℕ) (at : ℕ) (w : IsWalked net fibs addr router hops passed at) where
  -- fewer routers are left
  pub fewer_left : (h : Hop) → list_any (nat_eq at) passed ≡ false → HandsOn net fibs addr at h → length net + 1 - length (passed ++ at ∷ []) < length net + 1 - length passed
  fewer_left h none hands =
      less (length net) (length passed) (length (passed ++ at ∷ [])) (length_push passed at)
      (few net fibs addr router (hops ++ h ∷ []) (passed ++ at ∷ []) h.router (goes_on net fibs addr router hops passed at w h none hands))
    where
      less : (n p q : ℕ) → q ≡ p + 1 → q ≤ n → n + 1 - q < n + 1 - p
      less n p q e h = omega arith

-- the same of lists that were made so
pub went_on : (net : Network) (fibs : Forwardings) (addr router : ℕ) (hops : List Hop) (passed : List ℕ) (at : ℕ) → IsWalked net fibs addr router hops passed at
    → (h : Hop) → list_any (nat_eq at) passed ≡ false → HandsOn net fibs addr at h → (hops' : List Hop) (passed' : List ℕ) (at' : ℕ)
    → hops' ≡ hops ++ h ∷ [] → passed' ≡ passed ++ at ∷ [] → at' ≡ h.router → IsWalked net fibs addr router hops' passed' at'
went_on net fibs addr router hops passed at w h none hands hops' passed' at' e f g =
    subst (λ (hs : List Hop). IsWalked net fibs addr router hs passed' at') (sym e)
    (subst (λ (rs : List ℕ). IsWalked net fibs addr router (hops ++ h ∷ []) rs at') (sym f)
    (subst (λ (r : ℕ). IsWalked net fibs addr router (hops ++ h ∷ []) (passed ++ at ∷ []) r) (sym g) (goes_on net fibs addr router hops passed at w h none hands)))

-- ---- answers

-- out of memory is not that the router is missing
pub memory_only : (r : Result PathValue LabError) (router n : ℕ) → IsErrAnd r (λ why. why ≡ OutOfMemory) → router < n → (r ≡ Err NoSuchRouter) ↔ (n ≤ router)
memory_only (Ok path) router n is low = absurd is
memory_only (Err why) router n is low = (λ same. absurd (apart (sym is ∙ Some-same why NoSuchRouter (ap result_err same))), λ past. absurd (never past))
  where
    apart : OutOfMemory ≡ NoSuchRouter → ⊥
    apart e = cc

    never : n ≤ router → ⊥
    never past = omega arith
