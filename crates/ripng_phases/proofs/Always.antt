-- After 28 phases every table has the least costs, whatever has happened since.
use Rattle.std.proofs.Common.{◌≡◌, inl, inr, ℕ, suc, ◌+◌, ◌-◌, ◌≤◌, List, [], ◌∷◌, length, refl, sym, subst, arith, le_trans}
use Rattle.prefix6.specs.Prefix.{Prefix6}
use Rattle.ripng_world.specs.Healing.{AreHealed}
use Rattle.ripng_world.specs.Network.{Network}
use Rattle.ripng_world.specs.World.{World}
use Rattle.ripng_world.proofs.HealMany.{AreToGateways}
use Rattle.ripng_phases.specs.Phases.{Step, Before, before_next}
use Rattle.ripng_phases.proofs.Bounding.{TablesAbove}
use Rattle.ripng_phases.proofs.Calm.{at_last}
use Rattle.ripng_phases.proofs.Finding.{found_at}
use Rattle.ripng_phases.proofs.Least.{above_to, healed}
use Rattle.ripng_phases.proofs.Lower.{IsPositive, low_at}
use Rattle.ripng_phases.proofs.Stages.{CalmBegun, IsHealing, IsAt, at_next}
use Rattle.ripng_phases.proofs.Updating.{IsCalmPart}
use Rattle.ripng_phases.proofs.Upper.{Found}

module _ (net : Network) (known : Prefix6 → Type 0) (positive : IsPositive net) where
  -- what is reached after some phases, and what has happened since
  record IsAfter (k : ℕ) (since : List Step) (end : World) : Type 1 where
    pub past : Before
    pub mid : World
    pub here : IsAt net known positive k past mid
    pub part : IsCalmPart net known past mid since end

  after : (phases : List (List Step)) (since : List Step) (k : ℕ) (past : Before) (w end : World) → IsAt net known positive k past w → CalmBegun net known past w phases since end → IsAfter (k + length phases) since end
  after [] since k past w end here is = record { past = past; mid = w; here = subst (λ n. IsAt net known positive n past w) (sym (none_more k)) here; part = is }
    where
      none_more : (n : ℕ) → n + 0 ≡ n
      none_more n = omega arith
  after (steps ∷ phases) since k past w end here is =
      subst (λ n. IsAfter n since end) (shift k (length phases)) (after phases since (suc k) (before_next w steps) is.0 end (at_next net known positive past w steps is.0 is.1 k here) is.2)
    where
      shift : (a b : ℕ) → suc a + b ≡ a + suc b
      shift a b = omega arith

  -- while that goes on, all stays found, and above what no walk backs
  begun_healed : (f : ℕ) (past : Before) (w : World) (since : List Step) (end : World) → 14 ≤ f → IsHealing net known positive f past w → IsCalmPart net known past w since end → AreToGateways end → AreHealed net end
  begun_healed f past w since end many now part to_gateways =
      healed net end (λ router p metric tag walk reach few low. found router p metric tag walk reach (le_trans few (fifteen f many)) low)
      (λ router p r at low. above_to net (f + 2 + 1) 16 router p r (sixteen f many) (tables router p r at low)) to_gateways
    where
      fifteen : (f : ℕ) → 14 ≤ f → 15 ≤ f + 1
      fifteen f e = omega arith

      sixteen : (f : ℕ) → 14 ≤ f → 16 ≤ f + 2 + 1
      sixteen f e = omega arith

      one_less : f ≤ f + 1
      one_less = omega arith

      as_many : f + 1 ≤ f + 1
      as_many = omega arith

      enough : f + 1 ≤ f + 2
      enough = omega arith

      found : Found net end (f + 1)
      found = at_last net known past w since end part (λ v. Found net v (f + 1))
          (λ b a parts. (found_at net known positive past w since end part now.kept.within now.kept.held (f + 2) now.said (f + 1) f one_less as_many enough now.found now.full b a parts).found)

      tables : TablesAbove net end (f + 2 + 1)
      tables = at_last net known past w since end part (λ v. TablesAbove net v (f + 2 + 1)) (λ b a parts. (low_at net known positive past w since end part (f + 2) now.kept.held now.said b a parts).tables)

  pub heals_always : (phases : List (List Step)) (since : List Step) (past : Before) (w end : World) → 28 ≤ length phases → CalmBegun net known past w phases since end → AreToGateways end → AreHealed net end
  heals_always phases since past w end many is to_gateways = let x = after phases since 0 past w end (inl refl) is in by x x.here
    where
      none : (n : ℕ) → 28 ≤ n → 0 + n ≡ 0 → ⊥
      none n e f = omega arith

      not_yet : (n : ℕ) → 28 ≤ n → 0 + n ≤ 13 → ⊥
      not_yet n e f = omega arith

      enough : (n : ℕ) → 28 ≤ n → 14 ≤ 0 + n - 14
      enough n e = omega arith

      by : (x : IsAfter (0 + length phases) since end) → IsAt net known positive (0 + length phases) x.past x.mid → AreHealed net end
      by x (inl k) = absurd (none (length phases) many k)
      by x (inr (inl k)) = absurd (not_yet (length phases) many k.1)
      by x (inr (inr k)) = begun_healed (0 + length phases - 14) x.past x.mid since end (enough (length phases) many) k.1 x.part to_gateways
